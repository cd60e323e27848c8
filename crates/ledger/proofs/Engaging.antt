-- A leg close keeps the law.
use Rattle.std.proofs.Common.{◌≡◌, ℕ, ◌+◌, ◌-◌, ◌*◌, ◌^◌, ◌≤◌, true, cond, eqb, Some, Ok, Option, sym, refl, ap, subst, arith}
use Rattle.register.specs.Numbers.{next_of}
use Rattle.std.proofs.lemmas.Bool.Decides.{nat_tests}
use Rattle.std.proofs.lemmas.Bool.{ltb-false, or_parts, not-false}
use Rattle.margin.specs.ByCode.{by_code}
use Rattle.margin.specs.declared.contract.Contract.{Contract}
use Rattle.register.specs.Rows.{lookup, changed}
use Rattle.register.proofs.After.{apart_changed}
use Rattle.ledger.specs.declared.call.Call.TheVariants as call
use Rattle.ledger.specs.declared.order.Order.{Order}
use Rattle.ledger.specs.declared.order.Combination.{Combination}
use Rattle.ledger.specs.declared.order.OrderKind.TheVariants.{LegClose}
use Rattle.ledger.specs.declared.tables.Tables.{Tables}
use Rattle.margin.specs.Meaning.{Meaning}
use Rattle.ledger.specs.Ledger.{Ledger, under, order_entered, account_of}
use Rattle.ledger.specs.Content.{Pairing}
use Rattle.ledger.specs.Law.{contracts_of, engaged, engages, when}
use Rattle.ledger.specs.Amounts.{leg_close_reserve}
use Rattle.ledger.specs.Tests.{Answer}
use Rattle.ledger.specs.OrderRules.{OrderTaken}
use Rattle.ledger.specs.CombinationRules.{written_leg, leg_close_tests}
use Rattle.ledger.specs.Moves.{combinations_to}
use Rattle.ledger.specs.Runs.{Law}
use Rattle.ledger.proofs.Tests.{Stays, standing_at, unmet, within, some_of, stands_as, unmet_at}
use Rattle.ledger.proofs.Entries.{weighed_cons}
use Rattle.ledger.proofs.Moved.{all_alike}
use Rattle.ledger.proofs.Entering.{entered_keeps}
use Rattle.ledger.proofs.Pairings.{combination_with, engaged_row, combination_at}

module _ (m : Meaning) (b : Tables) (n code lots limit : ℕ) where
  -- the call, where its combination is known
  engaged_keeps : (l : Ledger) (p : Pairing) (c : Contract) (r : Answer) (after : Tables) → Law m l b → under l.combinations n ≡ Some p → by_code (contracts_of b) code ≡ Some c →
      (1 ≤ lots) × (lots ≤ 1000) → (1 ≤ limit) × (limit ≤ 10 ^ 7) → written_leg p code ≡ true → lots ≤ p.lots - engaged l n →
      lots * leg_close_reserve m (contracts_of b) code limit (Some p) ≤ b.funds.balance → next_of b.order_series ≤ 2 ^ 32 - 1 →
      OrderTaken (record { account = p.account; kind = LegClose n code; lots = lots; limit = limit }) (lots * leg_close_reserve m (contracts_of b) code limit (Some p))
      (combinations_to (changed b.combinations n (combination_with (engaged l n + lots) p)) b.combination_series b) r after →
      Law m (order_entered (record { account = p.account; kind = LegClose n code; lots = lots; limit = limit }) l) after
  engaged_keeps l p c r after law stands is some_lots priced leg free enough number taken =
      let o : Order = record { account = p.account; kind = LegClose n code; lots = lots; limit = limit } in
      let l' : Ledger = order_entered o l in
      let more : (k : ℕ) → engaged l' k ≡ when (eqb n k) lots + engaged l k = λ k. weighed_cons (λ (z : Order). engages k z z.kind) l.next_order o l.orders in
      let now : (k : ℕ) → engaged l' k ≡ cond (eqb n k) (engaged l n + lots) (engaged l k) = λ k. let sum = more k in grind (arith, nat_tests) in
      entered_keeps m l b o (lots * leg_close_reserve m (contracts_of b) code limit (Some p)) b.positions (changed b.combinations n (combination_with (engaged l n + lots) p)) r after law
      (record {
        sound = record { account = (law.sound.combinations n p stands).account; contract = (c, is); lots = some_lots; limit = priced; leg = record { combination = p; stands = stands; account = refl; leg = leg } };
        amount_is = ap (λ z. lots * leg_close_reserve m (contracts_of b) code limit z) (sym stands);
        enough = enough;
        number = number;
        rows = law.sound.position_rows;
        lots = all_alike l l' b law.beside.lots (λ x y. record { bought = refl; written = refl; claimed_bought = refl; claimed_written = refl });
        combinations = λ k. engaged_row law n p (engaged l n + lots) (engaged l' k) k stands (now k);
        apart = apart_changed b.combinations n (combination_with (engaged l n + lots) p) law.sound.combination_rows;
        engaged_most = λ k q s. let most = law.sound.engaged_most k q s in let now_is = now k in let low : 1 ≤ lots = some_lots.0 in grind (arith, nat_tests);
        written_most = λ x y. omega (arith, law.sound.written_most x y);
        bought_most = λ x y. omega (arith, law.sound.bought_most x y);
      })
      taken

  pub leg_close_stays : Stays m b (call.LegClose n code lots limit)
  leg_close_stays x after h l law =
      let k : Option Combination = lookup b.combinations n in
      let u = unmet (leg_close_tests m b k code lots limit) h.0 in
      let c = some_of (by_code (contracts_of b) code) u.0 in
      let q = combination_at law n u.1.1.1.0 in
      let p : Pairing = q.0 in
      let legged = unmet_at _ q.2 u.1.1.1.1.0 in
      let free = unmet_at _ q.2 u.1.1.1.1.1.0 in
      let few : lots ≤ p.lots - engaged l n = ltb-false _ _ free in
      let enough = unmet_at _ q.2 u.1.1.1.1.1.1.0 in (
        standing_at (λ (z : Pairing). lots ≤ z.lots) q.1 (omega arith),
        subst (λ z. Law m (order_entered (record { account = account_of z; kind = LegClose n code; lots = lots; limit = limit }) l) after) (sym q.1)
            (engaged_keeps l p c.0 (Ok x) after law q.1 c.1 (within 1 1000 lots u.1.0) (within 1 (10 ^ 7) limit u.1.1.0)
            (not-false _ (or_parts _ _ legged).1) few (ltb-false _ _ enough) (ltb-false (2 ^ 32 - 1) (next_of b.order_series) u.1.1.1.1.1.1.1.1.0) (stands_as _ q.2 h.1)),
      )
