-- Sell open, buy open, buy close and sell close keep the law.
use Rattle.std.proofs.Common.{◌≡◌, ℕ, ◌+◌, ◌-◌, ◌*◌, ◌^◌, ◌≤◌, Bool, false, ltb, List, length, Some, None, Ok, sym, refl, ap, ◌∙◌, arith}
use Rattle.register.specs.Numbers.{next_of}
use Rattle.std.proofs.lemmas.List.{length-set}
use Rattle.std.proofs.lemmas.Bool.{ltb-false}
use Rattle.margin.specs.ByCode.{by_code}
use Rattle.margin.specs.declared.contract.Contract.{Contract}
use Rattle.ledger.specs.declared.call.Call.TheVariants as call
use Rattle.ledger.specs.declared.order.Order.{Order}
use Rattle.ledger.specs.declared.order.OrderKind.{OrderKind}
use Rattle.ledger.specs.declared.order.OrderKind.TheVariants.{SellOpen, BuyOpen, BuyClose, SellClose}
use Rattle.ledger.specs.declared.tables.Tables.{Tables}
use Rattle.ledger.specs.declared.tables.Position.{Position}
use Rattle.margin.specs.Meaning.{Meaning}
use Rattle.ledger.specs.ByCode.{leg_margin_of, unit_of}
use Rattle.ledger.specs.Ledger.{Ledger, under, order_entered}
use Rattle.ledger.specs.Content.{contract_of}
use Rattle.ledger.specs.Law.{Lots, contracts_of, position_of, position_row, combination_under, reserve, engages, engaged, closes_written, closes_bought, claimed_written, claimed_bought}
use Rattle.ledger.specs.Tests.{Answer, first_met}
use Rattle.ledger.specs.OrderRules.{OrderTaken, order_tests, too_many, working_sum, opens_written, opens_bought}
use Rattle.ledger.specs.Moves.{free_written, free_bought, at, locking_written, locking_bought}
use Rattle.ledger.specs.Runs.{Law, LegStands}
use Rattle.ledger.proofs.Tests.{Stays, unmet, within, some_of}
use Rattle.ledger.proofs.Entries.{weighed_cons}
use Rattle.ledger.proofs.Codes.{at_one, one_here}
use Rattle.ledger.proofs.Shares.{elsewhere}
use Rattle.ledger.proofs.Moved.{AllLots, all_alike, lots_moved}
use Rattle.ledger.proofs.Entering.{with_rows, entered_keeps}

-- what an accepted order has passed, and what its account holds
pub record Passed (l : Ledger) (b : Tables) (a code k price amount : ℕ) (test : Bool) : Type 0 where
  pub account : (1 ≤ a) × (a ≤ 8)
  pub contract : Contract
  pub is_listed : by_code (contracts_of b) code ≡ Some contract
  pub lots : (1 ≤ k) × (k ≤ 1000)
  pub limit : (1 ≤ price) × (price ≤ 10 ^ 7)
  pub own : test ≡ false
  pub enough : amount ≤ b.funds.balance
  pub number : next_of b.order_series ≤ 2 ^ 32 - 1
  pub lot : Lots l a code (position_of b a code)

module _ {m : Meaning} {l : Ledger} {b : Tables} (law : Law m l b) (a lots limit : ℕ) (kind : OrderKind) where
  abbrev code : ℕ
  code = contract_of kind

  abbrev o : Order
  o = record { account = a; kind = kind; lots = lots; limit = limit }

  abbrev l' : Ledger
  l' = order_entered o l

  abbrev p : Position
  p = position_of b a code

  claims_written : (x y : ℕ) → claimed_written l' x y ≡ claimed_written l x y + closes_written x y o kind
  claims_written x y = omega (arith, weighed_cons (λ (z : Order). closes_written x y z z.kind) l.next_order o l.orders)

  claims_bought : (x y : ℕ) → claimed_bought l' x y ≡ claimed_bought l x y + closes_bought x y o kind
  claims_bought x y = omega (arith, weighed_cons (λ (z : Order). closes_bought x y z z.kind) l.next_order o l.orders)

  -- the positions then
  abbrev Placed : List Position → Type 0
  Placed ps = (length ps ≡ 512) × AllLots l' (with_rows ps b.combinations b)

  -- an order that locks no lots
  unlocked : ((x y : ℕ) → (closes_written x y o kind ≡ 0) × (closes_bought x y o kind ≡ 0)) → Placed b.positions
  unlocked closes = (
    law.sound.position_rows,
    all_alike l l' b law.beside.lots
        (λ x y. record { bought = refl; written = refl; claimed_bought = omega (arith, claims_bought x y, (closes x y).1); claimed_written = omega (arith, claims_written x y, (closes x y).0) }),
  )

  module _ (amount : ℕ) (test : Bool) where
    abbrev Pass : Type 0
    Pass = Passed l b a code lots limit amount test

    passed : (number : ℕ) → first_met (order_tests b a code lots limit (number, test) amount) ≡ None → Pass
    passed number none =
        let u = unmet (order_tests b a code lots limit (number, test) amount) none in
        let c = some_of (by_code (contracts_of b) code) u.1.0 in
        let s : amount ≤ b.funds.balance = ltb-false b.funds.balance amount u.1.1.1.1.1.0 in
        let account = within 1 8 a u.0 in
        record {
          account = account;
          contract = c.0;
          is_listed = c.1;
          lots = within 1 1000 lots u.1.1.0;
          limit = within 1 (10 ^ 7) limit u.1.1.1.0;
          own = u.1.1.1.1.0;
          enough = s;
          number = ltb-false (2 ^ 32 - 1) (next_of b.order_series) u.1.1.1.1.1.1.1.0;
          lot = law.beside.lots a code c.0 account.0 account.1 c.1;
        }

    -- with the lots that it opens, no side passes the limit; it names no combination
    enters : (ps : List Position) (r : Answer) (after : Tables) → Pass → OrderTaken o amount (with_rows ps b.combinations b) r after → LegStands l.combinations a kind → ((k : ℕ) → engages k o kind ≡ 0) →
        amount ≡ lots * reserve m (contracts_of b) l.combinations kind limit → Placed ps →
        l.written a code + (working_sum b.orders (λ x. opens_written a code x x.kind) + opens_written a code o kind) ≤ 10000 →
        l.bought a code + (working_sum b.orders (λ x. opens_bought a code x x.kind) + opens_bought a code o kind) ≤ 10000 → Law m l' after
    enters ps r after pass taken leg unengaged amount_is placed written_most bought_most =
        let same : (k : ℕ) → engaged l' k ≡ engaged l k = λ k. omega (arith, weighed_cons (λ (z : Order). engages k z z.kind) l.next_order o l.orders, unengaged k) in
        entered_keeps m l b o amount ps b.combinations r after law
        (record {
          sound = record { account = pass.account; contract = (pass.contract, pass.is_listed); lots = pass.lots; limit = pass.limit; leg = leg };
          amount_is = amount_is;
          enough = pass.enough;
          number = pass.number;
          rows = placed.0;
          lots = placed.1;
          combinations = λ k. law.beside.combinations k ∙ ap (λ z. combination_under z (under l.combinations k)) (sym (same k));
          apart = law.sound.combination_rows;
          engaged_most = λ k q s. omega (arith, same k, law.sound.engaged_most k q s);
          written_most = at_one (λ x y. l.written x y + (working_sum b.orders (λ z. opens_written x y z z.kind) + opens_written x y o kind) ≤ 10000) a code written_most
              (λ x y far. omega (arith, law.sound.written_most x y, (elsewhere x y o kind far).2));
          bought_most = at_one (λ x y. l.bought x y + (working_sum b.orders (λ z. opens_bought x y z z.kind) + opens_bought x y o kind) ≤ 10000) a code bought_most
              (λ x y far. omega (arith, law.sound.bought_most x y, (elsewhere x y o kind far).3));
        })
        taken

    -- an order that locks its lots
    locked : (move : Position → Position) → Pass → (move p).bought ≡ p.bought → (move p).written ≡ p.written →
        (move p).locked_bought ≡ p.locked_bought + closes_bought a code o kind → (move p).locked_written ≡ p.locked_written + closes_written a code o kind →
        closes_bought a code o kind ≤ free_bought p → closes_written a code o kind ≤ free_written p → Placed (at a code move b).positions
    locked move pass bought written locked_bought locked_written free_b free_w = (
      length-set b.positions (position_row b a code) (move p) ∙ law.sound.position_rows,
      lots_moved l l' b a code pass.contract move law.sound.count law.sound.position_rows pass.account.0 pass.account.1 pass.is_listed law.beside.lots
          (record {
            bought = bought ∙ pass.lot.bought;
            written = written ∙ pass.lot.written;
            locked_bought = omega (arith, locked_bought, pass.lot.locked_bought, claims_bought a code);
            locked_written = omega (arith, locked_written, pass.lot.locked_written, claims_written a code);
            bought_free = omega (arith, free_b, pass.lot.bought, pass.lot.locked_bought, pass.lot.bought_free, claims_bought a code);
            written_free = omega (arith, free_w, pass.lot.written, pass.lot.locked_written, pass.lot.written_free, claims_written a code);
          })
          (λ x y far. let none = elsewhere x y o kind far in
          record { bought = refl; written = refl; claimed_bought = omega (arith, claims_bought x y, none.1); claimed_written = omega (arith, claims_written x y, none.0) }),
    )

module _ (m : Meaning) (b : Tables) (a code lots limit : ℕ) where
  abbrev cost : ℕ
  cost = lots * (limit * unit_of (by_code (contracts_of b) code))

  pub sell_open_stays : Stays m b (call.SellOpen a code lots limit)
  sell_open_stays x after h l law =
      let amount : ℕ = lots * leg_margin_of m (by_code (contracts_of b) code) in
      let working : ℕ = working_sum b.orders (λ z. opens_written a code z z.kind) in
      let pass = passed law a lots limit (SellOpen code) amount (too_many (position_of b a code).written working lots).1 19 h.0 in (
        tt,
        enters law a lots limit (SellOpen code) amount _ b.positions (Ok x) after pass h.1 tt (λ k. refl) refl (unlocked law a lots limit (SellOpen code) (λ i j. (refl, refl)))
            (omega (arith, ltb-false 10000 ((position_of b a code).written + working + lots) pass.own, pass.lot.written, one_here a code lots 0)) (omega (arith, law.sound.bought_most a code)),
      )

  pub buy_open_stays : Stays m b (call.BuyOpen a code lots limit)
  buy_open_stays x after h l law =
      let working : ℕ = working_sum b.orders (λ z. opens_bought a code z z.kind) in
      let pass = passed law a lots limit (BuyOpen code) cost (too_many (position_of b a code).bought working lots).1 19 h.0 in (
        tt,
        enters law a lots limit (BuyOpen code) cost _ b.positions (Ok x) after pass h.1 tt (λ k. refl) refl (unlocked law a lots limit (BuyOpen code) (λ i j. (refl, refl)))
            (omega (arith, law.sound.written_most a code)) (omega (arith, ltb-false 10000 ((position_of b a code).bought + working + lots) pass.own, pass.lot.bought, one_here a code lots 0)),
      )

  pub buy_close_stays : Stays m b (call.BuyClose a code lots limit)
  buy_close_stays x after h l law =
      let pass = passed law a lots limit (BuyClose code) cost (ltb (free_written (position_of b a code)) lots) 18 h.0 in (
        tt,
        enters law a lots limit (BuyClose code) cost _ (at a code (locking_written lots) b).positions (Ok x) after pass h.1 tt (λ k. refl) refl
            (locked law a lots limit (BuyClose code) cost _ (locking_written lots) pass refl refl (omega arith) (omega (arith, one_here a code lots 0)) (omega arith) (omega (arith, ltb-false _ _ pass.own, one_here a code lots 0)))
            (omega (arith, law.sound.written_most a code)) (omega (arith, law.sound.bought_most a code)),
      )

  pub sell_close_stays : Stays m b (call.SellClose a code lots limit)
  sell_close_stays x after h l law =
      let pass = passed law a lots limit (SellClose code) 0 (ltb (free_bought (position_of b a code)) lots) 18 h.0 in (
        tt,
        enters law a lots limit (SellClose code) 0 _ (at a code (locking_bought lots) b).positions (Ok x) after pass h.1 tt (λ k. refl) (omega arith)
            (locked law a lots limit (SellClose code) 0 _ (locking_bought lots) pass refl refl (omega (arith, one_here a code lots 0)) (omega arith) (omega (arith, ltb-false _ _ pass.own, one_here a code lots 0)) (omega arith))
            (omega (arith, law.sound.written_most a code)) (omega (arith, law.sound.bought_most a code)),
      )
