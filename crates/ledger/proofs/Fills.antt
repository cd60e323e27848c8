-- Fill and cancel keep the law.
use Rattle.std.proofs.Common.{◌≡◌, ℕ, ◌+◌, ◌-◌, ◌*◌, ◌^◌, ◌≤◌, false, cond, ◌&&◌, eqb, ltb, List, [], ◌∷◌, Some, None, Option, sym, refl, ap, ◌∙◌, subst, arith}
use Rattle.std.proofs.lemmas.Bool.Decides.{nat_tests}
use Rattle.std.proofs.lemmas.Bool.{le-leb, ltb-false}
use Rattle.register.specs.declared.row.Row.{Row}
use Rattle.register.specs.Rows.{lookup, changed, removed}
use Rattle.register.proofs.After.{apart_changed}
use Rattle.ledger.specs.declared.call.Call.TheVariants as call
use Rattle.ledger.specs.declared.order.Order.{Order}
use Rattle.ledger.specs.declared.order.OrderKind.{OrderKind}
use Rattle.ledger.specs.declared.order.OrderKind.TheVariants.{SellOpen, BuyOpen, BuyClose, SellClose, LegClose}
use Rattle.ledger.specs.declared.tables.Tables.{Tables}
use Rattle.margin.specs.ByCode.{by_code}
use Rattle.margin.specs.Meaning.{Meaning}
use Rattle.ledger.specs.ByCode.{unit_of}
use Rattle.ledger.specs.Ledger.{Ledger, under, put, order_less, more, fewer, filled, combination_less, traded as entered_trade, orders_to as ledger_orders_to, cash_out, written_to}
use Rattle.ledger.specs.Content.{Pairing, sells, contract_of}
use Rattle.ledger.specs.Law.{contracts_of, reserve, engaged, engages, combination_under, closes_written, closes_bought, when}
use Rattle.ledger.specs.Amounts.{leg_close_reserve}
use Rattle.ledger.specs.Tests.{is_none}
use Rattle.ledger.specs.FillRules.{traded, leg_traded, freed, disengaged, reserve_per_lot, leg_reserve, fill_funds, filled_funds, flow, leg_flow, fill_tests}
use Rattle.ledger.specs.Moves.{order_rest, orders_to, funds_to, combinations_to, combination_rest, at, writing, buying, closing_bought, closing_written, unlocking_bought, unlocking_written}
use Rattle.ledger.specs.Runs.{Law, LegOf, Fillable}
use Rattle.ledger.proofs.Tests.{Stays, standing_at, unmet, stands_as, unmet_at}
use Rattle.ledger.proofs.Shares.{of_lots}
use Rattle.ledger.proofs.Codes.{one_here}
use Rattle.ledger.proofs.Covered.{flow_covered}
use Rattle.ledger.proofs.Leaving.{left, left_tables, Part, engaged_left}
use Rattle.ledger.proofs.Plain.{returned, stays, freed as unlocked, opened, closed, moving_keeps, still_keeps}
use Rattle.ledger.proofs.Pairings.{combination_with, engaged_row, row_of, order_at}
use Rattle.ledger.proofs.Others.{OtherLeg, other_of}
use Rattle.ledger.proofs.Fillable.{fillable}
use Rattle.ledger.proofs.LegFill.{leg_close_filled}

module _ {m : Meaning} {l : Ledger} {b : Tables} (law : Law m l b) (n : ℕ) where
  abbrev made : ℕ → OrderKind → ℕ → ℕ → Order
  made a kind lots limit = record { account = a; kind = kind; lots = lots; limit = limit }

  -- Fills -----------------------------------------------------------------------------------------

  module _ (lots price : ℕ) where
    -- the ledger and the tables after the fill of an order
    abbrev ledger_then : Order → Ledger
    ledger_then o = entered_trade (contracts_of b) o.kind o.account lots price (ledger_orders_to (put n (order_less lots o) l.orders) l)

    abbrev rest : Order → Tables
    rest o = orders_to (order_rest n lots o b.orders) b.order_series b

    abbrev tables_then : Order → Tables
    tables_then o = traded m b o o.kind lots price (rest o)

    leg_filled : (p : Pairing) (k c whole limit : ℕ) → under l.combinations k ≡ Some p → OtherLeg m b p c lots → Part l n lots (made p.account (LegClose k c) whole limit) → price ≤ limit →
        Law m (ledger_then (made p.account (LegClose k c) whole limit)) (tables_then (made p.account (LegClose k c) whole limit))
    leg_filled p k c whole limit stands leg part cheap =
        let o : Order = made p.account (LegClose k c) whole limit in
        let premium : ℕ = lots * price * unit_of (by_code (contracts_of b) c) in
        let before : Ledger = ledger_orders_to (put n (order_less lots o) l.orders) l in
        let known : Ledger = cash_out premium (written_to (fewer p.account c lots l.written) (combination_less k lots (Some p) before)) in
        let filled_up : Tables → Tables = λ to. funds_to (filled_funds (leg_flow m b c limit lots price (Some (combination_with (engaged l k) p))) b.funds)
        (combinations_to (combination_rest k lots lots (combination_with (engaged l k) p) b.combinations) b.combination_series to) in
        let law' : Law m known (filled_up (at p.account leg.other leg.move (at p.account c (closing_written lots) (rest o))))
        = leg_close_filled law n k c lots price whole limit p stands part leg cheap in
        let law₂ : Law m known (leg_traded m b o k c lots price (rest o) (Some (combination_with (engaged l k) p)))
        = subst (λ z. Law m known (filled_up z)) (sym (leg.unlocked (engaged l k) (at p.account c (closing_written lots) (rest o)))) law' in
        let law₃ : Law m known (tables_then o) = subst (λ z. Law m known (leg_traded m b o k c lots price (rest o) z)) (sym (row_of law k p stands)) law₂ in
        subst (λ z. Law m (cash_out premium (written_to (fewer p.account c lots l.written) (combination_less k lots z before))) (tables_then o)) (sym stands) law₃

    filled_as : (kind : OrderKind) (a whole limit : ℕ) → Part l n lots (made a kind whole limit) → cond (sells kind) (ltb price limit) (ltb limit price) ≡ false →
        (sells kind && ltb (10 ^ 17) (b.funds.cash + lots * price * unit_of (by_code (contracts_of b) (contract_of kind)))) ≡ false →
        Law m (ledger_then (made a kind whole limit)) (tables_then (made a kind whole limit))
    filled_as (SellOpen c) a whole limit part priced cashed =
        moving_keeps law part (flow m b (SellOpen c) limit lots price) _ _ l.bought (more a c lots l.written) (writing lots) 0 0 0 lots (record {
          covered = flow_covered m b limit lots price (SellOpen c) priced;
          cash_most = omega (arith, law.beside.cash, ltb-false (10 ^ 17) (b.funds.cash + lots * price * unit_of (by_code (contracts_of b) c)) cashed);
          unengaged = λ k. refl;
          funds = (omega arith, omega arith, omega arith, omega arith, omega arith);
          bought_side = stays refl;
          written_side = opened lots (one_here a c lots 0) refl;
        })
    filled_as (BuyOpen c) a whole limit part priced cashed =
        moving_keeps law part (flow m b (BuyOpen c) limit lots price) _ _ (more a c lots l.bought) l.written (buying lots) 0 lots 0 0 (record {
          covered = flow_covered m b limit lots price (BuyOpen c) priced;
          cash_most = omega (arith, law.sound.cash);
          unengaged = λ k. refl;
          funds = (omega arith, omega arith, omega arith, omega arith, omega arith);
          bought_side = opened lots (one_here a c lots 0) refl;
          written_side = stays refl;
        })
    filled_as (BuyClose c) a whole limit part priced cashed =
        moving_keeps law part (flow m b (BuyClose c) limit lots price) _ _ l.bought (fewer a c lots l.written) (closing_written lots) 0 0 lots 0 (record {
          covered = flow_covered m b limit lots price (BuyClose c) priced;
          cash_most = omega (arith, law.sound.cash);
          unengaged = λ k. refl;
          funds = (omega arith, omega arith, omega arith, omega arith, omega arith);
          bought_side = stays refl;
          written_side = closed lots (one_here a c lots 0);
        })
    filled_as (SellClose c) a whole limit part priced cashed =
        moving_keeps law part (flow m b (SellClose c) limit lots price) _ _ (fewer a c lots l.bought) l.written (closing_bought lots) lots 0 0 0 (record {
          covered = flow_covered m b limit lots price (SellClose c) priced;
          cash_most = omega (arith, law.beside.cash, ltb-false (10 ^ 17) (b.funds.cash + lots * price * unit_of (by_code (contracts_of b) c)) cashed);
          unengaged = λ k. refl;
          funds = (omega arith, omega arith, omega arith, omega arith, omega arith);
          bought_side = closed lots (one_here a c lots 0);
          written_side = stays refl;
        })
    filled_as (LegClose k c) a whole limit part priced cashed =
        let g : LegOf l.combinations a k c = (law.sound.orders n (made a (LegClose k c) whole limit) part.stands).leg in
        let p : Pairing = g.combination in
        subst (λ z. Part l n lots (made z (LegClose k c) whole limit) → Law m (ledger_then (made z (LegClose k c) whole limit)) (tables_then (made z (LegClose k c) whole limit))) g.account
        (λ part'. leg_filled p k c whole limit g.stands (other_of m b p (law.sound.combinations k p g.stands).fitted lots c g.leg) part' (ltb-false limit price priced)) part

  -- Cancels ---------------------------------------------------------------------------------------

  abbrev cancelled_then : Order → List (Row Order) → Tables
  cancelled_then o rows = funds_to (fill_funds (o.lots * reserve_per_lot m b o.kind o.limit) 0 0 0 0 b.funds) (freed b o.kind o (orders_to rows b.order_series b))

  -- a cancel that frees no lots
  open_cancelled : (kind : OrderKind) (a lots limit : ℕ) → Part l n lots (made a kind lots limit) → ((k : ℕ) → engages k (made a kind lots limit) kind ≡ 0) →
      ((i j : ℕ) → (closes_written i j (made a kind lots limit) kind ≡ 0) × (closes_bought i j (made a kind lots limit) kind ≡ 0)) →
      Law m (left l n lots (made a kind lots limit) l.came_in l.went_out l.bought l.written l.combinations)
      (left_tables b n lots (made a kind lots limit) b.positions b.combinations (filled_funds (returned (lots * reserve m (contracts_of b) l.combinations kind limit)) b.funds))
  open_cancelled kind a lots limit part un none =
      still_keeps law part (lots * reserve m (contracts_of b) l.combinations kind limit) b.combinations refl none
      (λ k. law.beside.combinations k ∙ ap (λ z. combination_under z (under l.combinations k)) (omega (arith, engaged_left law part k, un k))) law.sound.combination_rows

  cancelled_as : (kind : OrderKind) (a lots limit : ℕ) → Part l n lots (made a kind lots limit) →
      Law m (left l n lots (made a kind lots limit) l.came_in l.went_out l.bought l.written l.combinations) (cancelled_then (made a kind lots limit) (order_rest n lots (made a kind lots limit) b.orders))
  cancelled_as (BuyClose c) a lots limit part =
      moving_keeps law part (returned (lots * (limit * unit_of (by_code (contracts_of b) c)))) _ _ l.bought l.written (unlocking_written lots) 0 0 0 0 (record {
        covered = omega arith;
        cash_most = omega (arith, law.sound.cash);
        unengaged = λ k. refl;
        funds = (omega arith, omega arith, omega arith, omega arith, omega arith);
        bought_side = stays refl;
        written_side = unlocked lots (one_here a c lots 0);
      })
  cancelled_as (SellClose c) a lots limit part =
      moving_keeps law part (returned (lots * 0)) _ _ l.bought l.written (unlocking_bought lots) 0 0 0 0 (record {
        covered = omega arith;
        cash_most = omega (arith, law.sound.cash);
        unengaged = λ k. refl;
        funds = (omega arith, omega arith, omega arith, omega arith, omega arith);
        bought_side = unlocked lots (one_here a c lots 0);
        written_side = stays refl;
      })
  cancelled_as (LegClose k c) a lots limit part =
      let o : Order = made a (LegClose k c) lots limit in
      let g : LegOf l.combinations a k c = (law.sound.orders n o part.stands).leg in
      let p : Pairing = g.combination in
      let l' : Ledger = left l n lots o l.came_in l.went_out l.bought l.written l.combinations in
      let found : lookup b.combinations k ≡ Some (combination_with (engaged l k) p) = row_of law k p g.stands in
      let less : (j : ℕ) → engaged l' j + when (eqb k j) lots ≡ engaged l j = λ j. engaged_left law part j in
      subst (λ z. Law m l' (funds_to (fill_funds (lots * leg_reserve m b c limit z) 0 0 0 0 b.funds) (disengaged b k lots (orders_to (order_rest n lots o b.orders) b.order_series b) z))) (sym found)
      (still_keeps law part (lots * leg_close_reserve m (contracts_of b) c limit (Some p)) (changed b.combinations k (combination_with (engaged l k - lots) p))
      (ap (λ z. lots * leg_close_reserve m (contracts_of b) c limit z) (sym g.stands)) (λ i j. (refl, refl))
      (λ j. let rest_is = less j in engaged_row law k p (engaged l k - lots) (engaged l' j) j g.stands (grind (arith, nat_tests)))
      (apart_changed b.combinations k (combination_with (engaged l k - lots) p) law.sound.combination_rows))
  cancelled_as kind a lots limit part = open_cancelled kind a lots limit part (λ k. refl) (λ i j. (refl, refl))

pub fill_stays : (m : Meaning) (b : Tables) (n lots price : ℕ) → Stays m b (call.Fill n lots price)
fill_stays m b n lots price x after h l law =
    let o : Option Order = lookup b.orders n in
    let u = unmet (fill_tests m b o lots price) h.0 in
    let q = order_at law n u.1.1.0 in
    let z : Order = q.0 in
    let enough = unmet_at _ q.2 u.1.1.1.0 in
    let few : lots ≤ z.lots = ltb-false _ _ enough in
    let taken' = stands_as _ q.2 h.1 in (
      standing_at (λ (w : Order). (lots ≤ w.lots) × Fillable l w.account lots w.kind) q.1 (few, fillable law n lots z.kind z.account z.lots z.limit q.1 few),
      subst (λ w. Law m (filled (contracts_of b) n w lots price l) after) (sym q.1)
          (subst (λ w. Law m (filled (contracts_of b) n (Some z) lots price l) w) (sym taken'.0)
          (filled_as law n lots price z.kind z.account z.lots z.limit (record { stands = q.1; within = few }) (unmet_at _ q.2 u.1.1.1.1.0) (unmet_at _ q.2 u.1.1.1.1.1.1.0))),
    )

pub cancel_stays : (m : Meaning) (b : Tables) (n : ℕ) → Stays m b (call.Cancel n)
cancel_stays m b n x after h l law =
    let o : Option Order = lookup b.orders n in
    let u = unmet ((16, is_none o) ∷ []) h.0 in
    let q = order_at law n u.0 in
    let z : Order = q.0 in
    let taken' = stands_as _ q.2 h.1 in
    let none_left : Order = of_lots (z.lots - z.lots) z in
    let law' = cancelled_as law n z.kind z.account z.lots z.limit (record { stands = q.1; within = omega arith }) in (
      (z, q.1),
      subst (λ w. Law m (ledger_orders_to (put n None l.orders) l) w) (sym taken'.0)
          (subst (λ t. Law m (ledger_orders_to (put n (cond t None (Some none_left)) l.orders) l) (cancelled_then law n z (cond t (removed b.orders n) (changed b.orders n none_left)))) (le-leb z.lots z.lots (omega arith)) law'),
    )
