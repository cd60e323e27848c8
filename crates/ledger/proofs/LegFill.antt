-- The fill of a leg close keeps the law.
use Rattle.std.proofs.Common.{◌≡◌, ℕ, ◌+◌, ◌-◌, ◌*◌, ◌≤◌, cond, eqb, List, Some, sym, refl, ap, ◌∙◌, ⊎_elim, arith}
use Rattle.std.proofs.lemmas.Bool.Decides.{nat_tests}
use Rattle.std.proofs.lemmas.List.{length-set}
use Rattle.std.proofs.lemmas.Bool.{cond-true, eq-eqb}
use Rattle.margin.specs.ByCode.{by_code}
use Rattle.margin.specs.declared.contract.Contract.{Contract}
use Rattle.ledger.specs.declared.order.Order.{Order}
use Rattle.ledger.specs.declared.order.OrderKind.TheVariants.{LegClose}
use Rattle.ledger.specs.declared.tables.Tables.{Tables}
use Rattle.margin.specs.Meaning.{Meaning}
use Rattle.ledger.specs.ByCode.{unit_of}
use Rattle.ledger.specs.Ledger.{Ledger, Entry, under, put, pairing_less, order_less, fewer}
use Rattle.ledger.specs.Content.{Pairing}
use Rattle.ledger.specs.Law.{Lots, contracts_of, position_of, position_row, engaged, reserve, reserves, margin_held, in_combinations, written_claim, bought_claim, claimed_written, claimed_bought, when}
use Rattle.ledger.specs.Amounts.{leg_close_reserve, pair_margin, other_leg_margin}
use Rattle.ledger.specs.Moves.{at, closing_written, combination_rest}
use Rattle.ledger.specs.FillRules.{Flow, leg_flow, filled_funds}
use Rattle.ledger.specs.Runs.{Law, SoundOrder}
use Rattle.ledger.proofs.Entries.{weighed_same, numbers_put}
use Rattle.ledger.proofs.Grid.{legs_moved}
use Rattle.ledger.proofs.Shares.{times_both}
use Rattle.ledger.proofs.Moved.{AllLots, lots_moved_twice}
use Rattle.ledger.proofs.Leaving.{left, left_tables, Part, left_keeps, order_parts, closes_written_left, closes_bought_left, engaged_left, reserves_left, legs_left}
use Rattle.ledger.proofs.Covered.{leg_covered}
use Rattle.ledger.proofs.Codes.{at_one, one_here, one_else}
use Rattle.ledger.proofs.Pairings.{combination_with, pair_lots, written_claim_by, bought_claim_by, pair_margin_by}
use Rattle.ledger.proofs.Legs.{NamedStays, order_stays, rest_sum, rest_numbers, rest_apart, rest_rows, rest_sound, rest_engaged, rest_named}
use Rattle.ledger.proofs.Others.{OtherLeg}

module _ {m : Meaning} {l : Ledger} {b : Tables} (law : Law m l b) (n k c lots price whole limit : ℕ) (p : Pairing) (stands : under l.combinations k ≡ Some p) where
  abbrev order : Order
  order = record { account = p.account; kind = LegClose k c; lots = whole; limit = limit }

  abbrev cs : List Contract
  cs = contracts_of b

  abbrev ps : List (Entry Pairing)
  ps = l.combinations

  abbrev es : List (Entry Pairing)
  es = put k (pairing_less lots p) l.combinations

  abbrev premium : ℕ
  premium = lots * price * unit_of (by_code cs c)

  abbrev W : ℕ → ℕ → ℕ
  W = fewer p.account c lots l.written

  abbrev l' : Ledger
  l' = left l n lots order l.came_in (l.went_out + premium) l.bought W es

  module _ (part : Part l n lots order) (leg : OtherLeg m b p c lots) (cheap : price ≤ limit) where
    abbrev a : ℕ
    a = p.account

    abbrev P : Pairing
    P = pair_lots lots p

    less_engaged : (j : ℕ) → engaged l' j + when (eqb k j) lots ≡ engaged l j
    less_engaged j = engaged_left law part j

    here_engaged : engaged l' k + lots ≡ engaged l k
    here_engaged = omega (arith, less_engaged k, cond-true (eqb k k) lots 0 (eq-eqb k k refl))

    -- the lots stand in the combination
    enough : lots ≤ p.lots
    enough = omega (arith, here_engaged, law.sound.engaged_most k p stands)

    -- another order of the combination, or the rest of this one, leaves lots of it
    named_stays : (j : ℕ) (x : Order) → under l'.orders j ≡ Some x → NamedStays ps es x.kind
    named_stays j x s = rest_named law k lots p stands l'.orders j x s
        (⊎_elim (λ q. omega (arith, q.1, ap (λ (z : Order). z.lots) q.2)) (λ q. (law.sound.orders j x q.1).lots.0) (order_parts law part j x s))
        (omega (arith, here_engaged, law.sound.engaged_most k p stands))

    -- sums over combinations and orders
    less_written : (x y : ℕ) → in_combinations l' x y + written_claim x y P ≡ in_combinations l x y
    less_written x y = rest_sum law k lots p stands (written_claim x y) (written_claim_by x y) enough

    claims_written : (x y : ℕ) → claimed_written l' x y + written_claim x y P ≡ claimed_written l x y
    claims_written x y = omega (arith, less_written x y, closes_written_left law part x y)

    claims_bought : (x y : ℕ) → claimed_bought l' x y + bought_claim x y P ≡ claimed_bought l x y
    claims_bought x y = omega (arith, rest_sum law k lots p stands (bought_claim x y) (bought_claim_by x y) enough, closes_bought_left law part x y)

    fit : SoundOrder cs ps order
    fit = law.sound.orders n order part.stands

    lot : Lots l a c (position_of b a c)
    lot = law.beside.lots a c fit.contract.0 fit.account.0 fit.account.1 fit.contract.1

    lot_other : Lots l a leg.other (position_of b a leg.other)
    lot_other = law.beside.lots a leg.other leg.contract fit.account.0 fit.account.1 leg.is_listed

    W_here : W a c ≡ l.written a c - lots
    W_here = one_here a c (l.written a c - lots) (l.written a c)

    W_else : (x y : ℕ) → ((x ≡ a) × (y ≡ c) → ⊥) → W x y ≡ l.written x y
    W_else x y = one_else a c (l.written x y - lots) (l.written x y) x y

    W_other : W a leg.other ≡ l.written a leg.other
    W_other = W_else a leg.other (λ q. leg.apart q.1)

    moved_lots : AllLots l' (at a leg.other leg.move (at a c (closing_written lots) b))
    moved_lots = lots_moved_twice l l' b a c fit.contract.0 (closing_written lots) law.sound.count law.sound.position_rows fit.account.0 fit.account.1 fit.contract.1 law.beside.lots
        leg.other leg.contract leg.move leg.is_listed leg.apart
        (record {
          bought = lot.bought;
          written = omega (arith, lot.written, W_here);
          locked_bought = omega (arith, lot.locked_bought, claims_bought a c, leg.bought_here);
          locked_written = omega (arith, lot.locked_written, claims_written a c, leg.written_here);
          bought_free = omega (arith, lot.bought_free, claims_bought a c);
          written_free = omega (arith, lot.written_free, claims_written a c, leg.written_here, W_here);
        })
        (record {
          bought = (leg.moved _).bought ∙ lot_other.bought;
          written = (leg.moved _).written ∙ lot_other.written ∙ sym W_other;
          locked_bought = (leg.moved _).locked_bought ∙ omega (arith, lot_other.locked_bought, claims_bought a leg.other, leg.bought_other);
          locked_written = (leg.moved _).locked_written ∙ omega (arith, lot_other.locked_written, claims_written a leg.other, leg.written_other);
          bought_free = omega (arith, lot_other.bought_free, claims_bought a leg.other);
          written_free = omega (arith, lot_other.written_free, claims_written a leg.other, W_other);
        })
        (λ x y nh no. record { bought = refl; written = W_else x y nh; claimed_bought = omega (arith, claims_bought x y, leg.bought_else x y nh no); claimed_written = omega (arith, claims_written x y, leg.written_else x y nh no) })

    -- margin held
    free_else : (x y : ℕ) → ((x ≡ a) × (y ≡ leg.other) → ⊥) → W x y - in_combinations l' x y ≡ l.written x y - in_combinations l x y
    free_else = at_one (λ x y. ((x ≡ a) × (y ≡ leg.other) → ⊥) → W x y - in_combinations l' x y ≡ l.written x y - in_combinations l x y) a c
        (λ _. omega (arith, W_here, less_written a c, leg.written_here, lot.written_free))
        (λ x y nh no. omega (arith, W_else x y nh, less_written x y, leg.written_else x y nh no))

    held_left : margin_held m cs l' + lots * pair_margin m cs p ≡ b.funds.held + lots * other_leg_margin m cs c p
    held_left =
        let sums = legs_moved m.leg (λ x y. W x y - in_combinations l' x y) (λ x y. l.written x y - in_combinations l x y) cs 0 a leg.other leg.contract law.sound.codes leg.is_listed fit.account.0 fit.account.1 free_else in
        let free = times_both (W a leg.other - in_combinations l' a leg.other) 0 (l.written a leg.other - in_combinations l a leg.other) leg.freed_written (m.leg leg.contract)
        (omega (arith, W_other, less_written a leg.other, leg.written_other, lot_other.written_free)) in
        omega (arith, law.beside.held, sums, free, leg.margin, rest_sum law k lots p stands (λ z. z.lots * pair_margin m cs z) (pair_margin_by m cs) enough)

    -- reserves
    reserves_less : reserves m cs l' + lots * leg_close_reserve m cs c limit (Some p) ≡ b.funds.reserved
    reserves_less =
        omega (
          arith,
          weighed_same (λ z. z.lots * reserve m cs es z.kind z.limit) (λ z. z.lots * reserve m cs ps z.kind z.limit) l'.orders l.next_order
              (numbers_put l.orders l.next_order n (order_less lots order) law.sound.order_numbers)
              (λ j x s. ap (λ z. x.lots * z) ((order_stays ps es x.account m cs x.kind x.limit (named_stays j x s) (legs_left law part j x s)).1)),
          ap (λ z. lots * leg_close_reserve m cs c limit z) stands,
          reserves_left law part,
        )

    engaged_now : (j : ℕ) → engaged l' j ≡ cond (eqb k j) (engaged l k - lots) (engaged l j)
    engaged_now j = let less = less_engaged j in grind (arith, nat_tests)

    abbrev w : Flow
    w = leg_flow m b c limit lots price (Some (combination_with (engaged l k) p))

    pub leg_close_filled : Law m l' (left_tables b n lots order (at a leg.other leg.move (at a c (closing_written lots) b)).positions (combination_rest k lots lots (combination_with (engaged l k) p) b.combinations) (filled_funds w b.funds))
    leg_close_filled =
        left_keeps law part w l.came_in (l.went_out + premium) l.bought W es _ _ (record {
          covered = leg_covered m b limit lots price c (Some (combination_with (engaged l k) p)) cheap;
          came_is = omega arith;
          went_is = refl;
          cash_most = omega (arith, law.sound.cash);
          rows = length-set (at a c (closing_written lots) b).positions (position_row b a leg.other) (leg.move (position_of (at a c (closing_written lots) b) a leg.other)) ∙ length-set b.positions (position_row b a c) (closing_written lots (position_of b a c)) ∙ law.sound.position_rows;
          lots_are = moved_lots;
          combinations = λ j. rest_rows law k lots p stands lots j (engaged l' j) (engaged_now j);
          apart = rest_apart law k lots p stands lots;
          numbers = rest_numbers law k lots p stands;
          sound = rest_sound law k lots p stands;
          engaged_most = rest_engaged law k lots p stands lots (λ j. engaged l' j) (omega (arith, law.sound.engaged_most k p stands)) engaged_now;
          legs = λ j x s. (order_stays ps es x.account m cs x.kind x.limit (named_stays j x s) (legs_left law part j x s)).0;
          held = held_left;
          reserved = reserves_less;
          written_most = at_one (λ x y. W x y ≤ l.written x y + 0) a c (omega (arith, W_here)) (λ x y off. omega (arith, W_else x y off));
          bought_most = λ x y. omega arith;
        })
