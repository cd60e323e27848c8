-- Combine keeps the law.
use Rattle.std.proofs.Common.{◌≡◌, ℕ, ◌+◌, ◌-◌, ◌*◌, ◌^◌, ◌<◌, ◌≤◌, true, cond, List, ◌∷◌, Some, None, Option, sym, refl, ap, ◌∙◌, subst, ⊎_elim, arith}
use Rattle.register.specs.Numbers.{next_of, moved_on}
use Rattle.std.proofs.lemmas.List.{length-set}
use Rattle.std.proofs.lemmas.Bool.Decides.{nat_tests}
use Rattle.std.proofs.lemmas.Bool.{ltb-false, or_parts, not-false}
use Rattle.register.specs.declared.row.Row.{Row}
use Rattle.register.specs.Rows.{lookup, Added}
use Rattle.register.proofs.After.{lookup_added, apart_added}
use Rattle.margin.specs.ByCode.{by_code}
use Rattle.margin.specs.declared.contract.Contract.{Contract}
use Rattle.margin.specs.declared.strategy.Strategy.{Strategy}
use Rattle.margin.specs.Fits.{fits}
use Rattle.ledger.specs.declared.call.Call.TheVariants as call
use Rattle.ledger.specs.declared.order.Order.{Order}
use Rattle.ledger.specs.declared.order.OrderKind.{OrderKind}
use Rattle.ledger.specs.declared.order.OrderKind.TheVariants.{LegClose}
use Rattle.ledger.specs.declared.order.Combination.{Combination}
use Rattle.ledger.specs.declared.tables.Tables.{Tables}
use Rattle.margin.specs.Meaning.{Meaning}
use Rattle.ledger.specs.Ledger.{Ledger, Entry, under, combined}
use Rattle.ledger.specs.Content.{Pairing}
use Rattle.ledger.specs.Law.{Lots, contracts_of, position_of, when, written_claim, bought_claim, in_combinations, claimed_bought, claimed_written, engages, engaged, combination_under}
use Rattle.ledger.specs.Moves.{at, lock_first, locking_written, free_first, free_written, free_bought}
use Rattle.ledger.specs.CombinationRules.{margins_moved, fit_together, combine_tests}
use Rattle.ledger.specs.Runs.{Law, LegOf, LegStands, Fitted, SoundCombination}
use Rattle.ledger.specs.Amounts.{pair_per_lot, legs_per_lot, pair_margin}
use Rattle.margin.specs.Strategies.{first_written, strategy_of}
use Rattle.ledger.proofs.Tests.{Stays, unmet, within, met_of, stands_as, unmet_at}
use Rattle.ledger.proofs.Entries.{weighed_cons, weighed_none, under_above, under_parts, under_within}
use Rattle.ledger.proofs.Moved.{AllLots, lots_moved_twice}
use Rattle.ledger.proofs.Pairings.{combination_with}
use Rattle.ledger.proofs.Legs.{added_stays}
use Rattle.ledger.proofs.Claims.{TwoLegs, two_legs, held_between, first_locked}
use Rattle.ledger.proofs.Regrouping.{regrouped, regrouped_tables, regrouped_keeps}

fit_parts : (m : Meaning) (b : Tables) (s : Strategy) (x y : Option Contract) → fit_together s x y ≡ true → (c d : Contract) × (x ≡ Some c) × (y ≡ Some d) × (fits s c d ≡ true)
fit_parts m b s (Some c) (Some d) h = (c, d, refl, refl, h)
fit_parts m b s (Some c) None h = absurd cc
fit_parts m b s None y h = absurd cc

-- a number under which no combination stands is named by no order
engages_none : (ps : List (Entry Pairing)) (next : ℕ) (a : ℕ) (o : Order) (kind : OrderKind) → ((j : ℕ) (q : Pairing) → under ps j ≡ Some q → j < next) → LegStands ps a kind → engages next o kind ≡ 0
engages_none ps next a o (LegClose j c) below g =
    let g' : LegOf ps a j c = g in
    let lt : j < next = below j g'.combination g'.stands in
    grind (arith, nat_tests)
engages_none ps next a o kind below g = refl

module _ {m : Meaning} {l : Ledger} {b : Tables} (law : Law m l b) (p : Pairing) (account : (1 ≤ p.account) × (p.account ≤ 8)) (some : 1 ≤ p.lots) (fitted : Fitted (contracts_of b) p)
    (free_one : p.lots ≤ free_first p.strategy (position_of b p.account p.first)) (free_two : p.lots ≤ free_written (position_of b p.account p.second))
    (enough : p.lots * pair_per_lot m (contracts_of b) p.strategy p.first p.second - p.lots * legs_per_lot m (contracts_of b) p.strategy p.first p.second ≤ b.funds.balance)
    (number : next_of b.combination_series ≤ 2 ^ 32 - 1) where
  abbrev cs : List Contract
  cs = contracts_of b

  abbrev a : ℕ
  a = p.account

  abbrev next : ℕ
  next = l.next_combination

  abbrev es : List (Entry Pairing)
  es = record { number = next; content = p } ∷ l.combinations

  abbrev l' : Ledger
  l' = regrouped es (next + 1) l

  two : TwoLegs p p.lots
  two = two_legs cs p p.lots fitted

  more_inside : (x y : ℕ) → in_combinations l' x y ≡ in_combinations l x y + written_claim x y p
  more_inside x y = omega (arith, weighed_cons (written_claim x y) next p l.combinations)

  more_written : (x y : ℕ) → claimed_written l' x y ≡ claimed_written l x y + written_claim x y p
  more_written x y = omega (arith, more_inside x y)

  more_bought : (x y : ℕ) → claimed_bought l' x y ≡ claimed_bought l x y + bought_claim x y p
  more_bought x y = omega (arith, weighed_cons (bought_claim x y) next p l.combinations)

  lot : Lots l a p.first (position_of b a p.first)
  lot = law.beside.lots a p.first fitted.first account.0 account.1 fitted.first_listed

  lot₂ : Lots l a p.second (position_of b a p.second)
  lot₂ = law.beside.lots a p.second fitted.second account.0 account.1 fitted.second_listed

  -- free lots of the first leg leave room on its side
  room : (when (first_written p.strategy) p.lots ≤ free_written (position_of b a p.first)) × (cond (first_written p.strategy) 0 p.lots ≤ free_bought (position_of b a p.first))
  room = grind arith

  written_free : claimed_written l' a p.first ≤ l.written a p.first
  written_free = omega (arith, room.0, lot.written, lot.locked_written, lot.written_free, more_written a p.first, two.written_first)

  written_free₂ : claimed_written l' a p.second ≤ l.written a p.second
  written_free₂ = omega (arith, free_two, lot₂.written, lot₂.locked_written, lot₂.written_free, more_written a p.second, two.written_second)

  abbrev locked : Tables
  locked = at a p.second (locking_written p.lots) (at a p.first (lock_first p.strategy p.lots) b)

  locked_lots : AllLots l' locked
  locked_lots =
      let q = first_locked (first_written p.strategy) p.lots (position_of b a p.first) in
      lots_moved_twice l l' b a p.first fitted.first (lock_first p.strategy p.lots) law.sound.count law.sound.position_rows account.0 account.1 fitted.first_listed law.beside.lots
      p.second fitted.second (locking_written p.lots) fitted.second_listed (λ e. two.apart (sym e))
      (record {
        bought = q.bought ∙ lot.bought;
        written = q.written ∙ lot.written;
        locked_bought = q.locked_bought ∙ omega (arith, lot.locked_bought, more_bought a p.first, two.bought_first);
        locked_written = q.locked_written ∙ omega (arith, lot.locked_written, more_written a p.first, two.written_first);
        bought_free = omega (arith, room.1, lot.bought, lot.locked_bought, lot.bought_free, more_bought a p.first, two.bought_first);
        written_free = written_free;
      })
      (record {
        bought = lot₂.bought;
        written = lot₂.written;
        locked_bought = omega (arith, lot₂.locked_bought, more_bought a p.second, two.bought_second);
        locked_written = omega (arith, lot₂.locked_written, more_written a p.second, two.written_second);
        bought_free = omega (arith, lot₂.bought_free, more_bought a p.second, two.bought_second);
        written_free = written_free₂;
      })
      (λ x y nf ns. record { bought = refl; written = refl; claimed_bought = omega (arith, more_bought x y, two.bought_else x y nf); claimed_written = omega (arith, more_written x y, two.written_else x y nf ns) })

  next_is : next_of b.combination_series ≡ next
  next_is = law.beside.next_combination

  positive : next_of b.combination_series ≡ 0 → ⊥
  positive e = omega (arith, next_is, law.sound.last_combination.0)

  absent : lookup b.combinations (next_of b.combination_series) ≡ None
  absent = law.beside.combinations (next_of b.combination_series) ∙ ap (combination_under _) (under_above l.combinations next (next_of b.combination_series) law.sound.combination_numbers (omega (arith, next_is)))

  unengaged : engaged l next ≡ 0
  unengaged = weighed_none (λ z. engages next z z.kind) l.orders l.next_order law.sound.order_numbers
      (λ j x s. engages_none l.combinations next x.account x x.kind (λ i q t. (under_within l.combinations next i q law.sound.combination_numbers t).1) (law.sound.orders j x s).leg)

  module _ (rows : List (Row Combination)) (added : Added b.combinations (next_of b.combination_series) (combination_with 0 p) rows) where
    found : (n : ℕ) → lookup rows n ≡ combination_under (engaged l n) (under es n)
    found n =
        let row = lookup_added b.combinations rows (next_of b.combination_series) n (combination_with 0 p) positive absent added in
        let old = law.beside.combinations n in
        let none = unengaged in
        let number = next_is in
        grind (arith, nat_tests)

    pub grouped_keeps : Law m l' (regrouped_tables locked.positions rows (moved_on b.combination_series)
        (margins_moved (p.lots * legs_per_lot m (contracts_of b) p.strategy p.first p.second) (p.lots * pair_per_lot m (contracts_of b) p.strategy p.first p.second) b.funds) b)
    grouped_keeps = regrouped_keeps law es (next + 1) locked.positions rows (moved_on b.combination_series) _ _ (record {
      rows = length-set _ _ _ ∙ length-set _ _ _ ∙ law.sound.position_rows;
      lots = locked_lots;
      found = found;
      apart = apart_added b.combinations rows (next_of b.combination_series) (combination_with 0 p) positive absent added law.sound.combination_rows;
      numbers = (law.sound.last_combination.0, omega arith, law.sound.combination_numbers);
      next_is = ap (λ z. z + 1) next_is;
      last = (omega arith, omega (arith, next_is));
      sound = λ n q s. ⊎_elim (λ h. subst (λ z. SoundCombination cs z) h.1 (record { account = account; fitted = fitted; lots = some })) (λ h. law.sound.combinations n q h.1) (under_parts _ l.combinations n q s);
      engaged_most = λ n q s. ⊎_elim (λ h. omega (arith, unengaged, ap (engaged l) h.0)) (λ h. law.sound.engaged_most n q h.1) (under_parts _ l.combinations n q s);
      stays = λ j x s i y e. added_stays l.combinations next p i law.sound.combination_numbers;
      held = held_between m cs l l' p p.lots law.sound.codes account fitted (λ x y. refl) more_inside (omega (arith, written_free)) (omega (arith, written_free₂))
          (omega (arith, weighed_cons (λ z. z.lots * pair_margin m cs z) next p l.combinations));
      enough = enough;
    })

pub combine_stays : (m : Meaning) (b : Tables) (a strategy first second lots : ℕ) → Stays m b (call.Combine a strategy first second lots)
combine_stays m b a strategy first second lots x after h l law =
    let u = unmet (combine_tests m b (strategy_of strategy) a first second lots) h.0 in
    let met = met_of (strategy_of strategy) _ (not-false _ u.1.1.1.0) in
    let s : Strategy = met.0 in
    let found : strategy_of strategy ≡ Some s = met.1.0 in
    let fit = fit_parts m b s (by_code (contracts_of b) first) (by_code (contracts_of b) second) met.1.1 in
    let free = unmet_at _ found u.1.1.1.1.0 in
    let enough = unmet_at _ found u.1.1.1.1.1.0 in
    let taken = stands_as _ found h.1 in
    let p : Pairing = record { account = a; strategy = s; first = first; second = second; lots = lots } in (
      (s, found),
      subst (λ z. Law m (combined a z first second lots l) after) (sym found)
          (subst (λ z. Law m (combined a (Some s) first second lots l) z) (sym taken.1.1.0)
          (grouped_keeps law p (within 1 8 a u.0) (within 1 1000 lots u.1.1.0).0 (record { first = fit.0; second = fit.1; first_listed = fit.2; second_listed = fit.3; fit = fit.4 })
          (ltb-false _ _ (or_parts _ _ free).0) (ltb-false _ _ (or_parts _ _ free).1) (ltb-false _ _ enough) (ltb-false (2 ^ 32 - 1) (next_of b.combination_series) u.1.1.1.1.1.1.1.0) taken.0 taken.1.0)),
    )
