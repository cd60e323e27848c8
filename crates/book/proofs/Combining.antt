-- The answer to a combine, put together from its parts.
use Rattle.std.proofs.Common.{◌≡◌, ℕ, ◌-◌, ◌*◌, ◌≤◌, Bool, ltb, List, [], ◌∷◌, Some, Option, sym, refl, subst, ⊎_elim, arith}
use Rattle.std.proofs.lemmas.Bool.{cases_eq}
use Rattle.margin.specs.declared.contract.Contract.{Contract}
use Rattle.margin.specs.declared.strategy.Strategy.{Strategy}
use Rattle.margin.specs.ByCode.{by_code}
use Rattle.margin.specs.Meaning.{Meaning}
use Rattle.margin.specs.Strategies.{first_written}
use Rattle.ledger.specs.declared.tables.Position.{Position}
use Rattle.ledger.specs.declared.tables.Tables.{Tables}
use Rattle.ledger.specs.Amounts.{pair_per_lot, legs_per_lot}
use Rattle.ledger.specs.CombinationRules.{pair_tests, legs_short, combine_tests}
use Rattle.ledger.specs.Law.{contracts_of, position_of}
use Rattle.ledger.specs.Ledger.{Ledger}
use Rattle.ledger.specs.Moves.{at, lock_first}
use Rattle.ledger.specs.Runs.{Law}
use Rattle.ledger.specs.Tests.{first_met, meets, no_row, no_number}
use Rattle.ledger.proofs.Codes.{held_here, held_else}
use Rattle.ledger.proofs.Tests.{met_front}
use Rattle.book.proofs.Lawful.{FewLocked, still_few, locked_few}

module _ (m : Meaning) (b : Tables) (a first second lots : ℕ) where
  abbrev legs : Strategy → ℕ
  legs s = lots * legs_per_lot m (contracts_of b) s first second

  abbrev pair : Strategy → ℕ
  pair s = lots * pair_per_lot m (contracts_of b) s first second

  -- the tests that follow those of the pair
  abbrev after_pair : Option Strategy → List (ℕ × Bool)
  after_pair o = (18, meets o (λ s. legs_short b s a first second lots)) ∷ (21, meets o (λ s. ltb b.funds.balance (pair s - legs s))) ∷ no_row b.combinations ∷ no_number b.combination_series ∷ []

  pub no_pair : (o : Option Strategy) (n : ℕ) → first_met (pair_tests b o a first second lots) ≡ Some n → first_met (combine_tests m b o a first second lots) ≡ Some n
  no_pair o n e = met_front (pair_tests b o a first second lots) (after_pair o) n e

locked_more : (t : Bool) (s : Strategy) (lots : ℕ) (p : Position) → first_written s ≡ t → lots ≤ 1000 → FewLocked p 10000 → FewLocked (lock_first s lots p) 11000
locked_more t s lots p e few k = record { bought = grind arith; written = grind arith }

module _ (m : Meaning) (b : Tables) (l : Ledger) (law : Law m l b) (a : ℕ) (low : 1 ≤ a) (high : a ≤ 8) where
  pub second_few : (s : Strategy) (lots first second : ℕ) (c d : Contract) → lots ≤ 1000 → by_code (contracts_of b) first ≡ Some c → by_code (contracts_of b) second ≡ Some d →
      FewLocked (position_of (at a first (lock_first s lots) b) a second) 11000
  second_few s lots first second c d few is is₂ =
      let more = locked_more (first_written s) s lots (position_of b a first) refl few (locked_few m b l law a low high first c is) in
      let k = locked_few m b l law a low high second d is₂ in
      let same : second ≡ first → FewLocked (position_of (at a first (lock_first s lots) b) a second) 11000 =
      λ e. subst (λ z. FewLocked (position_of (at a first (lock_first s lots) b) a z) 11000) (sym e) (subst (λ p. FewLocked p 11000) (sym (held_here b law.sound.count law.sound.position_rows a first c low high is (lock_first s lots))) more) in
      let else : (second ≡ first → ⊥) → FewLocked (position_of (at a first (lock_first s lots) b) a second) 11000 =
      λ ne. subst (λ p. FewLocked p 11000) (sym (held_else b law.sound.count law.sound.position_rows a first c low high is (lock_first s lots) a second d low is₂ (λ z. ne z.1))) (still_few k) in
      ⊎_elim same else (cases_eq second first)
