-- What rows hold, by the place of the earliest row with a number.
use Rattle.std.proofs.Common.{◌≡◌, ℕ, zero, suc, true, false, List, [], ◌∷◌, length, get_or, set, Some, None, Option, refl, arith, MatchOption}
use Rattle.std.proofs.lemmas.Bool.Decides.{nat_tests}
use Rattle.register.specs.declared.row.Row.{Row}
use Rattle.register.specs.Places.{NoneBefore, FirstAt, StandsNowhere, StandsAt}
use Rattle.register.specs.Rows.{lookup, replaced, holding, freed, some_free, FreeAt}
use Rattle.register.proofs.After.{lookup_zero, replaced_absent}

module _ {T : Type 0} where
  none_later : (r : Row T) (rs : List (Row T)) (n i : ℕ) → NoneBefore (r ∷ rs) n (suc i) → NoneBefore rs n i
  none_later r rs n i p = λ k d h. p (suc k) d (omega arith)

  first_later : (r : Row T) (rs : List (Row T)) (n i : ℕ) → FirstAt (r ∷ rs) n (suc i) → FirstAt rs n i
  first_later r rs n i p = (omega (arith, p.0), p.1, none_later r rs n i p.2)

  -- Numbers other than 0 -------------------------------------------------------------------------

  lookup_at : (rs : List (Row T)) (n i : ℕ) (d : Row T) → (n ≡ 0 → ⊥) → FirstAt rs n i → lookup rs n ≡ Some (get_or rs i d).entry
  lookup_at [] n i d nn p = absurd (omega (arith, p.0))
  lookup_at (r ∷ rs) n zero d nn p = let here = p.1 d in grind (arith, nat_tests)
  lookup_at (r ∷ rs) n (suc i) d nn p = let here = p.2 0 r in let rest = lookup_at rs n i d nn (first_later r rs n i p) in grind (arith, nat_tests)

  replaced_at : (f : Row T → Row T) (rs : List (Row T)) (n i : ℕ) (d : Row T) → (n ≡ 0 → ⊥) → FirstAt rs n i → replaced f rs n ≡ set rs i (f (get_or rs i d))
  replaced_at f [] n i d nn p = absurd (omega (arith, p.0))
  replaced_at f (r ∷ rs) n zero d nn p = let here = p.1 d in grind (arith, nat_tests)
  replaced_at f (r ∷ rs) n (suc i) d nn p = let here = p.2 0 r in let rest = replaced_at f rs n i d nn (first_later r rs n i p) in grind (arith, nat_tests)

  lookup_nowhere : (rs : List (Row T)) (n : ℕ) → NoneBefore rs n (length rs) → lookup rs n ≡ None
  lookup_nowhere [] n p = refl
  lookup_nowhere (r ∷ rs) n p = let here = p 0 r in let rest = lookup_nowhere rs n (none_later r rs n _ p) in grind (arith, nat_tests)

  nowhere_absent : (rs : List (Row T)) (n : ℕ) → lookup rs n ≡ None → StandsNowhere rs n
  nowhere_absent rs n p = record { finds = p; changes = λ e. replaced_absent (holding e) rs n p; removes = replaced_absent freed rs n p }

  pub zero_nowhere : (rs : List (Row T)) (n : ℕ) → n ≡ 0 → StandsNowhere rs n
  zero_nowhere rs n z = nowhere_absent rs n (lookup_zero rs n z)

  pub stands_from_first : (rs : List (Row T)) (n : ℕ) (o : Option ℕ) → (n ≡ 0 → ⊥) → MatchOption o (NoneBefore rs n (length rs)) (FirstAt rs n) → MatchOption o (StandsNowhere rs n) (StandsAt rs n)
  stands_from_first rs n None nn p = nowhere_absent rs n (lookup_nowhere rs n p)
  stands_from_first rs n (Some i) nn p = record {
    within = p.0;
    finds = λ d. lookup_at rs n i d nn p;
    changes = λ e d. replaced_at (holding e) rs n i d nn p;
    removes = λ d. replaced_at freed rs n i d nn p;
  }

  -- Number 0 -------------------------------------------------------------------------------------

  some_free_at : (rs : List (Row T)) (i : ℕ) → FirstAt rs 0 i → some_free rs ≡ true
  some_free_at [] i p = absurd (omega (arith, p.0))
  some_free_at (r ∷ rs) zero p = let here = p.1 r in grind (arith, nat_tests)
  some_free_at (r ∷ rs) (suc i) p = let rest = some_free_at rs i (first_later r rs 0 i p) in grind (arith, nat_tests)

  none_free : (rs : List (Row T)) → NoneBefore rs 0 (length rs) → some_free rs ≡ false
  none_free [] p = refl
  none_free (r ∷ rs) p = let here = p 0 r in let rest = none_free rs (none_later r rs 0 _ p) in grind (arith, nat_tests)

  pub free_from_first : (rs : List (Row T)) (o : Option ℕ) → MatchOption o (NoneBefore rs 0 (length rs)) (FirstAt rs 0) → MatchOption o (some_free rs ≡ false) (λ i. (some_free rs ≡ true) × FreeAt rs i)
  free_from_first rs None p = none_free rs p
  free_from_first rs (Some i) p = (some_free_at rs i p, (p.0, p.1))
