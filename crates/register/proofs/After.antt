-- What a look-up answers, which numbers stand, and what a sum over the rows in use comes to, after a change, a removal and an addition.
use Rattle.std.proofs.Common.{◌≡◌, ℕ, zero, suc, ◌+◌, ◌<◌, ◌≤◌, true, false, cond, eqb, ◌⊎◌, List, [], ◌∷◌, set, Some, None, refl, ap, ◌∙◌, inl, inr, arith}
use Rattle.std.proofs.lemmas.List.Sums.{sum_by-cons}
use Rattle.std.proofs.lemmas.Bool.Decides.{nat_tests}
use Rattle.std.proofs.lemmas.Bool.{cond-true, cond-false, cond_both}
use Rattle.register.specs.declared.row.Row.{Row}
use Rattle.register.specs.Rows.{stands, lookup, replaced, holding, freed, changed, removed, FreeAt, Added, Apart, NumbersBelow, in_use}

module _ {T : Type 0} where
  -- One row --------------------------------------------------------------------------------------

  pub stands_is : (r : Row T) (n : ℕ) → (n ≡ 0 → ⊥) → r.number ≡ n → stands r n ≡ true
  stands_is r n nn e = grind (arith, nat_tests)

  -- Look-ups -------------------------------------------------------------------------------------

  pub lookup_zero : (rs : List (Row T)) (n : ℕ) → n ≡ 0 → lookup rs n ≡ None
  lookup_zero [] n z = refl
  lookup_zero (r ∷ rs) n z = let rest = lookup_zero rs n z in grind (arith, nat_tests)

  -- a number that finds an entry is not 0
  pub found_number : (rs : List (Row T)) (n : ℕ) (x : T) → lookup rs n ≡ Some x → n ≡ 0 → ⊥
  found_number rs n x p z = cc (lookup_zero rs n z)

  pub found_parts : (r : Row T) (rs : List (Row T)) (n : ℕ) (x : T) → lookup (r ∷ rs) n ≡ Some x →
      ((stands r n ≡ true) × (r.number ≡ n) × (r.entry ≡ x)) ⊎ ((stands r n ≡ false) × (lookup rs n ≡ Some x))
  found_parts r rs n x p = grind (arith, nat_tests)

  pub absent_parts : (r : Row T) (rs : List (Row T)) (n : ℕ) → lookup (r ∷ rs) n ≡ None → (stands r n ≡ false) × (lookup rs n ≡ None)
  absent_parts r rs n p = grind (arith, nat_tests)

  -- A row replaced -------------------------------------------------------------------------------

  pub replaced_here : (f : Row T → Row T) (r : Row T) (rs : List (Row T)) (n : ℕ) → stands r n ≡ true → replaced f (r ∷ rs) n ≡ f r ∷ rs
  replaced_here f r rs n s = cond-true _ _ _ s

  pub replaced_later : (f : Row T → Row T) (r : Row T) (rs : List (Row T)) (n : ℕ) → stands r n ≡ false → replaced f (r ∷ rs) n ≡ r ∷ replaced f rs n
  replaced_later f r rs n s = cond-false _ _ _ s

  -- where none stands under the number, the rows stay
  pub replaced_absent : (f : Row T → Row T) (rs : List (Row T)) (n : ℕ) → lookup rs n ≡ None → replaced f rs n ≡ rs
  replaced_absent f [] n p = refl
  replaced_absent f (r ∷ rs) n p = let rest = replaced_absent f rs n in grind (arith, nat_tests)

  -- the row keeps its number or becomes free, as by a change and by a removal
  module _ (f : Row T → Row T) (keeps : (r : Row T) → ((f r).number ≡ r.number) ⊎ ((f r).number ≡ 0)) where
    absent_replaced : (rs : List (Row T)) (n k : ℕ) → lookup rs k ≡ None → lookup (replaced f rs n) k ≡ None
    absent_replaced [] n k p = refl
    absent_replaced (r ∷ rs) n k p = let rest = absent_replaced rs n k in let kept = keeps r in grind (arith, nat_tests)

    pub apart_replaced : (rs : List (Row T)) (n : ℕ) → Apart rs → Apart (replaced f rs n)
    apart_replaced [] n a = tt
    apart_replaced (r ∷ rs) n a =
        let kept = keeps r in let zero = lookup_zero rs (f r).number in
        cond_both _ (f r ∷ rs) (r ∷ replaced f rs n) (λ ys. Apart ys) (λ s. (grind arith, a.1)) (λ s. (absent_replaced rs n r.number a.0, apart_replaced rs n a.1))

    pub below_replaced : (rs : List (Row T)) (n bound : ℕ) → NumbersBelow rs bound → NumbersBelow (replaced f rs n) bound
    below_replaced [] n bound b = tt
    below_replaced (r ∷ rs) n bound b =
        let kept = keeps r in cond_both _ (f r ∷ rs) (r ∷ replaced f rs n) (λ ys. NumbersBelow ys bound) (λ s. (grind arith, b.1)) (λ s. (b.0, below_replaced rs n bound b.1))

  -- Changed --------------------------------------------------------------------------------------

  pub lookup_changed : (rs : List (Row T)) (n k : ℕ) (e x : T) → lookup rs n ≡ Some x → lookup (changed rs n e) k ≡ cond (eqb n k) (Some e) (lookup rs k)
  lookup_changed [] n k e x p = cc
  lookup_changed (r ∷ rs) n k e x p = let rest = lookup_changed rs n k e x in grind (arith, nat_tests)

  pub apart_changed : (rs : List (Row T)) (n : ℕ) (e : T) → Apart rs → Apart (changed rs n e)
  apart_changed rs n e = apart_replaced (holding e) (λ r. inl refl) rs n

  pub below_changed : (rs : List (Row T)) (n bound : ℕ) (e : T) → NumbersBelow rs bound → NumbersBelow (changed rs n e) bound
  below_changed rs n bound e = below_replaced (holding e) (λ r. inl refl) rs n bound

  -- Removed --------------------------------------------------------------------------------------

  pub lookup_removed : (rs : List (Row T)) (n k : ℕ) → Apart rs → lookup (removed rs n) k ≡ cond (eqb n k) None (lookup rs k)
  lookup_removed [] n k a = grind (arith, nat_tests)
  lookup_removed (r ∷ rs) n k a = let rest = lookup_removed rs n k a.1 in grind (arith, nat_tests)

  pub apart_removed : (rs : List (Row T)) (n : ℕ) → Apart rs → Apart (removed rs n)
  apart_removed = apart_replaced freed (λ r. inr refl)

  pub below_removed : (rs : List (Row T)) (n bound : ℕ) → NumbersBelow rs bound → NumbersBelow (removed rs n) bound
  below_removed = below_replaced freed (λ r. inr refl)

  -- Added ----------------------------------------------------------------------------------------

  abbrev row : ℕ → T → Row T
  row n e = record { number = n; entry = e }

  lookup_set : (rs : List (Row T)) (i n k : ℕ) (e : T) → (n ≡ 0 → ⊥) → lookup rs n ≡ None → FreeAt rs i → lookup (set rs i (row n e)) k ≡ cond (eqb n k) (Some e) (lookup rs k)
  lookup_set [] i n k e nn p f = absurd (omega (arith, f.0))
  lookup_set (r ∷ rs) zero n k e nn p f = let free = f.1 r in grind (arith, nat_tests)
  lookup_set (r ∷ rs) (suc i) n k e nn p f =
      let rest = lookup_set rs i n k e nn (absent_parts r rs n p).1 (omega (arith, f.0), f.1) in grind (arith, nat_tests)

  pub lookup_added : (rs after : List (Row T)) (n k : ℕ) (e : T) → (n ≡ 0 → ⊥) → lookup rs n ≡ None → Added rs n e after → lookup after k ≡ cond (eqb n k) (Some e) (lookup rs k)
  lookup_added rs after n k e nn p ad = rw ad.1.1 (lookup_set rs ad.0 n k e nn p ad.1.0)

  apart_set : (rs : List (Row T)) (i n : ℕ) (e : T) → (n ≡ 0 → ⊥) → lookup rs n ≡ None → FreeAt rs i → Apart rs → Apart (set rs i (row n e))
  apart_set [] i n e nn p f a = a
  apart_set (r ∷ rs) zero n e nn p f a = ((absent_parts r rs n p).1, a.1)
  apart_set (r ∷ rs) (suc i) n e nn p f a =
      let q = absent_parts r rs n p in
      let rest : FreeAt rs i = (omega (arith, f.0), f.1) in
      let look = lookup_set rs i n r.number e nn q.1 rest in
      (grind (arith, nat_tests), apart_set rs i n e nn q.1 rest a.1)

  pub apart_added : (rs after : List (Row T)) (n : ℕ) (e : T) → (n ≡ 0 → ⊥) → lookup rs n ≡ None → Added rs n e after → Apart rs → Apart after
  apart_added rs after n e nn p ad a = rw ad.1.1 (apart_set rs ad.0 n e nn p ad.1.0 a)

  below_set : (rs : List (Row T)) (i n bound : ℕ) (e : T) → n < bound → NumbersBelow rs bound → NumbersBelow (set rs i (row n e)) bound
  below_set [] i n bound e l b = tt
  below_set (r ∷ rs) zero n bound e l b = (l, b.1)
  below_set (r ∷ rs) (suc i) n bound e l b = (b.0, below_set rs i n bound e l b.1)

  pub below_added : (rs after : List (Row T)) (n bound : ℕ) (e : T) → n < bound → Added rs n e after → NumbersBelow rs bound → NumbersBelow after bound
  below_added rs after n bound e l ad b = rw ad.1.1 (below_set rs ad.0 n bound e l b)

  -- Numbers below a bound ------------------------------------------------------------------------

  pub below_raised : (rs : List (Row T)) (low high : ℕ) → low ≤ high → NumbersBelow rs low → NumbersBelow rs high
  below_raised [] low high l b = tt
  below_raised (r ∷ rs) low high l b = (omega (arith, b.0), below_raised rs low high l b.1)

  -- no number from the bound on is found
  pub absent_above : (rs : List (Row T)) (n bound : ℕ) → bound ≤ n → NumbersBelow rs bound → lookup rs n ≡ None
  absent_above [] n bound l b = refl
  absent_above (r ∷ rs) n bound l b = let rest = absent_above rs n bound l b.1 in grind (arith, nat_tests)

  -- every number that is found is below the bound
  pub found_below : (rs : List (Row T)) (n bound : ℕ) (x : T) → NumbersBelow rs bound → lookup rs n ≡ Some x → n < bound
  found_below rs n bound x b p = grind (arith, absent_above rs n bound)

  -- rows that are all free are apart
  pub apart_free : (rs : List (Row T)) → NumbersBelow rs 1 → Apart rs
  apart_free [] b = tt
  apart_free (r ∷ rs) b = (lookup_zero rs r.number (omega (arith, b.0)), apart_free rs b.1)

  -- A sum over the rows in use -------------------------------------------------------------------

  module _ (f : T → ℕ) where
    cons : (r : Row T) (rs : List (Row T)) → in_use f (r ∷ rs) ≡ cond (eqb r.number 0) 0 (f r.entry) + in_use f rs
    cons = sum_by-cons _

    pub in_use_changed : (rs : List (Row T)) (n : ℕ) (e x : T) → lookup rs n ≡ Some x → in_use f (changed rs n e) + f x ≡ in_use f rs + f e
    in_use_changed [] n e x p = cc
    in_use_changed (r ∷ rs) n e x p =
        let now : in_use f (holding e r ∷ rs) ≡ cond (eqb r.number 0) 0 (f e) + in_use f rs = cons (holding e r) rs in
        let rest = in_use_changed rs n e x in grind (arith, nat_tests, cons)

    pub in_use_removed : (rs : List (Row T)) (n : ℕ) (x : T) → lookup rs n ≡ Some x → in_use f (removed rs n) + f x ≡ in_use f rs
    in_use_removed [] n x p = cc
    in_use_removed (r ∷ rs) n x p = let rest = in_use_removed rs n x in grind (arith, nat_tests, cons)

    in_use_set : (rs : List (Row T)) (i n : ℕ) (e : T) → (n ≡ 0 → ⊥) → FreeAt rs i → in_use f (set rs i (row n e)) ≡ in_use f rs + f e
    in_use_set [] i n e nn fr = absurd (omega (arith, fr.0))
    in_use_set (r ∷ rs) zero n e nn fr =
        let now : in_use f (row n e ∷ rs) ≡ cond (eqb n 0) 0 (f e) + in_use f rs = cons (row n e) rs in
        let free = fr.1 r in grind (arith, nat_tests, cons)
    in_use_set (r ∷ rs) (suc i) n e nn fr = let rest = in_use_set rs i n e nn (omega (arith, fr.0), fr.1) in grind (arith, nat_tests, cons)

    pub in_use_added : (rs after : List (Row T)) (n : ℕ) (e : T) → (n ≡ 0 → ⊥) → Added rs n e after → in_use f after ≡ in_use f rs + f e
    in_use_added rs after n e nn ad = ap (in_use f) ad.1.1 ∙ in_use_set rs ad.0 n e nn ad.1.0
