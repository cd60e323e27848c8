-- What rows of numbered entries hold. A row is free where its number is 0.
use Rattle.std.specs.Prelude.{◌≡◌, ℕ, ◌<◌, Bool, false, cond, not, ◌&&◌, ◌||◌, List, [], ◌∷◌, length, Some, None, sum_by, Option, ◌==◌, slice_index_or, slice_set}
use Rattle.register.specs.declared.row.Row.{Row}

module _ {T : Type 0} where
  -- whether the row stands under the number; none stands under 0
  abbrev pub stands : Row T → ℕ → Bool
  stands r n = not (n == 0) && r.number == n

  -- the entry under a number: that of the earliest row
  abbrev pub lookup : List (Row T) → ℕ → Option T
  lookup [] n = None
  lookup (r ∷ rs) n = cond (stands r n) (Some r.entry) (lookup rs n)

  -- the rows with the earliest one under a number replaced; where none stands, as they are
  abbrev pub replaced : (Row T → Row T) → List (Row T) → ℕ → List (Row T)
  replaced f [] n = []
  replaced f (r ∷ rs) n = cond (stands r n) (f r ∷ rs) (r ∷ replaced f rs n)

  -- the row with another entry, under its number
  abbrev pub holding : T → Row T → Row T
  holding e r = record { number = r.number; entry = e }

  -- the row free; its entry stays, and stands under no number
  abbrev pub freed : Row T → Row T
  freed r = record { number = 0; entry = r.entry }

  -- the rows with another entry under a number
  abbrev pub changed : List (Row T) → ℕ → T → List (Row T)
  changed rs n e = replaced (holding e) rs n

  -- the rows with the one under a number free
  abbrev pub removed : List (Row T) → ℕ → List (Row T)
  removed rs n = replaced freed rs n

  -- whether some row is free
  abbrev pub some_free : List (Row T) → Bool
  some_free [] = false
  some_free (r ∷ rs) = r.number == 0 || some_free rs

  -- the row at a place, from 0, is free
  abbrev pub FreeAt : List (Row T) → ℕ → Type 0
  FreeAt rs i = (i < length rs) × ((d : Row T) → (slice_index_or rs i d).number ≡ 0)

  -- some row that was free has the entry under the number, and every other row is as it was
  abbrev pub Added : List (Row T) → ℕ → T → List (Row T) → Type 0
  Added rs n e after = (i : ℕ) × (FreeAt rs i × (after ≡ slice_set rs i (record { number = n; entry = e })))

  -- no two rows stand under one number: under a row's number none stands later
  abbrev pub Apart : List (Row T) → Type 0
  Apart [] = Unit {0}
  Apart (r ∷ rs) = (lookup rs r.number ≡ None) × Apart rs

  -- every row's number is below a bound
  abbrev pub NumbersBelow : List (Row T) → ℕ → Type 0
  NumbersBelow [] n = Unit {0}
  NumbersBelow (r ∷ rs) n = (r.number < n) × NumbersBelow rs n

  -- the sum, over the rows in use, of what `f` gives for the entry
  abbrev pub in_use : (T → ℕ) → List (Row T) → ℕ
  in_use f rs = sum_by (λ (r : Row T). cond (r.number == 0) 0 (f r.entry)) rs
