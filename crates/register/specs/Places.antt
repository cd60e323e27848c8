-- Where in the rows a number is, by places from 0: what looking for a row answers.
use Rattle.std.specs.Prelude.{◌≡◌, ℕ, ◌<◌, List, length, get_or, Some, None, ◌≢◌, slice_index_or, slice_set}
use Rattle.register.specs.declared.row.Row.{Row}
use Rattle.register.specs.Rows.{lookup, holding, freed, changed, removed}

module _ {T : Type 0} where
  -- no row before the place has the number
  abbrev pub NoneBefore : List (Row T) → ℕ → ℕ → Type 0
  NoneBefore rs n i = (k : ℕ) (d : Row T) → k < i → (get_or rs k d).number ≢ n

  -- the earliest row with the number is at the place
  abbrev pub FirstAt : List (Row T) → ℕ → ℕ → Type 0
  FirstAt rs n i = (i < length rs) × ((d : Row T) → (get_or rs i d).number ≡ n) × NoneBefore rs n i

  -- no row stands under the number: none is found, changed or removed
  pub record StandsNowhere (rs : List (Row T)) (n : ℕ) : Type 0 where
    pub finds : lookup rs n ≡ None
    pub changes : (e : T) → changed rs n e ≡ rs
    pub removes : removed rs n ≡ rs

  -- the row that stands under the number is at the place: it is found, changed and removed there
  pub record StandsAt (rs : List (Row T)) (n i : ℕ) : Type 0 where
    pub within : i < length rs
    pub finds : (d : Row T) → lookup rs n ≡ Some (get_or rs i d).entry
    pub changes : (e : T) (d : Row T) → changed rs n e ≡ slice_set rs i (holding e (slice_index_or rs i d))
    pub removes : (d : Row T) → removed rs n ≡ slice_set rs i (freed (slice_index_or rs i d))
