-- What holds of rows and series from call to call, for each type of entry.
use Rattle.std.specs.Prelude.{◌≡◌, ℕ, ◌+◌, ◌<◌, cond, List, Some, None, Ok, ◌==◌}
use Rattle.register.specs.declared.row.Row.{Row}
use Rattle.register.specs.declared.series.Series.{Series}
use Rattle.register.specs.Calls.{Adds}
use Rattle.register.specs.Numbers.{next_of}
use Rattle.register.specs.Rows.{lookup, changed, removed, Apart, NumbersBelow, in_use}

-- no two rows stand under one number, and every number is below the series' next
abbrev pub InOrder : {T : Type 0} → List (Row T) → Series → Type 0
InOrder rs s = Apart rs × NumbersBelow rs (next_of s)

module _ (T : Type 0) where
  -- after a change: under the number the new entry, under every other what stood
  abbrev pub LookUpAfterChange : Type 0
  LookUpAfterChange = (rs : List (Row T)) (n k : ℕ) (e x : T) → lookup rs n ≡ Some x →
      lookup (changed rs n e) k ≡ cond (n == k) (Some e) (lookup rs k)

  -- after a removal: under the number none, under every other what stood
  abbrev pub LookUpAfterRemoval : Type 0
  LookUpAfterRemoval = (rs : List (Row T)) (n k : ℕ) → Apart rs →
      lookup (removed rs n) k ≡ cond (n == k) None (lookup rs k)

  -- after an addition: under the number given the entry, under every other what stood
  abbrev pub LookUpAfterAddition : Type 0
  LookUpAfterAddition = (rs after : List (Row T)) (s moved : Series) (n k : ℕ) (e : T) → InOrder rs s → Adds rs s e (Ok n) after moved →
      lookup after k ≡ cond (n == k) (Some e) (lookup rs k)

  -- rows that are all free are in order with any series
  abbrev pub FreeRowsInOrder : Type 0
  FreeRowsInOrder = (rs : List (Row T)) (s : Series) → NumbersBelow rs 1 → InOrder rs s

  -- a change keeps the order
  abbrev pub ChangeKeepsOrder : Type 0
  ChangeKeepsOrder = (rs : List (Row T)) (s : Series) (n : ℕ) (e : T) → InOrder rs s → InOrder (changed rs n e) s

  -- a removal keeps the order
  abbrev pub RemovalKeepsOrder : Type 0
  RemovalKeepsOrder = (rs : List (Row T)) (s : Series) (n : ℕ) → InOrder rs s → InOrder (removed rs n) s

  -- an addition keeps the order, with the series moved on
  abbrev pub AdditionKeepsOrder : Type 0
  AdditionKeepsOrder = (rs after : List (Row T)) (s moved : Series) (n : ℕ) (e : T) → InOrder rs s → Adds rs s e (Ok n) after moved → InOrder after moved

  -- the number given was not there, and is above every one that was
  abbrev pub NumberGivenIsNew : Type 0
  NumberGivenIsNew = (rs after : List (Row T)) (s moved : Series) (n : ℕ) (e : T) → InOrder rs s → Adds rs s e (Ok n) after moved →
      (lookup rs n ≡ None) × ((k : ℕ) (x : T) → lookup rs k ≡ Some x → k < n)

  -- after a change the sum has the new entry's part for the old one's
  abbrev pub SumAfterChange : Type 0
  SumAfterChange = (f : T → ℕ) (rs : List (Row T)) (n : ℕ) (e x : T) → lookup rs n ≡ Some x →
      in_use f (changed rs n e) + f x ≡ in_use f rs + f e

  -- after a removal the sum lacks the entry's part
  abbrev pub SumAfterRemoval : Type 0
  SumAfterRemoval = (f : T → ℕ) (rs : List (Row T)) (n : ℕ) (x : T) → lookup rs n ≡ Some x →
      in_use f (removed rs n) + f x ≡ in_use f rs

  -- after an addition the sum has the entry's part too
  abbrev pub SumAfterAddition : Type 0
  SumAfterAddition = (f : T → ℕ) (rs after : List (Row T)) (s moved : Series) (n : ℕ) (e : T) → Adds rs s e (Ok n) after moved →
      in_use f after ≡ in_use f rs + f e
