-- The laws from call to call, from what each call leaves.
use Rattle.std.proofs.Common.{◌≡◌, ℕ, ◌+◌, List, None, Ok, ap, arith}
use Rattle.register.specs.declared.row.Row.{Row}
use Rattle.register.specs.declared.series.Series.{Series}
use Rattle.register.specs.Calls.{Adds}
use Rattle.register.specs.Laws.{InOrder, LookUpAfterAddition, FreeRowsInOrder, ChangeKeepsOrder, RemovalKeepsOrder, AdditionKeepsOrder, NumberGivenIsNew, SumAfterAddition}
use Rattle.register.specs.Numbers.{next_of}
use Rattle.register.specs.Rows.{lookup}
use Rattle.register.proofs.After.{lookup_added, apart_changed, apart_removed, apart_added, apart_free, below_changed, below_removed, below_added, below_raised, absent_above, found_below, in_use_added}

module _ {T : Type 0} where
  -- the number given was not there
  number_absent : (rs after : List (Row T)) (s moved : Series) (n : ℕ) (e : T) → InOrder rs s → Adds rs s e (Ok n) after moved → lookup rs n ≡ None
  number_absent rs after s moved n e order added = absent_above rs n (next_of s) (omega (arith, added.1)) order.1

module _ (T : Type 0) where
  pub look_up_after_addition : LookUpAfterAddition T
  look_up_after_addition rs after s moved n k e order added =
      lookup_added rs after n k e (λ z. omega (arith, added.1)) (number_absent rs after s moved n e order added) added.2

  pub free_rows_in_order : FreeRowsInOrder T
  free_rows_in_order rs s free = (apart_free rs free, below_raised rs 1 (next_of s) (omega arith) free)

  pub change_keeps_order : ChangeKeepsOrder T
  change_keeps_order rs s n e order = (apart_changed rs n e order.0, below_changed rs n (next_of s) e order.1)

  pub removal_keeps_order : RemovalKeepsOrder T
  removal_keeps_order rs s n order = (apart_removed rs n order.0, below_removed rs n (next_of s) order.1)

  pub addition_keeps_order : AdditionKeepsOrder T
  addition_keeps_order rs after s moved n e order added =
      let next : next_of moved ≡ next_of s + 1 = ap next_of added.3 in (
        apart_added rs after n e (λ z. omega (arith, added.1)) (number_absent rs after s moved n e order added) added.2 order.0,
        below_added rs after n (next_of moved) e (omega (arith, added.1)) added.2 (below_raised rs (next_of s) (next_of moved) (omega arith) order.1),
      )

  pub number_given_is_new : NumberGivenIsNew T
  number_given_is_new rs after s moved n e order added =
      (number_absent rs after s moved n e order added, λ k x p. omega (arith, added.1, found_below rs k (next_of s) x order.1 p))

  pub sum_after_addition : SumAfterAddition T
  sum_after_addition f rs after s moved n e added = in_use_added f rs after n e (λ z. omega (arith, added.1)) added.2
