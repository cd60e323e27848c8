-- The laws on numbers.
use Rattle.register.proofs.Order.{free_rows_in_order, change_keeps_order, removal_keeps_order, addition_keeps_order, number_given_is_new}
use Rattle.register.proofs.laws.numbers_stay_in_order.Goals as goal

pub returns : goal.returns
returns g c = record {
  free = free_rows_in_order _;
  change = change_keeps_order _;
  removal = removal_keeps_order _;
  addition = addition_keeps_order _;
  new = number_given_is_new _;
}
