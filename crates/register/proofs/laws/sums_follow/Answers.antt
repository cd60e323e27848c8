-- The laws on sums.
use Rattle.register.proofs.After.{in_use_changed, in_use_removed}
use Rattle.register.proofs.Order.{sum_after_addition}
use Rattle.register.proofs.laws.sums_follow.Goals as goal

pub returns : goal.returns
returns g c = record { change = in_use_changed; removal = in_use_removed; addition = sum_after_addition _ }
