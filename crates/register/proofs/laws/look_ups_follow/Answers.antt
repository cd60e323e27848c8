-- The laws on look-ups.
use Rattle.register.proofs.After.{lookup_changed, lookup_removed}
use Rattle.register.proofs.Order.{look_up_after_addition}
use Rattle.register.proofs.laws.look_ups_follow.Goals as goal

pub returns : goal.returns
returns g c = record { change = lookup_changed; removal = lookup_removed; addition = look_up_after_addition _ }
