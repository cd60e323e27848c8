-- The earliest row with number 0 is free.
use Rattle.register.proofs.Places.{free_from_first}
use Rattle.register.proofs.free_row.Goals as goal

pub returns : goal.returns
returns g c = free_from_first c.args.rows.now c.first_row.result c.first_row.ensures
