-- Under 0 none stands; any other number stands where its earliest row is.
use Rattle.register.proofs.Places.{zero_nowhere, stands_from_first}
use Rattle.register.proofs.row_under.Goals as goal

pub returns-then-number-eq-FREE : goal.returns-then-number-eq-FREE
returns-then-number-eq-FREE g c = zero_nowhere c.args.rows.now c.args.number c.if-number-eq-FREE.true

pub returns : goal.returns
returns g c = stands_from_first c.args.rows.now c.args.number c.first_row.result c.if-number-eq-FREE.false c.first_row.ensures
