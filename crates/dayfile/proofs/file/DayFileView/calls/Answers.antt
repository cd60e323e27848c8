use Rattle.dayfile.proofs.Viewing.{own_viewed}
use Rattle.dayfile.proofs.file.DayFileView.calls.Goals as goal

pub returns-clause-own : goal.returns-clause-own
returns-clause-own c = own_viewed c.args.self.now _ cc
