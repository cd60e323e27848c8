use Rattle.std.proofs.Common.{subst}
use Rattle.dayfile.specs.Read.{SaysWith}
use Rattle.dayfile.proofs.Calling.{says_with}
use Rattle.dayfile.proofs.file.DayFileView.read.Goals as goal

pub returns : goal.returns
returns c =
    let d = c.in_ok-file.file in
    let bytes = c.args.bytes.now in
    let says = c.in_ok-file.ensures in (says, subst (SaysWith bytes d) (cc c.calls.ensures.are) (says_with d bytes says))
