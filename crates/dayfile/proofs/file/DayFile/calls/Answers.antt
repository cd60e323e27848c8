use Rattle.std.proofs.Common.{◌*◌, sym, subst}
use Rattle.dayfile.specs.Numbered.{Numbered}
use Rattle.dayfile.proofs.Calling.{calls_part, says_with, reach, own_calls, own_numbered}
use Rattle.dayfile.proofs.file.DayFile.calls.Goals as goal

pub returns-clause-are : goal.returns-clause-are
returns-clause-are c = reach c.args.bytes.now c.args.self.now.calls (24 * c.args.self.now.call_count) _ _ c.min.ensures c.min-2.ensures

pub returns-clause-own : goal.returns-clause-own
returns-clause-own c = own_calls c.args.self.now c.args.bytes.now _ (reach c.args.bytes.now c.args.self.now.calls (24 * c.args.self.now.call_count) _ _ c.min.ensures c.min-2.ensures)

pub returns-clause-numbered : goal.returns-clause-numbered
returns-clause-numbered c = λ says.
    let d = c.args.self.now in
    let bytes = c.args.bytes.now in
    subst Numbered (sym (reach bytes d.calls (24 * d.call_count) _ _ c.min.ensures c.min-2.ensures)) (own_numbered d bytes (calls_part d bytes) (says_with d bytes says))
