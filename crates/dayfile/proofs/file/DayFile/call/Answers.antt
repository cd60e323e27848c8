use Rattle.std.proofs.Common.{◌+◌, ◌-◌, ◌*◌, length, take, drop, ap, ◌∙◌, arith}
use Rattle.std.proofs.lemmas.List.{take-take}
use Rattle.dayfile.specs.Records.{call_in}
use Rattle.dayfile.proofs.Calling.{one_there}
use Rattle.dayfile.proofs.file.DayFile.call.Goals as goal

pub returns-clause-own : goal.returns-clause-own
returns-clause-own c =
    let d = c.args.self.now in
    let bytes = c.args.bytes.now in
    let place = d.calls + 24 * c.args.k in
    let behind = c.in_ok-get.ensures.lookup.0 in
    let split = c.in_ok-record.ensures.cases in
    let whole = ap (take 24) behind.2 ∙ take-take 24 (length bytes - place) (drop place bytes) (omega (arith, behind.3, split.2)) in
    (one_there d bytes c.args.k (omega arith) (omega (arith, behind.3, split.2)) c.call.result (c.call.ensures ∙ ap call_in (split.0 ∙ whole))).1
