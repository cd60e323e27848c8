use Rattle.std.proofs.Common.{◌≡◌, true, drop}
use Rattle.dayfile.specs.Faults.{section_number}
use Rattle.dayfile.specs.Fields.{fields_fault, all_inside}
use Rattle.dayfile.proofs.record.Record.check.Given as goal

abbrev pub invariant-loop-field : goal.invariant-loop-field
invariant-loop-field g l =
    (fields_fault l.self.bytes.now (section_number l.self.section) l.self.ordinal l.self.place (drop l.field-index l.fields) ≡ fields_fault l.self.bytes.now (section_number l.self.section) l.self.ordinal l.self.place l.fields)
    × (all_inside g.row.W (drop l.field-index l.fields) ≡ true)
