use Rattle.std.proofs.Common.{sym, ◌∙◌, arith}
use Rattle.std.proofs.lemmas.List.{at_drop_all}
use Rattle.dayfile.specs.Faults.{section_number}
use Rattle.dayfile.specs.Fields.{fields_fault}
use Rattle.dayfile.proofs.Checking.{fields_kept}
use Rattle.dayfile.proofs.record.Record.check.Goals as goal

pub returns-clause-kept : goal.returns-clause-kept
returns-clause-kept g c =
    let record_ = c.args.self.now in
    let fields = c.args.fields.now in
    fields_kept record_.bytes.now (section_number record_.section) record_.ordinal record_.place fields
    (sym c.loop-field.invariant.0 ∙ at_drop_all (fields_fault record_.bytes.now (section_number record_.section) record_.ordinal record_.place) fields c.loop-field.field-index (omega arith))
