use Rattle.std.proofs.Common.{List, ℕ, Option, sym, ap, ◌∙◌}
use Rattle.std.proofs.lemmas.Result.{err_from_is_err_and}
use Rattle.dayfile.specs.declared.fault.Section.{Section}
use Rattle.dayfile.specs.declared.fault.Fault.{Fault}
use Rattle.dayfile.specs.declared.field.Field.{Field}
use Rattle.dayfile.specs.Faults.{section_number}
use Rattle.dayfile.specs.Fields.{fields_fault, values}
use Rattle.dayfile.specs.Layout.{settings_fields}
use Rattle.dayfile.proofs.Handed.{only}
use Rattle.dayfile.proofs.settings.parse.settings.Goals as goal

abbrev judged : List Field → Section → List ℕ → ℕ → ℕ → Option Fault
judged fs s bytes ordinal place = fields_fault bytes (section_number s) ordinal place fs

pub returns-in_err-check-clause-fault : goal.returns-in_err-check-clause-fault
returns-in_err-check-clause-fault c =
    let span = c.args.span.now in
    let p = err_from_is_err_and c.from_residual.result c.from_residual.ensures.1 in
    rw (p.1, p.2) (ap (λ fs. judged fs span.section span.bytes.now 1 span.place) (sym c.fields.ensures)
    ∙ sym (only (judged c.fields.result) c.requires c.records.ensures c.in-Some.ensures.steps) ∙ c.in_err-check.ensures.fault)

pub returns-clause-fault : goal.returns-clause-fault
returns-clause-fault c =
    let span = c.args.span.now in
    ap (λ fs. judged fs span.section span.bytes.now 1 span.place) (sym c.fields.ensures)
    ∙ sym (only (judged c.fields.result) c.requires c.records.ensures c.in-Some.ensures.steps) ∙ c.in_ok-check.ensures.fault

pub returns-clause-said : goal.returns-clause-said
returns-clause-said c = c.settings_in.ensures ∙ only (λ s b n at. values b settings_fields) c.requires c.records.ensures c.in-Some.ensures.steps
