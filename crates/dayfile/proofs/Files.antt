-- The first fault of a file, part by part.
use Rattle.std.proofs.Common.{◌≡◌, ℕ, ◌+◌, ◌*◌, ◌%◌, ◌≤◌, Bool, true, false, ◌||◌, ltb, List, length, Some, None, Option, sym, refl, ap, ◌∙◌, arith}
use Rattle.std.proofs.lemmas.Option.{none-some}
use Rattle.std.proofs.lemmas.Bool.{cond-false, or_from, or_parts, not-false, eqb-true, le-ltb, ltb-false}
use Rattle.dayfile.specs.declared.fault.Fault.{Fault}
use Rattle.dayfile.specs.declared.fault.Section.TheVariants.{Settings, Contracts, Calls}
use Rattle.dayfile.specs.declared.record.Span.{Span}
use Rattle.ledger.specs.declared.settings.Settings.{Settings as DaySettings}
use Rattle.dayfile.specs.Bytes.{part}
use Rattle.dayfile.specs.Faults.{fault, first, section_number}
use Rattle.dayfile.specs.Fields.{fields_fault, values}
use Rattle.dayfile.specs.Layout.{settings_fields}
use Rattle.dayfile.specs.Records.{settings_numbers}
use Rattle.dayfile.specs.Located.{SpanOf}
use Rattle.dayfile.specs.Format.{start, extent, end_of, faulty, pair_fault, bad_length, length_fault, settings_part, day_of, size_fault, sections_fault, records_fault, settings_fault, count_of_contracts, contract_fault, count_of_calls, call_fault, first_below, file_fault}
use Rattle.dayfile.proofs.Checking.{first_none}

past : (bytes : List ℕ) (x : Option Fault) → size_fault bytes ≡ None → sections_fault bytes ≡ None → records_fault bytes ≡ x → file_fault bytes ≡ x
past bytes x p q h = ap (λ o. first o (first (sections_fault bytes) (records_fault bytes))) p ∙ ap (λ o. first o (records_fault bytes)) q ∙ h

pub size_kept : (bytes : List ℕ) → 24 ≤ length bytes → length bytes ≤ 60000 → size_fault bytes ≡ None
size_kept bytes low high = cond-false _ _ _ (or_from _ _ (le-ltb _ _ low) (le-ltb _ _ high))

module _ (bytes : List ℕ) (low : 24 ≤ length bytes) (high : length bytes ≤ 60000) (stands : sections_fault bytes ≡ None) where
  among_records : (o : Option Fault) → records_fault bytes ≡ o → file_fault bytes ≡ o
  among_records o h = past bytes o (size_kept bytes low high) stands h

  pub at_settings : (x : Fault) → settings_fault bytes ≡ Some x → file_fault bytes ≡ Some x
  at_settings x h = among_records (Some x) (ap (λ o. first o (first (first_below (count_of_contracts bytes) (contract_fault bytes)) (first_below (count_of_calls bytes) (call_fault bytes)))) h)

  behind_settings : (o : Option Fault) → settings_fault bytes ≡ None → first (first_below (count_of_contracts bytes) (contract_fault bytes)) (first_below (count_of_calls bytes) (call_fault bytes)) ≡ o → file_fault bytes ≡ o
  behind_settings o s h = among_records o (ap (λ y. first y (first (first_below (count_of_contracts bytes) (contract_fault bytes)) (first_below (count_of_calls bytes) (call_fault bytes)))) s ∙ h)

  pub at_contracts : (x : Fault) → settings_fault bytes ≡ None → first_below (count_of_contracts bytes) (contract_fault bytes) ≡ Some x → file_fault bytes ≡ Some x
  at_contracts x s h = behind_settings (Some x) s (ap (λ o. first o (first_below (count_of_calls bytes) (call_fault bytes))) h)

  pub at_calls : (o : Option Fault) → settings_fault bytes ≡ None → first_below (count_of_contracts bytes) (contract_fault bytes) ≡ None → first_below (count_of_calls bytes) (call_fault bytes) ≡ o → file_fault bytes ≡ o
  at_calls o s c h = behind_settings o s (ap (λ y. first y (first_below (count_of_calls bytes) (call_fault bytes))) c ∙ h)

no_fault : (bad : Bool) (n s k p : ℕ) → faulty bad n s k p ≡ None → bad ≡ false
no_fault true n s k p e = absurd (none-some (fault n s k p) (sym e))
no_fault false n s k p e = refl

-- in a sound file the calls lie within it, and each is sound
pub calls_sound : (bytes : List ℕ) → file_fault bytes ≡ None → (start bytes Calls + 24 * count_of_calls bytes ≤ length bytes) × (first_below (count_of_calls bytes) (call_fault bytes) ≡ None)
calls_sound bytes e =
    let q = first_none (size_fault bytes) (first (sections_fault bytes) (records_fault bytes)) e in
    let r = first_none (sections_fault bytes) (records_fault bytes) q.1 in
    let a = first_none (pair_fault bytes Settings 0) _ r.0 in
    let b = first_none (pair_fault bytes Contracts (end_of bytes Settings)) _ a.1 in
    let p = first_none (pair_fault bytes Calls (end_of bytes Contracts)) _ b.1 in
    let clear = no_fault (ltb (start bytes Calls) 24 || (ltb (start bytes Calls) (end_of bytes Contracts) || ltb (length bytes) (end_of bytes Calls))) 2 3 0 16 p.0 in
    let within = (or_parts (ltb (start bytes Calls) (end_of bytes Contracts)) (ltb (length bytes) (end_of bytes Calls)) (or_parts (ltb (start bytes Calls) 24) _ clear).1).1 in
    let calls : Option Fault = first_below (count_of_calls bytes) (call_fault bytes) in
    let s = first_none (settings_fault bytes) (first (first_below (count_of_contracts bytes) (contract_fault bytes)) calls) r.1 in
    (omega (arith, ltb-false _ _ within), (first_none (first_below (count_of_contracts bytes) (contract_fault bytes)) calls s.1).1)

-- and they are whole records
pub calls_whole : (bytes : List ℕ) → file_fault bytes ≡ None → extent bytes Calls ≡ 24 * count_of_calls bytes
calls_whole bytes e =
    let q = first_none (size_fault bytes) (first (sections_fault bytes) (records_fault bytes)) e in
    let r = first_none (sections_fault bytes) (records_fault bytes) q.1 in
    let a = first_none (pair_fault bytes Settings 0) _ r.0 in
    let b = first_none (pair_fault bytes Contracts (end_of bytes Settings)) _ a.1 in
    let p = first_none (pair_fault bytes Calls (end_of bytes Contracts)) _ b.1 in
    let s = first_none (length_fault bytes Settings) _ p.1 in
    let t = first_none (length_fault bytes Contracts) _ s.1 in
    let clear = no_fault (bad_length Calls (extent bytes Calls)) 3 3 0 20 t.1 in
    omega (arith, eqb-true (extent bytes Calls % 24) 0 (not-false _ clear))

-- the settings of the file
module _ (bytes : List ℕ) (span : Span) (of : SpanOf bytes Settings span) (whole : length span.bytes.now ≡ 20) where
  pub settings_bytes : span.bytes.now ≡ settings_part bytes
  settings_bytes = of.bytes_are ∙ ap (λ n. part bytes (start bytes Settings) n) (sym of.long ∙ whole)

  pub settings_judged : fields_fault span.bytes.now (section_number span.section) 1 span.place settings_fields ≡ settings_fault bytes
  settings_judged =
      ap (λ b. fields_fault b (section_number span.section) 1 span.place settings_fields) settings_bytes
      ∙ ap (λ s. fields_fault (settings_part bytes) (section_number s) 1 span.place settings_fields) of.section
      ∙ ap (λ p. fields_fault (settings_part bytes) 1 1 p settings_fields) of.place

  pub settings_said : (s : DaySettings) → settings_numbers s ≡ values span.bytes.now settings_fields → settings_numbers s ≡ values (settings_part bytes) settings_fields
  settings_said s e = e ∙ ap (λ b. values b settings_fields) settings_bytes

  pub day_said : (s : DaySettings) → settings_numbers s ≡ values span.bytes.now settings_fields → s.day ≡ day_of bytes
  day_said s e = let said = settings_said s e in cc
