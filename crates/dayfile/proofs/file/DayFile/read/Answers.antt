use Rattle.std.proofs.Common.{◌/◌, None, sym, ap, ◌∙◌, arith}
use Rattle.std.proofs.lemmas.Result.{err_from_is_err_and}
use Rattle.dayfile.specs.Faults.{section_told}
use Rattle.dayfile.proofs.Files.{at_settings, at_contracts, at_calls, settings_judged, settings_said, day_said}
use Rattle.dayfile.proofs.file.DayFile.read.Goals as goal

pub returns-in_err-settings : goal.returns-in_err-settings
returns-in_err-settings c =
    let p = err_from_is_err_and c.from_residual-in_err-settings.result c.from_residual-in_err-settings.ensures.1 in
    let s = c.in_ok-sections.ensures in
    rw (p.1, p.2) (at_settings c.args.bytes.now (omega arith) (omega arith) s.fault (section_told c.in_err-settings.field-0.0)
    (sym (settings_judged c.args.bytes.now _ s.said.settings s.said.settings_whole) ∙ c.in_err-settings.ensures.fault))

pub returns-in_err-listing : goal.returns-in_err-listing
returns-in_err-listing c =
    let p = err_from_is_err_and c.from_residual-in_err-listing.result c.from_residual-in_err-listing.ensures.1 in
    let s = c.in_ok-sections.ensures in
    let bytes = c.args.bytes.now in
    let sets = c.in_ok-settings.ensures in
    let day = day_said bytes _ s.said.settings s.said.settings_whole c.in_ok-settings.settings sets.said in
    rw (p.1, p.2) (at_contracts bytes (omega arith) (omega arith) s.fault (section_told c.in_err-listing.field-0.0)
    (sym (settings_judged bytes _ s.said.settings s.said.settings_whole) ∙ sets.fault) (c.in_err-listing.ensures bytes s.said.contracts day))

pub returns-in_err-check_all : goal.returns-in_err-check_all
returns-in_err-check_all c =
    let p = err_from_is_err_and c.from_residual-in_err-check_all.result c.from_residual-in_err-check_all.ensures.1 in
    let s = c.in_ok-sections.ensures in
    let bytes = c.args.bytes.now in
    let sets = c.in_ok-settings.ensures in
    let day = day_said bytes _ s.said.settings s.said.settings_whole c.in_ok-settings.settings sets.said in
    rw (p.1, p.2) (at_calls bytes (omega arith) (omega arith) s.fault _
    (sym (settings_judged bytes _ s.said.settings s.said.settings_whole) ∙ sets.fault) (c.in_ok-listing.ensures bytes s.said.contracts day).0 (c.in_err-check_all.ensures bytes s.said.calls))

pub returns : goal.returns
returns c =
    let s = c.in_ok-sections.ensures in
    let bytes = c.args.bytes.now in
    let sets = c.in_ok-settings.ensures in
    let listed = c.in_ok-listing.ensures bytes s.said.contracts (day_said bytes _ s.said.settings s.said.settings_whole c.in_ok-settings.settings sets.said) in record {
      sound = at_calls bytes (omega arith) (omega arith) s.fault None
          (sym (settings_judged bytes _ s.said.settings s.said.settings_whole) ∙ sets.fault) listed.0 (c.in_ok-check_all.ensures bytes s.said.calls);
      settings = settings_said bytes _ s.said.settings s.said.settings_whole c.in_ok-settings.settings sets.said;
      contracts = listed.1;
      calls_start = s.said.calls.place;
      calls_counted = ap (λ n. n / 24) s.said.calls.long;
    }
