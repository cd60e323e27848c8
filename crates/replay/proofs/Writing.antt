-- A report written line by line: what stands behind that which was taken before, and one line more.
use Rattle.std.proofs.Common.{◌≡◌, ℕ, ◌+◌, ◌^◌, ◌<◌, List, [], ◌∷◌, ◌++◌, length, map, Some, None, Option, sym, refl, ap, ◌∙◌, subst, arith, length-append}
use Rattle.std.proofs.lemmas.List.{append-nil, append_assoc, flat_map_more}
use denote.RawPtr.{null_ptr}
use Rattle.std.specs.Io.KnownBytes.{Appends}
use Rattle.margin.specs.Listing.{listed}
use Rattle.margin.specs.Meaning.{Meaning, raised_meaning}
use Rattle.ledger.specs.declared.call.Call.{Call}
use Rattle.ledger.specs.declared.settings.BaseScale.{BaseScale}
use Rattle.ledger.specs.declared.settings.Settings.{Settings}
use Rattle.ledger.specs.declared.tables.Tables.{Tables}
use Rattle.ledger.specs.Keeps.{Opened, KeptBy}
use Rattle.ledger.specs.Runs.{Law}
use Rattle.dayfile.specs.declared.file.DayFile.{DayFile}
use Rattle.dayfile.specs.Format.{call_at, count_of_calls}
use Rattle.dayfile.specs.Read.{Says, SaysWith}
use Rattle.dayfile.proofs.Calling.{calls_part, says_with}
use Rattle.replay.specs.declared.report.OpeningLine.{OpeningLine}
use Rattle.replay.specs.declared.report.CallLine.{CallLine}
use Rattle.replay.specs.declared.report.EndLine.{EndLine}
use Rattle.replay.specs.declared.report.Report.{Report}
use Rattle.replay.specs.Lines.{LineOf, answer_of}
use Rattle.replay.specs.Replayed.{base_meaning, numbered_calls, place_and_call, first_ledger, DayWritten, TextOf, TextWritten}
use Rattle.replay.specs.Text.{opening_text, call_text, end_text, call_lines, line, report_text}
use Rattle.replay.proofs.Telling.{SoFar, none_told, one_told, numbered_more, all_told, reported}

pub appends_on : (a b c : Option (List ℕ)) (x y : List ℕ) → Appends a b x → Appends b c y → Appends a c (x ++ y)
appends_on None b c x y p q = tt
appends_on (Some xs) None c x y p q = absurd p
appends_on (Some xs) (Some ys) None x y p q = absurd q
appends_on (Some xs) (Some ys) (Some zs) x y p q = q ∙ ap (λ l. l ++ y) p ∙ append_assoc xs x y

-- the opening line of a file
abbrev pub opening_of : DayFile → OpeningLine
opening_of d = record { day = d.settings.day; contracts = length (listed d.listing); balance = d.settings.opening }

-- a report with these lines
abbrev report_of : OpeningLine → (lines : List CallLine) → EndLine → length lines < 2 ^ 63 → Report
report_of opening lines end small = record {
  opening = opening;
  calls = record { ptr = null_ptr; len = length lines; cap = length lines; alloc = record { memory = record { seal = tt } }; items = lines; ok = (refl, omega arith); small = small };
  end = end;
}

-- the opening line and the lines of the first k calls, behind what was taken before
pub record Behind (m : Meaning) (d : DayFile) (bytes : List ℕ) (first : Tables) (start now : Option (List ℕ)) (k : ℕ) (book : Tables) : Type 0 where
  pub lines : List CallLine
  pub told : SoFar m d.settings (listed d.listing) first lines book
  pub many : length lines ≡ k
  pub calls : (own : List ℕ) → SaysWith own d (calls_part d bytes) → map place_and_call lines ≡ numbered_calls own k
  pub written : Appends start now (line (opening_text (opening_of d)) ++ call_lines lines)

module _ (m : Meaning) (d : DayFile) (bytes : List ℕ) (first : Tables) (start : Option (List ℕ)) where
  pub none_written : (now : Option (List ℕ)) → Opened (listed d.listing) d.settings.permitted d.settings.opening d.settings.first_number first → Law m (first_ledger d.settings) first →
      Appends start now (line (opening_text (opening_of d))) → Behind m d bytes first start now 0 first
  none_written now opened law there = record {
    lines = [];
    told = none_told m d.settings (listed d.listing) first opened law;
    many = refl;
    calls = λ own says. refl;
    written = subst (Appends start now) (sym (append-nil (line (opening_text (opening_of d))))) there;
  }

  -- one line more
  pub one_written : (now then : Option (List ℕ)) (k place : ℕ) (x : CallLine) (c : Call) (book after : Tables) → Behind m d bytes first start now k book → LineOf m book place c x after → KeptBy m book c (answer_of x.outcome x.balance) after →
      place ≡ k + 1 → ((own : List ℕ) → SaysWith own d (calls_part d bytes) → c ≡ call_at own k) → Appends now then (line (call_text x)) → Behind m d bytes first start then (k + 1) after
  one_written now then k place x c book after so told kept at is more = record {
    lines = so.lines ++ x ∷ [];
    told = one_told m d.settings (listed d.listing) first so.lines x book after place c so.told told kept;
    many = omega (arith, length-append so.lines (x ∷ []), so.many);
    calls = λ own says. numbered_more m own k so.lines x book after place c told at (is own says) (so.calls own says);
    written = subst (Appends start then) (flat_map_more (λ y. line (call_text y)) (line (opening_text (opening_of d))) so.lines x) (appends_on start now then _ _ so.written more);
  }

  -- the whole day
  pub all_written : (now last : Option (List ℕ)) (k : ℕ) (book : Tables) (end : EndLine) → Behind m d bytes first start now k book → k < 2 ^ 63 → ((own : List ℕ) → SaysWith own d (calls_part d bytes) → k ≡ count_of_calls own) →
      end ≡ record { balance = book.funds.balance; held = book.funds.held; reserves = book.funds.reserved; cash = book.funds.cash } → Appends now last (line (end_text end)) → DayWritten m bytes d start last
  all_written now last k book end so small ended is more own says =
      let report = report_of (opening_of d) so.lines end (omega (arith, so.many, small)) in (
        report,
        (
          record {
            opening_is = refl;
            calls_are = so.calls own says ∙ ap (numbered_calls own) (ended own says);
            told = all_told m d.settings (listed d.listing) first so.lines book end so.told is;
          },
          subst (Appends start last) (append_assoc (line (opening_text (opening_of d))) (call_lines so.lines) (line (end_text end))) (appends_on start now last _ _ so.written more),
        ),
      )

-- what was written of a file that was read from the bytes is their text, over the base scale that its settings name
pub day_is_text : (bytes : List ℕ) (d : DayFile) (s : Settings) (scale : BaseScale) (before after : Option (List ℕ)) → Says bytes d → s ≡ d.settings → s.scale ≡ scale →
    DayWritten (raised_meaning d.settings.second_raise.value (raised_meaning d.settings.first_raise.value (base_meaning scale))) bytes d before after → TextWritten bytes before after
day_is_text bytes d s scale before after says same is written =
    let w = written bytes (says_with d bytes says) in
    let told = reported bytes d s scale w.0 says same is w.1.0 in (report_text w.0, (rw (told.sound, TextOf) (w.0, (told, refl)), w.1.1))
