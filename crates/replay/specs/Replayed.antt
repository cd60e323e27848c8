-- What a report says of the day file that it was made from. Assumes nothing.
use Rattle.std.specs.Prelude.{◌≡◌, ℕ, zero, suc, ◌+◌, ◌*◌, List, [], ◌∷◌, ◌++◌, map, length, Some, None, Ok, Err, vec_items, Option, Result}
use Rattle.std.specs.Io.KnownBytes.{Appends}
use Rattle.margin.specs.declared.contract.Contract.{Contract}
use Rattle.margin.specs.Meaning.{Meaning, standard_meaning, listed_meaning, raised_meaning}
use Rattle.margin.specs.Terms.{terms_of}
use Rattle.ledger.specs.declared.call.Call.{Call}
use Rattle.ledger.specs.declared.settings.BaseScale.{BaseScale}
use Rattle.ledger.specs.declared.settings.BaseScale.TheVariants.{Standard, Listed}
use Rattle.ledger.specs.declared.settings.Settings.{Settings}
use Rattle.ledger.specs.declared.tables.Tables.{Tables}
use Rattle.ledger.specs.Keeps.{Opened}
use Rattle.ledger.specs.Law.{margin_held, reserves}
use Rattle.ledger.specs.Ledger.{Ledger, opening_ledger}
use Rattle.ledger.specs.Runs.{Run, LawAlong}
use Rattle.margin.specs.Listing.{listed}
use Rattle.dayfile.specs.declared.file.DayFile.{DayFile}
use Rattle.dayfile.specs.Bytes.{part}
use Rattle.dayfile.specs.Read.{SaysWith}
use Rattle.dayfile.specs.Faults.{file_told}
use Rattle.dayfile.specs.Fields.{values}
use Rattle.dayfile.specs.Format.{settings_part, terms, count_of_contracts, count_of_calls, call_at, file_fault}
use Rattle.dayfile.specs.Layout.{settings_fields}
use Rattle.dayfile.specs.Records.{settings_numbers}
use Rattle.dayfile.specs.Text.{fault_text}
use Rattle.replay.specs.declared.failure.Failure.{Failure}
use Rattle.replay.specs.declared.failure.Failure.TheVariants.{Faulty, OutOfMemory}
use Rattle.replay.specs.declared.report.CallLine.{CallLine}
use Rattle.replay.specs.declared.report.EndLine.{EndLine}
use Rattle.replay.specs.declared.report.Report.{Report}
use Rattle.replay.specs.Text.{line, report_text}
use Rattle.replay.specs.Lines.{events_of, ledger_after, Explained, BalancesExplained}

abbrev pub base_meaning : BaseScale → Meaning
base_meaning Standard = standard_meaning
base_meaning Listed = listed_meaning

-- the meaning of the day's scale: the base scale, raised by the first raise, and that by the second
abbrev pub day_meaning : Settings → Meaning
day_meaning s = raised_meaning s.second_raise.value (raised_meaning s.first_raise.value (base_meaning s.scale))

-- the first k calls of the file, each with its place from 1
abbrev pub numbered_calls : List ℕ → ℕ → List (ℕ × Call)
numbered_calls bytes zero = []
numbered_calls bytes (suc k) = numbered_calls bytes k ++ (suc k, call_at bytes k) ∷ []

abbrev pub place_and_call : CallLine → ℕ × Call
place_and_call x = (x.place, x.call)

abbrev pub first_ledger : Settings → Ledger
first_ledger s = opening_ledger s.opening s.first_number

-- the end line says what the ledger after the last line says
pub record EndExplained (m : Meaning) (cs : List Contract) (l : Ledger) (end : EndLine) : Type 0 where
  pub held : end.held ≡ margin_held m cs l
  pub reserved : end.reserves ≡ reserves m cs l
  pub cash : end.cash + l.went_out ≡ l.came_in
  pub balance : Explained m cs l end.balance

-- The lines of a day under a scale's meaning. A book is opened from settings and contracts; the lines tell a run by the rules from there, and the end line its last state. The law stands along that run, from the ledger at opening on; and each balance, and the end line, is explained by the ledger that the lines themselves feed.
pub record Told (m : Meaning) (cs : List Contract) (s : Settings) (lines : List CallLine) (end : EndLine) : Type 0 where
  pub first : Tables
  pub last : Tables
  pub opened : Opened cs s.permitted s.opening s.first_number first
  pub run : Run m first (events_of lines) last
  pub law : LawAlong m cs first last (events_of lines) run (first_ledger s)
  pub balances : BalancesExplained m cs (first_ledger s) lines
  pub end_is : end ≡ record { balance = last.funds.balance; held = last.funds.held; reserves = last.funds.reserved; cash = last.funds.cash }
  pub end_explained : EndExplained m cs (ledger_after cs lines (first_ledger s)) end

-- the report of a day: its opening line, just the file's calls at their places, and what the lines tell
pub record DayReport (m : Meaning) (bytes : List ℕ) (s : Settings) (cs : List Contract) (report : Report) : Type 0 where
  pub opening_is : report.opening ≡ record { day = s.day; contracts = length cs; balance = s.opening }
  pub calls_are : map place_and_call (vec_items report.calls) ≡ numbered_calls bytes (count_of_calls bytes)
  pub told : Told m cs s (vec_items report.calls) report.end

-- the report of a file with the calls that stand at its places of some bytes, as of any bytes that say it with these calls
abbrev pub FileReport : Meaning → List ℕ → DayFile → Report → Type 0
FileReport m at_hand d report = (bytes : List ℕ) → SaysWith bytes d (part at_hand d.calls (24 * d.call_count)) → DayReport m bytes d.settings (listed d.listing) report

-- the report of the bytes: they have no fault, and it is the report of the settings, contracts and calls that they say, under the scale of those settings
pub record Reported (bytes : List ℕ) (report : Report) : Type 0 where
  pub sound : file_fault bytes ≡ None
  pub settings : Settings
  pub settings_are : settings_numbers settings ≡ values (settings_part bytes) settings_fields
  pub contracts : List Contract
  pub contracts_are : map terms_of contracts ≡ terms bytes (count_of_contracts bytes)
  pub day : DayReport (day_meaning settings) bytes settings contracts report

-- a report, or the fault of the bytes; only where they have none may memory be wanting
abbrev pub Replayed : List ℕ → Result Report Failure → Type 0
Replayed bytes (Ok report) = Reported bytes report
Replayed bytes (Err (Faulty e)) = file_fault bytes ≡ Some (file_told e)
Replayed bytes (Err OutOfMemory) = file_fault bytes ≡ None

-- The text of a day file's report, from its bytes: the line of their fault, or the text of their report.
abbrev pub TextOf : List ℕ → List ℕ → Type 0
TextOf bytes text = elim (file_fault bytes) [ Some fault ↦ text ≡ line (fault_text fault) | None ↦ (report : Report) × (Reported bytes report × (text ≡ report_text report)) ]

-- What was taken before is followed by the text of the bytes' report, where it is known.
abbrev pub TextWritten : List ℕ → Option (List ℕ) → Option (List ℕ) → Type 0
TextWritten bytes before after = (text : List ℕ) × (TextOf bytes text × Appends before after text)

-- the same of the report of a file under a scale's meaning, with the calls at hand, as of any bytes that say it with these
abbrev pub DayWritten : Meaning → List ℕ → DayFile → Option (List ℕ) → Option (List ℕ) → Type 0
DayWritten m at_hand d before after = (bytes : List ℕ) → SaysWith bytes d (part at_hand d.calls (24 * d.call_count)) → (report : Report) × (DayReport m bytes d.settings (listed d.listing) report × Appends before after (report_text report))
