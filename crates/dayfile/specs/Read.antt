-- What reading a day file answers. Assumes nothing.
use Rattle.std.specs.Prelude.{◌≡◌, ℕ, ◌+◌, ◌*◌, ◌/◌, ◌<◌, ◌≤◌, cond, ◌&&◌, List, length, take, drop, Some, None, Ok, Err, Option, Result, nat_le, nat_lt}
use Rattle.margin.specs.Listing.{listed_terms}
use Rattle.ledger.specs.declared.call.Call.{Call}
use Rattle.dayfile.specs.declared.fault.FileFault.{FileFault}
use Rattle.dayfile.specs.declared.fault.Section.TheVariants.{Calls}
use Rattle.dayfile.specs.declared.file.Calls.{Calls as CallsLeft}
use Rattle.dayfile.specs.declared.file.CallsIn.{CallsIn}
use Rattle.dayfile.specs.declared.file.DayFile.{DayFile}
use Rattle.dayfile.specs.declared.file.DayFileView.{DayFileView}
use Rattle.dayfile.specs.Bytes.{part, value}
use Rattle.dayfile.specs.Faults.{file_told}
use Rattle.dayfile.specs.Fields.{values}
use Rattle.dayfile.specs.Layout.{settings_fields, call_fields, call_column}
use Rattle.dayfile.specs.Records.{settings_numbers, call_in, call_numbers}
use Rattle.dayfile.specs.Format.{start, section_part, settings_part, terms, count_of_contracts, count_of_calls, call_part, call_at, file_fault}

-- The bytes have no fault, and this is what they say.
pub record Says (bytes : List ℕ) (d : DayFile) : Type 0 where
  pub sound : file_fault bytes ≡ None
  pub settings : settings_numbers d.settings ≡ values (settings_part bytes) settings_fields
  pub contracts : listed_terms d.listing ≡ terms bytes (count_of_contracts bytes)
  pub calls_start : d.calls ≡ start bytes Calls
  pub calls_counted : d.call_count ≡ count_of_calls bytes

-- what the bytes say, or their fault
abbrev pub ReadAs : List ℕ → Result DayFile FileFault → Type 0
ReadAs bytes (Ok d) = Says bytes d
ReadAs bytes (Err e) = file_fault bytes ≡ Some (file_told e)

-- the call at k, counted from 0, in bytes that reach as far
abbrev pub call_of : DayFile → List ℕ → ℕ → Option Call
call_of d bytes k = cond (nat_lt k d.call_count && nat_le (d.calls + 24 * k + 24) (length bytes)) (Some (call_in (part bytes (d.calls + 24 * k) 24))) None

-- of the bytes that say it, it is their call at k, and its record has these numbers and no others
abbrev pub OwnCall : DayFile → List ℕ → ℕ → Option Call → Type 0
OwnCall d bytes k r =
    Says bytes d → k < count_of_calls bytes → (r ≡ Some (call_at bytes k)) × (call_numbers (call_at bytes k) ≡ values (call_part bytes k) (call_fields (value (call_part bytes k) call_column)))

-- the records of the bytes' calls in order: that at k holds their call at k, with these numbers and no others
abbrev pub CallsOf : List ℕ → List ℕ → Type 0
CallsOf bytes calls =
    (length calls ≡ 24 * count_of_calls bytes) × ((k : ℕ) → k < count_of_calls bytes → (call_in (part calls (24 * k) 24) ≡ call_at bytes k) × (call_numbers (call_at bytes k) ≡ values (call_part bytes k) (call_fields (value (call_part bytes k) call_column))))

-- of the bytes that say it, the records of its calls are just theirs
abbrev pub OwnCalls : DayFile → List ℕ → List ℕ → Type 0
OwnCalls d bytes calls = Says bytes d → CallsOf bytes calls

-- The bytes have no fault, and this is what they say, with the records of their calls, wherever in them these stand.
pub record SaysWith (bytes : List ℕ) (d : DayFile) (at_hand : List ℕ) : Type 0 where
  pub sound : file_fault bytes ≡ None
  pub settings : settings_numbers d.settings ≡ values (settings_part bytes) settings_fields
  pub contracts : listed_terms d.listing ≡ terms bytes (count_of_contracts bytes)
  pub calls : at_hand ≡ section_part bytes Calls
  pub calls_counted : length at_hand / 24 ≡ count_of_calls bytes

-- what the bytes say, with the calls at hand, or their fault
abbrev pub ViewedAs : List ℕ → Result DayFileView FileFault → Type 0
ViewedAs bytes (Ok v) = Says bytes v.file × SaysWith bytes v.file v.calls.now
ViewedAs bytes (Err e) = file_fault bytes ≡ Some (file_told e)

-- of any bytes that say the file with these calls, the records are just theirs
abbrev pub OwnViewed : DayFileView → List ℕ → Type 0
OwnViewed v calls = (bytes : List ℕ) → SaysWith bytes v.file v.calls.now → CallsOf bytes calls

-- the next of the calls that are left, or none where they are at an end
abbrev pub GivesCall : CallsLeft → Option Call → CallsLeft → Type 0
GivesCall before None after = length before.rest.now < 24
GivesCall before (Some call) after = (24 ≤ length before.rest.now) × (call ≡ call_in (take 24 before.rest.now)) × (after.rest.now ≡ drop 24 before.rest.now)

-- the same of those that are left in bytes
abbrev pub GivesCallIn : CallsIn → Option Call → CallsIn → Type 0
GivesCallIn before None after = length before.rest.now < 24
GivesCallIn before (Some call) after = (24 ≤ length before.rest.now) × (call ≡ call_in (take 24 before.rest.now)) × (after.rest.now ≡ drop 24 before.rest.now)
