-- The four numbers of each fault: its number, the section (0 for the file), the record there (from 1, else 0) and the byte's place in the file. Assumes nothing.
use Rattle.std.specs.Prelude.{◌≡◌, ℕ, Some, None, Ok, Err, Option, Result}
use Rattle.dayfile.specs.declared.fault.Section.{Section}
use Rattle.dayfile.specs.declared.fault.Section.TheVariants.{Settings, Contracts, Calls}
use Rattle.dayfile.specs.declared.fault.Breach.{Breach}
use Rattle.dayfile.specs.declared.fault.Breach.TheVariants.{OutOfRange, CodeOrder, UnderlyingClash, NotZero}
use Rattle.dayfile.specs.declared.fault.Fault.{Fault}
use Rattle.dayfile.specs.declared.fault.RecordFault.{RecordFault}
use Rattle.dayfile.specs.declared.fault.SectionFault.{SectionFault}
use Rattle.dayfile.specs.declared.fault.SectionFault.TheVariants.{Pair, Length, Record}
use Rattle.dayfile.specs.declared.fault.FileFault.{FileFault}
use Rattle.dayfile.specs.declared.fault.FileFault.TheVariants.{Size, Section as In}

abbrev pub section_number : Section → ℕ
section_number Settings = 1
section_number Contracts = 2
section_number Calls = 3

-- where the pair of a section stands, and where its length stands in that pair
abbrev pub pair_place : Section → ℕ
pair_place Settings = 0
pair_place Contracts = 8
pair_place Calls = 16

abbrev pub length_place : Section → ℕ
length_place Settings = 4
length_place Contracts = 12
length_place Calls = 20

abbrev pub breach_number : Breach → ℕ
breach_number OutOfRange = 4
breach_number CodeOrder = 5
breach_number UnderlyingClash = 6
breach_number NotZero = 7

abbrev pub fault : ℕ → ℕ → ℕ → ℕ → Fault
fault number section ordinal place = record { number = number; section = section; ordinal = ordinal; place = place }

abbrev pub record_told : RecordFault → Fault
record_told e = fault (breach_number e.breach) (section_number e.section) e.ordinal e.place

abbrev pub section_told : SectionFault → Fault
section_told (Pair s) = fault 2 (section_number s) 0 (pair_place s)
section_told (Length s) = fault 3 (section_number s) 0 (length_place s)
section_told (Record e) = record_told e

abbrev pub file_told : FileFault → Fault
file_told Size = fault 1 0 0 0
file_told (In e) = section_told e

-- the first of two faults, if there is one
abbrev pub first : Option Fault → Option Fault → Option Fault
first (Some x) later = Some x
first None later = later

-- what a part of the file is answered whose fault, if it has one, is `o`
abbrev pub Passed : {T : Type 0} → Option Fault → Result T RecordFault → Type 0
Passed o (Ok x) = o ≡ None
Passed o (Err e) = o ≡ Some (record_told e)

abbrev pub SectionPassed : {T : Type 0} → Option Fault → Result T SectionFault → Type 0
SectionPassed o (Ok x) = o ≡ None
SectionPassed o (Err e) = o ≡ Some (section_told e)
