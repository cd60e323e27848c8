-- The packed day file, over its bytes: where its records stand, and its first fault. Assumes nothing.
use Rattle.std.specs.Prelude.{ℕ, zero, suc, ◌+◌, ◌*◌, ◌/◌, ◌%◌, Bool, cond, not, ◌||◌, List, [], ◌∷◌, ◌++◌, length, Some, None, Option, ◌==◌, nat_lt}
use Rattle.margin.specs.Terms.{Terms}
use Rattle.margin.specs.Listed.{above, clashes_any}
use Rattle.ledger.specs.declared.call.Call.{Call}
use Rattle.dayfile.specs.declared.fault.Fault.{Fault}
use Rattle.dayfile.specs.declared.fault.Section.{Section}
use Rattle.dayfile.specs.declared.fault.Section.TheVariants.{Settings, Contracts, Calls}
use Rattle.dayfile.specs.Bytes.{part, value}
use Rattle.dayfile.specs.Faults.{section_number, pair_place, length_place, fault, first}
use Rattle.dayfile.specs.Fields.{fields_fault}
use Rattle.dayfile.specs.Layout.{column, settings_fields, day_column, code_column, underlying_column, contract_fields, call_column, call_number_fields, argument_fields, names_of}
use Rattle.dayfile.specs.Records.{terms_in, call_in}

-- Three pairs of offset and length, four bytes each, begin the file.
abbrev pub start : List ℕ → Section → ℕ
start bytes s = value bytes (column (pair_place s) 4)

abbrev pub extent : List ℕ → Section → ℕ
extent bytes s = value bytes (column (length_place s) 4)

abbrev pub end_of : List ℕ → Section → ℕ
end_of bytes s = start bytes s + extent bytes s

abbrev pub section_part : List ℕ → Section → List ℕ
section_part bytes s = part bytes (start bytes s) (extent bytes s)

-- Settings are one record of 20 bytes; contracts of 32 bytes and calls of 24 are counted from 0.
abbrev pub settings_part : List ℕ → List ℕ
settings_part bytes = part bytes (start bytes Settings) 20

abbrev pub day_of : List ℕ → ℕ
day_of bytes = value (settings_part bytes) day_column

abbrev pub count_of_contracts : List ℕ → ℕ
count_of_contracts bytes = extent bytes Contracts / 32

abbrev pub contract_place : List ℕ → ℕ → ℕ
contract_place bytes k = start bytes Contracts + 32 * k

abbrev pub contract_part : List ℕ → ℕ → List ℕ
contract_part bytes k = part bytes (contract_place bytes k) 32

abbrev pub terms_at : List ℕ → ℕ → Terms
terms_at bytes k = terms_in (contract_part bytes k)

-- the terms of the first k contracts
abbrev pub terms : List ℕ → ℕ → List Terms
terms bytes zero = []
terms bytes (suc k) = terms bytes k ++ (terms_at bytes k ∷ [])

abbrev pub count_of_calls : List ℕ → ℕ
count_of_calls bytes = extent bytes Calls / 24

abbrev pub call_place : List ℕ → ℕ → ℕ
call_place bytes k = start bytes Calls + 24 * k

abbrev pub call_part : List ℕ → ℕ → List ℕ
call_part bytes k = part bytes (call_place bytes k) 24

abbrev pub call_at : List ℕ → ℕ → Call
call_at bytes k = call_in (call_part bytes k)

-- Faults.
abbrev pub faulty : Bool → ℕ → ℕ → ℕ → ℕ → Option Fault
faulty bad number section ordinal place = cond bad (Some (fault number section ordinal place)) None

-- 24 to 60,000 bytes
abbrev pub size_fault : List ℕ → Option Fault
size_fault bytes = faulty (nat_lt (length bytes) 24 || nat_lt 60000 (length bytes)) 1 0 0 0

-- a section starts behind the pairs, not before the end of the section before it, and ends within the file
abbrev pub pair_fault : List ℕ → Section → ℕ → Option Fault
pair_fault bytes s previous =
    faulty (nat_lt (start bytes s) 24 || (nat_lt (start bytes s) previous || nat_lt (length bytes) (end_of bytes s))) 2 (section_number s) 0 (pair_place s)

-- settings are one record; contracts are 1 to 64 whole records; calls are whole records
abbrev pub bad_length : Section → ℕ → Bool
bad_length Settings n = not (n == 20)
bad_length Contracts n = not (n % 32 == 0) || (nat_lt n 32 || nat_lt 2048 n)
bad_length Calls n = not (n % 24 == 0)

abbrev pub length_fault : List ℕ → Section → Option Fault
length_fault bytes s = faulty (bad_length s (extent bytes s)) 3 (section_number s) 0 (length_place s)

abbrev pub sections_fault : List ℕ → Option Fault
sections_fault bytes =
    first (pair_fault bytes Settings 0)
    (first (pair_fault bytes Contracts (end_of bytes Settings))
    (first (pair_fault bytes Calls (end_of bytes Contracts))
    (first (length_fault bytes Settings)
    (first (length_fault bytes Contracts)
    (length_fault bytes Calls)))))

abbrev pub settings_fault : List ℕ → Option Fault
settings_fault bytes = fields_fault (settings_part bytes) 1 1 (start bytes Settings) settings_fields

-- behind earlier contracts: the code is above theirs, and none of them has this underlying with another kind or close
abbrev pub listing_fault : List Terms → Terms → ℕ → ℕ → ℕ → Option Fault
listing_fault earlier t section ordinal place =
    first (faulty (not (above earlier t)) 5 section ordinal (place + code_column.at))
    (faulty (clashes_any earlier t) 6 section ordinal (place + underlying_column.at))

abbrev pub contract_fault : List ℕ → ℕ → Option Fault
contract_fault bytes k =
    first (fields_fault (contract_part bytes k) 2 (k + 1) (contract_place bytes k) (contract_fields (day_of bytes)))
    (listing_fault (terms bytes k) (terms_at bytes k) 2 (k + 1) (contract_place bytes k))

-- first the call's number, then what that call names
abbrev pub call_record_fault : List ℕ → ℕ → ℕ → ℕ → Option Fault
call_record_fault bytes section ordinal place =
    first (fields_fault bytes section ordinal place call_number_fields)
    (fields_fault bytes section ordinal place (argument_fields (names_of (value bytes call_column))))

abbrev pub call_fault : List ℕ → ℕ → Option Fault
call_fault bytes k = call_record_fault (call_part bytes k) 3 (k + 1) (call_place bytes k)

-- the first fault among the first n records
abbrev pub first_below : ℕ → (ℕ → Option Fault) → Option Fault
first_below zero fault_at = None
first_below (suc n) fault_at = first (first_below n fault_at) (fault_at n)

abbrev pub records_fault : List ℕ → Option Fault
records_fault bytes =
    first (settings_fault bytes)
    (first (first_below (count_of_contracts bytes) (contract_fault bytes))
    (first_below (count_of_calls bytes) (call_fault bytes)))

-- The fault of a file, if it has one: its size, then its sections, then its records.
abbrev pub file_fault : List ℕ → Option Fault
file_fault bytes = first (size_fault bytes) (first (sections_fault bytes) (records_fault bytes))
