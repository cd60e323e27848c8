-- The rules of a record's fields. Assumes nothing.
use Rattle.std.specs.Prelude.{◌≡◌, ℕ, ◌+◌, ◌≤◌, Bool, true, cond, ◌&&◌, ◌||◌, List, [], ◌∷◌, Some, None, Option, ◌==◌, nat_le, nat_lt}
use Rattle.dayfile.specs.declared.field.Rule.{Rule}
use Rattle.dayfile.specs.declared.field.Rule.TheVariants.{Within, Zero, Any}
use Rattle.dayfile.specs.declared.field.Field.{Field}
use Rattle.dayfile.specs.declared.fault.Fault.{Fault}
use Rattle.dayfile.specs.Bytes.{value}
use Rattle.dayfile.specs.Faults.{fault, first}

-- the number of the fault that a value is under a rule, if it is one
abbrev pub breach : Rule → ℕ → Option ℕ
breach (Within low high) n = cond (nat_lt n low || nat_lt high n) (Some 4) None
breach Zero n = cond (n == 0) None (Some 7)
breach Any n = None

abbrev pub placed : Option ℕ → ℕ → ℕ → ℕ → Option Fault
placed None section ordinal place = None
placed (Some number) section ordinal place = Some (fault number section ordinal place)

-- the fault of a field, in a record that stands at `place` of the file
abbrev pub field_fault : List ℕ → ℕ → ℕ → ℕ → Field → Option Fault
field_fault bytes section ordinal place f = placed (breach f.rule (value bytes f.column)) section ordinal (place + f.column.at)

-- the first fault of a record's fields, by place
abbrev pub fields_fault : List ℕ → ℕ → ℕ → ℕ → List Field → Option Fault
fields_fault bytes section ordinal place [] = None
fields_fault bytes section ordinal place (f ∷ fs) = first (field_fault bytes section ordinal place f) (fields_fault bytes section ordinal place fs)

-- each value keeps its field's rule
abbrev pub Keeps : Rule → ℕ → Type 0
Keeps (Within low high) n = (low ≤ n) × (n ≤ high)
Keeps Zero n = n ≡ 0
Keeps Any n = Unit {0}

abbrev pub Kept : List ℕ → List Field → Type 0
Kept bytes [] = Unit {0}
Kept bytes (f ∷ fs) = Keeps f.rule (value bytes f.column) × Kept bytes fs

-- what a record's fields hold
abbrev pub values : List ℕ → List Field → List ℕ
values bytes [] = []
values bytes (f ∷ fs) = value bytes f.column ∷ values bytes fs

-- each column lies within a record of `size` bytes, and has at most eight
abbrev pub all_inside : ℕ → List Field → Bool
all_inside size [] = true
all_inside size (f ∷ fs) = (nat_le (f.column.at + f.column.width) size && nat_le f.column.width 8) && all_inside size fs
