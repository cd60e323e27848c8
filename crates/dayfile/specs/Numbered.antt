-- The records of calls, by their numbers. Assumes nothing.
use Rattle.std.specs.Prelude.{ℕ, ◌*◌, ◌/◌, ◌<◌, List, length}
use Rattle.dayfile.specs.Bytes.{part}
use Rattle.dayfile.specs.Fields.{Kept}
use Rattle.dayfile.specs.Layout.{call_number_fields}

-- each has the number of a call
abbrev pub Numbered : List ℕ → Type 0
Numbered calls = (k : ℕ) → k < length calls / 24 → Kept (part calls (24 * k) 24) call_number_fields
