-- Numbers in a list of bytes. Assumes nothing.
use Rattle.std.specs.Prelude.{ℕ, ◌+◌, ◌*◌, List, [], ◌∷◌, take, drop}
use Rattle.dayfile.specs.declared.field.Column.{Column}

-- `width` bytes from the place `at`
abbrev pub part : List ℕ → ℕ → ℕ → List ℕ
part bytes at width = take width (drop at bytes)

-- little-endian: the lowest byte stands first
abbrev pub little_endian : List ℕ → ℕ
little_endian [] = 0
little_endian (b ∷ bs) = b + 256 * little_endian bs

-- the number in a column of a record
abbrev pub value : List ℕ → Column → ℕ
value bytes column = little_endian (part bytes column.at column.width)
