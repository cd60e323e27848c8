-- A margin raised by a percentage. Assumes nothing.
use Rattle.std.specs.Prelude.{ℕ, ◌+◌, ◌*◌, ◌/◌, ◌^◌, min}

-- f fen raised by r percent, rounded half up to whole fen, at most 10^12 fen
abbrev pub raised_fen : ℕ → ℕ → ℕ
raised_fen r f = min ((f * (100 + r) + 50) / 100) (10 ^ 12)

-- the same of a margin in hao, which is whole fen
abbrev pub raised : ℕ → ℕ → ℕ
raised r margin = 100 * raised_fen r (margin / 100)
