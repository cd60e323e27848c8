-- Contracts by their code. Assumes nothing.
use Rattle.std.specs.Prelude.{ℕ, ◌+◌, cond, List, [], ◌∷◌, Some, None, Option, ◌==◌}
use Rattle.margin.specs.declared.contract.Contract.{Contract}

-- the contract of a code
abbrev pub by_code : List Contract → ℕ → Option Contract
by_code [] code = None
by_code (c ∷ cs) code = cond (c.code == code) (Some c) (by_code cs code)

-- the place of a code, from 0
abbrev pub index : List Contract → ℕ → ℕ
index [] code = 0
index (c ∷ cs) code = cond (c.code == code) 0 (1 + index cs code)
