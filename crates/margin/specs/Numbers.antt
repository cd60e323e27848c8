-- Numbers that stand for the cases of an enum. Assumes nothing.
use Rattle.std.specs.Prelude.{◌≡◌, ℕ, ◌<◌, ◌≤◌, Ok, Err, Result}
use Rattle.margin.specs.declared.contract.Right.{Right}
use Rattle.margin.specs.declared.contract.Kind.{Kind}
use Rattle.margin.specs.declared.number.UnknownNumber.{UnknownNumber}
use Rattle.margin.specs.Terms.{right_number, kind_number}

-- the case that has this number, of cases that are numbered from 1 to `last`, or else the number itself
abbrev pub CaseOf : {T : Type 0} → (T → ℕ) → ℕ → ℕ → Result T UnknownNumber → Type 0
CaseOf number last n (Ok x) = number x ≡ n
CaseOf number last n (Err e) = (e.0 ≡ n) × (1 ≤ n → last < n)

abbrev pub RightOf : ℕ → Result Right UnknownNumber → Type 0
RightOf = CaseOf right_number 2

abbrev pub KindOf : ℕ → Result Kind UnknownNumber → Type 0
KindOf = CaseOf kind_number 2
