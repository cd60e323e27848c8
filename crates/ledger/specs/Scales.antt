-- The number of a base scale in a day's settings. Assumes nothing.
use Rattle.std.specs.Prelude.{ℕ, Result}
use Rattle.margin.specs.declared.number.UnknownNumber.{UnknownNumber}
use Rattle.margin.specs.Numbers.{CaseOf}
use Rattle.ledger.specs.declared.settings.BaseScale.{BaseScale}
use Rattle.ledger.specs.declared.settings.BaseScale.TheVariants.{Standard, Listed}

abbrev pub scale_number : BaseScale → ℕ
scale_number Standard = 1
scale_number Listed = 2

abbrev pub ScaleOf : ℕ → Result BaseScale UnknownNumber → Type 0
ScaleOf = CaseOf scale_number 2
