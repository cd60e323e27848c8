-- What comes of fitting two contracts to a strategy. Assumes nothing.
use Rattle.std.specs.Prelude.{◌≡◌, true, false, Some, None, Option}
use Rattle.margin.specs.declared.contract.Contract.{Contract}
use Rattle.margin.specs.declared.strategy.Strategy.{Strategy}
use Rattle.margin.specs.declared.pair.FittedPair.{FittedPair}
use Rattle.margin.specs.Fits.{fits}

-- the pair of just these three where they fit, and none where they do not
abbrev pub Fitting : Strategy → Contract → Contract → Option FittedPair → Type 0
Fitting s a b (Some pair) = (fits s a b ≡ true) × (pair.strategy ≡ s) × (pair.first ≡ a) × (pair.second ≡ b)
Fitting s a b None = fits s a b ≡ false
