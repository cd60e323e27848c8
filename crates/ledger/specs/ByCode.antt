-- Margins and units of contracts that may or may not be listed, and when two scales mean the same. Assumes nothing.
use Rattle.std.specs.Prelude.{◌≡◌, ℕ, true, Some, None, Option}
use Rattle.margin.specs.declared.contract.Contract.{Contract}
use Rattle.margin.specs.Meaning.{Meaning}
use Rattle.margin.specs.declared.strategy.Strategy.{Strategy}
use Rattle.margin.specs.Fits.{fits}
use Rattle.margin.specs.Pairs.{legs_sum}

pub record SameMeaning (m n : Meaning) : Type 0 where
  pub legs : (c : Contract) → m.leg c ≡ n.leg c
  pub pairs : (s : Strategy) (c d : Contract) → fits s c d ≡ true → m.pair s c d ≡ n.pair s c d

-- the leg margin, the unit, the pair margin and the legs' sum by code; 0 where a code is not listed
abbrev pub leg_margin_of : Meaning → Option Contract → ℕ
leg_margin_of m (Some c) = m.leg c
leg_margin_of m None = 0

abbrev pub unit_of : Option Contract → ℕ
unit_of (Some c) = c.unit
unit_of None = 0

abbrev pub pair_margin_of : Meaning → Strategy → Option Contract → Option Contract → ℕ
pair_margin_of m s (Some c) (Some d) = m.pair s c d
pair_margin_of m s (Some c) None = 0
pair_margin_of m s None d = 0

abbrev pub legs_of : Meaning → Strategy → Option Contract → Option Contract → ℕ
legs_of m s (Some c) (Some d) = legs_sum m.leg s c d
legs_of m s (Some c) None = 0
legs_of m s None d = 0
