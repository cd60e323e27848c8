-- The margin of one lot of a fitted pair from the margins of its legs. All in hao. Assumes nothing.
use Rattle.std.specs.Prelude.{ℕ, ◌+◌, ◌-◌, ◌*◌, ◌/◌, max, cond, nat_lt}
use Rattle.margin.specs.declared.contract.Contract.{Contract}
use Rattle.margin.specs.declared.strategy.Strategy.{Strategy}
use Rattle.margin.specs.declared.strategy.Strategy.TheVariants.{BullCallSpread, BearCallSpread, BullPutSpread, BearPutSpread, ShortStraddle, ShortStrangle}
use Rattle.margin.specs.Strategies.{first_written}

-- the settlement of the leg with the lower leg margin; where the leg margins are equal, the larger settlement
abbrev pub lower_leg_settlement : Contract → Contract → ℕ → ℕ → ℕ
lower_leg_settlement a b leg1 leg2 = cond (nat_lt leg1 leg2) a.settlement (cond (nat_lt leg2 leg1) b.settlement (max a.settlement b.settlement))

-- the larger leg margin, and one lot of the lower leg's settlement
abbrev pub straddle_margin : Contract → Contract → ℕ → ℕ → ℕ
straddle_margin a b leg1 leg2 = max leg1 leg2 + lower_leg_settlement a b leg1 leg2 * a.unit

-- the margin of the first contract with the second, whose leg margins are leg1 and leg2, before it is rounded
abbrev pub raw_margin : Strategy → Contract → Contract → ℕ → ℕ → ℕ
raw_margin BullCallSpread a b leg1 leg2 = 0
raw_margin BearCallSpread a b leg1 leg2 = (a.strike - b.strike) * a.unit
raw_margin BullPutSpread a b leg1 leg2 = (b.strike - a.strike) * a.unit
raw_margin BearPutSpread a b leg1 leg2 = 0
raw_margin ShortStraddle a b leg1 leg2 = straddle_margin a b leg1 leg2
raw_margin ShortStrangle a b leg1 leg2 = straddle_margin a b leg1 leg2

-- the pair margin by the combination rules, over any leg margins: the raw margin rounded half up to whole fen
abbrev pub pair_margin : (Contract → ℕ) → Strategy → Contract → Contract → ℕ
pair_margin leg s a b = 100 * ((raw_margin s a b (leg a) (leg b) + 50) / 100)

-- the leg margins of the written legs
abbrev pub legs_sum : (Contract → ℕ) → Strategy → Contract → Contract → ℕ
legs_sum leg s a b = cond (first_written s) (leg a + leg b) (leg b)
