-- The margin of one written lot. Prices and margins are in hao (0.0001 yuan); 100 hao are one fen. Assumes nothing.
use Rattle.std.specs.Prelude.{ℕ, ◌+◌, ◌-◌, ◌*◌, ◌/◌, min, max}
use Rattle.margin.specs.declared.contract.Contract.{Contract}
use Rattle.margin.specs.declared.contract.Right.{Right}
use Rattle.margin.specs.declared.contract.Right.TheVariants.{Call, Put}
use Rattle.margin.specs.declared.contract.Kind.{Kind}
use Rattle.margin.specs.declared.contract.Kind.TheVariants.{Stock, Fund}

-- the first of the two for a call, the second for a put
abbrev pub by_right : Right → ℕ → ℕ → ℕ
by_right Call x y = x
by_right Put x y = y

-- the percentage of the underlying's close that is asked, before the out-of-the-money amount comes off
abbrev pub close_percent : Kind → Right → ℕ
close_percent Stock r = by_right r 21 19
close_percent Fund r = 12

-- the percentage that is asked at least: of the close for a call, of the strike for a put
abbrev pub floor_percent : Kind → ℕ
floor_percent Stock = 10
floor_percent Fund = 7

-- how far the option is out of the money, in hao; 0 where it is not
abbrev pub out_of_the_money : Contract → ℕ
out_of_the_money c = by_right c.right (c.strike - c.underlying_close) (c.underlying_close - c.strike)

-- what is asked at least, in hundredths of a hao
abbrev pub floor_amount : Contract → ℕ
floor_amount c = floor_percent c.kind * by_right c.right c.underlying_close c.strike

-- the percentage of the close less the out-of-the-money amount, at least the floor, in hundredths of a hao
abbrev pub underlying_risk : Contract → ℕ
underlying_risk c = max (close_percent c.kind c.right * c.underlying_close - 100 * out_of_the_money c) (floor_amount c)

-- the settlement and the risk on the underlying; a put's never passes its strike. For one of the contract's units, in hundredths of a hao
abbrev pub margin_per_unit : Contract → ℕ
margin_per_unit c = by_right c.right (100 * c.settlement + underlying_risk c) (min (100 * c.settlement + underlying_risk c) (100 * c.strike))

-- the standard margin of one written lot, in hao: all units together, and only then rounded half up to whole fen
abbrev pub standard_leg : Contract → ℕ
standard_leg c = 100 * ((margin_per_unit c * c.unit + 5000) / 10000)

-- the listed margin in hao; a contract lists it in fen
abbrev pub listed_leg : Contract → ℕ
listed_leg c = 100 * c.listed_margin
