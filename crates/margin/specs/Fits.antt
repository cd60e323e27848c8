-- Which two contracts a strategy combines. Assumes nothing.
use Rattle.std.specs.Prelude.{ℕ, Bool, true, false, ◌&&◌, ◌==◌, nat_lt}
use Rattle.margin.specs.declared.contract.Contract.{Contract}
use Rattle.margin.specs.declared.contract.Right.{Right}
use Rattle.margin.specs.declared.contract.Right.TheVariants.{Call, Put}
use Rattle.margin.specs.declared.strategy.Strategy.{Strategy}
use Rattle.margin.specs.declared.strategy.Strategy.TheVariants.{BullCallSpread, BearCallSpread, BullPutSpread, BearPutSpread, ShortStraddle, ShortStrangle}

abbrev pub is_call : Right → Bool
is_call Call = true
is_call Put = false

abbrev pub is_put : Right → Bool
is_put Call = false
is_put Put = true

-- one underlying, one expiry and one unit
abbrev pub alike : Contract → Contract → Bool
alike a b = a.underlying == b.underlying && (a.expiry == b.expiry && a.unit == b.unit)

-- the rights that a strategy asks of its first and its second leg
abbrev pub rights_fit : Strategy → Right → Right → Bool
rights_fit BullCallSpread p q = is_call p && is_call q
rights_fit BearCallSpread p q = is_call p && is_call q
rights_fit BullPutSpread p q = is_put p && is_put q
rights_fit BearPutSpread p q = is_put p && is_put q
rights_fit ShortStraddle p q = is_call p && is_put q
rights_fit ShortStrangle p q = is_call p && is_put q

-- how a strategy asks the strikes of its first and its second leg to stand, in hao
abbrev pub strikes_fit : Strategy → ℕ → ℕ → Bool
strikes_fit BullCallSpread k1 k2 = nat_lt k1 k2
strikes_fit BearCallSpread k1 k2 = nat_lt k2 k1
strikes_fit BullPutSpread k1 k2 = nat_lt k1 k2
strikes_fit BearPutSpread k1 k2 = nat_lt k2 k1
strikes_fit ShortStraddle k1 k2 = k1 == k2
strikes_fit ShortStrangle k1 k2 = nat_lt k2 k1

-- whether the strategy combines the first contract with the second
abbrev pub fits : Strategy → Contract → Contract → Bool
fits s a b = alike a b && (rights_fit s a.right b.right && strikes_fit s a.strike b.strike)
