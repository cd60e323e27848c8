-- What a lot costs, in hao: premium, pair margin, and the reserve of a working order. Assumes nothing.
use Rattle.std.specs.Prelude.{ℕ, ◌+◌, ◌-◌, ◌*◌, cond, List, Some, None, Option, ◌==◌}
use Rattle.margin.specs.ByCode.{by_code}
use Rattle.margin.specs.declared.contract.Contract.{Contract}
use Rattle.margin.specs.declared.strategy.Strategy.{Strategy}
use Rattle.margin.specs.Meaning.{Meaning}
use Rattle.margin.specs.Strategies.{first_written}
use Rattle.ledger.specs.declared.order.OrderKind.{OrderKind}
use Rattle.ledger.specs.declared.order.OrderKind.TheVariants.{SellOpen, BuyOpen, BuyClose, SellClose, LegClose}
use Rattle.ledger.specs.ByCode.{leg_margin_of, unit_of, pair_margin_of, legs_of}
use Rattle.ledger.specs.Content.{Pairing}

-- lots at a price, over all units of the contract
abbrev pub premium : List Contract → ℕ → ℕ → ℕ → ℕ
premium cs code lots price = lots * price * unit_of (by_code cs code)

-- the pair margin, and the legs' sum, of one lot of a strategy over two contracts
abbrev pub pair_per_lot : Meaning → List Contract → Strategy → ℕ → ℕ → ℕ
pair_per_lot m cs s first second = pair_margin_of m s (by_code cs first) (by_code cs second)

abbrev pub legs_per_lot : Meaning → List Contract → Strategy → ℕ → ℕ → ℕ
legs_per_lot m cs s first second = legs_of m s (by_code cs first) (by_code cs second)

abbrev pub pair_margin : Meaning → List Contract → Pairing → ℕ
pair_margin m cs p = pair_per_lot m cs p.strategy p.first p.second

-- the leg margin of the leg that a leg close leaves, where that is written
abbrev pub other_leg_margin : Meaning → List Contract → ℕ → Pairing → ℕ
other_leg_margin m cs c p = cond (first_written p.strategy) (leg_margin_of m (by_code cs (cond (c == p.first) p.second p.first))) 0

-- what a leg close needs beyond the pair margin that it frees: the other leg's margin and the premium at its limit; 0 where the pair margin covers them
abbrev pub leg_close_reserve : Meaning → List Contract → ℕ → ℕ → Option Pairing → ℕ
leg_close_reserve m cs c limit (Some p) = (other_leg_margin m cs c p + limit * unit_of (by_code cs c)) - pair_margin m cs p
leg_close_reserve m cs c limit None = 0

-- the reserve of one lot of an order; that of a leg close by the combination that it names
abbrev pub reserve_with : Meaning → List Contract → OrderKind → ℕ → Option Pairing → ℕ
reserve_with m cs (SellOpen c) limit p = leg_margin_of m (by_code cs c)
reserve_with m cs (BuyOpen c) limit p = limit * unit_of (by_code cs c)
reserve_with m cs (BuyClose c) limit p = limit * unit_of (by_code cs c)
reserve_with m cs (SellClose c) limit p = 0
reserve_with m cs (LegClose n c) limit p = leg_close_reserve m cs c limit p
