-- How large the margins of legs and pairs can be, and that a relief keeps within 64 bits.
use Rattle.std.specs.Prelude.{◌≡◌, ℕ, ◌+◌, ◌-◌, ◌*◌, ◌^◌, ◌≤◌, max, Bool, true, false, cond, pos, ◌-ℤ◌, nat_lt}
use Rattle.std.proofs.Common.{arith, to_z, of_z}
use Rattle.std.specs.Int.{w64}
use Rattle.std.proofs.lemmas.Nat.{mul-le}
use Rattle.std.proofs.lemmas.Int.{ints}
use Rattle.margin.specs.declared.contract.Contract.{Contract}
use Rattle.margin.specs.declared.contract.Right.{Right}
use Rattle.margin.specs.declared.contract.Right.TheVariants.{Call, Put}
use Rattle.margin.specs.declared.contract.Kind.{Kind}
use Rattle.margin.specs.declared.contract.Kind.TheVariants.{Stock, Fund}
use Rattle.margin.specs.declared.strategy.Strategy.{Strategy}
use Rattle.margin.specs.declared.strategy.Strategy.TheVariants.{BullCallSpread, BearCallSpread, BullPutSpread, BearPutSpread, ShortStraddle, ShortStrangle}
use Rattle.margin.specs.Strategies.{first_written}
use Rattle.margin.specs.Legs.{by_right, close_percent, floor_percent, floor_amount, underlying_risk, margin_per_unit, standard_leg, listed_leg}
use Rattle.margin.specs.Pairs.{lower_leg_settlement, straddle_margin, raw_margin, pair_margin, legs_sum}

pub by_right_le : (r : Right) (x y most : ℕ) → x ≤ most → y ≤ most → by_right r x y ≤ most
by_right_le Call x y most p q = p
by_right_le Put x y most p q = q

close_percent_le : (k : Kind) (r : Right) → close_percent k r ≤ 21
close_percent_le Stock Call = omega arith
close_percent_le Stock Put = omega arith
close_percent_le Fund r = omega arith

floor_percent_le : (k : Kind) → floor_percent k ≤ 10
floor_percent_le Stock = omega arith
floor_percent_le Fund = omega arith

floor_amount_le : (c : Contract) → floor_amount c ≤ 100000000
floor_amount_le c =
    mul-le (floor_percent c.kind) _ 10 10000000 (floor_percent_le c.kind) (by_right_le c.right _ _ 10000000 c.close_in_range.1 c.strike_in_range.1)

underlying_risk_le : (c : Contract) → underlying_risk c ≤ 210000000
underlying_risk_le c =
    let asked : close_percent c.kind c.right * c.underlying_close ≤ 210000000 = mul-le _ _ 21 10000000 (close_percent_le c.kind c.right) c.close_in_range.1 in
    let floor = floor_amount_le c in
    omega (arith, asked, floor)

-- in hundredths of a hao
pub margin_per_unit_le : (c : Contract) → margin_per_unit c ≤ 1210000000
margin_per_unit_le c =
    let risk = underlying_risk_le c in
    by_right_le c.right _ _ 1210000000 (omega (arith, risk, c.settlement_in_range.1)) (omega (arith, risk, c.strike_in_range.1))

-- all units of a lot, in hundredths of a hao
pub lot_le : (c : Contract) → margin_per_unit c * c.unit ≤ 1210000000000000
lot_le c = mul-le (margin_per_unit c) c.unit 1210000000 1000000 (margin_per_unit_le c) c.unit_in_range.1

-- in hao
pub standard_leg_le : (c : Contract) → standard_leg c ≤ 12100000000000
standard_leg_le c = omega (arith, lot_le c)

pub listed_leg_le : (c : Contract) → listed_leg c ≤ 429496729500
listed_leg_le c = omega (arith, c.listed_margin_in_range)

cond_le : (t : Bool) (x y most : ℕ) → x ≤ most → y ≤ most → cond t x y ≤ most
cond_le true x y most p q = p
cond_le false x y most p q = q

-- one lot of a price's difference or of a settlement, in hao
lot_of_price_le : (c : Contract) (price : ℕ) → price ≤ 10000000 → price * c.unit ≤ 10000000000000
lot_of_price_le c price h = mul-le price c.unit 10000000 1000000 h c.unit_in_range.1

lower_leg_settlement_le : (a b : Contract) (leg1 leg2 : ℕ) → lower_leg_settlement a b leg1 leg2 ≤ 10000000
lower_leg_settlement_le a b leg1 leg2 =
    let larger : max a.settlement b.settlement ≤ 10000000 = omega (arith, a.settlement_in_range.1, b.settlement_in_range.1) in
    cond_le (nat_lt leg1 leg2) _ _ 10000000 a.settlement_in_range.1 (cond_le (nat_lt leg2 leg1) _ _ 10000000 b.settlement_in_range.1 larger)

straddle_margin_le : (a b : Contract) (leg1 leg2 most : ℕ) → leg1 ≤ most → leg2 ≤ most → straddle_margin a b leg1 leg2 ≤ most + 10000000000000
straddle_margin_le a b leg1 leg2 most p q =
    let lot = lot_of_price_le a (lower_leg_settlement a b leg1 leg2) (lower_leg_settlement_le a b leg1 leg2) in
    omega (arith, lot)

raw_margin_le : (s : Strategy) (a b : Contract) (leg1 leg2 most : ℕ) → leg1 ≤ most → leg2 ≤ most → raw_margin s a b leg1 leg2 ≤ most + 10000000000000
raw_margin_le BullCallSpread a b leg1 leg2 most p q = omega arith
raw_margin_le BearCallSpread a b leg1 leg2 most p q = omega (arith, lot_of_price_le a (a.strike - b.strike) (omega (arith, a.strike_in_range.1)))
raw_margin_le BullPutSpread a b leg1 leg2 most p q = omega (arith, lot_of_price_le a (b.strike - a.strike) (omega (arith, b.strike_in_range.1)))
raw_margin_le BearPutSpread a b leg1 leg2 most p q = omega arith
raw_margin_le ShortStraddle a b leg1 leg2 most p q = straddle_margin_le a b leg1 leg2 most p q
raw_margin_le ShortStrangle a b leg1 leg2 most p q = straddle_margin_le a b leg1 leg2 most p q

-- leg margins that leave room for one lot of a settlement, in hao
pub pair_margin_le : (leg : Contract → ℕ) → ((c : Contract) → leg c ≤ 80000000000000) → (s : Strategy) (a b : Contract) → pair_margin leg s a b ≤ 10 ^ 14
pair_margin_le leg below s a b = omega (arith, raw_margin_le s a b (leg a) (leg b) 80000000000000 (below a) (below b))

pub legs_sum_le : (leg : Contract → ℕ) → ((c : Contract) → leg c ≤ 10 ^ 14) → (s : Strategy) (a b : Contract) → legs_sum leg s a b ≤ 2 * 10 ^ 14
legs_sum_le leg below s a b = cond_le (first_written s) _ _ (2 * 10 ^ 14) (omega (arith, below a, below b)) (omega (arith, below b))

-- the difference of a legs' sum and a pair margin as a 64-bit signed number
pub signed_difference : (x y sum pair : ℕ) → x ≡ sum → y ≡ pair → sum ≤ 2 * 10 ^ 14 → pair ≤ 10 ^ 14 → to_z w64 (of_z w64 (to_z w64 x -ℤ to_z w64 y)) ≡ pos sum -ℤ pos pair
signed_difference x y sum pair p q sum_le pair_le = omega (arith, ints)
