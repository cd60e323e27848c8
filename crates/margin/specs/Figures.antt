-- Eight worked figures of the margin rules, each derived from the definitions. Prices and margins are in hao.
use Rattle.std.specs.Prelude.{◌≡◌, ℕ, true, T, List, [], ◌∷◌, nat_le}
use Rattle.std.proofs.Common.{lit≤}
use Rattle.margin.specs.declared.contract.Contract.{Contract}
use Rattle.margin.specs.declared.contract.Right.{Right}
use Rattle.margin.specs.declared.contract.Right.TheVariants.{Call, Put}
use Rattle.margin.specs.declared.contract.Kind.{Kind}
use Rattle.margin.specs.declared.contract.Kind.TheVariants.{Stock, Fund}
use Rattle.margin.specs.declared.strategy.Strategy.TheVariants.{ShortStraddle, ShortStrangle}
use Rattle.margin.specs.Fits.{fits}
use Rattle.margin.specs.Legs.{standard_leg}
use Rattle.margin.specs.Pairs.{pair_margin}
use Rattle.margin.specs.Raise.{raised}

-- that a number is from 1 to the most allowed
abbrev pub InRange : ℕ → ℕ → Type 0
InRange n most = T (nat_le 1 n) × T (nat_le n most)

-- a contract with these terms, of one underlying and one expiry
abbrev pub sample : Kind → Right → (close strike settlement unit : ℕ) → InRange close 10000000 → InRange strike 10000000 → InRange settlement 10000000 → InRange unit 1000000 → Contract
sample kind right close strike settlement unit c k p u =
    record { code = 90000001; underlying = 900001; expiry = 140; right = right; kind = kind; unit = unit; strike = strike; settlement = settlement; underlying_close = close; listed_margin = 0; code_in_range = (lit≤ tt, lit≤ tt); underlying_in_range = (lit≤ tt, lit≤ tt); expiry_in_range = (lit≤ tt, lit≤ tt); unit_in_range = (lit≤ u.0, lit≤ u.1); strike_in_range = (lit≤ k.0, lit≤ k.1); settlement_in_range = (lit≤ p.0, lit≤ p.1); close_in_range = (lit≤ c.0, lit≤ c.1); listed_margin_in_range = lit≤ tt }

-- a fund call out of the money, and a fund put out of the money
abbrev pub call_above : Contract
call_above = sample Fund Call 40000 42000 500 10000 (tt, tt) (tt, tt) (tt, tt) (tt, tt)

abbrev pub put_below : Contract
put_below = sample Fund Put 40000 38000 300 10000 (tt, tt) (tt, tt) (tt, tt) (tt, tt)

-- a fund call at the money with one unit, whose margin stands at half a fen, and just below it
abbrev pub half_fen : Contract
half_fen = sample Fund Call 10000 10000 50 1 (tt, tt) (tt, tt) (tt, tt) (tt, tt)

abbrev pub under_half_fen : Contract
under_half_fen = sample Fund Call 10000 10000 49 1 (tt, tt) (tt, tt) (tt, tt) (tt, tt)

-- a stock put deep in the money, held at its strike
abbrev pub put_at_strike : Contract
put_at_strike = sample Stock Put 10000 50000 45000 100 (tt, tt) (tt, tt) (tt, tt) (tt, tt)

-- a fund call and a fund put with equal leg margins and unequal settlements
abbrev pub level_call : Contract
level_call = sample Fund Call 10000 8000 2000 10000 (tt, tt) (tt, tt) (tt, tt) (tt, tt)

abbrev pub level_put : Contract
level_put = sample Fund Put 10000 8000 2640 10000 (tt, tt) (tt, tt) (tt, tt) (tt, tt)

-- the margins that the definitions give
abbrev pub worked_margins : List ℕ
worked_margins =
    standard_leg call_above ∷ standard_leg put_below ∷ standard_leg half_fen ∷ standard_leg under_half_fen ∷ standard_leg put_at_strike ∷ pair_margin standard_leg ShortStrangle call_above put_below ∷ pair_margin standard_leg ShortStraddle level_call level_put ∷ raised 4 (standard_leg half_fen) ∷ []

pub record Figures : Type 0 where
  pub call_above_leg : standard_leg call_above ≡ 33000000
  pub put_below_leg : standard_leg put_below ≡ 31000000
  pub half_fen_leg : standard_leg half_fen ≡ 1300
  pub under_half_fen_leg : standard_leg under_half_fen ≡ 1200
  pub put_at_strike_leg : standard_leg put_at_strike ≡ 5000000
  pub strangle : (fits ShortStrangle call_above put_below ≡ true) × (pair_margin standard_leg ShortStrangle call_above put_below ≡ 36000000)
  pub straddle : (fits ShortStraddle level_call level_put ≡ true) × (pair_margin standard_leg ShortStraddle level_call level_put ≡ 58400000)
  pub half_fen_raised : raised 4 (standard_leg half_fen) ≡ 1400
