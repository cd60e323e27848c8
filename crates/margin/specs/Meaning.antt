-- What a margin scale means. Margins are in hao. Assumes nothing.
use Rattle.std.specs.Prelude.{◌≡◌, ℕ, ◌%◌, ◌^◌, ◌≤◌, true, ℤ, pos, ◌-ℤ◌}
use Rattle.margin.specs.declared.contract.Contract.{Contract}
use Rattle.margin.specs.declared.strategy.Strategy.{Strategy}
use Rattle.margin.specs.Fits.{fits}
use Rattle.margin.specs.Legs.{standard_leg, listed_leg}
use Rattle.margin.specs.Pairs.{pair_margin, legs_sum}
use Rattle.margin.specs.Raise.{raised}

-- the margin of one written lot of a contract, and that of one lot of a fitted pair
pub record Meaning : Type 0 where
  pub leg : Contract → ℕ
  pub pair : Strategy → Contract → Contract → ℕ

-- the meaning of the scale s, from what its type's members say
abbrev pub meaning : {S : Type 0} → (S → Contract → ℕ) → (S → Strategy → Contract → Contract → ℕ) → S → Meaning
meaning leg_of pair_of s = record { leg = leg_of s; pair = pair_of s }

-- each margin is whole fen, and at most 10^14 hao
pub record Lawful (m : Meaning) : Type 0 where
  pub legs_whole : (c : Contract) → m.leg c % 100 ≡ 0
  pub legs_most : (c : Contract) → m.leg c ≤ 10 ^ 14
  pub pairs_whole : (s : Strategy) (a b : Contract) → fits s a b ≡ true → m.pair s a b % 100 ≡ 0
  pub pairs_most : (s : Strategy) (a b : Contract) → fits s a b ≡ true → m.pair s a b ≤ 10 ^ 14

-- what pairing frees: the legs' sum less the pair margin. Below nought where the pair margin is the larger.
abbrev pub relief : Meaning → Strategy → Contract → Contract → ℤ
relief m s a b = pos (legs_sum m.leg s a b) -ℤ pos (m.pair s a b)

-- leg margins, and the combination rules over them
abbrev pub combined_meaning : (Contract → ℕ) → Meaning
combined_meaning leg = record { leg = leg; pair = pair_margin leg }

abbrev pub standard_meaning : Meaning
standard_meaning = combined_meaning standard_leg

abbrev pub listed_meaning : Meaning
listed_meaning = combined_meaning listed_leg

-- every margin of m raised by r percent
abbrev pub raised_meaning : ℕ → Meaning → Meaning
raised_meaning r m = record { leg = λ c. raised r (m.leg c); pair = λ s a b. raised r (m.pair s a b) }
