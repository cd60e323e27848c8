-- The six strategies: their numbers, and which of the two legs are written. Assumes nothing.
use Rattle.std.specs.Prelude.{◌≡◌, ℕ, Bool, true, false, cond, List, [], ◌∷◌, Some, None, Option, Ok, Err, Result, ◌==◌, ◌≢◌}
use Rattle.margin.specs.declared.strategy.Strategy.{Strategy}
use Rattle.margin.specs.declared.number.UnknownNumber.{UnknownNumber}
use Rattle.margin.specs.declared.strategy.Strategy.TheVariants.{BullCallSpread, BearCallSpread, BullPutSpread, BearPutSpread, ShortStraddle, ShortStrangle}

-- the number of each strategy
abbrev pub strategy_number : Strategy → ℕ
strategy_number BullCallSpread = 1
strategy_number BearCallSpread = 2
strategy_number BullPutSpread = 3
strategy_number BearPutSpread = 4
strategy_number ShortStraddle = 5
strategy_number ShortStrangle = 6

abbrev pub strategies : List Strategy
strategies = BullCallSpread ∷ BearCallSpread ∷ BullPutSpread ∷ BearPutSpread ∷ ShortStraddle ∷ ShortStrangle ∷ []

-- the first of the listed strategies that has this number
abbrev pub numbered : ℕ → List Strategy → Option Strategy
numbered n [] = None
numbered n (s ∷ ss) = cond (strategy_number s == n) (Some s) (numbered n ss)

-- the strategy of a number, if one has it
abbrev pub strategy_of : ℕ → Option Strategy
strategy_of n = numbered n strategies

-- what is known of the strategy found under a number: it has that number, or else no strategy does
abbrev pub HasNumber : ℕ → Option Strategy → Type 0
HasNumber n (Some s) = strategy_number s ≡ n
HasNumber n None = (s : Strategy) → strategy_number s ≢ n

-- what a number is turned into: the strategy that has it; or, where none has, the number again
abbrev pub StrategyOf : ℕ → Result Strategy UnknownNumber → Type 0
StrategyOf n (Ok s) = (strategy_of n ≡ Some s) × HasNumber n (Some s)
StrategyOf n (Err e) = (strategy_of n ≡ None) × HasNumber n None × (e.0 ≡ n)

-- a spread's first leg is bought; a straddle's and a strangle's is written. The second leg is written in all six.
abbrev pub first_written : Strategy → Bool
first_written BullCallSpread = false
first_written BearCallSpread = false
first_written BullPutSpread = false
first_written BearPutSpread = false
first_written ShortStraddle = true
first_written ShortStrangle = true
