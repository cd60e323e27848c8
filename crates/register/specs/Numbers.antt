-- The numbers that a series gives.
use Rattle.std.specs.Prelude.{◌≡◌, ℕ, ◌+◌, cond, Some, None, Ok, Err, Option, Result, nat_lt}
use Rattle.register.specs.declared.refusal.RegisterRefusal.{RegisterRefusal}
use Rattle.register.specs.declared.refusal.RegisterRefusal.TheVariants.{NumbersUsedUp}
use Rattle.register.specs.declared.series.Series.{Series}

-- the last number that is given
abbrev pub last_number : ℕ
last_number = 4294967295

-- the number that a series gives next: one more than it gave last
abbrev pub next_of : Series → ℕ
next_of s = s.given + 1

-- the series after it gave its next number
abbrev pub moved_on : Series → Series
moved_on s = record { given = next_of s }

-- why a series refuses a number: the last one was given
abbrev pub number_refusal : Series → Option RegisterRefusal
number_refusal s = cond (nat_lt last_number (next_of s)) (Some NumbersUsedUp) None

-- what giving a number answers and leaves: the next number and the series moved on; or refused, and the series as before
abbrev pub Gives : Series → Result ℕ RegisterRefusal → Series → Type 0
Gives s (Ok n) after = (number_refusal s ≡ None) × (n ≡ next_of s) × (after ≡ moved_on s)
Gives s (Err why) after = (number_refusal s ≡ Some why) × (after ≡ s)
