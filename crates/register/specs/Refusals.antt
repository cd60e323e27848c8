-- The number of each refusal.
use Rattle.std.specs.Prelude.{ℕ}
use Rattle.register.specs.declared.refusal.RegisterRefusal.{RegisterRefusal}
use Rattle.register.specs.declared.refusal.RegisterRefusal.TheVariants.{NotStanding, NoFreeRow, NumbersUsedUp}

-- none stands under the number: 16; no row is free: 22; every number was given: 23
abbrev pub number_of : RegisterRefusal → ℕ
number_of NotStanding = 16
number_of NoFreeRow = 22
number_of NumbersUsedUp = 23
