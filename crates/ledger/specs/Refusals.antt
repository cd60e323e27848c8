-- The number of each refusal. Assumes nothing.
use Rattle.std.specs.Prelude.{ℕ}
use Rattle.register.specs.declared.refusal.RegisterRefusal.{RegisterRefusal}
use Rattle.register.specs.declared.refusal.RegisterRefusal.TheVariants as register
use Rattle.ledger.specs.declared.refusal.Refusal.{Refusal}
use Rattle.ledger.specs.declared.refusal.Refusal.TheVariants.{AmountOutOfRange, NoSuchAccount, NotListed, LotsOutOfRange, PriceOutOfRange, LegsDoNotFit, NotStanding, LegNotCloseable, TooFewLots, PositionLimit, PastLimit, TooLittleBalance, NoFreeRow, NumbersUsedUp, CashLimit}

abbrev pub number_of : Refusal → ℕ
number_of AmountOutOfRange = 10
number_of NoSuchAccount = 11
number_of NotListed = 12
number_of LotsOutOfRange = 13
number_of PriceOutOfRange = 14
number_of LegsDoNotFit = 15
number_of NotStanding = 16
number_of LegNotCloseable = 17
number_of TooFewLots = 18
number_of PositionLimit = 19
number_of PastLimit = 20
number_of TooLittleBalance = 21
number_of NoFreeRow = 22
number_of NumbersUsedUp = 23
number_of CashLimit = 24

-- what a register refuses, as the book's refusal
abbrev pub by_register : RegisterRefusal → Refusal
by_register register.NotStanding = NotStanding
by_register register.NoFreeRow = NoFreeRow
by_register register.NumbersUsedUp = NumbersUsedUp
