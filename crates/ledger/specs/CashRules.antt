-- The rules of deposit and withdraw. Assumes nothing.
use Rattle.std.specs.Prelude.{ℕ, ◌+◌, ◌-◌, Bool, List, [], ◌∷◌}
use Rattle.ledger.specs.declared.tables.Tables.{Tables}
use Rattle.ledger.specs.Tests.{Answer, answers, ByTests, bad_amount, short_of_balance, too_much_cash}
use Rattle.ledger.specs.Moves.{funds_to}

abbrev pub deposited : ℕ → Tables → Tables
deposited amount b = funds_to (record { balance = b.funds.balance + amount; held = b.funds.held; reserved = b.funds.reserved; cash = b.funds.cash + amount }) b

abbrev pub deposit_tests : Tables → ℕ → List (ℕ × Bool)
deposit_tests b amount = bad_amount amount ∷ too_much_cash b amount ∷ []

abbrev pub DepositRule : Tables → ℕ → Answer → Tables → Type 0
DepositRule b amount r after = ByTests (deposit_tests b amount) b r after (answers 0 (deposited amount b))

abbrev pub withdrawn : ℕ → Tables → Tables
withdrawn amount b = funds_to (record { balance = b.funds.balance - amount; held = b.funds.held; reserved = b.funds.reserved; cash = b.funds.cash - amount }) b

abbrev pub withdraw_tests : Tables → ℕ → List (ℕ × Bool)
withdraw_tests b amount = bad_amount amount ∷ short_of_balance b amount ∷ []

abbrev pub WithdrawRule : Tables → ℕ → Answer → Tables → Type 0
WithdrawRule b amount r after = ByTests (withdraw_tests b amount) b r after (answers 0 (withdrawn amount b))
