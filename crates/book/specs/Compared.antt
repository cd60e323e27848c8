-- The comparison of two books. Assumes nothing.
use Rattle.std.specs.Prelude.{◌≡◌, Bool, true}
use Rattle.margin.specs.Meaning.{Meaning}
use Rattle.ledger.specs.declared.tables.Tables.{Tables}
use Rattle.ledger.specs.ByCode.{SameMeaning}
use Rattle.ledger.specs.Law.{contracts_of}
use Rattle.ledger.specs.Runs.{SameBooks}

-- over scales of one meaning, with the same contracts, and the same cash total, lots, combinations and orders but for rows and numbers, two books have equal balances; and the answer says so
abbrev pub EqualWhereSame : Meaning → Tables → Meaning → Tables → Bool → Type 0
EqualWhereSame m b n d answer = SameMeaning m n → contracts_of b ≡ contracts_of d → SameBooks b d → (b.funds.balance ≡ d.funds.balance) × (answer ≡ true)
