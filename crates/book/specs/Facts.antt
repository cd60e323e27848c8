-- Facts of a book that its calls rest on. Assumes nothing.
use Rattle.std.specs.Prelude.{◌≡◌, ℕ, ◌^◌, ◌≤◌, List, Some, Option}
use Rattle.register.specs.Rows.{lookup}
use Rattle.margin.specs.declared.contract.Contract.{Contract}
use Rattle.margin.specs.declared.pair.FittedPair.{FittedPair}
use Rattle.margin.specs.declared.strategy.Strategy.{Strategy}
use Rattle.margin.specs.ByCode.{by_code}
use Rattle.ledger.specs.declared.order.Combination.{Combination}
use Rattle.ledger.specs.declared.tables.Funds.{Funds}
use Rattle.ledger.specs.declared.tables.Tables.{Tables}
use Rattle.ledger.specs.Law.{contracts_of}
use Rattle.ledger.specs.Moves.{content}
use Rattle.ledger.specs.Runs.{Fitted, SoundCombination}
use Rattle.book.specs.declared.moves.Flow.{Flow}

-- every standing combination's legs are listed and fit
abbrev pub AllFitted : Tables → Type 0
AllFitted b = (n : ℕ) (k : Combination) → lookup b.combinations n ≡ Some k → Fitted (contracts_of b) (content k)

-- every standing combination is sound: its account is one of the book's, its legs are listed and fit, and it has lots
abbrev pub AllSound : Tables → Type 0
AllSound b = (n : ℕ) (k : Combination) → lookup b.combinations n ≡ Some k → SoundCombination (contracts_of b) (content k)

-- no fund passes the cash total's limit
pub record FundsWithin (f : Funds) : Type 0 where
  pub balance : f.balance ≤ 10 ^ 17
  pub held : f.held ≤ 10 ^ 17
  pub reserved : f.reserved ≤ 10 ^ 17
  pub cash : f.cash ≤ 10 ^ 17

-- what moves the funds stays small enough to be summed
pub record FlowWithin (f : Flow) : Type 0 where
  pub reserve : f.reserve ≤ 10 ^ 18
  pub received : f.received ≤ 10 ^ 18
  pub back : f.back ≤ 10 ^ 18
  pub taken : f.taken ≤ 10 ^ 18

-- the fitted pair of a combination
pub record PairOf (cs : List Contract) (k : Combination) (pair : FittedPair) : Type 0 where
  pub strategy : pair.strategy ≡ k.strategy
  pub first : by_code cs k.first ≡ Some pair.first
  pub second : by_code cs k.second ≡ Some pair.second

-- the fitted pair of a strategy, if there is one, and two codes
pub record PairNamed (cs : List Contract) (s : Option Strategy) (one other : ℕ) (pair : FittedPair) : Type 0 where
  pub strategy : s ≡ Some pair.strategy
  pub first : by_code cs one ≡ Some pair.first
  pub second : by_code cs other ≡ Some pair.second
