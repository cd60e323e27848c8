-- The theorems of the law: at opening, after each call, along every run, and for two books. Assumes nothing.
use Rattle.std.specs.Prelude.{◌≡◌, ℕ, ◌^◌, ◌<◌, ◌≤◌, false, List, [], ◌∷◌, length, replicate, Ok}
use Rattle.register.specs.declared.row.Row.{Row}
use Rattle.register.specs.Numbers.{next_of}
use Rattle.margin.specs.declared.contract.Contract.{Contract}
use Rattle.ledger.specs.declared.call.Call.{Call}
use Rattle.ledger.specs.declared.order.Order.{Order}
use Rattle.ledger.specs.declared.tables.Tables.{Tables}
use Rattle.margin.specs.Meaning.{Meaning}
use Rattle.ledger.specs.ByCode.{SameMeaning}
use Rattle.ledger.specs.Ledger.{Ledger, opening_ledger}
use Rattle.ledger.specs.Law.{contracts_of, none}
use Rattle.ledger.specs.Tests.{Answer}
use Rattle.ledger.specs.FillRules.{past_limit, short_of_funds, flow}
use Rattle.ledger.specs.Runs.{Law, Rising, fed, Event, ByTheRules, Run, Accepted, Enterable, LawAlong, Kept, SameBooks}

-- a call made on a book, answered with r and leaving after: for every ledger beside the book, where the call was accepted the ledger can take it, and the ledger fed with the call stands beside the book after it
abbrev pub KeptBy : Meaning → Tables → Call → Answer → Tables → Type 0
KeptBy m b c r after = (l : Ledger) → Law m l b → Accepted r (Enterable c l) × Law m (fed (contracts_of b) (record { made = c; answer = r }) l) after

-- any call, answered by its rule, keeps the law
abbrev pub CallsKeep : Type 0
CallsKeep = (m : Meaning) (b : Tables) (c : Call) (r : Answer) (after : Tables) → ByTheRules m b c r after → KeptBy m b c r after

-- no call changes the contracts
abbrev pub ContractsStay : Type 0
ContractsStay = (m : Meaning) (b : Tables) (c : Call) (r : Answer) (after : Tables) → ByTheRules m b c r after → contracts_of after ≡ contracts_of b

-- an accepted call answers the balance after it
abbrev pub BalanceAnswered : Type 0
BalanceAnswered = (m : Meaning) (b : Tables) (c : Call) (x : ℕ × ℕ) (after : Tables) → ByTheRules m b c (Ok x) after → x.1 ≡ after.funds.balance

-- a fill within the order's limit is never short of balance: its test 21 is met in no book
abbrev pub FillNeverShort : Type 0
FillNeverShort = (m : Meaning) (b : Tables) (o : Order) (lots price : ℕ) → past_limit o price ≡ false → short_of_funds (flow m b o.kind o.limit lots price) b.funds ≡ false

-- what a passed file warrants of its contracts, strategies permitted for leg close, opening balance and first number
pub record PassedFile (cs : List Contract) (permitted balance first : ℕ) : Type 0 where
  pub codes : Rising 0 cs
  pub count : (1 ≤ length cs) × (length cs ≤ 64)
  pub strategies : permitted ≤ 63
  pub most : balance ≤ 10 ^ 16
  pub numbers : (1 ≤ first) × (first < 2 ^ 32)

abbrev pub Free : {T : Type 0} → List (Row T) → Type 0
Free [] = Unit {0}
Free (r ∷ rs) = (r.number ≡ 0) × Free rs

-- the tables of a book opened with these: no lots, 64 + 64 rows, every one free, and the balance as cash total
pub record Opened (cs : List Contract) (permitted balance first : ℕ) (b : Tables) : Type 0 where
  pub contracts : contracts_of b ≡ cs
  pub strategies : b.permitted ≡ permitted
  pub positions : b.positions ≡ replicate 512 none
  pub combination_rows : length b.combinations ≡ 64
  pub order_rows : length b.orders ≡ 64
  pub combinations : Free b.combinations
  pub orders : Free b.orders
  pub next_combination : next_of b.combination_series ≡ first
  pub next_order : next_of b.order_series ≡ first
  pub funds : b.funds ≡ record { balance = balance; held = 0; reserved = 0; cash = balance }

-- the law stands at opening
abbrev pub OpeningLaw : Type 0
OpeningLaw = (m : Meaning) (cs : List Contract) (permitted balance first : ℕ) (b : Tables) → PassedFile cs permitted balance first → Opened cs permitted balance first b → Law m (opening_ledger balance first) b

-- the law stands along every run
abbrev pub RunLaw : Type 0
RunLaw = (m : Meaning) (b last : Tables) (es : List Event) (run : Run m b es last) (l : Ledger) → Law m l b → LawAlong m (contracts_of b) b last es run l

-- the whole day: for a book opened from a passed file and any run from it, the law along that run, from the opening ledger on
abbrev pub DayLaw : Type 0
DayLaw = (m : Meaning) (cs : List Contract) (permitted balance first : ℕ) (b last : Tables) (es : List Event) → PassedFile cs permitted balance first → Opened cs permitted balance first b →
    (run : Run m b es last) → LawAlong m cs b last es run (opening_ledger balance first)

-- two books that are kept under scales of one meaning, and are the same but for rows and numbers, have equal balances
abbrev pub SameBooksBalance : Type 0
SameBooksBalance = (m n : Meaning) (b d : Tables) → Kept m b → Kept n d → SameMeaning m n → contracts_of b ≡ contracts_of d → SameBooks b d → b.funds.balance ≡ d.funds.balance
