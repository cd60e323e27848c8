-- Runs of calls, the law over them, and the comparison of two books. Assumes nothing.
use Rattle.std.specs.Prelude.{◌≡◌, ℕ, ◌+◌, ◌^◌, ◌<◌, ◌≤◌, true, cond, List, [], ◌∷◌, map, length, Some, Ok, Err, Option, ◌==◌}
use Rattle.std.specs.List.Sorted.{IsPermutation}
use Rattle.register.specs.declared.row.Row.{Row}
use Rattle.register.specs.Rows.{Apart}
use Rattle.margin.specs.ByCode.{by_code}
use Rattle.margin.specs.declared.contract.Contract.{Contract}
use Rattle.margin.specs.declared.strategy.Strategy.{Strategy}
use Rattle.margin.specs.Fits.{fits}
use Rattle.ledger.specs.declared.call.Call.{Call}
use Rattle.ledger.specs.declared.call.Call.TheVariants as call
use Rattle.ledger.specs.declared.order.Order.{Order}
use Rattle.ledger.specs.declared.order.OrderKind.{OrderKind}
use Rattle.ledger.specs.declared.order.OrderKind.TheVariants.{SellOpen, BuyOpen, BuyClose, SellClose, LegClose}
use Rattle.ledger.specs.declared.tables.Tables.{Tables}
use Rattle.margin.specs.Meaning.{Meaning}
use Rattle.ledger.specs.Ledger.{Ledger, Entry, under, entered, cash_total}
use Rattle.ledger.specs.Content.{Pairing, contract_of}
use Rattle.ledger.specs.Law.{Beside, contracts_of, engaged, position_of, combination_of}
use Rattle.ledger.specs.Tests.{Answer, Standing}
use Rattle.ledger.specs.OrderRules.{working_sum, opens_written, opens_bought, SellOpenRule, BuyOpenRule, BuyCloseRule, SellCloseRule}
use Rattle.ledger.specs.Moves.{content, combination_named}
use Rattle.ledger.specs.FillRules.{FillRule, CancelRule}
use Rattle.ledger.specs.CombinationRules.{written_leg, LegCloseRule, CombineRule, ReleaseRule}
use Rattle.ledger.specs.CashRules.{DepositRule, WithdrawRule}
use Rattle.margin.specs.Strategies.{strategy_of}

-- a call, its answer and the tables after it, by the rules
abbrev pub ByTheRules : Meaning → Tables → Call → Answer → Tables → Type 0
ByTheRules m b (call.Deposit amount) r after = DepositRule b amount r after
ByTheRules m b (call.Withdraw amount) r after = WithdrawRule b amount r after
ByTheRules m b (call.SellOpen account contract lots limit) r after = SellOpenRule m b account contract lots limit r after
ByTheRules m b (call.BuyOpen account contract lots limit) r after = BuyOpenRule m b account contract lots limit r after
ByTheRules m b (call.BuyClose account contract lots limit) r after = BuyCloseRule m b account contract lots limit r after
ByTheRules m b (call.SellClose account contract lots limit) r after = SellCloseRule m b account contract lots limit r after
ByTheRules m b (call.LegClose combination leg lots limit) r after = LegCloseRule m b combination leg lots limit r after
ByTheRules m b (call.Fill order lots price) r after = FillRule m b order lots price r after
ByTheRules m b (call.Cancel order) r after = CancelRule m b order r after
ByTheRules m b (call.Combine account strategy first second lots) r after = CombineRule m b account strategy first second lots r after
ByTheRules m b (call.Release combination lots) r after = ReleaseRule m b combination lots r after

pub record Event : Type 0 where
  pub made : Call
  pub answer : Answer

-- a run: each call answered by the rules, from one state of the tables to the next
pub data Run (m : Meaning) : Tables → List Event → Tables → Type 0 where
  start : {b : Tables} → Run m b [] b
  onward : {b after last : Tables} {e : Event} {es : List Event} → ByTheRules m b e.made e.answer after → Run m after es last → Run m b (e ∷ es) last

-- What the ledger can take ------------------------------------------------------------------------
-- Of cash nothing is said here: a book that pays out more than came in has no cash total that keeps the law.

-- a closing fill takes lots that are owned; that of a leg close also lots that stand in its combination
abbrev pub Fillable : Ledger → ℕ → ℕ → OrderKind → Type 0
Fillable l account lots (SellOpen c) = Unit {0}
Fillable l account lots (BuyOpen c) = Unit {0}
Fillable l account lots (BuyClose c) = lots ≤ l.written account c
Fillable l account lots (SellClose c) = lots ≤ l.bought account c
Fillable l account lots (LegClose n c) = (lots ≤ l.written account c) × Standing (under l.combinations n) (λ p. lots ≤ p.lots)

-- the order or combination that a call names stands, with at least its lots; the strategy is one of the six; what a fill takes is owned
abbrev pub Enterable : Call → Ledger → Type 0
Enterable (call.Deposit amount) l = Unit {0}
Enterable (call.Withdraw amount) l = Unit {0}
Enterable (call.SellOpen account contract lots limit) l = Unit {0}
Enterable (call.BuyOpen account contract lots limit) l = Unit {0}
Enterable (call.BuyClose account contract lots limit) l = Unit {0}
Enterable (call.SellClose account contract lots limit) l = Unit {0}
Enterable (call.LegClose combination leg lots limit) l = Standing (under l.combinations combination) (λ p. lots ≤ p.lots)
Enterable (call.Fill order lots price) l = Standing (under l.orders order) (λ o. (lots ≤ o.lots) × Fillable l o.account lots o.kind)
Enterable (call.Cancel order) l = (o : Order) × (under l.orders order ≡ Some o)
Enterable (call.Combine account strategy first second lots) l = (s : Strategy) × (strategy_of strategy ≡ Some s)
Enterable (call.Release combination lots) l = Standing (under l.combinations combination) (λ p. lots ≤ p.lots)

-- said of a call where it was accepted
abbrev pub Accepted : Answer → Type 0 → Type 0
Accepted (Ok x) P = P
Accepted (Err e) P = Unit {0}

-- the ledger fed with a call, if it was accepted
abbrev pub fed : List Contract → Event → Ledger → Ledger
fed cs e l = elim e.answer [ Ok x ↦ entered cs e.made l | Err x ↦ l ]

-- What keeps the law going ------------------------------------------------------------------------

-- numbers of entries are given once, from 1 and below the next
abbrev pub Numbers : {T : Type 0} → List (Entry T) → ℕ → Type 0
Numbers [] next = Unit {0}
Numbers (e ∷ es) next = (1 ≤ e.number) × (e.number < next) × Numbers es e.number

-- a contract is listed
abbrev pub Listed : List Contract → ℕ → Type 0
Listed cs code = (c : Contract) × (by_code cs code ≡ Some c)

-- both legs are listed, and fit the strategy
pub record Fitted (cs : List Contract) (p : Pairing) : Type 0 where
  pub first : Contract
  pub second : Contract
  pub first_listed : by_code cs p.first ≡ Some first
  pub second_listed : by_code cs p.second ≡ Some second
  pub fit : fits p.strategy first second ≡ true

pub record SoundCombination (cs : List Contract) (p : Pairing) : Type 0 where
  pub account : (1 ≤ p.account) × (p.account ≤ 8)
  pub fitted : Fitted cs p
  pub lots : 1 ≤ p.lots

-- a leg close names a combination that stands, of its account, and a written leg of it
pub record LegOf (ps : List (Entry Pairing)) (a n code : ℕ) : Type 0 where
  pub combination : Pairing
  pub stands : under ps n ≡ Some combination
  pub account : combination.account ≡ a
  pub leg : written_leg combination code ≡ true

abbrev pub LegStands : List (Entry Pairing) → ℕ → OrderKind → Type 0
LegStands ps a (SellOpen c) = Unit {0}
LegStands ps a (BuyOpen c) = Unit {0}
LegStands ps a (BuyClose c) = Unit {0}
LegStands ps a (SellClose c) = Unit {0}
LegStands ps a (LegClose n c) = LegOf ps a n c

pub record SoundOrder (cs : List Contract) (ps : List (Entry Pairing)) (o : Order) : Type 0 where
  pub account : (1 ≤ o.account) × (o.account ≤ 8)
  pub contract : Listed cs (contract_of o.kind)
  pub lots : (1 ≤ o.lots) × (o.lots ≤ 1000)
  pub limit : (1 ≤ o.limit) × (o.limit ≤ 10 ^ 7)
  pub leg : LegStands ps o.account o.kind

-- codes rise above a number, so no two contracts have one code
abbrev pub Rising : ℕ → List Contract → Type 0
Rising low [] = Unit {0}
Rising low (c ∷ cs) = (low < c.code) × Rising c.code cs

-- an account of the book, and a listed contract
abbrev pub OnTheBook : List Contract → ℕ → ℕ → Type 0
OnTheBook cs a code = (1 ≤ a) × (a ≤ 8) × Listed cs code

pub record Sound (l : Ledger) (b : Tables) : Type 0 where
  pub codes : Rising 0 (contracts_of b)
  pub count : length (contracts_of b) ≤ 64
  pub position_rows : length b.positions ≡ 512
  pub cash : cash_total l ≤ 10 ^ 17
  pub owned : (a code : ℕ) → 1 ≤ l.bought a code + l.written a code → OnTheBook (contracts_of b) a code
  pub combination_numbers : Numbers l.combinations l.next_combination
  pub order_numbers : Numbers l.orders l.next_order
  pub combinations : (n : ℕ) (p : Pairing) → under l.combinations n ≡ Some p → SoundCombination (contracts_of b) p
  pub orders : (n : ℕ) (o : Order) → under l.orders n ≡ Some o → SoundOrder (contracts_of b) l.combinations o
  pub engaged_most : (n : ℕ) (p : Pairing) → under l.combinations n ≡ Some p → engaged l n ≤ p.lots
  pub combination_rows : Apart b.combinations
  pub order_rows : Apart b.orders
  pub last_combination : (1 ≤ l.next_combination) × (l.next_combination ≤ 2 ^ 32)
  pub last_order : (1 ≤ l.next_order) × (l.next_order ≤ 2 ^ 32)
  pub written_most : (a code : ℕ) → l.written a code + working_sum b.orders (λ o. opens_written a code o o.kind) ≤ 10000
  pub bought_most : (a code : ℕ) → l.bought a code + working_sum b.orders (λ o. opens_bought a code o o.kind) ≤ 10000

-- the law: the ledger stands beside the book, soundly
pub record Law (m : Meaning) (l : Ledger) (b : Tables) : Type 0 where
  pub beside : Beside m l b
  pub sound : Sound l b

-- this scale is the one that the book is kept under: the one thing that a call asks
abbrev pub Kept : Meaning → Tables → Type 0
Kept m b = (l : Ledger) × Law m l b

-- the law along a run of the day's contracts, at each state that the run goes through: the contracts are the day's; the ledger, fed with what was accepted so far, stands beside that state; and a call accepted next is one that the ledger can take
abbrev pub LawAlong : (m : Meaning) (cs : List Contract) (b last : Tables) (es : List Event) → Run m b es last → Ledger → Type 0
LawAlong m cs b last [] run l = (contracts_of b ≡ cs) × Law m l b
LawAlong m cs b last (e ∷ es) (onward {after = after} step run) l = (contracts_of b ≡ cs) × Law m l b × Accepted e.answer (Enterable e.made l) × LawAlong m cs after last es run (fed cs e l)

-- An order for the comparison of two books: a leg close with its combination's content in place of the number
pub record OrderContent : Type 0 where
  pub account : ℕ
  pub kind : OrderKind
  pub lots : ℕ
  pub limit : ℕ
  pub combination : Option Pairing

abbrev pub unnumbered : OrderKind → OrderKind
unnumbered (SellOpen c) = SellOpen c
unnumbered (BuyOpen c) = BuyOpen c
unnumbered (BuyClose c) = BuyClose c
unnumbered (SellClose c) = SellClose c
unnumbered (LegClose n c) = LegClose 0 c

abbrev pub order_content : Option Pairing → Order → OrderContent
order_content p o = record { account = o.account; kind = unnumbered o.kind; lots = o.lots; limit = o.limit; combination = p }

abbrev pub orders_of : Ledger → List OrderContent
orders_of l = map (λ (e : Entry Order). order_content (combination_of l.combinations e.content.kind) e.content) l.orders

abbrev pub combinations_of : Ledger → List Pairing
combinations_of l = map (λ (e : Entry Pairing). e.content) l.combinations

-- two ledgers with the same standing lots, combinations and orders; only their order and their numbers may differ
pub record SameStanding (l k : Ledger) : Type 0 where
  pub bought : (a c : ℕ) → l.bought a c ≡ k.bought a c
  pub written : (a c : ℕ) → l.written a c ≡ k.written a c
  pub combinations : IsPermutation (combinations_of l) (combinations_of k)
  pub orders : IsPermutation (orders_of l) (orders_of k)

-- The same of two books, on their tables -----------------------------------------------------------

-- the entries of the rows in use
abbrev pub in_use : {T : Type 0} → List (Row T) → List T
in_use [] = []
in_use (r ∷ rs) = cond (r.number == 0) (in_use rs) (r.entry ∷ in_use rs)

abbrev pub book_combinations : Tables → List Pairing
book_combinations b = map content (in_use b.combinations)

abbrev pub book_orders : Tables → List OrderContent
book_orders b = map (λ (o : Order). order_content (combination_named b.combinations o.kind) o) (in_use b.orders)

-- two books that are the same but for rows and numbers: the cash total, the lots of each account and listed contract, the combinations and the orders
pub record SameBooks (b d : Tables) : Type 0 where
  pub cash : b.funds.cash ≡ d.funds.cash
  pub bought : (a code : ℕ) → OnTheBook (contracts_of b) a code → (position_of b a code).bought ≡ (position_of d a code).bought
  pub written : (a code : ℕ) → OnTheBook (contracts_of b) a code → (position_of b a code).written ≡ (position_of d a code).written
  pub combinations : IsPermutation (book_combinations b) (book_combinations d)
  pub orders : IsPermutation (book_orders b) (book_orders d)
