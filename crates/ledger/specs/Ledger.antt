-- The ledger: what stands, and the cash that came in and went out, read from accepted calls alone. Assumes nothing.
use Rattle.std.specs.Prelude.{ℕ, ◌+◌, ◌-◌, cond, ◌&&◌, List, [], ◌∷◌, Some, None, Option, ◌==◌, nat_le}
use Rattle.margin.specs.declared.contract.Contract.{Contract}
use Rattle.margin.specs.declared.strategy.Strategy.{Strategy}
use Rattle.margin.specs.Strategies.{strategy_of}
use Rattle.ledger.specs.declared.call.Call.{Call}
use Rattle.ledger.specs.declared.call.Call.TheVariants as call
use Rattle.ledger.specs.declared.order.Order.{Order}
use Rattle.ledger.specs.declared.order.OrderKind.{OrderKind}
use Rattle.ledger.specs.declared.order.OrderKind.TheVariants.{SellOpen, BuyOpen, BuyClose, SellClose, LegClose}
use Rattle.ledger.specs.Content.{Pairing}
use Rattle.ledger.specs.Amounts.{premium}

pub record Entry (T : Type 0) : Type 0 where
  pub number : ℕ
  pub content : T

-- cash that came in (opening balance, deposits, premiums received) and cash that went out (withdrawals, premiums paid), each only ever added to;
-- lots owned by account and code; combinations and orders under their numbers, the newest first
pub record Ledger : Type 0 where
  pub came_in : ℕ
  pub went_out : ℕ
  pub bought : ℕ → ℕ → ℕ
  pub written : ℕ → ℕ → ℕ
  pub combinations : List (Entry Pairing)
  pub orders : List (Entry Order)
  pub next_combination : ℕ
  pub next_order : ℕ

-- the ledger at opening
abbrev pub opening_ledger : ℕ → ℕ → Ledger
opening_ledger balance first = record { came_in = balance; went_out = 0; bought = λ a c. 0; written = λ a c. 0; combinations = []; orders = []; next_combination = first; next_order = first }

-- the cash total
abbrev pub cash_total : Ledger → ℕ
cash_total l = l.came_in - l.went_out

-- the ledger with one thing changed
abbrev pub cash_in : ℕ → Ledger → Ledger
cash_in x l = record { came_in = l.came_in + x; went_out = l.went_out; bought = l.bought; written = l.written; combinations = l.combinations; orders = l.orders; next_combination = l.next_combination; next_order = l.next_order }

abbrev pub cash_out : ℕ → Ledger → Ledger
cash_out x l = record { came_in = l.came_in; went_out = l.went_out + x; bought = l.bought; written = l.written; combinations = l.combinations; orders = l.orders; next_combination = l.next_combination; next_order = l.next_order }

abbrev pub bought_to : (ℕ → ℕ → ℕ) → Ledger → Ledger
bought_to x l = record { came_in = l.came_in; went_out = l.went_out; bought = x; written = l.written; combinations = l.combinations; orders = l.orders; next_combination = l.next_combination; next_order = l.next_order }

abbrev pub written_to : (ℕ → ℕ → ℕ) → Ledger → Ledger
written_to x l = record { came_in = l.came_in; went_out = l.went_out; bought = l.bought; written = x; combinations = l.combinations; orders = l.orders; next_combination = l.next_combination; next_order = l.next_order }

abbrev pub combinations_to : List (Entry Pairing) → Ledger → Ledger
combinations_to x l = record { came_in = l.came_in; went_out = l.went_out; bought = l.bought; written = l.written; combinations = x; orders = l.orders; next_combination = l.next_combination; next_order = l.next_order }

abbrev pub orders_to : List (Entry Order) → Ledger → Ledger
orders_to x l = record { came_in = l.came_in; went_out = l.went_out; bought = l.bought; written = l.written; combinations = l.combinations; orders = x; next_combination = l.next_combination; next_order = l.next_order }

-- an entry under the series' next number
abbrev pub order_entered : Order → Ledger → Ledger
order_entered o l = record { came_in = l.came_in; went_out = l.went_out; bought = l.bought; written = l.written; combinations = l.combinations; orders = record { number = l.next_order; content = o } ∷ l.orders; next_combination = l.next_combination; next_order = l.next_order + 1 }

abbrev pub combination_entered : Pairing → Ledger → Ledger
combination_entered p l = record { came_in = l.came_in; went_out = l.went_out; bought = l.bought; written = l.written; combinations = record { number = l.next_combination; content = p } ∷ l.combinations; orders = l.orders; next_combination = l.next_combination + 1; next_order = l.next_order }

module _ {T : Type 0} where
  -- what stands under a number
  abbrev pub under : List (Entry T) → ℕ → Option T
  under [] n = None
  under (e ∷ es) n = cond (e.number == n) (Some e.content) (under es n)

  -- the entries with other content under a number, or with that entry gone
  abbrev pub put : ℕ → Option T → List (Entry T) → List (Entry T)
  put n x [] = []
  put n (Some x) (e ∷ es) = cond (e.number == n) (record { number = n; content = x } ∷ es) (e ∷ put n (Some x) es)
  put n None (e ∷ es) = cond (e.number == n) es (e ∷ put n None es)

-- some lots fewer; none where no lots are left
abbrev pub order_less : ℕ → Order → Option Order
order_less lots o = cond (nat_le o.lots lots) None (Some (record { account = o.account; kind = o.kind; lots = o.lots - lots; limit = o.limit }))

abbrev pub pairing_less : ℕ → Pairing → Option Pairing
pairing_less lots p = cond (nat_le p.lots lots) None (Some (record { account = p.account; strategy = p.strategy; first = p.first; second = p.second; lots = p.lots - lots }))

-- lots owned, more or fewer at one account and code
abbrev pub more : ℕ → ℕ → ℕ → (ℕ → ℕ → ℕ) → ℕ → ℕ → ℕ
more account code lots own a c = cond (a == account && c == code) (own a c + lots) (own a c)

abbrev pub fewer : ℕ → ℕ → ℕ → (ℕ → ℕ → ℕ) → ℕ → ℕ → ℕ
fewer account code lots own a c = cond (a == account && c == code) (own a c - lots) (own a c)

abbrev pub combination_less : ℕ → ℕ → Option Pairing → Ledger → Ledger
combination_less n lots (Some p) l = combinations_to (put n (pairing_less lots p) l.combinations) l
combination_less n lots None l = l

-- lots owned and cash, and the combination of a leg close, after a fill
abbrev pub traded : List Contract → OrderKind → ℕ → ℕ → ℕ → Ledger → Ledger
traded cs (SellOpen c) account lots price l = cash_in (premium cs c lots price) (written_to (more account c lots l.written) l)
traded cs (BuyOpen c) account lots price l = cash_out (premium cs c lots price) (bought_to (more account c lots l.bought) l)
traded cs (BuyClose c) account lots price l = cash_out (premium cs c lots price) (written_to (fewer account c lots l.written) l)
traded cs (SellClose c) account lots price l = cash_in (premium cs c lots price) (bought_to (fewer account c lots l.bought) l)
traded cs (LegClose k c) account lots price l = cash_out (premium cs c lots price) (written_to (fewer account c lots l.written) (combination_less k lots (under l.combinations k) l))

abbrev pub filled : List Contract → ℕ → Option Order → ℕ → ℕ → Ledger → Ledger
filled cs n (Some o) lots price l = traded cs o.kind o.account lots price (orders_to (put n (order_less lots o) l.orders) l)
filled cs n None lots price l = l

abbrev pub combined : ℕ → Option Strategy → ℕ → ℕ → ℕ → Ledger → Ledger
combined account (Some s) first second lots l = combination_entered (record { account = account; strategy = s; first = first; second = second; lots = lots }) l
combined account None first second lots l = l

abbrev pub account_of : Option Pairing → ℕ
account_of (Some p) = p.account
account_of None = 0

-- the ledger after an accepted call
abbrev pub entered : List Contract → Call → Ledger → Ledger
entered cs (call.Deposit amount) l = cash_in amount l
entered cs (call.Withdraw amount) l = cash_out amount l
entered cs (call.SellOpen account contract lots limit) l = order_entered (record { account = account; kind = SellOpen contract; lots = lots; limit = limit }) l
entered cs (call.BuyOpen account contract lots limit) l = order_entered (record { account = account; kind = BuyOpen contract; lots = lots; limit = limit }) l
entered cs (call.BuyClose account contract lots limit) l = order_entered (record { account = account; kind = BuyClose contract; lots = lots; limit = limit }) l
entered cs (call.SellClose account contract lots limit) l = order_entered (record { account = account; kind = SellClose contract; lots = lots; limit = limit }) l
entered cs (call.LegClose combination leg lots limit) l = order_entered (record { account = account_of (under l.combinations combination); kind = LegClose combination leg; lots = lots; limit = limit }) l
entered cs (call.Fill order lots price) l = filled cs order (under l.orders order) lots price l
entered cs (call.Cancel order) l = orders_to (put order None l.orders) l
entered cs (call.Combine account strategy first second lots) l = combined account (strategy_of strategy) first second lots l
entered cs (call.Release combination lots) l = combination_less combination lots (under l.combinations combination) l
