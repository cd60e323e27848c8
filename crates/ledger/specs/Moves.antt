-- The tables with one thing moved: funds, a position, an order, a combination. Assumes nothing.
use Rattle.std.specs.Prelude.{ℕ, ◌+◌, ◌-◌, cond, List, Some, None, Option, nat_le, slice_set}
use Rattle.register.specs.declared.row.Row.{Row}
use Rattle.register.specs.declared.series.Series.{Series}
use Rattle.register.specs.Rows.{lookup, changed, removed}
use Rattle.margin.specs.declared.strategy.Strategy.{Strategy}
use Rattle.margin.specs.Strategies.{first_written}
use Rattle.ledger.specs.declared.order.OrderKind.{OrderKind}
use Rattle.ledger.specs.declared.order.OrderKind.TheVariants.{SellOpen, BuyOpen, BuyClose, SellClose, LegClose}
use Rattle.ledger.specs.declared.order.Order.{Order}
use Rattle.ledger.specs.declared.order.Combination.{Combination}
use Rattle.ledger.specs.declared.tables.Tables.{Tables}
use Rattle.ledger.specs.declared.tables.Funds.{Funds}
use Rattle.ledger.specs.declared.tables.Position.{Position}
use Rattle.margin.specs.Strategies.{first_written}
use Rattle.ledger.specs.Content.{Pairing}
use Rattle.ledger.specs.Law.{position_row, position_of}

abbrev pub funds_to : Funds → Tables → Tables
funds_to x b = record { listing = b.listing; permitted = b.permitted; positions = b.positions; combinations = b.combinations; orders = b.orders; combination_series = b.combination_series; order_series = b.order_series; funds = x }

abbrev pub position_to : ℕ → Position → Tables → Tables
position_to i x b = record { listing = b.listing; permitted = b.permitted; positions = slice_set b.positions i x; combinations = b.combinations; orders = b.orders; combination_series = b.combination_series; order_series = b.order_series; funds = b.funds }

abbrev pub orders_to : List (Row Order) → Series → Tables → Tables
orders_to x next b = record { listing = b.listing; permitted = b.permitted; positions = b.positions; combinations = b.combinations; orders = x; combination_series = b.combination_series; order_series = next; funds = b.funds }

abbrev pub combinations_to : List (Row Combination) → Series → Tables → Tables
combinations_to x next b = record { listing = b.listing; permitted = b.permitted; positions = b.positions; combinations = x; orders = b.orders; combination_series = next; order_series = b.order_series; funds = b.funds }

abbrev pub free_bought : Position → ℕ
free_bought p = p.bought - p.locked_bought

abbrev pub free_written : Position → ℕ
free_written p = p.written - p.locked_written

abbrev pub locking_bought : ℕ → Position → Position
locking_bought lots p = record { bought = p.bought; written = p.written; locked_bought = p.locked_bought + lots; locked_written = p.locked_written }

abbrev pub locking_written : ℕ → Position → Position
locking_written lots p = record { bought = p.bought; written = p.written; locked_bought = p.locked_bought; locked_written = p.locked_written + lots }

abbrev pub unlocking_bought : ℕ → Position → Position
unlocking_bought lots p = record { bought = p.bought; written = p.written; locked_bought = p.locked_bought - lots; locked_written = p.locked_written }

abbrev pub unlocking_written : ℕ → Position → Position
unlocking_written lots p = record { bought = p.bought; written = p.written; locked_bought = p.locked_bought; locked_written = p.locked_written - lots }

abbrev pub buying : ℕ → Position → Position
buying lots p = record { bought = p.bought + lots; written = p.written; locked_bought = p.locked_bought; locked_written = p.locked_written }

abbrev pub writing : ℕ → Position → Position
writing lots p = record { bought = p.bought; written = p.written + lots; locked_bought = p.locked_bought; locked_written = p.locked_written }

abbrev pub closing_bought : ℕ → Position → Position
closing_bought lots p = record { bought = p.bought - lots; written = p.written; locked_bought = p.locked_bought - lots; locked_written = p.locked_written }

abbrev pub closing_written : ℕ → Position → Position
closing_written lots p = record { bought = p.bought; written = p.written - lots; locked_bought = p.locked_bought; locked_written = p.locked_written - lots }

-- one position row of the tables moved
abbrev pub at : ℕ → ℕ → (Position → Position) → Tables → Tables
at a code move b = position_to (position_row b a code) (move (position_of b a code)) b

-- the first leg of a strategy locked or unlocked on its side
abbrev pub lock_first : Strategy → ℕ → Position → Position
lock_first s lots p = cond (first_written s) (locking_written lots p) (locking_bought lots p)

abbrev pub unlock_first : Strategy → ℕ → Position → Position
unlock_first s lots p = cond (first_written s) (unlocking_written lots p) (unlocking_bought lots p)

abbrev pub free_first : Strategy → Position → ℕ
free_first s p = cond (first_written s) (free_written p) (free_bought p)

abbrev pub content : Combination → Pairing
content k = record { account = k.account; strategy = k.strategy; first = k.first; second = k.second; lots = k.lots }

abbrev pub with_lots : ℕ → ℕ → Combination → Combination
with_lots lots engaged k = record { account = k.account; strategy = k.strategy; first = k.first; second = k.second; lots = lots; engaged = engaged }

-- the rows after some lots of an entry are gone: the entry with the rest, or its row freed
abbrev pub combination_rest : ℕ → ℕ → ℕ → Combination → List (Row Combination) → List (Row Combination)
combination_rest n lots engaged k rows = cond (nat_le k.lots lots) (removed rows n) (changed rows n (with_lots (k.lots - lots) (k.engaged - engaged) k))

abbrev pub order_rest : ℕ → ℕ → Order → List (Row Order) → List (Row Order)
order_rest n lots o rows = cond (nat_le o.lots lots) (removed rows n) (changed rows n (record { account = o.account; kind = o.kind; lots = o.lots - lots; limit = o.limit }))

-- the combination that a leg close names, by its content
abbrev pub content_of : Option Combination → Option Pairing
content_of (Some k) = Some (content k)
content_of None = None

abbrev pub combination_named : List (Row Combination) → OrderKind → Option Pairing
combination_named rows (SellOpen c) = None
combination_named rows (BuyOpen c) = None
combination_named rows (BuyClose c) = None
combination_named rows (SellClose c) = None
combination_named rows (LegClose n c) = content_of (lookup rows n)
