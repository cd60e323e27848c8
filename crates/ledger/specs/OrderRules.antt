-- The rules of the four orders by account and contract: sell open, buy open, buy close, sell close. Assumes nothing.
use Rattle.std.specs.Prelude.{ℕ, ◌+◌, ◌-◌, ◌*◌, Bool, cond, ◌&&◌, List, [], ◌∷◌, ◌++◌, sum_by, ◌==◌, nat_lt}
use Rattle.register.specs.declared.row.Row.{Row}
use Rattle.register.specs.Numbers.{next_of, moved_on}
use Rattle.register.specs.Rows.{Added}
use Rattle.ledger.specs.declared.order.Order.{Order}
use Rattle.ledger.specs.declared.order.OrderKind.{OrderKind}
use Rattle.ledger.specs.declared.order.OrderKind.TheVariants.{SellOpen, BuyOpen, BuyClose, SellClose, LegClose}
use Rattle.ledger.specs.declared.tables.Tables.{Tables}
use Rattle.ledger.specs.declared.tables.Funds.{Funds}
use Rattle.margin.specs.ByCode.{by_code}
use Rattle.margin.specs.Meaning.{Meaning}
use Rattle.ledger.specs.ByCode.{leg_margin_of, unit_of}
use Rattle.ledger.specs.Law.{contracts_of, position_row, position_of}
use Rattle.ledger.specs.Tests.{Answer, answers, ByTests, bad_account, not_listed, bad_lots, bad_price, short_of_balance, no_row, no_number}
use Rattle.ledger.specs.Moves.{funds_to, position_to, orders_to, free_bought, free_written, locking_bought, locking_written}

-- lots of the working orders that open on a side, by account and contract
abbrev pub opens_written : ℕ → ℕ → Order → OrderKind → ℕ
opens_written a c o (SellOpen k) = cond (o.account == a && k == c) o.lots 0
opens_written a c o (BuyOpen k) = 0
opens_written a c o (BuyClose k) = 0
opens_written a c o (SellClose k) = 0
opens_written a c o (LegClose n k) = 0

abbrev pub opens_bought : ℕ → ℕ → Order → OrderKind → ℕ
opens_bought a c o (SellOpen k) = 0
opens_bought a c o (BuyOpen k) = cond (o.account == a && k == c) o.lots 0
opens_bought a c o (BuyClose k) = 0
opens_bought a c o (SellClose k) = 0
opens_bought a c o (LegClose n k) = 0

abbrev pub working_sum : List (Row Order) → (Order → ℕ) → ℕ
working_sum rows f = sum_by (λ (r : Row Order). cond (r.number == 0) 0 (f r.entry)) rows

abbrev pub too_many : ℕ → ℕ → ℕ → ℕ × Bool
too_many owned working lots = (19, nat_lt 10000 (owned + working + lots))

-- an order enters under the next number at some free row, and its reserve goes from the balance to the reserves
abbrev pub order_funds : ℕ → Funds → Funds
order_funds amount f = record { balance = f.balance - amount; held = f.held; reserved = f.reserved + amount; cash = f.cash }

abbrev pub OrderTaken : Order → ℕ → Tables → Answer → Tables → Type 0
OrderTaken o amount b r after =
    (rows : List (Row Order)) × (Added b.orders (next_of b.order_series) o rows × answers (next_of b.order_series) (funds_to (order_funds amount b.funds) (orders_to rows (moved_on b.order_series) b)) r after)

-- the tests of what every order by account and contract names
abbrev pub terms_tests : Tables → ℕ → ℕ → ℕ → ℕ → List (ℕ × Bool)
terms_tests b a code lots limit = bad_account a ∷ not_listed b code ∷ bad_lots lots ∷ bad_price limit ∷ []

-- the tests of what an order takes: its reserve, a row and a number
abbrev pub enter_tests : Tables → ℕ → List (ℕ × Bool)
enter_tests b amount = short_of_balance b amount ∷ no_row b.orders ∷ no_number b.order_series ∷ []

-- the tests of an order: its own stands among those of all
abbrev pub order_tests : Tables → ℕ → ℕ → ℕ → ℕ → ℕ × Bool → ℕ → List (ℕ × Bool)
order_tests b a code lots limit own amount = terms_tests b a code lots limit ++ (own ∷ enter_tests b amount)

module _ (m : Meaning) (b : Tables) where
  abbrev leg : ℕ → ℕ
  leg code = leg_margin_of m (by_code (contracts_of b) code)

  abbrev unit : ℕ → ℕ
  unit code = unit_of (by_code (contracts_of b) code)

  abbrev pub SellOpenRule : ℕ → ℕ → ℕ → ℕ → Answer → Tables → Type 0
  SellOpenRule a code lots limit r after =
      ByTests (order_tests b a code lots limit (too_many (position_of b a code).written (working_sum b.orders (λ o. opens_written a code o o.kind)) lots) (lots * leg code)) b r after
      (OrderTaken (record { account = a; kind = SellOpen code; lots = lots; limit = limit }) (lots * leg code) b)

  abbrev pub BuyCloseRule : ℕ → ℕ → ℕ → ℕ → Answer → Tables → Type 0
  BuyCloseRule a code lots limit r after =
      ByTests (order_tests b a code lots limit (18, nat_lt (free_written (position_of b a code)) lots) (lots * (limit * unit code))) b r after
      (OrderTaken (record { account = a; kind = BuyClose code; lots = lots; limit = limit }) (lots * (limit * unit code)) (position_to (position_row b a code) (locking_written lots (position_of b a code)) b))

  abbrev pub BuyOpenRule : ℕ → ℕ → ℕ → ℕ → Answer → Tables → Type 0
  BuyOpenRule a code lots limit r after =
      ByTests (order_tests b a code lots limit (too_many (position_of b a code).bought (working_sum b.orders (λ o. opens_bought a code o o.kind)) lots) (lots * (limit * unit code))) b r after
      (OrderTaken (record { account = a; kind = BuyOpen code; lots = lots; limit = limit }) (lots * (limit * unit code)) b)

  abbrev pub SellCloseRule : ℕ → ℕ → ℕ → ℕ → Answer → Tables → Type 0
  SellCloseRule a code lots limit r after =
      ByTests (order_tests b a code lots limit (18, nat_lt (free_bought (position_of b a code)) lots) 0) b r after
      (OrderTaken (record { account = a; kind = SellClose code; lots = lots; limit = limit }) 0 (position_to (position_row b a code) (locking_bought lots (position_of b a code)) b))
