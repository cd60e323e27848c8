-- What the ledger says of margin, reserves and claims, and what it means that it stands beside a book. Assumes nothing.
use Rattle.std.specs.Prelude.{◌≡◌, ℕ, ◌+◌, ◌-◌, ◌*◌, ◌≤◌, Bool, cond, ◌&&◌, List, [], ◌∷◌, Some, None, sum_by, Option, ◌==◌, slice_index_or}
use Rattle.register.specs.Numbers.{next_of}
use Rattle.register.specs.Rows.{lookup}
use Rattle.margin.specs.ByCode.{by_code, index}
use Rattle.margin.specs.Listing.{listed}
use Rattle.margin.specs.declared.contract.Contract.{Contract}
use Rattle.margin.specs.Strategies.{first_written}
use Rattle.ledger.specs.declared.order.Order.{Order}
use Rattle.ledger.specs.declared.order.Combination.{Combination}
use Rattle.ledger.specs.declared.order.OrderKind.{OrderKind}
use Rattle.ledger.specs.declared.order.OrderKind.TheVariants.{SellOpen, BuyOpen, BuyClose, SellClose, LegClose}
use Rattle.ledger.specs.declared.tables.Tables.{Tables}
use Rattle.ledger.specs.declared.tables.Position.{Position}
use Rattle.margin.specs.Meaning.{Meaning}
use Rattle.ledger.specs.Ledger.{Ledger, Entry, under}
use Rattle.ledger.specs.Content.{Pairing}
use Rattle.ledger.specs.Amounts.{reserve_with, pair_margin}

abbrev pub accounts : List ℕ
accounts = 1 ∷ 2 ∷ 3 ∷ 4 ∷ 5 ∷ 6 ∷ 7 ∷ 8 ∷ []

abbrev pub when : Bool → ℕ → ℕ
when b x = cond b x 0

-- the lots of a contract that a combination claims of an account, on each side
abbrev pub written_claim : ℕ → ℕ → Pairing → ℕ
written_claim a c p = when (p.account == a) (when (first_written p.strategy && p.first == c) p.lots + when (p.second == c) p.lots)

abbrev pub bought_claim : ℕ → ℕ → Pairing → ℕ
bought_claim a c p = when (p.account == a) (cond (first_written p.strategy) 0 (when (p.first == c) p.lots))

-- the written lots inside combinations
abbrev pub in_combinations : Ledger → ℕ → ℕ → ℕ
in_combinations l a c = sum_by (λ (e : Entry Pairing). written_claim a c e.content) l.combinations

-- margin held: the leg margin of written lots outside combinations, and the pair margin of combination lots
abbrev pub margin_held : Meaning → List Contract → Ledger → ℕ
margin_held m cs l =
    sum_by (λ a. sum_by (λ (c : Contract). m.leg c * (l.written a c.code - in_combinations l a c.code)) cs) accounts
    + sum_by (λ (e : Entry Pairing). e.content.lots * pair_margin m cs e.content) l.combinations

-- the combination that a leg close names
abbrev pub combination_of : List (Entry Pairing) → OrderKind → Option Pairing
combination_of ps (SellOpen c) = None
combination_of ps (BuyOpen c) = None
combination_of ps (BuyClose c) = None
combination_of ps (SellClose c) = None
combination_of ps (LegClose n c) = under ps n

-- the reserve of one lot of an order
abbrev pub reserve : Meaning → List Contract → List (Entry Pairing) → OrderKind → ℕ → ℕ
reserve m cs ps kind limit = reserve_with m cs kind limit (combination_of ps kind)

-- reserves: lots × reserve over working orders
abbrev pub reserves : Meaning → List Contract → Ledger → ℕ
reserves m cs l = sum_by (λ (e : Entry Order). e.content.lots * reserve m cs l.combinations e.content.kind e.content.limit) l.orders

-- the lots that a working order claims: those of a close
abbrev pub closes_written : ℕ → ℕ → Order → OrderKind → ℕ
closes_written a c o (SellOpen k) = 0
closes_written a c o (BuyOpen k) = 0
closes_written a c o (BuyClose k) = when (o.account == a && k == c) o.lots
closes_written a c o (SellClose k) = 0
closes_written a c o (LegClose n k) = 0

abbrev pub closes_bought : ℕ → ℕ → Order → OrderKind → ℕ
closes_bought a c o (SellOpen k) = 0
closes_bought a c o (BuyOpen k) = 0
closes_bought a c o (BuyClose k) = 0
closes_bought a c o (SellClose k) = when (o.account == a && k == c) o.lots
closes_bought a c o (LegClose n k) = 0

abbrev pub claimed_written : Ledger → ℕ → ℕ → ℕ
claimed_written l a c = in_combinations l a c + sum_by (λ (e : Entry Order). closes_written a c e.content e.content.kind) l.orders

abbrev pub claimed_bought : Ledger → ℕ → ℕ → ℕ
claimed_bought l a c =
    sum_by (λ (e : Entry Pairing). bought_claim a c e.content) l.combinations
    + sum_by (λ (e : Entry Order). closes_bought a c e.content e.content.kind) l.orders

-- the working lots of the leg closes of a combination
abbrev pub engages : ℕ → Order → OrderKind → ℕ
engages n o (SellOpen k) = 0
engages n o (BuyOpen k) = 0
engages n o (BuyClose k) = 0
engages n o (SellClose k) = 0
engages n o (LegClose m k) = when (m == n) o.lots

abbrev pub engaged : Ledger → ℕ → ℕ
engaged l n = sum_by (λ (e : Entry Order). engages n e.content e.content.kind) l.orders

-- what a book's row should hold under a number
abbrev pub combination_under : ℕ → Option Pairing → Option Combination
combination_under eng (Some p) = Some (record { account = p.account; strategy = p.strategy; first = p.first; second = p.second; lots = p.lots; engaged = eng })
combination_under eng None = None

-- the position row of an account and the place of a contract
abbrev pub place : ℕ → ℕ → ℕ
place a k = (a - 1) * 64 + k

abbrev pub none : Position
none = record { bought = 0; written = 0; locked_bought = 0; locked_written = 0 }

abbrev pub position : Tables → ℕ → ℕ → Position
position b a k = slice_index_or b.positions (place a k) none

abbrev pub contracts_of : Tables → List Contract
contracts_of b = listed b.listing

abbrev pub position_row : Tables → ℕ → ℕ → ℕ
position_row b a code = place a (index (contracts_of b) code)

-- the lots that a book keeps of an account and a code
abbrev pub position_of : Tables → ℕ → ℕ → Position
position_of b a code = position b a (index (contracts_of b) code)

-- what an account holds of a contract is what the ledger says
pub record Lots (l : Ledger) (a code : ℕ) (p : Position) : Type 0 where
  pub bought : p.bought ≡ l.bought a code
  pub written : p.written ≡ l.written a code
  pub locked_bought : p.locked_bought ≡ claimed_bought l a code
  pub locked_written : p.locked_written ≡ claimed_written l a code
  pub bought_free : claimed_bought l a code ≤ l.bought a code
  pub written_free : claimed_written l a code ≤ l.written a code

-- the ledger stands beside the book, under a scale's meaning
pub record Beside (m : Meaning) (l : Ledger) (b : Tables) : Type 0 where
  pub cash : b.funds.cash + l.went_out ≡ l.came_in
  pub lots : (a code : ℕ) (c : Contract) → 1 ≤ a → a ≤ 8 → by_code (contracts_of b) code ≡ Some c → Lots l a code (position_of b a code)
  pub combinations : (n : ℕ) → lookup b.combinations n ≡ combination_under (engaged l n) (under l.combinations n)
  pub orders : (n : ℕ) → lookup b.orders n ≡ under l.orders n
  pub next_combination : next_of b.combination_series ≡ l.next_combination
  pub next_order : next_of b.order_series ≡ l.next_order
  pub held : b.funds.held ≡ margin_held m (contracts_of b) l
  pub reserved : b.funds.reserved ≡ reserves m (contracts_of b) l
  pub sum : b.funds.balance + b.funds.held + b.funds.reserved + l.went_out ≡ l.came_in
