-- What a combination and an order are about. Assumes nothing.
use Rattle.std.specs.Prelude.{ℕ, Bool, true, false}
use Rattle.margin.specs.declared.strategy.Strategy.{Strategy}
use Rattle.ledger.specs.declared.order.OrderKind.{OrderKind}
use Rattle.ledger.specs.declared.order.OrderKind.TheVariants.{SellOpen, BuyOpen, BuyClose, SellClose, LegClose}

-- a combination by its content
pub record Pairing : Type 0 where
  pub account : ℕ
  pub strategy : Strategy
  pub first : ℕ
  pub second : ℕ
  pub lots : ℕ

-- the number of the call that enters an order of the kind
abbrev pub kind_number : OrderKind → ℕ
kind_number (SellOpen c) = 3
kind_number (BuyOpen c) = 4
kind_number (BuyClose c) = 5
kind_number (SellClose c) = 6
kind_number (LegClose n c) = 7

-- the contract that an order is on; that of a leg close is the leg
abbrev pub contract_of : OrderKind → ℕ
contract_of (SellOpen c) = c
contract_of (BuyOpen c) = c
contract_of (BuyClose c) = c
contract_of (SellClose c) = c
contract_of (LegClose n c) = c

-- whether an order sells
abbrev pub sells : OrderKind → Bool
sells (SellOpen c) = true
sells (BuyOpen c) = false
sells (BuyClose c) = false
sells (SellClose c) = true
sells (LegClose n c) = false
