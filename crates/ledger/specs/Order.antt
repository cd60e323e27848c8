-- Each call's tests stand in rising order of their numbers. Assumes nothing.
use Rattle.std.specs.Prelude.{◌≡◌, ℕ, Bool, true, ◌&&◌, List, [], ◌∷◌, map, Option, nat_lt}
use Rattle.margin.specs.declared.strategy.Strategy.{Strategy}
use Rattle.margin.specs.Meaning.{Meaning}
use Rattle.ledger.specs.declared.order.Order.{Order}
use Rattle.ledger.specs.declared.order.Combination.{Combination}
use Rattle.ledger.specs.declared.tables.Tables.{Tables}
use Rattle.ledger.specs.CashRules.{deposit_tests, withdraw_tests}
use Rattle.ledger.specs.OrderRules.{order_tests}
use Rattle.ledger.specs.CombinationRules.{combine_tests, release_tests, leg_close_tests}
use Rattle.ledger.specs.FillRules.{fill_tests}

abbrev pub rising_above : ℕ → List ℕ → Bool
rising_above low [] = true
rising_above low (n ∷ ns) = nat_lt low n && rising_above n ns

abbrev pub Rise : List (ℕ × Bool) → Type 0
Rise tests = rising_above 0 (map (λ (x : ℕ × Bool). x.0) tests) ≡ true

-- the test of its own that an order has is 19 for one that opens, 18 for one that closes
pub record TestsRise : Type 0 where
  pub deposit : (b : Tables) (amount : ℕ) → Rise (deposit_tests b amount)
  pub withdraw : (b : Tables) (amount : ℕ) → Rise (withdraw_tests b amount)
  pub opening_order : (b : Tables) (a code lots limit amount : ℕ) (met : Bool) → Rise (order_tests b a code lots limit (19, met) amount)
  pub closing_order : (b : Tables) (a code lots limit amount : ℕ) (met : Bool) → Rise (order_tests b a code lots limit (18, met) amount)
  pub leg_close : (m : Meaning) (b : Tables) (k : Option Combination) (code lots limit : ℕ) → Rise (leg_close_tests m b k code lots limit)
  pub fill : (m : Meaning) (b : Tables) (o : Option Order) (lots price : ℕ) → Rise (fill_tests m b o lots price)
  pub combine : (m : Meaning) (b : Tables) (s : Option Strategy) (a first second lots : ℕ) → Rise (combine_tests m b s a first second lots)
  pub release : (m : Meaning) (b : Tables) (k : Option Combination) (lots : ℕ) → Rise (release_tests m b k lots)
