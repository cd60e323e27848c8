-- The rules of combine, release and leg close. Assumes nothing.
use Rattle.std.specs.Prelude.{ℕ, ◌+◌, ◌-◌, ◌*◌, ◌/◌, ◌%◌, ◌^◌, Bool, false, not, ◌&&◌, ◌||◌, ltb, List, [], ◌∷◌, ◌++◌, Some, None, Option, ◌==◌, nat_lt}
use Rattle.register.specs.declared.row.Row.{Row}
use Rattle.register.specs.Numbers.{next_of, moved_on}
use Rattle.register.specs.Rows.{lookup, changed, Added}
use Rattle.margin.specs.ByCode.{by_code}
use Rattle.margin.specs.declared.contract.Contract.{Contract}
use Rattle.margin.specs.declared.strategy.Strategy.{Strategy}
use Rattle.margin.specs.Fits.{fits}
use Rattle.margin.specs.Strategies.{first_written, strategy_of, strategy_number}
use Rattle.ledger.specs.declared.order.Combination.{Combination}
use Rattle.ledger.specs.declared.order.OrderKind.TheVariants.{LegClose}
use Rattle.ledger.specs.declared.tables.Tables.{Tables}
use Rattle.ledger.specs.declared.tables.Funds.{Funds}
use Rattle.margin.specs.Meaning.{Meaning}
use Rattle.ledger.specs.Content.{Pairing}
use Rattle.ledger.specs.Amounts.{leg_close_reserve, pair_per_lot, legs_per_lot}
use Rattle.ledger.specs.Law.{contracts_of, position_of}
use Rattle.ledger.specs.Tests.{Answer, answers, ByTests, is_none, meets, Standing, bad_account, not_listed, bad_lots, bad_price, no_row, no_number}
use Rattle.ledger.specs.Moves.{funds_to, combinations_to, free_written, locking_written, unlocking_written, at, lock_first, unlock_first, free_first, content, with_lots, combination_rest}
use Rattle.ledger.specs.OrderRules.{OrderTaken}
use Rattle.margin.specs.Strategies.{first_written, strategy_of, strategy_number}

-- bit 0 permits leg closes of strategy 1, and so on
abbrev pub may_close : ℕ → Strategy → Bool
may_close permitted s = (permitted / 2 ^ (strategy_number s - 1)) % 2 == 1

abbrev pub written_leg : Pairing → ℕ → Bool
written_leg p code = p.second == code || (first_written p.strategy && p.first == code)

-- what is gained on the balance and what is taken from it, together; margin held less and more
abbrev pub margins_moved : ℕ → ℕ → Funds → Funds
margins_moved back taken f = record { balance = f.balance + back - taken; held = f.held + taken - back; reserved = f.reserved; cash = f.cash }

abbrev pub fit_together : Strategy → Option Contract → Option Contract → Bool
fit_together s (Some c) (Some d) = fits s c d
fit_together s (Some c) None = false
fit_together s None d = false

module _ (b : Tables) where
  -- the tests of what a combine names: account, legs, lots, and that the legs fit the strategy
  abbrev pub pair_tests : Option Strategy → ℕ → ℕ → ℕ → ℕ → List (ℕ × Bool)
  pair_tests s a first second lots =
      bad_account a ∷ (12, ((not_listed b first).1 || (not_listed b second).1)) ∷ bad_lots lots
      ∷ (15, not (meets s (λ x. fit_together x (by_code (contracts_of b) first) (by_code (contracts_of b) second)))) ∷ []

  -- a leg has fewer free lots
  abbrev pub legs_short : Strategy → ℕ → ℕ → ℕ → ℕ → Bool
  legs_short s a first second lots = nat_lt (free_first s (position_of b a first)) lots || nat_lt (free_written (position_of b a second)) lots

  -- the tests that look at funds and rows
  abbrev pub pair_entry_tests : ℕ → ℕ → List (ℕ × Bool)
  pair_entry_tests back taken = (21, nat_lt b.funds.balance (taken - back)) ∷ no_row b.combinations ∷ no_number b.combination_series ∷ []

  -- a combination enters at some free row, both legs locked; the leg margins come back, the pair margin is taken
  abbrev pub CombinationTaken : Combination → Tables → Answer → Tables → Type 0
  CombinationTaken k to r after =
      (rows : List (Row Combination)) × (Added b.combinations (next_of b.combination_series) k rows × answers (next_of b.combination_series) (combinations_to rows (moved_on b.combination_series) to) r after)

  -- the tests of what a leg close names besides its combination
  abbrev pub leg_terms_tests : ℕ → ℕ → ℕ → List (ℕ × Bool)
  leg_terms_tests code lots limit = not_listed b code ∷ bad_lots lots ∷ bad_price limit ∷ []

  -- leg closes of the strategy are not permitted, or the leg is not a written one; more than the lots not engaged
  abbrev pub leg_checks : Combination → ℕ → ℕ → List (ℕ × Bool)
  leg_checks x code lots = (17, not (may_close b.permitted x.strategy) || not (written_leg (content x) code)) ∷ (18, nat_lt (x.lots - x.engaged) lots) ∷ []

module _ (m : Meaning) (b : Tables) where
  abbrev pub CombinedAs : Strategy → ℕ → ℕ → ℕ → ℕ → Answer → Tables → Type 0
  CombinedAs s a first second lots =
      CombinationTaken b (record { account = a; strategy = s; first = first; second = second; lots = lots; engaged = 0 })
      (funds_to (margins_moved (lots * legs_per_lot m (contracts_of b) s first second) (lots * pair_per_lot m (contracts_of b) s first second) b.funds)
      (at a second (locking_written lots) (at a first (lock_first s lots) b)))

  abbrev pub combine_tests : Option Strategy → ℕ → ℕ → ℕ → ℕ → List (ℕ × Bool)
  combine_tests s a first second lots =
      pair_tests b s a first second lots ++ (18, meets s (λ x. legs_short b x a first second lots))
      ∷ (21, meets s (λ x. ltb b.funds.balance (lots * pair_per_lot m (contracts_of b) x first second - lots * legs_per_lot m (contracts_of b) x first second)))
      ∷ no_row b.combinations ∷ no_number b.combination_series ∷ []

  abbrev pub CombineRule : ℕ → ℕ → ℕ → ℕ → ℕ → Answer → Tables → Type 0
  CombineRule a strategy first second lots r after =
      ByTests (combine_tests (strategy_of strategy) a first second lots) b r after
      (λ r after. Standing (strategy_of strategy) (λ s. CombinedAs s a first second lots r after))

  -- a release is the reverse
  abbrev pub released : ℕ → ℕ → Combination → Tables
  released n lots k =
      funds_to (margins_moved (lots * pair_per_lot m (contracts_of b) k.strategy k.first k.second) (lots * legs_per_lot m (contracts_of b) k.strategy k.first k.second) b.funds)
      (combinations_to (combination_rest n lots 0 k b.combinations) b.combination_series
      (at k.account k.second (unlocking_written lots) (at k.account k.first (unlock_first k.strategy lots) b)))

  -- the tests that look at the combination
  abbrev pub release_entry_tests : Option Combination → ℕ → List (ℕ × Bool)
  release_entry_tests k lots =
      (16, is_none k)
      ∷ (18, meets k (λ x. ltb (x.lots - x.engaged) lots))
      ∷ (21, meets k (λ x. ltb b.funds.balance (lots * legs_per_lot m (contracts_of b) x.strategy x.first x.second - lots * pair_per_lot m (contracts_of b) x.strategy x.first x.second)))
      ∷ []

  abbrev pub release_tests : Option Combination → ℕ → List (ℕ × Bool)
  release_tests k lots = bad_lots lots ∷ release_entry_tests k lots

  abbrev pub ReleaseRule : ℕ → ℕ → Answer → Tables → Type 0
  ReleaseRule n lots r after =
      let k = lookup b.combinations n in
      ByTests (release_tests k lots) b r after
      (λ r after. Standing k (λ x. answers 0 (released n lots x) r after))

  -- a leg close engages lots of its combination, and enters as an order
  abbrev pub leg_close_per_lot : Combination → ℕ → ℕ → ℕ
  leg_close_per_lot k code limit = leg_close_reserve m (contracts_of b) code limit (Some (content k))

  -- the tests that look at the combination
  abbrev pub leg_entry_tests : Option Combination → ℕ → ℕ → ℕ → List (ℕ × Bool)
  leg_entry_tests k code lots limit =
      (16, is_none k)
      ∷ (17, meets k (λ x. not (may_close b.permitted x.strategy) || not (written_leg (content x) code)))
      ∷ (18, meets k (λ x. ltb (x.lots - x.engaged) lots))
      ∷ (21, meets k (λ x. ltb b.funds.balance (lots * leg_close_per_lot x code limit)))
      ∷ no_row b.orders ∷ no_number b.order_series ∷ []

  abbrev pub leg_close_tests : Option Combination → ℕ → ℕ → ℕ → List (ℕ × Bool)
  leg_close_tests k code lots limit = leg_terms_tests b code lots limit ++ leg_entry_tests k code lots limit

  abbrev pub LegCloseRule : ℕ → ℕ → ℕ → ℕ → Answer → Tables → Type 0
  LegCloseRule n code lots limit r after =
      let k = lookup b.combinations n in
      ByTests (leg_close_tests k code lots limit) b r after
      (λ r after. Standing k (λ x. OrderTaken (record { account = x.account; kind = LegClose n code; lots = lots; limit = limit }) (lots * leg_close_per_lot x code limit)
      (combinations_to (changed b.combinations n (with_lots x.lots (x.engaged + lots) x)) b.combination_series b) r after))
