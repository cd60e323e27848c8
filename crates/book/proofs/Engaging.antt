-- The answer to a leg close, put together from its parts.
use Rattle.std.proofs.Common.{◌≡◌, ℕ, ◌*◌, List, Some, None, Ok, ap, ◌∙◌, subst}
use Rattle.register.specs.declared.row.Row.{Row}
use Rattle.register.specs.Rows.{changed}
use Rattle.margin.specs.Meaning.{Meaning}
use Rattle.ledger.specs.declared.order.Combination.{Combination}
use Rattle.ledger.specs.declared.order.Order.{Order}
use Rattle.ledger.specs.declared.tables.Tables.{Tables}
use Rattle.ledger.specs.CombinationRules.{leg_terms_tests, leg_checks, leg_entry_tests, leg_close_tests, leg_close_per_lot}
use Rattle.ledger.specs.Moves.{combinations_to}
use Rattle.ledger.specs.OrderRules.{enter_tests, OrderTaken}
use Rattle.ledger.specs.Tests.{first_met}
use Rattle.ledger.proofs.Tests.{met_back}

module _ (m : Meaning) (b : Tables) (code lots limit : ℕ) where
  module _ (k : Combination) (n : ℕ) (n_is : n ≡ lots) where
    pub past_leg : first_met (leg_terms_tests b code lots limit) ≡ None → first_met (leg_checks b k code n) ≡ None →
        first_met (leg_close_tests m b (Some k) code lots limit) ≡ first_met (enter_tests b (lots * leg_close_per_lot m b k code limit))
    past_leg terms e =
        met_back (leg_terms_tests b code lots limit) (leg_entry_tests m b (Some k) code lots limit) terms
        ∙ met_back (leg_checks b k code lots) (enter_tests b (lots * leg_close_per_lot m b k code limit)) (subst (λ x. first_met (leg_checks b k code x) ≡ None) n_is e)

    -- the reserve, of lots and a limit found good
    pub reserve_is : (price per_lot reserve : ℕ) → price ≡ limit → per_lot ≡ leg_close_per_lot m b k code price → reserve ≡ n * per_lot → reserve ≡ lots * leg_close_per_lot m b k code limit
    reserve_is price per_lot reserve price_is per_lot_is is = is ∙ ap (λ x. x * per_lot) n_is ∙ ap (λ x. lots * x) (per_lot_is ∙ ap (λ x. leg_close_per_lot m b k code x) price_is)

-- an order entered, and then a combination changed
pub changed_after : (b t : Tables) (n : ℕ) (k : Combination) (rows : List (Row Combination)) (o : Order) (amount : ℕ) (x : ℕ × ℕ) → rows ≡ changed t.combinations n k → OrderTaken o amount b (Ok x) t →
    OrderTaken o amount (combinations_to (changed b.combinations n k) b.combination_series b) (Ok x) (combinations_to rows t.combination_series t)
changed_after b t n k rows o amount x is taken =
    (taken.0, (taken.1.0, (ap (λ rs. combinations_to rs t.combination_series t) is ∙ ap (λ (z : Tables). combinations_to (changed z.combinations n k) z.combination_series z) taken.1.1.0, taken.1.1.1)))
