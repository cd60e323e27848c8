-- The answer to a fill, put together from its parts.
use Rattle.std.proofs.Common.{◌≡◌, ℕ, ◌+◌, ◌^◌, Bool, true, false, ◌&&◌, ltb, List, [], ◌∷◌, Some, None, Option, refl, ◌∙◌}
use Rattle.std.proofs.lemmas.Bool.{cond-false}
use Rattle.register.specs.declared.row.Row.{Row}
use Rattle.register.specs.Rows.{lookup}
use Rattle.margin.specs.Meaning.{Meaning}
use Rattle.ledger.specs.declared.order.Combination.{Combination}
use Rattle.ledger.specs.declared.order.Order.{Order}
use Rattle.ledger.specs.declared.order.OrderKind.{OrderKind}
use Rattle.ledger.specs.declared.order.OrderKind.TheVariants.{SellOpen, BuyOpen, BuyClose, SellClose, LegClose}
use Rattle.ledger.specs.declared.tables.Tables.{Tables}
use Rattle.ledger.specs.Amounts.{premium}
use Rattle.ledger.specs.Content.{contract_of, sells}
use Rattle.ledger.specs.FillRules.{past_limit, short_of_funds, flow, traded, leg_traded, fill_order_tests, fill_tests}
use Rattle.ledger.specs.Law.{contracts_of}
use Rattle.ledger.specs.Moves.{orders_to}
use Rattle.ledger.specs.Tests.{first_met, bad_lots, bad_price}
use Rattle.ledger.proofs.Covered.{fill_never_short}
use Rattle.ledger.proofs.Tests.{met_back}
use Rattle.book.specs.Checks.{fill_checks}

-- a test that is not met once the one before it is not, among others
between : (s t u v : Bool) → (t ≡ false → u ≡ false) → first_met ((18, s) ∷ (20, t) ∷ (21, u) ∷ (24, v) ∷ []) ≡ first_met ((18, s) ∷ (20, t) ∷ (24, v) ∷ [])
between true t u v f = refl
between false true u v f = refl
between false false u v f = cond-false u (Some 21) (first_met ((24, v) ∷ [])) (f refl)

module _ (m : Meaning) (b : Tables) (lots price : ℕ) where
  -- lots and price in range: what is left are the tests that look at the order
  pub past_terms : (o : Order) → first_met (bad_lots lots ∷ []) ≡ None → first_met (bad_price price ∷ []) ≡ None → first_met (fill_tests m b (Some o) lots price) ≡ first_met (fill_checks b o lots price)
  past_terms o l p =
      let t : Bool = sells o.kind && ltb (10 ^ 17) (b.funds.cash + premium (contracts_of b) (contract_of o.kind) lots price) in
      let rest : List (ℕ × Bool) = fill_order_tests m b (Some o) lots price in
      met_back (bad_lots lots ∷ []) (bad_price price ∷ rest) l ∙ met_back (bad_price price ∷ []) rest p
      ∙ between (ltb o.lots lots) (past_limit o price) (short_of_funds (flow m b o.kind o.limit lots price) b.funds) t (fill_never_short m b o lots price)

  -- a fill moves the same once its lots are off the order
  module _ (rows : List (Row Order)) where
    abbrev less : Tables
    less = orders_to rows b.order_series b

    leg_traded_as : (o : Order) (n c : ℕ) (k : Option Combination) → leg_traded m less o n c lots price less k ≡ leg_traded m b o n c lots price less k
    leg_traded_as o n c (Some k) = refl
    leg_traded_as o n c None = refl

    pub traded_as : (kind : OrderKind) (o : Order) → traded m less o kind lots price less ≡ traded m b o kind lots price less
    traded_as (SellOpen c) o = refl
    traded_as (BuyOpen c) o = refl
    traded_as (BuyClose c) o = refl
    traded_as (SellClose c) o = refl
    traded_as (LegClose n c) o = leg_traded_as o n c (lookup b.combinations n)
