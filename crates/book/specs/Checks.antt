-- What a check answers that a call makes first. Assumes nothing.
use Rattle.std.specs.Prelude.{◌≡◌, ℕ, ◌+◌, ◌^◌, ◌<◌, Bool, ◌&&◌, List, [], ◌∷◌, Some, None, Ok, Err, Result, nat_lt}
use Rattle.margin.specs.declared.contract.Contract.{Contract}
use Rattle.margin.specs.declared.listing.Listed.{Listed}
use Rattle.margin.specs.ByCode.{by_code, index}
use Rattle.ledger.specs.declared.refusal.Refusal.{Refusal}
use Rattle.ledger.specs.declared.order.Order.{Order}
use Rattle.ledger.specs.declared.tables.Tables.{Tables}
use Rattle.ledger.specs.Amounts.{premium}
use Rattle.ledger.specs.Content.{contract_of, sells}
use Rattle.ledger.specs.FillRules.{past_limit}
use Rattle.ledger.specs.Law.{contracts_of}
use Rattle.ledger.specs.Refusals.{number_of}
use Rattle.ledger.specs.Tests.{first_met}

-- refused with the first of the tests that is met, or none is
abbrev pub Passes : {T : Type 0} → List (ℕ × Bool) → Result T Refusal → Type 0
Passes tests (Ok x) = first_met tests ≡ None
Passes tests (Err e) = first_met tests ≡ Some (number_of e)

-- the contract of a code, and its place
pub record Found (cs : List Contract) (code : ℕ) (f : Listed) : Type 0 where
  pub contract : by_code cs code ≡ Some f.contract
  pub place : f.place ≡ index cs code
  pub inside : f.place < 64

-- the tests of a fill that look at its order
abbrev pub fill_checks : Tables → Order → ℕ → ℕ → List (ℕ × Bool)
fill_checks b o lots price = (18, nat_lt o.lots lots) ∷ (20, past_limit o price) ∷ (24, sells o.kind && nat_lt (10 ^ 17) (b.funds.cash + premium (contracts_of b) (contract_of o.kind) lots price)) ∷ []
