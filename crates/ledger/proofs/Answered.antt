-- What a call by its rule answers and leaves: refused, the tables as they were; accepted, tables of the same contracts, and their balance.
use Rattle.std.proofs.Common.{◌≡◌, ℕ, eqb, Some, None, Ok, Err, Option, refl, ap, ◌∙◌, arith}
use Rattle.std.proofs.lemmas.Bool.{cond_both}
use Rattle.register.specs.Rows.{lookup}
use Rattle.margin.specs.Meaning.{Meaning}
use Rattle.margin.specs.Strategies.{strategy_of}
use Rattle.ledger.specs.declared.call.Call.{Call}
use Rattle.ledger.specs.declared.call.Call.TheVariants as call
use Rattle.ledger.specs.declared.order.Order.{Order}
use Rattle.ledger.specs.declared.order.Combination.{Combination}
use Rattle.ledger.specs.declared.order.OrderKind.{OrderKind}
use Rattle.ledger.specs.declared.order.OrderKind.TheVariants.{LegClose}
use Rattle.ledger.specs.declared.refusal.Refusal.{Refusal}
use Rattle.ledger.specs.declared.tables.Tables.{Tables}
use Rattle.ledger.specs.Law.{contracts_of}
use Rattle.ledger.specs.CombinationRules.{CombinedAs}
use Rattle.ledger.specs.FillRules.{traded, leg_traded, freed, disengaged}
use Rattle.ledger.specs.Keeps.{BalanceAnswered}
use Rattle.ledger.specs.Runs.{ByTheRules}
use Rattle.ledger.specs.Tests.{Standing, answers}

pub refused : (m : Meaning) (b : Tables) (c : Call) (e : Refusal) (after : Tables) → ByTheRules m b c (Err e) after → after ≡ b
refused m b (call.Deposit amount) e after h = h.1
refused m b c e after h = h.1

-- from what stands
standing_any : {T : Type 0} (o : Option T) (P : T → Type 0) (Q : Type 0) → ((x : T) → P x → Q) → Standing o P → Q
standing_any (Some x) P Q f h = f x h
standing_any None P Q f h = absurd h

module _ (m : Meaning) (b : Tables) where
  leg_traded_stay : (o : Order) (n c lots price : ℕ) (to : Tables) (k : Option Combination) → contracts_of to ≡ contracts_of b → contracts_of (leg_traded m b o n c lots price to k) ≡ contracts_of b
  leg_traded_stay o n c lots price to (Some k) e = cond_both (eqb c k.second) _ _ (λ z. contracts_of z ≡ contracts_of b) (λ _. e) (λ _. e)
  leg_traded_stay o n c lots price to None e = e

  traded_stay : (kind : OrderKind) (o : Order) (lots price : ℕ) (to : Tables) → contracts_of to ≡ contracts_of b → contracts_of (traded m b o kind lots price to) ≡ contracts_of b
  traded_stay (LegClose n c) o lots price to e = leg_traded_stay o n c lots price to (lookup b.combinations n) e
  traded_stay kind o lots price to e = e

  disengaged_stay : (n lots : ℕ) (to : Tables) (k : Option Combination) → contracts_of to ≡ contracts_of b → contracts_of (disengaged b n lots to k) ≡ contracts_of b
  disengaged_stay n lots to (Some k) e = e
  disengaged_stay n lots to None e = e

  freed_stay : (kind : OrderKind) (o : Order) (to : Tables) → contracts_of to ≡ contracts_of b → contracts_of (freed b kind o to) ≡ contracts_of b
  freed_stay (LegClose n c) o to e = disengaged_stay n o.lots to (lookup b.combinations n) e
  freed_stay kind o to e = e

abbrev Told : Tables → ℕ × ℕ → Tables → Type 0
Told b x after = (number : ℕ) × (to : Tables) × answers number to (Ok x) after × (contracts_of to ≡ contracts_of b)

told : (m : Meaning) (b : Tables) (c : Call) (x : ℕ × ℕ) (after : Tables) → ByTheRules m b c (Ok x) after → Told b x after
told m b (call.Deposit amount) x after h = (_, _, h.1, refl)
told m b (call.Withdraw amount) x after h = (_, _, h.1, refl)
told m b (call.LegClose combination leg lots limit) x after h = standing_any (lookup b.combinations combination) _ (Told b x after) (λ k s. (_, _, s.1.1, refl)) h.1
told m b (call.Fill order lots price) x after h = standing_any (lookup b.orders order) _ (Told b x after) (λ o s. (_, _, s, traded_stay m b o.kind o lots price _ refl)) h.1
told m b (call.Cancel order) x after h = standing_any (lookup b.orders order) _ (Told b x after) (λ o s. (_, _, s, freed_stay m b o.kind o _ refl)) h.1
told m b (call.Combine account strategy first second lots) x after h =
    standing_any (strategy_of strategy) (λ k. CombinedAs m b k account first second lots (Ok x) after) (Told b x after) (λ k s. (_, _, s.1.1, refl)) h.1
told m b (call.Release combination lots) x after h = standing_any (lookup b.combinations combination) _ (Told b x after) (λ k s. (_, _, s, refl)) h.1
told m b c x after h = (_, _, h.1.1.1, refl)

pub same_contracts : (m : Meaning) (b : Tables) (c : Call) (x : ℕ × ℕ) (after : Tables) → ByTheRules m b c (Ok x) after → contracts_of after ≡ contracts_of b
same_contracts m b c x after h = let t = told m b c x after h in ap contracts_of t.2.0 ∙ t.3

pub balance_answered : BalanceAnswered
balance_answered m b c x after h =
    let t = told m b c x after h in let left = t.2.0 in let answer = t.2.1 in grind arith
