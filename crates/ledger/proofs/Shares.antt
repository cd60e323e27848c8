-- What an order claims, opens and engages: it goes by lots, and is at its account and contract alone. And products that go by lots.
use Rattle.std.proofs.Common.{◌≡◌, ℕ, ◌+◌, ◌-◌, ◌*◌, ◌≤◌, sym, refl, ap, ◌∙◌, add-mul, arith}
use Rattle.std.proofs.lemmas.Bool.Decides.{nat_tests}
use Rattle.ledger.specs.declared.order.Order.{Order}
use Rattle.ledger.specs.declared.order.OrderKind.{OrderKind}
use Rattle.ledger.specs.declared.order.OrderKind.TheVariants.{LegClose}
use Rattle.ledger.specs.Content.{contract_of}
use Rattle.ledger.specs.Law.{closes_written, closes_bought, engages}
use Rattle.ledger.specs.OrderRules.{opens_written, opens_bought}

pub split_mul : (n k r : ℕ) → k ≤ n → (n - k) * r + k * r ≡ n * r
split_mul n k r h = sym (add-mul (n - k) k r) ∙ ap (λ x. x * r) (omega arith)

pub times_both : (p i q j r : ℕ) → p + i ≡ q + j → r * p + r * i ≡ r * q + r * j
times_both p i q j r e = omega (arith, ap (λ z. r * z) e)

abbrev pub of_lots : ℕ → Order → Order
of_lots k o = record o { lots = k }

-- a weight of orders that goes by lots
abbrev pub ByLots : (Order → ℕ) → Type 0
ByLots g = (o : Order) (k : ℕ) → k ≤ o.lots → g (of_lots (o.lots - k) o) + g (of_lots k o) ≡ g o

-- what an order claims, opens and engages goes by lots
abbrev pub Splits : (Order → OrderKind → ℕ) → Order → ℕ → OrderKind → Type 0
Splits f o k kind = f (of_lots (o.lots - k) o) kind + f (of_lots k o) kind ≡ f o kind

pub order_splits : (a c n : ℕ) (o : Order) (k : ℕ) (kind : OrderKind) → k ≤ o.lots →
    Splits (closes_written a c) o k kind × Splits (closes_bought a c) o k kind × Splits (opens_written a c) o k kind × Splits (opens_bought a c) o k kind × Splits (engages n) o k kind
order_splits a c n o k (LegClose j x) h = (refl, refl, refl, refl, grind arith)
order_splits a c n o k kind h = (grind arith, grind arith, grind arith, grind arith, refl)

-- it claims and opens at its account and contract alone
pub elsewhere : (x y : ℕ) (o : Order) (kind : OrderKind) → ((x ≡ o.account) × (y ≡ contract_of kind) → ⊥) →
    (closes_written x y o kind ≡ 0) × (closes_bought x y o kind ≡ 0) × (opens_written x y o kind ≡ 0) × (opens_bought x y o kind ≡ 0)
elsewhere x y o (LegClose n c) off = (refl, refl, refl, refl)
elsewhere x y o kind off = (grind (arith, nat_tests), grind (arith, nat_tests), grind (arith, nat_tests), grind (arith, nat_tests))
