-- What a fill brings back covers what it pays and takes, at any price within the order's limit.
use Rattle.std.proofs.Common.{◌≡◌, ℕ, ◌+◌, ◌-◌, ◌*◌, ◌≤◌, false, cond, ltb, Some, None, Option, mul-le-mul_left, arith}
use Rattle.std.proofs.lemmas.Bool.{le-ltb, ltb-false}
use Rattle.register.specs.Rows.{lookup}
use Rattle.ledger.specs.declared.order.Combination.{Combination}
use Rattle.ledger.specs.declared.order.OrderKind.{OrderKind}
use Rattle.ledger.specs.declared.order.OrderKind.TheVariants.{SellOpen, SellClose, LegClose}
use Rattle.ledger.specs.declared.tables.Tables.{Tables}
use Rattle.margin.specs.ByCode.{by_code}
use Rattle.margin.specs.Meaning.{Meaning}
use Rattle.ledger.specs.ByCode.{unit_of}
use Rattle.ledger.specs.Law.{contracts_of}
use Rattle.ledger.specs.FillRules.{Flow, flow, leg_flow, other_margin}
use Rattle.ledger.specs.Content.{contract_of, sells}
use Rattle.ledger.specs.Keeps.{FillNeverShort}
use Rattle.ledger.specs.Amounts.{pair_per_lot}

pub times_within : (lots price limit unit : ℕ) → price ≤ limit → lots * price * unit ≤ lots * (limit * unit)
times_within lots price limit unit h = omega (arith, mul-le-mul_left (lots * unit) h)

-- at a leg close
pub covers : (lots price limit unit other pair : ℕ) → price ≤ limit → lots * price * unit + lots * other ≤ lots * ((other + limit * unit) - pair) + 0 + lots * pair
covers lots price limit unit other pair h =
    let whole : lots * (other + limit * unit) ≤ lots * (((other + limit * unit) - pair) + pair) = mul-le-mul_left lots (omega arith) in
    omega (arith, whole, times_within lots price limit unit h)

-- what comes back and is received
abbrev pub Covers : Flow → Type 0
Covers w = w.paid + w.taken ≤ w.reserve + w.received + w.back

module _ (m : Meaning) (b : Tables) (limit lots price : ℕ) where
  pub leg_covered : (c : ℕ) (k : Option Combination) → price ≤ limit → Covers (leg_flow m b c limit lots price k)
  leg_covered c (Some k) cheap = omega (arith, covers lots price limit (unit_of (by_code (contracts_of b) c)) (other_margin m b k c) (pair_per_lot m (contracts_of b) k.strategy k.first k.second) cheap)
  leg_covered c None cheap = omega arith

  pub flow_covered : (kind : OrderKind) → cond (sells kind) (ltb price limit) (ltb limit price) ≡ false → Covers (flow m b kind limit lots price)
  flow_covered (SellOpen c) h = omega arith
  flow_covered (SellClose c) h = omega arith
  flow_covered (LegClose n c) h = leg_covered c (lookup b.combinations n) (ltb-false limit price h)
  flow_covered kind h = omega (arith, times_within lots price limit (unit_of (by_code (contracts_of b) (contract_of kind))) (ltb-false limit price h))

pub fill_never_short : FillNeverShort
fill_never_short m b o lots price h =
    let covered : Covers (flow m b o.kind o.limit lots price) = flow_covered m b o.limit lots price o.kind h in
    le-ltb _ _ (omega (arith, covered))
