-- Combinations and their rows: what goes by lots, the legs, and what a book and its ledger have under a number.
use Rattle.std.proofs.Common.{◌≡◌, ℕ, ◌+◌, ◌-◌, ◌*◌, ◌≤◌, cond, eqb, true, false, ◌&&◌, ltb, ◌⊎◌, List, Some, None, Option, sym, refl, ap, ◌∙◌, subst, arith}
use Rattle.std.proofs.lemmas.Bool.Decides.{nat_tests}
use Rattle.std.proofs.lemmas.Bool.{le-ltb, both_ways, and_parts}
use Rattle.margin.specs.ByCode.{by_code}
use Rattle.margin.specs.declared.contract.Contract.{Contract}
use Rattle.margin.specs.declared.contract.Right.{Right}
use Rattle.margin.specs.declared.contract.Right.TheVariants.{Call, Put}
use Rattle.margin.specs.declared.strategy.Strategy.{Strategy}
use Rattle.margin.specs.declared.strategy.Strategy.TheVariants.{ShortStraddle}
use Rattle.margin.specs.Fits.{fits, rights_fit, strikes_fit}
use Rattle.margin.specs.Strategies.{first_written}
use Rattle.register.proofs.After.{lookup_changed}
use Rattle.register.specs.Rows.{changed, lookup}
use Rattle.ledger.specs.declared.order.Combination.{Combination}
use Rattle.ledger.specs.declared.order.Order.{Order}
use Rattle.ledger.specs.declared.tables.Tables.{Tables}
use Rattle.margin.specs.Meaning.{Meaning}
use Rattle.ledger.specs.Ledger.{Ledger, under}
use Rattle.ledger.specs.Content.{Pairing}
use Rattle.ledger.specs.Law.{written_claim, bought_claim, combination_under, engaged}
use Rattle.ledger.specs.Tests.{is_none}
use Rattle.ledger.specs.CombinationRules.{written_leg}
use Rattle.ledger.specs.Runs.{Law, Fitted}
use Rattle.ledger.specs.Amounts.{pair_margin}
use Rattle.ledger.proofs.Tests.{some_of}
use Rattle.ledger.proofs.Shares.{split_mul}

abbrev pub pair_lots : ℕ → Pairing → Pairing
pair_lots k p = record p { lots = k }

-- a row's content
abbrev pub combination_with : ℕ → Pairing → Combination
combination_with eng p = record { account = p.account; strategy = p.strategy; first = p.first; second = p.second; lots = p.lots; engaged = eng }

row_parts : (eng : ℕ) (o : Option Pairing) (x : Combination) → combination_under eng o ≡ Some x → (p : Pairing) × ((o ≡ Some p) × (x ≡ combination_with eng p))
row_parts eng (Some p) x e = (p, (refl, cc))
row_parts eng None x e = absurd cc

-- a weight of combinations that goes by lots
abbrev pub PairsByLots : (Pairing → ℕ) → Type 0
PairsByLots g = (p : Pairing) (k : ℕ) → k ≤ p.lots → g (pair_lots (p.lots - k) p) + g (pair_lots k p) ≡ g p

pub written_claim_by : (a c : ℕ) → PairsByLots (written_claim a c)
written_claim_by a c p k h = grind (arith, nat_tests)

pub bought_claim_by : (a c : ℕ) → PairsByLots (bought_claim a c)
bought_claim_by a c p k h = grind (arith, nat_tests)

pub pair_margin_by : (m : Meaning) (cs : List Contract) → PairsByLots (λ p. p.lots * pair_margin m cs p)
pair_margin_by m cs p k h = split_mul p.lots k (pair_margin m cs p) h

-- Legs --------------------------------------------------------------------------------------------

-- no contract fits itself
self_fit : (s : Strategy) (r : Right) (k : ℕ) → (rights_fit s r r && strikes_fit s k k) ≡ true → ⊥
self_fit ShortStraddle Call k p = cc
self_fit ShortStraddle Put k p = cc
self_fit s r k p = both_ways _ (le-ltb k k (omega arith)) (and_parts (rights_fit s r r) (ltb k k) p).1

pub legs_apart : (cs : List Contract) (p : Pairing) → Fitted cs p → p.first ≡ p.second → ⊥
legs_apart cs p f e =
    let one : by_code cs p.second ≡ Some f.first = ap (by_code cs) (sym e) ∙ f.first_listed in
    let both : ◌≡◌ {A = Option Contract} (Some f.first) (Some f.second) = sym one ∙ f.second_listed in
    let same : f.second ≡ f.first = cc in
    let fit : fits p.strategy f.first f.first ≡ true = subst (λ c. fits p.strategy f.first c ≡ true) same f.fit in
    self_fit p.strategy f.first.right f.first.strike (and_parts _ _ fit).1

pub leg_parts : (p : Pairing) (code : ℕ) → written_leg p code ≡ true → (p.second ≡ code) ⊎ ((first_written p.strategy ≡ true) × (p.first ≡ code))
leg_parts p code h = grind (arith, nat_tests)

-- A book and its ledger ---------------------------------------------------------------------------

module _ {m : Meaning} {l : Ledger} {b : Tables} (law : Law m l b) (n : ℕ) where
  pub row_of : (p : Pairing) → under l.combinations n ≡ Some p → lookup b.combinations n ≡ Some (combination_with (engaged l n) p)
  row_of p stands = law.beside.combinations n ∙ ap (combination_under (engaged l n)) stands

  -- the combination under a number where the book has one, and its row
  pub combination_at : is_none (lookup b.combinations n) ≡ false → (p : Pairing) × (under l.combinations n ≡ Some p) × (lookup b.combinations n ≡ Some (combination_with (engaged l n) p))
  combination_at t =
      let y = some_of (lookup b.combinations n) t in
      let q = row_parts (engaged l n) (under l.combinations n) y.0 (sym (law.beside.combinations n) ∙ y.1) in
      (q.0, q.1.0, y.1 ∙ ap Some q.1.1)

  -- and the order
  pub order_at : is_none (lookup b.orders n) ≡ false → (o : Order) × (under l.orders n ≡ Some o) × (lookup b.orders n ≡ Some o)
  order_at t = let y = some_of (lookup b.orders n) t in (y.0, sym (law.beside.orders n) ∙ y.1, y.1)

  -- the rows with other lots engaged
  pub engaged_row : (p : Pairing) (now later k : ℕ) → under l.combinations n ≡ Some p → later ≡ cond (eqb n k) now (engaged l k) → lookup (changed b.combinations n (combination_with now p)) k ≡ combination_under later (under l.combinations k)
  engaged_row p now later k stands is =
      let row = lookup_changed b.combinations n k (combination_with now p) (combination_with (engaged l n) p) (row_of p stands) in let old = law.beside.combinations k in grind (arith, nat_tests)
