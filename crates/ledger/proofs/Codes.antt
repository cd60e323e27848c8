-- Contracts by code, and the position rows by account and code; what holds at one account and code, and at every other.
use Rattle.std.proofs.Common.{◌≡◌, ℕ, ◌<◌, ◌≤◌, cond, ◌&&◌, eqb, ◌⊎◌, List, [], ◌∷◌, length, Some, sym, subst, ⊎_elim, arith}
use Rattle.std.proofs.lemmas.List.{get_or-set_same, get_or-set_other}
use Rattle.std.proofs.lemmas.Bool.Decides.{nat_tests}
use Rattle.margin.specs.ByCode.{by_code, index}
use Rattle.margin.specs.declared.contract.Contract.{Contract}
use Rattle.ledger.specs.declared.tables.Tables.{Tables}
use Rattle.ledger.specs.declared.tables.Position.{Position}
use Rattle.ledger.specs.Law.{place, position_of, contracts_of, none}
use Rattle.ledger.specs.Moves.{at}

pub listed_parts : (d : Contract) (cs : List Contract) (code : ℕ) (c : Contract) → by_code (d ∷ cs) code ≡ Some c → ((d.code ≡ code) × (d ≡ c)) ⊎ ((d.code ≡ code → ⊥) × (by_code cs code ≡ Some c))
listed_parts d cs code c p = grind (arith, nat_tests)

index_within : (cs : List Contract) (code : ℕ) (c : Contract) → by_code cs code ≡ Some c → index cs code < length cs
index_within [] code c p = absurd cc
index_within (d ∷ cs) code c p = let rest = index_within cs code c in grind (arith, nat_tests)

-- one place is of one code
index_apart : (cs : List Contract) (code code₂ : ℕ) (c c₂ : Contract) → by_code cs code ≡ Some c → by_code cs code₂ ≡ Some c₂ → index cs code ≡ index cs code₂ → code ≡ code₂
index_apart [] code code₂ c c₂ p p₂ e = absurd cc
index_apart (d ∷ cs) code code₂ c c₂ p p₂ e = let rest = index_apart cs code code₂ c c₂ in grind (arith, nat_tests)

place_apart : (a a₂ k k₂ : ℕ) → 1 ≤ a → 1 ≤ a₂ → k < 64 → k₂ < 64 → place a k ≡ place a₂ k₂ → (a ≡ a₂) × (k ≡ k₂)
place_apart a a₂ k k₂ lo lo₂ s s₂ e = (omega arith, omega arith)

module _ (b : Tables) (few : length (contracts_of b) ≤ 64) (long : length b.positions ≡ 512) (a code : ℕ) (c : Contract) (low : 1 ≤ a) (high : a ≤ 8) (is : by_code (contracts_of b) code ≡ Some c) (move : Position → Position) where
  pub held_here : position_of (at a code move b) a code ≡ move (position_of b a code)
  held_here =
      let k : index (contracts_of b) code < length (contracts_of b) = index_within (contracts_of b) code c is in
      get_or-set_same b.positions (place a (index (contracts_of b) code)) (move (position_of b a code)) none (omega arith)

  pub held_else : (a₂ code₂ : ℕ) (c₂ : Contract) → 1 ≤ a₂ → by_code (contracts_of b) code₂ ≡ Some c₂ → ((a₂ ≡ a) × (code₂ ≡ code) → ⊥) → position_of (at a code move b) a₂ code₂ ≡ position_of b a₂ code₂
  held_else a₂ code₂ c₂ low₂ is₂ off =
      let k : index (contracts_of b) code < length (contracts_of b) = index_within (contracts_of b) code c is in
      let k₂ : index (contracts_of b) code₂ < length (contracts_of b) = index_within (contracts_of b) code₂ c₂ is₂ in
      get_or-set_other b.positions (place a (index (contracts_of b) code)) (place a₂ (index (contracts_of b) code₂)) (move (position_of b a code)) none
      (λ e. let q = place_apart a₂ a (index (contracts_of b) code₂) (index (contracts_of b) code) low₂ low (omega arith) (omega arith) e in
      off (q.0, index_apart (contracts_of b) code₂ code c₂ c is₂ is q.1))

pub listed_code : (cs : List Contract) (code : ℕ) (c : Contract) → by_code cs code ≡ Some c → c.code ≡ code
listed_code [] code c p = absurd cc
listed_code (d ∷ cs) code c p = let rest = listed_code cs code c in grind (arith, nat_tests)

-- One account and code, and every other -------------------------------------------------------

pub one_or_not : (a b c d : ℕ) → ((a ≡ b) × (c ≡ d)) ⊎ ((a ≡ b) × (c ≡ d) → ⊥)
one_or_not a b c d = grind (arith, nat_tests)

-- what holds at one, and at every other, holds at each
pub at_one : (P : ℕ → ℕ → Type 0) (a c : ℕ) → P a c → ((x y : ℕ) → ((x ≡ a) × (y ≡ c) → ⊥) → P x y) → (x y : ℕ) → P x y
at_one P a c here else x y = ⊎_elim (λ q. subst (λ z. P z y) (sym q.0) (subst (λ z. P a z) (sym q.1) here)) (else x y) (one_or_not x a y c)

module _ {X : Type 0} (a c : ℕ) (u v : X) where
  pub one_here : cond (eqb a a && eqb c c) u v ≡ u
  one_here = grind (arith, nat_tests)

  pub one_else : (x y : ℕ) → ((x ≡ a) × (y ≡ c) → ⊥) → cond (eqb x a && eqb y c) u v ≡ v
  one_else x y off = grind (arith, nat_tests)

  -- the test as orders have it
  pub order_else : (x y : ℕ) → ((x ≡ a) × (y ≡ c) → ⊥) → cond (eqb a x && eqb c y) u v ≡ v
  order_else x y off = grind (arith, nat_tests)
