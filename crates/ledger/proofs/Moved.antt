-- The lots of one account and code change, and no others.
use Rattle.std.proofs.Common.{◌≡◌, ℕ, ◌≤◌, length, Some, sym, refl, ◌∙◌, subst, ⊎_elim, arith}
use Rattle.std.proofs.lemmas.List.{length-set}
use Rattle.margin.specs.ByCode.{by_code}
use Rattle.margin.specs.declared.contract.Contract.{Contract}
use Rattle.ledger.specs.declared.tables.Tables.{Tables}
use Rattle.ledger.specs.declared.tables.Position.{Position}
use Rattle.ledger.specs.Ledger.{Ledger}
use Rattle.ledger.specs.Law.{Lots, position_of, position_row, contracts_of, claimed_bought, claimed_written}
use Rattle.ledger.specs.Moves.{at}
use Rattle.ledger.proofs.Codes.{held_here, held_else, one_or_not, at_one}

-- two ledgers say the same of an account and a code
pub record Alike (l l' : Ledger) (a code : ℕ) : Type 0 where
  pub bought : l'.bought a code ≡ l.bought a code
  pub written : l'.written a code ≡ l.written a code
  pub claimed_bought : claimed_bought l' a code ≡ claimed_bought l a code
  pub claimed_written : claimed_written l' a code ≡ claimed_written l a code

lots_alike : (l l' : Ledger) (a code : ℕ) (p : Position) → Alike l l' a code → Lots l a code p → Lots l' a code p
lots_alike l l' a code p e h = record {
  bought = h.bought ∙ sym e.bought;
  written = h.written ∙ sym e.written;
  locked_bought = h.locked_bought ∙ sym e.claimed_bought;
  locked_written = h.locked_written ∙ sym e.claimed_written;
  bought_free = omega (arith, h.bought_free, e.bought, e.claimed_bought);
  written_free = omega (arith, h.written_free, e.written, e.claimed_written);
}

-- at each account and listed code
abbrev pub Everywhere : (ℕ → ℕ → Position → Type 0) → Tables → Type 0
Everywhere P b = (a code : ℕ) (c : Contract) → 1 ≤ a → a ≤ 8 → by_code (contracts_of b) code ≡ Some c → P a code (position_of b a code)

abbrev pub AllLots : Ledger → Tables → Type 0
AllLots l b = Everywhere (Lots l) b

-- no position moves
pub all_alike : (l l' : Ledger) (b : Tables) → AllLots l b → ((x y : ℕ) → Alike l l' x y) → AllLots l' b
all_alike l l' b all e x y d low high is = lots_alike l l' x y (position_of b x y) (e x y) (all x y d low high is)

everywhere_moved : (P Q : ℕ → ℕ → Position → Type 0) (b : Tables) (a code : ℕ) (c : Contract) (move : Position → Position) → length (contracts_of b) ≤ 64 → length b.positions ≡ 512 → 1 ≤ a → a ≤ 8 → by_code (contracts_of b) code ≡ Some c →
    Everywhere P b → Q a code (move (position_of b a code)) → ((x y : ℕ) (p : Position) → ((x ≡ a) × (y ≡ code) → ⊥) → P x y p → Q x y p) → Everywhere Q (at a code move b)
everywhere_moved P Q b a code c move few long low high is all here else =
    at_one (λ x y. (d : Contract) → 1 ≤ x → x ≤ 8 → by_code (contracts_of b) y ≡ Some d → Q x y (position_of (at a code move b) x y)) a code
    (λ d lo hi i. subst (λ p. Q a code p) (sym (held_here b few long a code c low high is move)) here)
    (λ x y off d lo hi i. subst (λ p. Q x y p) (sym (held_else b few long a code c low high is move x y d lo i off)) (else x y (position_of b x y) off (all x y d lo hi i)))

module _ (l l' : Ledger) (b : Tables) (a code : ℕ) (c : Contract) (move : Position → Position) (few : length (contracts_of b) ≤ 64) (long : length b.positions ≡ 512) (low : 1 ≤ a) (high : a ≤ 8) (is : by_code (contracts_of b) code ≡ Some c) (all : AllLots l b) where
  pub lots_moved : Lots l' a code (move (position_of b a code)) → ((x y : ℕ) → ((x ≡ a) × (y ≡ code) → ⊥) → Alike l l' x y) → AllLots l' (at a code move b)
  lots_moved here else = everywhere_moved (Lots l) (Lots l') b a code c move few long low high is all here (λ x y p off h. lots_alike l l' x y p (else x y off) h)

  -- two codes of one account change
  pub lots_moved_twice : (other : ℕ) (d : Contract) (move₂ : Position → Position) → by_code (contracts_of b) other ≡ Some d → (other ≡ code → ⊥) → Lots l' a code (move (position_of b a code)) → Lots l' a other (move₂ (position_of b a other)) →
      ((x y : ℕ) → ((x ≡ a) × (y ≡ code) → ⊥) → ((x ≡ a) × (y ≡ other) → ⊥) → Alike l l' x y) → AllLots l' (at a other move₂ (at a code move b))
  lots_moved_twice other d move₂ is₂ apart here there else =
      let Between : ℕ → ℕ → Position → Type 0 = λ x y p. ((x ≡ a) × (y ≡ code) → Lots l' x y p) × (((x ≡ a) × (y ≡ code) → ⊥) → Lots l x y p) in
      everywhere_moved Between (Lots l') (at a code move b) a other d move₂ few (length-set b.positions (position_row b a code) (move (position_of b a code)) ∙ long) low high is₂
      (everywhere_moved (Lots l) Between b a code c move few long low high is all (λ _. here, λ n. absurd (n (refl, refl))) (λ x y p off h. (λ q. absurd (off q), λ _. h)))
      (subst (λ p. Lots l' a other (move₂ p)) (sym (held_else b few long a code c low high is move a other d low is₂ (λ q. apart q.1))) there)
      (λ x y p off h. ⊎_elim h.0 (λ n. lots_alike l l' x y p (else x y n off) (h.1 n)) (one_or_not x a y code))
