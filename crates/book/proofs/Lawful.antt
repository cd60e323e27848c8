-- What the law says of a book that its calls rest on.
use Rattle.std.proofs.Common.{◌≡◌, ℕ, ◌≤◌, Some, None, Option, sym, refl, ap, ◌∙◌, subst, arith}
use Rattle.register.specs.Rows.{lookup}
use Rattle.margin.specs.declared.contract.Contract.{Contract}
use Rattle.margin.specs.ByCode.{by_code}
use Rattle.margin.specs.Meaning.{Meaning}
use Rattle.ledger.specs.declared.order.Combination.{Combination}
use Rattle.ledger.specs.declared.order.Order.{Order}
use Rattle.ledger.specs.declared.tables.Position.{Position}
use Rattle.ledger.specs.declared.tables.Tables.{Tables}
use Rattle.ledger.specs.Content.{Pairing}
use Rattle.ledger.specs.Ledger.{Ledger, under}
use Rattle.ledger.specs.Law.{contracts_of, combination_under, position_of, engaged}
use Rattle.ledger.specs.Moves.{content}
use Rattle.ledger.specs.Runs.{Law, SoundCombination, SoundOrder}
use Rattle.std.proofs.lemmas.Option.{same_Some, none-some}
use Rattle.book.specs.declared.positions.Side.{Side}
use Rattle.book.specs.declared.positions.Side.TheVariants.{Bought, Written}
use Rattle.book.specs.Sides.{locked_on}
use Rattle.book.specs.Facts.{AllFitted, FundsWithin}

pub record Shown (eng : ℕ) (o : Option Pairing) (k : Combination) : Type 0 where
  pub pairing : Pairing
  pub stands : o ≡ Some pairing
  pub content_is : pairing ≡ content k
  pub engaged_is : k.engaged ≡ eng

shown : (eng : ℕ) (o : Option Pairing) (k : Combination) → combination_under eng o ≡ Some k → Shown eng o k
shown eng None k e = absurd (none-some k e)
shown eng (Some p) k e = record { pairing = p; stands = refl; content_is = ap content (same_Some _ _ e); engaged_is = sym (ap (λ (x : Combination). x.engaged) (same_Some _ _ e)) }

-- what is locked stays small enough for lots more
pub record FewLocked (p : Position) (most : ℕ) : Type 0 where
  pub bought : p.locked_bought ≤ most
  pub written : p.locked_written ≤ most

pub still_few : {p : Position} → FewLocked p 10000 → FewLocked p 11000
still_few few = record { bought = omega (arith, few.bought); written = omega (arith, few.written) }

pub few_on : {p : Position} {most : ℕ} (side : Side) → FewLocked p most → locked_on side p ≤ most
few_on Bought few = few.bought
few_on Written few = few.written

module _ (m : Meaning) (b : Tables) (l : Ledger) (law : Law m l b) where
  -- a standing combination, by its ledger's content
  pub combination_shown : (n : ℕ) (k : Combination) → lookup b.combinations n ≡ Some k → Shown (engaged l n) (under l.combinations n) k
  combination_shown n k found = shown (engaged l n) (under l.combinations n) k (sym (law.beside.combinations n) ∙ found)

  pub combination_sound : (n : ℕ) (k : Combination) → lookup b.combinations n ≡ Some k → SoundCombination (contracts_of b) (content k)
  combination_sound n k found = let s = combination_shown n k found in subst (SoundCombination (contracts_of b)) s.content_is (law.sound.combinations n s.pairing s.stands)

  pub all_fitted : AllFitted b
  all_fitted n k found = (combination_sound n k found).fitted

  pub order_sound : (n : ℕ) (o : Order) → lookup b.orders n ≡ Some o → SoundOrder (contracts_of b) l.combinations o
  order_sound n o found = law.sound.orders n o (sym (law.beside.orders n) ∙ found)

  pub funds_within : FundsWithin b.funds
  funds_within = record {
    balance = omega (arith, law.beside.sum, law.beside.cash, law.sound.cash);
    held = omega (arith, law.beside.sum, law.beside.cash, law.sound.cash);
    reserved = omega (arith, law.beside.sum, law.beside.cash, law.sound.cash);
    cash = omega (arith, law.beside.cash, law.sound.cash);
  }

  -- no side of a position passes 10,000 lots
  pub lots_within : (a code : ℕ) (c : Contract) → 1 ≤ a → a ≤ 8 → by_code (contracts_of b) code ≡ Some c → ((position_of b a code).bought ≤ 10000) × ((position_of b a code).written ≤ 10000)
  lots_within a code c low high listed =
      let lots = law.beside.lots a code c low high listed in
      (omega (arith, lots.bought, law.sound.bought_most a code), omega (arith, lots.written, law.sound.written_most a code))

  module _ (a : ℕ) (low : 1 ≤ a) (high : a ≤ 8) where
    pub locked_few : (code : ℕ) (c : Contract) → by_code (contracts_of b) code ≡ Some c → FewLocked (position_of b a code) 10000
    locked_few code c listed =
        let lot = law.beside.lots a code c low high listed in
        record {
          bought = omega (arith, lot.locked_bought, lot.bought_free, law.sound.bought_most a code);
          written = omega (arith, lot.locked_written, lot.written_free, law.sound.written_most a code);
        }
