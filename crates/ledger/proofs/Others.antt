-- The leg that a leg close leaves: what it unlocks, and what the combination claims of either leg.
use Rattle.std.proofs.Common.{◌≡◌, ℕ, ◌-◌, ◌*◌, Bool, true, false, cond, Some, sym, refl, ap, ◌∙◌, subst, ⊎_elim, arith}
use Rattle.std.proofs.lemmas.Bool.{cond-true, cond-false, eq-eqb, ne_eqb}
use Rattle.margin.specs.ByCode.{by_code}
use Rattle.margin.specs.declared.contract.Contract.{Contract}
use Rattle.margin.specs.Strategies.{first_written}
use Rattle.ledger.specs.declared.tables.Tables.{Tables}
use Rattle.ledger.specs.declared.tables.Position.{Position}
use Rattle.margin.specs.Meaning.{Meaning}
use Rattle.ledger.specs.ByCode.{leg_margin_of}
use Rattle.ledger.specs.Content.{Pairing}
use Rattle.ledger.specs.Law.{contracts_of, written_claim, bought_claim, when}
use Rattle.ledger.specs.Moves.{at, unlock_first, unlocking_written}
use Rattle.ledger.specs.FillRules.{other_unlocked}
use Rattle.ledger.specs.CombinationRules.{written_leg}
use Rattle.ledger.specs.Runs.{Fitted}
use Rattle.ledger.specs.Amounts.{other_leg_margin}
use Rattle.ledger.proofs.Pairings.{pair_lots, combination_with, leg_parts}
use Rattle.ledger.proofs.Claims.{TwoLegs, two_legs, Relocked, first_unlocked}

pub record OtherLeg (m : Meaning) (b : Tables) (p : Pairing) (code lots : ℕ) : Type 0 where
  pub other : ℕ
  pub contract : Contract
  pub is_listed : by_code (contracts_of b) other ≡ Some contract
  pub apart : other ≡ code → ⊥
  pub move : Position → Position
  pub unlocked : (eng : ℕ) (to : Tables) → other_unlocked b (combination_with eng p) code lots to ≡ at p.account other move to
  pub freed_written : ℕ
  pub freed_bought : ℕ
  pub moved : (q : Position) → Relocked q (move q) (q.locked_bought - freed_bought) (q.locked_written - freed_written)
  pub written_here : written_claim p.account code (pair_lots lots p) ≡ lots
  pub bought_here : bought_claim p.account code (pair_lots lots p) ≡ 0
  pub written_other : written_claim p.account other (pair_lots lots p) ≡ freed_written
  pub bought_other : bought_claim p.account other (pair_lots lots p) ≡ freed_bought
  pub written_else : (x y : ℕ) → ((x ≡ p.account) × (y ≡ code) → ⊥) → ((x ≡ p.account) × (y ≡ other) → ⊥) → written_claim x y (pair_lots lots p) ≡ 0
  pub bought_else : (x y : ℕ) → ((x ≡ p.account) × (y ≡ code) → ⊥) → ((x ≡ p.account) × (y ≡ other) → ⊥) → bought_claim x y (pair_lots lots p) ≡ 0
  pub margin : lots * other_leg_margin m (contracts_of b) code p ≡ m.leg contract * freed_written

first_margin : (t : Bool) (n x : ℕ) → n * cond t x 0 ≡ x * when t n
first_margin true n x = omega arith
first_margin false n x = omega arith

module _ (m : Meaning) (b : Tables) (p : Pairing) (fitted : Fitted (contracts_of b) p) (lots : ℕ) where
  two : TwoLegs p lots
  two = two_legs (contracts_of b) p lots fitted

  -- the second leg is closed
  close_second : OtherLeg m b p p.second lots
  close_second =
      let t : Bool = first_written p.strategy in
      record {
        other = p.first;
        contract = fitted.first;
        is_listed = fitted.first_listed;
        apart = two.apart;
        move = unlock_first p.strategy lots;
        unlocked = λ eng to. cond-true _ _ _ (eq-eqb p.second p.second refl);
        freed_written = when t lots;
        freed_bought = cond t 0 lots;
        moved = first_unlocked t lots;
        written_here = two.written_second;
        bought_here = two.bought_second;
        written_other = two.written_first;
        bought_other = two.bought_first;
        written_else = λ x y nh no. two.written_else x y no nh;
        bought_else = λ x y nh no. two.bought_else x y no;
        margin = ap (λ z. lots * cond t (leg_margin_of m z) 0) (ap (by_code (contracts_of b)) (cond-false _ _ _ (ne_eqb p.second p.first (λ e. two.apart (sym e)))) ∙ fitted.first_listed) ∙ first_margin t lots (m.leg fitted.first);
      }

  -- the first leg is closed
  close_first : first_written p.strategy ≡ true → OtherLeg m b p p.first lots
  close_first w = record {
    other = p.second;
    contract = fitted.second;
    is_listed = fitted.second_listed;
    apart = λ e. two.apart (sym e);
    move = unlocking_written lots;
    unlocked = λ eng to. cond-false _ _ _ (ne_eqb p.first p.second two.apart);
    freed_written = lots;
    freed_bought = 0;
    moved = λ q. record { bought = refl; written = refl; locked_bought = omega arith; locked_written = refl };
    written_here = two.written_first ∙ cond-true _ _ _ w;
    bought_here = two.bought_first ∙ cond-true _ _ _ w;
    written_other = two.written_second;
    bought_other = two.bought_second;
    written_else = λ x y nh no. two.written_else x y nh no;
    bought_else = λ x y nh no. two.bought_else x y nh;
    margin = ap (λ z. lots * z) (cond-true _ _ _ w ∙ ap (λ z. leg_margin_of m (by_code (contracts_of b) z)) (cond-true _ _ _ (eq-eqb p.first p.first refl)) ∙ ap (leg_margin_of m) fitted.second_listed) ∙ omega arith;
  }

  pub other_of : (code : ℕ) → written_leg p code ≡ true → OtherLeg m b p code lots
  other_of code h =
      ⊎_elim
      (λ e. subst (λ z. OtherLeg m b p z lots) e close_second)
      (λ q. subst (λ z. OtherLeg m b p z lots) q.1 (close_first q.0))
      (leg_parts p code h)
