-- What a combination claims of its two legs, and of nothing else; and what margin held comes to where its lots come in or go.
use Rattle.std.proofs.Common.{◌≡◌, ℕ, ◌+◌, ◌-◌, ◌*◌, ◌≤◌, Bool, true, false, cond, List, Some, refl, ap, ◌∙◌, arith}
use Rattle.std.proofs.lemmas.Bool.Decides.{nat_tests}
use Rattle.margin.specs.ByCode.{by_code}
use Rattle.margin.specs.declared.contract.Contract.{Contract}
use Rattle.margin.specs.Strategies.{first_written}
use Rattle.ledger.specs.declared.tables.Position.{Position}
use Rattle.margin.specs.Meaning.{Meaning}
use Rattle.ledger.specs.ByCode.{legs_of}
use Rattle.ledger.specs.Ledger.{Ledger}
use Rattle.ledger.specs.Content.{Pairing}
use Rattle.ledger.specs.Law.{when, written_claim, bought_claim, in_combinations, margin_held}
use Rattle.ledger.specs.Moves.{locking_written, locking_bought, unlocking_written, unlocking_bought}
use Rattle.ledger.specs.Runs.{Rising, Fitted}
use Rattle.ledger.specs.Amounts.{pair_margin}
use Rattle.ledger.proofs.Entries.{weighed}
use Rattle.ledger.proofs.Grid.{legs_moved_twice}
use Rattle.ledger.proofs.Shares.{times_both}
use Rattle.ledger.proofs.Pairings.{pair_lots, legs_apart}

-- the claims of lots of a combination at its account
pub record TwoLegs (p : Pairing) (n : ℕ) : Type 0 where
  pub apart : p.first ≡ p.second → ⊥
  pub written_first : written_claim p.account p.first (pair_lots n p) ≡ when (first_written p.strategy) n
  pub bought_first : bought_claim p.account p.first (pair_lots n p) ≡ cond (first_written p.strategy) 0 n
  pub written_second : written_claim p.account p.second (pair_lots n p) ≡ n
  pub bought_second : bought_claim p.account p.second (pair_lots n p) ≡ 0
  pub written_else : (x y : ℕ) → ((x ≡ p.account) × (y ≡ p.first) → ⊥) → ((x ≡ p.account) × (y ≡ p.second) → ⊥) → written_claim x y (pair_lots n p) ≡ 0
  pub bought_else : (x y : ℕ) → ((x ≡ p.account) × (y ≡ p.first) → ⊥) → bought_claim x y (pair_lots n p) ≡ 0

pub two_legs : (cs : List Contract) (p : Pairing) (lots : ℕ) → Fitted cs p → TwoLegs p lots
two_legs cs p lots fitted =
    let differ = legs_apart cs p fitted in
    record {
      apart = differ;
      written_first = grind (arith, nat_tests);
      bought_first = grind (arith, nat_tests);
      written_second = grind (arith, nat_tests);
      bought_second = grind (arith, nat_tests);
      written_else = λ x y nf ns. grind (arith, nat_tests);
      bought_else = λ x y nf. grind (arith, nat_tests);
    }

-- the first leg locked and unlocked on its side
pub record Relocked (p q : Position) (x y : ℕ) : Type 0 where
  pub bought : q.bought ≡ p.bought
  pub written : q.written ≡ p.written
  pub locked_bought : q.locked_bought ≡ x
  pub locked_written : q.locked_written ≡ y

pub first_locked : (t : Bool) (n : ℕ) (p : Position) → Relocked p (cond t (locking_written n p) (locking_bought n p)) (p.locked_bought + cond t 0 n) (p.locked_written + when t n)
first_locked true n p = record { bought = refl; written = refl; locked_bought = omega arith; locked_written = refl }
first_locked false n p = record { bought = refl; written = refl; locked_bought = refl; locked_written = omega arith }

pub first_unlocked : (t : Bool) (n : ℕ) (p : Position) → Relocked p (cond t (unlocking_written n p) (unlocking_bought n p)) (p.locked_bought - cond t 0 n) (p.locked_written - when t n)
first_unlocked true n p = record { bought = refl; written = refl; locked_bought = omega arith; locked_written = refl }
first_unlocked false n p = record { bought = refl; written = refl; locked_bought = refl; locked_written = omega arith }

legs_weigh : (t : Bool) (n x y : ℕ) → n * cond t (x + y) y ≡ x * when t n + y * n
legs_weigh true n x y = omega arith
legs_weigh false n x y = omega arith

-- margin held of two ledgers with the same lots, of which the second has lots of a combination more
pub held_between : (m : Meaning) (cs : List Contract) (l k : Ledger) (p : Pairing) (lots : ℕ) → Rising 0 cs → (1 ≤ p.account) × (p.account ≤ 8) → Fitted cs p →
    ((x y : ℕ) → l.written x y ≡ k.written x y) →
    ((x y : ℕ) → in_combinations k x y ≡ in_combinations l x y + written_claim x y (pair_lots lots p)) →
    in_combinations k p.account p.first ≤ k.written p.account p.first → in_combinations k p.account p.second ≤ k.written p.account p.second →
    weighed (λ z. z.lots * pair_margin m cs z) k.combinations ≡ weighed (λ z. z.lots * pair_margin m cs z) l.combinations + lots * pair_margin m cs p →
    margin_held m cs k + lots * legs_of m p.strategy (by_code cs p.first) (by_code cs p.second) ≡ margin_held m cs l + lots * pair_margin m cs p
held_between m cs l k p lots codes account f same more enough enough₂ pairs =
    let a : ℕ = p.account in
    let two : TwoLegs p lots = two_legs cs p lots f in
    let F : ℕ → ℕ → ℕ = λ x y. k.written x y - in_combinations k x y in
    let G : ℕ → ℕ → ℕ = λ x y. l.written x y - in_combinations l x y in
    let sums = legs_moved_twice m.leg F G cs 0 a p.first p.second f.first f.second codes f.first_listed f.second_listed two.apart account.0 account.1
    (λ x y nf ns. omega (arith, same x y, more x y, two.written_else x y nf ns)) in
    let one : m.leg f.first * G a p.first + m.leg f.first * 0 ≡ m.leg f.first * F a p.first + m.leg f.first * when (first_written p.strategy) lots
    = times_both _ 0 _ _ _ (omega (arith, same a p.first, more a p.first, enough, two.written_first)) in
    let other : m.leg f.second * G a p.second + m.leg f.second * 0 ≡ m.leg f.second * F a p.second + m.leg f.second * lots
    = times_both _ 0 _ _ _ (omega (arith, same a p.second, more a p.second, enough₂, two.written_second)) in
    let legs : lots * legs_of m p.strategy (by_code cs p.first) (by_code cs p.second) ≡ m.leg f.first * when (first_written p.strategy) lots + m.leg f.second * lots
    = ap (λ z. lots * legs_of m p.strategy z (by_code cs p.second)) f.first_listed ∙ ap (λ z. lots * legs_of m p.strategy (Some f.first) z) f.second_listed
    ∙ legs_weigh (first_written p.strategy) lots (m.leg f.first) (m.leg f.second) in
    omega (arith, sums, one, other, legs, pairs)
