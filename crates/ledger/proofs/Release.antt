-- Release keeps the law.
use Rattle.std.proofs.Common.{◌≡◌, ℕ, ◌+◌, ◌-◌, ◌*◌, ◌≤◌, List, Some, Option, sym, refl, ◌∙◌, subst, arith}
use Rattle.std.proofs.lemmas.Bool.Decides.{nat_tests}
use Rattle.std.proofs.lemmas.List.{length-set}
use Rattle.std.proofs.lemmas.Bool.{ltb-false}
use Rattle.register.specs.Rows.{lookup}
use Rattle.margin.specs.declared.contract.Contract.{Contract}
use Rattle.margin.specs.Strategies.{first_written}
use Rattle.ledger.specs.declared.call.Call.TheVariants as call
use Rattle.ledger.specs.declared.order.Combination.{Combination}
use Rattle.ledger.specs.declared.tables.Tables.{Tables}
use Rattle.margin.specs.Meaning.{Meaning}
use Rattle.ledger.specs.Ledger.{Ledger, Entry, under, put, pairing_less, combination_less}
use Rattle.ledger.specs.Content.{Pairing}
use Rattle.ledger.specs.Law.{Lots, contracts_of, position_of, written_claim, bought_claim, in_combinations, claimed_bought, claimed_written, engaged}
use Rattle.ledger.specs.Moves.{at, unlock_first, unlocking_written, combination_rest}
use Rattle.ledger.specs.CombinationRules.{released, release_tests}
use Rattle.ledger.specs.Runs.{Law, Fitted, SoundCombination}
use Rattle.ledger.specs.Amounts.{pair_per_lot, legs_per_lot, pair_margin}
use Rattle.ledger.proofs.Tests.{Stays, standing_at, unmet, within, stands_as, unmet_at}
use Rattle.ledger.proofs.Moved.{AllLots, lots_moved_twice}
use Rattle.ledger.proofs.Pairings.{combination_with, combination_at, pair_lots, written_claim_by, bought_claim_by, pair_margin_by}
use Rattle.ledger.proofs.Legs.{rest_sum, rest_numbers, rest_apart, rest_rows, rest_sound, rest_engaged, rest_named}
use Rattle.ledger.proofs.Claims.{TwoLegs, two_legs, held_between, first_unlocked}
use Rattle.ledger.proofs.Regrouping.{regrouped, regrouped_keeps}

module _ {m : Meaning} {l : Ledger} {b : Tables} (law : Law m l b) (n lots : ℕ) (p : Pairing) (stands : under l.combinations n ≡ Some p) (some : 1 ≤ lots) (free : lots ≤ p.lots - engaged l n)
    (enough : lots * legs_per_lot m (contracts_of b) p.strategy p.first p.second - lots * pair_per_lot m (contracts_of b) p.strategy p.first p.second ≤ b.funds.balance) where
  abbrev cs : List Contract
  cs = contracts_of b

  abbrev a : ℕ
  a = p.account

  abbrev ps : List (Entry Pairing)
  ps = l.combinations

  abbrev es : List (Entry Pairing)
  es = put n (pairing_less lots p) ps

  abbrev l' : Ledger
  l' = regrouped es l.next_combination l

  abbrev P : Pairing
  P = pair_lots lots p

  sound : SoundCombination cs p
  sound = law.sound.combinations n p stands

  fitted : Fitted cs p
  fitted = sound.fitted

  two : TwoLegs p lots
  two = two_legs cs p lots fitted

  less_inside : (x y : ℕ) → in_combinations l' x y + written_claim x y P ≡ in_combinations l x y
  less_inside x y = rest_sum law n lots p stands (written_claim x y) (written_claim_by x y) (omega arith)

  less_written : (x y : ℕ) → claimed_written l' x y + written_claim x y P ≡ claimed_written l x y
  less_written x y = omega (arith, less_inside x y)

  less_bought : (x y : ℕ) → claimed_bought l' x y + bought_claim x y P ≡ claimed_bought l x y
  less_bought x y = omega (arith, rest_sum law n lots p stands (bought_claim x y) (bought_claim_by x y) (omega arith))

  lot : Lots l a p.first (position_of b a p.first)
  lot = law.beside.lots a p.first fitted.first sound.account.0 sound.account.1 fitted.first_listed

  lot₂ : Lots l a p.second (position_of b a p.second)
  lot₂ = law.beside.lots a p.second fitted.second sound.account.0 sound.account.1 fitted.second_listed

  abbrev unlocked : Tables
  unlocked = at a p.second (unlocking_written lots) (at a p.first (unlock_first p.strategy lots) b)

  unlocked_lots : AllLots l' unlocked
  unlocked_lots =
      let q = first_unlocked (first_written p.strategy) lots (position_of b a p.first) in
      lots_moved_twice l l' b a p.first fitted.first (unlock_first p.strategy lots) law.sound.count law.sound.position_rows sound.account.0 sound.account.1 fitted.first_listed law.beside.lots
      p.second fitted.second (unlocking_written lots) fitted.second_listed (λ e. two.apart (sym e))
      (record {
        bought = q.bought ∙ lot.bought;
        written = q.written ∙ lot.written;
        locked_bought = q.locked_bought ∙ omega (arith, lot.locked_bought, less_bought a p.first, two.bought_first);
        locked_written = q.locked_written ∙ omega (arith, lot.locked_written, less_written a p.first, two.written_first);
        bought_free = omega (arith, lot.bought_free, less_bought a p.first);
        written_free = omega (arith, lot.written_free, less_written a p.first);
      })
      (record {
        bought = lot₂.bought;
        written = lot₂.written;
        locked_bought = omega (arith, lot₂.locked_bought, less_bought a p.second, two.bought_second);
        locked_written = omega (arith, lot₂.locked_written, less_written a p.second, two.written_second);
        bought_free = omega (arith, lot₂.bought_free, less_bought a p.second);
        written_free = omega (arith, lot₂.written_free, less_written a p.second);
      })
      (λ x y nf ns. record { bought = refl; written = refl; claimed_bought = omega (arith, less_bought x y, two.bought_else x y nf); claimed_written = omega (arith, less_written x y, two.written_else x y nf ns) })

  pub ungrouped_keeps : Law m l' (released m b n lots (combination_with (engaged l n) p))
  ungrouped_keeps = regrouped_keeps law es l.next_combination unlocked.positions (combination_rest n lots 0 (combination_with (engaged l n) p) b.combinations) b.combination_series _ _ (record {
    rows = length-set _ _ _ ∙ length-set _ _ _ ∙ law.sound.position_rows;
    lots = unlocked_lots;
    found = λ j. rest_rows law n lots p stands 0 j (engaged l j) (grind (arith, nat_tests));
    apart = rest_apart law n lots p stands 0;
    numbers = rest_numbers law n lots p stands;
    next_is = law.beside.next_combination;
    last = law.sound.last_combination;
    sound = rest_sound law n lots p stands;
    engaged_most = rest_engaged law n lots p stands 0 (engaged l) (omega arith) (λ j. grind (arith, nat_tests));
    stays = λ j x s. rest_named law n lots p stands l.orders j x s (law.sound.orders j x s).lots.0 (omega arith);
    held = sym (held_between m cs l' l p lots law.sound.codes sound.account fitted (λ x y. refl) (λ x y. sym (less_inside x y)) (omega (arith, lot.written_free)) (omega (arith, lot₂.written_free))
        (sym (rest_sum law n lots p stands (λ z. z.lots * pair_margin m cs z) (pair_margin_by m cs) (omega arith))));
    enough = enough;
  })

pub release_stays : (m : Meaning) (b : Tables) (n lots : ℕ) → Stays m b (call.Release n lots)
release_stays m b n lots x after h l law =
    let k : Option Combination = lookup b.combinations n in
    let u = unmet (release_tests m b k lots) h.0 in
    let q = combination_at law n u.1.0 in
    let p : Pairing = q.0 in
    let free = unmet_at _ q.2 u.1.1.0 in
    let few : lots ≤ p.lots - engaged l n = ltb-false _ _ free in
    let enough = unmet_at _ q.2 u.1.1.1.0 in
    let taken = stands_as _ q.2 h.1 in (
      standing_at (λ (z : Pairing). lots ≤ z.lots) q.1 (omega arith),
      subst (λ z. Law m (combination_less n lots z l) after) (sym q.1)
          (subst (λ z. Law m (combination_less n lots (Some p) l) z) (sym taken.0)
          (ungrouped_keeps law n lots p q.1 (within 1 1000 lots u.0).0 few (ltb-false _ _ enough))),
    )
