-- The law after an order is entered.
use Rattle.std.proofs.Common.{◌≡◌, ℕ, ◌+◌, ◌-◌, ◌*◌, ◌^◌, ◌≤◌, cond, eqb, List, length, Some, None, sym, ap, ◌∙◌, subst, ⊎_elim, arith}
use Rattle.register.specs.Numbers.{next_of}
use Rattle.register.specs.declared.row.Row.{Row}
use Rattle.register.specs.Rows.{lookup, Apart, Added}
use Rattle.register.proofs.After.{lookup_added, apart_added, in_use_added}
use Rattle.ledger.specs.declared.order.Order.{Order}
use Rattle.ledger.specs.declared.order.Combination.{Combination}
use Rattle.ledger.specs.declared.tables.Tables.{Tables}
use Rattle.ledger.specs.declared.tables.Position.{Position}
use Rattle.margin.specs.Meaning.{Meaning}
use Rattle.ledger.specs.Ledger.{Ledger, under, order_entered}
use Rattle.ledger.specs.Content.{Pairing}
use Rattle.ledger.specs.Law.{Beside, contracts_of, reserve, engaged, combination_under}
use Rattle.ledger.specs.Tests.{Answer}
use Rattle.ledger.specs.OrderRules.{OrderTaken, working_sum, opens_written, opens_bought}
use Rattle.ledger.specs.Runs.{Law, Sound, SoundOrder}
use Rattle.ledger.proofs.Entries.{under_above, under_parts, weighed_cons}
use Rattle.ledger.proofs.Moved.{AllLots}

abbrev pub with_rows : List Position → List (Row Combination) → Tables → Tables
with_rows ps cr b = record b { positions = ps; combinations = cr }

-- what an order needs to be entered
pub record Ready (m : Meaning) (l : Ledger) (b : Tables) (o : Order) (amount : ℕ) (ps : List Position) (cr : List (Row Combination)) : Type 0 where
  pub sound : SoundOrder (contracts_of b) l.combinations o
  pub amount_is : amount ≡ o.lots * reserve m (contracts_of b) l.combinations o.kind o.limit
  pub enough : amount ≤ b.funds.balance
  pub number : next_of b.order_series ≤ 2 ^ 32 - 1
  pub rows : length ps ≡ 512
  pub lots : AllLots (order_entered o l) (with_rows ps cr b)
  pub combinations : (n : ℕ) → lookup cr n ≡ combination_under (engaged (order_entered o l) n) (under l.combinations n)
  pub apart : Apart cr
  pub engaged_most : (n : ℕ) (p : Pairing) → under l.combinations n ≡ Some p → engaged (order_entered o l) n ≤ p.lots
  pub written_most : (a code : ℕ) → l.written a code + (working_sum b.orders (λ x. opens_written a code x x.kind) + opens_written a code o o.kind) ≤ 10000
  pub bought_most : (a code : ℕ) → l.bought a code + (working_sum b.orders (λ x. opens_bought a code x x.kind) + opens_bought a code o o.kind) ≤ 10000

pub entered_keeps : (m : Meaning) (l : Ledger) (b : Tables) (o : Order) (amount : ℕ) (ps : List Position) (cr : List (Row Combination)) (r : Answer) (after : Tables) →
    Law m l b → Ready m l b o amount ps cr → OrderTaken o amount (with_rows ps cr b) r after → Law m (order_entered o l) after
entered_keeps m l b o amount ps cr r after law ready taken =
    let beside : Beside m l b = law.beside in
    let sound : Sound l b = law.sound in
    let rows : List (Row Order) = taken.0 in
    let added : Added b.orders (next_of b.order_series) o rows = taken.1.0 in
    let next_is : next_of b.order_series ≡ l.next_order = beside.next_order in
    let started : 1 ≤ l.next_order = sound.last_order.0 in
    let number : next_of b.order_series ≤ 2 ^ 32 - 1 = ready.number in
    let positive : next_of b.order_series ≡ 0 → ⊥ = λ z. omega arith in
    let absent : lookup b.orders (next_of b.order_series) ≡ None = beside.orders (next_of b.order_series) ∙ under_above l.orders l.next_order (next_of b.order_series) sound.order_numbers (omega arith) in
    subst (λ z. Law m (order_entered o l) z) (sym taken.1.1.0) (record {
      beside = record {
        cash = beside.cash;
        lots = ready.lots;
        combinations = ready.combinations;
        orders = λ n. lookup_added b.orders rows (next_of b.order_series) n o positive absent added
            ∙ ap (λ y. cond (eqb y n) (Some o) (lookup b.orders n)) next_is
            ∙ ap (λ y. cond (eqb l.next_order n) (Some o) y) (beside.orders n);
        next_combination = beside.next_combination;
        next_order = omega (arith, next_is);
        held = beside.held;
        reserved = omega (arith, beside.reserved, ready.amount_is, weighed_cons (λ (x : Order). x.lots * reserve m (contracts_of b) l.combinations x.kind x.limit) l.next_order o l.orders);
        sum = omega (arith, beside.sum, ready.enough);
      };
      sound = record {
        codes = sound.codes;
        count = sound.count;
        position_rows = ready.rows;
        cash = sound.cash;
        owned = sound.owned;
        combination_numbers = sound.combination_numbers;
        order_numbers = (started, omega arith, sound.order_numbers);
        combinations = sound.combinations;
        orders = λ n x p. ⊎_elim (λ q. subst (λ y. SoundOrder (contracts_of b) l.combinations y) q.1 ready.sound) (λ q. sound.orders n x q.1) (under_parts (record { number = l.next_order; content = o }) l.orders n x p);
        engaged_most = ready.engaged_most;
        combination_rows = ready.apart;
        order_rows = apart_added b.orders rows (next_of b.order_series) o positive absent added sound.order_rows;
        last_combination = sound.last_combination;
        last_order = (omega arith, omega arith);
        written_most = λ a code. omega (arith, ready.written_most a code, in_use_added (λ x. opens_written a code x x.kind) b.orders rows (next_of b.order_series) o positive added);
        bought_most = λ a code. omega (arith, ready.bought_most a code, in_use_added (λ x. opens_bought a code x x.kind) b.orders rows (next_of b.order_series) o positive added);
      };
    })
