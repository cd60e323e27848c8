-- The law where combinations, locked lots and margin held change, and nothing else.
use Rattle.std.proofs.Common.{◌≡◌, ℕ, ◌+◌, ◌-◌, ◌*◌, ◌^◌, ◌≤◌, List, length, Some, sym, ap, ◌∙◌, arith}
use Rattle.register.specs.declared.series.Series.{Series}
use Rattle.register.specs.Numbers.{next_of}
use Rattle.register.specs.declared.row.Row.{Row}
use Rattle.register.specs.Rows.{lookup, Apart}
use Rattle.ledger.specs.declared.order.Order.{Order}
use Rattle.ledger.specs.declared.order.Combination.{Combination}
use Rattle.ledger.specs.declared.tables.Tables.{Tables}
use Rattle.ledger.specs.declared.tables.Position.{Position}
use Rattle.ledger.specs.declared.tables.Funds.{Funds}
use Rattle.margin.specs.Meaning.{Meaning}
use Rattle.ledger.specs.Ledger.{Ledger, Entry, under}
use Rattle.ledger.specs.Content.{Pairing}
use Rattle.ledger.specs.Law.{contracts_of, margin_held, reserve, engaged, combination_under}
use Rattle.ledger.specs.CombinationRules.{margins_moved}
use Rattle.ledger.specs.Runs.{Law, SoundOrder, SoundCombination, Numbers}
use Rattle.ledger.proofs.Entries.{weighed_same}
use Rattle.ledger.proofs.Moved.{AllLots}
use Rattle.ledger.proofs.Legs.{NamedStays, order_stays}

abbrev pub regrouped : List (Entry Pairing) → ℕ → Ledger → Ledger
regrouped es next l = record l { combinations = es; next_combination = next }

abbrev pub regrouped_tables : List Position → List (Row Combination) → Series → Funds → Tables → Tables
regrouped_tables ps cr next f b = record b { positions = ps; combinations = cr; combination_series = next; funds = f }

-- what is to be shown of the new combinations, rows and margins
pub record Regrouped (m : Meaning) (l l' : Ledger) (b b' : Tables) (back taken : ℕ) : Type 0 where
  pub rows : length b'.positions ≡ 512
  pub lots : AllLots l' b'
  pub found : (n : ℕ) → lookup b'.combinations n ≡ combination_under (engaged l n) (under l'.combinations n)
  pub apart : Apart b'.combinations
  pub numbers : Numbers l'.combinations l'.next_combination
  pub next_is : next_of b'.combination_series ≡ l'.next_combination
  pub last : (1 ≤ l'.next_combination) × (l'.next_combination ≤ 2 ^ 32)
  pub sound : (n : ℕ) (p : Pairing) → under l'.combinations n ≡ Some p → SoundCombination (contracts_of b) p
  pub engaged_most : (n : ℕ) (p : Pairing) → under l'.combinations n ≡ Some p → engaged l n ≤ p.lots
  pub stays : (j : ℕ) (x : Order) → under l.orders j ≡ Some x → NamedStays l.combinations l'.combinations x.kind
  pub held : margin_held m (contracts_of b) l' + back ≡ margin_held m (contracts_of b) l + taken
  pub enough : taken - back ≤ b.funds.balance

module _ {m : Meaning} {l : Ledger} {b : Tables} (law : Law m l b) (es : List (Entry Pairing)) (next : ℕ) (ps : List Position) (cr : List (Row Combination)) (next_row : Series) (back taken : ℕ) where
  abbrev l' : Ledger
  l' = regrouped es next l

  abbrev b' : Tables
  b' = regrouped_tables ps cr next_row (margins_moved back taken b.funds) b

  pub regrouped_keeps : Regrouped m l l' b b' back taken → Law m l' b'
  regrouped_keeps new =
      let order = λ (j : ℕ) (x : Order) (s : under l.orders j ≡ Some x). order_stays l.combinations es x.account m (contracts_of b) x.kind x.limit (new.stays j x s) (law.sound.orders j x s).leg in
      record {
        beside = record {
          cash = law.beside.cash;
          lots = new.lots;
          combinations = new.found;
          orders = law.beside.orders;
          next_combination = new.next_is;
          next_order = law.beside.next_order;
          held = omega (arith, law.beside.held, new.held);
          reserved = law.beside.reserved
              ∙ weighed_same (λ z. z.lots * reserve m (contracts_of b) l.combinations z.kind z.limit) (λ z. z.lots * reserve m (contracts_of b) es z.kind z.limit) l.orders l.next_order law.sound.order_numbers
              (λ j x s. ap (λ z. x.lots * z) (sym (order j x s).1));
          sum = omega (arith, law.beside.sum, law.beside.held, new.held, new.enough);
        };
        sound = record {
          codes = law.sound.codes;
          count = law.sound.count;
          position_rows = new.rows;
          cash = law.sound.cash;
          owned = law.sound.owned;
          combination_numbers = new.numbers;
          order_numbers = law.sound.order_numbers;
          combinations = new.sound;
          orders = λ j x s.
              let old : SoundOrder (contracts_of b) l.combinations x = law.sound.orders j x s in
              record { account = old.account; contract = old.contract; lots = old.lots; limit = old.limit; leg = (order j x s).0 };
          engaged_most = new.engaged_most;
          combination_rows = new.apart;
          order_rows = law.sound.order_rows;
          last_combination = new.last;
          last_order = law.sound.last_order;
          written_most = law.sound.written_most;
          bought_most = law.sound.bought_most;
        };
      }
