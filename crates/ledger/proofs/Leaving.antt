-- The law after some lots of an order are gone, by a fill or a cancel.
use Rattle.std.proofs.Common.{◌≡◌, ℕ, ◌+◌, ◌-◌, ◌*◌, ◌^◌, ◌<◌, ◌≤◌, cond, eqb, leb, ◌⊎◌, List, length, Some, sym, refl, ap, ◌∙◌, subst, ⊎_elim, arith}
use Rattle.register.specs.declared.row.Row.{Row}
use Rattle.register.specs.Rows.{lookup, Apart}
use Rattle.ledger.specs.declared.order.Order.{Order}
use Rattle.ledger.specs.declared.order.Combination.{Combination}
use Rattle.ledger.specs.declared.tables.Tables.{Tables}
use Rattle.ledger.specs.declared.tables.Funds.{Funds}
use Rattle.ledger.specs.declared.tables.Position.{Position}
use Rattle.margin.specs.Meaning.{Meaning}
use Rattle.ledger.specs.Ledger.{Ledger, Entry, under, put, order_less, cash_total}
use Rattle.ledger.specs.Content.{Pairing, contract_of}
use Rattle.ledger.specs.Law.{Beside, contracts_of, reserve, reserves, margin_held, engaged, engages, combination_under, closes_written, closes_bought}
use Rattle.ledger.specs.Moves.{order_rest}
use Rattle.ledger.specs.FillRules.{Flow, filled_funds}
use Rattle.ledger.specs.OrderRules.{working_sum, opens_written, opens_bought}
use Rattle.ledger.specs.Runs.{Law, Sound, SoundOrder, SoundCombination, LegStands, Numbers, OnTheBook}
use Rattle.ledger.proofs.Entries.{weighed, under_put, numbers_put}
use Rattle.ledger.proofs.Codes.{at_one}
use Rattle.ledger.proofs.Lessened.{lookup_rest, apart_rest, in_use_rest, less_weight, weighed_lessened, lessened_parts}
use Rattle.ledger.proofs.Shares.{of_lots, ByLots, order_splits, split_mul, elsewhere}
use Rattle.ledger.proofs.Covered.{Covers}
use Rattle.ledger.proofs.Moved.{AllLots}

-- what is left in the ledger and in the tables
abbrev pub left : Ledger → ℕ → ℕ → Order → ℕ → ℕ → (ℕ → ℕ → ℕ) → (ℕ → ℕ → ℕ) → List (Entry Pairing) → Ledger
left l n lots o came went bought written es = record l { came_in = came; went_out = went; bought = bought; written = written; combinations = es; orders = put n (order_less lots o) l.orders }

abbrev pub left_tables : Tables → ℕ → ℕ → Order → List Position → List (Row Combination) → Funds → Tables
left_tables b n lots o ps cr f = record b { positions = ps; combinations = cr; orders = order_rest n lots o b.orders; funds = f }

-- an order under its number, and lots of it
pub record Part (l : Ledger) (n lots : ℕ) (o : Order) : Type 0 where
  pub stands : under l.orders n ≡ Some o
  pub within : lots ≤ o.lots

-- what is to be shown of the rest: what moves of the funds, and what stands
pub record Left (m : Meaning) (l : Ledger) (b : Tables) (lots : ℕ) (o : Order) (w : Flow) (l' : Ledger) (b' : Tables) : Type 0 where
  pub covered : Covers w
  pub came_is : l'.came_in ≡ l.came_in + w.received
  pub went_is : l'.went_out ≡ l.went_out + w.paid
  pub cash_most : cash_total l + w.received ≤ 10 ^ 17 + w.paid
  pub rows : length b'.positions ≡ 512
  pub lots_are : AllLots l' b'
  pub combinations : (k : ℕ) → lookup b'.combinations k ≡ combination_under (engaged l' k) (under l'.combinations k)
  pub apart : Apart b'.combinations
  pub numbers : Numbers l'.combinations l'.next_combination
  pub sound : (k : ℕ) (p : Pairing) → under l'.combinations k ≡ Some p → SoundCombination (contracts_of b) p
  pub engaged_most : (k : ℕ) (p : Pairing) → under l'.combinations k ≡ Some p → engaged l' k ≤ p.lots
  pub legs : (k : ℕ) (x : Order) → under l'.orders k ≡ Some x → LegStands l'.combinations x.account x.kind
  pub held : margin_held m (contracts_of b) l' + w.back ≡ b.funds.held + w.taken
  pub reserved : reserves m (contracts_of b) l' + w.reserve ≡ b.funds.reserved
  pub written_most : (x y : ℕ) → l'.written x y ≤ l.written x y + opens_written x y (of_lots lots o) o.kind
  pub bought_most : (x y : ℕ) → l'.bought x y ≤ l.bought x y + opens_bought x y (of_lots lots o) o.kind

module _ {m : Meaning} {l : Ledger} {b : Tables} (law : Law m l b) {n lots : ℕ} {o : Order} (part : Part l n lots o) where
  abbrev gone : Order
  gone = of_lots lots o

  abbrev orders_then : List (Entry Order)
  orders_then = put n (order_less lots o) l.orders

  row_stands : lookup b.orders n ≡ Some o
  row_stands = law.beside.orders n ∙ part.stands

  -- what stands after: the rest of the order, or another that stood
  pub order_parts : (k : ℕ) (x : Order) → under orders_then k ≡ Some x → ((n ≡ k) × (lots < o.lots) × (x ≡ of_lots (o.lots - lots) o)) ⊎ ((n ≡ k → ⊥) × (under l.orders k ≡ Some x))
  order_parts k x q = lessened_parts (λ (y : Order). y.lots) of_lots (λ y. refl) l.orders l.next_order n lots k o x law.sound.order_numbers part.stands q

  -- sums that go by lots, over the orders and over their rows
  orders_left : (g : Order → ℕ) → ByLots g → weighed g orders_then + g gone ≡ weighed g l.orders
  orders_left g by = weighed_lessened (λ (x : Order). x.lots) of_lots (λ x. refl) g by l.orders n lots o part.stands part.within

  rows_left : (g : Order → ℕ) → ByLots g → working_sum (order_rest n lots o b.orders) g + g gone ≡ working_sum b.orders g
  rows_left g by = omega (arith, in_use_rest (leb o.lots lots) g b.orders n (of_lots (o.lots - lots) o) o row_stands, less_weight (λ (x : Order). x.lots) of_lots (λ x. refl) g by lots o part.within)

  pub closes_written_left : (x y : ℕ) → weighed (λ z. closes_written x y z z.kind) orders_then + closes_written x y gone o.kind ≡ weighed (λ z. closes_written x y z z.kind) l.orders
  closes_written_left x y = orders_left (λ z. closes_written x y z z.kind) (λ z k h. (order_splits x y 0 z k z.kind h).0)

  pub closes_bought_left : (x y : ℕ) → weighed (λ z. closes_bought x y z z.kind) orders_then + closes_bought x y gone o.kind ≡ weighed (λ z. closes_bought x y z z.kind) l.orders
  closes_bought_left x y = orders_left (λ z. closes_bought x y z z.kind) (λ z k h. (order_splits x y 0 z k z.kind h).1)

  pub engaged_left : (k : ℕ) → weighed (λ z. engages k z z.kind) orders_then + engages k gone o.kind ≡ engaged l k
  engaged_left k = orders_left (λ z. engages k z z.kind) (λ z j h. (order_splits 0 0 k z j z.kind h).4)

  pub reserves_left : weighed (λ z. z.lots * reserve m (contracts_of b) l.combinations z.kind z.limit) orders_then + lots * reserve m (contracts_of b) l.combinations o.kind o.limit ≡ b.funds.reserved
  reserves_left = omega (arith, law.beside.reserved, orders_left (λ z. z.lots * reserve m (contracts_of b) l.combinations z.kind z.limit) (λ z k h. split_mul z.lots k (reserve m (contracts_of b) l.combinations z.kind z.limit) h))

  -- a leg stands beside an order and beside the rest of it
  pub legs_left : (k : ℕ) (x : Order) → under orders_then k ≡ Some x → LegStands l.combinations x.account x.kind
  legs_left k x p =
      ⊎_elim
      (λ q. subst (λ y. LegStands l.combinations y.account y.kind) (sym q.2) (law.sound.orders n o part.stands).leg)
      (λ q. (law.sound.orders k x q.1).leg)
      (order_parts k x p)

  pub left_keeps : (w : Flow) (came went : ℕ) (bought written : ℕ → ℕ → ℕ) (es : List (Entry Pairing)) (ps : List Position) (cr : List (Row Combination)) →
      Left m l b lots o w (left l n lots o came went bought written es) (left_tables b n lots o ps cr (filled_funds w b.funds)) →
      Law m (left l n lots o came went bought written es) (left_tables b n lots o ps cr (filled_funds w b.funds))
  left_keeps w came went bought written es ps cr rest =
      let beside : Beside m l b = law.beside in
      let sound : Sound l b = law.sound in
      let old : SoundOrder (contracts_of b) l.combinations o = sound.orders n o part.stands in
      record {
        beside = record {
          cash = omega (arith, rest.came_is, rest.went_is, rest.covered, rest.held, rest.reserved, beside.cash, beside.sum);
          lots = rest.lots_are;
          combinations = rest.combinations;
          orders = λ k. lookup_rest (leb o.lots lots) b.orders n k (of_lots (o.lots - lots) o) o sound.order_rows row_stands
              ∙ ap (λ y. cond (eqb n k) (order_less lots o) y) (beside.orders k)
              ∙ sym (under_put l.orders l.next_order n k (order_less lots o) o sound.order_numbers part.stands);
          next_combination = beside.next_combination;
          next_order = beside.next_order;
          held = omega (arith, rest.held);
          reserved = omega (arith, rest.reserved);
          sum = omega (arith, rest.came_is, rest.went_is, rest.covered, rest.held, rest.reserved, beside.sum);
        };
        sound = record {
          codes = sound.codes;
          count = sound.count;
          position_rows = rest.rows;
          cash = omega (arith, rest.came_is, rest.went_is, rest.cash_most, beside.cash);
          owned = at_one (λ x y. 1 ≤ bought x y + written x y → OnTheBook (contracts_of b) x y) o.account (contract_of o.kind) (λ some. (old.account.0, old.account.1, old.contract))
              (λ x y off some. let none = elsewhere x y gone o.kind off in sound.owned x y (omega (arith, some, rest.written_most x y, rest.bought_most x y, none.2, none.3)));
          combination_numbers = rest.numbers;
          order_numbers = numbers_put l.orders l.next_order n (order_less lots o) sound.order_numbers;
          combinations = rest.sound;
          orders = λ k x p.
              let leg : LegStands es x.account x.kind = rest.legs k x p in
              ⊎_elim
              (λ q. let few : o.lots ≤ 1000 = old.lots.1 in
              let some : lots < o.lots = q.1 in
              subst (λ y. LegStands es y.account y.kind → SoundOrder (contracts_of b) es y) (sym q.2)
              (λ leg'. record { account = old.account; contract = old.contract; lots = (omega arith, omega arith); limit = old.limit; leg = leg' }) leg)
              (λ q. let other : SoundOrder (contracts_of b) l.combinations x = sound.orders k x q.1 in
              record { account = other.account; contract = other.contract; lots = other.lots; limit = other.limit; leg = leg })
              (order_parts k x p);
          engaged_most = rest.engaged_most;
          combination_rows = rest.apart;
          order_rows = apart_rest (leb o.lots lots) b.orders n (of_lots (o.lots - lots) o) sound.order_rows;
          last_combination = sound.last_combination;
          last_order = sound.last_order;
          written_most = λ x y. omega (arith, rest.written_most x y, sound.written_most x y, rows_left (λ z. opens_written x y z z.kind) (λ z k h. (order_splits x y 0 z k z.kind h).2));
          bought_most = λ x y. omega (arith, rest.bought_most x y, sound.bought_most x y, rows_left (λ z. opens_bought x y z z.kind) (λ z k h. (order_splits x y 0 z k z.kind h).3));
        };
      }
