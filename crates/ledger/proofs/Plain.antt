-- Fills and cancels that leave combinations alone keep the law.
use Rattle.std.proofs.Common.{◌≡◌, ℕ, ◌+◌, ◌-◌, ◌*◌, ◌^◌, ◌≤◌, List, Some, sym, refl, ap, ◌∙◌, arith}
use Rattle.std.proofs.lemmas.List.{length-set}
use Rattle.margin.specs.ByCode.{by_code}
use Rattle.margin.specs.declared.contract.Contract.{Contract}
use Rattle.register.specs.declared.row.Row.{Row}
use Rattle.register.specs.Rows.{lookup, Apart}
use Rattle.ledger.specs.declared.order.Order.{Order}
use Rattle.ledger.specs.declared.order.Combination.{Combination}
use Rattle.ledger.specs.declared.tables.Tables.{Tables}
use Rattle.ledger.specs.declared.tables.Position.{Position}
use Rattle.margin.specs.Meaning.{Meaning}
use Rattle.ledger.specs.ByCode.{leg_margin_of}
use Rattle.ledger.specs.Ledger.{Ledger, under, more, fewer, cash_total}
use Rattle.ledger.specs.Law.{Lots, contracts_of, position_of, position_row, combination_under, reserve, engaged, engages, closes_written, closes_bought, claimed_written, claimed_bought, in_combinations}
use Rattle.ledger.specs.Moves.{at}
use Rattle.ledger.specs.FillRules.{Flow, filled_funds}
use Rattle.ledger.specs.Content.{contract_of}
use Rattle.ledger.specs.OrderRules.{opens_written, opens_bought}
use Rattle.ledger.specs.Runs.{Law, SoundOrder}
use Rattle.ledger.proofs.Codes.{at_one, one_here, one_else}
use Rattle.ledger.proofs.Covered.{Covers}
use Rattle.ledger.proofs.Shares.{times_both, of_lots, elsewhere}
use Rattle.ledger.proofs.Grid.{legs_moved}
use Rattle.ledger.proofs.Moved.{all_alike, lots_moved}
use Rattle.ledger.proofs.Leaving.{left, left_tables, Part, left_keeps, closes_written_left, closes_bought_left, engaged_left, reserves_left, legs_left}

-- a reserve comes back, and no more
abbrev pub returned : ℕ → Flow
returned x = record { reserve = x; received = 0; paid = 0; back = 0; taken = 0 }

-- lots owned on one side, of which some go and some come at an account and a code, and what the position there has and has locked
pub record Side (a c : ℕ) (own then : ℕ → ℕ → ℕ) (out come opens closes has has_then locked locked_then : ℕ) : Type 0 where
  pub closed : out ≤ closes
  pub opened : come ≤ opens
  pub else : (x y : ℕ) → ((x ≡ a) × (y ≡ c) → ⊥) → then x y ≡ own x y
  pub owned : closes ≤ own a c → then a c + out ≡ own a c + come
  pub position : closes ≤ has → has_then + out ≡ has + come
  pub unlocked : locked_then ≡ locked - closes

module _ {a c : ℕ} {own : ℕ → ℕ → ℕ} {opens closes has locked : ℕ} where
  pub stays : closes ≡ 0 → Side a c own own 0 0 opens closes has has locked locked
  stays none = record { closed = omega arith; opened = omega arith; else = λ x y off. refl; owned = λ h. refl; position = λ h. refl; unlocked = omega (arith, none) }

  pub freed : (lots : ℕ) → closes ≡ lots → Side a c own own 0 0 opens closes has has locked (locked - lots)
  freed lots e = record { closed = omega arith; opened = omega arith; else = λ x y off. refl; owned = λ h. refl; position = λ h. refl; unlocked = ap (λ z. locked - z) (sym e) }

  pub opened : (lots : ℕ) → opens ≡ lots → closes ≡ 0 → Side a c own (more a c lots own) 0 lots opens closes has (has + lots) locked locked
  opened lots e none = record {
    closed = omega arith;
    opened = omega (arith, e);
    else = λ x y. one_else a c (own x y + lots) (own x y) x y;
    owned = λ h. omega (arith, one_here a c (own a c + lots) (own a c));
    position = λ h. omega arith;
    unlocked = omega (arith, none);
  }

  pub closed : (lots : ℕ) → closes ≡ lots → Side a c own (fewer a c lots own) lots 0 opens closes has (has - lots) locked (locked - lots)
  closed lots e = record {
    closed = omega (arith, e);
    opened = omega arith;
    else = λ x y. one_else a c (own x y - lots) (own x y) x y;
    owned = λ h. omega (arith, h, e, one_here a c (own a c - lots) (own a c));
    position = λ h. omega (arith, h, e);
    unlocked = ap (λ z. locked - z) (sym e);
  }

module _ {m : Meaning} {l : Ledger} {b : Tables} (law : Law m l b) {n lots : ℕ} {o : Order} (part : Part l n lots o) where
  abbrev cs : List Contract
  cs = contracts_of b

  abbrev a : ℕ
  a = o.account

  abbrev c : ℕ
  c = contract_of o.kind

  abbrev gone : Order
  gone = of_lots lots o

  abbrev p : Position
  p = position_of b a c

  -- what is to be shown where the order's position moves
  pub record Moving (w : Flow) (came went : ℕ) (bought written : ℕ → ℕ → ℕ) (move : Position → Position) (off on out come : ℕ) : Type 0 where
    pub covered : Covers w
    pub cash_most : cash_total l + w.received ≤ 10 ^ 17 + w.paid
    pub unengaged : (k : ℕ) → engages k gone o.kind ≡ 0
    pub funds : (came ≡ l.came_in + w.received) × (went ≡ l.went_out + w.paid) × (w.reserve ≡ lots * reserve m cs l.combinations o.kind o.limit)
        × (w.back ≡ out * leg_margin_of m (by_code cs c)) × (w.taken ≡ come * leg_margin_of m (by_code cs c))
    pub bought_side : Side a c l.bought bought off on (opens_bought a c gone o.kind) (closes_bought a c gone o.kind) p.bought (move p).bought p.locked_bought (move p).locked_bought
    pub written_side : Side a c l.written written out come (opens_written a c gone o.kind) (closes_written a c gone o.kind) p.written (move p).written p.locked_written (move p).locked_written

  pub moving_keeps : (w : Flow) (came went : ℕ) (bought written : ℕ → ℕ → ℕ) (move : Position → Position) (off on out come : ℕ) → Moving w came went bought written move off on out come →
      Law m (left l n lots o came went bought written l.combinations) (left_tables b n lots o (at a c move b).positions b.combinations (filled_funds w b.funds))
  moving_keeps w came went bought written move off on out come s =
      let l' : Ledger = left l n lots o came went bought written l.combinations in
      let fit : SoundOrder cs l.combinations o = law.sound.orders n o part.stands in
      let C : Contract = fit.contract.0 in
      let is : by_code cs c ≡ Some C = fit.contract.1 in
      let lot : Lots l a c p = law.beside.lots a c C fit.account.0 fit.account.1 is in
      let cw : (x y : ℕ) → claimed_written l' x y + closes_written x y gone o.kind ≡ claimed_written l x y = λ x y. omega (arith, closes_written_left law part x y) in
      let cb : (x y : ℕ) → claimed_bought l' x y + closes_bought x y gone o.kind ≡ claimed_bought l x y = λ x y. omega (arith, closes_bought_left law part x y) in
      let ws = s.written_side in
      let bs = s.bought_side in
      let W : written a c + out ≡ l.written a c + come = ws.owned (omega (arith, cw a c, lot.written_free)) in
      let B : bought a c + off ≡ l.bought a c + on = bs.owned (omega (arith, cb a c, lot.bought_free)) in
      let engaged_still : (k : ℕ) → engaged l' k ≡ engaged l k = λ k. omega (arith, engaged_left law part k, s.unengaged k) in
      let sums = legs_moved m.leg (λ x y. written x y - in_combinations l x y) (λ x y. l.written x y - in_combinations l x y) cs 0 a c C law.sound.codes is fit.account.0 fit.account.1
      (λ x y far. ap (λ z. z - in_combinations l x y) (ws.else x y far)) in
      let free = times_both (written a c - in_combinations l a c) out (l.written a c - in_combinations l a c) come (m.leg C) (omega (arith, W, ws.closed, cw a c, lot.written_free)) in
      left_keeps law part w came went bought written l.combinations (at a c move b).positions b.combinations (record {
        covered = s.covered;
        came_is = s.funds.0;
        went_is = s.funds.1;
        cash_most = s.cash_most;
        rows = length-set b.positions (position_row b a c) (move p) ∙ law.sound.position_rows;
        lots_are = lots_moved l l' b a c C move law.sound.count law.sound.position_rows fit.account.0 fit.account.1 is law.beside.lots
            (record {
              bought = omega (arith, B, bs.position (omega (arith, cb a c, lot.bought_free, lot.bought)), lot.bought);
              written = omega (arith, W, ws.position (omega (arith, cw a c, lot.written_free, lot.written)), lot.written);
              locked_bought = omega (arith, bs.unlocked, lot.locked_bought, cb a c);
              locked_written = omega (arith, ws.unlocked, lot.locked_written, cw a c);
              bought_free = omega (arith, B, bs.closed, cb a c, lot.bought_free);
              written_free = omega (arith, W, ws.closed, cw a c, lot.written_free);
            })
            (λ x y far. let none = elsewhere x y gone o.kind far in
            record { bought = bs.else x y far; written = ws.else x y far; claimed_bought = omega (arith, cb x y, none.1); claimed_written = omega (arith, cw x y, none.0) });
        combinations = λ k. law.beside.combinations k ∙ ap (λ z. combination_under z (under l.combinations k)) (sym (engaged_still k));
        apart = law.sound.combination_rows;
        numbers = law.sound.combination_numbers;
        sound = law.sound.combinations;
        engaged_most = λ k q h. omega (arith, engaged_still k, law.sound.engaged_most k q h);
        legs = legs_left law part;
        held = omega (arith, law.beside.held, sums, free, s.funds.3 ∙ ap (λ z. out * leg_margin_of m z) is, s.funds.4 ∙ ap (λ z. come * leg_margin_of m z) is);
        reserved = omega (arith, reserves_left law part, s.funds.2);
        written_most = at_one (λ x y. written x y ≤ l.written x y + opens_written x y gone o.kind) a c (omega (arith, W, ws.opened)) (λ x y far. omega (arith, ws.else x y far));
        bought_most = at_one (λ x y. bought x y ≤ l.bought x y + opens_bought x y gone o.kind) a c (omega (arith, B, bs.opened)) (λ x y far. omega (arith, bs.else x y far));
      })

  -- a cancel that moves no position
  pub still_keeps : (x : ℕ) (cr : List (Row Combination)) → x ≡ lots * reserve m cs l.combinations o.kind o.limit → ((i j : ℕ) → (closes_written i j gone o.kind ≡ 0) × (closes_bought i j gone o.kind ≡ 0)) →
      ((k : ℕ) → lookup cr k ≡ combination_under (engaged (left l n lots o l.came_in l.went_out l.bought l.written l.combinations) k) (under l.combinations k)) → Apart cr →
      Law m (left l n lots o l.came_in l.went_out l.bought l.written l.combinations) (left_tables b n lots o b.positions cr (filled_funds (returned x) b.funds))
  still_keeps x cr reserve_is closes_none found apart =
      let l' : Ledger = left l n lots o l.came_in l.went_out l.bought l.written l.combinations in
      left_keeps law part (returned x) l.came_in l.went_out l.bought l.written l.combinations b.positions cr (record {
        covered = omega arith;
        came_is = omega arith;
        went_is = omega arith;
        cash_most = omega (arith, law.sound.cash);
        rows = law.sound.position_rows;
        lots_are = all_alike l l' b law.beside.lots (λ i j. record {
          bought = refl;
          written = refl;
          claimed_bought = omega (arith, closes_bought_left law part i j, (closes_none i j).1);
          claimed_written = omega (arith, closes_written_left law part i j, (closes_none i j).0);
        });
        combinations = found;
        apart = apart;
        numbers = law.sound.combination_numbers;
        sound = law.sound.combinations;
        engaged_most = λ k q h. omega (arith, engaged_left law part k, law.sound.engaged_most k q h);
        legs = legs_left law part;
        held = omega (arith, law.beside.held);
        reserved = omega (arith, reserves_left law part, reserve_is);
        written_most = λ i j. omega arith;
        bought_most = λ i j. omega arith;
      })
