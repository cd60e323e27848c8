-- Deposit and withdraw keep the law.
use Rattle.std.proofs.Common.{◌≡◌, ℕ, ◌+◌, ◌-◌, ◌^◌, ◌≤◌, sym, refl, subst, arith}
use Rattle.std.proofs.lemmas.Bool.{ltb-false}
use Rattle.ledger.specs.declared.call.Call.TheVariants as call
use Rattle.ledger.specs.declared.tables.Tables.{Tables}
use Rattle.margin.specs.Meaning.{Meaning}
use Rattle.ledger.specs.Ledger.{Ledger, cash_in, cash_out}
use Rattle.ledger.specs.CashRules.{deposit_tests, withdraw_tests}
use Rattle.ledger.specs.Moves.{funds_to}
use Rattle.ledger.specs.Runs.{Law}
use Rattle.ledger.proofs.Tests.{Stays, unmet}
use Rattle.ledger.proofs.Moved.{all_alike}

-- balance and cash total move together, and nothing else
abbrev funded : ℕ → ℕ → Ledger → Ledger
funded came went l = record l { came_in = came; went_out = went }

cash_moved : (m : Meaning) (l : Ledger) (b : Tables) (balance cash came went : ℕ) → Law m l b → balance + b.funds.held + b.funds.reserved + went ≡ came → cash + went ≡ came → cash ≤ 10 ^ 17 →
    Law m (funded came went l) (funds_to (record { balance = balance; held = b.funds.held; reserved = b.funds.reserved; cash = cash }) b)
cash_moved m l b balance cash came went law sum total most = record {
  beside = record {
    cash = total;
    lots = all_alike l (funded came went l) b law.beside.lots (λ a code. record { bought = refl; written = refl; claimed_bought = refl; claimed_written = refl });
    combinations = law.beside.combinations;
    orders = law.beside.orders;
    next_combination = law.beside.next_combination;
    next_order = law.beside.next_order;
    held = law.beside.held;
    reserved = law.beside.reserved;
    sum = sum;
  };
  sound = record {
    codes = law.sound.codes;
    count = law.sound.count;
    position_rows = law.sound.position_rows;
    cash = omega (arith, most, total);
    owned = law.sound.owned;
    combination_numbers = law.sound.combination_numbers;
    order_numbers = law.sound.order_numbers;
    combinations = law.sound.combinations;
    orders = law.sound.orders;
    engaged_most = law.sound.engaged_most;
    combination_rows = law.sound.combination_rows;
    order_rows = law.sound.order_rows;
    last_combination = law.sound.last_combination;
    last_order = law.sound.last_order;
    written_most = law.sound.written_most;
    bought_most = law.sound.bought_most;
  };
}

pub deposit_stays : (m : Meaning) (b : Tables) (amount : ℕ) → Stays m b (call.Deposit amount)
deposit_stays m b amount x after h l law =
    let u = unmet (deposit_tests b amount) h.0 in
    let most : b.funds.cash + amount ≤ 10 ^ 17 = ltb-false (10 ^ 17) (b.funds.cash + amount) u.1.0 in (
      tt,
      subst (λ z. Law m (cash_in amount l) z) (sym h.1.0)
          (cash_moved m l b (b.funds.balance + amount) (b.funds.cash + amount) (l.came_in + amount) l.went_out law (omega (arith, law.beside.sum)) (omega (arith, law.beside.cash)) most),
    )

pub withdraw_stays : (m : Meaning) (b : Tables) (amount : ℕ) → Stays m b (call.Withdraw amount)
withdraw_stays m b amount x after h l law =
    let u = unmet (withdraw_tests b amount) h.0 in
    let enough : amount ≤ b.funds.balance = ltb-false b.funds.balance amount u.1.0 in (
      tt,
      subst (λ z. Law m (cash_out amount l) z) (sym h.1.0)
          (cash_moved m l b (b.funds.balance - amount) (b.funds.cash - amount) l.came_in (l.went_out + amount) law (omega (arith, law.beside.sum)) (omega (arith, law.beside.sum, law.beside.cash)) (omega (arith, law.sound.cash, law.beside.cash))),
    )
