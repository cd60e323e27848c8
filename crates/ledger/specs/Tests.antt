-- Tests, and what a call's rule is made of: a list of numbered tests, and what acceptance leaves. Assumes nothing.
use Rattle.std.specs.Prelude.{◌≡◌, ℕ, ◌+◌, ◌^◌, Bool, true, false, cond, not, ◌||◌, List, [], ◌∷◌, Some, None, Ok, Err, Option, Result, nat_lt}
use Rattle.margin.specs.ByCode.{by_code}
use Rattle.register.specs.declared.row.Row.{Row}
use Rattle.register.specs.declared.series.Series.{Series}
use Rattle.register.specs.Numbers.{last_number, next_of}
use Rattle.register.specs.Rows.{some_free}
use Rattle.ledger.specs.declared.tables.Tables.{Tables}
use Rattle.ledger.specs.declared.refusal.Refusal.{Refusal}
use Rattle.ledger.specs.Refusals.{number_of}
use Rattle.ledger.specs.Law.{contracts_of}

-- The answer to a call: the number given, 0 where none is, and the balance after it; or a refusal.
abbrev pub Answer : Type 0
Answer = Result (ℕ × ℕ) Refusal

abbrev pub answers : ℕ → Tables → Answer → Tables → Type 0
answers number to r after = (after ≡ to) × (r ≡ Ok (number, to.funds.balance))

-- the first that is met of a list of numbers and tests
abbrev pub first_met : List (ℕ × Bool) → Option ℕ
first_met [] = None
first_met (x ∷ xs) = cond x.1 (Some x.0) (first_met xs)

-- refused with the number of the first test met, and nothing changed; or no test is met, and this is what acceptance leaves
abbrev pub ByTests : List (ℕ × Bool) → Tables → Answer → Tables → (Answer → Tables → Type 0) → Type 0
ByTests tests b (Ok x) after accepted = (first_met tests ≡ None) × accepted (Ok x) after
ByTests tests b (Err e) after accepted = (first_met tests ≡ Some (number_of e)) × (after ≡ b)

abbrev pub is_none : {T : Type 0} → Option T → Bool
is_none (Some x) = false
is_none None = true

-- a test of what stands; not met where nothing stands
abbrev pub meets : {T : Type 0} → Option T → (T → Bool) → Bool
meets (Some x) test = test x
meets None test = false

-- a statement about what stands; it does not hold where nothing stands
abbrev pub Standing : {T : Type 0} → Option T → (T → Type 0) → Type 0
Standing (Some x) P = P x
Standing None P = ⊥

abbrev pub outside : ℕ → ℕ → ℕ → Bool
outside low high x = nat_lt x low || nat_lt high x

abbrev pub bad_amount : ℕ → ℕ × Bool
bad_amount x = (10, outside 1 (10 ^ 16) x)

abbrev pub bad_account : ℕ → ℕ × Bool
bad_account a = (11, outside 1 8 a)

abbrev pub not_listed : Tables → ℕ → ℕ × Bool
not_listed b code = (12, is_none (by_code (contracts_of b) code))

abbrev pub bad_lots : ℕ → ℕ × Bool
bad_lots lots = (13, outside 1 1000 lots)

abbrev pub bad_price : ℕ → ℕ × Bool
bad_price x = (14, outside 1 (10 ^ 7) x)

abbrev pub short_of_balance : Tables → ℕ → ℕ × Bool
short_of_balance b cost = (21, nat_lt b.funds.balance cost)

abbrev pub no_row : {T : Type 0} → List (Row T) → ℕ × Bool
no_row rows = (22, not (some_free rows))

abbrev pub no_number : Series → ℕ × Bool
no_number series = (23, nat_lt last_number (next_of series))

abbrev pub too_much_cash : Tables → ℕ → ℕ × Bool
too_much_cash b more = (24, nat_lt (10 ^ 17) (b.funds.cash + more))
