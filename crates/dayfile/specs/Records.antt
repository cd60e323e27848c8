-- What the records of a sound file say. Assumes nothing.
use Rattle.std.specs.Prelude.{ℕ, cond, List, [], ◌∷◌, ◌==◌}
use Rattle.margin.specs.Terms.{Terms}
use Rattle.ledger.specs.declared.call.Call.{Call}
use Rattle.ledger.specs.declared.call.Call.TheVariants.{Deposit, Withdraw, SellOpen, BuyOpen, BuyClose, SellClose, LegClose, Fill, Cancel, Combine, Release}
use Rattle.ledger.specs.Calls.{call_number}
use Rattle.ledger.specs.Scales.{scale_number}
use Rattle.ledger.specs.declared.settings.Settings.{Settings}
use Rattle.dayfile.specs.Bytes.{value}
use Rattle.dayfile.specs.Layout.{code_column, underlying_column, expiry_column, right_column, kind_column, unit_column, strike_column, settlement_column, underlying_close_column, listed_margin_column, call_column, account_column, strategy_column, a_column, b_column, lots_column, amount_column}

-- the settings as the fields of their record, by place; the last is spare
abbrev pub settings_numbers : Settings → List ℕ
settings_numbers s = scale_number s.scale ∷ s.first_raise.value ∷ s.second_raise.value ∷ s.permitted ∷ s.first_number ∷ s.opening ∷ s.day ∷ 0 ∷ []

-- the terms in a contract's record
abbrev pub terms_in : List ℕ → Terms
terms_in bytes = record { code = value bytes code_column; underlying = value bytes underlying_column; expiry = value bytes expiry_column; right = value bytes right_column; kind = value bytes kind_column; unit = value bytes unit_column; strike = value bytes strike_column; settlement = value bytes settlement_column; underlying_close = value bytes underlying_close_column; listed_margin = value bytes listed_margin_column }

-- the call of a number from 1 to 11, with its account, strategy, A, B, lots and amount
abbrev pub call_by : ℕ → ℕ → ℕ → ℕ → ℕ → ℕ → ℕ → Call
call_by n account strategy a b lots amount =
    cond (n == 1) (Deposit amount)
    (cond (n == 2) (Withdraw amount)
    (cond (n == 3) (SellOpen account a lots amount)
    (cond (n == 4) (BuyOpen account a lots amount)
    (cond (n == 5) (BuyClose account a lots amount)
    (cond (n == 6) (SellClose account a lots amount)
    (cond (n == 7) (LegClose a b lots amount)
    (cond (n == 8) (Fill a lots amount)
    (cond (n == 9) (Cancel a)
    (cond (n == 10) (Combine account strategy a b lots)
    (Release a lots))))))))))

-- the call in its record
abbrev pub call_in : List ℕ → Call
call_in bytes = call_by (value bytes call_column) (value bytes account_column) (value bytes strategy_column) (value bytes a_column) (value bytes b_column) (value bytes lots_column) (value bytes amount_column)

-- account, strategy, spare, A, B, lots and amount of a call, with 0 for what it does not name
abbrev pub call_arguments : Call → List ℕ
call_arguments (Deposit amount) = 0 ∷ 0 ∷ 0 ∷ 0 ∷ 0 ∷ 0 ∷ amount ∷ []
call_arguments (Withdraw amount) = 0 ∷ 0 ∷ 0 ∷ 0 ∷ 0 ∷ 0 ∷ amount ∷ []
call_arguments (SellOpen account contract lots limit) = account ∷ 0 ∷ 0 ∷ contract ∷ 0 ∷ lots ∷ limit ∷ []
call_arguments (BuyOpen account contract lots limit) = account ∷ 0 ∷ 0 ∷ contract ∷ 0 ∷ lots ∷ limit ∷ []
call_arguments (BuyClose account contract lots limit) = account ∷ 0 ∷ 0 ∷ contract ∷ 0 ∷ lots ∷ limit ∷ []
call_arguments (SellClose account contract lots limit) = account ∷ 0 ∷ 0 ∷ contract ∷ 0 ∷ lots ∷ limit ∷ []
call_arguments (LegClose combination leg lots limit) = 0 ∷ 0 ∷ 0 ∷ combination ∷ leg ∷ lots ∷ limit ∷ []
call_arguments (Fill order lots price) = 0 ∷ 0 ∷ 0 ∷ order ∷ 0 ∷ lots ∷ price ∷ []
call_arguments (Cancel order) = 0 ∷ 0 ∷ 0 ∷ order ∷ 0 ∷ 0 ∷ 0 ∷ []
call_arguments (Combine account strategy first second lots) = account ∷ strategy ∷ 0 ∷ first ∷ second ∷ lots ∷ 0 ∷ []
call_arguments (Release combination lots) = 0 ∷ 0 ∷ 0 ∷ combination ∷ 0 ∷ lots ∷ 0 ∷ []

-- a call as the fields of its record, by place
abbrev pub call_numbers : Call → List ℕ
call_numbers c = call_number c ∷ call_arguments c
