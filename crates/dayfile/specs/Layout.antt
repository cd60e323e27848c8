-- The records of the day file: the place of each field in its record, its width, and its rule. Assumes nothing.
use Rattle.std.specs.Prelude.{ℕ, ◌-◌, Bool, true, false, cond, List, [], ◌∷◌, ◌++◌, slice_index_or}
use Rattle.dayfile.specs.declared.field.Column.{Column}
use Rattle.dayfile.specs.declared.field.Rule.{Rule}
use Rattle.dayfile.specs.declared.field.Rule.TheVariants.{Within, Zero, Any}
use Rattle.dayfile.specs.declared.field.Field.{Field}
use Rattle.dayfile.specs.declared.call.Named.{Named}

abbrev pub column : ℕ → ℕ → Column
column at width = record { at = at; width = width }

abbrev field : Column → Rule → Field
field c r = record { column = c; rule = r }

-- Settings, 20 bytes.
abbrev pub scale_column : Column
scale_column = column 0 1

abbrev pub first_raise_column : Column
first_raise_column = column 1 1

abbrev pub second_raise_column : Column
second_raise_column = column 2 1

abbrev pub permitted_column : Column
permitted_column = column 3 1

abbrev pub first_number_column : Column
first_number_column = column 4 4

abbrev pub opening_column : Column
opening_column = column 8 8

abbrev pub day_column : Column
day_column = column 16 2

abbrev pub settings_spare : Column
settings_spare = column 18 2

abbrev pub settings_fields : List Field
settings_fields =
    field scale_column (Within 1 2)
    ∷ field first_raise_column (Within 0 100)
    ∷ field second_raise_column (Within 0 100)
    ∷ field permitted_column (Within 0 63)
    ∷ field first_number_column (Within 1 4294967295)
    ∷ field opening_column (Within 0 10000000000000000)
    ∷ field day_column (Within 1 65535)
    ∷ field settings_spare Zero
    ∷ []

-- A contract, 32 bytes. It does not expire before the file's day.
abbrev pub code_column : Column
code_column = column 0 4

abbrev pub underlying_column : Column
underlying_column = column 4 4

abbrev pub expiry_column : Column
expiry_column = column 8 2

abbrev pub right_column : Column
right_column = column 10 1

abbrev pub kind_column : Column
kind_column = column 11 1

abbrev pub unit_column : Column
unit_column = column 12 4

abbrev pub strike_column : Column
strike_column = column 16 4

abbrev pub settlement_column : Column
settlement_column = column 20 4

abbrev pub underlying_close_column : Column
underlying_close_column = column 24 4

abbrev pub listed_margin_column : Column
listed_margin_column = column 28 4

abbrev pub contract_fields : ℕ → List Field
contract_fields day =
    field code_column (Within 10000000 99999999)
    ∷ field underlying_column (Within 1 999999)
    ∷ field expiry_column (Within day 65535)
    ∷ field right_column (Within 1 2)
    ∷ field kind_column (Within 1 2)
    ∷ field unit_column (Within 1 1000000)
    ∷ field strike_column (Within 1 10000000)
    ∷ field settlement_column (Within 1 10000000)
    ∷ field underlying_close_column (Within 1 10000000)
    ∷ field listed_margin_column (Within 0 4294967295)
    ∷ []

-- A call, 24 bytes. A field that the call does not name is unused.
abbrev pub call_column : Column
call_column = column 0 1

abbrev pub account_column : Column
account_column = column 1 1

abbrev pub strategy_column : Column
strategy_column = column 2 1

abbrev pub call_spare : Column
call_spare = column 3 1

abbrev pub a_column : Column
a_column = column 4 4

abbrev pub b_column : Column
b_column = column 8 4

abbrev pub lots_column : Column
lots_column = column 12 4

abbrev pub amount_column : Column
amount_column = column 16 8

abbrev named : Bool → Bool → Bool → Bool → Bool → Bool → Named
named account strategy a b lots amount = record { account = account; strategy = strategy; a = a; b = b; lots = lots; amount = amount }

-- which of account, strategy, A, B, lots and amount each call names, from call 1 on
abbrev pub calls_named : List Named
calls_named =
    named false false false false false true  -- deposit
    ∷ named false false false false false true  -- withdraw
    ∷ named true false true false true true  -- sell open
    ∷ named true false true false true true  -- buy open
    ∷ named true false true false true true  -- buy close
    ∷ named true false true false true true  -- sell close
    ∷ named false false true true true true  -- leg close: combination, leg
    ∷ named false false true false true true  -- fill: order
    ∷ named false false true false false false  -- cancel: order
    ∷ named true true true true true false  -- combine: first, second
    ∷ named false false true false true false  -- release: combination
    ∷ []

abbrev pub names_of : ℕ → Named
names_of call = slice_index_or calls_named (call - 1) (named false false false false false false)

abbrev pub use_rule : Bool → Rule
use_rule is_named = cond is_named Any Zero

abbrev pub call_number_fields : List Field
call_number_fields = field call_column (Within 1 11) ∷ []

abbrev pub argument_fields : Named → List Field
argument_fields n =
    field account_column (use_rule n.account)
    ∷ field strategy_column (use_rule n.strategy)
    ∷ field call_spare Zero
    ∷ field a_column (use_rule n.a)
    ∷ field b_column (use_rule n.b)
    ∷ field lots_column (use_rule n.lots)
    ∷ field amount_column (use_rule n.amount)
    ∷ []

-- the eight fields of the record of a call of that number
abbrev pub call_fields : ℕ → List Field
call_fields call = call_number_fields ++ argument_fields (names_of call)
