-- What a book answers when it is asked. Assumes nothing.
use Rattle.std.specs.Prelude.{◌≡◌, ℕ, List, [], ◌∷◌, Some, None, Ok, Err, Result}
use Rattle.register.specs.declared.row.Row.{Row}
use Rattle.register.specs.Rows.{lookup}
use Rattle.ledger.specs.declared.refusal.Refusal.{Refusal}
use Rattle.ledger.specs.declared.tables.Tables.{Tables}
use Rattle.ledger.specs.declared.tables.Position.{Position}
use Rattle.ledger.specs.Refusals.{number_of}
use Rattle.ledger.specs.Law.{position_of}
use Rattle.ledger.specs.Tests.{first_met, bad_account, not_listed}

-- the lots of an account and a contract; refused with 11, then with 12
abbrev pub PositionAsked : Tables → ℕ → ℕ → Result Position Refusal → Type 0
PositionAsked b a code (Ok p) = (first_met (bad_account a ∷ not_listed b code ∷ []) ≡ None) × (p ≡ position_of b a code)
PositionAsked b a code (Err e) = first_met (bad_account a ∷ not_listed b code ∷ []) ≡ Some (number_of e)

-- the entry under a number; refused with 16
abbrev pub EntryAsked : {T : Type 0} → List (Row T) → ℕ → Result T Refusal → Type 0
EntryAsked rows n (Ok x) = lookup rows n ≡ Some x
EntryAsked rows n (Err e) = (lookup rows n ≡ None) × (number_of e ≡ 16)
