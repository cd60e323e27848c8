-- A sound call's record says its call, and nothing else.
use Rattle.std.proofs.Common.{◌≡◌, ℕ, zero, suc, ◌+◌, ◌<◌, ◌≤◌, List, [], ◌∷◌, None, arith}
use Rattle.dayfile.specs.Bytes.{value}
use Rattle.dayfile.specs.Fields.{Keeps, Kept, values}
use Rattle.dayfile.specs.Layout.{names_of, use_rule, argument_fields, call_number_fields, call_fields, call_column}
use Rattle.dayfile.specs.declared.field.Rule.TheVariants.{Zero}
use Rattle.dayfile.specs.Records.{call_by, call_in, call_numbers}
use Rattle.dayfile.specs.Format.{first_below, call_fault, call_record_fault, count_of_calls, call_place, call_part, call_at}
use Rattle.dayfile.proofs.Firsts.{each_none}
use Rattle.dayfile.proofs.Checking.{fields_kept, first_none}

abbrev Used : ℕ → ℕ → ℕ → ℕ → ℕ → ℕ → ℕ → ℕ → Type 0
Used n account strategy spare a b lots amount =
    Keeps (use_rule (names_of n).account) account
    × (Keeps (use_rule (names_of n).strategy) strategy
    × (Keeps Zero spare
    × (Keeps (use_rule (names_of n).a) a
    × (Keeps (use_rule (names_of n).b) b
    × (Keeps (use_rule (names_of n).lots) lots
    × (Keeps (use_rule (names_of n).amount) amount
    × Unit {0}))))))

told : (n account strategy spare a b lots amount : ℕ) → 1 ≤ n → n ≤ 11 → Used n account strategy spare a b lots amount →
    call_numbers (call_by n account strategy a b lots amount) ≡ (n ∷ account ∷ strategy ∷ spare ∷ a ∷ b ∷ lots ∷ amount ∷ [])
told zero account strategy spare a b lots amount low high u = absurd (omega arith)
told (suc zero) account strategy spare a b lots amount low high (p₀, (p₁, (p₂, (p₃, (p₄, (p₅, (p₆, _))))))) = cc
told (suc (suc zero)) account strategy spare a b lots amount low high (p₀, (p₁, (p₂, (p₃, (p₄, (p₅, (p₆, _))))))) = cc
told (suc (suc (suc zero))) account strategy spare a b lots amount low high (p₀, (p₁, (p₂, (p₃, (p₄, (p₅, (p₆, _))))))) = cc
told (suc (suc (suc (suc zero)))) account strategy spare a b lots amount low high (p₀, (p₁, (p₂, (p₃, (p₄, (p₅, (p₆, _))))))) = cc
told (suc (suc (suc (suc (suc zero))))) account strategy spare a b lots amount low high (p₀, (p₁, (p₂, (p₃, (p₄, (p₅, (p₆, _))))))) = cc
told (suc (suc (suc (suc (suc (suc zero)))))) account strategy spare a b lots amount low high (p₀, (p₁, (p₂, (p₃, (p₄, (p₅, (p₆, _))))))) = cc
told (suc (suc (suc (suc (suc (suc (suc zero))))))) account strategy spare a b lots amount low high (p₀, (p₁, (p₂, (p₃, (p₄, (p₅, (p₆, _))))))) = cc
told (suc (suc (suc (suc (suc (suc (suc (suc zero)))))))) account strategy spare a b lots amount low high (p₀, (p₁, (p₂, (p₃, (p₄, (p₅, (p₆, _))))))) = cc
told (suc (suc (suc (suc (suc (suc (suc (suc (suc zero))))))))) account strategy spare a b lots amount low high (p₀, (p₁, (p₂, (p₃, (p₄, (p₅, (p₆, _))))))) = cc
told (suc (suc (suc (suc (suc (suc (suc (suc (suc (suc zero)))))))))) account strategy spare a b lots amount low high (p₀, (p₁, (p₂, (p₃, (p₄, (p₅, (p₆, _))))))) = cc
told (suc (suc (suc (suc (suc (suc (suc (suc (suc (suc (suc zero))))))))))) account strategy spare a b lots amount low high (p₀, (p₁, (p₂, (p₃, (p₄, (p₅, (p₆, _))))))) = cc
told (suc (suc (suc (suc (suc (suc (suc (suc (suc (suc (suc (suc n)))))))))))) account strategy spare a b lots amount low high u = absurd (omega arith)

pub record_said : (p : List ℕ) (section ordinal place : ℕ) → call_record_fault p section ordinal place ≡ None → call_numbers (call_in p) ≡ values p (call_fields (value p call_column))
record_said p section ordinal place e =
    let q = first_none _ _ e in
    let n = fields_kept p section ordinal place call_number_fields q.0 in
    let k = fields_kept p section ordinal place (argument_fields (names_of (value p call_column))) q.1 in
    told (value p call_column) _ _ _ _ _ _ _ n.0.0 n.0.1 k

pub call_said : (bytes : List ℕ) (k : ℕ) → first_below (count_of_calls bytes) (call_fault bytes) ≡ None → k < count_of_calls bytes →
    call_numbers (call_at bytes k) ≡ values (call_part bytes k) (call_fields (value (call_part bytes k) call_column))
call_said bytes k e h = record_said (call_part bytes k) 3 (k + 1) _ (each_none (call_fault bytes) (count_of_calls bytes) k h e)

-- and has the number of a call
pub number_kept : (bytes : List ℕ) (k : ℕ) → first_below (count_of_calls bytes) (call_fault bytes) ≡ None → k < count_of_calls bytes → Kept (call_part bytes k) call_number_fields
number_kept bytes k e h =
    let q = first_none _ _ (each_none (call_fault bytes) (count_of_calls bytes) k h e) in
    fields_kept (call_part bytes k) 3 (k + 1) (call_place bytes k) call_number_fields q.0
