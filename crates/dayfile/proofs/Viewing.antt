-- The calls of a file with its calls at hand.
use Rattle.std.proofs.Common.{◌≡◌, ℕ, ◌+◌, ◌*◌, ◌≤◌, ◌<◌, List, length, take, drop, Some, sym, ap, ◌∙◌, subst, arith, length-drop}
use Rattle.std.proofs.lemmas.List.{drop-drop}
use Rattle.ledger.specs.declared.call.Call.{Call}
use Rattle.dayfile.specs.declared.file.Calls.{Calls as CallsLeft}
use Rattle.dayfile.specs.declared.file.DayFileView.{DayFileView}
use Rattle.dayfile.specs.Bytes.{part, value}
use Rattle.dayfile.specs.Fields.{values}
use Rattle.dayfile.specs.Layout.{call_fields, call_column}
use Rattle.dayfile.specs.Records.{call_in, call_numbers}
use Rattle.dayfile.specs.Format.{call_part, call_at, count_of_calls}
use Rattle.dayfile.specs.Read.{SaysWith, CallsOf, OwnViewed, GivesCall}
use Rattle.dayfile.proofs.Calling.{own_part, own_numbers, own_records}

-- of any bytes that say the file with these calls, the call in the record at k is theirs, and the record has these numbers and no others
pub own_there : (v : DayFileView) (k : ℕ) (x : Call) → x ≡ call_in (part v.calls.now (24 * k) 24) → (bytes : List ℕ) → SaysWith bytes v.file v.calls.now → k < count_of_calls bytes →
    (Some x ≡ Some (call_at bytes k)) × (call_numbers (call_at bytes k) ≡ values (call_part bytes k) (call_fields (value (call_part bytes k) call_column)))
own_there v k x is bytes says less = (ap Some (is ∙ ap call_in (own_part v.file bytes v.calls.now says k less)), own_numbers v.file bytes v.calls.now says k less)

pub own_viewed : (v : DayFileView) (calls : List ℕ) → calls ≡ v.calls.now → OwnViewed v calls
own_viewed v calls is bytes says = subst (CallsOf bytes) (sym is) (own_records v.file bytes v.calls.now says)

-- those left behind the first k
pub record CallsAt (v : DayFileView) (k : ℕ) (s : CallsLeft) : Type 0 where
  pub rest_is : s.rest.now ≡ drop (24 * k) v.calls.now
  pub within : 24 * k ≤ length v.calls.now

module _ (v : DayFileView) (k : ℕ) (s t : CallsLeft) (at : CallsAt v k s) where
  left_long : length s.rest.now + 24 * k ≡ length v.calls.now
  left_long = omega (arith, ap length at.rest_is, length-drop (24 * k) v.calls.now, at.within)

  pub calls_moved : (c : Call) → GivesCall s (Some c) t → CallsAt v (k + 1) t
  calls_moved c gives = record {
    rest_is = gives.2 ∙ ap (drop 24) at.rest_is ∙ drop-drop 24 (24 * k) v.calls.now ∙ ap (λ i. drop i v.calls.now) (let more : 24 * k + 24 ≡ 24 * (k + 1) = omega arith in more);
    within = omega (arith, left_long, gives.0);
  }

  pub call_is : (bytes : List ℕ) → SaysWith bytes v.file v.calls.now → (c : Call) → GivesCall s (Some c) t → c ≡ call_at bytes k
  call_is bytes says c gives =
      let less : k < count_of_calls bytes = omega (arith, says.calls_counted, left_long, gives.0) in
      gives.1 ∙ ap (λ b. call_in (take 24 b)) at.rest_is ∙ ap call_in (own_part v.file bytes v.calls.now says k less)

  pub calls_ended : (bytes : List ℕ) → SaysWith bytes v.file v.calls.now → length s.rest.now < 24 → k ≡ count_of_calls bytes
  calls_ended bytes says short = omega (arith, says.calls_counted, left_long, short)
