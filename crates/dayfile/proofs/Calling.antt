-- The call at a place of the calls section, and the calls from there on.
use Rattle.std.proofs.Common.{◌≡◌, ℕ, ◌+◌, ◌-◌, ◌*◌, ◌<◌, ◌≤◌, min, Bool, true, false, ◌&&◌, ltb, leb, List, length, take, drop, Some, None, sym, refl, ap, ◌∙◌, subst, arith, length-drop, length-take}
use Rattle.std.proofs.lemmas.Bool.{and_from, cond-true, cond-false, le-leb, le-ltb, lt-leb, lt-ltb}
use Rattle.std.proofs.lemmas.List.{drop-drop, drop_min, take_all, take_min}
use Rattle.ledger.specs.declared.call.Call.{Call}
use Rattle.dayfile.specs.declared.file.CallsIn.{CallsIn}
use Rattle.dayfile.specs.declared.file.DayFile.{DayFile}
use Rattle.dayfile.specs.declared.fault.Section.TheVariants.{Calls}
use Rattle.dayfile.specs.Bytes.{part, value}
use Rattle.dayfile.specs.Fields.{Kept, values}
use Rattle.dayfile.specs.Layout.{call_number_fields, call_fields, call_column}
use Rattle.dayfile.specs.Numbered.{Numbered}
use Rattle.dayfile.specs.Records.{call_in, call_numbers}
use Rattle.dayfile.specs.Format.{start, extent, call_part, call_at, count_of_calls}
use Rattle.dayfile.specs.Read.{Says, SaysWith, CallsOf, call_of, OwnCall, OwnCalls, GivesCallIn}
use Rattle.dayfile.proofs.Files.{calls_sound, calls_whole}
use Rattle.dayfile.proofs.Handed.{part_of_part, numbered_behind}
use Rattle.dayfile.proofs.Telling.{call_said, number_kept}

and_last : (a : Bool) → (a && false) ≡ false
and_last true = refl
and_last false = refl

module _ (d : DayFile) (bytes : List ℕ) (k : ℕ) where
  pub none_behind : d.call_count ≤ k → (None ≡ call_of d bytes k) × OwnCall d bytes k None
  none_behind h = (
    sym (cond-false _ _ _ (ap (λ b. b && leb (d.calls + 24 * k + 24) (length bytes)) (le-ltb k d.call_count h))),
    λ says less. absurd (omega (arith, says.calls_counted)),
  )

  pub none_past : length bytes < d.calls + 24 * k + 24 → (None ≡ call_of d bytes k) × OwnCall d bytes k None
  none_past h = (
    sym (cond-false _ _ _ (ap (λ b. ltb k d.call_count && b) (lt-leb (d.calls + 24 * k + 24) (length bytes) h) ∙ and_last (ltb k d.call_count))),
    λ says less. absurd (omega (arith, says.calls_start, (calls_sound bytes says.sound).0)),
  )

  pub one_there : k < d.call_count → d.calls + 24 * k + 24 ≤ length bytes → (x : Call) → x ≡ call_in (part bytes (d.calls + 24 * k) 24) → (Some x ≡ call_of d bytes k) × OwnCall d bytes k (Some x)
  one_there low high x is = (
    ap Some is ∙ sym (cond-true _ _ _ (and_from _ _ (lt-ltb k d.call_count low) (le-leb (d.calls + 24 * k + 24) (length bytes) high))),
    λ says less. (ap Some (is ∙ ap (λ p. call_in (part bytes (p + 24 * k) 24)) says.calls_start), call_said bytes k (calls_sound bytes says.sound).1 less),
  )

-- the records of a file's calls, as far as the bytes reach
abbrev pub calls_part : DayFile → List ℕ → List ℕ
calls_part d bytes = part bytes d.calls (24 * d.call_count)

module _ (d : DayFile) (bytes : List ℕ) (says : Says bytes d) where
  -- they are all there
  all_there : length (calls_part d bytes) ≡ 24 * d.call_count
  all_there = omega (arith, length-take (24 * d.call_count) (drop d.calls bytes), length-drop d.calls bytes, says.calls_start, says.calls_counted, (calls_sound bytes says.sound).0)

  -- and are the bytes' calls
  pub says_with : SaysWith bytes d (calls_part d bytes)
  says_with = record {
    sound = says.sound;
    settings = says.settings;
    contracts = says.contracts;
    calls = ap (λ i. part bytes i (24 * d.call_count)) says.calls_start ∙ ap (λ n. part bytes (start bytes Calls) (24 * n)) says.calls_counted ∙ ap (part bytes (start bytes Calls)) (sym (calls_whole bytes says.sound));
    calls_counted = omega (arith, all_there, says.calls_counted);
  }

-- records of calls, wherever in the bytes they stand
module _ (d : DayFile) (bytes calls : List ℕ) (says : SaysWith bytes d calls) where
  own_long : length calls ≡ 24 * count_of_calls bytes
  own_long = omega (arith, ap length says.calls, length-take (extent bytes Calls) (drop (start bytes Calls) bytes), length-drop (start bytes Calls) bytes, calls_whole bytes says.sound, (calls_sound bytes says.sound).0)

  pub own_part : (k : ℕ) → k < count_of_calls bytes → part calls (24 * k) 24 ≡ call_part bytes k
  own_part k less = ap (λ b. part b (24 * k) 24) says.calls ∙ part_of_part bytes (start bytes Calls) (extent bytes Calls) (24 * k) 24 (omega (arith, less))

  pub own_numbers : (k : ℕ) → k < count_of_calls bytes → call_numbers (call_at bytes k) ≡ values (call_part bytes k) (call_fields (value (call_part bytes k) call_column))
  own_numbers k less = call_said bytes k (calls_sound bytes says.sound).1 less

  pub own_records : CallsOf bytes calls
  own_records = (own_long, λ k less. (ap call_in (own_part k less), own_numbers k less))

  -- each has the number of a call
  pub own_numbered : Numbered calls
  own_numbered k less =
      let within : k < count_of_calls bytes = omega (arith, less, says.calls_counted) in
      subst (λ b. Kept b call_number_fields) (sym (own_part k within)) (number_kept bytes k (calls_sound bytes says.sound).1 within)

-- what two cuts, each as far as there are bytes, leave of them
pub reach : (bytes : List ℕ) (a n s t : ℕ) → s ≡ min a (length bytes) → t ≡ min n (length (take (length bytes - s) (drop s bytes))) → take t (take (length bytes - s) (drop s bytes)) ≡ part bytes a n
reach bytes a n s t low high =
    ap (λ i. take i (take (length bytes - s) (drop s bytes))) high ∙ take_min n _ ∙ ap (take n) (take_all (length bytes - s) (drop s bytes) (omega (arith, length-drop s bytes)) ∙ ap (λ i. drop i bytes) low ∙ drop_min a bytes)

pub own_calls : (d : DayFile) (bytes calls : List ℕ) → calls ≡ calls_part d bytes → OwnCalls d bytes calls
own_calls d bytes calls is says = subst (CallsOf bytes) (sym is) (own_records d bytes (calls_part d bytes) (says_with d bytes says))

-- those left behind the first k
pub record CallsAt (d : DayFile) (bytes : List ℕ) (k : ℕ) (s : CallsIn) : Type 0 where
  pub rest_is : s.rest.now ≡ drop (24 * k) (calls_part d bytes)
  pub within : 24 * k ≤ length (calls_part d bytes)

pub calls_begin : (d : DayFile) (bytes : List ℕ) (s : CallsIn) → s.rest.now ≡ calls_part d bytes → CallsAt d bytes 0 s
calls_begin d bytes s is = record { rest_is = is; within = omega arith }

module _ (d : DayFile) (bytes : List ℕ) (k : ℕ) (s t : CallsIn) (at : CallsAt d bytes k s) where
  left_long : length s.rest.now + 24 * k ≡ length (calls_part d bytes)
  left_long = omega (arith, ap length at.rest_is, length-drop (24 * k) (calls_part d bytes), at.within)

  pub calls_moved : (c : Call) → GivesCallIn s (Some c) t → CallsAt d bytes (k + 1) t
  calls_moved c gives = record {
    rest_is = gives.2 ∙ ap (drop 24) at.rest_is ∙ drop-drop 24 (24 * k) (calls_part d bytes) ∙ ap (λ i. drop i (calls_part d bytes)) (let more : 24 * k + 24 ≡ 24 * (k + 1) = omega arith in more);
    within = omega (arith, left_long, gives.0);
  }

  -- of any bytes that say the file with these calls
  pub call_own : (own : List ℕ) → SaysWith own d (calls_part d bytes) → (c : Call) → GivesCallIn s (Some c) t → c ≡ call_at own k
  call_own own says c gives =
      let less : k < count_of_calls own = omega (arith, says.calls_counted, left_long, gives.0) in
      gives.1 ∙ ap (λ b. call_in (take 24 b)) at.rest_is ∙ ap call_in (own_part d own (calls_part d bytes) says k less)

  pub ended_own : (own : List ℕ) → SaysWith own d (calls_part d bytes) → length s.rest.now < 24 → k ≡ count_of_calls own
  ended_own own says short = omega (arith, says.calls_counted, left_long, short)

  pub call_is : Says bytes d → (c : Call) → GivesCallIn s (Some c) t → c ≡ call_at bytes k
  call_is says c gives = call_own bytes (says_with d bytes says) c gives

  pub calls_ended : Says bytes d → length s.rest.now < 24 → k ≡ count_of_calls bytes
  calls_ended says short = ended_own bytes (says_with d bytes says) short

  -- each that is left has the number of a call
  pub rest_numbered : Says bytes d → Numbered s.rest.now
  rest_numbered says = subst Numbered (sym at.rest_is) (numbered_behind (calls_part d bytes) k at.within (own_numbered d bytes (calls_part d bytes) (says_with d bytes says)))

  -- there are no more of them than a file can hold
  pub calls_few : 24 * k ≤ 60000
  calls_few = omega (arith, at.within, length-take (24 * d.call_count) (drop d.calls bytes), d.calls_inside)
