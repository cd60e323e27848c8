use Rattle.std.proofs.Common.{◌≡◌, length, None, sym, ◌∙◌, subst, arith}
use Rattle.std.proofs.lemmas.List.{length_push}
use Rattle.std.proofs.lemmas.Result.{err_from_is_err_and}
use Rattle.dayfile.specs.Faults.{record_told, section_number}
use Rattle.dayfile.specs.Format.{first_below, call_fault, call_record_fault, count_of_calls}
use Rattle.dayfile.proofs.Firsts.{first_more, first_found}
use Rattle.dayfile.proofs.Handed.{At, left, handed, moved, told}
use Rattle.dayfile.proofs.call.parse.check_all.Goals as goal

pub loop-found-preserved : goal.loop-found-preserved
loop-found-preserved c =
    let n = length c.loop-found.yielded in
    let inv = c.loop-found.invariant in
    let h = handed inv.at c.in-Some.ensures.steps in
    let more = length_push c.loop-found.yielded c.in-Some.found in record {
      sound = λ bytes of. subst (λ m. first_below m (call_fault bytes) ≡ None) (sym more) (first_more (call_fault bytes) n (inv.sound bytes of) (sym (told (λ s b. call_record_fault b (section_number s)) of h) ∙ c.in_ok-check.ensures));
      at = subst (λ m. At c.args.span.now m c.next.new.self) (sym more) (moved inv.at c.in-Some.ensures.steps);
    }

pub returns : goal.returns
returns c = λ bytes of.
    let inv = c.loop-found.invariant in
    let all : length c.loop-found.yielded ≡ count_of_calls bytes = omega (arith, left inv.at, c.in-None.ensures.steps, of.long) in
    subst (λ k. first_below k (call_fault bytes) ≡ None) all (inv.sound bytes of)

pub returns-in_err-check : goal.returns-in_err-check
returns-in_err-check c =
    let inv = c.loop-found.invariant in
    let h = handed inv.at c.in-Some.ensures.steps in
    let p = err_from_is_err_and c.from_residual.result c.from_residual.ensures.1 in
    rw (p.1, p.2) (λ bytes of. first_found (call_fault bytes) (count_of_calls bytes) (length c.loop-found.yielded) (record_told c.in_err-check.field-0.0) (omega (arith, of.long, h.within)) (inv.sound bytes of)
    (sym (told (λ s b. call_record_fault b (section_number s)) of h) ∙ c.in_err-check.ensures))
