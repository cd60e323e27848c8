use Rattle.std.proofs.Common.{◌≡◌, ℕ, List, length, None}
use Rattle.dayfile.specs.declared.fault.Section.TheVariants.{Calls}
use Rattle.dayfile.specs.Format.{first_below, call_fault}
use Rattle.dayfile.specs.Located.{SpanOf}
use Rattle.dayfile.proofs.Handed.{At}
use Rattle.dayfile.proofs.call.parse.check_all.Given as goal

abbrev pub invariant-loop-found : goal.invariant-loop-found
invariant-loop-found l = record {
  sound : (bytes : List ℕ) → SpanOf bytes Calls l.span → first_below (length l.yielded) (call_fault bytes) ≡ None;
  at : At l.span (length l.yielded) l.found-iterator;
}
