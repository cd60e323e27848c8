use Rattle.std.proofs.Common.{subst, arith}
use Rattle.dayfile.specs.Numbered.{Numbered}
use Rattle.dayfile.proofs.Handed.{numbered_rest}
use Rattle.dayfile.proofs.file.view.CallsIterator.next.Goals as goal

pub invariant_of-self : goal.invariant_of-self
invariant_of-self c =
    let left = c.args.self.now in
    let steps = c.in_ok-call.ensures.steps in
    record { numbered = subst Numbered (cc steps.2) (numbered_rest left.rest.now (omega (arith, steps.0)) left.numbered) }
