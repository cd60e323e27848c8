use Rattle.std.proofs.Common.{take}
use Rattle.margin.specs.Meaning.{meaning}
use Rattle.ledger.specs.Runs.{Kept}
use Rattle.book.specs.Book.{tables_of}
use Rattle.book.specs.Played.{Played}
use Rattle.book.proofs.Book.run.Given as goal

abbrev pub invariant-loop-call : goal.invariant-loop-call
invariant-loop-call g l =
    Kept (meaning g.S.LegScale.leg_of g.S.CombinationScale.pair_of l.scale) (tables_of l.self)
    × Played (meaning g.S.LegScale.leg_of g.S.CombinationScale.pair_of l.scale) (tables_of l.initial.self) (take l.call-index l.calls) (tables_of l.self)
