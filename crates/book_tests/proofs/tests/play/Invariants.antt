use Rattle.margin.specs.Meaning.{meaning}
use Rattle.ledger.specs.Runs.{Kept}
use Rattle.book.specs.Book.{tables_of}
use Rattle.book_tests.proofs.tests.play.Given as goal

abbrev pub invariant-loop-next : goal.invariant-loop-next
invariant-loop-next g l = Kept (meaning g.S.LegScale.leg_of g.S.CombinationScale.pair_of l.scale) (tables_of l.book)
