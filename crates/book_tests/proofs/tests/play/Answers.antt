use Rattle.margin.specs.Meaning.{meaning}
use Rattle.book_tests.proofs.tests.play.Goals as goal

pub loop-next-init : goal.loop-next-init
loop-next-init g c = (_, c.open-book.ensures.law (meaning g.S.LegScale.leg_of g.S.CombinationScale.pair_of c.args.scale.now))
