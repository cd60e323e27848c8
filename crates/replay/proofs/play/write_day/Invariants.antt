use Rattle.std.proofs.Common.{◌≡◌, length}
use Rattle.margin.specs.Meaning.{meaning}
use Rattle.book.specs.Book.{tables_of}
use Rattle.dayfile.proofs.Calling.{CallsAt}
use Rattle.replay.proofs.Writing.{Behind}
use Rattle.replay.proofs.play.write_day.Given as goal

abbrev pub invariant-loop-k : goal.invariant-loop-k
invariant-loop-k g l = record {
  behind : Behind (meaning g.S.LegScale.leg_of g.S.CombinationScale.pair_of l.scale) l.file l.bytes (tables_of l.initial.book) (g.W.Write.contents l.fn.out) (g.W.Write.contents l.out) (length l.yielded) (tables_of l.book);
  counted : l.k-iterator.count ≡ length l.yielded;
  at : CallsAt l.file l.bytes (length l.yielded) l.k-iterator.iter;
}
