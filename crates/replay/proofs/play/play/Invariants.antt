use Rattle.std.proofs.Common.{◌≡◌, ℕ, List, length, map, vec_items, vec_len}
use Rattle.margin.specs.Listing.{listed}
use Rattle.margin.specs.Meaning.{meaning}
use Rattle.book.specs.Book.{tables_of}
use Rattle.dayfile.specs.Read.{SaysWith}
use Rattle.dayfile.proofs.Calling.{CallsAt, calls_part}
use Rattle.replay.specs.Replayed.{numbered_calls, place_and_call}
use Rattle.replay.proofs.Telling.{SoFar}
use Rattle.replay.proofs.play.play.Given as goal

abbrev pub invariant-loop-call : goal.invariant-loop-call
invariant-loop-call g l = record {
  told : SoFar (meaning g.S.LegScale.leg_of g.S.CombinationScale.pair_of l.scale) l.file.settings (listed l.file.listing) (tables_of l.initial.book) (vec_items l.calls) (tables_of l.book);
  many : vec_len l.calls ≡ length l.yielded;
  calls : (bytes : List ℕ) → SaysWith bytes l.file (calls_part l.file l.bytes) → map place_and_call (vec_items l.calls) ≡ numbered_calls bytes (length l.yielded);
  at : CallsAt l.file l.bytes (length l.yielded) l.call-iterator;
}
