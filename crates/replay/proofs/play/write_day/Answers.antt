use Rattle.std.proofs.Common.{length, ap, ◌∙◌, arith}
use Rattle.std.proofs.lemmas.List.{length_push}
use Rattle.std.proofs.lemmas.Result.{on_ok_weaker}
use Rattle.std.specs.declared.iter.Enumerate.{Enumerate}
use Rattle.margin.specs.Meaning.{Meaning, meaning}
use Rattle.dayfile.specs.declared.file.CallsIn.{CallsIn}
use Rattle.dayfile.specs.declared.file.DayFile.{DayFile}
use Rattle.dayfile.proofs.Calling.{calls_begin, calls_moved, call_own, ended_own, calls_few}
use Rattle.replay.proofs.Writing.{none_written, one_written, all_written}
use Rattle.replay.proofs.play.write_day.Goals as goal

pub loop-k-init : goal.loop-k-init
loop-k-init g c =
    let m : Meaning = meaning g.S.LegScale.leg_of g.S.CombinationScale.pair_of c.args.scale.now in
    let d : DayFile = c.args.file.now in
    let at = c.enumerate-k-items.ensures in
    let into = c.into_iter-k-iterator.ensures.into_iter_gives in record {
      behind = none_written m d c.args.bytes.now c.open-book.result.tables (g.W.Write.contents c.args.out.now) (g.W.Write.contents c.write_line.new.out) (rw (c.settings-settings.ensures, c.listing-listing.ensures) at c.open-book.ensures.opened)
          (rw c.settings-settings.ensures at (c.open-book.ensures.law m)) (rw (c.opening_line.ensures, c.settings-settings.ensures, c.listing-listing.ensures) at c.in_ok-write_line.ensures);
      counted = ap (λ (e : Enumerate CallsIn). e.count) into ∙ at.count;
      at = calls_begin d c.args.bytes.now c.into_iter-k-iterator.result.iter (ap (λ (e : Enumerate CallsIn). e.iter.rest.now) into ∙ ap (λ (s : CallsIn). s.rest.now) at.source ∙ c.calls.ensures.are);
    }

pub play_call-requires : goal.play_call-requires
play_call-requires g c = (_, c.loop-k.invariant.behind.told.law)

pub loop-k-preserved : goal.loop-k-preserved
loop-k-preserved g c =
    let m : Meaning = meaning g.S.LegScale.leg_of g.S.CombinationScale.pair_of c.args.scale.now in
    let d : DayFile = c.args.file.now in
    let bytes = c.args.bytes.now in
    let k = length c.loop-k.yielded in
    let inv = c.loop-k.invariant in
    let steps = c.in-Some.ensures.steps in
    let more = length_push c.loop-k.yielded (c.in-Some.k, c.in-Some.call) in record {
      behind = rw more (one_written m d bytes c.open-book.result.tables (g.W.Write.contents c.args.out.now) (g.W.Write.contents c.loop-k.out) _ k _ c.play_call.result c.in-Some.call c.loop-k.book.tables c.play_call.new.book.tables
          inv.behind c.play_call.ensures.line c.play_call.ensures.law (omega (arith, steps.1, inv.counted)) (λ own says. call_own d bytes k c.loop-k.k-iterator.iter c.next.new.self.iter inv.at own says c.in-Some.call steps.0) c.in_ok-write_line-2.ensures);
      counted = omega (arith, steps.2, inv.counted, more);
      at = rw more (calls_moved d bytes k c.loop-k.k-iterator.iter c.next.new.self.iter inv.at c.in-Some.call steps.0);
    }

pub returns : goal.returns
returns g c =
    let m : Meaning = meaning g.S.LegScale.leg_of g.S.CombinationScale.pair_of c.args.scale.now in
    let d : DayFile = c.args.file.now in
    let bytes = c.args.bytes.now in
    let k = length c.loop-k.yielded in
    let inv = c.loop-k.invariant in
    let few = calls_few d bytes k c.loop-k.k-iterator.iter c.next.new.self.iter inv.at in
    on_ok_weaker c.write_line-2.result (λ more. all_written m d bytes c.open-book.result.tables (g.W.Write.contents c.args.out.now) (g.W.Write.contents c.loop-k.out) (g.W.Write.contents c.write_line-2.new.out) k c.loop-k.book.tables c.end_line.result
    inv.behind (omega (arith, few)) (λ own says. ended_own d bytes k c.loop-k.k-iterator.iter c.next.new.self.iter inv.at own says c.in-None.ensures.steps.0) c.end_line.ensures more) c.write_line-2.ensures
