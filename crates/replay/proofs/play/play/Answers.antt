use Rattle.std.proofs.Common.{length, map, vec_items, sym, ap, ◌∙◌, subst, arith}
use Rattle.std.proofs.lemmas.List.{length_push}
use Rattle.margin.specs.Listing.{listed}
use Rattle.margin.specs.Meaning.{Meaning, meaning}
use Rattle.dayfile.specs.declared.file.DayFile.{DayFile}
use Rattle.dayfile.proofs.Calling.{CallsAt, calls_moved, call_own, ended_own}
use Rattle.replay.specs.Replayed.{numbered_calls, place_and_call}
use Rattle.replay.proofs.Telling.{none_told, one_told, numbered_more, all_told}
use Rattle.replay.proofs.play.play.Goals as goal

pub loop-call-init : goal.loop-call-init
loop-call-init g c =
    let m : Meaning = meaning g.S.LegScale.leg_of g.S.CombinationScale.pair_of c.args.scale.now in record {
      told = rw (c.new-calls.ensures.items, ← c.settings-settings.ensures, ← c.listing-listing.ensures)
          (none_told m c.settings-settings.result (listed c.listing-listing.result.now) c.open-book.result.tables c.open-book.ensures.opened (c.open-book.ensures.law m));
      many = c.new-calls.ensures.len;
      calls = λ bytes says. ap (map place_and_call) c.new-calls.ensures.items;
      at = subst (λ s. CallsAt c.args.file.now c.args.bytes.now 0 s) (sym c.into_iter-call-iterator.ensures.into_iter_gives) (record { rest_is = c.calls-call-items.ensures.are; within = omega arith });
    }

pub loop-call-preserved : goal.loop-call-preserved
loop-call-preserved g c =
    let m : Meaning = meaning g.S.LegScale.leg_of g.S.CombinationScale.pair_of c.args.scale.now in
    let d : DayFile = c.args.file.now in
    let bytes = c.args.bytes.now in
    let k = length c.loop-call.yielded in
    let lines = vec_items c.loop-call.calls in
    let line = c.play_call.result in
    let now = c.loop-call.book.tables in
    let after = c.play_call.new.book.tables in
    let inv = c.loop-call.invariant in
    let gives = c.in-Some.ensures.steps in
    let more = length_push c.loop-call.yielded c.in-Some.call in record {
      told = rw c.in_ok-push.ensures.items (one_told m d.settings (listed d.listing) c.open-book.result.tables lines line now after _ c.in-Some.call inv.told c.play_call.ensures.line c.play_call.ensures.law);
      many = omega (arith, c.in_ok-push.ensures.len, more, inv.many);
      calls = λ own says. rw (c.in_ok-push.ensures.items, more)
          (numbered_more m own k lines line now after _ c.in-Some.call c.play_call.ensures.line (omega (arith, c.len-place.ensures, inv.many)) (call_own d bytes k c.loop-call.call-iterator c.next.new.self inv.at own says c.in-Some.call gives) (inv.calls own says));
      at = rw more (calls_moved d bytes k c.loop-call.call-iterator c.next.new.self inv.at c.in-Some.call gives);
    }

pub returns : goal.returns
returns g c = λ own says.
    let m : Meaning = meaning g.S.LegScale.leg_of g.S.CombinationScale.pair_of c.args.scale.now in
    let d : DayFile = c.args.file.now in
    let bytes = c.args.bytes.now in
    let k = length c.loop-call.yielded in
    let inv = c.loop-call.invariant in
    record {
      opening_is = cc;
      calls_are = inv.calls own says ∙ ap (numbered_calls own) (ended_own d bytes k c.loop-call.call-iterator c.next.new.self inv.at own says c.in-None.ensures.steps);
      told = all_told m d.settings (listed d.listing) c.open-book.result.tables (vec_items c.loop-call.calls) c.loop-call.book.tables _ inv.told (cc);
    }
