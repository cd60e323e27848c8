use Rattle.std.proofs.Common.{get_or, take, sym, subst, arith}
use Rattle.std.proofs.lemmas.List.{take_more}
use Rattle.margin.specs.Meaning.{Meaning, meaning}
use Rattle.ledger.specs.declared.call.Call.TheVariants.{Deposit}
use Rattle.ledger.specs.Law.{contracts_of}
use Rattle.ledger.specs.Runs.{fed}
use Rattle.book.specs.Played.{Played}
use Rattle.book.proofs.Playing.{none_played, one_more}
use Rattle.book.proofs.Book.run.Goals as goal

pub loop-call-init : goal.loop-call-init
loop-call-init g c = (c.requires.its_scale, none_played (meaning g.S.LegScale.leg_of g.S.CombinationScale.pair_of c.args.scale.now) c.args.self.now.tables)

pub loop-call-preserved : goal.loop-call-preserved
loop-call-preserved g c =
    let m : Meaning = meaning g.S.LegScale.leg_of g.S.CombinationScale.pair_of c.args.scale.now in
    let b = c.args.self.now.tables in
    let mid = c.loop-call.self.tables in
    let after = c.apply.new.self.tables in
    let call = get_or c.args.calls.now c.loop-call.call-index (Deposit 0) in
    let kept = c.loop-call.invariant.0 in (
      (fed (contracts_of mid) (record { made = call; answer = c.apply.result }) kept.0, (c.apply.ensures.law kept.0 kept.1).1),
      subst (λ cs. Played m b cs after) (sym (take_more c.args.calls.now c.loop-call.call-index (Deposit 0) (omega arith)))
          (one_more m b (take c.loop-call.call-index c.args.calls.now) mid call c.apply.result after c.loop-call.invariant.1 c.apply.ensures.answer),
    )
