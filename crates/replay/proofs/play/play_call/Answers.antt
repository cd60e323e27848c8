use Rattle.std.proofs.Common.{◌≡◌, refl, subst, rules}
use Rattle.margin.specs.Meaning.{Meaning, meaning}
use Rattle.ledger.specs.Keeps.{KeptBy}
use Rattle.ledger.specs.Runs.{ByTheRules}
use Rattle.replay.specs.Lines.{answer_of}
use Rattle.replay.proofs.Telling.{answer_told}
use Rattle.replay.proofs.play.play_call.Goals as goal

pub returns : goal.returns
returns g c =
    let m : Meaning = meaning g.S.LegScale.leg_of g.S.CombinationScale.pair_of c.args.scale.now in
    let before = c.args.book.now.tables in
    let after = c.apply.new.self.tables in
    let told : c.apply.result ≡ answer_of c.map-outcome.result c.balance.result = answer_told m before c.args.call c.apply.result c.map-outcome.result c.balance.result after c.apply.ensures.answer (search rules) c.balance.ensures in
    record {
      line = record { place_is = refl; call_is = refl; answered = subst (λ a. ByTheRules m before c.args.call a after) told c.apply.ensures.answer; balance_is = c.balance.ensures };
      law = subst (λ a. KeptBy m before c.args.call a after) told c.apply.ensures.law;
    }
