use Rattle.ledger.proofs.Running.{calls_keep}
use Rattle.std.proofs.Common.{Ok, sym, ap, ◌∙◌, subst, rules}
use Rattle.margin.specs.Meaning.{Meaning, meaning}
use Rattle.ledger.specs.declared.call.Call.TheVariants.{Release}
use Rattle.ledger.specs.Law.{contracts_of}
use Rattle.ledger.specs.Moves.{position_to}
use Rattle.ledger.specs.Runs.{Listed}
use Rattle.book.proofs.Lawful.{combination_sound}
use Rattle.book.proofs.Book.release.Goals as goal

pub fitted_pair-pair-requires : goal.fitted_pair-pair-requires
fitted_pair-pair-requires g c =
    let m : Meaning = meaning g.S.LegScale.leg_of g.S.CombinationScale.pair_of c.args.scale.now in
    let b = c.args.self.now.tables in
    let n = c.args.combination in
    let k = c.requires.its_scale in
    let entry = c.in-Some.entry in
    let s = combination_sound m b k.0 k.1 n entry (sym c.in-Some.ensures) in
    s.fitted

pub row_of-first-requires : goal.row_of-first-requires
row_of-first-requires g c =
    let m : Meaning = meaning g.S.LegScale.leg_of g.S.CombinationScale.pair_of c.args.scale.now in
    let b = c.args.self.now.tables in
    let n = c.args.combination in
    let k = c.requires.its_scale in
    let entry = c.in-Some.entry in
    let s = combination_sound m b k.0 k.1 n entry (sym c.in-Some.ensures) in
    let contracts = ap contracts_of c.take_off_combination.ensures ∙ ap contracts_of c.settle.ensures in
    record { account = s.account; contract = subst (λ cs. Listed cs entry.first) (sym contracts) (s.fitted.first, s.fitted.first_listed) }

pub row_of-second-requires : goal.row_of-second-requires
row_of-second-requires g c =
    let m : Meaning = meaning g.S.LegScale.leg_of g.S.CombinationScale.pair_of c.args.scale.now in
    let b = c.args.self.now.tables in
    let n = c.args.combination in
    let k = c.requires.its_scale in
    let entry = c.in-Some.entry in
    let s = combination_sound m b k.0 k.1 n entry (sym c.in-Some.ensures) in
    let contracts = ap contracts_of c.take_off_combination.ensures ∙ ap contracts_of c.settle.ensures in
    record { account = s.account; contract = subst (λ cs. Listed cs entry.second) (sym contracts) (s.fitted.second, s.fitted.second_listed) }

pub returns-clause-law : goal.returns-clause-law
returns-clause-law g c =
    let after = position_to c.row_of-second.result c.unlock-2.new.position (position_to c.row_of-first.result c.unlock.new.position c.take_off_combination.new.self.tables) in
    let m : Meaning = meaning g.S.LegScale.leg_of g.S.CombinationScale.pair_of c.args.scale.now in
    calls_keep m c.args.self.now.tables (Release c.args.combination c.args.lots) (Ok (0, after.funds.balance)) after (search rules)
