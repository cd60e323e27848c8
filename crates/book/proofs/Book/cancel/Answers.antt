use Rattle.ledger.proofs.Running.{calls_keep}
use Rattle.std.proofs.Common.{Ok, sym, rules}
use Rattle.margin.specs.Meaning.{Meaning, meaning}
use Rattle.ledger.specs.declared.call.Call.TheVariants.{Cancel}
use Rattle.book.proofs.Lawful.{all_fitted, order_sound}
use Rattle.book.proofs.Book.cancel.Goals as goal

pub order_reserve-reserve-requires : goal.order_reserve-reserve-requires
order_reserve-reserve-requires g c =
    let m : Meaning = meaning g.S.LegScale.leg_of g.S.CombinationScale.pair_of c.args.scale.now in
    let b = c.args.self.now.tables in
    let k = c.requires.its_scale in
    all_fitted m b k.0 k.1

pub free-requires : goal.free-requires
free-requires g c =
    let m : Meaning = meaning g.S.LegScale.leg_of g.S.CombinationScale.pair_of c.args.scale.now in
    let b = c.args.self.now.tables in
    let k = c.requires.its_scale in
    let s = order_sound m b k.0 k.1 c.args.order c.in-Some.entry (sym c.in-Some.ensures) in
    s.contract

pub returns-clause-law : goal.returns-clause-law
returns-clause-law g c =
    let m : Meaning = meaning g.S.LegScale.leg_of g.S.CombinationScale.pair_of c.args.scale.now in
    calls_keep m c.args.self.now.tables (Cancel c.args.order) (Ok (0, c.settle.new.self.tables.funds.balance)) c.settle.new.self.tables (search rules)
