use Rattle.ledger.proofs.Running.{calls_keep}
use Rattle.std.proofs.Common.{rules}
use Rattle.margin.specs.Meaning.{Meaning, meaning}
use Rattle.ledger.specs.declared.call.Call.TheVariants.{BuyOpen}
use Rattle.book.proofs.Book.buy_open.Goals as goal

pub returns-clause-law : goal.returns-clause-law
returns-clause-law g c =
    let m : Meaning = meaning g.S.LegScale.leg_of g.S.CombinationScale.pair_of c.args.scale.now in
    calls_keep m c.args.self.now.tables (BuyOpen c.args.account c.args.contract c.args.lots c.args.limit) _ _ (search rules)
