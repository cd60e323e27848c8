use Rattle.ledger.proofs.Running.{calls_keep}
use Rattle.std.proofs.Common.{◌+◌, Ok, rules}
use Rattle.margin.specs.Meaning.{Meaning, meaning}
use Rattle.ledger.specs.declared.call.Call.TheVariants.{Deposit}
use Rattle.ledger.specs.CashRules.{deposited}
use Rattle.book.proofs.Book.deposit.Goals as goal

pub returns-clause-law : goal.returns-clause-law
returns-clause-law g c =
    let m : Meaning = meaning g.S.LegScale.leg_of g.S.CombinationScale.pair_of c.args.scale.now in
    calls_keep m c.args.self.now.tables (Deposit c.args.amount) (Ok (0, c.args.self.now.tables.funds.balance + c.args.amount)) (deposited c.args.amount c.args.self.now.tables) (search rules)
