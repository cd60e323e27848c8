use Rattle.std.proofs.Common.{sym, subst}
use Rattle.ledger.specs.Law.{contracts_of}
use Rattle.ledger.specs.Runs.{Listed}
use Rattle.book.proofs.Book.trade.Goals as goal

pub row_of-row-requires-clause-contract : goal.row_of-row-requires-clause-contract
row_of-row-requires-clause-contract g c = subst (Listed (contracts_of c.args.self.now.tables)) (sym c.contract_of.ensures) c.requires.contract
