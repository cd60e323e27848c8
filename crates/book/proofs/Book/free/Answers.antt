use Rattle.std.proofs.Common.{subst}
use Rattle.ledger.specs.Content.{contract_of}
use Rattle.ledger.specs.Law.{contracts_of}
use Rattle.ledger.specs.Runs.{Listed}
use Rattle.book.proofs.Book.free.Goals as goal

pub row_of-row-requires : goal.row_of-row-requires
row_of-row-requires c = record { account = c.args.working.now.account; contract = subst (λ k. Listed (contracts_of c.args.self.now.tables) (contract_of k)) c.in-BuyClose.is c.requires }

pub row_of-row-requires-in-SellClose : goal.row_of-row-requires-in-SellClose
row_of-row-requires-in-SellClose c = record { account = c.args.working.now.account; contract = subst (λ k. Listed (contracts_of c.args.self.now.tables) (contract_of k)) c.in-SellClose.is c.requires }
