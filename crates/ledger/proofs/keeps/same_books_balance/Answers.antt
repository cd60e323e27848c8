use Rattle.ledger.proofs.Books.{same_books_balance}
use Rattle.ledger.proofs.keeps.same_books_balance.Goals as goal

pub returns : goal.returns
returns c = same_books_balance
