use Rattle.ledger.proofs.Opening.{opening_law}
use Rattle.ledger.proofs.keeps.opening_keeps.Goals as goal

pub returns : goal.returns
returns c = opening_law
