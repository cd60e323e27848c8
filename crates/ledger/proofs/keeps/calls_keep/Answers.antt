use Rattle.ledger.proofs.Running.{calls_keep, contracts_stay}
use Rattle.ledger.proofs.Covered.{fill_never_short}
use Rattle.ledger.proofs.Answered.{balance_answered}
use Rattle.ledger.proofs.keeps.calls_keep.Goals as goal

pub returns : goal.returns
returns c = record { law = calls_keep; contracts = contracts_stay; balance = balance_answered; fill = fill_never_short }
