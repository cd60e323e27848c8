use Rattle.ledger.proofs.Running.{run_law, day_law}
use Rattle.ledger.proofs.keeps.runs_keep.Goals as goal

pub returns : goal.returns
returns c = record { run = run_law; day = day_law }
