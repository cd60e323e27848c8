use Rattle.replay.proofs.Telling.{text_of}
use Rattle.replay.proofs.play.report_text.Goals as goal

pub returns-in-Ok : goal.returns-in-Ok
returns-in-Ok c = text_of _ _ c.text.result c.in-Ok.ensures c.text.ensures
