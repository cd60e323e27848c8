use Rattle.std.proofs.lemmas.Result.{on_ok_weaker}
use Rattle.replay.proofs.Writing.{day_is_text}
use Rattle.replay.proofs.play.write_report.Goals as goal

pub returns-in-Standard : goal.returns-in-Standard
returns-in-Standard g c = on_ok_weaker c.write_raised.result (day_is_text c.args.bytes.now c.in-Ok.file c.settings.result _ (g.W.Write.contents c.args.out.now) (g.W.Write.contents c.write_raised.new.out) c.in-Ok.ensures c.settings.ensures c.in-Standard.is) c.write_raised.ensures

pub returns-in-Listed : goal.returns-in-Listed
returns-in-Listed g c = on_ok_weaker c.write_raised-in-Listed.result (day_is_text c.args.bytes.now c.in-Ok.file c.settings.result _ (g.W.Write.contents c.args.out.now) (g.W.Write.contents c.write_raised-in-Listed.new.out) c.in-Ok.ensures c.settings.ensures c.in-Listed.is) c.write_raised-in-Listed.ensures
