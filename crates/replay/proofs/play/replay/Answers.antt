use Rattle.dayfile.proofs.Calling.{says_with}
use Rattle.replay.proofs.Telling.{reported}
use Rattle.replay.proofs.play.replay.Goals as goal
use Rattle.replay.proofs.play.replay.Goals.{in-Standard+in_ok-play_raised-in-Standard, in-Listed+in_ok-play_raised-in-Listed}

pub returns : goal.returns
returns c =
    let bytes = c.args.bytes.now in
    let d = c.in_ok-file.file in
    elim c.match-settings.branch [
      | in-Standard+in_ok-play_raised-in-Standard w ↦ rw w.result-is (reported bytes d c.settings.result _ _ c.in_ok-file.ensures c.settings.ensures w.in-Standard.is (w.in_ok-play_raised-in-Standard.ensures bytes (says_with d bytes c.in_ok-file.ensures)))
      | in-Listed+in_ok-play_raised-in-Listed w ↦ rw w.result-is (reported bytes d c.settings.result _ _ c.in_ok-file.ensures c.settings.ensures w.in-Listed.is (w.in_ok-play_raised-in-Listed.ensures bytes (says_with d bytes c.in_ok-file.ensures)))
    ]
