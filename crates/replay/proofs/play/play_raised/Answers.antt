use Rattle.replay.proofs.play.play_raised.Goals as goal

pub returns : goal.returns
returns g c = rw (c.raised-scale.ensures, c.settings.ensures) at c.play.ensures
