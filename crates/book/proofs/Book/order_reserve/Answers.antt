use Rattle.std.proofs.Common.{sym, ◌∙◌}
use Rattle.book.proofs.Book.order_reserve.Goals as goal

pub leg_close_reserve-requires : goal.leg_close_reserve-requires
leg_close_reserve-requires g c = c.requires c.in-LegClose.combination c.in-Some.combination (sym c.find.ensures ∙ c.in-Some.is)
