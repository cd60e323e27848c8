use Rattle.std.proofs.Common.{sym, ap, ◌∙◌, subst}
use Rattle.ledger.specs.Law.{contracts_of}
use Rattle.ledger.specs.Runs.{Listed}
use Rattle.book.proofs.Book.trade_leg.Goals as goal

pub fitted_pair-pair-requires : goal.fitted_pair-pair-requires
fitted_pair-pair-requires g c = (c.requires.combinations c.args.number c.in-Some.combination (sym c.in-Some.ensures)).fitted

pub leg_close_reserve-reserve-requires : goal.leg_close_reserve-reserve-requires
leg_close_reserve-reserve-requires g c = (c.requires.combinations c.args.number c.in-Some.combination (sym c.in-Some.ensures)).fitted

pub row_of-first-requires : goal.row_of-first-requires
row_of-first-requires g c =
    let contracts = ap contracts_of c.take_off_combination.ensures ∙ ap contracts_of c.settle.ensures in
    let s = c.requires.combinations c.args.number c.in-Some.combination (sym c.in-Some.ensures) in
    record { account = s.account; contract = subst (λ cs. Listed cs c.in-Some.combination.first) (sym contracts) (s.fitted.first, s.fitted.first_listed) }

pub row_of-second-requires : goal.row_of-second-requires
row_of-second-requires g c =
    let contracts = ap contracts_of c.take_off_combination.ensures ∙ ap contracts_of c.settle.ensures in
    let s = c.requires.combinations c.args.number c.in-Some.combination (sym c.in-Some.ensures) in
    record { account = s.account; contract = subst (λ cs. Listed cs c.in-Some.combination.second) (sym contracts) (s.fitted.second, s.fitted.second_listed) }
