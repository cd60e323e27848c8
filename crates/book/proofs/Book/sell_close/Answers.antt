use Rattle.ledger.specs.Moves.{position_to}
use Rattle.ledger.proofs.Running.{calls_keep}
use Rattle.std.proofs.Common.{Ok, ap, rules}
use Rattle.margin.specs.Meaning.{Meaning, meaning}
use Rattle.ledger.specs.declared.call.Call.TheVariants.{SellClose}
use Rattle.ledger.specs.declared.tables.Tables.{Tables}
use Rattle.book.proofs.Ordering.{lockable, row_is}
use Rattle.book.proofs.Book.sell_close.Goals as goal

pub lock-requires : goal.lock-requires
lock-requires g c =
    let b = c.args.self.now.tables in
    let m : Meaning = meaning g.S.LegScale.leg_of g.S.CombinationScale.pair_of c.args.scale.now in
    let h = c.in_ok-terms.ensures in
    let listed = c.in_ok-terms.terms.listed in
    let row = c.position_row-row.result in
    let same = ap (λ (t : Tables). t.positions) c.in_ok-answer.ensures.1.1.1.0 in
    let few = lockable m b c.requires.its_scale c.args.account c.args.contract h.account.0 h.account.1 listed.contract h.found.contract c.enter.new.self.tables same row (row_is b c.args.contract listed h.found c.args.account row c.position_row-row.ensures.is) in
    few.bought

pub returns-clause-law : goal.returns-clause-law
returns-clause-law g c =
    let m : Meaning = meaning g.S.LegScale.leg_of g.S.CombinationScale.pair_of c.args.scale.now in
    calls_keep m c.args.self.now.tables (SellClose c.args.account c.args.contract c.args.lots c.args.limit) (Ok c.in_ok-answer.answer) (position_to c.position_row-row.result c.lock.new.position c.enter.new.self.tables) (search rules)
