use Rattle.ledger.proofs.Running.{calls_keep}
use Rattle.std.proofs.Common.{get_or, Ok, Err, sym, refl, ap, ◌∙◌, subst, arith, rules}
use Rattle.margin.specs.Meaning.{Meaning, meaning}
use Rattle.margin.specs.Strategies.{strategy_of}
use Rattle.ledger.specs.declared.call.Call.TheVariants.{Combine}
use Rattle.ledger.specs.declared.tables.Tables.{Tables}
use Rattle.ledger.specs.CombinationRules.{CombineRule}
use Rattle.ledger.specs.Law.{position_row, none}
use Rattle.ledger.specs.Moves.{at, position_to, lock_first}
use Rattle.ledger.specs.Refusals.{number_of}
use Rattle.book.proofs.Answering.{passed_on}
use Rattle.book.proofs.Moving.{moved_at, locking_first}
use Rattle.book.proofs.Combining.{no_pair, second_few}
use Rattle.book.proofs.Ordering.{lockable}
use Rattle.book.proofs.Lawful.{FewLocked, few_on}
use Rattle.book.proofs.Book.combine.Goals as goal

pub returns-in_err-legs : goal.returns-in_err-legs
returns-in_err-legs g c =
    let m : Meaning = meaning g.S.LegScale.leg_of g.S.CombinationScale.pair_of c.args.scale.now in
    let b = c.args.self.now.tables in
    let a = c.args.account in
    let first = c.args.first in
    let second = c.args.second in
    let lots = c.args.lots in
    let e = c.in_err-legs.field-0.0 in
    let is : CombineRule m b a c.args.strategy first second lots (Err e) b = (no_pair m b a first second lots (strategy_of c.args.strategy) (number_of e) c.in_err-legs.ensures.tests, refl) in
    passed_on m b (Combine a c.args.strategy first second lots) c.from_residual.result e b c.from_residual.ensures.1 is

pub lock-requires : goal.lock-requires
lock-requires g c =
    let m : Meaning = meaning g.S.LegScale.leg_of g.S.CombinationScale.pair_of c.args.scale.now in
    let legs = c.in_ok-legs.legs in
    let h = c.in_ok-legs.ensures in
    let same = ap (λ (t : Tables). t.positions) c.in_ok-answer.ensures.1.1.1.0 in
    few_on c.first_side.result (lockable m c.args.self.now.tables c.requires.its_scale c.args.account c.args.first h.account.0 h.account.1 legs.pair.first h.named.first c.enter_combination.new.self.tables same legs.first h.rows.0)

pub lock-requires-2 : goal.lock-requires-2
lock-requires-2 g c =
    let m : Meaning = meaning g.S.LegScale.leg_of g.S.CombinationScale.pair_of c.args.scale.now in
    let b = c.args.self.now.tables in
    let a = c.args.account in
    let first = c.args.first in
    let second = c.args.second in
    let lots = c.args.lots in
    let k = c.requires.its_scale in
    let legs = c.in_ok-legs.legs in
    let named = c.in_ok-legs.ensures.named in
    let rows = c.in_ok-legs.ensures.rows in
    let account = c.in_ok-legs.ensures.account in
    let lots_are = c.in_ok-legs.ensures.lots in
    let t = c.enter_combination.new.self.tables in
    let entered = c.in_ok-answer.ensures.1.1.1.0 in
    let s = legs.pair.strategy in
    let one = moved_at t a first legs.first (lock_first s lots) c.lock.new.position (rows.0 ∙ ap (λ z. position_row z a first) (sym entered)) (c.lock.ensures ∙ locking_first s c.first_side.result c.first_side.ensures legs.lots.number _ ∙ ap (λ n. lock_first s n (get_or t.positions legs.first none)) c.in_ok-legs.ensures.lots) in
    let is = one ∙ ap (at a first (lock_first s lots)) entered in
    let few = second_few m b k.0 k.1 a account.0 account.1 s lots first second legs.pair.first legs.pair.second (omega (arith, legs.lots.most, lots_are)) named.first named.second in
    let here = subst (λ (z : Tables). FewLocked (get_or z.positions legs.second none) 11000) (sym is) (subst (λ r. FewLocked (get_or (at a first (lock_first s lots) b).positions r none) 11000) (sym rows.2) few) in
    here.written

pub returns-clause-law : goal.returns-clause-law
returns-clause-law g c =
    let m : Meaning = meaning g.S.LegScale.leg_of g.S.CombinationScale.pair_of c.args.scale.now in
    calls_keep m c.args.self.now.tables (Combine c.args.account c.args.strategy c.args.first c.args.second c.args.lots) (Ok c.in_ok-answer.answer) (position_to c.in_ok-legs.legs.second c.lock-2.new.position (position_to c.in_ok-legs.legs.first c.lock.new.position c.enter_combination.new.self.tables)) (search rules)
