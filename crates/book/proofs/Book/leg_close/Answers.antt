use Rattle.std.proofs.Common.{◌≡◌, ℕ, ◌+◌, ◌*◌, Some, None, Ok, Err, Option, sym, ap, ◌∙◌, subst}
use Rattle.register.specs.Rows.{changed}
use Rattle.margin.specs.Meaning.{Meaning, meaning}
use Rattle.ledger.specs.declared.call.Call.TheVariants.{LegClose}
use Rattle.ledger.specs.declared.order.Combination.{Combination}
use Rattle.ledger.specs.declared.order.Order.{Order}
use Rattle.ledger.specs.declared.order.OrderKind.TheVariants.{LegClose as LegCloseKind}
use Rattle.ledger.specs.CombinationRules.{leg_close_tests, leg_close_per_lot, LegCloseRule}
use Rattle.ledger.specs.Moves.{combinations_to, with_lots}
use Rattle.ledger.specs.OrderRules.{enter_tests, OrderTaken}
use Rattle.ledger.specs.Refusals.{number_of}
use Rattle.ledger.specs.Tests.{ByTests, first_met, Standing}
use Rattle.book.proofs.Answering.{answered, passed_on}
use Rattle.book.proofs.Engaging.{past_leg, reserve_is, changed_after}
use Rattle.book.proofs.Lawful.{combination_sound}
use Rattle.book.proofs.Book.leg_close.Goals as goal

pub leg_close_reserve-per_lot-requires : goal.leg_close_reserve-per_lot-requires
leg_close_reserve-per_lot-requires g c =
    let m : Meaning = meaning g.S.LegScale.leg_of g.S.CombinationScale.pair_of c.args.scale.now in
    let k = c.requires.its_scale in
    (combination_sound m c.args.self.now.tables k.0 k.1 c.args.combination c.in-Some.entry (sym c.in-Some.ensures)).fitted

pub returns-in_err-answer : goal.returns-in_err-answer
returns-in_err-answer g c =
    let m : Meaning = meaning g.S.LegScale.leg_of g.S.CombinationScale.pair_of c.args.scale.now in
    let b = c.args.self.now.tables in
    let n = c.args.combination in
    let code = c.args.leg in
    let lots = c.args.lots in
    let limit = c.args.limit in
    let entry = c.in-Some.entry in
    let are = c.in_ok-terms.ensures.are in
    let terms = c.in_ok-terms.terms in
    let amount_is = reserve_is m b code lots limit entry terms.lots.number are.0 terms.limit.hao c.leg_close_reserve-per_lot.result c.times-reserve.result are.1 c.leg_close_reserve-per_lot.ensures.is c.times-reserve.ensures.is in
    let met = c.in_err-answer.ensures in
    let e = c.in_err-answer.field-0.0 in
    let a : LegCloseRule m b n code lots limit (Err e) c.enter.new.self.tables = (subst (λ o. first_met (leg_close_tests m b o code lots limit) ≡ Some (number_of e)) c.in-Some.ensures (past_leg m b code lots limit entry terms.lots.number are.0 c.in_ok-terms.ensures.tests c.in_ok-check_leg.ensures ∙ ap (λ x. first_met (enter_tests b x)) (sym amount_is) ∙ met.0), met.1) in
    passed_on m b (LegClose n code lots limit) c.from_residual-in_err-answer.result e c.enter.new.self.tables c.from_residual-in_err-answer.ensures.1 a

pub returns : goal.returns
returns g c =
    let m : Meaning = meaning g.S.LegScale.leg_of g.S.CombinationScale.pair_of c.args.scale.now in
    let b = c.args.self.now.tables in
    let n = c.args.combination in
    let code = c.args.leg in
    let lots = c.args.lots in
    let limit = c.args.limit in
    let entry = c.in-Some.entry in
    let are = c.in_ok-terms.ensures.are in
    let terms = c.in_ok-terms.terms in
    let amount_is = reserve_is m b code lots limit entry terms.lots.number are.0 terms.limit.hao c.leg_close_reserve-per_lot.result c.times-reserve.result are.1 c.leg_close_reserve-per_lot.ensures.is c.times-reserve.ensures.is in
    let amount : ℕ = lots * leg_close_per_lot m b entry code limit in
    let t = c.enter.new.self.tables in
    let x = c.in_ok-answer.answer in
    let order : Combination → Order = λ k. record { account = k.account; kind = LegCloseKind n code; lots = lots; limit = limit } in
    let engaged : Combination → Combination = λ k. with_lots k.lots (k.engaged + lots) k in
    let after = combinations_to c.change.new.rows t.combination_series t in
    let taken : ByTests (enter_tests b amount) b (Ok x) t (OrderTaken (order entry) amount b) = subst (λ y. ByTests (enter_tests b y) b (Ok x) t (OrderTaken (order entry) y b)) amount_is c.in_ok-answer.ensures in
    let moved = changed_after b t n (engaged entry) c.change.new.rows (order entry) amount x (c.change.ensures.leaves ∙ ap (changed t.combinations n) c.engage-engaged.ensures) taken.1 in
    let tests = past_leg m b code lots limit entry terms.lots.number are.0 c.in_ok-terms.ensures.tests c.in_ok-check_leg.ensures ∙ taken.0 in
    let P : Option Combination → Type 0 = λ o. (first_met (leg_close_tests m b o code lots limit) ≡ None) × Standing o (λ k. OrderTaken (order k) (lots * leg_close_per_lot m b k code limit) (combinations_to (changed b.combinations n (engaged k)) b.combination_series b) (Ok x) after) in
    let a : LegCloseRule m b n code lots limit (Ok x) after = subst P c.in-Some.ensures (tests, moved) in
    answered m b (LegClose n code lots limit) (Ok x) after a
