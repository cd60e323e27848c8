use Rattle.std.proofs.Common.{◌≡◌, ◌≤◌, [], ◌∷◌, None, Ok, Option, sym, ap, ◌∙◌, subst}
use Rattle.margin.specs.Meaning.{Meaning, meaning}
use Rattle.ledger.specs.declared.call.Call.TheVariants.{Fill}
use Rattle.ledger.specs.declared.order.Order.{Order}
use Rattle.ledger.specs.declared.tables.Tables.{Tables}
use Rattle.ledger.specs.Content.{contract_of}
use Rattle.ledger.specs.FillRules.{traded, fill_tests, FillRule}
use Rattle.ledger.specs.Law.{contracts_of, position_of}
use Rattle.ledger.specs.Moves.{orders_to, order_rest}
use Rattle.ledger.specs.Runs.{Listed}
use Rattle.ledger.specs.Tests.{Answer, first_met, Standing, answers, bad_lots, bad_price}
use Rattle.book.specs.Facts.{AllSound, FundsWithin}
use Rattle.book.proofs.Answering.{answered}
use Rattle.book.proofs.Lawful.{combination_sound, order_sound, funds_within, lots_within}
use Rattle.book.proofs.Filling.{past_terms, traded_as}
use Rattle.book.proofs.Book.fill.Goals as goal

pub invariant_of-trade : goal.invariant_of-trade
invariant_of-trade g c =
    let m : Meaning = meaning g.S.LegScale.leg_of g.S.CombinationScale.pair_of c.args.scale.now in
    let k = c.requires.its_scale in
    let s = order_sound m c.args.self.now.tables k.0 k.1 c.args.order c.in-Some.entry (sym c.in-Some.ensures) in
    record { account = s.account; lots = s.lots; limit = s.limit }

pub trade-requires : goal.trade-requires
trade-requires g c =
    let m : Meaning = meaning g.S.LegScale.leg_of g.S.CombinationScale.pair_of c.args.scale.now in
    let b = c.args.self.now.tables in
    let k = c.requires.its_scale in
    let entry = c.in-Some.entry in
    let s = order_sound m b k.0 k.1 c.args.order entry (sym c.in-Some.ensures) in
    let room = lots_within m b k.0 k.1 entry.account (contract_of entry.kind) s.contract.0 s.account.0 s.account.1 s.contract.1 in
    let same = c.take_off_order.ensures in
    record {
      contract = subst (λ cs. Listed cs (contract_of entry.kind)) (sym (ap contracts_of same)) s.contract;
      funds = subst FundsWithin (sym (ap (λ (t : Tables). t.funds) same)) (funds_within m b k.0 k.1);
      combinations = subst AllSound (sym same) (combination_sound m b k.0 k.1);
      room = subst (λ (t : Tables). ((position_of t entry.account (contract_of entry.kind)).bought ≤ 10000) × ((position_of t entry.account (contract_of entry.kind)).written ≤ 10000)) (sym same) room;
    }

pub returns : goal.returns
returns g c =
    let m : Meaning = meaning g.S.LegScale.leg_of g.S.CombinationScale.pair_of c.args.scale.now in
    let b = c.args.self.now.tables in
    let lots = c.in_ok-lots.lots.number in
    let lots_good = subst (λ x. first_met (bad_lots x ∷ []) ≡ None) (sym c.in_ok-lots.ensures.is) c.in_ok-lots.ensures.tests in
    let price = c.in_ok-price.price.hao in
    let price_good = subst (λ x. first_met (bad_price x ∷ []) ≡ None) (sym c.in_ok-price.ensures.is) c.in_ok-price.ensures.tests in
    let n = c.args.order in
    let entry = c.in-Some.entry in
    let after = c.trade.new.self.tables in
    let r : Answer = Ok (0, after.funds.balance) in
    let rows = order_rest n lots entry b.orders in
    let to : Order → Tables = λ x. traded m b x x.kind lots price (orders_to (order_rest n lots x b.orders) b.order_series b) in
    let is : after ≡ to entry = c.trade.ensures ∙ ap (λ t. traded m t entry entry.kind lots price t) c.take_off_order.ensures ∙ traded_as m b lots price rows entry.kind entry in
    let tests = past_terms m b lots price entry lots_good price_good ∙ c.in_ok-check_fill.ensures in
    let P : Option Order → Type 0 = λ o. (first_met (fill_tests m b o lots price) ≡ None) × Standing o (λ x. answers 0 (to x) r after) in
    let a : FillRule m b n lots price r after = subst P c.in-Some.ensures (tests, (is, ap (λ (t : Tables). Ok (0, t.funds.balance)) is)) in
    answered m b (Fill n c.args.lots c.args.price) r after (subst (λ x. FillRule m b n c.args.lots x r after) c.in_ok-price.ensures.is (subst (λ x. FillRule m b n x price r after) c.in_ok-lots.ensures.is a))
