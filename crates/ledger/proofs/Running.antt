-- Each call keeps the law, and no call changes the contracts; so the law stands over a run.
use Rattle.std.proofs.Common.{List, [], ◌∷◌, ◌++◌, Ok, Err, sym, refl, ap, subst}
use Rattle.ledger.specs.declared.call.Call.{Call}
use Rattle.ledger.specs.declared.call.Call.TheVariants as call
use Rattle.ledger.specs.declared.tables.Tables.{Tables}
use Rattle.margin.specs.Meaning.{Meaning}
use Rattle.ledger.specs.Ledger.{opening_ledger}
use Rattle.ledger.specs.Law.{contracts_of}
use Rattle.ledger.specs.Runs.{Law, Event, ByTheRules, Run, fed, LawAlong, start, onward}
use Rattle.ledger.specs.Keeps.{ContractsStay, CallsKeep, RunLaw, DayLaw}
use Rattle.ledger.proofs.Tests.{Stays}
use Rattle.ledger.proofs.Answered.{refused, same_contracts}
use Rattle.ledger.proofs.Opening.{opening_law}
use Rattle.ledger.proofs.Cash.{deposit_stays, withdraw_stays}
use Rattle.ledger.proofs.Orders.{sell_open_stays, buy_open_stays, buy_close_stays, sell_close_stays}
use Rattle.ledger.proofs.Engaging.{leg_close_stays}
use Rattle.ledger.proofs.Fills.{fill_stays, cancel_stays}
use Rattle.ledger.proofs.Combine.{combine_stays}
use Rattle.ledger.proofs.Release.{release_stays}

-- no call changes the contracts
pub contracts_stay : ContractsStay
contracts_stay m b c (Ok x) after h = same_contracts m b c x after h
contracts_stay m b c (Err e) after h = ap contracts_of (refused m b c e after h)

accepted_keeps : (m : Meaning) (b : Tables) (c : Call) → Stays m b c
accepted_keeps m b (call.Deposit amount) = deposit_stays m b amount
accepted_keeps m b (call.Withdraw amount) = withdraw_stays m b amount
accepted_keeps m b (call.SellOpen account contract lots limit) = sell_open_stays m b account contract lots limit
accepted_keeps m b (call.BuyOpen account contract lots limit) = buy_open_stays m b account contract lots limit
accepted_keeps m b (call.BuyClose account contract lots limit) = buy_close_stays m b account contract lots limit
accepted_keeps m b (call.SellClose account contract lots limit) = sell_close_stays m b account contract lots limit
accepted_keeps m b (call.LegClose combination leg lots limit) = leg_close_stays m b combination leg lots limit
accepted_keeps m b (call.Fill order lots price) = fill_stays m b order lots price
accepted_keeps m b (call.Cancel order) = cancel_stays m b order
accepted_keeps m b (call.Combine account strategy first second lots) = combine_stays m b account strategy first second lots
accepted_keeps m b (call.Release combination lots) = release_stays m b combination lots

pub calls_keep : CallsKeep
calls_keep m b c (Ok x) after h l law = accepted_keeps m b c x after h l law
calls_keep m b c (Err e) after h l law = (tt, subst (λ z. Law m l z) (sym (refused m b c e after h)) law)

-- a run, and one call more
pub run_on : (m : Meaning) (b mid after : Tables) (es : List Event) (e : Event) → Run m b es mid → ByTheRules m mid e.made e.answer after → Run m b (es ++ e ∷ []) after
run_on m b mid after [] e start step = onward step start
run_on m b mid after (d ∷ es) e (onward {after = next} first rest) step = onward first (run_on m next mid after es e rest step)

pub run_law : RunLaw
run_law m b last [] run l law = (refl, law)
run_law m b last (e ∷ es) (onward {after = after} step run) l law =
    let kept = calls_keep m b e.made e.answer after step l law in
    (refl, law, kept.0, subst (λ cs. LawAlong m cs after last es run (fed (contracts_of b) e l)) (contracts_stay m b e.made e.answer after step) (run_law m after last es run (fed (contracts_of b) e l) kept.1))

pub day_law : DayLaw
day_law m cs permitted balance first b last es file opened run =
    subst (λ z. LawAlong m z b last es run (opening_ledger balance first)) opened.contracts (run_law m b last es run (opening_ledger balance first) (opening_law m cs permitted balance first b file opened))
