-- What the call lines of a report say: the calls made with their answers, and the ledger fed by them. Assumes nothing.
use Rattle.std.specs.Prelude.{◌≡◌, ℕ, ◌+◌, List, [], ◌∷◌, map, fold, Ok, Err, Result}
use Rattle.margin.specs.declared.contract.Contract.{Contract}
use Rattle.margin.specs.Meaning.{Meaning}
use Rattle.ledger.specs.declared.call.Call.{Call}
use Rattle.ledger.specs.declared.refusal.Refusal.{Refusal}
use Rattle.ledger.specs.declared.tables.Tables.{Tables}
use Rattle.ledger.specs.Ledger.{Ledger}
use Rattle.ledger.specs.Law.{margin_held, reserves}
use Rattle.ledger.specs.Runs.{Event, ByTheRules, fed}
use Rattle.ledger.specs.Tests.{Answer}
use Rattle.replay.specs.declared.report.CallLine.{CallLine}

-- the answer that a line tells
abbrev pub answer_of : Result ℕ Refusal → ℕ → Answer
answer_of (Ok number) balance = Ok (number, balance)
answer_of (Err refusal) balance = Err refusal

abbrev pub event_of : CallLine → Event
event_of x = record { made = x.call; answer = answer_of x.outcome x.balance }

abbrev pub events_of : List CallLine → List Event
events_of lines = map event_of lines

-- the line of a call made on a book, which answers by the rules and leaves these tables
pub record LineOf (m : Meaning) (b : Tables) (place : ℕ) (c : Call) (line : CallLine) (after : Tables) : Type 0 where
  pub place_is : line.place ≡ place
  pub call_is : line.call ≡ c
  pub answered : ByTheRules m b c (answer_of line.outcome line.balance) after
  pub balance_is : line.balance ≡ after.funds.balance

-- the ledger after some lines: fed with the call of each line that tells a call taken, and with nothing else
abbrev pub ledger_after : List Contract → List CallLine → Ledger → Ledger
ledger_after cs lines l = fold (λ before x. fed cs (event_of x) before) l lines

-- a balance is explained by a ledger: with the margin held and the reserves of what stands there, it comes to the cash that came in less the cash that went out
abbrev pub Explained : Meaning → List Contract → Ledger → ℕ → Type 0
Explained m cs l balance = balance + margin_held m cs l + reserves m cs l + l.went_out ≡ l.came_in

-- the balance on each line is explained by the ledger after that line
abbrev pub BalancesExplained : Meaning → List Contract → Ledger → List CallLine → Type 0
BalancesExplained m cs l [] = Unit {0}
BalancesExplained m cs l (x ∷ xs) = Explained m cs (fed cs (event_of x) l) x.balance × BalancesExplained m cs (fed cs (event_of x) l) xs
