-- A list of calls made on a book, one after the other. Assumes nothing.
use Rattle.std.specs.Prelude.{◌≡◌, List, map}
use Rattle.margin.specs.Meaning.{Meaning}
use Rattle.ledger.specs.declared.call.Call.{Call}
use Rattle.ledger.specs.declared.tables.Tables.{Tables}
use Rattle.ledger.specs.Ledger.{Ledger}
use Rattle.ledger.specs.Law.{contracts_of}
use Rattle.ledger.specs.Runs.{Event, Run, Law, LawAlong}

abbrev pub calls_of : List Event → List Call
calls_of es = map (λ (e : Event). e.made) es

-- these calls and no others, each answered by the rules; and from every ledger beside the book, the law along that run, at each of its states
pub record Played (m : Meaning) (b : Tables) (calls : List Call) (last : Tables) : Type 0 where
  pub events : List Event
  pub calls_are : calls_of events ≡ calls
  pub run : Run m b events last
  pub law : (l : Ledger) → Law m l b → LawAlong m (contracts_of b) b last events run l
