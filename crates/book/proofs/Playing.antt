-- Calls played one after the other.
use Rattle.std.proofs.Common.{◌≡◌, List, [], ◌∷◌, ◌++◌, refl, ap, ◌∙◌}
use Rattle.margin.specs.Meaning.{Meaning}
use Rattle.ledger.specs.declared.call.Call.{Call}
use Rattle.ledger.specs.declared.tables.Tables.{Tables}
use Rattle.ledger.specs.Runs.{Event, ByTheRules}
use Rattle.ledger.specs.Runs.Run.{start}
use Rattle.ledger.specs.Tests.{Answer}
use Rattle.ledger.proofs.Running.{run_on, run_law}
use Rattle.book.specs.Played.{calls_of, Played}

calls_on : (es : List Event) (e : Event) → calls_of (es ++ e ∷ []) ≡ calls_of es ++ e.made ∷ []
calls_on [] e = refl
calls_on (d ∷ es) e = ap (λ cs. d.made ∷ cs) (calls_on es e)

module _ (m : Meaning) (b : Tables) where
  pub none_played : Played m b [] b
  none_played = record { events = []; calls_are = refl; run = start; law = run_law m b b [] start }

  pub one_more : (calls : List Call) (mid : Tables) (c : Call) (r : Answer) (after : Tables) → Played m b calls mid → ByTheRules m mid c r after → Played m b (calls ++ c ∷ []) after
  one_more calls mid c r after p step =
      let e : Event = record { made = c; answer = r } in
      let run = run_on m b mid after p.events e p.run step in
      record { events = p.events ++ e ∷ []; calls_are = calls_on p.events e ∙ ap (λ cs. cs ++ c ∷ []) p.calls_are; run = run; law = run_law m b after (p.events ++ e ∷ []) run }
