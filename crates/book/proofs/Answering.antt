-- What the answer to a call amounts to: its rule met, and the law kept.
use Rattle.std.proofs.Common.{◌≡◌, IsErrAnd, Ok, Err, sym, subst}
use Rattle.margin.specs.Meaning.{Meaning}
use Rattle.ledger.specs.declared.call.Call.{Call}
use Rattle.ledger.specs.declared.refusal.Refusal.{Refusal}
use Rattle.ledger.specs.declared.tables.Tables.{Tables}
use Rattle.ledger.specs.Keeps.{KeptBy}
use Rattle.ledger.specs.Runs.{ByTheRules}
use Rattle.ledger.specs.Tests.{Answer}
use Rattle.ledger.proofs.Running.{calls_keep}

module _ (m : Meaning) (b : Tables) (c : Call) where
  abbrev pub Answered : Answer → Tables → Type 0
  Answered r after = record { answer : ByTheRules m b c r after; law : KeptBy m b c r after }

  pub answered : (r : Answer) (after : Tables) → ByTheRules m b c r after → Answered r after
  answered r after a = record { answer = a; law = calls_keep m b c r after a }

  -- a refusal that a `?` passes on
  pub passed_on : (r : Answer) (e : Refusal) (after : Tables) → IsErrAnd r (λ y. y ≡ e) → ByTheRules m b c (Err e) after → Answered r after
  passed_on (Ok x) e after is a = absurd is
  passed_on (Err y) e after is a = answered (Err y) after (subst (λ z. ByTheRules m b c (Err z) after) (sym is) a)
