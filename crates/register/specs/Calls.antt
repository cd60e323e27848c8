-- What the calls on rows answer and leave.
use Rattle.std.specs.Prelude.{◌≡◌, ℕ, cond, not, List, Some, None, Ok, Err, Option, Result}
use Rattle.register.specs.declared.refusal.RegisterRefusal.{RegisterRefusal}
use Rattle.register.specs.declared.refusal.RegisterRefusal.TheVariants.{NotStanding, NoFreeRow}
use Rattle.register.specs.declared.row.Row.{Row}
use Rattle.register.specs.declared.series.Series.{Series}
use Rattle.register.specs.Numbers.{next_of, moved_on, number_refusal}
use Rattle.register.specs.Rows.{some_free, Added}

module _ {T : Type 0} where
  -- what changing and removing answer, by what a look-up finds: refused where no entry stands
  abbrev pub if_standing : Option T → Result (Unit {0}) RegisterRefusal
  if_standing None = Err NotStanding
  if_standing (Some e) = Ok tt

  -- why adding is refused: first that no row is free, then that the last number was given
  abbrev pub add_refusal : List (Row T) → Series → Option RegisterRefusal
  add_refusal rs s = cond (not (some_free rs)) (Some NoFreeRow) (number_refusal s)

  -- what adding answers and leaves: the next number, the entry in a free row and the series moved on; or refused, and all as before
  abbrev pub Adds : List (Row T) → Series → T → Result ℕ RegisterRefusal → List (Row T) → Series → Type 0
  Adds rs s e (Ok n) after moved = (add_refusal rs s ≡ None) × (n ≡ next_of s) × Added rs n e after × (moved ≡ moved_on s)
  Adds rs s e (Err why) after moved = (add_refusal rs s ≡ Some why) × (after ≡ rs) × (moved ≡ s)
