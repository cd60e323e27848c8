-- Funds and one position moved.
use Rattle.std.proofs.Common.{◌≡◌, ℕ, Bool, true, false, cond, get_or, refl, ap, ◌∙◌}
use Rattle.margin.specs.declared.strategy.Strategy.{Strategy}
use Rattle.margin.specs.Strategies.{first_written}
use Rattle.ledger.specs.declared.tables.Position.{Position}
use Rattle.ledger.specs.declared.tables.Tables.{Tables}
use Rattle.ledger.specs.Law.{position_row, none}
use Rattle.ledger.specs.Moves.{position_to, at, lock_first, locking_bought, locking_written}
use Rattle.book.specs.declared.positions.Side.{Side}
use Rattle.book.specs.Sides.{side_of, locking}

pub moved_at : (t : Tables) (a code row : ℕ) (move : Position → Position) (new : Position) → row ≡ position_row t a code → new ≡ move (get_or t.positions row none) → position_to row new t ≡ at a code move t
moved_at t a code row move new is new_is = ap (λ p. position_to row p t) new_is ∙ ap (λ r. position_to r (move (get_or t.positions r none)) t) is

locked_by : (t : Bool) (lots : ℕ) (p : Position) → locking (side_of t) lots p ≡ cond t (locking_written lots p) (locking_bought lots p)
locked_by true lots p = refl
locked_by false lots p = refl

-- the first leg of a strategy, on its side
module _ (s : Strategy) (side : Side) (is : side ≡ side_of (first_written s)) (lots : ℕ) (p : Position) where
  pub locking_first : locking side lots p ≡ lock_first s lots p
  locking_first = ap (λ x. locking x lots p) is ∙ locked_by (first_written s) lots p
