-- The sides of a position. Assumes nothing.
use Rattle.std.specs.Prelude.{ℕ, ◌-◌, Bool, true, false}
use Rattle.ledger.specs.declared.order.Order.{Order}
use Rattle.ledger.specs.declared.tables.Position.{Position}
use Rattle.ledger.specs.Moves.{buying, writing, closing_bought, closing_written, locking_bought, locking_written, unlocking_bought, unlocking_written}
use Rattle.ledger.specs.OrderRules.{opens_written, opens_bought}
use Rattle.book.specs.declared.positions.Side.{Side}
use Rattle.book.specs.declared.positions.Side.TheVariants.{Bought, Written}

-- the lots that an order opens on a side of an account and a contract
abbrev pub opens : Side → ℕ → ℕ → Order → ℕ
opens Bought a c o = opens_bought a c o o.kind
opens Written a c o = opens_written a c o o.kind

-- the lots of a position on a side, those of them that are locked, and those that are not
abbrev pub owned_on : Side → Position → ℕ
owned_on Bought p = p.bought
owned_on Written p = p.written

abbrev pub locked_on : Side → Position → ℕ
locked_on Bought p = p.locked_bought
locked_on Written p = p.locked_written

abbrev pub free_on : Side → Position → ℕ
free_on side p = owned_on side p - locked_on side p

-- the side of a leg, by whether it is written
abbrev pub side_of : Bool → Side
side_of true = Written
side_of false = Bought

-- a position with lots moved on a side
abbrev pub adding : Side → ℕ → Position → Position
adding Bought lots p = buying lots p
adding Written lots p = writing lots p

abbrev pub closing : Side → ℕ → Position → Position
closing Bought lots p = closing_bought lots p
closing Written lots p = closing_written lots p

abbrev pub locking : Side → ℕ → Position → Position
locking Bought lots p = locking_bought lots p
locking Written lots p = locking_written lots p

abbrev pub unlocking : Side → ℕ → Position → Position
unlocking Bought lots p = unlocking_bought lots p
unlocking Written lots p = unlocking_written lots p
