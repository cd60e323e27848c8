-- The row of an order's position, and what locking there rests on.
use Rattle.std.proofs.Common.{◌≡◌, ℕ, ◌≤◌, get_or, Some, sym, ap, ◌∙◌, subst}
use Rattle.margin.specs.declared.contract.Contract.{Contract}
use Rattle.margin.specs.declared.listing.Listed.{Listed}
use Rattle.margin.specs.ByCode.{by_code}
use Rattle.margin.specs.Meaning.{Meaning}
use Rattle.ledger.specs.declared.tables.Tables.{Tables}
use Rattle.ledger.specs.Law.{contracts_of, position_row, place, none}
use Rattle.ledger.specs.Runs.{Kept}
use Rattle.book.specs.Checks.{Found}
use Rattle.book.proofs.Lawful.{FewLocked, still_few, locked_few}

pub row_is : (b : Tables) (code : ℕ) (f : Listed) → Found (contracts_of b) code f → (a row : ℕ) → row ≡ place a f.place → row ≡ position_row b a code
row_is b code f found a row is = is ∙ ap (place a) found.place

-- few lots are locked there, once an order or a combination is entered
pub lockable : (m : Meaning) (b : Tables) (k : Kept m b) (a code : ℕ) → 1 ≤ a → a ≤ 8 → (c : Contract) → by_code (contracts_of b) code ≡ Some c → (t : Tables) → t.positions ≡ b.positions →
    (row : ℕ) → row ≡ position_row b a code → FewLocked (get_or t.positions row none) 11000
lockable m b k a code low high c listed t same row is =
    subst (λ ps. FewLocked (get_or ps row none) 11000) (sym same) (subst (λ i. FewLocked (get_or b.positions i none) 11000) (sym is) (still_few (locked_few m b k.0 k.1 a low high code c listed)))
