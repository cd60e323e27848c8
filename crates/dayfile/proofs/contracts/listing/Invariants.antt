use Rattle.std.proofs.Common.{◌≡◌, ◌+◌, List, ℕ, length, None}
use Rattle.margin.specs.Listing.{listed, listed_terms}
use Rattle.dayfile.specs.declared.fault.Section.TheVariants.{Contracts}
use Rattle.dayfile.specs.Format.{day_of, first_below, contract_fault, terms}
use Rattle.dayfile.specs.Located.{SpanOf}
use Rattle.dayfile.proofs.Handed.{At}
use Rattle.dayfile.proofs.contracts.listing.Given as goal

abbrev pub invariant-loop-found : goal.invariant-loop-found
invariant-loop-found l =
    let k = length l.yielded + 1 in record {
      sound : (bytes : List ℕ) → SpanOf bytes Contracts l.span → l.settings.day ≡ day_of bytes →
          (first_below k (contract_fault bytes) ≡ None) × (listed_terms l.listing ≡ terms bytes k);
      many : length (listed l.listing) ≡ k;
      at : At l.span k l.found-iterator;
    }
