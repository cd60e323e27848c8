-- The contracts of a listing, and how one joins it. Assumes nothing.
use Rattle.std.specs.Prelude.{◌≡◌, ℕ, ◌<◌, ◌≤◌, true, false, List, [], ◌∷◌, ◌++◌, map, length, get_or, take, Some, None, Ok, Err, Option, Result}
use Rattle.margin.specs.declared.contract.Contract.{Contract}
use Rattle.margin.specs.declared.listing.Listed.{Listed}
use Rattle.margin.specs.declared.listing.Listing.{Listing}
use Rattle.margin.specs.declared.listing.ListingFault.{ListingFault}
use Rattle.margin.specs.declared.listing.ListingFault.TheVariants.{Full, CodeOrder, UnderlyingClash}
use Rattle.margin.specs.Terms.{Terms, terms_of}
use Rattle.margin.specs.ByCode.{by_code, index}
use Rattle.margin.specs.Listed.{above, clashes_any}

abbrev pub listed : Listing → List Contract
listed l = take l.count l.contracts

abbrev pub listed_terms : Listing → List Terms
listed_terms l = map terms_of (listed l)

-- The answer where `c` is to join: the first of no room, code and underlying that stands in its way leaves the listing as it was; else it stands last.
abbrev pub Joins : Listing → Contract → Result (Unit {0}) ListingFault → Listing → Type 0
Joins l c (Err Full) after = (length (listed l) ≡ 64) × (after ≡ l)
Joins l c (Err CodeOrder) after = (length (listed l) < 64) × (above (listed_terms l) (terms_of c) ≡ false) × (after ≡ l)
Joins l c (Err UnderlyingClash) after = (length (listed l) < 64) × (above (listed_terms l) (terms_of c) ≡ true) × (clashes_any (listed_terms l) (terms_of c) ≡ true) × (after ≡ l)
Joins l c (Ok _) after =
    (length (listed l) < 64) × (above (listed_terms l) (terms_of c) ≡ true) × (clashes_any (listed_terms l) (terms_of c) ≡ false) × (listed after ≡ listed l ++ c ∷ [])

-- The answer where a code is sought: its place and its contract, or that it is not listed.
abbrev pub Finds : List Contract → ℕ → Option Listed → Type 0
Finds cs code (Some found) = (by_code cs code ≡ Some found.contract) × (found.place ≡ index cs code) × (found.place < length cs)
Finds cs code None = by_code cs code ≡ None

-- each of the first n contracts has a code below
abbrev pub BelowUpTo : List Contract → ℕ → ℕ → Type 0
BelowUpTo cs code n = (k : ℕ) (d : Contract) → k < n → (get_or cs k d).code < code

-- the first contract whose code is not below is at the place
abbrev pub FirstFrom : List Contract → ℕ → ℕ → Type 0
FirstFrom cs code i = (i < length cs) × ((d : Contract) → code ≤ (get_or cs i d).code) × BelowUpTo cs code i
