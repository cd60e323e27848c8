-- The contracts of a file, listed one after another.
use Rattle.std.proofs.Common.{◌≡◌, ℕ, ◌+◌, true, false, not, List, [], ◌∷◌, ◌++◌, length, None, sym, ap, ◌∙◌, add-one}
use Rattle.std.proofs.lemmas.List.{length_push, length-map}
use Rattle.margin.specs.declared.listing.Listing.{Listing}
use Rattle.margin.specs.Terms.{Terms, terms_of}
use Rattle.margin.specs.Listed.{above, clashes_any}
use Rattle.margin.specs.Listing.{listed, listed_terms}
use Rattle.dayfile.specs.declared.fault.Section.TheVariants.{Contracts}
use Rattle.dayfile.specs.declared.record.Record.{Record}
use Rattle.dayfile.specs.declared.record.Span.{Span}
use Rattle.dayfile.specs.Faults.{first, section_number}
use Rattle.dayfile.specs.Fields.{fields_fault}
use Rattle.dayfile.specs.Layout.{contract_fields}
use Rattle.dayfile.specs.Records.{terms_in}
use Rattle.dayfile.specs.Format.{day_of, terms, faulty, listing_fault, contract_fault}
use Rattle.dayfile.specs.Located.{SpanOf}
use Rattle.dayfile.proofs.Handed.{Handed, told}

-- one contract more
pub one_more : (l m : Listing) (t : Terms) → listed_terms m ≡ listed_terms l ++ t ∷ [] → length (listed m) ≡ length (listed l) + 1
one_more l m t e = sym (length-map (listed m) terms_of) ∙ ap length e ∙ length_push (listed_terms l) t ∙ ap (λ n. n + 1) (length-map (listed l) terms_of)

-- a contract above the others that clashes with none of them has no fault
pub lists : (earlier : List Terms) (t : Terms) (section ordinal place : ℕ) → above earlier t ≡ true → clashes_any earlier t ≡ false → listing_fault earlier t section ordinal place ≡ None
lists earlier t section ordinal place a b =
    ap (λ x. first (faulty (not x) 5 section ordinal (place + 0)) (faulty (clashes_any earlier t) 6 section ordinal (place + 4))) a ∙ ap (λ x. faulty x 6 section ordinal (place + 4)) b

module _ (bytes : List ℕ) (span : Span) (of : SpanOf bytes Contracts span) (k : ℕ) (found : Record 32) (listing : List Terms) (are : listing ≡ terms bytes k) (h : Handed span k found) where
  -- the fault of the record at k, where the contracts before it are listed
  pub record_fault : (day : ℕ) → day ≡ day_of bytes →
      first (fields_fault found.bytes.now (section_number found.section) found.ordinal found.place (contract_fields day)) (listing_fault listing (terms_in found.bytes.now) (section_number found.section) found.ordinal found.place) ≡ contract_fault bytes k
  record_fault day is =
      ap (λ d. first (fields_fault found.bytes.now (section_number found.section) found.ordinal found.place (contract_fields d)) (listing_fault listing (terms_in found.bytes.now) (section_number found.section) found.ordinal found.place)) is
      ∙ ap (λ l. first (fields_fault found.bytes.now (section_number found.section) found.ordinal found.place (contract_fields (day_of bytes))) (listing_fault l (terms_in found.bytes.now) (section_number found.section) found.ordinal found.place)) are
      ∙ told (λ s b n p. first (fields_fault b (section_number s) n p (contract_fields (day_of bytes))) (listing_fault (terms bytes k) (terms_in b) (section_number s) n p)) of h

  -- that contract listed behind them
  pub listed_more : (after : List Terms) → after ≡ listing ++ terms_in found.bytes.now ∷ [] → after ≡ terms bytes (k + 1)
  listed_more after e = e ∙ ap (λ l. l ++ terms_in found.bytes.now ∷ []) are ∙ told (λ s b n p. terms bytes k ++ terms_in b ∷ []) of h ∙ ap (terms bytes) (sym (add-one k))
