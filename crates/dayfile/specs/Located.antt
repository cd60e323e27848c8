-- Where the sections of a file stand, and how long they are. Assumes nothing.
use Rattle.std.specs.Prelude.{◌≡◌, ℕ, ◌≤◌, List, length, Some, None, Ok, Err, Result}
use Rattle.margin.specs.declared.listing.Listing.{Listing}
use Rattle.margin.specs.Listing.{listed_terms}
use Rattle.dayfile.specs.declared.fault.SectionFault.{SectionFault}
use Rattle.dayfile.specs.declared.fault.Section.{Section}
use Rattle.dayfile.specs.declared.fault.Section.TheVariants.{Settings, Contracts, Calls}
use Rattle.dayfile.specs.declared.record.Span.{Span}
use Rattle.dayfile.specs.declared.sections.Sections.{Sections}
use Rattle.dayfile.specs.Faults.{section_told}
use Rattle.dayfile.specs.Format.{start, extent, section_part, first_below, count_of_contracts, contract_fault, terms}

-- a section of the file, at its place
pub record SpanOf (bytes : List ℕ) (s : Section) (span : Span) : Type 0 where
  pub section : span.section ≡ s
  pub bytes_are : span.bytes.now ≡ section_part bytes s
  pub long : length span.bytes.now ≡ extent bytes s
  pub place : span.place ≡ start bytes s

pub record Located (bytes : List ℕ) (s : Sections) : Type 0 where
  pub settings : SpanOf bytes Settings s.settings
  pub contracts : SpanOf bytes Contracts s.contracts
  pub calls : SpanOf bytes Calls s.calls
  pub settings_whole : length s.settings.bytes.now ≡ 20
  pub contracts_some : 32 ≤ length s.contracts.bytes.now
  pub contracts_few : length s.contracts.bytes.now ≤ 2048

-- the listing of the file's contracts, or the first fault among them
abbrev pub ListedFrom : List ℕ → Result Listing SectionFault → Type 0
ListedFrom bytes (Ok l) = (first_below (count_of_contracts bytes) (contract_fault bytes) ≡ None) × (listed_terms l ≡ terms bytes (count_of_contracts bytes))
ListedFrom bytes (Err e) = first_below (count_of_contracts bytes) (contract_fault bytes) ≡ Some (section_told e)
