-- The records that a reader hands out, one after another.
use Rattle.std.proofs.Common.{◌≡◌, ℕ, ◌+◌, ◌-◌, ◌*◌, ◌/◌, ◌<◌, ◌≤◌, List, length, take, drop, sym, ap, ◌∙◌, subst, mul-add, arith, length-drop}
use Rattle.std.proofs.lemmas.List.{drop-drop, drop-take, take-take, take_all}
use Rattle.dayfile.specs.declared.fault.Section.{Section}
use Rattle.dayfile.specs.declared.record.Record.{Record}
use Rattle.dayfile.specs.declared.record.Reader.{Reader}
use Rattle.dayfile.specs.declared.record.Span.{Span}
use Rattle.dayfile.specs.Bytes.{part}
use Rattle.dayfile.specs.Fields.{Kept}
use Rattle.dayfile.specs.Layout.{call_number_fields}
use Rattle.dayfile.specs.Numbered.{Numbered}
use Rattle.dayfile.specs.Format.{start, extent}
use Rattle.dayfile.specs.Located.{SpanOf}
use Rattle.dayfile.specs.Reading.{Begins, Next}

-- a reader that has handed out k records of w bytes
pub record At {w : ℕ} (span : Span) (k : ℕ) (r : Reader w) : Type 0 where
  pub section_is : r.rest.section ≡ span.section
  pub rest_is : r.rest.bytes.now ≡ drop (w * k) span.bytes.now
  pub place_is : r.rest.place ≡ span.place + w * k
  pub passed_is : r.passed ≡ k
  pub within : w * k ≤ length span.bytes.now

-- the record behind those k
pub record Handed {w : ℕ} (span : Span) (k : ℕ) (found : Record w) : Type 0 where
  pub section_is : found.section ≡ span.section
  pub bytes_are : found.bytes.now ≡ part span.bytes.now (w * k) w
  pub place_is : found.place ≡ span.place + w * k
  pub ordinal_is : found.ordinal ≡ k + 1
  pub within : w * k + w ≤ length span.bytes.now

pub begun : {w : ℕ} {span : Span} {r : Reader w} → Begins span r → At span 0 r
begun {w = w} {span = span} b =
    let none : w * 0 ≡ 0 = omega arith in record {
      section_is = ap (λ (s : Span). s.section) b.rest;
      rest_is = ap (λ (s : Span). s.bytes.now) b.rest ∙ ap (λ n. drop n span.bytes.now) (sym none);
      place_is = omega (arith, ap (λ (s : Span). s.place) b.rest, none);
      passed_is = b.passed;
      within = omega (arith, none);
    }

-- what it has left
pub left : {w : ℕ} {span : Span} {k : ℕ} {r : Reader w} → At span k r → length r.rest.bytes.now + w * k ≡ length span.bytes.now
left {w = w} {span = span} {k = k} at = omega (arith, ap length at.rest_is, length-drop (w * k) span.bytes.now, at.within)

pub handed : {w : ℕ} {span : Span} {k : ℕ} {r after : Reader w} {found : Record w} → At span k r → Next r found after → Handed span k found
handed {w = w} at n = record {
  section_is = n.section ∙ at.section_is;
  bytes_are = n.bytes ∙ ap (take w) at.rest_is;
  place_is = n.place ∙ at.place_is;
  ordinal_is = n.ordinal ∙ ap (λ x. x + 1) at.passed_is;
  within = omega (arith, left at, n.fits);
}

pub moved : {w : ℕ} {span : Span} {k : ℕ} {r after : Reader w} {found : Record w} → At span k r → Next r found after → At span (k + 1) after
moved {w = w} {span = span} {k = k} at n =
    let more : w * (k + 1) ≡ w * k + w = omega (arith, mul-add w k 1) in record {
      section_is = n.section_stays ∙ at.section_is;
      rest_is = n.rest ∙ ap (drop w) at.rest_is ∙ drop-drop w (w * k) span.bytes.now ∙ ap (λ i. drop i span.bytes.now) (sym more);
      place_is = omega (arith, n.place_moves, at.place_is, more);
      passed_is = n.passed_more ∙ ap (λ x. x + 1) at.passed_is;
      within = omega (arith, left at, n.fits, more);
    }

-- a part of a part
pub part_of_part : (bytes : List ℕ) (a e i w : ℕ) → i + w ≤ e → part (part bytes a e) i w ≡ part bytes (a + i) w
part_of_part bytes a e i w h =
    let all : i + (e - i) ≡ e = omega arith in
    ap (λ n. take w (drop i (take n (drop a bytes)))) (sym all)
    ∙ ap (take w) (drop-take i (e - i) (drop a bytes))
    ∙ take-take w (e - i) (drop i (drop a bytes)) (omega arith)
    ∙ ap (take w) (drop-drop i a bytes)

-- what is said of a record by its section, bytes, ordinal and place is said of the file
pub told : {X : Type 0} (F : Section → List ℕ → ℕ → ℕ → X) {bytes : List ℕ} {s : Section} {w : ℕ} {span : Span} {k : ℕ} {found : Record w} → SpanOf bytes s span → Handed span k found →
    F found.section found.bytes.now found.ordinal found.place ≡ F s (part bytes (start bytes s + w * k) w) (k + 1) (start bytes s + w * k)
told F {bytes = bytes} {s = s} {w = w} {k = k} {found = found} of h =
    let at : found.place ≡ start bytes s + w * k = h.place_is ∙ ap (λ p. p + w * k) of.place in
    let same = h.bytes_are ∙ ap (λ b. part b (w * k) w) of.bytes_are ∙ part_of_part bytes (start bytes s) (extent bytes s) (w * k) w (omega (arith, h.within, of.long)) in
    ap (λ t. F t found.bytes.now found.ordinal found.place) (h.section_is ∙ of.section)
    ∙ ap (λ b. F s b found.ordinal found.place) same
    ∙ ap (λ n. F s (part bytes (start bytes s + w * k) w) n found.place) h.ordinal_is
    ∙ ap (λ p. F s (part bytes (start bytes s + w * k) w) (k + 1) p) at

-- the one record of a section that is as long
pub only : {X : Type 0} (F : Section → List ℕ → ℕ → ℕ → X) {w : ℕ} {span : Span} {r after : Reader w} {found : Record w} → length span.bytes.now ≡ w → Begins span r → Next r found after →
    F found.section found.bytes.now found.ordinal found.place ≡ F span.section span.bytes.now 1 span.place
only F {w = w} {span = span} {r = r} {found = found} whole b n =
    let all : take w span.bytes.now ≡ span.bytes.now = take_all w span.bytes.now (omega (arith, whole)) in
    let bytes : found.bytes.now ≡ span.bytes.now = n.bytes ∙ ap (λ (s : Span). take w s.bytes.now) b.rest ∙ all in
    let section : found.section ≡ span.section = n.section ∙ ap (λ (s : Span). s.section) b.rest in
    let first : found.ordinal ≡ 1 = omega (arith, n.ordinal, b.passed) in
    let place : found.place ≡ span.place = n.place ∙ ap (λ (s : Span). s.place) b.rest in
    cc

-- behind the first k calls the others have their numbers too
pub numbered_behind : (calls : List ℕ) (k : ℕ) → 24 * k ≤ length calls → Numbered calls → Numbered (drop (24 * k) calls)
numbered_behind calls k within numbered j less =
    let place : 24 * k + 24 * j ≡ 24 * (k + j) = omega arith in
    let below : k + j < length calls / 24 = omega (arith, less, within, length-drop (24 * k) calls) in
    let same : part calls (24 * (k + j)) 24 ≡ part (drop (24 * k) calls) (24 * j) 24 = ap (λ i. part calls i 24) (sym place) ∙ ap (take 24) (sym (drop-drop (24 * j) (24 * k) calls)) in
    subst (λ b. Kept b call_number_fields) same (numbered (k + j) below)

-- and so behind the first
pub numbered_rest : (calls : List ℕ) → 24 ≤ length calls → Numbered calls → Numbered (drop 24 calls)
numbered_rest calls long numbered = numbered_behind calls 1 long numbered
