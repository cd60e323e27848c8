-- What a reader hands out, and where it then is. Assumes nothing.
use Rattle.std.specs.Prelude.{◌≡◌, ℕ, ◌+◌, ◌<◌, ◌≤◌, Option, Some, None, length, take, drop}
use Rattle.dayfile.specs.declared.record.Span.{Span}
use Rattle.dayfile.specs.declared.record.Record.{Record}
use Rattle.dayfile.specs.declared.record.Reader.{Reader}

-- before the first record of a section
pub record Begins {W : ℕ} (span : Span) (r : Reader W) : Type 0 where
  pub rest : r.rest ≡ span
  pub passed : r.passed ≡ 0

pub record Next {W : ℕ} (before : Reader W) (found : Record W) (after : Reader W) : Type 0 where
  pub fits : W ≤ length before.rest.bytes.now
  pub section : found.section ≡ before.rest.section
  pub bytes : found.bytes.now ≡ take W before.rest.bytes.now
  pub place : found.place ≡ before.rest.place
  pub ordinal : found.ordinal ≡ before.passed + 1
  pub section_stays : after.rest.section ≡ before.rest.section
  pub rest : after.rest.bytes.now ≡ drop W before.rest.bytes.now
  pub place_moves : after.rest.place ≡ before.rest.place + W
  pub passed_more : after.passed ≡ before.passed + 1

-- the next record, or none where fewer bytes are left than one has
abbrev pub Gives : {W : ℕ} → Reader W → Option (Record W) → Reader W → Type 0
Gives {W = W} before None after = length before.rest.bytes.now < W
Gives before (Some found) after = Next before found after
