use Rattle.std.proofs.Common.{◌≡◌, ℕ, ◌<◌, ◌^◌, List, [], ◌∷◌, ◌++◌, length, drop, refl, sym, ap, ◌∙◌, subst, arith, length-append, length-drop}
use Rattle.std.specs.Int.{from_le_bytes, w64}
use Rattle.dayfile.specs.Bytes.{little_endian}
use Rattle.dayfile.proofs.Little.{nought_behind, nought_dropped, bounded, of_eight}
use Rattle.dayfile.proofs.bytes.little_endian.Goals as goal

abbrev eight : List ℕ
eight = 0 ∷ 0 ∷ 0 ∷ 0 ∷ 0 ∷ 0 ∷ 0 ∷ 0 ∷ []

pub returns : goal.returns
returns c =
    let bytes = c.args.bytes.now in
    let rest = drop (length bytes) eight in
    let read : c.from_le_bytes.result ≡ from_le_bytes w64 (c.copy_from_slice.new.self ++ rest) = c.from_le_bytes.ensures in
    let full : length (c.copy_from_slice.new.self ++ rest) ≡ 8 = omega (arith, length-append c.copy_from_slice.new.self rest, length-drop (length bytes) eight, ap length c.copy_from_slice.ensures.after) in
    let is : c.from_le_bytes.result ≡ little_endian bytes = read ∙ of_eight _ full ∙ nought_behind c.copy_from_slice.new.self rest (nought_dropped (length bytes) eight refl) ∙ ap little_endian c.copy_from_slice.ensures.after in
    record { is = is; bound = subst (λ n. n < 256 ^ length bytes) (sym is) (bounded bytes (λ i. omega (arith, c.type_inv.bytes i))) }
