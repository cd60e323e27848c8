-- A little-endian number, and the bytes of one of the machine's.
use Rattle.std.proofs.Common.{◌≡◌, ℕ, zero, suc, ◌+◌, ◌*◌, ◌^◌, ◌<◌, List, [], ◌∷◌, ◌++◌, length, get_or, drop, refl, ap, arith}
use native.Mathlib.Nat.{pow-succ'}
use Rattle.std.specs.Int.{from_le_bytes, w64}
use Rattle.std.proofs.lemmas.List.{drop_more, drop_all}
use Rattle.dayfile.specs.Bytes.{little_endian}

-- bytes that are nought behind a number leave it as it is
pub nought_behind : (bs zs : List ℕ) → little_endian zs ≡ 0 → little_endian (bs ++ zs) ≡ little_endian bs
nought_behind [] zs e = e
nought_behind (b ∷ bs) zs e = ap (λ n. b + 256 * n) (nought_behind bs zs e)

pub nought_dropped : (n : ℕ) (zs : List ℕ) → little_endian zs ≡ 0 → little_endian (drop n zs) ≡ 0
nought_dropped zero zs e = e
nought_dropped (suc n) [] e = refl
nought_dropped (suc n) (z ∷ zs) e = nought_dropped n zs (omega (arith, e))

pub bounded : (bs : List ℕ) → ((i : ℕ) → get_or bs i 0 < 256) → little_endian bs < 256 ^ length bs
bounded [] h = omega arith
bounded (b ∷ bs) h = omega (arith, h 0, bounded bs (λ i. h (suc i)), pow-succ' 256 (length bs))

byte : (bs : List ℕ) (i : ℕ) → i < length bs → little_endian (drop i bs) ≡ get_or bs i 0 + 256 * little_endian (drop (i + 1) bs)
byte bs i h = ap little_endian (drop_more bs i 0 h)

pub of_eight : (bs : List ℕ) → length bs ≡ 8 → from_le_bytes w64 bs ≡ little_endian bs
of_eight bs e = omega (arith, byte bs 0 (omega arith), byte bs 1 (omega arith), byte bs 2 (omega arith), byte bs 3 (omega arith), byte bs 4 (omega arith), byte bs 5 (omega arith), byte bs 6 (omega arith), byte bs 7 (omega arith), ap little_endian (drop_all 8 bs (omega arith)))
