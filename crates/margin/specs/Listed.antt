-- What makes contracts a listing: their codes rise, and each underlying has one kind and one close. Assumes nothing.
use Rattle.std.specs.Prelude.{ℕ, Bool, true, false, not, ◌&&◌, ◌||◌, List, [], ◌∷◌, ◌++◌, ◌==◌, nat_lt}
use Rattle.margin.specs.Terms.{Terms}

-- the last code of contracts that come after the code `before`
abbrev pub last_code : ℕ → List Terms → ℕ
last_code before [] = before
last_code before (t ∷ ts) = last_code t.code ts

-- whether the code is above every one of contracts whose codes rise
abbrev pub above : List Terms → Terms → Bool
above ts t = nat_lt (last_code 0 ts) t.code

-- each code is above the one before it, the first above `before`
abbrev pub rising_from : ℕ → List Terms → Bool
rising_from before [] = true
rising_from before (t ∷ ts) = nat_lt before t.code && rising_from t.code ts

-- two contracts of one underlying, with another kind or another close of it
abbrev pub clashes : Terms → Terms → Bool
clashes a b = a.underlying == b.underlying && (not (a.kind == b.kind) || not (a.underlying_close == b.underlying_close))

-- whether one of the earlier contracts clashes with this one
abbrev pub clashes_any : List Terms → Terms → Bool
clashes_any [] b = false
clashes_any (a ∷ earlier) b = clashes a b || clashes_any earlier b

-- no contract clashes with one before it, those of `earlier` included
abbrev pub agreeing_after : List Terms → List Terms → Bool
agreeing_after earlier [] = true
agreeing_after earlier (t ∷ ts) = not (clashes_any earlier t) && agreeing_after (earlier ++ t ∷ []) ts
