-- The tests of the rules, where none is met; and what is shown of each call.
use Rattle.std.proofs.Common.{◌≡◌, ℕ, ◌≤◌, Bool, true, false, List, [], ◌∷◌, ◌++◌, Some, None, Ok, Option, sym, refl, subst, arith}
use Rattle.std.proofs.lemmas.Bool.Decides.{nat_tests}
use Rattle.ledger.specs.declared.call.Call.{Call}
use Rattle.ledger.specs.declared.tables.Tables.{Tables}
use Rattle.margin.specs.Meaning.{Meaning}
use Rattle.ledger.specs.Runs.{ByTheRules}
use Rattle.ledger.specs.Keeps.{KeptBy}
use Rattle.ledger.specs.Tests.{first_met, outside, is_none, Standing, meets}

-- no test is met, one by one
abbrev pub Unmet : List (ℕ × Bool) → Type 0
Unmet [] = Unit {0}
Unmet (x ∷ xs) = (x.1 ≡ false) × Unmet xs

pub unmet : (tests : List (ℕ × Bool)) → first_met tests ≡ None → Unmet tests
unmet [] p = tt
unmet (x ∷ xs) p = (grind arith, unmet xs (grind arith))

pub all_unmet : (tests : List (ℕ × Bool)) → Unmet tests → first_met tests ≡ None
all_unmet [] u = refl
all_unmet (x ∷ xs) u = let rest = all_unmet xs u.1 in let here : x.1 ≡ false = u.0 in grind arith

-- tests in two parts: the first that is met stands in the first part, or in the second where none of the first is met
pub met_front : (xs ys : List (ℕ × Bool)) (n : ℕ) → first_met xs ≡ Some n → first_met (xs ++ ys) ≡ Some n
met_front [] ys n e = absurd cc
met_front (x ∷ xs) ys n e = let rest = met_front xs ys n in grind arith

pub met_back : (xs ys : List (ℕ × Bool)) → first_met xs ≡ None → first_met (xs ++ ys) ≡ first_met ys
met_back [] ys e = refl
met_back (x ∷ xs) ys e = let rest = met_back xs ys in grind arith

-- what is shown of each call: accepted, the ledger can take it, and keeps the law with it
abbrev pub Stays : Meaning → Tables → Call → Type 0
Stays m b c = (x : ℕ × ℕ) (after : Tables) → ByTheRules m b c (Ok x) after → KeptBy m b c (Ok x) after

pub within : (low high x : ℕ) → outside low high x ≡ false → (low ≤ x) × (x ≤ high)
within low high x p = grind (arith, nat_tests)

pub inside : (low high x : ℕ) → low ≤ x → x ≤ high → outside low high x ≡ false
inside low high x l h = grind (arith, nat_tests)

pub some_of : {T : Type 0} (o : Option T) → is_none o ≡ false → (x : T) × (o ≡ Some x)
some_of None p = absurd cc
some_of (Some x) p = (x, refl)

pub met_of : {T : Type 0} (o : Option T) (test : T → Bool) → meets o test ≡ true → (x : T) × ((o ≡ Some x) × (test x ≡ true))
met_of None test p = absurd cc
met_of (Some x) test p = (x, (refl, p))

-- a statement and a test of what stands, where that is known
pub standing_at : {T : Type 0} {o : Option T} {x : T} (P : T → Type 0) → o ≡ Some x → P x → Standing o P
standing_at P e h = subst (λ y. Standing y P) (sym e) h

pub stands_as : {T : Type 0} {o : Option T} {x : T} (P : T → Type 0) → o ≡ Some x → Standing o P → P x
stands_as P e h = subst (λ y. Standing y P) e h

pub unmet_at : {T : Type 0} {o : Option T} {x : T} (test : T → Bool) → o ≡ Some x → meets o test ≡ false → test x ≡ false
unmet_at test e h = subst (λ y. meets y test ≡ false) e h
