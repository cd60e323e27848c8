-- A sum over accounts and contracts, where it changes at one account and code.
use Rattle.std.proofs.Common.{◌≡◌, ℕ, ◌+◌, ◌*◌, ◌<◌, ◌≤◌, cond, ◌&&◌, eqb, List, [], ◌∷◌, Some, sum_by, sym, refl, ap, ◌∙◌, ⊎_elim, arith}
use Rattle.std.proofs.lemmas.List.Sums.{sum_by-cons, sum_by-le-sum_by}
use Rattle.margin.specs.ByCode.{by_code}
use Rattle.margin.specs.declared.contract.Contract.{Contract}
use Rattle.ledger.specs.Law.{accounts}
use Rattle.ledger.specs.Runs.{Rising}
use Rattle.ledger.proofs.Codes.{listed_parts, listed_code, at_one, one_here, one_else}

abbrev line : (Contract → ℕ) → List Contract → ℕ
line f cs = sum_by f cs

line_same : (cs : List Contract) (f g : Contract → ℕ) → ((d : Contract) → f d ≡ g d) → line f cs ≡ line g cs
line_same cs f g h = omega (arith, sum_by-le-sum_by f g cs (λ d. omega (arith, h d)), sum_by-le-sum_by g f cs (λ d. omega (arith, h d)))

line_above : (cs : List Contract) (low : ℕ) (f g : Contract → ℕ) → Rising low cs → ((d : Contract) → low < d.code → f d ≡ g d) → line f cs ≡ line g cs
line_above [] low f g r h = refl
line_above (d ∷ cs) low f g r h =
    let lt : low < d.code = r.0 in let here = h d lt in let rest = line_above cs d.code f g r.1 (λ x w. h x (omega arith)) in grind (arith, sum_by-cons)

line_one : (cs : List Contract) (low code : ℕ) (c : Contract) (f g : Contract → ℕ) → Rising low cs → by_code cs code ≡ Some c → ((d : Contract) → (d.code ≡ code → ⊥) → f d ≡ g d) → line f cs + g c ≡ line g cs + f c
line_one [] low code c f g r p h = absurd cc
line_one (d ∷ cs) low code c f g r p h =
    ⊎_elim
    (λ q. let e : d.code ≡ code = q.0 in
    let rest : line f cs ≡ line g cs = line_above cs d.code f g r.1 (λ x w. h x (λ v. omega arith)) in
    omega (arith, rest, ap f q.1, ap g q.1, sum_by-cons f d cs, sum_by-cons g d cs))
    (λ q. omega (arith, h d q.0, line_one cs d.code code c f g r.1 q.1 h, sum_by-cons f d cs, sum_by-cons g d cs))
    (listed_parts d cs code c p)

accounts_one : (a : ℕ) (f g : ℕ → ℕ) → 1 ≤ a → a ≤ 8 → ((x : ℕ) → (x ≡ a → ⊥) → f x ≡ g x) → sum_by f accounts + g a ≡ sum_by g accounts + f a
accounts_one a f g low high h = grind (arith, h 1, h 2, h 3, h 4, h 5, h 6, h 7, h 8)

abbrev pub grid : (ℕ → Contract → ℕ) → List Contract → ℕ
grid f cs = sum_by (λ a. sum_by (λ (c : Contract). f a c) cs) accounts

pub grid_same : (f g : ℕ → Contract → ℕ) (cs : List Contract) → ((x : ℕ) (d : Contract) → f x d ≡ g x d) → grid f cs ≡ grid g cs
grid_same f g cs h =
    let at : (x : ℕ) → line (f x) cs ≡ line (g x) cs = λ x. line_same cs (f x) (g x) (h x) in
    omega (arith, at 1, at 2, at 3, at 4, at 5, at 6, at 7, at 8)

pub grid_one : (f g : ℕ → Contract → ℕ) (cs : List Contract) (low a code : ℕ) (c : Contract) → Rising low cs → by_code cs code ≡ Some c → 1 ≤ a → a ≤ 8 →
    ((x : ℕ) (d : Contract) → ((x ≡ a) × (d.code ≡ code) → ⊥) → f x d ≡ g x d) → grid f cs + g a c ≡ grid g cs + f a c
grid_one f g cs low a code c r is lo hi h =
    let here : line (f a) cs + g a c ≡ line (g a) cs + f a c = line_one cs low code c (f a) (g a) r is (λ d n. h a d (λ q. n q.1)) in
    let sums : grid f cs + line (g a) cs ≡ grid g cs + line (f a) cs
    = accounts_one a (λ x. line (f x) cs) (λ x. line (g x) cs) lo hi (λ x n. line_same cs (f x) (g x) (λ d. h x d (λ q. n q.0))) in
    omega (arith, here, sums)

-- leg margins of free written lots, where those change at one account and code
pub legs_moved : (leg : Contract → ℕ) (F G : ℕ → ℕ → ℕ) (cs : List Contract) (low a code : ℕ) (c : Contract) → Rising low cs → by_code cs code ≡ Some c → 1 ≤ a → a ≤ 8 →
    ((x y : ℕ) → ((x ≡ a) × (y ≡ code) → ⊥) → F x y ≡ G x y) →
    grid (λ x d. leg d * F x d.code) cs + leg c * G a code ≡ grid (λ x d. leg d * G x d.code) cs + leg c * F a code
legs_moved leg F G cs low a code c r is lo hi h =
    let e : c.code ≡ code = listed_code cs code c is in
    let sums : grid (λ x d. leg d * F x d.code) cs + leg c * G a c.code ≡ grid (λ x d. leg d * G x d.code) cs + leg c * F a c.code
    = grid_one (λ x d. leg d * F x d.code) (λ x d. leg d * G x d.code) cs low a code c r is lo hi (λ x d n. ap (λ z. leg d * z) (h x d.code n)) in
    omega (arith, sums, ap (λ z. leg c * G a z) e, ap (λ z. leg c * F a z) e)

-- the same where they change at two codes of one account
pub legs_moved_twice : (leg : Contract → ℕ) (F G : ℕ → ℕ → ℕ) (cs : List Contract) (low a code other : ℕ) (c d : Contract) → Rising low cs → by_code cs code ≡ Some c → by_code cs other ≡ Some d → (code ≡ other → ⊥) → 1 ≤ a → a ≤ 8 →
    ((x y : ℕ) → ((x ≡ a) × (y ≡ code) → ⊥) → ((x ≡ a) × (y ≡ other) → ⊥) → F x y ≡ G x y) →
    grid (λ x d. leg d * F x d.code) cs + (leg c * G a code + leg d * G a other) ≡ grid (λ x d. leg d * G x d.code) cs + (leg c * F a code + leg d * F a other)
legs_moved_twice leg F G cs low a code other c d r is is₂ apart lo hi h =
    let H : ℕ → ℕ → ℕ = λ x y. cond (eqb x a && eqb y code) (G x y) (F x y) in
    let H_else : (x y : ℕ) → ((x ≡ a) × (y ≡ code) → ⊥) → H x y ≡ F x y = λ x y. one_else a code (G x y) (F x y) x y in
    let one = legs_moved leg F H cs low a code c r is lo hi (λ x y n. sym (H_else x y n)) in
    let two = legs_moved leg H G cs low a other d r is₂ lo hi
    (at_one (λ x y. ((x ≡ a) × (y ≡ other) → ⊥) → H x y ≡ G x y) a code (λ _. one_here a code _ _) (λ x y ne n. H_else x y ne ∙ h x y ne n)) in
    omega (arith, one, two, ap (λ z. leg c * z) (one_here a code (G a code) (F a code)), ap (λ z. leg d * z) (H_else a other (λ q. apart (sym q.1))))
