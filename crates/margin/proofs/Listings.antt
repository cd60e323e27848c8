-- A listing that grows at its end.
use Rattle.std.proofs.Common.{◌≡◌, ◌≢◌, ℕ, zero, suc, ⊎_elim, Less, Equal, Greater, ◌+◌, ◌-◌, ◌<◌, ◌≤◌, true, false, not, ◌||◌, ltb, List, [], ◌∷◌, ◌++◌, map, length, get_or, take, set, Some, None, sym, refl, ap, ◌∙◌, subst, arith}
use Rattle.std.proofs.lemmas.List.{append_assoc, append-nil, length-take-le, take_more, take_more_set, map_push}
use Rattle.std.proofs.lemmas.Bool.{and_parts, and_from, not_from_false, le-ltb, lt-ltb, eq-eqb, ne_eqb, cond-true, cond-false, ltb-true, cases_lt}
use Rattle.std.specs.List.{list_any, HoldsAt}
use Rattle.std.specs.List.Sorted.{IsNonDecreasingBy, IsPartitionPoint}
use Rattle.std.specs.Ordering.{nat_cmp, ordering_index}
use Rattle.std.proofs.lemmas.Cmp.{ranked}
use Rattle.std.proofs.lemmas.Bool.Decides.{nat_tests}
use Rattle.margin.specs.declared.contract.Contract.{Contract}
use Rattle.margin.specs.declared.listing.Listing.{Listing}
use Rattle.margin.specs.ByCode.{by_code, index}
use Rattle.margin.specs.Listing.{BelowUpTo, FirstFrom}
use Rattle.margin.specs.Terms.{Terms, terms_of}
use Rattle.margin.specs.Listed.{last_code, above, rising_from, clashes, clashes_any, agreeing_after}

-- whether one of the contracts clashes with another, asked of each in turn
pub clash_of_any : (cs : List Contract) (t : Terms) → list_any (λ c. clashes (terms_of c) t) cs ≡ clashes_any (map terms_of cs) t
clash_of_any [] t = refl
clash_of_any (c ∷ cs) t = ap (λ b. clashes (terms_of c) t || b) (clash_of_any cs t)

last_push : (before : ℕ) (ts : List Terms) (t : Terms) → last_code before (ts ++ t ∷ []) ≡ t.code
last_push before [] t = refl
last_push before (x ∷ ts) t = last_push x.code ts t

-- the last of the first n codes
pub last_of : (cs : List Contract) (n : ℕ) (x : Contract) → 1 ≤ n → n ≤ length cs → x ≡ get_or cs (n - 1) x → last_code 0 (map terms_of (take n cs)) ≡ x.code
last_of cs n x low high is =
    let back : (n - 1) + 1 ≡ n = omega arith in
    let more : take ((n - 1) + 1) cs ≡ take (n - 1) cs ++ get_or cs (n - 1) x ∷ [] = take_more cs (n - 1) x (omega arith) in
    ap (λ k. last_code 0 (map terms_of (take k cs))) (sym back)
    ∙ ap (λ l. last_code 0 (map terms_of l)) more
    ∙ ap (last_code 0) (map_push terms_of (take (n - 1) cs) (get_or cs (n - 1) x))
    ∙ last_push 0 (map terms_of (take (n - 1) cs)) (terms_of (get_or cs (n - 1) x))
    ∙ ap (λ (y : Contract). y.code) (sym is)

pub rising_push : (before : ℕ) (ts : List Terms) (t : Terms) → rising_from before ts ≡ true → ltb (last_code before ts) t.code ≡ true → rising_from before (ts ++ t ∷ []) ≡ true
rising_push before [] t e h = and_from _ _ h refl
rising_push before (x ∷ ts) t e h = let p = and_parts (ltb before x.code) (rising_from x.code ts) e in and_from _ _ p.0 (rising_push x.code ts t p.1 h)

pub agreeing_push : (earlier ts : List Terms) (t : Terms) → agreeing_after earlier ts ≡ true → clashes_any (earlier ++ ts) t ≡ false → agreeing_after earlier (ts ++ t ∷ []) ≡ true
agreeing_push earlier [] t e h = and_from _ _ (not_from_false _ (subst (λ l. clashes_any l t ≡ false) (append-nil earlier) h)) refl
agreeing_push earlier (x ∷ ts) t e h =
    let p = and_parts (not (clashes_any earlier x)) (agreeing_after (earlier ++ x ∷ []) ts) e in
    and_from _ _ p.0 (agreeing_push (earlier ++ x ∷ []) ts t p.1 (subst (λ l. clashes_any l t ≡ false) (sym (append_assoc earlier (x ∷ []) ts)) h))

-- the first n contracts of a table of 64 with room behind them, of which x is the last
pub record Room (cs : List Contract) (n : ℕ) (x : Contract) : Type 0 where
  pub table : length cs ≡ 64
  pub some : 1 ≤ n
  pub fewer : n < 64
  pub last : x ≡ get_or cs (n - 1) x

-- a listing that is not full, of which x is the last
pub room_of : (l : Listing) (x : Contract) → l.count < 64 → x ≡ get_or l.contracts (l.count - 1) x → Room l.contracts l.count x
room_of l x fewer last = record { table = l.table; some = l.counted.0; fewer = fewer; last = last }

module _ {cs : List Contract} {n : ℕ} {x : Contract} (r : Room cs n x) (next : Contract) where
  pub few : length (take n cs) < 64
  few = omega (arith, length-take-le n cs (omega arith))

  last_is : last_code 0 (map terms_of (take n cs)) ≡ (get_or cs (n - 1) x).code
  last_is = last_of cs n x r.some (omega arith) r.last ∙ ap (λ (y : Contract). y.code) r.last

  pub not_above : next.code ≤ (get_or cs (n - 1) x).code → above (map terms_of (take n cs)) (terms_of next) ≡ false
  not_above h = le-ltb _ _ (omega (arith, last_is))

  pub is_above : (get_or cs (n - 1) x).code < next.code → above (map terms_of (take n cs)) (terms_of next) ≡ true
  is_above h = lt-ltb _ _ (omega (arith, last_is))

  pub joined : take (n + 1) (set cs n next) ≡ take n cs ++ next ∷ []
  joined = take_more_set cs n next (omega arith)

  terms_joined : map terms_of (take (n + 1) (set cs n next)) ≡ map terms_of (take n cs) ++ terms_of next ∷ []
  terms_joined = ap (map terms_of) joined ∙ map_push terms_of (take n cs) next

  pub still_rising : (get_or cs (n - 1) x).code < next.code → rising_from 0 (map terms_of (take n cs)) ≡ true → rising_from 0 (map terms_of (take (n + 1) (set cs n next))) ≡ true
  still_rising h e = ap (rising_from 0) terms_joined ∙ rising_push 0 (map terms_of (take n cs)) (terms_of next) e (is_above h)

  pub still_agreeing : clashes_any (map terms_of (take n cs)) (terms_of next) ≡ false → agreeing_after [] (map terms_of (take n cs)) ≡ true → agreeing_after [] (map terms_of (take (n + 1) (set cs n next))) ≡ true
  still_agreeing h e = ap (agreeing_after []) terms_joined ∙ agreeing_push [] (map terms_of (take n cs)) (terms_of next) e h

-- codes that rise are above the one before them, and each is above the earlier
above_before : (before : ℕ) (cs : List Contract) → rising_from before (map terms_of cs) ≡ true → (j : ℕ) (d : Contract) → j < length cs → before < (get_or cs j d).code
above_before before [] e j d lt = absurd (omega arith)
above_before before (c ∷ cs) e zero d lt = ltb-true before c.code (and_parts (ltb before c.code) (rising_from c.code (map terms_of cs)) e).0
above_before before (c ∷ cs) e (suc j) d lt =
    let p = and_parts (ltb before c.code) (rising_from c.code (map terms_of cs)) e in
    omega (arith, ltb-true before c.code p.0, above_before c.code cs p.1 j d (omega arith))

codes_rise : (before : ℕ) (cs : List Contract) → rising_from before (map terms_of cs) ≡ true → (i j : ℕ) (d : Contract) → i < j → j < length cs → (get_or cs i d).code < (get_or cs j d).code
codes_rise before [] e i j d lt within = absurd (omega arith)
codes_rise before (c ∷ cs) e i zero d lt within = absurd (omega arith)
codes_rise before (c ∷ cs) e zero (suc j) d lt within = above_before c.code cs (and_parts (ltb before c.code) (rising_from c.code (map terms_of cs)) e).1 j d (omega arith)
codes_rise before (c ∷ cs) e (suc i) (suc j) d lt within = codes_rise c.code cs (and_parts (ltb before c.code) (rising_from c.code (map terms_of cs)) e).1 i j d (omega arith) (omega arith)

-- the first contract that has the code is the one of the code, at its place
first_is : (cs : List Contract) (code i : ℕ) (d : Contract) → i < length cs → (get_or cs i d).code ≡ code → ((j : ℕ) → j < i → (get_or cs j d).code ≡ code → ⊥) →
    (by_code cs code ≡ Some (get_or cs i d)) × (index cs code ≡ i)
first_is [] code i d within is other = absurd (omega arith)
first_is (c ∷ cs) code zero d within is other = let same = eq-eqb c.code code is in (cond-true _ _ _ same, cond-true _ _ _ same)
first_is (c ∷ cs) code (suc i) d within is other =
    let ne = ne_eqb c.code code (other 0 (omega arith)) in
    let rest = first_is cs code i d (omega arith) is (λ j lt. other (suc j) (omega arith)) in
    (cond-false _ _ _ ne ∙ rest.0, cond-false _ _ _ ne ∙ omega (arith, rest.1))

none_is : (cs : List Contract) (code : ℕ) → ((j : ℕ) (d : Contract) → j < length cs → (get_or cs j d).code ≡ code → ⊥) → by_code cs code ≡ None
none_is [] code other = refl
none_is (c ∷ cs) code other = cond-false _ _ _ (ne_eqb c.code code (other 0 c (omega arith))) ∙ none_is cs code (λ j d lt. other (suc j) d (omega arith))

same_there : (cs : List Contract) (i : ℕ) (d e : Contract) → i < length cs → get_or cs i d ≡ get_or cs i e
same_there [] i d e within = absurd (omega arith)
same_there (c ∷ cs) zero d e within = refl
same_there (c ∷ cs) (suc i) d e within = same_there cs i d e (omega arith)

-- what a binary search for a code finds among contracts whose codes rise
module _ (cs : List Contract) (rising : rising_from 0 (map terms_of cs) ≡ true) (code : ℕ) where
  comparisons_rise : IsNonDecreasingBy (λ (c : Contract). ordering_index (nat_cmp c.code code)) cs
  comparisons_rise i j d le within =
      let up : (get_or cs i d).code ≤ (get_or cs j d).code = grind (arith, codes_rise 0 cs rising i j d, λ (same : i ≡ j). ap (λ k. (get_or cs k d).code) same) in
      grind (arith, nat_tests)

  pub found_at : (i : ℕ) (d : Contract) → i < length cs → HoldsAt (λ (c : Contract). nat_cmp c.code code ≡ Equal) cs i → (by_code cs code ≡ Some (get_or cs i d)) × (index cs code ≡ i)
  found_at i d within equal =
      let is : (get_or cs i d).code ≡ code = ranked _ code _ (sym (equal d)) in
      first_is cs code i d within is (λ j lt same. omega (arith, codes_rise 0 cs rising j i d lt within))

  pub not_found : (i : ℕ) → (IsNonDecreasingBy (λ (c : Contract). ordering_index (nat_cmp c.code code)) cs → IsPartitionPoint (λ (c : Contract). nat_cmp c.code code ≡ Less) (λ (c : Contract). nat_cmp c.code code ≡ Greater) cs i) → by_code cs code ≡ None
  not_found i parted =
      none_is cs code (λ j d within same. ⊎_elim
      (λ (lt : j < i). let less : (get_or cs j d).code < code = ranked _ code _ (sym ((parted comparisons_rise).0 j d (omega arith) lt)) in omega arith)
      (λ (le : i ≤ j). let more : code < (get_or cs j d).code = ranked _ code _ (sym ((parted comparisons_rise).1 j d le within)) in omega arith)
      (cases_lt j i))

  -- what the first contract whose code is not below tells of the code
  pub first_found : (i : ℕ) (d : Contract) → FirstFrom cs code i → (get_or cs i d).code ≡ code → (by_code cs code ≡ Some (get_or cs i d)) × (index cs code ≡ i)
  first_found i d from is = first_is cs code i d from.0 is (λ j lt same. omega (arith, from.2 j d lt))

  pub first_passed : (i : ℕ) (d : Contract) → FirstFrom cs code i → (get_or cs i d).code ≢ code → by_code cs code ≡ None
  first_passed i d from other =
      let over : code < (get_or cs i d).code = grind (arith, from.1 d, other) in
      none_is cs code (λ j e within same. ⊎_elim
      (λ (lt : j < i). omega (arith, from.2 j e lt))
      (λ (le : i ≤ j). ⊎_elim
      (λ (lt : i < j). omega (arith, codes_rise 0 cs rising i j e lt within, from.1 e))
      (λ (ge : j ≤ i).
      let one : j ≡ i = omega arith in
      let there : (get_or cs j e).code ≡ (get_or cs i d).code = ap (λ k. (get_or cs k e).code) one ∙ ap (λ (x : Contract). x.code) (same_there cs i e d from.0) in
      omega (arith, there, over))
      (cases_lt i j))
      (cases_lt j i))

  pub all_below : BelowUpTo cs code (length cs) → by_code cs code ≡ None
  all_below below = none_is cs code (λ j d within same. omega (arith, below j d within))
