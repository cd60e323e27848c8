-- The rows in use of a book are, up to order, the entries of its ledger; so books that are the same but for rows and numbers have equal balances.
use Rattle.std.proofs.Common.{◌≡◌, ℕ, ◌+◌, ◌⊎◌, List, [], ◌∷◌, map, Some, None, Option, sym, refl, ap, ◌∙◌, subst, ap₂, inl, inr, ⊎_elim, arith}
use Rattle.std.specs.Option.{option_map}
use Rattle.std.specs.List.Sorted.{IsPermutation}
use Rattle.std.proofs.lemmas.List.Sorted.{IsPermutation-refl, IsPermutation-sym, IsPermutation-cons, IsPermutation-middle, IsPermutation-trans}
use Rattle.std.proofs.lemmas.Option.{none-some}
use Rattle.std.proofs.lemmas.Bool.Decides.{nat_tests}
use Rattle.std.proofs.lemmas.Bool.{both_ways, cases_eq, cond-true, cond-false, eq-eqb, ne_eqb}
use Rattle.register.specs.declared.row.Row.{Row}
use Rattle.register.specs.Rows.{lookup, freed, removed, Apart}
use Rattle.register.proofs.After.{stands_is, found_number, found_parts, absent_parts, replaced_here, replaced_later, lookup_removed, apart_removed}
use Rattle.margin.specs.ByCode.{by_code}
use Rattle.margin.specs.declared.contract.Contract.{Contract}
use Rattle.ledger.specs.declared.order.Order.{Order}
use Rattle.ledger.specs.declared.order.OrderKind.{OrderKind}
use Rattle.ledger.specs.declared.order.OrderKind.TheVariants.{LegClose}
use Rattle.ledger.specs.declared.tables.Tables.{Tables}
use Rattle.margin.specs.Meaning.{Meaning}
use Rattle.ledger.specs.Ledger.{Ledger, Entry, under}
use Rattle.ledger.specs.Content.{Pairing}
use Rattle.ledger.specs.Law.{contracts_of, combination_under, engaged, combination_of}
use Rattle.ledger.specs.Moves.{content, combination_named, content_of}
use Rattle.ledger.specs.Runs.{Law, Numbers, OnTheBook, OrderContent, order_content, in_use, orders_of, combinations_of, book_orders, book_combinations, SameStanding}
use Rattle.ledger.specs.Keeps.{SameBooksBalance}
use Rattle.ledger.proofs.Entries.{under_above}
use Rattle.ledger.proofs.Equal.{equal_balances}

module _ {T : Type 0} where
  used : (r : Row T) (rs : List (Row T)) → (r.number ≡ 0 → ⊥) → in_use (r ∷ rs) ≡ r.entry ∷ in_use rs
  used r rs n = cond-false _ _ _ (ne_eqb _ _ n)

  unused : (r : Row T) (rs : List (Row T)) → r.number ≡ 0 → in_use (r ∷ rs) ≡ in_use rs
  unused r rs e = cond-true _ _ _ (eq-eqb _ _ e)

perm_by : {X : Type 0} (xs ys us vs : List X) → xs ≡ us → ys ≡ vs → IsPermutation us vs → IsPermutation xs ys
perm_by xs ys us vs p q h = subst (λ zs. IsPermutation zs ys) (sym p) (subst (λ zs. IsPermutation us zs) (sym q) h)

module _ {T X : Type 0} (seen : T → X) where
  abbrev shown : List (Row T) → List X
  shown rs = map seen (in_use rs)

  -- one entry in use, taken to the front
  out : (rs : List (Row T)) (n : ℕ) (x : T) → lookup rs n ≡ Some x → IsPermutation (shown rs) (seen x ∷ shown (removed rs n))
  out [] n x p = absurd cc
  out (r ∷ rs) n x p =
      let nn : n ≡ 0 → ⊥ = found_number (r ∷ rs) n x p in
      ⊎_elim
      (λ h. perm_by _ _ (seen r.entry ∷ shown rs) (seen r.entry ∷ shown rs) (ap (map seen) (used r rs (λ z. nn (sym h.1 ∙ z)))) (ap₂ (λ y ys. seen y ∷ ys) (sym h.2) (ap shown (replaced_here freed r rs n h.0))) (IsPermutation-refl (seen r.entry ∷ shown rs)))
      (λ h. let rest = out rs n x h.1 in
      let gone : shown (removed (r ∷ rs) n) ≡ shown (r ∷ removed rs n) = ap shown (replaced_later freed r rs n h.0) in
      ⊎_elim
      (λ z. perm_by _ _ (shown rs) (seen x ∷ shown (removed rs n)) (ap (map seen) (unused r rs z)) (ap (λ ys. seen x ∷ ys) (gone ∙ ap (map seen) (unused r (removed rs n) z))) rest)
      (λ nz. perm_by _ _ (seen r.entry ∷ shown rs) (seen x ∷ seen r.entry ∷ shown (removed rs n)) (ap (map seen) (used r rs nz)) (ap (λ ys. seen x ∷ ys) (gone ∙ ap (map seen) (used r (removed rs n) nz)))
      (IsPermutation-trans (seen r.entry ∷ shown rs) (seen r.entry ∷ seen x ∷ shown (removed rs n)) (seen x ∷ seen r.entry ∷ shown (removed rs n)) (IsPermutation-cons (seen r.entry) (shown rs) (seen x ∷ shown (removed rs n)) rest)
      (IsPermutation-middle (seen r.entry ∷ []) (seen x) (shown (removed rs n)))))
      (cases_eq r.number 0))
      (found_parts r rs n x p)

  -- nothing found: nothing in use
  none_used : (rs : List (Row T)) → ((n : ℕ) → lookup rs n ≡ None) → shown rs ≡ []
  none_used [] h = refl
  none_used (r ∷ rs) h =
      ⊎_elim
      (λ z. ap (map seen) (unused r rs z) ∙ none_used rs (λ n. (absent_parts r rs n (h n)).1))
      (λ nz. absurd (both_ways _ (absent_parts r rs r.number (h r.number)).0 (stands_is r r.number nz refl)))
      (cases_eq r.number 0)

  -- rows that find, under each number, what stands there
  module _ {S : Type 0} (told : S → X) where
    abbrev Match : Option T → Option S → Type 0
    Match o q = option_map seen o ≡ option_map told q

    match_some : (o : Option T) (y : S) → Match o (Some y) → (x : T) × ((o ≡ Some x) × (seen x ≡ told y))
    match_some None y h = absurd cc
    match_some (Some x) y h = (x, (refl, cc))

    match_none : (o : Option T) → Match o None → o ≡ None
    match_none None h = refl
    match_none (Some x) h = absurd cc

    entries_shown : (rs : List (Row T)) (es : List (Entry S)) (next : ℕ) → Apart rs → Numbers es next → ((n : ℕ) → Match (lookup rs n) (under es n)) → IsPermutation (shown rs) (map (λ (e : Entry S). told e.content) es)
    entries_shown rs [] next apart numbers h = perm_by _ _ [] [] (none_used rs (λ n. match_none (lookup rs n) (h n))) refl (IsPermutation-refl [])
    entries_shown rs (e ∷ es) next apart numbers h =
        let n : ℕ = e.number in
        let standing : List X = map (λ (e : Entry S). told e.content) es in
        let first : under (e ∷ es) n ≡ Some e.content = grind (arith, nat_tests) in
        let q = match_some (lookup rs n) e.content (h n ∙ ap (option_map told) first) in
        let x : T = q.0 in
        let rest : IsPermutation (shown (removed rs n)) standing = entries_shown (removed rs n) es n (apart_removed rs n apart) numbers.2
        (λ k. let gone = lookup_removed rs n k apart in let same = h k in let above = under_above es n k numbers.2 in grind (arith, nat_tests)) in
        IsPermutation-trans (shown rs) (seen x ∷ shown (removed rs n)) (told e.content ∷ standing) (out rs n x q.1.0)
        (perm_by _ _ (seen x ∷ shown (removed rs n)) (seen x ∷ standing) refl (ap (λ y. y ∷ standing) (sym q.1.1)) (IsPermutation-cons (seen x) (shown (removed rs n)) standing rest))

-- a book and its ledger
module _ {m : Meaning} {l : Ledger} {b : Tables} (law : Law m l b) where
  same_row : (eng : ℕ) (o : Option Pairing) → Match content (λ p. p) (combination_under eng o) o
  same_row eng (Some p) = refl
  same_row eng None = refl

  same_content : (eng : ℕ) (o : Option Pairing) → content_of (combination_under eng o) ≡ o
  same_content eng (Some p) = refl
  same_content eng None = refl

  pub combinations_shown : IsPermutation (book_combinations b) (combinations_of l)
  combinations_shown = entries_shown content (λ p. p) b.combinations l.combinations l.next_combination law.sound.combination_rows law.sound.combination_numbers
      (λ n. subst (λ o. Match content (λ p. p) o (under l.combinations n)) (sym (law.beside.combinations n)) (same_row (engaged l n) (under l.combinations n)))

  same_name : (kind : OrderKind) → combination_named b.combinations kind ≡ combination_of l.combinations kind
  same_name (LegClose n c) = ap content_of (law.beside.combinations n) ∙ same_content (engaged l n) (under l.combinations n)
  same_name kind = refl

  abbrev seen_order : Order → OrderContent
  seen_order o = order_content (combination_named b.combinations o.kind) o

  abbrev told_order : Order → OrderContent
  told_order o = order_content (combination_of l.combinations o.kind) o

  same_order : (o : Option Order) → Match seen_order told_order o o
  same_order (Some o) = ap (λ p. Some (order_content p o)) (same_name o.kind)
  same_order None = refl

  pub orders_shown : IsPermutation (book_orders b) (orders_of l)
  orders_shown = entries_shown seen_order told_order b.orders l.orders l.next_order law.sound.order_rows law.sound.order_numbers
      (λ n. subst (λ o. Match seen_order told_order o (under l.orders n)) (sym (law.beside.orders n)) (same_order (under l.orders n)))

  pub none_elsewhere : (a code : ℕ) → (OnTheBook (contracts_of b) a code → ⊥) → l.bought a code + l.written a code ≡ 0
  none_elsewhere a code off = ⊎_elim (λ e. e) (λ ne. absurd (off (law.sound.owned a code (omega arith)))) (cases_eq (l.bought a code + l.written a code) 0)

listed_or_not : (o : Option Contract) → ((c : Contract) × (o ≡ Some c)) ⊎ (((c : Contract) × (o ≡ Some c)) → ⊥)
listed_or_not (Some c) = inl (c, refl)
listed_or_not None = inr (λ q. none-some q.0 q.1)

on_or_off : (cs : List Contract) (a code : ℕ) → OnTheBook cs a code ⊎ (OnTheBook cs a code → ⊥)
on_or_off cs a code = let listed = listed_or_not (by_code cs code) in grind (arith, nat_tests)

pub same_books_balance : SameBooksBalance
same_books_balance m n b d kept kept' meaning contracts same =
    let l : Ledger = kept.0 in
    let k : Ledger = kept'.0 in
    let law : Law m l b = kept.1 in
    let law' : Law n k d = kept'.1 in
    let move : (a code : ℕ) → OnTheBook (contracts_of b) a code → OnTheBook (contracts_of d) a code = λ a code on. subst (λ cs. OnTheBook cs a code) contracts on in
    let back : (a code : ℕ) → OnTheBook (contracts_of d) a code → OnTheBook (contracts_of b) a code = λ a code on. subst (λ cs. OnTheBook cs a code) (sym contracts) on in
    let owned : (a code : ℕ) → (l.bought a code ≡ k.bought a code) × (l.written a code ≡ k.written a code) = λ a code. ⊎_elim
    (λ on. let on' = move a code on in
    let lot = law.beside.lots a code on.2.0 on.0 on.1 on.2.1 in
    let lot' = law'.beside.lots a code on'.2.0 on'.0 on'.1 on'.2.1 in
    (sym lot.bought ∙ same.bought a code on ∙ lot'.bought, sym lot.written ∙ same.written a code on ∙ lot'.written))
    (λ off. let none = none_elsewhere law a code off in
    let none' = none_elsewhere law' a code (λ on. off (back a code on)) in
    (omega arith, omega arith))
    (on_or_off (contracts_of b) a code) in
    let standing : SameStanding l k = record {
      bought = λ a code. (owned a code).0;
      written = λ a code. (owned a code).1;
      combinations = IsPermutation-trans (combinations_of l) (book_combinations b) (combinations_of k) (IsPermutation-sym (book_combinations b) (combinations_of l) (combinations_shown law))
          (IsPermutation-trans (book_combinations b) (book_combinations d) (combinations_of k) same.combinations (combinations_shown law'));
      orders = IsPermutation-trans (orders_of l) (book_orders b) (orders_of k) (IsPermutation-sym (book_orders b) (orders_of l) (orders_shown law))
          (IsPermutation-trans (book_orders b) (book_orders d) (orders_of k) same.orders (orders_shown law'));
    } in
    equal_balances m n l k b d law law' meaning contracts (omega (arith, same.cash, law.beside.cash, law'.beside.cash)) standing
