-- Lots of a combination gone. A leg close keeps its leg and its reserve while its combination stays, but for lots.
use Rattle.std.proofs.Common.{◌≡◌, ℕ, ◌+◌, ◌-◌, ◌<◌, ◌≤◌, cond, eqb, leb, ◌⊎◌, List, ◌∷◌, Some, sym, refl, ap, ◌∙◌, subst, ⊎_elim, arith}
use Rattle.std.proofs.lemmas.Option.{same_Some}
use Rattle.std.proofs.lemmas.Bool.Decides.{nat_tests}
use Rattle.std.proofs.lemmas.Bool.{cases_eq, cond-true, eq-eqb}
use Rattle.margin.specs.declared.contract.Contract.{Contract}
use Rattle.ledger.specs.declared.order.OrderKind.{OrderKind}
use Rattle.ledger.specs.declared.order.OrderKind.TheVariants.{LegClose}
use Rattle.register.specs.Rows.{lookup, Apart}
use Rattle.ledger.specs.declared.order.Order.{Order}
use Rattle.ledger.specs.declared.order.Combination.{Combination}
use Rattle.ledger.specs.declared.tables.Tables.{Tables}
use Rattle.margin.specs.Meaning.{Meaning}
use Rattle.ledger.specs.Moves.{combination_rest}
use Rattle.ledger.specs.Ledger.{Ledger, Entry, under, put, pairing_less}
use Rattle.ledger.specs.Content.{Pairing}
use Rattle.ledger.specs.Law.{contracts_of, reserve, engaged, engages, combination_under}
use Rattle.ledger.specs.Amounts.{leg_close_reserve}
use Rattle.ledger.specs.Runs.{Law, Numbers, LegStands, LegOf, Fitted, SoundCombination}
use Rattle.ledger.proofs.Entries.{weighed, weighed_part, under_put, under_within, numbers_put}
use Rattle.ledger.proofs.Lessened.{weighed_lessened, lessened_parts, lookup_rest, apart_rest}
use Rattle.ledger.proofs.Pairings.{PairsByLots, pair_lots, combination_with, row_of}

-- what stands under a number stays, but for its lots
abbrev pub Stays : List (Entry Pairing) → List (Entry Pairing) → ℕ → Type 0
Stays ps es j = (q : Pairing) → under ps j ≡ Some q → (k : ℕ) × (under es j ≡ Some (pair_lots k q))

-- so does what an order names
abbrev pub NamedStays : List (Entry Pairing) → List (Entry Pairing) → OrderKind → Type 0
NamedStays ps es kind = (j y : ℕ) → kind ≡ LegClose j y → Stays ps es j

module _ (ps es : List (Entry Pairing)) (a : ℕ) where
  pub order_stays : (m : Meaning) (cs : List Contract) (kind : OrderKind) (limit : ℕ) → NamedStays ps es kind → LegStands ps a kind → LegStands es a kind × (reserve m cs es kind limit ≡ reserve m cs ps kind limit)
  order_stays m cs (LegClose j y) limit stays g =
      let g' : LegOf ps a j y = g in
      let s = stays j y refl g'.combination g'.stands in
      (record { combination = pair_lots s.0 g'.combination; stands = s.1; account = g'.account; leg = g'.leg }, ap (leg_close_reserve m cs y limit) s.1 ∙ ap (leg_close_reserve m cs y limit) (sym g'.stands))
  order_stays m cs kind limit stays g = (g, refl)

-- a new combination leaves those that stand
pub added_stays : (ps : List (Entry Pairing)) (next : ℕ) (p : Pairing) (j : ℕ) → Numbers ps next → Stays ps (record { number = next; content = p } ∷ ps) j
added_stays ps next p j s q st =
    let within = under_within ps next j q s st in (q.lots, grind (arith, nat_tests))

-- Lots of a combination gone -----------------------------------------------------------------------

module _ {m : Meaning} {l : Ledger} {b : Tables} (law : Law m l b) (n lots : ℕ) (p : Pairing) (stands : under l.combinations n ≡ Some p) where
  abbrev rest : List (Entry Pairing)
  rest = put n (pairing_less lots p) l.combinations

  abbrev row : Combination
  row = combination_with (engaged l n) p

  pub rest_sum : (g : Pairing → ℕ) → PairsByLots g → lots ≤ p.lots → weighed g rest + g (pair_lots lots p) ≡ weighed g l.combinations
  rest_sum g by h = weighed_lessened (λ (x : Pairing). x.lots) pair_lots (λ x. refl) g by l.combinations n lots p stands h

  pub rest_numbers : Numbers rest l.next_combination
  rest_numbers = numbers_put l.combinations l.next_combination n (pairing_less lots p) law.sound.combination_numbers

  pub rest_apart : (gone : ℕ) → Apart (combination_rest n lots gone row b.combinations)
  rest_apart gone = apart_rest (leb p.lots lots) b.combinations n (combination_with (engaged l n - gone) (pair_lots (p.lots - lots) p)) law.sound.combination_rows

  -- the rows show what stands
  pub rest_rows : (gone k now : ℕ) → now ≡ cond (eqb n k) (engaged l n - gone) (engaged l k) → lookup (combination_rest n lots gone row b.combinations) k ≡ combination_under now (under rest k)
  rest_rows gone k now is =
      let shown = lookup_rest (leb p.lots lots) b.combinations n k (combination_with (engaged l n - gone) (pair_lots (p.lots - lots) p)) row law.sound.combination_rows (row_of law n p stands) in
      let after = under_put l.combinations l.next_combination n k (pairing_less lots p) p law.sound.combination_numbers stands in
      let old = law.beside.combinations k in
      grind (arith, nat_tests)

  -- what stands after: the rest of the combination, or another that stood
  rest_parts : (k : ℕ) (x : Pairing) → under rest k ≡ Some x → ((n ≡ k) × (lots < p.lots) × (x ≡ pair_lots (p.lots - lots) p)) ⊎ ((n ≡ k → ⊥) × (under l.combinations k ≡ Some x))
  rest_parts k x q = lessened_parts (λ (y : Pairing). y.lots) pair_lots (λ y. refl) l.combinations l.next_combination n lots k p x law.sound.combination_numbers stands q

  pub rest_sound : (k : ℕ) (x : Pairing) → under rest k ≡ Some x → SoundCombination (contracts_of b) x
  rest_sound k x q =
      let old : SoundCombination (contracts_of b) p = law.sound.combinations n p stands in
      let f : Fitted (contracts_of b) p = old.fitted in
      ⊎_elim
      (λ h. subst (λ z. SoundCombination (contracts_of b) z) (sym h.2) (record {
        account = old.account;
        fitted = record { first = f.first; second = f.second; first_listed = f.first_listed; second_listed = f.second_listed; fit = f.fit };
        lots = omega (arith, h.1);
      }))
      (λ h. law.sound.combinations k x h.1)
      (rest_parts k x q)

  -- no more lots are engaged than stand
  pub rest_engaged : (gone : ℕ) (now : ℕ → ℕ) → engaged l n - gone ≤ p.lots - lots → ((k : ℕ) → now k ≡ cond (eqb n k) (engaged l n - gone) (engaged l k)) → (k : ℕ) (x : Pairing) → under rest k ≡ Some x → now k ≤ x.lots
  rest_engaged gone now few is k x q =
      let now_is = is k in
      ⊎_elim (λ h. let at : n ≡ k = h.0 in let left : x.lots ≡ p.lots - lots = ap (λ (z : Pairing). z.lots) h.2 in grind (arith, nat_tests))
      (λ h. let off : n ≡ k → ⊥ = h.0 in let most = law.sound.engaged_most k x h.1 in grind (arith, nat_tests))
      (rest_parts k x q)

  -- it stays where lots are left, and so does any other
  rest_stays : (j : ℕ) → (n ≡ j → lots < p.lots) → Stays l.combinations rest j
  rest_stays j some q st =
      let after = under_put l.combinations l.next_combination n j (pairing_less lots p) p law.sound.combination_numbers stands in
      ⊎_elim
      (λ e. let same : p ≡ q = same_Some _ _ (sym stands ∙ ap (under l.combinations) e ∙ st) in
      let left : lots < p.lots = some e in
      let rest_is : under rest j ≡ Some (pair_lots (p.lots - lots) p) = grind (arith, nat_tests) in
      (p.lots - lots, rest_is ∙ ap (λ z. Some (pair_lots (p.lots - lots) z)) same))
      (λ ne. (q.lots, grind (arith, nat_tests)))
      (cases_eq n j)

  -- an order that names it keeps lots of it
  pub rest_named : (os : List (Entry Order)) (j : ℕ) (x : Order) → under os j ≡ Some x → 1 ≤ x.lots → lots + weighed (λ z. engages n z z.kind) os ≤ p.lots → NamedStays l.combinations rest x.kind
  rest_named os j x s some room i y e =
      rest_stays i (λ w. let weight : engages n x x.kind ≡ x.lots = ap (engages n x) (e ∙ ap (λ z. LegClose z y) (sym w)) ∙ cond-true (eqb n n) x.lots 0 (eq-eqb n n refl) in
      omega (arith, weight, some, room, weighed_part (λ z. engages n z z.kind) os j x s))
