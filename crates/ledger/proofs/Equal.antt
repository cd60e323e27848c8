-- Two books with the same standing and the same cash total have equal balances.
use Rattle.std.proofs.Common.{◌≡◌, ℕ, ◌+◌, ◌-◌, ◌*◌, cond, List, [], ◌∷◌, map, Some, None, sum_by, Option, sym, refl, ap, ◌∙◌, ap₂, arith}
use Rattle.std.proofs.lemmas.List.Sums.{sum_by-cons}
use Rattle.std.proofs.lemmas.List.Sorted.{sum_by-IsPermutation}
use Rattle.margin.specs.ByCode.{by_code}
use Rattle.margin.specs.declared.contract.Contract.{Contract}
use Rattle.margin.specs.Strategies.{first_written}
use Rattle.ledger.specs.declared.order.OrderKind.{OrderKind}
use Rattle.ledger.specs.declared.tables.Tables.{Tables}
use Rattle.ledger.specs.declared.order.OrderKind.TheVariants.{SellOpen, LegClose}
use Rattle.margin.specs.Meaning.{Meaning}
use Rattle.ledger.specs.ByCode.{SameMeaning, leg_margin_of, unit_of, pair_margin_of}
use Rattle.ledger.specs.Ledger.{Ledger, Entry, under, cash_total}
use Rattle.ledger.specs.Content.{Pairing}
use Rattle.ledger.specs.Law.{written_claim, in_combinations, margin_held, reserve, reserves, contracts_of, combination_of}
use Rattle.ledger.specs.Amounts.{leg_close_reserve, reserve_with, pair_margin}
use Rattle.ledger.specs.Runs.{Law, Fitted, OrderContent, unnumbered, orders_of, combinations_of, SameStanding}
use Rattle.ledger.proofs.Entries.{weighed, weighed_same}
use Rattle.ledger.proofs.Grid.{grid_same}

sum_mapped : {X Y : Type 0} (f : X → Y) (g : Y → ℕ) (h : X → ℕ) (xs : List X) → ((x : X) → h x ≡ g (f x)) → sum_by h xs ≡ sum_by g (map f xs)
sum_mapped f g h [] e = refl
sum_mapped f g h (x ∷ xs) e = omega (arith, e x, sum_mapped f g h xs e, sum_by-cons h x xs, sum_by-cons g (f x) (map f xs))

by_name : (m : Meaning) (cs : List Contract) (l : Ledger) (kind : OrderKind) (limit : ℕ) → reserve m cs l.combinations kind limit ≡ reserve_with m cs (unnumbered kind) limit (combination_of l.combinations kind)
by_name m cs l (LegClose n c) limit = refl
by_name m cs l kind limit = refl

-- one meaning for another
module _ (m n : Meaning) (same : SameMeaning m n) (cs : List Contract) where
  same_leg : (o : Option Contract) → leg_margin_of m o ≡ leg_margin_of n o
  same_leg (Some c) = same.legs c
  same_leg None = refl

  same_pair : (p : Pairing) → Fitted cs p → pair_margin m cs p ≡ pair_margin n cs p
  same_pair p f =
      let by : (x : Meaning) → pair_margin x cs p ≡ x.pair p.strategy f.first f.second = λ x. ap (λ o. pair_margin_of x p.strategy o (by_code cs p.second)) f.first_listed ∙ ap (pair_margin_of x p.strategy (Some f.first)) f.second_listed in
      by m ∙ same.pairs p.strategy f.first f.second f.fit ∙ sym (by n)

  same_close : (c limit : ℕ) (o : Option Pairing) → ((p : Pairing) → o ≡ Some p → Fitted cs p) → leg_close_reserve m cs c limit o ≡ leg_close_reserve n cs c limit o
  same_close c limit (Some p) fitted = ap₂ (λ x y. (x + limit * unit_of (by_code cs c)) - y) (ap (λ z. cond (first_written p.strategy) z 0) (same_leg _)) (same_pair p (fitted p refl))
  same_close c limit None fitted = refl

  same_reserve : (ps : List (Entry Pairing)) (kind : OrderKind) (limit : ℕ) → ((j : ℕ) (p : Pairing) → under ps j ≡ Some p → Fitted cs p) → reserve m cs ps kind limit ≡ reserve n cs ps kind limit
  same_reserve ps (SellOpen c) limit fitted = same_leg (by_code cs c)
  same_reserve ps (LegClose j c) limit fitted = same_close c limit (under ps j) (fitted j)
  same_reserve ps kind limit fitted = refl

-- one standing for another
module _ (m : Meaning) (cs : List Contract) (l k : Ledger) (same : SameStanding l k) where
  over_combinations : (f : Pairing → ℕ) → weighed f l.combinations ≡ weighed f k.combinations
  over_combinations f =
      let by : (x : Ledger) → weighed f x.combinations ≡ sum_by f (combinations_of x) = λ x. sum_mapped (λ (e : Entry Pairing). e.content) f _ x.combinations (λ e. refl) in
      by l ∙ sym (sum_by-IsPermutation f (combinations_of l) (combinations_of k) same.combinations) ∙ sym (by k)

  held_alike : margin_held m cs l ≡ margin_held m cs k
  held_alike = ap₂ (λ x y. x + y)
      (grid_same (λ a c. m.leg c * (l.written a c.code - in_combinations l a c.code)) (λ a c. m.leg c * (k.written a c.code - in_combinations k a c.code)) cs
      (λ a c. ap₂ (λ x y. m.leg c * (x - y)) (same.written a c.code) (over_combinations (written_claim a c.code))))
      (over_combinations (λ p. p.lots * pair_margin m cs p))

  reserves_alike : reserves m cs l ≡ reserves m cs k
  reserves_alike =
      let f : OrderContent → ℕ = λ o. o.lots * reserve_with m cs o.kind o.limit o.combination in
      let by : (x : Ledger) → reserves m cs x ≡ sum_by f (orders_of x) = λ x. sum_mapped _ f _ x.orders (λ e. ap (λ z. e.content.lots * z) (by_name m cs x e.content.kind e.content.limit)) in
      by l ∙ sym (sum_by-IsPermutation f (orders_of l) (orders_of k) same.orders) ∙ sym (by k)

-- equal balances of two ledgers' books, whatever the calls were
pub equal_balances : (m n : Meaning) (l k : Ledger) (b d : Tables) → Law m l b → Law n k d → SameMeaning m n → contracts_of b ≡ contracts_of d → cash_total l ≡ cash_total k → SameStanding l k → b.funds.balance ≡ d.funds.balance
equal_balances m n l k b d law law' meaning contracts cash standing =
    let cs : List Contract = contracts_of b in
    let fitted : (j : ℕ) (p : Pairing) → under l.combinations j ≡ Some p → Fitted cs p = λ j p s. (law.sound.combinations j p s).fitted in
    let held_same : margin_held m cs l ≡ margin_held n cs l = ap₂ (λ x y. x + y)
    (grid_same (λ a c. m.leg c * (l.written a c.code - in_combinations l a c.code)) (λ a c. n.leg c * (l.written a c.code - in_combinations l a c.code)) cs
    (λ a c. ap (λ x. x * (l.written a c.code - in_combinations l a c.code)) (meaning.legs c)))
    (weighed_same (λ p. p.lots * pair_margin m cs p) (λ p. p.lots * pair_margin n cs p) l.combinations l.next_combination law.sound.combination_numbers (λ j p s. ap (λ x. p.lots * x) (same_pair m n meaning cs p (fitted j p s)))) in
    let reserves_same : reserves m cs l ≡ reserves n cs l
    = weighed_same (λ o. o.lots * reserve m cs l.combinations o.kind o.limit) (λ o. o.lots * reserve n cs l.combinations o.kind o.limit) l.orders l.next_order law.sound.order_numbers
    (λ j o s. ap (λ x. o.lots * x) (same_reserve m n meaning cs l.combinations o.kind o.limit fitted)) in
    let held : b.funds.held ≡ d.funds.held = law.beside.held ∙ held_same ∙ held_alike n cs l k standing ∙ ap (λ x. margin_held n x k) contracts ∙ sym law'.beside.held in
    let reserved : b.funds.reserved ≡ d.funds.reserved = law.beside.reserved ∙ reserves_same ∙ reserves_alike n cs l k standing ∙ ap (λ x. reserves n x k) contracts ∙ sym law'.beside.reserved in
    omega (arith, held, reserved, cash, law.beside.sum, law'.beside.sum, law.beside.cash, law'.beside.cash)
