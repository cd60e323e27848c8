-- What a fill takes is owned.
use Rattle.std.proofs.Common.{◌≡◌, ℕ, ◌≤◌, cond, eqb, Some, arith}
use Rattle.std.proofs.lemmas.Bool.Decides.{nat_tests}
use Rattle.ledger.specs.declared.order.Order.{Order}
use Rattle.ledger.specs.declared.order.OrderKind.{OrderKind}
use Rattle.ledger.specs.declared.order.OrderKind.TheVariants.{BuyClose, SellClose, LegClose}
use Rattle.ledger.specs.declared.tables.Tables.{Tables}
use Rattle.margin.specs.Meaning.{Meaning}
use Rattle.ledger.specs.Ledger.{Ledger, under}
use Rattle.ledger.specs.Content.{Pairing, contract_of}
use Rattle.ledger.specs.Law.{Lots, contracts_of, position_of, engages, closes_written, closes_bought, written_claim}
use Rattle.ledger.specs.Runs.{Law, Fillable, LegOf, SoundOrder}
use Rattle.ledger.proofs.Codes.{one_here}
use Rattle.ledger.proofs.Entries.{weighed_part}
use Rattle.ledger.proofs.Tests.{standing_at}
use Rattle.ledger.proofs.Pairings.{legs_apart}

module _ {m : Meaning} {l : Ledger} {b : Tables} (law : Law m l b) where
  module _ (n lots : ℕ) where
    abbrev made : ℕ → OrderKind → ℕ → ℕ → Order
    made a kind whole limit = record { account = a; kind = kind; lots = whole; limit = limit }

    -- what a working close claims is owned
    closes_owned : (o : Order) → under l.orders n ≡ Some o →
        (closes_written o.account (contract_of o.kind) o o.kind ≤ l.written o.account (contract_of o.kind)) × (closes_bought o.account (contract_of o.kind) o o.kind ≤ l.bought o.account (contract_of o.kind))
    closes_owned o stands =
        let a : ℕ = o.account in
        let c : ℕ = contract_of o.kind in
        let fit : SoundOrder (contracts_of b) l.combinations o = law.sound.orders n o stands in
        let lot : Lots l a c (position_of b a c) = law.beside.lots a c fit.contract.0 fit.account.0 fit.account.1 fit.contract.1 in
        (omega (arith, lot.written_free, weighed_part (λ z. closes_written a c z z.kind) l.orders n o stands), omega (arith, lot.bought_free, weighed_part (λ z. closes_bought a c z z.kind) l.orders n o stands))

    pub fillable : (kind : OrderKind) (a whole limit : ℕ) → under l.orders n ≡ Some (made a kind whole limit) → lots ≤ whole → Fillable l a lots kind
    fillable (BuyClose c) a whole limit stands within = omega (arith, (closes_owned (made a (BuyClose c) whole limit) stands).0, one_here a c whole 0)
    fillable (SellClose c) a whole limit stands within = omega (arith, (closes_owned (made a (SellClose c) whole limit) stands).1, one_here a c whole 0)
    fillable (LegClose k c) a whole limit stands within =
        let o : Order = made a (LegClose k c) whole limit in
        let fit : SoundOrder (contracts_of b) l.combinations o = law.sound.orders n o stands in
        let g : LegOf l.combinations a k c = fit.leg in
        let p : Pairing = g.combination in
        let lot : Lots l a c (position_of b a c) = law.beside.lots a c fit.contract.0 fit.account.0 fit.account.1 fit.contract.1 in
        let apart = legs_apart (contracts_of b) p (law.sound.combinations k p g.stands).fitted in
        let account = g.account in
        let leg = g.leg in
        let claim : written_claim a c p ≡ p.lots = grind (arith, nat_tests) in
        let here : cond (eqb k k) whole 0 ≡ whole = grind (arith, nat_tests) in
        let few : lots ≤ p.lots = omega (arith, here, weighed_part (λ z. engages k z z.kind) l.orders n o stands, law.sound.engaged_most k p g.stands) in
        (omega (arith, few, claim, lot.written_free, weighed_part (written_claim a c) l.combinations k p g.stands), standing_at (λ (z : Pairing). lots ≤ z.lots) g.stands few)
    fillable kind a whole limit stands within = tt
