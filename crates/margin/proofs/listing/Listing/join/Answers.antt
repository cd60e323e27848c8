use Rattle.std.proofs.Common.{map, sym, refl, ap, ◌∙◌, arith}
use Rattle.std.proofs.lemmas.List.{length-set}
use Rattle.margin.specs.Terms.{terms_of}
use Rattle.margin.specs.Listed.{clashes_any}
use Rattle.margin.proofs.Listings.{room_of, clash_of_any, few, not_above, is_above, joined, still_rising, still_agreeing}
use Rattle.margin.proofs.listing.Listing.join.Goals as goal

pub returns-then-next-self : goal.returns-then-next-self
returns-then-next-self c =
    let r = room_of c.args.self.now c.index-self-count.result (omega arith) c.index-self-count.is in
    (few r c.args.next, not_above r c.args.next (omega arith), refl)

pub returns-then-clashing : goal.returns-then-clashing
returns-then-clashing c =
    let r = room_of c.args.self.now c.index-self-count.result (omega arith) c.index-self-count.is in
    let clashing = c.if-clashing.ensures ∙ clash_of_any _ (terms_of c.args.next) ∙ ap (λ l. clashes_any (map terms_of l) (terms_of c.args.next)) c.contracts.ensures.are in
    (few r c.args.next, is_above r c.args.next (omega arith), sym clashing, refl)

pub invariant_of-self : goal.invariant_of-self
invariant_of-self c =
    let r = room_of c.args.self.now c.index-self-count.result (omega arith) c.index-self-count.is in
    let apart = c.if-clashing.ensures ∙ clash_of_any _ (terms_of c.args.next) ∙ ap (λ l. clashes_any (map terms_of l) (terms_of c.args.next)) c.contracts.ensures.are in
    let table = length-set c.args.self.now.contracts c.args.self.now.count c.args.next ∙ c.args.self.now.table in
    let rising = still_rising r c.args.next (omega arith) c.args.self.now.rising in
    let agreeing = still_agreeing r c.args.next (sym apart) c.args.self.now.agreeing in
    record { table = table; counted = (omega arith, omega arith); rising = rising; agreeing = agreeing }

pub returns : goal.returns
returns c =
    let r = room_of c.args.self.now c.index-self-count.result (omega arith) c.index-self-count.is in
    let apart = c.if-clashing.ensures ∙ clash_of_any _ (terms_of c.args.next) ∙ ap (λ l. clashes_any (map terms_of l) (terms_of c.args.next)) c.contracts.ensures.are in
    (few r c.args.next, is_above r c.args.next (omega arith), sym apart, joined r c.args.next)
