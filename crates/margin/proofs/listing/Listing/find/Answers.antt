use Rattle.std.proofs.Common.{◌≡◌, get_or, rules, sym, ◌∙◌, ap, Some, arith}
use Rattle.std.proofs.lemmas.List.Sorted.{answers_always}
use Rattle.margin.specs.declared.contract.Contract.{Contract}
use Rattle.margin.proofs.Listings.{found_at, not_found, first_found, first_passed, all_below}
use Rattle.margin.proofs.listing.Listing.find.Goals as goal

pub returns-in_err-place : goal.returns-in_err-place
returns-in_err-place c =
    let contracts = c.contracts-contracts.ensures in
    rw (c.from_residual.ensures, ← contracts.are) (all_below _ (rw contracts.are contracts.rising) c.args.code c.in_err-place.ensures)

pub returns-then-contract-code : goal.returns-then-contract-code
returns-then-contract-code c =
    let contracts = c.contracts-contracts.ensures in
    let there : c.index-contracts-place.result.code ≡ (get_or c.contracts-contracts.result.now c.in_ok-place.place c.index-contracts-place.result).code = ap (λ (x : Contract). x.code) c.index-contracts-place.is in
    rw (← contracts.are) (first_passed _ (rw contracts.are contracts.rising) c.args.code c.in_ok-place.place c.index-contracts-place.result c.in_ok-place.ensures (λ same. grind (arith, there, same, c.if-contract-code.true)))

pub returns-then-contracts-le-NEAR : goal.returns-then-contracts-le-NEAR
returns-then-contracts-le-NEAR c =
    let contracts = c.contracts-contracts.ensures in
    let there : c.index-contracts-place.result.code ≡ (get_or c.contracts-contracts.result.now c.in_ok-place.place c.index-contracts-place.result).code = ap (λ (x : Contract). x.code) c.index-contracts-place.is in
    let is = first_found _ (rw contracts.are contracts.rising) c.args.code c.in_ok-place.place c.index-contracts-place.result c.in_ok-place.ensures (omega (arith, there, c.if-contract-code.false)) in
    rw (← contracts.are) (is.0 ∙ ap Some (sym c.index-contracts-place.is), sym is.1, c.in_ok-place.ensures.0)

pub returns-in-Ok : goal.returns-in-Ok
returns-in-Ok c =
    let contracts = c.contracts-contracts.ensures in
    let equal = c.in-Ok.ensures.position (λ (x : Contract). x.code) (answers_always _ _ _ (λ f a r g called. search rules)) in
    let is = found_at _ (rw contracts.are contracts.rising) c.args.code _ c.index-contracts-place-in-Ok.result c.in-Ok.ensures.bound equal in
    rw (← contracts.are) (is.0 ∙ ap Some (sym c.index-contracts-place-in-Ok.is), sym is.1, c.in-Ok.ensures.bound)

pub returns-in-Err : goal.returns-in-Err
returns-in-Err c =
    let contracts = c.contracts-contracts.ensures in
    let parted = c.in-Err.ensures.position (λ (x : Contract). x.code) (answers_always _ _ _ (λ f a r g called. search rules)) in
    rw (← contracts.are) (not_found _ (rw contracts.are contracts.rising) c.args.code _ parted)
