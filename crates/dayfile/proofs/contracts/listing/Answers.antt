use Rattle.std.proofs.Common.{◌≡◌, ◌+◌, ◌<◌, [], ◌∷◌, ◌++◌, length, map, None, sym, refl, ap, ◌∙◌, subst, arith}
use Rattle.std.proofs.lemmas.Bool.{lt-ltb}
use Rattle.std.proofs.lemmas.List.{length_push}
use Rattle.std.proofs.lemmas.Result.{err_from_is_err_and}
use Rattle.margin.specs.Terms.{Terms, terms_of}
use Rattle.margin.specs.Listing.{listed_terms}
use Rattle.dayfile.specs.Faults.{record_told, section_number, first}
use Rattle.dayfile.specs.Records.{terms_in}
use Rattle.dayfile.specs.Format.{first_below, contract_fault, count_of_contracts, listing_fault, terms}
use Rattle.dayfile.proofs.Firsts.{first_more, first_found}
use Rattle.dayfile.proofs.Handed.{At, begun, left, handed, moved}
use Rattle.dayfile.proofs.Listings.{lists, record_fault, listed_more, one_more}
use Rattle.dayfile.proofs.contracts.listing.Goals as goal

pub loop-found-init : goal.loop-found-init
loop-found-init c =
    let found = c.in-Some.first in
    let first_is = c.in_ok-contract.ensures in
    let at = begun c.records-records.ensures in
    let h = handed at c.in-Some.ensures.steps in
    let day = c.args.settings.now.day in
    let code : 0 < (terms_in found.bytes.now).code = omega (arith, ap (λ (t : Terms). t.code) first_is.said, c.in_ok-contract.field-0.code_in_range.0) in
    let listing = lists [] (terms_in found.bytes.now) (section_number found.section) found.ordinal found.place (lt-ltb 0 _ code) refl in
    let terms_are = ap (map terms_of) c.of-listing.ensures ∙ ap (λ t. t ∷ []) first_is.said in record {
      sound = λ bytes of is. (
        sym (record_fault bytes c.args.span.now of 0 found [] refl h day is) ∙ ap (λ o. first o (listing_fault [] (terms_in found.bytes.now) (section_number found.section) found.ordinal found.place)) first_is.fault ∙ listing,
        listed_more bytes c.args.span.now of 0 found [] refl h (listed_terms c.of-listing.result) terms_are,
      );
      many = ap length c.of-listing.ensures;
      at = subst (λ r. At c.args.span.now 1 r) (sym c.into_iter-found-iterator.ensures.into_iter_gives) (moved at c.in-Some.ensures.steps);
    }

pub loop-found-preserved : goal.loop-found-preserved
loop-found-preserved c =
    let k = length c.loop-found.yielded + 1 in
    let span = c.args.span.now in
    let found = c.in-Some-found.found in
    let inv = c.loop-found.invariant in
    let judged = c.in_ok-judge.ensures in
    let h = handed inv.at c.in-Some-found.ensures.steps in
    let earlier = listed_terms c.loop-found.listing in
    let more : length (c.loop-found.yielded ++ found ∷ []) + 1 ≡ k + 1 = ap (λ n. n + 1) (length_push c.loop-found.yielded found) in record {
      sound = λ bytes of is.
          let p = inv.sound bytes of is in
          let none = sym (record_fault bytes span of k found earlier p.1 h c.args.settings.now.day is) ∙ judged.fault in (
            subst (λ n. first_below n (contract_fault bytes) ≡ None) (sym more) (first_more (contract_fault bytes) k p.0 none),
            subst (λ n. listed_terms c.judge.new.listing ≡ terms bytes n) (sym more) (listed_more bytes span of k found earlier p.1 h (listed_terms c.judge.new.listing) judged.joined),
          );
      many = one_more c.loop-found.listing c.judge.new.listing (terms_in found.bytes.now) judged.joined ∙ ap (λ n. n + 1) inv.many ∙ sym more;
      at = subst (λ n. At span n c.next-in-loop-found.new.self) (sym more) (moved inv.at c.in-Some-found.ensures.steps);
    }

pub returns : goal.returns
returns c = λ bytes of is.
    let inv = c.loop-found.invariant in
    let p = inv.sound bytes of is in
    let all : length c.loop-found.yielded + 1 ≡ count_of_contracts bytes = omega (arith, left inv.at, c.in-None.ensures.steps, of.long) in
    (subst (λ n. first_below n (contract_fault bytes) ≡ None) all p.0, subst (λ n. listed_terms c.loop-found.listing ≡ terms bytes n) all p.1)

pub returns-in_err-contract : goal.returns-in_err-contract
returns-in_err-contract c =
    let found = c.in-Some.first in
    let h = handed (begun c.records-records.ensures) c.in-Some.ensures.steps in
    let day = c.args.settings.now.day in
    let fault = record_told c.in_err-contract.field-0.0 in
    let p = err_from_is_err_and c.from_residual.result c.from_residual.ensures.1 in
    rw (p.1, p.2) (λ bytes of is. first_found (contract_fault bytes) (count_of_contracts bytes) 0 fault (omega (arith, of.long)) refl
    (sym (record_fault bytes c.args.span.now of 0 found [] refl h day is) ∙ ap (λ o. first o (listing_fault [] (terms_in found.bytes.now) (section_number found.section) found.ordinal found.place)) c.in_err-contract.ensures.fault))

pub returns-in_err-judge : goal.returns-in_err-judge
returns-in_err-judge c =
    let k = length c.loop-found.yielded + 1 in
    let found = c.in-Some-found.found in
    let inv = c.loop-found.invariant in
    let h = handed inv.at c.in-Some-found.ensures.steps in
    let p = err_from_is_err_and c.from_residual-in_err-judge.result c.from_residual-in_err-judge.ensures.1 in
    rw (p.1, p.2) (λ bytes of is. let q = inv.sound bytes of is in first_found (contract_fault bytes) (count_of_contracts bytes) k (record_told c.in_err-judge.field-0.0) (omega (arith, of.long, h.within)) q.0
    (sym (record_fault bytes c.args.span.now of k found (listed_terms c.loop-found.listing) q.1 h c.args.settings.now.day is) ∙ c.in_err-judge.ensures.fault))
