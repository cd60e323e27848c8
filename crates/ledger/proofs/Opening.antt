-- The law stands at opening.
use Rattle.std.proofs.Common.{◌≡◌, ℕ, ◌*◌, true, cond, eqb, ltb, List, [], ◌∷◌, map, length, get_or, replicate, None, sum_by, sym, refl, ap, ◌∙◌, subst, ⊎_elim, arith}
use Rattle.std.proofs.lemmas.List.Sums.{sum_by-cons}
use Rattle.std.proofs.lemmas.List.{length-replicate, length-take-le, get_or-replicate, get_or_past}
use Rattle.std.proofs.lemmas.Bool.{and_parts, cases_eq, cases_lt, cond-true, eq-eqb, ltb-true}
use Rattle.margin.specs.declared.listing.Listing.{Listing}
use Rattle.margin.specs.Terms.{terms_of}
use Rattle.margin.specs.Listed.{rising_from}
use Rattle.margin.specs.Listing.{listed}
use Rattle.margin.specs.ByCode.{index}
use Rattle.margin.specs.declared.contract.Contract.{Contract}
use Rattle.register.specs.declared.row.Row.{Row}
use Rattle.register.specs.Rows.{lookup, Apart, NumbersBelow}
use Rattle.register.proofs.After.{lookup_zero, absent_above, apart_free}
use Rattle.ledger.specs.declared.order.Order.{Order}
use Rattle.ledger.specs.declared.settings.Settings.{Settings}
use Rattle.ledger.specs.declared.tables.Funds.{Funds}
use Rattle.ledger.specs.Ledger.{opening_ledger}
use Rattle.ledger.specs.Law.{Lots, contracts_of, position_of, none, place}
use Rattle.ledger.specs.OrderRules.{working_sum, opens_written, opens_bought}
use Rattle.ledger.specs.Runs.{Rising}
use Rattle.ledger.specs.Keeps.{PassedFile, Free, OpeningLaw}

module _ {T : Type 0} where
  free_below : (rs : List (Row T)) → Free rs → NumbersBelow rs 1
  free_below [] f = tt
  free_below (r ∷ rs) f = (omega (arith, f.0), free_below rs f.1)

  free_lookup : (rs : List (Row T)) (n : ℕ) → Free rs → lookup rs n ≡ None
  free_lookup rs n f =
      ⊎_elim (λ e. lookup_zero rs n e) (λ ne. absent_above rs n 1 (omega (arith, ne)) (free_below rs f)) (cases_eq n 0)

  free_apart : (rs : List (Row T)) → Free rs → Apart rs
  free_apart rs f = apart_free rs (free_below rs f)

free_standing : (rs : List (Row Order)) (g : Order → ℕ) → Free rs → working_sum rs g ≡ 0
free_standing [] g f = refl
free_standing (r ∷ rs) g f =
    omega (arith, sum_by-cons (λ (x : Row Order). cond (eqb x.number 0) 0 (g x.entry)) r rs, cond-true (eqb r.number 0) 0 (g r.entry) (eq-eqb _ _ f.0), free_standing rs g f.1)

no_legs : (leg : Contract → ℕ) (cs : List Contract) → sum_by (λ (c : Contract). leg c * 0) cs ≡ 0
no_legs leg [] = refl
no_legs leg (c ∷ cs) = omega (arith, sum_by-cons (λ (c : Contract). leg c * 0) c cs, no_legs leg cs)

no_lots : (i : ℕ) → get_or (replicate 512 none) i none ≡ none
no_lots i = ⊎_elim (λ h. get_or-replicate 512 i none none h) (λ h. get_or_past (replicate 512 none) i none (omega (arith, h, length-replicate 512 none))) (cases_lt i 512)

pub opening_law : OpeningLaw
opening_law m cs permitted balance first b file o =
    let cash : b.funds.cash ≡ balance = ap (λ (f : Funds). f.cash) o.funds in
    let held : b.funds.held ≡ 0 = ap (λ (f : Funds). f.held) o.funds in
    let reserved : b.funds.reserved ≡ 0 = ap (λ (f : Funds). f.reserved) o.funds in
    let free : b.funds.balance ≡ balance = ap (λ (f : Funds). f.balance) o.funds in
    let empty : (a code : ℕ) → position_of b a code ≡ none = λ a code. ap (λ ps. get_or ps (place a (index (contracts_of b) code)) none) o.positions ∙ no_lots (place a (index (contracts_of b) code)) in
    record {
      beside = record {
        cash = omega (arith, cash);
        lots = λ a code c low high is. subst (λ p. Lots (opening_ledger balance first) a code p) (sym (empty a code)) (record { bought = refl; written = refl; locked_bought = refl; locked_written = refl; bought_free = omega arith; written_free = omega arith });
        combinations = λ n. free_lookup b.combinations n o.combinations;
        orders = λ n. free_lookup b.orders n o.orders;
        next_combination = o.next_combination;
        next_order = o.next_order;
        held = omega (arith, held, no_legs m.leg (contracts_of b));
        reserved = reserved;
        sum = omega (arith, held, reserved, free);
      };
      sound = record {
        codes = subst (λ z. Rising 0 z) (sym o.contracts) file.codes;
        count = omega (arith, ap length o.contracts, file.count.1);
        position_rows = ap length o.positions ∙ length-replicate 512 none;
        cash = omega (arith, file.most);
        owned = λ a code some. absurd (omega (arith, some));
        combination_numbers = tt;
        order_numbers = tt;
        combinations = λ n p e. absurd cc;
        orders = λ n p e. absurd cc;
        engaged_most = λ n p e. absurd cc;
        combination_rows = free_apart b.combinations o.combinations;
        order_rows = free_apart b.orders o.orders;
        last_combination = (file.numbers.0, omega (arith, file.numbers));
        last_order = (file.numbers.0, omega (arith, file.numbers));
        written_most = λ a code. omega (arith, free_standing b.orders (λ x. opens_written a code x x.kind) o.orders);
        bought_most = λ a code. omega (arith, free_standing b.orders (λ x. opens_bought a code x x.kind) o.orders);
      };
    }

rises : (low : ℕ) (cs : List Contract) → rising_from low (map terms_of cs) ≡ true → Rising low cs
rises low [] e = tt
rises low (c ∷ cs) e = let p = and_parts (ltb low c.code) (rising_from c.code (map terms_of cs)) e in (ltb-true low c.code p.0, rises c.code cs p.1)

-- settings and a listing are what a passed file warrants
pub passed : (s : Settings) (l : Listing) → PassedFile (listed l) s.permitted s.opening s.first_number
passed s l =
    let many : length (listed l) ≡ l.count = length-take-le l.count l.contracts (omega (arith, l.table, l.counted.1)) in
    record {
      codes = rises 0 (listed l) l.rising;
      count = (omega (arith, many, l.counted.0), omega (arith, many, l.counted.1));
      strategies = s.permitted_in_range;
      most = s.opening_in_range;
      numbers = (s.first_number_in_range.0, omega (arith, s.first_number_in_range.1));
    }
