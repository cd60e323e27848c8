use Rattle.std.proofs.Common.{◌≡◌, refl, arith}
use Rattle.register.specs.Numbers.{next_of}
use Rattle.margin.specs.Listing.{listed}
use Rattle.ledger.proofs.Opening.{opening_law, passed}
use Rattle.book.proofs.OpenTables.{opened}
use Rattle.book.proofs.Book.open.Goals as goal

pub returns : goal.returns
returns c =
    let s = c.args.settings.now in
    let l = c.args.listing.now in
    let combinations : next_of c.after.result ≡ s.first_number = omega (arith, c.after.ensures, s.first_number_in_range.0) in
    let orders : next_of c.after-2.result ≡ s.first_number = omega (arith, c.after-2.ensures, s.first_number_in_range.0) in
    let o = opened s l _ _ c.after.result c.after-2.result refl refl combinations orders in
    record { opened = o; law = λ m. opening_law m (listed l) s.permitted s.opening s.first_number _ (passed s l) o }
