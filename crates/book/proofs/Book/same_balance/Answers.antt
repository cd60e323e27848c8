use Rattle.std.proofs.Common.{refl, eq-eqb}
use Rattle.margin.specs.Meaning.{Meaning, meaning}
use Rattle.ledger.proofs.Books.{same_books_balance}
use Rattle.book.proofs.Book.same_balance.Goals as goal

pub returns : goal.returns
returns g c =
    let m : Meaning = meaning g.S.LegScale.leg_of g.S.CombinationScale.pair_of c.args.scale.now in
    let n : Meaning = meaning g.T.LegScale.leg_of g.T.CombinationScale.pair_of c.args.other_scale.now in
    let b = c.args.self.now.tables in
    let d = c.args.other.now.tables in
    record {
      answer = refl;
      law = λ meanings contracts books.
          let e = same_books_balance m n b d c.requires.its_scale c.requires.others_scale meanings contracts books in
          (e, eq-eqb b.funds.balance d.funds.balance e);
    }
