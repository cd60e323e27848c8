-- The tables of a book. Assumes nothing.
use Rattle.ledger.specs.declared.tables.Tables.{Tables}
use Rattle.book.specs.declared.Book.{Book}

abbrev pub tables_of : Book → Tables
tables_of b = b.tables
