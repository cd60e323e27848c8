-- The tables of a book as it is opened.
use Rattle.std.proofs.Common.{◌≡◌, ℕ, zero, suc, replicate, refl}
use Rattle.std.proofs.lemmas.List.{length-replicate}
use Rattle.register.specs.declared.row.Row.{Row}
use Rattle.register.specs.declared.series.Series.{Series}
use Rattle.register.specs.Numbers.{next_of}
use Rattle.margin.specs.declared.listing.Listing.{Listing}
use Rattle.margin.specs.Listing.{listed}
use Rattle.ledger.specs.declared.order.Combination.{Combination}
use Rattle.ledger.specs.declared.order.Order.{Order}
use Rattle.ledger.specs.declared.settings.Settings.{Settings}
use Rattle.ledger.specs.declared.tables.Tables.{Tables}
use Rattle.ledger.specs.Law.{none}
use Rattle.ledger.specs.Keeps.{Free, Opened}

free_rows : {T : Type 0} (n : ℕ) (r : Row T) → r.number ≡ 0 → Free (replicate n r)
free_rows zero r e = tt
free_rows (suc n) r e = (e, free_rows n r e)

abbrev pub tables : Settings → Listing → Row Combination → Row Order → Series → Series → Tables
tables s l k o ks os = record {
  listing = l;
  permitted = s.permitted;
  positions = replicate 512 none;
  combinations = replicate 64 k;
  orders = replicate 64 o;
  combination_series = ks;
  order_series = os;
  funds = record { balance = s.opening; held = 0; reserved = 0; cash = s.opening };
}

pub opened : (s : Settings) (l : Listing) (k : Row Combination) (o : Row Order) (ks os : Series) → k.number ≡ 0 → o.number ≡ 0 → next_of ks ≡ s.first_number → next_of os ≡ s.first_number →
    Opened (listed l) s.permitted s.opening s.first_number (tables s l k o ks os)
opened s l k o ks os k_free o_free ks_first os_first = record {
  contracts = refl;
  strategies = refl;
  positions = refl;
  combination_rows = length-replicate 64 k;
  order_rows = length-replicate 64 o;
  combinations = free_rows 64 k k_free;
  orders = free_rows 64 o o_free;
  next_combination = ks_first;
  next_order = os_first;
  funds = refl;
}
