-- The rules of fill and cancel. Assumes nothing.
use Rattle.std.specs.Prelude.{ℕ, ◌+◌, ◌-◌, ◌*◌, ◌^◌, Bool, cond, ◌&&◌, ltb, List, [], ◌∷◌, Some, None, Option, ◌==◌, nat_lt}
use Rattle.register.specs.Rows.{lookup, changed, removed}
use Rattle.margin.specs.ByCode.{by_code}
use Rattle.ledger.specs.declared.order.Order.{Order}
use Rattle.ledger.specs.declared.order.Combination.{Combination}
use Rattle.ledger.specs.declared.order.OrderKind.{OrderKind}
use Rattle.ledger.specs.declared.order.OrderKind.TheVariants.{SellOpen, BuyOpen, BuyClose, SellClose, LegClose}
use Rattle.ledger.specs.declared.tables.Tables.{Tables}
use Rattle.ledger.specs.declared.tables.Funds.{Funds}
use Rattle.margin.specs.Meaning.{Meaning}
use Rattle.ledger.specs.ByCode.{leg_margin_of}
use Rattle.ledger.specs.Law.{contracts_of}
use Rattle.ledger.specs.Tests.{Answer, answers, ByTests, is_none, meets, Standing, bad_lots, bad_price}
use Rattle.ledger.specs.Moves.{content, funds_to, orders_to, combinations_to, unlocking_bought, unlocking_written, buying, writing, closing_bought, closing_written, at, unlock_first, with_lots, combination_rest, order_rest, content_of, combination_named}
use Rattle.ledger.specs.CombinationRules.{leg_close_per_lot}
use Rattle.ledger.specs.Amounts.{leg_close_reserve, reserve_with, premium, pair_per_lot, other_leg_margin}
use Rattle.ledger.specs.Content.{contract_of, sells}

-- what a fill brings back and receives, and what it pays and takes: the reserve, the premium on either side, margin on either side
pub record Flow : Type 0 where
  pub reserve : ℕ
  pub received : ℕ
  pub paid : ℕ
  pub back : ℕ
  pub taken : ℕ

abbrev pub fill_funds : ℕ → ℕ → ℕ → ℕ → ℕ → Funds → Funds
fill_funds reserve received paid back taken f = record { balance = f.balance + reserve + received + back - paid - taken; held = f.held + taken - back; reserved = f.reserved - reserve; cash = f.cash + received - paid }

abbrev pub filled_funds : Flow → Funds → Funds
filled_funds w f = fill_funds w.reserve w.received w.paid w.back w.taken f

-- the balance with what comes back and is received does not cover what is paid and taken
abbrev pub short_of_funds : Flow → Funds → Bool
short_of_funds w f = nat_lt (f.balance + w.reserve + w.received + w.back) (w.paid + w.taken)

-- a price worse than an order's limit
abbrev pub past_limit : Order → ℕ → Bool
past_limit o price = cond (sells o.kind) (nat_lt price o.limit) (nat_lt o.limit price)

module _ (b : Tables) where
  -- the other leg of a combination is unlocked on its side; its leg margin is taken where it is written
  abbrev pub other_unlocked : Combination → ℕ → ℕ → Tables → Tables
  other_unlocked k code lots to = cond (code == k.second) (at k.account k.first (unlock_first k.strategy lots) to) (at k.account k.second (unlocking_written lots) to)

  -- the lots of a cancelled leg close are engaged no more
  abbrev pub disengaged : ℕ → ℕ → Tables → Option Combination → Tables
  disengaged n lots to (Some k) = combinations_to (changed b.combinations n (with_lots k.lots (k.engaged - lots) k)) b.combination_series to
  disengaged n lots to None = to

  abbrev pub freed : OrderKind → Order → Tables → Tables
  freed (SellOpen c) o to = to
  freed (BuyOpen c) o to = to
  freed (BuyClose c) o to = at o.account c (unlocking_written o.lots) to
  freed (SellClose c) o to = at o.account c (unlocking_bought o.lots) to
  freed (LegClose n c) o to = disengaged n o.lots to (lookup b.combinations n)

module _ (m : Meaning) (b : Tables) where
  abbrev pub leg_reserve : ℕ → ℕ → Option Combination → ℕ
  leg_reserve c limit k = leg_close_reserve m (contracts_of b) c limit (content_of k)

  abbrev pub reserve_per_lot : OrderKind → ℕ → ℕ
  reserve_per_lot kind limit = reserve_with m (contracts_of b) kind limit (combination_named b.combinations kind)

  abbrev traded_premium : OrderKind → ℕ → ℕ → ℕ
  traded_premium kind lots price = premium (contracts_of b) (contract_of kind) lots price

  abbrev pub other_margin : Combination → ℕ → ℕ
  other_margin k code = other_leg_margin m (contracts_of b) code (content k)

  -- what each fill moves of the funds; that of a leg close by its combination
  abbrev pub leg_flow : ℕ → ℕ → ℕ → ℕ → Option Combination → Flow
  leg_flow c limit lots price (Some k) = record {
    reserve = lots * leg_close_per_lot m b k c limit;
    received = 0;
    paid = premium (contracts_of b) c lots price;
    back = lots * pair_per_lot m (contracts_of b) k.strategy k.first k.second;
    taken = lots * other_margin k c;
  }
  leg_flow c limit lots price None = record { reserve = 0; received = 0; paid = 0; back = 0; taken = 0 }

  abbrev pub flow : OrderKind → ℕ → ℕ → ℕ → Flow
  flow (SellOpen c) limit lots price = record { reserve = lots * reserve_per_lot (SellOpen c) limit; received = traded_premium (SellOpen c) lots price; paid = 0; back = 0; taken = lots * leg_margin_of m (by_code (contracts_of b) c) }
  flow (BuyOpen c) limit lots price = record { reserve = lots * reserve_per_lot (BuyOpen c) limit; received = 0; paid = traded_premium (BuyOpen c) lots price; back = 0; taken = 0 }
  flow (BuyClose c) limit lots price = record { reserve = lots * reserve_per_lot (BuyClose c) limit; received = 0; paid = traded_premium (BuyClose c) lots price; back = lots * leg_margin_of m (by_code (contracts_of b) c); taken = 0 }
  flow (SellClose c) limit lots price = record { reserve = 0; received = traded_premium (SellClose c) lots price; paid = 0; back = 0; taken = 0 }
  flow (LegClose n c) limit lots price = leg_flow c limit lots price (lookup b.combinations n)

  -- the fill of a leg close, by its combination
  abbrev pub leg_traded : Order → ℕ → ℕ → ℕ → ℕ → Tables → Option Combination → Tables
  leg_traded o n c lots price to (Some k) =
      funds_to (filled_funds (leg_flow c o.limit lots price (Some k)) b.funds)
      (combinations_to (combination_rest n lots lots k b.combinations) b.combination_series (other_unlocked b k c lots (at o.account c (closing_written lots) to)))
  leg_traded o n c lots price to None = to

  abbrev pub traded : Order → OrderKind → ℕ → ℕ → Tables → Tables
  traded o (SellOpen c) lots price to = funds_to (filled_funds (flow (SellOpen c) o.limit lots price) b.funds) (at o.account c (writing lots) to)
  traded o (BuyOpen c) lots price to = funds_to (filled_funds (flow (BuyOpen c) o.limit lots price) b.funds) (at o.account c (buying lots) to)
  traded o (BuyClose c) lots price to = funds_to (filled_funds (flow (BuyClose c) o.limit lots price) b.funds) (at o.account c (closing_written lots) to)
  traded o (SellClose c) lots price to = funds_to (filled_funds (flow (SellClose c) o.limit lots price) b.funds) (at o.account c (closing_bought lots) to)
  traded o (LegClose n c) lots price to = leg_traded o n c lots price to (lookup b.combinations n)

  -- the tests that look at the order
  abbrev pub fill_order_tests : Option Order → ℕ → ℕ → List (ℕ × Bool)
  fill_order_tests o lots price =
      (16, is_none o)
      ∷ (18, meets o (λ x. ltb x.lots lots))
      ∷ (20, meets o (λ x. past_limit x price))
      ∷ (21, meets o (λ x. short_of_funds (flow x.kind x.limit lots price) b.funds))
      ∷ (24, meets o (λ x. sells x.kind && nat_lt (10 ^ 17) (b.funds.cash + traded_premium x.kind lots price)))
      ∷ []

  abbrev pub fill_tests : Option Order → ℕ → ℕ → List (ℕ × Bool)
  fill_tests o lots price = bad_lots lots ∷ bad_price price ∷ fill_order_tests o lots price

  abbrev pub FillRule : ℕ → ℕ → ℕ → Answer → Tables → Type 0
  FillRule n lots price r after =
      let o = lookup b.orders n in
      ByTests (fill_tests o lots price) b r after
      (λ r after. Standing o (λ x. answers 0 (traded x x.kind lots price (orders_to (order_rest n lots x b.orders) b.order_series b)) r after))

  abbrev pub CancelRule : ℕ → Answer → Tables → Type 0
  CancelRule n r after =
      let o = lookup b.orders n in
      ByTests ((16, is_none o) ∷ []) b r after
      (λ r after. Standing o (λ x. answers 0 (funds_to (fill_funds (x.lots * reserve_per_lot x.kind x.limit) 0 0 0 0 b.funds) (freed b x.kind x (orders_to (removed b.orders n) b.order_series b))) r after))
