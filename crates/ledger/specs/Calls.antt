-- The kind of each call, with its number and its name. Assumes nothing.
use Rattle.std.specs.Prelude.{ℕ, List, codes, Result}
use Rattle.margin.specs.declared.number.UnknownNumber.{UnknownNumber}
use Rattle.margin.specs.Numbers.{CaseOf}
use Rattle.ledger.specs.declared.call.Call.{Call}
use Rattle.ledger.specs.declared.call.Call.TheVariants.{Deposit, Withdraw, SellOpen, BuyOpen, BuyClose, SellClose, LegClose, Fill, Cancel, Combine, Release}
use Rattle.ledger.specs.declared.call.CallKind.{CallKind}
use Rattle.ledger.specs.declared.call.CallKind.TheVariants.{Deposit as DepositKind, Withdraw as WithdrawKind, SellOpen as SellOpenKind, BuyOpen as BuyOpenKind, BuyClose as BuyCloseKind, SellClose as SellCloseKind, LegClose as LegCloseKind, Fill as FillKind, Cancel as CancelKind, Combine as CombineKind, Release as ReleaseKind}

abbrev pub kind_of : Call → CallKind
kind_of (Deposit amount) = DepositKind
kind_of (Withdraw amount) = WithdrawKind
kind_of (SellOpen account contract lots limit) = SellOpenKind
kind_of (BuyOpen account contract lots limit) = BuyOpenKind
kind_of (BuyClose account contract lots limit) = BuyCloseKind
kind_of (SellClose account contract lots limit) = SellCloseKind
kind_of (LegClose combination leg lots limit) = LegCloseKind
kind_of (Fill order lots price) = FillKind
kind_of (Cancel order) = CancelKind
kind_of (Combine account strategy first second lots) = CombineKind
kind_of (Release combination lots) = ReleaseKind

abbrev pub kind_number : CallKind → ℕ
kind_number DepositKind = 1
kind_number WithdrawKind = 2
kind_number SellOpenKind = 3
kind_number BuyOpenKind = 4
kind_number BuyCloseKind = 5
kind_number SellCloseKind = 6
kind_number LegCloseKind = 7
kind_number FillKind = 8
kind_number CancelKind = 9
kind_number CombineKind = 10
kind_number ReleaseKind = 11

abbrev pub kind_name : CallKind → List ℕ
kind_name DepositKind = codes "deposit"
kind_name WithdrawKind = codes "withdraw"
kind_name SellOpenKind = codes "sell-open"
kind_name BuyOpenKind = codes "buy-open"
kind_name BuyCloseKind = codes "buy-close"
kind_name SellCloseKind = codes "sell-close"
kind_name LegCloseKind = codes "leg-close"
kind_name FillKind = codes "fill"
kind_name CancelKind = codes "cancel"
kind_name CombineKind = codes "combine"
kind_name ReleaseKind = codes "release"

abbrev pub CallKindOf : ℕ → Result CallKind UnknownNumber → Type 0
CallKindOf = CaseOf kind_number 11

abbrev pub call_number : Call → ℕ
call_number c = kind_number (kind_of c)

abbrev pub call_name : Call → List ℕ
call_name c = kind_name (kind_of c)
