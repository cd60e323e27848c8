-- A contract by its ten numbers. Assumes nothing.
use Rattle.std.specs.Prelude.{ℕ, List, [], ◌∷◌}
use Rattle.margin.specs.declared.contract.Contract.{Contract}
use Rattle.margin.specs.declared.contract.Right.{Right}
use Rattle.margin.specs.declared.contract.Right.TheVariants.{Call, Put}
use Rattle.margin.specs.declared.contract.Kind.{Kind}
use Rattle.margin.specs.declared.contract.Kind.TheVariants.{Stock, Fund}

abbrev pub right_number : Right → ℕ
right_number Call = 1
right_number Put = 2

abbrev pub kind_number : Kind → ℕ
kind_number Stock = 1
kind_number Fund = 2

-- prices in hao, the listed margin in fen
pub record Terms : Type 0 where
  pub code : ℕ
  pub underlying : ℕ
  pub expiry : ℕ
  pub right : ℕ
  pub kind : ℕ
  pub unit : ℕ
  pub strike : ℕ
  pub settlement : ℕ
  pub underlying_close : ℕ
  pub listed_margin : ℕ

abbrev pub terms_of : Contract → Terms
terms_of c = record { code = c.code; underlying = c.underlying; expiry = c.expiry; right = right_number c.right; kind = kind_number c.kind; unit = c.unit; strike = c.strike; settlement = c.settlement; underlying_close = c.underlying_close; listed_margin = c.listed_margin }

abbrev pub terms_numbers : Terms → List ℕ
terms_numbers t = t.code ∷ t.underlying ∷ t.expiry ∷ t.right ∷ t.kind ∷ t.unit ∷ t.strike ∷ t.settlement ∷ t.underlying_close ∷ t.listed_margin ∷ []
