-- A record's fields, one by one.
use Rattle.std.proofs.Common.{◌≡◌, ℕ, ◌||◌, eqb, ltb, List, [], ◌∷◌, Some, None, Option, sym, refl, ◌∙◌, ⊎_elim}
use Rattle.std.proofs.lemmas.Bool.{or_parts, ltb-false, eqb-true, cond-true, cond-false, cases_Bool}
use Rattle.std.proofs.lemmas.Option.{none-some}
use Rattle.dayfile.specs.declared.field.Field.{Field}
use Rattle.dayfile.specs.declared.field.Rule.{Rule}
use Rattle.dayfile.specs.declared.field.Rule.TheVariants.{Within, Zero, Any}
use Rattle.dayfile.specs.declared.fault.Fault.{Fault}
use Rattle.dayfile.specs.Faults.{first}
use Rattle.dayfile.specs.Fields.{breach, placed, fields_fault, Keeps, Kept}

keeps : (r : Rule) (n : ℕ) → breach r n ≡ None → Keeps r n
keeps (Within low high) n e =
    ⊎_elim (λ t. absurd (none-some 4 (sym e ∙ cond-true _ _ _ t)))
    (λ f. let p = or_parts _ _ f in (ltb-false _ _ p.0, ltb-false _ _ p.1))
    (cases_Bool (ltb n low || ltb high n))
keeps Zero n e =
    ⊎_elim (λ t. eqb-true _ _ t) (λ f. absurd (none-some 7 (sym e ∙ cond-false _ _ _ f))) (cases_Bool (eqb n 0))
keeps Any n e = tt

pub first_none : (a b : Option Fault) → first a b ≡ None → (a ≡ None) × (b ≡ None)
first_none None b e = (refl, e)
first_none (Some x) b e = absurd (none-some x (sym e))

placed_none : (o : Option ℕ) (s k p : ℕ) → placed o s k p ≡ None → o ≡ None
placed_none None s k p e = refl
placed_none (Some n) s k p e = absurd (none-some _ (sym e))

pub fields_kept : (bytes : List ℕ) (s k p : ℕ) (fs : List Field) → fields_fault bytes s k p fs ≡ None → Kept bytes fs
fields_kept bytes s k p [] e = tt
fields_kept bytes s k p (f ∷ fs) e =
    let q = first_none _ _ e in
    (keeps f.rule _ (placed_none _ s k _ q.0), fields_kept bytes s k p fs q.1)
