-- The values of a call's actuals as code has them, with 0 where an actual lacks, and as the definitions have them.
use Rattle.std.proofs.Common.{◌≡◌, ℕ, List, [], ◌∷◌, length, refl, ap, sym, ◌∙◌, arith}
use Rattle.seq_tree.specs.Expressions.{Expression}
use Rattle.seq_tree.specs.Values.{handed, handed_by, value}
use Rattle.seq_tree.specs.Variables.{Variables, entered, entered_by}
use Rattle.seq_tree.specs.declared.tree.Mode.{Mode}
use Rattle.seq_tree.specs.declared.tree.Mode.TheVariants.{In, Out}
use Rattle.seq_tree.specs.declared.tree.Param.{Param}
use Rattle.linker.specs.Standing.{first_or_0, in_by, values_in}
use Rattle.task_runtime.specs.Handing.{values_of}

none_handed : (ps : List Param) (vs : Variables) → handed ps [] vs ≡ []
none_handed [] vs = refl
none_handed (p ∷ ps) vs = refl

-- a parameter with its actual
entered_one : (m : Mode) (p : Param) (ps : List Param) (a : Expression) (es : List Expression) (xs : List ℕ) (vs : Variables)
    → entered ps xs ≡ entered ps (values_of es vs)
    → entered_by m p.name (handed_by m (value a vs) xs) (entered ps) ≡ entered_by m p.name (values_of (in_by m a es) vs) (entered ps)
entered_one In p ps a es xs vs rest = ap (λ z. (p.name, value a vs) ∷ z) rest
entered_one Out p ps a es xs vs rest = ap (λ z. (p.name, 0) ∷ z) rest

-- a parameter without one
entered_none : (m : Mode) (p : Param) (ps : List Param) (es : List Expression) (vs : Variables) → entered ps [] ≡ entered ps (values_of es vs)
    → entered_by m p.name [] (entered ps) ≡ entered_by m p.name (values_of (in_by m (first_or_0 []) es) vs) (entered ps)
entered_none In p ps es vs rest = ap (λ z. (p.name, 0) ∷ z) rest
entered_none Out p ps es vs rest = ap (λ z. (p.name, 0) ∷ z) rest

-- parameters at entry are the same
pub entered_same : (ps : List Param) (es : List Expression) (vs : Variables)
    → entered ps (handed ps es vs) ≡ entered ps (values_of (values_in ps es) vs)
entered_same [] es vs = refl
entered_same (p ∷ ps) [] vs =
    entered_none p.mode p ps (values_in ps []) vs (ap (entered ps) (sym (none_handed ps vs)) ∙ entered_same ps [] vs)
entered_same (p ∷ ps) (a ∷ es) vs = entered_one p.mode p ps a (values_in ps es) (handed ps es vs) vs (entered_same ps es vs)

handed_one : (m : Mode) (a : Expression) (es : List Expression) (xs : List ℕ) (vs : Variables) → xs ≡ values_of es vs
    → handed_by m (value a vs) xs ≡ values_of (in_by m a es) vs
handed_one In a es xs vs rest = ap (λ z. value a vs ∷ z) rest
handed_one Out a es xs vs rest = rest

-- where there are as many actuals as parameters, they are the values that are handed in
pub handed_same : (ps : List Param) (es : List Expression) (vs : Variables) → length es ≡ length ps
    → handed ps es vs ≡ values_of (values_in ps es) vs
handed_same [] es vs h = refl
handed_same (p ∷ ps) [] vs h = absurd (omega (arith, h))
handed_same (p ∷ ps) (a ∷ es) vs h = handed_one p.mode a (values_in ps es) (handed ps es vs) vs (handed_same ps es vs (omega (arith, h)))
