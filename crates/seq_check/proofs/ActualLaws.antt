-- The actuals of `out` parameters, among all actuals with their parameters.
use Rattle.std.proofs.Common.{◌≡◌, Bool, true, false, ◌&&◌, ◌||◌, List, [], ◌∷◌, map, cond, refl, ap}
use Rattle.std.specs.Prelude.{zip}
use Rattle.std.specs.List.{list_any}
use Rattle.seq_tree.specs.Expressions.{Expression}
use Rattle.seq_tree.specs.Faults.{out_actuals}
use Rattle.seq_tree.specs.Operations.{is_out}
use Rattle.seq_tree.specs.declared.tree.Param.{Param}

step : {A : Type 0} (out : Bool) (a : A) (rest : List A) (test : A → Bool) (others : Bool) → others ≡ list_any test rest →
    (out && test a) || others ≡ list_any test (cond out (a ∷ rest) rest)
step true a rest test others h = ap (λ b. test a || b) h
step false a rest test others h = h

-- a test that an actual of an `out` parameter passes
pub outs-any : {A : Type 0} (f : A → Expression) (test : Expression → Bool) (ps : List Param) (xs : List A) →
    list_any (λ x. is_out x.0.mode && test (f x.1)) (zip ps xs) ≡ list_any test (out_actuals ps (map f xs))
outs-any f test [] xs = refl
outs-any f test (p ∷ ps) [] = refl
outs-any f test (p ∷ ps) (x ∷ xs) = step (is_out p.mode) (f x) (out_actuals ps (map f xs)) test _ (outs-any f test ps xs)
