-- A test of operations by their names has two equal sides.
use Rattle.std.proofs.Common.{◌≡◌, Bool, true, false, ◌||◌, List, [], ◌∷◌, refl, sym, ap, ◌∙◌}
use Rattle.std.specs.List.{list_any}
use Rattle.seq_tree.specs.Calls.{same_op}
use Rattle.seq_tree.specs.declared.tree.OpName.{OpName}
use Rattle.seq_tree.proofs.Shared.Walks.{same_op-eq}

equal_sides : (a b : OpName) → a ≡ b → same_op a b ≡ same_op b a
equal_sides a b e = ap (λ z. same_op z b) e ∙ ap (λ z. same_op b z) (sym e)

sides : (a b : OpName) → same_op a b ≡ same_op b a
sides a b = by (same_op a b) (same_op b a) refl refl
  where
    by : (s t : Bool) → same_op a b ≡ s → same_op b a ≡ t → same_op a b ≡ same_op b a
    by true t e f = equal_sides a b (same_op-eq a b e)
    by false true e f = equal_sides a b (sym (same_op-eq b a f))
    by false false e f = e ∙ sym f

-- whether an operation is one of these
pub any_sides : (n : OpName) (ops : List OpName) → list_any (λ op. same_op op n) ops ≡ list_any (same_op n) ops
any_sides n [] = refl
any_sides n (op ∷ ops) = ap (λ b. b || list_any (λ o. same_op o n) ops) (sides op n) ∙ ap (λ b. same_op n op || b) (any_sides n ops)
