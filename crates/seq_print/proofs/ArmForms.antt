-- The trees of arms, one after another.
use Rattle.std.proofs.Common.{◌≡◌, ℕ, suc, ◌+◌, ◌<◌, List, ◌∷◌, map, length, drop, get_or, ap, sym, add-one, drop-cons}
use Rattle.seq_tree.specs.Trees.{arm_of, block_of, expression_of}
use Rattle.seq_tree.specs.declared.tree.Arm.{Arm}
use Rattle.seq_tree.proofs.Shared.TreeForms.{arm-tree}

-- an arm and those behind it
pub arms-next : (arms : List Arm) (i : ℕ) (a : Arm) → i < length arms → a ≡ get_or arms i a
    → map arm_of (drop i arms) ≡ (expression_of a.cond, block_of a.block) ∷ map arm_of (drop (i + 1) arms)
arms-next arms i a h e =
    let d : drop i arms ≡ a ∷ drop (i + 1) arms = rw (add-one, drop-cons arms i a h) (ap (λ x. x ∷ drop (suc i) arms) (sym e)) in
    rw d (ap (λ x. x ∷ map arm_of (drop (i + 1) arms)) (arm-tree a))
