-- A loop that adds what each item gives: one step of it.
use Rattle.std.proofs.Common.{◌≡◌, ℕ, ◌+◌, ◌<◌, List, ◌++◌, length, drop, map, flat_map, ap, sym, ◌∙◌, append_assoc}
use Rattle.std.proofs.Math.ListN.{get_or}
use Rattle.std.specs.List.{enumerate_from}
use Rattle.seq_tree.proofs.Shared.LoopSteps.{drop_step}

-- what an item gives, which depends on its place, is added, and what is left is that of the items behind it
pub counted_step : {A B C : Type 0} (g : ℕ × B → List C) (v : A → B) (xs : List A) (i : ℕ) (x : A) (before new all : List C)
    → i < length xs → x ≡ get_or xs i x → new ≡ before ++ g (i, v x) → before ++ flat_map g (enumerate_from i (map v (drop i xs))) ≡ all
    → new ++ flat_map g (enumerate_from (i + 1) (map v (drop (i + 1) xs))) ≡ all
counted_step g v xs i x before new all inside at made was =
    let rest = map v (drop (i + 1) xs) in
    ap (λ ys. ys ++ flat_map g (enumerate_from (i + 1) rest)) made ∙ append_assoc before (g (i, v x)) (flat_map g (enumerate_from (i + 1) rest))
    ∙ ap (λ ys. before ++ flat_map g (enumerate_from i (map v ys))) (sym (drop_step xs i x inside at)) ∙ was
