-- Whether all numbers of `work` fit, part by part.
use Rattle.std.proofs.Common.{◌≡◌, ℕ, Bool, true, false, ◌&&◌, List, [], ◌∷◌, ◌++◌, refl, sym, ap, ◌∙◌, append_assoc}
use Rattle.std.specs.List.{list_all}
use Rattle.std.proofs.lemmas.List.Folds.{list_all-append}
use Rattle.seq_tree.specs.Expressions.{Expression}
use Rattle.seq_tree.specs.Statements.{Statements, Branches, Nothing}
use Rattle.seq_tree.specs.Calls.{block_works, branch_works}
use Rattle.seq_tree.specs.Trees.{branches_of}

-- the works of arms, then those of what follows them
branches_works : (arms : List (Expression × Statements)) (others : Branches) → branch_works (branches_of arms others)
    ≡ branch_works (branches_of arms Nothing) ++ branch_works others
branches_works [] others = refl
branches_works (arm ∷ arms) others =
    ap (λ ws. block_works arm.1 ++ ws) (branches_works arms others) ∙ sym
    (append_assoc (block_works arm.1) (branch_works (branches_of arms Nothing)) (branch_works others))

-- they fit where those of the arms and the others do
pub branches_fit : (p : ℕ → Bool) (arms : List (Expression × Statements)) (others : Branches) →
    list_all p (branch_works (branches_of arms others)) ≡ (list_all p (branch_works (branches_of arms Nothing)) && list_all p (branch_works others))
branches_fit p arms others = ap (list_all p) (branches_works arms others) ∙ list_all-append p (branch_works (branches_of arms Nothing))
    (branch_works others)

-- where the arms do not fit, the whole does not, and where they do, it is up to the others
pub arms_misfit : (p : ℕ → Bool) (arms : List (Expression × Statements)) (others : Branches) (r : Bool)
    → r ≡ list_all p (branch_works (branches_of arms Nothing)) → r ≡ false →
    false ≡ list_all p (branch_works (branches_of arms others))
arms_misfit p arms others r e fails = sym (branches_fit p arms others ∙ ap (λ b. b && list_all p (branch_works others)) (sym e ∙ fails))

pub arms_fit : (p : ℕ → Bool) (arms : List (Expression × Statements)) (others : Branches) (r o : Bool)
    → r ≡ list_all p (branch_works (branches_of arms Nothing)) → r ≡ true →
    o ≡ list_all p (branch_works others) → o ≡ list_all p (branch_works (branches_of arms others))
arms_fit p arms others r o e holds f = f ∙ sym (branches_fit p arms others ∙ ap (λ b. b && list_all p (branch_works others)) (sym e ∙ holds))

pub ruleset work_steps = (list_all-append)
