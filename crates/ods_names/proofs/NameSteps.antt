-- The names of an `if`, and the first of names that are kept.
use Rattle.std.proofs.Common.{◌≡◌, not, map, filter, find, option_map, Option, List, [], ◌∷◌, ◌++◌, refl, ap, sym, ◌∙◌, append_assoc}
use Rattle.seq_tree.specs.Expressions.{Expression}
use Rattle.seq_tree.specs.Statements.{Statements, Branches, Nothing}
use Rattle.seq_tree.specs.Trees.{branches_of}
use Rattle.design_rules.specs.Words.{expression_names, block_names, branch_names}
use Rattle.std.specs.Borrow.{Bor}
use Rattle.seq_tree.specs.Names.{Name}
use Rattle.ada_tree.specs.Words.{is_ada_name}
use Rattle.design_rules.specs.Broken.{V02}
use Rattle.ods_index.specs.Judging.{head_of}
use Rattle.ods_names.specs.NameLists.{names_of}
use Rattle.ods_names.proofs.Shared.NeedSteps.{head_filter}

-- the names of branches: those with conditions, then an `else`
branch_join : (arms : List (Expression × Statements)) (others : Branches) → branch_names (branches_of arms others)
    ≡ branch_names (branches_of arms Nothing) ++ branch_names others
branch_join [] others = refl
branch_join (arm ∷ arms) others =
    ap (λ ns. expression_names arm.0 ++ (block_names arm.1 ++ ns)) (branch_join arms others)
    ∙ ap (λ ns. expression_names arm.0 ++ ns) (sym (append_assoc (block_names arm.1) (branch_names (branches_of arms Nothing)) (branch_names others)))
    ∙ sym (append_assoc (expression_names arm.0) (block_names arm.1 ++ branch_names (branches_of arms Nothing)) (branch_names others))

-- the names of branches that were added, and then those of an `else`
pub added_branches : (old mid : List Name) (arms : List (Expression × Statements)) (others : Branches) →
    mid ≡ old ++ branch_names (branches_of arms Nothing) → mid ++ branch_names others ≡ old ++ branch_names (branches_of arms others)
added_branches old mid arms others first =
    ap (λ z. z ++ branch_names others) first ∙ append_assoc old (branch_names (branches_of arms Nothing)) (branch_names others)
    ∙ ap (λ z. old ++ z) (sym (branch_join arms others))

-- what is told first, where this is the first name that can't stand in an Ada text
pub first_told : (names : List (Bor Name)) (all : List Name) (first : Option Name) → names_of names ≡ all
    → first ≡ find (λ n. not (is_ada_name n)) (names_of names) →
    head_of (map V02 (filter (λ n. not (is_ada_name n)) all)) ≡ option_map V02 first
first_told names all first same found =
    head_filter V02 (λ n. not (is_ada_name n)) all ∙ ap (option_map V02) (sym (found ∙ ap (find (λ n. not (is_ada_name n))) same))
