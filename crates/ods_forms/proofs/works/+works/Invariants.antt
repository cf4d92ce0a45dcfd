use Rattle.std.proofs.Common.{◌≡◌, map, drop}
use Rattle.std.specs.List.{list_all}
use Rattle.seq_tree.specs.Calls.{block_works, branch_works}
use Rattle.seq_tree.specs.Statements.{Nothing}
use Rattle.seq_tree.specs.Trees.{arm_of, branches_of, statement_of, statements_of}
use Rattle.seq_tree.specs.Limits.{is_within}
use Rattle.ods_forms.specs.Limits.{most_ticks}
use Rattle.ods_forms.proofs.works.+works.Given as goal

-- it is up to the arms that are left
abbrev pub invariant-do_arms_fit-arms : goal.invariant-do_arms_fit-arms
invariant-do_arms_fit-arms l =
    list_all (is_within 1 most_ticks) (branch_works (branches_of (map arm_of (drop l.arm-index l.arms)) Nothing))
    ≡ list_all (is_within 1 most_ticks) (branch_works (branches_of (map arm_of l.arms) Nothing))

-- it is up to the statements that are left
abbrev pub invariant-do_works_fit-stmts : goal.invariant-do_works_fit-stmts
invariant-do_works_fit-stmts l =
    list_all (is_within 1 most_ticks) (block_works (statements_of (map statement_of (drop l.stmt-index l.stmt-items))))
    ≡ list_all (is_within 1 most_ticks) (block_works (statements_of (map statement_of l.stmt-items)))
