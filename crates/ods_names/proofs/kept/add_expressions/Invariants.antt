use Rattle.std.proofs.Common.{◌≡◌, ◌++◌, map, flat_map, drop}
use Rattle.seq_tree.specs.Trees.{expression_of}
use Rattle.design_rules.specs.Words.{expression_names}
use Rattle.ods_names.specs.NameLists.{names_of}
use Rattle.ods_names.proofs.kept.add_expressions.Given as goal

-- the names so far, and those of the expressions that are left
abbrev pub invariant-exprs : goal.invariant-exprs
invariant-exprs l = names_of l.names.items ++ flat_map expression_names (map expression_of (drop l.expr-index l.exprs))
    ≡ names_of l.initial.names.items ++ flat_map expression_names (map expression_of l.exprs)
