use Rattle.std.proofs.Common.{◌≡◌, ◌++◌, drop, map}
use Rattle.seq_tree.specs.Layout.{layout}
use Rattle.ada_tree.specs.Spelling.{datum_line}
use Rattle.ada_print.proofs.heads.add_data.Given as goal

-- with the lines of the variables that are left, those of all have been added
abbrev pub invariant-vars : goal.invariant-vars
invariant-vars l = l.into.items ++ layout (map (datum_line l.level) (drop l.var-index l.vars))
    ≡ l.initial.into.items ++ layout (map (datum_line l.level) l.vars)
