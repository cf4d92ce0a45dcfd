use Rattle.std.proofs.Common.{◌≡◌, ◌||◌, map, take}
use Rattle.seq_tree.specs.Names.{Name, is_named}
use Rattle.name_sets.specs.Sets.{has}
use Rattle.seq_check.proofs.names.add_vars.Given as goal

-- the names so far are added
abbrev pub invariant-vars : goal.invariant-vars
invariant-vars l = (n : Name) → has l.set n ≡ (is_named (map (λ d. d.name) (take l.datum-index l.vars)) n || has l.initial.set n)
