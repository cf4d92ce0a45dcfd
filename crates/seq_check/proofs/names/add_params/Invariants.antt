use Rattle.std.proofs.Common.{◌≡◌, ◌||◌, map, take}
use Rattle.seq_tree.specs.Names.{Name, is_named}
use Rattle.name_sets.specs.Sets.{has}
use Rattle.seq_check.proofs.names.add_params.Given as goal

-- the names so far are added
abbrev pub invariant-params : goal.invariant-params
invariant-params l = (n : Name) → has l.set n ≡ (is_named (map (λ d. d.name) (take l.param-index l.params)) n || has l.initial.set n)
