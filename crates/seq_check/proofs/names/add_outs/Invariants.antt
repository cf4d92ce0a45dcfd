use Rattle.std.proofs.Common.{◌≡◌, ◌&&◌, ◌||◌, take}
use Rattle.std.specs.List.{list_any}
use Rattle.seq_tree.specs.Names.{Name, same_name}
use Rattle.seq_tree.specs.Operations.{is_out}
use Rattle.name_sets.specs.Sets.{has}
use Rattle.seq_check.proofs.names.add_outs.Given as goal

-- the names of those so far that hand values out are added
abbrev pub invariant-params : goal.invariant-params
invariant-params l = (n : Name)
    → has l.set n ≡ (list_any (λ q. is_out q.mode && same_name q.name n) (take l.param-index l.params) || has l.initial.set n)
