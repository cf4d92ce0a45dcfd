use Rattle.std.proofs.Common.{◌≡◌, ◌||◌, drop}
use Rattle.std.specs.List.{list_any}
use Rattle.seq_tree.specs.Names.{Name, same_name}
use Rattle.name_sets.specs.Sets.{has}
use Rattle.ods_names.proofs.uses.target_names.Given as goal

-- the names so far, and those of the operations that are left
abbrev pub invariant-needs : goal.invariant-needs
invariant-needs l = (n : Name) → (has l.names n || list_any (λ m. same_name m.object n) (drop l.need-index l.needs))
    ≡ list_any (λ m. same_name m.object n) l.needs
