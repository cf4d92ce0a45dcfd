use Rattle.std.proofs.Common.{◌≡◌, ◌++◌, map, drop}
use Rattle.std.specs.Prelude.{option_map}
use Rattle.seq_tree.specs.Trees.{operation_of}
use Rattle.name_sets.specs.Tables.{at}
use Rattle.ods_tree.specs.Trees.{body_of, design_of, provided_of}
use Rattle.ods_flat.specs.Terminals.{operations_among}
use Rattle.ods_flat.proofs.entries.operations_by.Given as goal

-- the operations so far, and those that are left
abbrev pub invariant-provides : goal.invariant-provides
invariant-provides l =
    map operation_of l.found.items ++ operations_among (design_of l.links.design.now)
    (λ op. option_map (λ b. body_of b.now) (at l.bodies (record { object = l.object; op = op }))) (map provided_of (drop l.provided-index l.provides))
    ≡ operations_among (design_of l.links.design.now) (λ op. option_map (λ b. body_of b.now) (at l.bodies (record { object = l.object; op = op })))
    (map provided_of l.provides)
