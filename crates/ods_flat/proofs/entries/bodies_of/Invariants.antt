use Rattle.std.proofs.Common.{◌≡◌, map, drop}
use Rattle.std.specs.Option.{option_or}
use Rattle.std.specs.Prelude.{option_map}
use Rattle.seq_tree.specs.Names.{Name}
use Rattle.name_sets.specs.Tables.{at}
use Rattle.ods_tree.specs.Flattening.{body_named}
use Rattle.ods_tree.specs.Trees.{body_of}
use Rattle.ods_flat.proofs.entries.bodies_of.Given as goal

-- the bodies so far, and those that are left
abbrev pub invariant-bodies : goal.invariant-bodies
invariant-bodies l =
    (op : Name) → option_or (option_map (λ b. body_of b.now) (at l.found (record { object = l.object; op = op })))
    (body_named op (map body_of (drop l.body-index l.bodies))) ≡ body_named op (map body_of l.bodies)
