use Rattle.std.proofs.Common.{◌≡◌, ◌++◌, map, drop}
use Rattle.ada_rules.specs.Lists.{names_of}
use Rattle.ada_rules.specs.Parts.{loops_in, part_of}
use Rattle.ada_rules.proofs.lists.add_loops.Given as goal

-- the names so far, and those of the parts that are left
abbrev pub invariant-parts : goal.invariant-parts
invariant-parts l = names_of l.names.items ++ loops_in (map part_of (drop l.part-index l.parts))
    ≡ names_of l.initial.names.items ++ loops_in (map part_of l.parts)
