use Rattle.std.proofs.Common.{◌≡◌, ◌||◌, [], map, drop}
use Rattle.ada_rules.specs.Clashes.{clashes_in}
use Rattle.ada_rules.specs.Lists.{names_of}
use Rattle.ada_rules.specs.Parts.{part_of}
use Rattle.name_sets.specs.Sets.{has}
use Rattle.ada_rules.proofs.clashes.loops_clash.Given as goal

-- it is up to the parts that are left
abbrev pub invariant-parts : goal.invariant-parts
invariant-parts l = clashes_in (λ n. has l.params n || has l.taken n) (names_of l.inside.items) (map part_of (drop l.part-index l.parts))
    ≡ clashes_in (λ n. has l.params n || has l.taken n) [] (map part_of l.parts)
