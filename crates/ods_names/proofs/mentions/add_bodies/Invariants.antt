use Rattle.std.proofs.Common.{◌≡◌, ◌++◌, map, flat_map, drop}
use Rattle.std.specs.List.{enumerate_from}
use Rattle.ods_tree.specs.Trees.{body_of}
use Rattle.design_rules.specs.Clashes.{body_mentions}
use Rattle.ods_names.specs.Mentions.{gathered}
use Rattle.ods_names.proofs.mentions.add_bodies.Given as goal

-- the names so far, and those of the bodies that are left
abbrev pub invariant-bodies : goal.invariant-bodies
invariant-bodies l =
    gathered l.source.index.now l.into.items ++ flat_map (body_mentions l.place) (enumerate_from l.number (map body_of (drop l.number l.bodies)))
    ≡ gathered l.source.index.now l.initial.into.items ++ flat_map (body_mentions l.place) (enumerate_from 0 (map body_of l.bodies))
