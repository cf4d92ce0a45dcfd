use Rattle.std.proofs.Common.{◌≡◌, ◌++◌, drop, flat_map, map}
use Rattle.ods_tree.specs.Spelling.{body_lines}
use Rattle.ods_tree.specs.Trees.{body_of}
use Rattle.ods_print.specs.Parts.{lines_text}
use Rattle.ods_print.proofs.bodies.add_bodies.Given as goal

-- with the lines of the bodies that are left, those of all have been added
abbrev pub invariant-bodies : goal.invariant-bodies
invariant-bodies l =
    l.into.items ++ lines_text (flat_map (body_lines l.level) (map body_of (drop l.body-index l.bodies)))
    ≡ l.initial.into.items ++ lines_text (flat_map (body_lines l.level) (map body_of l.bodies))
