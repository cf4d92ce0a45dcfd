use Rattle.std.proofs.Common.{◌≡◌, ◌≤◌, ℕ, fold, max, min, map, drop}
use Rattle.seq_tree.specs.declared.tree.OpName.{OpName}
use Rattle.ods_tree.specs.Trees.{design_of}
use Rattle.ods_calls.specs.Requested.{Knows, greatest_count, held_count, held_of}
use Rattle.ods_calls.proofs.requests.greatest_of.Given as goal

-- the greatest so far, with those of the bodies that are left, is that of all
abbrev pub invariant-bodies : goal.invariant-bodies
invariant-bodies l =
    let x = design_of l.links.design.now in
    (inner : OpName → ℕ) → Knows l.known inner → (l.greatest ≤ 2)
    × (min 2 (fold max l.greatest (map (held_count x l.target inner) (map held_of (drop l.body-index l.bodies))))
    ≡ min 2 (greatest_count x l.target inner (map held_of l.bodies)))
