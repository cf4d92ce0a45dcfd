use Rattle.std.proofs.Common.{◌≡◌, ◌≤◌, fold, max, min, map, drop}
use Rattle.ods_tree.specs.Trees.{design_of}
use Rattle.design_rules.specs.Sources.{requests_by}
use Rattle.ods_calls.specs.Reaching.{reacher_of}
use Rattle.ods_calls.proofs.sources.most_requests.Given as goal

-- the greatest so far, with those of the threads that are left, is that of all
abbrev pub invariant-reachers : goal.invariant-reachers
invariant-reachers l =
    let x = design_of l.links.design.now in
    (l.greatest ≤ 2)
    × (min 2 (fold max l.greatest (map (requests_by x l.target) (map reacher_of (drop l.reacher-index l.reachers))))
    ≡ min 2 (fold max 0 (map (requests_by x l.target) (map reacher_of l.reachers))))
