use Rattle.std.proofs.Common.{◌≡◌, flat_map, map, drop}
use Rattle.std.specs.Prelude.{filter_map}
use Rattle.ods_tree.specs.Trees.{design_of}
use Rattle.ods_index.specs.Judging.{head_of}
use Rattle.ods_calls.specs.Spacings.{spaced}
use Rattle.ods_calls.specs.Spreading.{reaches}
use Rattle.ods_index.specs.Walking.{object_of}
use Rattle.ods_calls.proofs.separations.starters_fit.Given as goal

-- it is up to the threads that are left
abbrev pub invariant-threads : goal.invariant-threads
invariant-threads l =
    head_of (flat_map (λ f. filter_map (spaced (reaches (design_of l.starts.links.now.design.now) f) f) (map (λ t. object_of t.now) l.threads))
    (map (λ t. object_of t.now) (drop l.from-index l.threads)))
    ≡ head_of (flat_map (λ f. filter_map (spaced (reaches (design_of l.starts.links.now.design.now) f) f) (map (λ t. object_of t.now) l.threads))
    (map (λ t. object_of t.now) l.threads))
