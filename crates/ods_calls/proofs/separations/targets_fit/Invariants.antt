use Rattle.std.proofs.Common.{◌≡◌, map, drop}
use Rattle.std.specs.Prelude.{filter_map}
use Rattle.ods_index.specs.Judging.{head_of}
use Rattle.ods_calls.specs.Spacings.{spaced}
use Rattle.ods_calls.specs.Spotted.{marked, spot_in}
use Rattle.ods_calls.specs.Starting.{Thread}
use Rattle.ods_index.specs.Walking.{object_of}
use Rattle.ods_calls.proofs.separations.targets_fit.Given as goal

-- it is up to the threads that are left
abbrev pub invariant-threads : goal.invariant-threads
invariant-threads l =
    head_of (filter_map (spaced (λ n. marked l.reached (spot_in l.spots (Thread n))) (object_of l.from)) (map (λ t. object_of t.now) (drop l.to-index l.threads)))
    ≡ head_of (filter_map (spaced (λ n. marked l.reached (spot_in l.spots (Thread n))) (object_of l.from)) (map (λ t. object_of t.now) l.threads))
