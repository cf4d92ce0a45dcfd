use Rattle.std.proofs.Common.{◌≡◌, map, drop}
use Rattle.std.specs.Prelude.{max}
use Rattle.ods_calls.specs.Spacings.{greatest_separation}
use Rattle.ods_index.specs.Walking.{object_of}
use Rattle.ods_calls.proofs.separations.greatest_separation.Given as goal

-- the greatest so far, with those of the threads that are left, is that of all
abbrev pub invariant-threads : goal.invariant-threads
invariant-threads l =
    max l.greatest (greatest_separation (map (λ t. object_of t.now) (drop l.node-index l.threads)))
    ≡ greatest_separation (map (λ t. object_of t.now) l.threads)
