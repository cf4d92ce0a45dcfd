use Rattle.std.proofs.Common.{◌≡◌, drop, map, nat_lt}
use Rattle.std.specs.List.{list_any}
use Rattle.design_rules.specs.Separations.{spacing}
use Rattle.ods_index.specs.Walking.{object_of}
use Rattle.ods_calls.proofs.separations.any_closer.Given as goal

-- it is up to the threads that are left
abbrev pub invariant-threads : goal.invariant-threads
invariant-threads l =
    list_any (λ f. nat_lt (spacing f) l.greatest) (map (λ t. object_of t.now) (drop l.node-index l.threads))
    ≡ list_any (λ f. nat_lt (spacing f) l.greatest) (map (λ t. object_of t.now) l.threads)
