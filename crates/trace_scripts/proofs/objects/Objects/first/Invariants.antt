use Rattle.std.proofs.Common.{◌≡◌, ◌++◌, drop, map}
use Rattle.ada_tree.specs.Trees.{unit_of}
use Rattle.law_trace_places.specs.Places.{guarded_in}
use Rattle.trace_scripts.specs.Objects.{service_of}
use Rattle.trace_scripts.specs.Serving.{first_by}
use Rattle.trace_scripts.proofs.objects.Objects.first.Given as goal

-- the units so far are there
abbrev pub invariant-units : goal.invariant-units
invariant-units l = map service_of l.states.items ++ map (λ u. first_by (guarded_in u)) (map unit_of (drop l.unit-index l.unit-items))
    ≡ map (λ u. first_by (guarded_in u)) (map unit_of l.unit-items)
