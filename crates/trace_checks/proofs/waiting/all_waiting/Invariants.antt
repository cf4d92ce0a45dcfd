use Rattle.std.proofs.Common.{◌≡◌, ◌++◌, map, drop}
use Rattle.ada_tree.specs.Trees.{unit_of}
use Rattle.trace_checks.specs.Serving.{nothing_waits, serving_of}
use Rattle.trace_checks.proofs.waiting.all_waiting.Given as goal

-- those so far, and those of the units that are left
abbrev pub invariant-units : goal.invariant-units
invariant-units l = map serving_of l.waiting.items ++ map (λ u. nothing_waits) (map unit_of (drop l._unit-index l.units))
    ≡ map (λ u. nothing_waits) (map unit_of l.units)
