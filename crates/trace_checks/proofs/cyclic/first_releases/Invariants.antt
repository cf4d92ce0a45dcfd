use Rattle.std.proofs.Common.{◌≡◌, ◌++◌, map, drop}
use Rattle.ada_tree.specs.Trees.{unit_of}
use Rattle.trace_checks.specs.Cycles.{first_release}
use Rattle.trace_checks.proofs.cyclic.first_releases.Given as goal

-- the first releases so far, and those of the units that are left
abbrev pub invariant-units : goal.invariant-units
invariant-units l = l.nexts.items ++ map (λ u. first_release u.form) (map unit_of (drop l.unit-index l.units))
    ≡ map (λ u. first_release u.form) (map unit_of l.units)
