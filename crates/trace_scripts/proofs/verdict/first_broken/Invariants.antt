use Rattle.std.proofs.Common.{◌≡◌, ◌≤◌, ◌-◌, Bool, drop, length, not}
use Rattle.std.specs.Prelude.{find, filter_map}
use Rattle.ods_tree.specs.Flats.{Guarded}
use Rattle.ada_tree.specs.Trees.{program_of}
use Rattle.guarantee.specs.Software.{program_software}
use Rattle.law_trace_places.specs.Places.{guarded_in}
use Rattle.trace_scripts.specs.Objects.{AreServing, services_of}
use Rattle.trace_scripts.proofs.verdict.first_broken.Given as goal

-- no object so far is broken
abbrev pub invariant-units : goal.invariant-units
invariant-units l = record {
  within : l.at ≤ length (program_of l.program).units;
  found : (serving : Guarded → Bool) → AreServing (program_of l.program) (services_of l.objects) serving
      → find (λ g. not (serving g)) (filter_map guarded_in (drop l.at (program_of l.program).units))
      ≡ find (λ g. not (serving g)) (program_software (program_of l.program)).shared;
}

abbrev pub decreases-units : goal.decreases-units
decreases-units l = length (program_of l.program).units - l.at
