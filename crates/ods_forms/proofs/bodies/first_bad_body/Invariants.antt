use Rattle.std.proofs.Common.{◌≡◌, map, flat_map, drop}
use Rattle.ods_tree.specs.Trees.{design_of}
use Rattle.design_rules.specs.Bodies.{bad_bodies}
use Rattle.ods_forms.specs.BodyScopes.{faults_in}
use Rattle.ods_index.specs.Judging.{head_of}
use Rattle.ods_index.specs.Walking.{standing_of}
use Rattle.ods_forms.proofs.bodies.first_bad_body.Given as goal

-- the first fault is that of the objects that are left
abbrev pub invariant-objects : goal.invariant-objects
invariant-objects l =
    head_of (flat_map (λ s. faults_in (design_of l.index.design.now) s.own) (map standing_of (drop l.place l.objects)))
    ≡ head_of (bad_bodies (design_of l.index.design.now))
