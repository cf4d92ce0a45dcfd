use Rattle.std.proofs.Common.{◌≡◌, rules, [], ◌∷◌, map, ap, subst, ◌+◌}
use Rattle.ada_tree.specs.Trees.{unit_of}
use Rattle.linker.specs.Callees.{AreEntered, body_of, target_among}
use Rattle.linker.proofs.LinkSteps.{empty_of}
use Rattle.linker.proofs.tables.Callees.add_objects.Goals as goal
use Rattle.machine.specs.Systems.{objects_from}

pub units-init : goal.units-init
units-init c = λ y is h. (
  0,
  subst (λ gs. AreEntered y c.args.self.now.units (map body_of c.args.self.now.bodies.items) (target_among 0 [] 0 gs 0 y.threads))
      is.objects h,
)

pub units-preserved : goal.units-preserved
units-preserved c = λ y is h.
    let r = c.units.invariant y is h in
    let here : c.units.left.now ≡ c.in-Some.unit.now ∷ c.in-Some.rest.now = search rules in (
      r.0 + 1,
      c.in_ok-next.ensures y (map unit_of c.in-Some.rest.now) r.0 0 y.threads
          (subst (λ us. AreEntered y c.units.self.units (map body_of c.units.self.bodies.items)
          (target_among 0 [] c.units.object (objects_from r.0 us) 0 y.threads)) (ap (map unit_of) here) r.1),
    )

pub returns : goal.returns
returns c = λ y is h.
    let r = c.units.invariant y is h in
    let none : c.units.left.now ≡ [] = empty_of c.units.left.now (search rules) in
    subst (λ us. AreEntered y c.units.self.units (map body_of c.units.self.bodies.items)
    (target_among 0 [] c.units.object (objects_from r.0 us) 0 y.threads)) (ap (map unit_of) none) r.1
