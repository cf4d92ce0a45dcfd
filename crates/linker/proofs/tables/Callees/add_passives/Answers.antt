use Rattle.std.proofs.Common.{◌≡◌, rules, [], ◌∷◌, map, ap, subst, ◌+◌}
use Rattle.ada_tree.specs.Trees.{unit_of}
use Rattle.linker.specs.Callees.{AreEntered, body_of, target_among}
use Rattle.linker.proofs.LinkSteps.{empty_of}
use Rattle.linker.proofs.tables.Callees.add_passives.Goals as goal
use Rattle.machine.specs.Systems.{libraries_from}

pub units-init : goal.units-init
units-init c = λ y is h. (
  0,
  0,
  subst (λ ls. AreEntered y c.args.self.now.units (map body_of c.args.self.now.bodies.items) (target_among 0 ls 0 y.objects 0 y.threads))
      is.libraries h,
)

pub units-preserved : goal.units-preserved
units-preserved c = λ y is h.
    let r = c.units.invariant y is h in
    let here : c.units.left.now ≡ c.in-Some.unit.now ∷ c.in-Some.rest.now = search rules in
    let us = map unit_of c.in-Some.rest.now in
    let n = c.in_ok-add_passive.ensures y us r.0 r.1 0 0 y.objects y.threads
    (subst (λ ls. AreEntered y c.units.self.units (map body_of c.units.self.bodies.items)
    (target_among r.0 (libraries_from r.1 ls) 0 y.objects 0 y.threads)) (ap (map unit_of) here) r.2) in
    (n.0, r.1 + 1, n.1)

pub returns : goal.returns
returns c = λ y is h.
    let r = c.units.invariant y is h in
    let none : c.units.left.now ≡ [] = empty_of c.units.left.now (search rules) in
    subst (λ ls. AreEntered y c.units.self.units (map body_of c.units.self.bodies.items)
    (target_among r.0 (libraries_from r.1 ls) 0 y.objects 0 y.threads)) (ap (map unit_of) none) r.2
