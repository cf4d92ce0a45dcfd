use Rattle.std.proofs.Common.{ℕ, ◌+◌, ◌++◌, List, ap, arith, refl, subst, length, map}
use Rattle.ada_tree.specs.Trees.{unit_of}
use Rattle.ceil_runtime.specs.Objects.{AddsObject, first_object, shown}
use Rattle.ceil_runtime.specs.declared.object.Object.{Object}
use Rattle.ceil_runtime.proofs.ObjectsFound.{found-all, found-more}
use Rattle.ceil_runtime.proofs.objects.objects_in.Goals as goal
use Rattle.machine.specs.Systems.{objects_from}

pub units-init : goal.units-init
units-init c =
    let none = c.in_ok-objects.ensures.items in
    record {
      place = refl;
      found = ap (λ (os : List Object). map shown os ++ map first_object (objects_from 0 (map unit_of c.args.units.now))) none;
      few = let empty = ap length none in omega (arith, empty);
      room = c.in_ok-objects.ensures.capacity;
    }

pub units-preserved : goal.units-preserved
units-preserved c =
    let i = c.units.invariant in
    let us = c.args.units.now in
    let u = c.unit-item.result in
    let adds : AddsObject c.units.unit-index u c.units.objects.items c.add_object.new.objects.items =
    subst (λ (n : ℕ). AddsObject n u c.units.objects.items c.add_object.new.objects.items) i.place c.in_ok-add_object.ensures.adds in
    record {
      place = ap (λ n. n + 1) i.place;
      found = found-more us c.units.unit-index u c.units-test.true c.unit-item.is c.units.objects.items c.add_object.new.objects.items adds i.found;
      few = omega (arith, i.few, adds.few);
      room = omega (arith, i.room, c.add_object.ensures.capacity);
    }

pub returns : goal.returns
returns c = found-all c.args.units.now c.units.unit-index c.units.objects.items (omega (arith, c.units-test.false)) c.units.invariant.found
