use Rattle.std.proofs.Common.{◌≡◌, ◌≤◌, length, vec_capacity}
use Rattle.ceil_runtime.proofs.ObjectsFound.{AreFound}
use Rattle.ceil_runtime.proofs.objects.objects_in.Given as goal

-- the objects of the units so far are found
abbrev pub invariant-units : goal.invariant-units
invariant-units l = record {
  place : l.place ≡ l.unit-index;
  found : AreFound l.units l.unit-index l.objects.items;
  few : length l.objects.items ≤ l.unit-index;
  room : length l.units ≤ vec_capacity l.objects;
}
