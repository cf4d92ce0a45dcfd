use Rattle.std.proofs.Common.{◌≡◌, ◌+◌, ◌*◌, ◌≤◌, take, drop}
use Rattle.late_response.specs.Limbs.{value, room}
use Rattle.late_response.proofs.limbs.scale_and_add.Given as goal

abbrev pub invariant-digits : goal.invariant-digits
invariant-digits l = record {
  done : value (take l.index l.digits) + room l.index * l.carry ≡ value (take l.index l.fn.digits) * l.by + value (take l.index l.plus) * l.times;
  left : drop l.index l.digits ≡ drop l.index l.fn.digits;
  carry : l.carry ≤ 2000000000;
}
