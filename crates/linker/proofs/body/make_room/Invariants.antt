use Rattle.std.proofs.Common.{◌≤◌, ◌-◌}
use Rattle.linker.specs.Bodies.{Roomed}
use Rattle.linker.specs.Standing.{lists_of}
use Rattle.linker.proofs.body.make_room.Given as goal

-- so many places were added
abbrev pub invariant-places : goal.invariant-places
invariant-places l = record { within : l.left ≤ l.count; room : Roomed (l.count - l.left) (lists_of l.fn.code) (lists_of l.code) }

abbrev pub decreases-places : goal.decreases-places
decreases-places l = l.left
