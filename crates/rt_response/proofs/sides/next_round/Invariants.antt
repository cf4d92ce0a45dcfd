use Rattle.std.proofs.Common.{◌≡◌, take, drop, true}
use Rattle.rt_response.specs.Response.{right_sides}
use Rattle.rt_response.specs.Rounds.{first_excess}
use Rattle.rt_response.specs.Entries.{excess_from}
use Rattle.rt_response.proofs.Kept.{SameJitters}
use Rattle.rt_response.proofs.sides.next_round.Given as goal

abbrev pub invariant-rows : goal.invariant-rows
invariant-rows l = record {
  stored : take l.index l.into ≡ take l.index (right_sides l.table l.from);
  before : drop l.index l.into ≡ drop l.index l.fn.into;
  steady : l.steady ≡ true → (l.from ≡ right_sides l.table l.fn.into) × SameJitters l.index l.fn.into l.from;
  none : first_excess 0 l.table (right_sides l.table l.from) ≡ excess_from l.table l.from l.index;
}
