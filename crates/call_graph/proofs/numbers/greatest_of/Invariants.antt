use Rattle.std.proofs.Common.{◌≡◌, map, drop, max}
use Rattle.std.specs.Prelude.{fold}
use Rattle.call_graph.specs.Numbers.{greatest_of, value}
use Rattle.call_graph.proofs.numbers.greatest_of.Given as goal

-- the greatest so far, and the numbers at the places that are left
abbrev pub invariant-places : goal.invariant-places
invariant-places l = fold max l.greatest (map (value l.numbers) (drop l.place-index l.places)) ≡ greatest_of l.numbers l.own l.places
