use Rattle.std.proofs.Common.{◌≡◌, ◌++◌, length, map}
use Rattle.ada_tree.specs.Trees.{unit_of}
use Rattle.trace_text.specs.Tallies.{tally_lines}
use Rattle.trace_text.proofs.summary.put_tasks.Given as goal

-- the lines so far and those left are all
abbrev pub invariant-units : goal.invariant-units
invariant-units l =
    l.text.items ++ tally_lines l.bounds (map unit_of l.units_left) l.tallies_left ≡ l.fn.text.items
    ++ tally_lines l.bounds (map unit_of l.units) l.tallies

abbrev pub decreases-units : goal.decreases-units
decreases-units l = length l.units_left
