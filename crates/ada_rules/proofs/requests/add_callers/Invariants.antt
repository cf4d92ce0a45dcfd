use Rattle.std.proofs.Common.{◌≡◌, ◌||◌, map, take}
use Rattle.name_sets.specs.Sets.{has_op}
use Rattle.name_sets.specs.Tables.{at}
use Rattle.seq_tree.specs.declared.tree.OpName.{OpName}
use Rattle.ada_rules.specs.Callers.{caller_of, is_led_to}
use Rattle.ada_rules.proofs.requests.add_callers.Given as goal

-- what the operations so far call is added
abbrev pub invariant-callers : goal.invariant-callers
invariant-callers l = (n : OpName)
    → has_op l.called n ≡ (is_led_to (at l.places) l.marks (map caller_of (take l.caller-index l.callers)) n || has_op l.initial.called n)
