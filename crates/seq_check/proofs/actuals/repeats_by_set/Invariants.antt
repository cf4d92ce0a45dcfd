use Rattle.std.proofs.Common.{◌≡◌, ◌||◌, map, length}
use Rattle.std.specs.List.{list_any}
use Rattle.name_sets.specs.Sets.{has}
use Rattle.seq_tree.specs.Faults.{out_actuals, repeats}
use Rattle.seq_tree.specs.Trees.{expression_of}
use Rattle.seq_check.specs.Seen.{is_seen}
use Rattle.seq_check.proofs.actuals.repeats_by_set.Given as goal

-- the whole repeats exactly where what is left does or has a variable of those before
abbrev pub invariant-outs : goal.invariant-outs
invariant-outs l =
    (list_any (is_seen (has l.seen)) (out_actuals l.params (map expression_of l.actuals))
    || repeats (out_actuals l.params (map expression_of l.actuals)))
    ≡ repeats (out_actuals l.fn.params (map expression_of l.fn.actuals))

abbrev pub decreases-outs : goal.decreases-outs
decreases-outs l = length l.params
