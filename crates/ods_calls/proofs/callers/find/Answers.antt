use Rattle.std.proofs.Common.{map, ap, sym, ◌∙◌}
use Rattle.std.proofs.lemmas.List.{map-append}
use Rattle.std.specs.List.{list_any}
use Rattle.seq_tree.specs.Calls.{same_op}
use Rattle.name_sets.specs.Sets.{has_op}
use Rattle.ods_calls.proofs.KeptCalls.{seen-more}
use Rattle.ods_calls.proofs.callers.find.Goals as goal
use Rattle.seq_cost.specs.Different.{call_of}

pub returns-clause-seen : goal.returns-clause-seen
returns-clause-seen c = λ n.
    seen-more (call_of c.args.op.now) n (map call_of c.args.found.now.items) (has_op c.add.new.self n) (has_op c.args.seen.now n)
    (c.in_ok-add.ensures.added n) (c.requires n)
    ∙ ap (list_any (same_op n)) (sym (ap (map call_of) c.in_ok-push.ensures.items ∙ map-append call_of c.args.found.now.items _))
