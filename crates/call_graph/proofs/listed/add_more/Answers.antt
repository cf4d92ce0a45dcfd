use Rattle.std.proofs.Common.{map, ap, sym, ◌∙◌}
use Rattle.std.proofs.lemmas.List.{map-append}
use Rattle.std.specs.List.{list_any}
use Rattle.seq_tree.specs.Calls.{same_op}
use Rattle.name_sets.specs.Sets.{has_op}
use Rattle.seq_cost.specs.Different.{call_of}
use Rattle.call_graph.proofs.ListedSteps.{names_step}
use Rattle.call_graph.proofs.listed.add_more.Goals as goal

pub returns-clause-names : goal.returns-clause-names
returns-clause-names c = λ n.
    names_step (call_of c.args.call.now) n (map call_of c.args.listed.now.items) (has_op c.add.new.self n) (has_op c.args.names.now n)
    (c.in_ok-add.ensures.added n) (c.requires n)
    ∙ ap (list_any (λ d. same_op d n)) (sym (ap (map call_of) c.in_ok-push.ensures.items ∙ map-append call_of c.args.listed.now.items _))
