use Rattle.std.proofs.Common.{map, ap, ◌∙◌}
use Rattle.call_graph.specs.Entries.{entry_at}
use Rattle.ods_index.specs.Calling.{calls_of}
use Rattle.ods_index.specs.Walking.{standing_of}
use Rattle.ods_tree.specs.Trees.{design_of}
use Rattle.ods_calls.proofs.ServedLaws.{all-served}
use Rattle.ods_calls.proofs.services.services_of.Goals as goal

pub returns : goal.returns
returns c =
    all-served (design_of c.args.index.now.design.now) (map entry_at c.new-services.result.items) (map entry_at c.add_bodies.new.into.items) (map entry_at c.add_bodies-2.new.into.items)
    (map entry_at c.add_requests.new.into.items) (map calls_of c.as_slice.result.now) (map calls_of c.as_slice-2.result.now)
    (map standing_of c.as_slice-3.result.now) (ap (map entry_at) c.new-services.ensures.items) c.in_ok-add_bodies.ensures c.in_ok-add_bodies-2.ensures c.in_ok-add_requests.ensures
    (ap (map calls_of) c.as_slice.ensures.value ∙ c.requires.called) (ap (map calls_of) c.as_slice-2.ensures.value ∙ c.requires.called)
    (ap (map standing_of) c.as_slice-3.ensures.value ∙ c.requires.walked)
