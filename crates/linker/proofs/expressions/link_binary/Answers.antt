use Rattle.linker.proofs.Shared.Growths.{linked_binary}
use Rattle.linker.proofs.expressions.link_binary.Goals as goal
use Rattle.std.proofs.lemmas.Option.{slice_get_within}

pub returns-clause-linked : goal.returns-clause-linked
returns-clause-linked c = λ e f scope h i. linked_binary c.args.nodes.now.items c.add.new.nodes.items c.args.op c.args.left c.args.right
    c.in_ok-place.place c.gives_boolean.result scope e f c.add.ensures.grows
    (slice_get_within c.add.new.nodes.items c.in_ok-place.place _ c.in_ok-place.ensures.there) c.in_ok-place.ensures.there c.gives_boolean.ensures h i
