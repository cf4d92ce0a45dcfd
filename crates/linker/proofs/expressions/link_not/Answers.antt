use Rattle.linker.proofs.Shared.Growths.{linked_not}
use Rattle.linker.proofs.expressions.link_not.Goals as goal
use Rattle.std.proofs.lemmas.Option.{slice_get_within}

pub returns-clause-linked : goal.returns-clause-linked
returns-clause-linked c = λ e scope h. linked_not c.args.nodes.now.items c.add.new.nodes.items c.args.inner.is_boolean c.args.inner.operand
    c.in_ok-place.place scope e c.add.ensures.grows
    (slice_get_within c.add.new.nodes.items c.in_ok-place.place _ c.in_ok-place.ensures.there) c.in_ok-place.ensures.there h
