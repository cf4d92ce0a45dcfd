use Rattle.std.proofs.Common.{sym, ap, ◌∙◌, false, get_or}
use Rattle.rings.proofs.RingLaws.{tells-ring}
use Rattle.rings.proofs.firsts.is_on_ring.Goals as goal

pub returns : goal.returns
returns c =
    tells-ring c.args.graph.now c.args.node c.targets.result.now c.targets.ensures c.is_marked.result
    (λ h. c.in_ok-reached.ensures.sound c.args.node (sym (c.is_marked.ensures ∙ ap (λ xs. get_or xs c.args.node false) c.as_slice.ensures.value) ∙ h))
    (λ r. c.is_marked.ensures ∙ ap (λ xs. get_or xs c.args.node false) c.as_slice.ensures.value ∙ c.in_ok-reached.ensures.complete c.args.node r)
