use Rattle.std.proofs.Common.{◌++◌, ap, ◌∙◌}
use Rattle.seq_print.proofs.Shared.Chains.{writes-then}
use Rattle.ada_print.proofs.heads.add_head.Goals as goal

pub returns : goal.returns
returns c =
    writes-then _ c.args.into.now.items c.put.new.into.items _ _ _ c.in_ok-put.ensures
    (writes-then _ c.put.new.into.items c.put-2.new.into.items _ _ _
    (c.in_ok-put-2.ensures ∙ ap (λ x. c.put.new.into.items ++ x) c.bytes.ensures.bytes)
    (rw c.deref.ensures.value at c.put_params.ensures))
