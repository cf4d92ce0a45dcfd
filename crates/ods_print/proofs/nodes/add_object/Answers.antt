use Rattle.std.proofs.Common.{◌++◌, ap, ◌∙◌}
use Rattle.seq_print.proofs.Shared.Chains.{writes-printed, writes-same, writes-then}
use Rattle.ods_print.proofs.Parting.{object-text}
use Rattle.ods_print.proofs.nodes.add_object.Goals as goal

pub returns : goal.returns
returns c =
    writes-same _ c.args.into.now.items _ _ _ (object-text c.args.level c.args.name.now c.args.kind)
    (writes-then _ c.args.into.now.items c.put_named.new.into.items _ _ _ c.in_ok-put_named.ensures
    (writes-then _ c.put_named.new.into.items c.put.new.into.items _ _ _
    (c.in_ok-put.ensures ∙ ap (λ x. c.put_named.new.into.items ++ x) c.kind_text.ensures)
    (writes-printed _ _ _ _ c.put-2.ensures)))
