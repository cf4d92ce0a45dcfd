use Rattle.std.proofs.Common.{◌++◌, ap, ◌∙◌}
use Rattle.seq_print.proofs.Shared.Chains.{writes-printed, writes-same, writes-then}
use Rattle.ods_print.proofs.Parting.{provided-text}
use Rattle.ods_print.proofs.items.ProvidedItem.add.Goals as goal

pub returns : goal.returns
returns c =
    writes-same _ c.args.into.now.items _ _ _ (provided-text c.args.level c.args.self.now.sig.name c.args.self.now.sig.params.items
    c.args.self.now.constraint)
    (writes-then _ c.args.into.now.items c.put_indent.new.into.items _ _ _ c.in_ok-put_indent.ensures
    (writes-then _ c.put_indent.new.into.items c.put.new.into.items _ _ _
    (c.in_ok-put.ensures ∙ ap (λ x. c.put_indent.new.into.items ++ x) c.bytes.ensures.bytes)
    (writes-then _ c.put.new.into.items c.put_params.new.into.items _ _ _ (rw c.deref.ensures.value at c.in_ok-put_params.ensures)
    (writes-then _ c.put_params.new.into.items c.put-2.new.into.items _ _ _
    (c.in_ok-put-2.ensures ∙ ap (λ x. c.put_params.new.into.items ++ x) c.constraint_text.ensures)
    (writes-printed _ _ _ _ c.put-3.ensures)))))
