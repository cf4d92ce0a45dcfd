use Rattle.seq_tree.specs.Trees.{signature_of}
use Rattle.seq_print.proofs.Shared.Chains.{writes-added, writes-same, writes-then}
use Rattle.ada_print.proofs.HeadTexts.{renaming-text}
use Rattle.ada_print.proofs.heads.add_renaming.Goals as goal

pub returns : goal.returns
returns c =
    writes-same _ c.args.into.now.items _ _ _ (renaming-text c.args.object.now (signature_of c.args.sig.now))
    (writes-then _ c.args.into.now.items c.put.new.into.items _ _ _ c.in_ok-put.ensures
    (writes-then _ c.put.new.into.items c.add_head.new.into.items _ _ _ c.in_ok-add_head.ensures
    (writes-then _ c.add_head.new.into.items c.put-2.new.into.items _ _ _ c.in_ok-put-2.ensures
    (writes-then _ c.put-2.new.into.items c.put-3.new.into.items _ _ _ c.in_ok-put-3.ensures
    (writes-added _ _ _ _ c.put_name.ensures)))))
