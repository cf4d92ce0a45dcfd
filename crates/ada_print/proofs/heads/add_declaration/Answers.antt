use Rattle.seq_tree.specs.Trees.{signature_of}
use Rattle.seq_print.proofs.Shared.Chains.{writes-printed, writes-same, writes-then}
use Rattle.ada_print.proofs.HeadTexts.{declaration-text}
use Rattle.ada_print.proofs.heads.add_declaration.Goals as goal

pub returns : goal.returns
returns c =
    writes-same _ c.args.into.now.items _ _ _ (declaration-text c.args.level (signature_of c.args.sig.now))
    (writes-then _ c.args.into.now.items c.put_indent.new.into.items _ _ _ c.in_ok-put_indent.ensures
    (writes-then _ c.put_indent.new.into.items c.add_head.new.into.items _ _ _ c.in_ok-add_head.ensures
    (writes-printed _ _ _ _ c.put.ensures)))
