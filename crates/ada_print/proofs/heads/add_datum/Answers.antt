use Rattle.seq_print.proofs.Shared.Chains.{writes-added, writes-same, writes-then}
use Rattle.ada_print.proofs.HeadTexts.{datum-text}
use Rattle.ada_print.proofs.heads.add_datum.Goals as goal

pub returns : goal.returns
returns c =
    writes-same _ c.args.into.now.items _ _ _ (datum-text c.args.level c.args.datum.now)
    (writes-then _ c.args.into.now.items c.put_indent.new.into.items _ _ _ c.in_ok-put_indent.ensures
    (writes-then _ c.put_indent.new.into.items c.put_name.new.into.items _ _ _ c.in_ok-put_name.ensures
    (writes-added _ _ _ _ c.put_number.ensures)))
