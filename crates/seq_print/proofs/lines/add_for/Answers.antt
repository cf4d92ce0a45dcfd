use Rattle.seq_print.proofs.Shared.Chains.{writes-added, writes-same, writes-then}
use Rattle.seq_print.proofs.StatementTexts.{for-text}
use Rattle.seq_print.proofs.lines.add_for.Goals as goal

pub returns : goal.returns
returns c =
    writes-same _ c.args.into.now.items _ _ _ (for-text c.args.level c.args.low c.args.high c.args.name.now)
    (writes-then _ c.args.into.now.items c.put_indent.new.into.items _ _ _ c.in_ok-put_indent.ensures
    (writes-then _ c.put_indent.new.into.items c.put_name.new.into.items _ _ _ c.in_ok-put_name.ensures
    (writes-then _ c.put_name.new.into.items c.put_number.new.into.items _ _ _ c.in_ok-put_number.ensures
    (writes-added _ _ _ _ c.put_number-2.ensures))))
