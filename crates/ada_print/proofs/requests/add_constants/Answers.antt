use Rattle.seq_print.proofs.Shared.Chains.{writes-printed, writes-same, writes-then}
use Rattle.ada_print.proofs.Layouts.{constants-text}
use Rattle.ada_print.proofs.requests.add_constants.Goals as goal

pub returns : goal.returns
returns c =
    writes-same _ c.args.into.now.items _ _ _ (constants-text c.args.separation c.args.jitter c.args.external)
    (writes-then _ c.args.into.now.items c.put_number.new.into.items _ _ _ c.in_ok-put_number.ensures
    (writes-then _ c.put_number.new.into.items c.put_number-2.new.into.items _ _ _ c.in_ok-put_number-2.ensures
    (writes-same _ c.put_number-2.new.into.items _ _ _ c.external_text.ensures (writes-printed _ _ _ _ c.put.ensures))))
