use Rattle.seq_print.proofs.Shared.Chains.{writes-printed, writes-same, writes-then}
use Rattle.ada_print.proofs.Layouts.{waiting-text}
use Rattle.ada_print.proofs.requests.add_waiting.Goals as goal

pub returns : goal.returns
returns c =
    writes-same _ c.args.into.now.items _ _ _ (waiting-text c.args.params.now)
    (writes-then _ c.args.into.now.items c.put.new.into.items _ _ _ c.in_ok-put.ensures
    (writes-then _ c.put.new.into.items c.put_request.new.into.items _ _ _ c.in_ok-put_request.ensures
    (writes-then _ c.put_request.new.into.items c.put_number.new.into.items _ _ _ c.in_ok-put_number.ensures
    (writes-then _ c.put_number.new.into.items c.put_request-2.new.into.items _ _ _ c.in_ok-put_request-2.ensures
    (writes-printed _ _ _ _ c.put-2.ensures)))))
