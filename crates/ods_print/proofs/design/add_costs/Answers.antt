use Rattle.seq_print.proofs.Shared.Chains.{writes-printed, writes-same, writes-then}
use Rattle.ods_print.proofs.Lines.{costs-text}
use Rattle.ods_print.proofs.design.add_costs.Goals as goal

pub returns : goal.returns
returns c =
    writes-same _ c.args.into.now.items _ _ _ (costs-text c.args.costs.now)
    (writes-then _ c.args.into.now.items c.put.new.into.items _ _ _ c.in_ok-put.ensures
    (writes-then _ c.put.new.into.items c.put_number.new.into.items _ _ _ c.in_ok-put_number.ensures
    (writes-then _ c.put_number.new.into.items c.put_number-2.new.into.items _ _ _ c.in_ok-put_number-2.ensures
    (writes-then _ c.put_number-2.new.into.items c.put_number-3.new.into.items _ _ _ c.in_ok-put_number-3.ensures
    (writes-then _ c.put_number-3.new.into.items c.put_number-4.new.into.items _ _ _ c.in_ok-put_number-4.ensures
    (writes-then _ c.put_number-4.new.into.items c.put_number-5.new.into.items _ _ _ c.in_ok-put_number-5.ensures
    (writes-then _ c.put_number-5.new.into.items c.put_number-6.new.into.items _ _ _ c.in_ok-put_number-6.ensures
    (writes-then _ c.put_number-6.new.into.items c.put_number-7.new.into.items _ _ _ c.in_ok-put_number-7.ensures
    (writes-printed _ _ _ _ c.put-2.ensures)))))))))
