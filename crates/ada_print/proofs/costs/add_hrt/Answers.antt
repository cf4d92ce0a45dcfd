use Rattle.seq_print.proofs.Shared.Chains.{writes-printed, writes-same, writes-then}
use Rattle.ada_print.proofs.Layouts.{hrt-text}
use Rattle.ada_print.proofs.costs.add_hrt.Goals as goal

pub returns : goal.returns
returns c =
    writes-same _ c.args.into.now.items _ _ _ (hrt-text c.args.costs.now)
    (writes-then _ c.args.into.now.items c.put.new.into.items _ _ _ c.in_ok-put.ensures
    (writes-then _ c.put.new.into.items c.put_cost.new.into.items _ _ _ c.in_ok-put_cost.ensures
    (writes-then _ c.put_cost.new.into.items c.put_cost-2.new.into.items _ _ _ c.in_ok-put_cost-2.ensures
    (writes-then _ c.put_cost-2.new.into.items c.put_cost-3.new.into.items _ _ _ c.in_ok-put_cost-3.ensures
    (writes-then _ c.put_cost-3.new.into.items c.put_cost-4.new.into.items _ _ _ c.in_ok-put_cost-4.ensures
    (writes-then _ c.put_cost-4.new.into.items c.put_cost-5.new.into.items _ _ _ c.in_ok-put_cost-5.ensures
    (writes-then _ c.put_cost-5.new.into.items c.put_cost-6.new.into.items _ _ _ c.in_ok-put_cost-6.ensures
    (writes-then _ c.put_cost-6.new.into.items c.put_cost-7.new.into.items _ _ _ c.in_ok-put_cost-7.ensures
    (writes-printed _ _ _ _ c.put-2.ensures)))))))))
