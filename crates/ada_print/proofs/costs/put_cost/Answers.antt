use Rattle.seq_print.proofs.Shared.Chains.{writes-added, writes-same, writes-then}
use Rattle.ada_print.proofs.Layouts.{cost-text}
use Rattle.ada_print.proofs.costs.put_cost.Goals as goal

pub returns : goal.returns
returns c =
    writes-same _ c.args.into.now.items _ _ _ (cost-text c.args.name.now c.args.cost)
    (writes-then _ c.args.into.now.items c.put.new.into.items _ _ _ c.in_ok-put.ensures
    (writes-then _ c.put.new.into.items c.put-2.new.into.items _ _ _ c.in_ok-put-2.ensures
    (writes-added _ _ _ _ c.put_number.ensures)))
