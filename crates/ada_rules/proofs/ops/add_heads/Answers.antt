use Rattle.std.proofs.Common.{List, map}
use Rattle.std.specs.Borrow.{Bor}
use Rattle.std.specs.List.{list_any}
use Rattle.seq_tree.specs.declared.tree.OpSig.{OpSig}
use Rattle.ada_rules.specs.Lists.{head_of}
use Rattle.ada_rules.specs.Offers.{is_head}
use Rattle.ada_rules.proofs.LoopSteps.{any_last, told_step}
use Rattle.ada_rules.proofs.ops.add_heads.Goals as goal

pub heads-preserved : goal.heads-preserved
heads-preserved c = λ n.
    let test = is_head c.args.object.now n in
    told_step (λ (hs : List (Bor OpSig)). list_any test (map head_of hs)) c.args.heads.now c.heads.head-index c.head-item.result
    (test (head_of c.head-item.result)) _ _ _
    (any_last test head_of c.head-item.result) c.heads-test.true c.head-item.is (c.in_ok-add.ensures.added n) (c.heads.invariant n)
