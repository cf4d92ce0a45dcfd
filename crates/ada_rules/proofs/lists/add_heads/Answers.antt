use Rattle.std.proofs.Common.{List, map}
use Rattle.std.specs.Borrow.{Bor}
use Rattle.seq_tree.specs.Names.{Name}
use Rattle.seq_tree.specs.Operations.{Signature}
use Rattle.seq_tree.specs.declared.tree.OpSig.{OpSig}
use Rattle.ada_rules.specs.Lists.{head_of}
use Rattle.ada_rules.proofs.LoopSteps.{maps_last, pushed_step}
use Rattle.ada_rules.proofs.lists.add_heads.Goals as goal

pub heads-preserved : goal.heads-preserved
heads-preserved c =
    let name : Signature → Name = λ h. h.name in
    pushed_step (λ (n : Bor Name). n.now) (λ (hs : List (Bor OpSig)). map name (map head_of hs)) c.args.heads.now c.heads.head-index
    c.head-item.result _
    c.heads.names.items c.push.new.self.items _ (maps_last name head_of c.head-item.result)
    c.heads-test.true c.head-item.is c.in_ok-push.ensures.items c.heads.invariant
