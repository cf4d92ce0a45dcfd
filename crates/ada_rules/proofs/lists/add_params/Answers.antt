use Rattle.std.proofs.Common.{List, ◌∷◌, [], map}
use Rattle.std.proofs.lemmas.List.{map-append}
use Rattle.std.specs.Borrow.{Bor}
use Rattle.seq_tree.specs.Names.{Name}
use Rattle.seq_tree.specs.declared.tree.Param.{Param}
use Rattle.ada_rules.proofs.LoopSteps.{pushed_step}
use Rattle.ada_rules.proofs.lists.add_params.Goals as goal

pub params-preserved : goal.params-preserved
params-preserved c =
    pushed_step (λ (n : Bor Name). n.now) (λ (xs : List Param). map (λ q. q.name) xs) c.args.params.now c.params.param-index c.param-item.result _
    c.params.names.items c.push.new.self.items _ (λ ys. map-append (λ (q : Param). q.name) ys (c.param-item.result ∷ []))
    c.params-test.true c.param-item.is c.in_ok-push.ensures.items c.params.invariant
