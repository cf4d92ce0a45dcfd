use Rattle.std.proofs.Common.{List, ◌∷◌, [], map}
use Rattle.std.proofs.lemmas.List.{map-append}
use Rattle.std.specs.Borrow.{Bor}
use Rattle.seq_tree.specs.Names.{Name}
use Rattle.seq_tree.specs.declared.tree.Datum.{Datum}
use Rattle.ada_rules.proofs.LoopSteps.{pushed_step}
use Rattle.ada_rules.proofs.lists.add_data.Goals as goal

pub data-preserved : goal.data-preserved
data-preserved c =
    pushed_step (λ (n : Bor Name). n.now) (λ (xs : List Datum). map (λ d. d.name) xs) c.args.data.now c.data.datum-index c.datum-item.result _
    c.data.names.items c.push.new.self.items _ (λ ys. map-append (λ (d : Datum). d.name) ys (c.datum-item.result ∷ []))
    c.data-test.true c.datum-item.is c.in_ok-push.ensures.items c.data.invariant
