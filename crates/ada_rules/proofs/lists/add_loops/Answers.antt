use Rattle.std.proofs.Common.{List, ◌∷◌, [], map}
use Rattle.ada_rules.specs.Lists.{names_of}
use Rattle.ada_rules.specs.Parts.{loops_in, part_of}
use Rattle.ada_rules.specs.declared.parts.Part.{Part}
use Rattle.seq_tree.proofs.Shared.LoopSteps.{added_step}
use Rattle.ada_rules.proofs.PartLaws.{loops-cons}
use Rattle.ada_rules.proofs.lists.add_loops.Goals as goal

pub parts-preserved : goal.parts-preserved
parts-preserved c =
    let p = part_of c.part-item.result in
    added_step (λ (ps : List Part). loops_in (map part_of ps)) (loops_in (p ∷ []))
    c.args.parts.now c.parts.part-index c.part-item.result (names_of c.parts.names.items) _ _
    (λ ys. loops-cons p (map part_of ys)) c.parts-test.true c.part-item.is c.in_ok-add_loop.ensures c.parts.invariant
