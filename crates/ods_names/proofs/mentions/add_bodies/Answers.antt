use Rattle.ods_tree.specs.Trees.{body_of}
use Rattle.design_rules.specs.Clashes.{body_mentions}
use Rattle.ods_names.specs.Mentions.{gathered}
use Rattle.ods_names.proofs.LoopSteps.{counted_step}
use Rattle.ods_names.proofs.mentions.add_bodies.Goals as goal

pub bodies-preserved : goal.bodies-preserved
bodies-preserved c =
    counted_step (body_mentions c.args.place) body_of c.args.bodies.now c.bodies.number c.index-bodies-number.result
    (gathered c.args.source.index.now c.bodies.into.items) _ _ c.bodies-test.true c.index-bodies-number.is
    c.in_ok-add_body.ensures c.bodies.invariant
