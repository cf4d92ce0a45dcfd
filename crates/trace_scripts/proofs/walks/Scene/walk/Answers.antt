use Rattle.std.proofs.Common.{List, ap, length, rules, ◌∙◌}
use Rattle.seq_tree.specs.Runs.{Action}
use Rattle.seq_tree.specs.Trees.{block_of}
use Rattle.seq_eval.specs.Scripts.{followed_as}
use Rattle.trace_scripts.specs.Scenes.{program_in}
use Rattle.trace_scripts.specs.Scripts.{actions_at}
use Rattle.trace_scripts.proofs.Walking.{stopped-off, stopped-over, told, walked_by}
use Rattle.trace_scripts.proofs.walks.Scene.walk.Goals as goal

pub returns-in-Done : goal.returns-in-Done
returns-in-Done c =
    let us : List Action = c.new-reading.result in
    told c.args.self.now c.args.events.now (block_of c.args.block.now) c.args.env.now.slots.items c.follow_actions.new.env.slots.items
    c.args.script.now us _ _ (search rules) c.requires.scene.calls
    (c.new-reading.ensures ∙ ap (actions_at (program_in c.args.self.now) c.args.events.now) c.as_slice.ensures.value)
    (ap (λ a. walked_by (followed_as (λ (xs : List Action). xs) (length us) a)) c.in-Done.is) (c.in_ok-answer.ensures.says c.requires.ticks)

pub returns-then-is_over : goal.returns-then-is_over
returns-then-is_over c =
    let us : List Action = c.new-reading.result in
    told c.args.self.now c.args.events.now (block_of c.args.block.now) c.args.env.now.slots.items c.follow_actions.new.env.slots.items
    c.args.script.now us _ _ (search rules) c.requires.scene.calls
    (c.new-reading.ensures ∙ ap (actions_at (program_in c.args.self.now) c.args.events.now) c.as_slice.ensures.value)
    (ap (λ a. walked_by (followed_as (λ (xs : List Action). xs) (length us) a)) c.in-Stopped.is
    ∙ stopped-over (length us) c.in-Stopped.rest c.is_over.result c.is_over.ensures (search rules)) (c.in_ok-answer.ensures.says c.requires.ticks)

pub returns-else-is_over : goal.returns-else-is_over
returns-else-is_over c =
    let us : List Action = c.new-reading.result in
    told c.args.self.now c.args.events.now (block_of c.args.block.now) c.args.env.now.slots.items c.follow_actions.new.env.slots.items
    c.args.script.now us _ _ (search rules) c.requires.scene.calls
    (c.new-reading.ensures ∙ ap (actions_at (program_in c.args.self.now) c.args.events.now) c.as_slice.ensures.value)
    (ap (λ a. walked_by (followed_as (λ (xs : List Action). xs) (length us) a)) c.in-Stopped.is
    ∙ stopped-off (length us) c.in-Stopped.rest c.is_over.result c.is_over.ensures (search rules)) (c.in_ok-answer.ensures.says c.requires.ticks)
