use Rattle.std.proofs.Common.{ℕ, ◌≤◌, rules}
use Rattle.seq_tree.specs.Limits.{tick_limit}
use Rattle.ada_tree.specs.Programs.{Program}
use Rattle.law_walks.specs.Fit.{MayRun}
use Rattle.guarantee.specs.Software.{leads_to}
use Rattle.seq_eval.specs.Bounds.{most_ticks}
use Rattle.trace_scripts.specs.Moving.{threads_of}
use Rattle.trace_scripts.specs.Objects.{charge_of}
use Rattle.trace_scripts.specs.Scenes.{program_in, software_of, calls_of}
use Rattle.trace_scripts.proofs.MoveSteps.{Found, block-at, step-made, step-none, thread-found, thread-none}
use Rattle.trace_scripts.proofs.moves.Threads.step.Goals as goal

pub returns-in_default-clause-states : goal.returns-in_default-clause-states
returns-in_default-clause-states c = λ depth may.
    step-none (program_in c.args.scene.now) depth c.args.good (charge_of c.args.charge) c.args.event.now c.args.task (threads_of (program_in c.args.scene.now) c.args.events.now c.args.self.now)
    (thread-none (program_in c.args.scene.now) c.args.task c.thread_at.result c.thread_at.ensures (search rules))

pub advance-requires-clause-ticks : goal.advance-requires-clause-ticks
advance-requires-clause-ticks c =
    block-at (program_in c.args.scene.now) c.args.task c.requires.task c.in-Some.thread
    (thread-found (program_in c.args.scene.now) c.args.task c.thread_at.result c.in-Some.thread c.thread_at.ensures c.in-Some.is)
    (λ b. (depth : ℕ) → most_ticks (program_in c.args.scene.now).costs (calls_of c.args.scene.now) depth b ≤ tick_limit) c.requires.scene.ticks

pub returns-clause-states : goal.returns-clause-states
returns-clause-states c = λ depth may.
    let p : Program = program_in c.args.scene.now in
    let f : Found p c.args.task c.in-Some.thread =
    thread-found p c.args.task c.thread_at.result c.in-Some.thread c.thread_at.ensures c.in-Some.is in
    step-made p c.args.events.now depth c.args.good (charge_of c.args.charge) c.args.event.now c.args.task c.in-Some.thread f c.args.self.now.states.items _
    c.replace-before.result c.in_ok-after.after (search rules) (search rules)
    (c.in_ok-after.ensures depth f.task f.is
    (block-at p c.args.task c.requires.task c.in-Some.thread f (λ b. MayRun (leads_to (software_of c.args.scene.now)) depth b) may))
