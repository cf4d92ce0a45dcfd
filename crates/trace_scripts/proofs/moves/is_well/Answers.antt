use Rattle.std.proofs.Common.{ℕ, ◌≤◌, ap, sym, ◌∙◌}
use Rattle.seq_tree.specs.Limits.{tick_limit}
use Rattle.ada_tree.specs.Programs.{Program}
use Rattle.law_walks.specs.Fit.{MayRun}
use Rattle.guarantee.specs.Software.{leads_to}
use Rattle.seq_eval.specs.Bounds.{most_ticks}
use Rattle.law_trace_places.specs.Places.{task_at}
use Rattle.trace_scripts.specs.Moving.{well_by}
use Rattle.trace_scripts.specs.Scenes.{program_in, software_of, calls_of}
use Rattle.trace_scripts.specs.Threads.{progress_of}
use Rattle.trace_scripts.proofs.MoveSteps.{Found, block-at, thread-found, well-some}
use Rattle.trace_scripts.proofs.moves.is_well.Goals as goal

pub ends-requires-clause-ticks : goal.ends-requires-clause-ticks
ends-requires-clause-ticks c =
    block-at (program_in c.args.scene.now) c.args.unit c.requires.unit c.in-Some.thread
    (thread-found (program_in c.args.scene.now) c.args.unit c.thread_at.result c.in-Some.thread c.thread_at.ensures c.in-Some.is)
    (λ b. (depth : ℕ) → most_ticks (program_in c.args.scene.now).costs (calls_of c.args.scene.now) depth b ≤ tick_limit) c.requires.scene.ticks

pub returns-in-Active : goal.returns-in-Active
returns-in-Active c = λ depth may.
    let p : Program = program_in c.args.scene.now in
    let f : Found p c.args.unit c.in-Some.thread =
    thread-found p c.args.unit c.thread_at.result c.in-Some.thread c.thread_at.ensures c.in-Some.is in
    well-some p depth c.args.unit c.in-Some.thread f _ c.in_ok-ends-in-Active.ends
    (c.in_ok-ends-in-Active.ensures depth f.task f.is
    (block-at p c.args.unit c.requires.unit c.in-Some.thread f (λ b. MayRun (leads_to (software_of c.args.scene.now)) depth b) may))
    ∙ ap (λ s. well_by (software_of c.args.scene.now) depth (task_at p c.args.unit) (progress_of (program_in c.args.scene.now) c.args.events.now s)) (sym c.in-Active.is)
