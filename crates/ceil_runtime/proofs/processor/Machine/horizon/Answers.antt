use Rattle.std.specs.Prelude.{true}
use Rattle.trace_tree.specs.declared.event.Event.TheVariants as event
use Rattle.ceil_runtime.specs.Shown.{snapshot_of}
use Rattle.ceil_runtime.specs.Stepping.{Nothing, One, Steps}
use Rattle.ceil_runtime.specs.declared.processor.Phase.TheVariants.{Arriving, Use}
use Rattle.ceil_runtime.proofs.Instants.{before-step, horizon-step}
use Rattle.ceil_runtime.proofs.Phases.{in-phase, telling}
use Rattle.ceil_runtime.proofs.processor.Machine.horizon.Goals as goal

pub returns-then-self : goal.returns-then-self
returns-then-self c =
    let s = snapshot_of c.args.self.now in
    telling s _ (One (event.Horizon s.time)) _ (in-phase s Arriving c.requires.whole c.requires.phase c.requires.goes_on
    (λ x. Steps x (One (event.Horizon s.time)) (record x { stopped = true }))
    (λ whole. horizon-step s whole c.requires.none c.if-self.true)) c.tell.ensures

pub returns : goal.returns
returns c =
    let s = snapshot_of c.args.self.now in
    telling s _ Nothing _ (in-phase s Arriving c.requires.whole c.requires.phase c.requires.goes_on (λ x. Steps x Nothing (record x { phase = Use }))
    (λ whole. before-step s whole c.requires.none c.if-self.false)) c.requires.empty
