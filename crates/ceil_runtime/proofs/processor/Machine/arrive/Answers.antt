use Rattle.std.proofs.Common.{◌≡◌, ℕ, ap, false, map, None, subst, sym, ◌∙◌}
use Rattle.std.specs.Prelude.{option_map}
use Rattle.seq_tree.specs.Lists.{first_where}
use Rattle.machine.specs.States as states
use Rattle.task_runtime.specs.Tasks.{task_of}
use Rattle.ceil_runtime.specs.Shown.{snapshot_of}
use Rattle.ceil_runtime.specs.Snapshots.{IsWholeAt}
use Rattle.ceil_runtime.specs.Stepping.{Nothing, Steps, StepsTelling}
use Rattle.ceil_runtime.specs.declared.processor.Phase.TheVariants.{Arriving}
use Rattle.ceil_runtime.proofs.Arrived.{is_of}
use Rattle.ceil_runtime.proofs.Instants.{nobody-step}
use Rattle.ceil_runtime.proofs.Phases.{in-phase, telling}
use Rattle.ceil_runtime.proofs.processor.Machine.arrive.Goals as goal

pub returns-in_default : goal.returns-in_default
returns-in_default c =
    let s = snapshot_of c.args.self.now in
    let a = c.args.arrival in
    let others = c.args.others.now in
    let none : None ≡ option_map (λ (x : ℕ × states.Task). x.0) (first_where (is_of a.task) (map task_of s.tasks)) =
    c.in_default.ensures ∙ ap (λ ts. option_map (λ (x : ℕ × states.Task). x.0) (first_where (is_of a.task) (map task_of ts)))
    c.as_slice.ensures.value in
    telling s _ Nothing _ (in-phase s Arriving c.requires.whole c.requires.phase c.requires.goes_on
    (λ x. Steps x Nothing (record x { arrivals = others }))
    (λ whole. subst (λ as'. Steps (record s { phase = Arriving; stopped = false; arrivals = as' }) Nothing
    (record s { phase = Arriving; stopped = false; arrivals = others })) (sym c.requires.first)
    (nobody-step s a others (subst (λ as'. IsWholeAt (record s { phase = Arriving; stopped = false; arrivals = as' })) c.requires.first whole)
    c.requires.now none))) c.requires.empty

pub ask_at-requires-clause-whole : goal.ask_at-requires-clause-whole
ask_at-requires-clause-whole c =
    subst (λ as'. IsWholeAt (record (snapshot_of c.args.self.now) { arrivals = as' })) c.requires.first c.requires.whole

pub ask_at-requires-clause-found : goal.ask_at-requires-clause-found
ask_at-requires-clause-found c =
    c.in-Some.ensures ∙ ap (λ ts. option_map (λ (x : ℕ × states.Task). x.0) (first_where (is_of c.args.arrival.task) (map task_of ts)))
    c.as_slice.ensures.value

pub returns : goal.returns
returns c =
    let s = snapshot_of c.args.self.now in
    subst (λ as'. StepsTelling (record s { arrivals = as' }) c.ask_at.new.events (snapshot_of c.ask_at.new.self)) (sym c.requires.first)
    c.ask_at.ensures
