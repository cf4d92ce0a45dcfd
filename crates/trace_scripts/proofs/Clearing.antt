-- Blocks of software that can be followed are those of its program; and what is found of its objects.
use Rattle.std.proofs.Common.{◌≡◌, ℕ, Bool, List, [], ◌∷◌, Option, Some, sym, ap, subst, ◌∙◌}
use Rattle.std.specs.Prelude.{filter_map, slice_get, option_map}
use Rattle.std.specs.List.{cons_option}
use Rattle.seq_tree.specs.Lists.{Each}
use Rattle.seq_tree.specs.Statements.{Statements}
use Rattle.ods_tree.specs.Flats.{Guarded}
use Rattle.ada_tree.specs.Programs.{Program, Unit, Form, Passive, Shared, Cyclic, Sporadic}
use Rattle.ada_tree.specs.Rules.{MeetsRules}
use Rattle.trace_tree.specs.Placed.{IsPlaced}
use Rattle.trace_tree.specs.declared.event.Event as machine
use Rattle.guarantee.specs.Software.{Software, Task, program_software, task_by, guarded_by, leads_to}
use Rattle.guarantee.specs.Events.{named}
use Rattle.law_walks.specs.Fit.{MayRun}
use Rattle.law_traces.specs.Clear.{IsClear}
use Rattle.law_traces.specs.Checks.{serves}
use Rattle.law_trace_places.specs.Places.{guarded_in, task_in}
use Rattle.law_traces.specs.Entries.{entries_in}
use Rattle.law_traces.specs.Services as services
use Rattle.law_traces.specs.Services.{served_from}
use Rattle.law_traces.specs.PassLaws.{at_first}
use Rattle.law_traces.proofs.Shared.Served.{served-sound}
use Rattle.trace_scripts.specs.Objects.{AreServing}
use Rattle.trace_scripts.specs.Scenes.{AllBlocks}
use Rattle.trace_scripts.specs.Serving.{MayAll, objects_from, services_first}
use Rattle.trace_scripts.specs.Insides.{entries_from}
use Rattle.trace_scripts.proofs.Entering.{entries-named}
use Rattle.trace_scripts.proofs.ObjectsNamed.{states-named, first-named, first-own}

-- the blocks of units
blocks-of : (P : Statements → Type 0) (us : List Unit) → Each (λ (t : Task). P t.block) (filter_map task_in us)
    → Each (λ (g : Guarded). Each (λ o. P o.block) g.ops) (filter_map guarded_in us) → Each (λ u. AllBlocks P u.form) us
blocks-of P [] h k = tt
blocks-of P (u ∷ us) h k = by u.name u.form (λ i j. blocks-of P us i j) h k
  where
    by : (name : _) (f : Form)
        → (Each (λ (t : Task). P t.block) (filter_map task_in us) → Each (λ (g : Guarded). Each (λ o. P o.block) g.ops) (filter_map guarded_in us)
        → Each (λ v. AllBlocks P v.form) us)
        → Each (λ (t : Task). P t.block) (cons_option (task_by name f) (filter_map task_in us))
        → Each (λ (g : Guarded). Each (λ o. P o.block) g.ops) (cons_option (guarded_by name f) (filter_map guarded_in us))
        → AllBlocks P f × Each (λ v. AllBlocks P v.form) us
    by name (Passive ops) more h k = (tt, more h k)
    by name (Shared ceiling vars ops) more h k = (k.0, more h k.1)
    by name (Cyclic priority offset period vars block) more h k = (h.0, more h.1 k)
    by name (Sporadic priority ceiling op separation jitter external vars block) more h k = (h.0, more h.1 k)

pub may-all : (p : Program) (clear : IsClear (program_software p)) → MayAll p clear.depth
may-all p clear = blocks-of (MayRun (leads_to (program_software p)) clear.depth) p.units clear.threads clear.bodies

-- what the states of objects say behind a trace
pub states-serve : (p : Program) → MeetsRules p → (depth : ℕ) (es : List machine.Event) → Each (IsPlaced p) es
    → AreServing p (objects_from p depth es (entries_from p es) (services_first p)) (serves (program_software p) depth (named p es))
states-serve p meets depth es placed u g k at =
    let w : Software = program_software p in
    let Sound : services.Service → Option Bool = λ s. Some (services.is_sound s) in
    ap (λ xs. option_map services.is_sound (slice_get (objects_from p depth es xs (services_first p)) u)) (entries-named p meets es placed)
    ∙ ap (option_map services.is_sound)
    (states-named p meets depth 0 es (entries_in w (named p es)) (services_first p) (at_first w) placed (first-named p meets depth 0) u g k at)
    ∙ ap (λ s. Sound (served_from w depth g (named p es) (entries_in w (named p es)) s)) (first-own p meets depth 0 u g k at)
    ∙ ap (λ b. Some b) (sym (served-sound w depth g (named p es)))

-- what is said of objects behind a trace
pub objects-say : (p : Program) → MeetsRules p → (clear : IsClear (program_software p)) (es : List machine.Event) → Each (IsPlaced p) es
    → (ss : List services.Service) → ss ≡ objects_from p clear.depth es (entries_from p es) (services_first p)
    → AreServing p ss (serves (program_software p) clear.depth (named p es))
objects-say p meets clear es placed ss is =
    let P : List services.Service → Type 0 = λ z. AreServing p z (serves (program_software p) clear.depth (named p es)) in
    subst P (sym is) (states-serve p meets clear.depth es placed)
