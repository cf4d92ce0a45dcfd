-- Requests of a program whose tasks stand in a table that fits are served at once, and chains of requests respond within their response times
-- together; so it is in every run of a design's program.
use Rattle.std.specs.Prelude.{◌≡◌, ℕ, true, List, ◌∷◌, map, slice_get, Option, Some, None, option_map, refl}
use Rattle.std.proofs.Common.{sym, ◌∙◌, ap, subst}
use Rattle.std.proofs.lemmas.Bool.{false≢true}
use Rattle.std.proofs.lemmas.Option.{none-some, same_Some, slice_get-map}
use Rattle.seq_tree.specs.Lists.{Each}
use Rattle.seq_tree.specs.Names.{Name}
use Rattle.ods_tree.specs.Designs.{Design}
use Rattle.ods_tree.specs.Flats.{Timing, Cyclic, Sporadic}
use Rattle.ods_tree.specs.Flattening.{flat}
use Rattle.ods_tree.specs.Proper.{IsProperDesign}
use Rattle.ods_tree.specs.Ticks.{in_ticks}
use Rattle.ods_tree.specs.Words.{is_design_name}
use Rattle.seq_tree.specs.Proper.{within_limits}
use Rattle.design_rules.specs.Rules.{MeetsRules}
use Rattle.ada_tree.specs.Programs.{Program}
use Rattle.arrivals_tree.specs.Arriving.{Arrivals}
use Rattle.arrivals_tree.specs.Acceptance.{IsAccepted}
use Rattle.trace_tree.specs.declared.event.Event as machine
use Rattle.machine.specs.Meanings.{Meaning}
use Rattle.rt_response.specs.declared.rows.ThreadRow.{ThreadRow}
use Rattle.rt_response.specs.declared.rows.Bound.{Bound}
use Rattle.rt_response.specs.Response.{Fits}
use Rattle.analysis.specs.Tables.{table}
use Rattle.guarantee.specs.Software.{Task, Software, software, program_software}
use Rattle.guarantee.specs.Events.{Event, named}
use Rattle.guarantee.specs.Bounded.{Response, Responds, IsBounded}
use Rattle.guarantee.specs.Order.{IsInOrder}
use Rattle.guarantee.specs.Programs.{program, responses}
use Rattle.guarantee.specs.Requests.{notices}
use Rattle.guarantee.specs.MachineLaw.{IsReadable}
use Rattle.guarantee.specs.ResponseLaw.{Ranked, ranked, AreTabled, times_of}
use Rattle.guarantee.proofs.Shared.Same.{program-software}
use Rattle.law_lists.proofs.Shared.Places.{all-at, map-at}
use Rattle.law_lists.proofs.Shared.Lists.{each-to, each-map, each-by}
use Rattle.law_chains.specs.AtOnce.{AreServedAtOnce, IsServedAtOnce}
use Rattle.law_chains.specs.Chains.{ChainResponds, total}
use Rattle.law_chains.proofs.Shared.ChainSteps.{chains-respond}
use Rattle.law_designs.specs.TabledDesigns.{IsTabledDesign}
use Rattle.law_designs.proofs.Shared.ReadablePrograms.{program-readable}
use Rattle.law_designs.proofs.Shared.SoundDesigns.{flat-sound, flat-spaced}
use Rattle.law_designs.proofs.Shared.TabledTasks.{sound-tabled}
use Rattle.law_responses.proofs.Shared.ProgramLaw.{processor-responds}
use Rattle.law_runs.specs.Chains.{is_sporadic, HasSporadic, TabledTasksAreServedAtOnce, TabledChainsRespond, DesignsServeAtOnce, DesignChainsRespond}
use Rattle.law_runs.proofs.KeptSoftware.{kept_software}
use Rattle.law_runs.proofs.Joined.{ranked_tasks, served_at_once_tasks}
use Rattle.law_runs.proofs.Shared.Bounded.{program_starts}

-- what is known of a run
abbrev Known : (p : Program) (ts : List Ranked) (v : List Bound) (r : Arrivals) (trace : List machine.Event) → Type 0
Known p ts v r trace = IsInOrder (program_software p).tasks r.until 0 (named p trace) × IsBounded (times_of ts v) r.until (named p trace)
    × Each (λ t. IsServedAtOnce (named p trace) t.task.name t.task.timing) ts

known : (limit : ℕ) (p : Program) (ts : List Ranked) (rows : List ThreadRow) (v : List Bound) (r : Arrivals) (trace : List machine.Event)
    → IsReadable p → AreTabled p ts rows → Fits rows v → IsAccepted limit p r → Meaning p r trace → Known p ts v r trace
known limit p ts rows v r trace readable tabled fits accepted m =
    served_at_once_tasks limit (processor-responds limit) p ts rows v r trace readable tabled fits accepted
    (kept_software limit p r readable.1 accepted) m (program_starts limit p ts rows r trace readable tabled accepted m)

pub tabled-served-at-once : (limit : ℕ) → TabledTasksAreServedAtOnce limit
tabled-served-at-once limit p ts rows v r trace readable tabled fits accepted m
    = (known limit p ts rows v r trace readable tabled fits accepted m).2

-- a sporadic task that is served at once
pub once-sporadic : (trace : List Event) (name : Name) (timing : Timing) → is_sporadic timing ≡ true → IsServedAtOnce trace name timing
    → AreServedAtOnce None (notices name trace)
once-sporadic trace name (Cyclic period offset) e s = absurd (false≢true e)
once-sporadic trace name (Sporadic op separation jitter) e s = s

pub tabled-chains : (limit : ℕ) → TabledChainsRespond limit
tabled-chains limit p ts rows v r trace first more readable tabled fits accepted m bounds sporadic =
    chains-respond (program_software p).tasks r.until (named p trace) first more all.0
    (each-to (λ q. (k : ℕ) × (slice_get (times_of ts v) k ≡ Some q)) (Responds r.until (named p trace)) (first ∷ more)
    (λ q in_it. all-at (Responds r.until (named p trace)) (times_of ts v) in_it.0 q all.1 in_it.1) bounds)
    (each-to (λ q. HasSporadic (map (λ t. t.task) ts) q.thread) (λ q. AreServedAtOnce None (notices q.thread (named p trace))) more once sporadic)
  where
    all : Known p ts v r trace
    all = known limit p ts rows v r trace readable tabled fits accepted m

    tasks : Each (λ t. IsServedAtOnce (named p trace) t.name t.timing) (map (λ t. t.task) ts)
    tasks = each-map (λ t. t.task) (λ t. IsServedAtOnce (named p trace) t.name t.timing) ts all.2

    once : (q : Response) → HasSporadic (map (λ t. t.task) ts) q.thread → AreServedAtOnce None (notices q.thread (named p trace))
    once q h =
        let t : Task = h.1 in
        let served : IsServedAtOnce (named p trace) t.name t.timing =
        all-at (λ z. IsServedAtOnce (named p trace) z.name z.timing) (map (λ z. z.task) ts) h.0 t tasks h.2 in
        subst (λ n. AreServedAtOnce None (notices n (named p trace))) h.3 (once-sporadic (named p trace) t.name t.timing h.4 served)

-- what an item is made of
made-of : {A B : Type 0} (f : A → B) (xs : List A) (k : ℕ) (y : B) → slice_get (map f xs) k ≡ Some y → (x : A) × (slice_get xs k ≡ Some x) × (f x ≡ y)
made-of {A} f xs k y e = by (slice_get xs k) refl (sym (slice_get-map f xs k) ∙ e)
  where
    by : (o : Option A) → slice_get xs k ≡ o → option_map f o ≡ Some y → (x : A) × (slice_get xs k ≡ Some x) × (f x ≡ y)
    by None h k = absurd (none-some y k)
    by (Some x) h k = (x, h, same_Some (f x) y k)

-- the tasks of a program whose tasks all stand in a table stand there
in-table : (p : Program) (ts : List Ranked) → Each (λ u. (i : ℕ) × (slice_get ts i ≡ Some u)) (ranked p) → (k : ℕ) (t : Task)
    → slice_get (program_software p).tasks k ≡ Some t → (i : ℕ) × (slice_get (map (λ u. u.task) ts) i ≡ Some t)
in-table p ts all k t at =
    let u = made-of (λ (z : Ranked). z.task) (ranked p) k t (ap (λ l. slice_get l k) (ranked_tasks p.units) ∙ at) in
    let i = all-at (λ z. (i : ℕ) × (slice_get ts i ≡ Some z)) (ranked p) k u.0 all u.1 in
    (i.0, map-at (λ (z : Ranked). z.task) ts i.0 u.0 i.1 ∙ ap (λ z. Some z) u.2)

module _ (limit : ℕ) (x : Design) (v : List Bound) (r : Arrivals) (told : List machine.Event) (proper : IsProperDesign (within_limits is_design_name) x)
    (meets : MeetsRules x) (fits : Fits (table (flat (in_ticks x))).rows v) (accepted : IsAccepted limit (program (in_ticks x)) r)
    (means : Meaning (program (in_ticks x)) r told) where
  abbrev p : Program
  p = program (in_ticks x)

  readable : IsReadable (program (in_ticks x))
  readable = program-readable x proper meets

  d : IsTabledDesign (in_ticks x)
  d = sound-tabled (in_ticks x) (flat-sound x (in_ticks x) meets) (flat-spaced x (in_ticks x) meets)

  -- the tasks of the design are those of the table
  placed : (k : ℕ) (t : Task) → slice_get (software (in_ticks x)).tasks k ≡ Some t → (i : ℕ) × (slice_get (map (λ u. u.task) d.tasks) i ≡ Some t)
  placed k t at = in-table p d.tasks d.all k t (ap (λ (w : Software). slice_get w.tasks k) (program-software (in_ticks x)) ∙ at)

  pub design-at-once : Each (λ t. IsServedAtOnce (named p told) t.name t.timing) (software (in_ticks x)).tasks
  design-at-once = each-by (λ t. IsServedAtOnce (named p told) t.name t.timing) (software (in_ticks x)).tasks (λ k t at.
      let i = placed k t at in
      all-at (λ z. IsServedAtOnce (named p told) z.name z.timing) (map (λ u. u.task) d.tasks) i.0 t
      (each-map (λ u. u.task) (λ z. IsServedAtOnce (named p told) z.name z.timing) d.tasks
      (tabled-served-at-once limit p d.tasks (table (flat (in_ticks x))).rows v r told readable d.tabled fits accepted means)) i.1)

  pub design-chain : (first : Response) (more : List Response)
      → Each (λ q. (k : ℕ) × (slice_get (responses (flat (in_ticks x)) v) k ≡ Some q)) (first ∷ more)
      → Each (λ q. HasSporadic (software (in_ticks x)).tasks q.thread) more
      → ChainResponds r.until (named p told) (total (first ∷ more)) first.thread (map (λ q. q.thread) more)
  design-chain first more bounds sporadic =
      let B : List Response → Type 0 = λ qs. Each (λ q. (k : ℕ) × (slice_get qs k ≡ Some q)) (first ∷ more) in
      tabled-chains limit p d.tasks (table (flat (in_ticks x))).rows v r told first more readable d.tabled fits accepted means
      (subst B (sym (d.times v)) bounds)
      (each-to (λ q. HasSporadic (software (in_ticks x)).tasks q.thread) (λ q. HasSporadic (map (λ u. u.task) d.tasks) q.thread) more
      (λ q h. let i = placed h.0 h.1 h.2 in (i.0, h.1, i.1, h.3, h.4)) sporadic)

pub designs-serve-at-once : (limit : ℕ) → DesignsServeAtOnce limit
designs-serve-at-once limit x v r told proper meets fits accepted means = design-at-once limit x v r told proper meets fits accepted means

pub design-chains : (limit : ℕ) → DesignChainsRespond limit
design-chains limit x v r told first more proper meets fits accepted means
    = design-chain limit x v r told proper meets fits accepted means first more
