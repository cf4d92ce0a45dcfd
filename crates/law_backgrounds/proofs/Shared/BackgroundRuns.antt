-- Every run of the program of a design with background objects is right, where bounds fit the rows of its hard threads.
use Rattle.std.specs.Prelude.{◌≡◌, ℕ, ◌-◌, ◌≤◌, Bool, true, false, not, List, [], ◌∷◌, ◌++◌, refl, map, take, length, Some, slice_get, Ok}
use Rattle.std.proofs.Common.{sym, ◌∙◌, ap, ap₂, subst, arith}
use Rattle.std.proofs.lemmas.Bool.{true≢false}
use Rattle.seq_tree.specs.Limits.{ada_limit}
use Rattle.seq_tree.specs.Names.{Name}
use Rattle.seq_tree.specs.Lists.{Each}
use Rattle.seq_tree.specs.Lexis.{tokens, plain}
use Rattle.seq_tree.specs.Proper.{within_limits}
use Rattle.ods_tree.specs.Designs.{Object, Design}
use Rattle.ods_tree.specs.Words.{is_design_name}
use Rattle.ods_tree.specs.Proper.{IsProperDesign}
use Rattle.ods_tree.specs.Ticks.{in_ticks}
use Rattle.ods_tree.specs.Flats as timing
use Rattle.ods_tree.specs.Flattening.{threads, flat}
use Rattle.ods_tree.proofs.Shared.TickLaws.{ticks-version}
use Rattle.ada_tree.specs.Programs.{Program}
use Rattle.ada_tree.specs.Spelling.{program_tokens}
use Rattle.arrivals_tree.specs.Arriving as places
use Rattle.arrivals_tree.specs.Acceptance.{IsAccepted}
use Rattle.trace_tree.specs.declared.event.Event as machine
use Rattle.machine.specs.Meanings.{Meaning}
use Rattle.rt_response.specs.declared.rows.Bound.{Bound}
use Rattle.rt_response.specs.Response.{Fits}
use Rattle.analysis.specs.Priorities.{priorities_of}
use Rattle.analysis.specs.Tables.{table}
use Rattle.design_rules.specs.Rules.{AreMet}
use Rattle.guarantee.specs.Software.{Task, Software, software, program_software, task_of}
use Rattle.guarantee.specs.Events.{named}
use Rattle.guarantee.specs.Arrivals.{named_arrivals, AreKept, KeepsSeparations}
use Rattle.guarantee.specs.Allowed.{DoesAsWritten, IsPeriodic, IsRequested}
use Rattle.guarantee.specs.Bounded.{Response, IsBounded}
use Rattle.guarantee.specs.MachineLaw.{IsReadable}
use Rattle.guarantee.specs.Programs.{program}
use Rattle.guarantee.specs.ResponseLaw.{Ranked}
use Rattle.guarantee.proofs.Shared.Same.{program-software}
use Rattle.law_tasks.proofs.Shared.Halts.{readable_means}
use Rattle.law_ceilings.proofs.Shared.Programs as exclusion
use Rattle.law_responses.proofs.Shared.ProgramLaw.{processor-responds}
use Rattle.law_runs.specs.Laws.{ServesTable}
use Rattle.law_runs.proofs.Shared.Bounded.{tabled_served}
use Rattle.law_runs.proofs.Shared.KeptAccepted.{accepted_software}
use Rattle.analysis.specs.Sound.{IsSound}
use Rattle.rt_response.specs.Tables.{IsTable}
use Rattle.law_designs.proofs.Shared.SoundDesigns.{flat-sound}
use Rattle.law_designs.proofs.Shared.ObjectRules.{nothing_first}
use Rattle.law_designs.proofs.Shared.ProperTicks.{proper-in-ticks}
use Rattle.law_designs.proofs.Shared.PriorityLists.{ranked_entry}
use Rattle.law_designs.proofs.Shared.TabledPrograms.{long}
use Rattle.law_designs.proofs.Shared.Lists.{from-map, named-from, has-at}
use Rattle.law_lists.proofs.Shared.Lists.{in-filter, in-map, each-in, place-of}
use Rattle.law_lists.proofs.Shared.Places.{map-at, all-at}
use Rattle.std.proofs.lemmas.Option.{slice_get_within}
use Rattle.background_designs.specs.Clients.{is_client, clients, is_client_name}
use Rattle.background_designs.specs.HardParts.{hard_part}
use Rattle.background_designs.specs.Misfits.{misfit_actives, foreign_waits, foreign_servers, background_requests, slow_threads, requesting_clients}
use Rattle.background_designs.specs.Refusals.{IsBackgroundDesign, Background, Hard, Requests}
use Rattle.background_designs.specs.Programs.{background_program, hard_count, hard_rows, hard_tasks}
use Rattle.background_designs.specs.Turns.{IsRestless}
use Rattle.background_designs.specs.Runs.{PermitsBackground, IsRightInBackground, IsGuaranteedInBackground}
use Rattle.law_backgrounds.proofs.Shared.HardObjects.{terminal_objects}
use Rattle.law_backgrounds.proofs.Shared.HardThreads.{client-thread}
use Rattle.law_backgrounds.proofs.Shared.HardRanks.{client-there}
use Rattle.law_backgrounds.proofs.Shared.ProperHard.{hard-are-proper}
use Rattle.law_backgrounds.proofs.Shared.Lifts.{lifted}
use Rattle.law_backgrounds.proofs.LiftedTables.{retask, retime, passive-same, shared-same, tasks-lifted}
use Rattle.law_backgrounds.proofs.Retimed.{retimed, written-back, kept-on}
use Rattle.law_backgrounds.proofs.RestlessLaw.{task_at_once}
use Rattle.law_backgrounds.proofs.Shared.BackgroundPrograms.{sound, readable, ts, program-raised, hard-tabled, hard-times, hard-stands, take-few}

-- software of a raised program
software-raised : (least : ℕ) (e : Name → Bool) (p : Program) → program_software (lifted least e p) ≡ retimed e (program_software p)
software-raised least e p = λ i. record {
  costs = p.costs;
  passive = passive-same least e p i;
  shared = shared-same least e p i;
  tasks = tasks-lifted least e p i;
}

module _ (limit : ℕ) (written : Design) (proper : IsProperDesign (within_limits is_design_name) written) (passes : IsBackgroundDesign written) where
  abbrev x : Design
  x = in_ticks written

  abbrev y : Design
  y = hard_part x

  abbrev q : Program
  q = background_program x

  abbrev e : Name → Bool
  e = is_client_name x

  met : AreMet written y
  met = passes Hard

  version : written.version ≡ y.version
  version = sym (ticks-version written)

  pub quick : slow_threads x ≡ []
  quick =
      let a = nothing_first (misfit_actives x) (foreign_waits x ++ (foreign_servers x ++ (background_requests x ++ slow_threads x)))
      (passes Background) in
      let b = nothing_first (foreign_waits x) (foreign_servers x ++ (background_requests x ++ slow_threads x)) a.1 in
      let c = nothing_first (foreign_servers x) (background_requests x ++ slow_threads x) b.1 in
      (nothing_first (background_requests x) (slow_threads x) c.1).1

  calm : requesting_clients x ≡ []
  calm = passes Requests

  upright : IsReadable q
  upright = readable written x met version (hard-are-proper x (proper-in-ticks written proper)) quick calm

  does : program_software q ≡ retimed e (software y)
  does = ap program_software (program-raised written x met version (hard-are-proper x (proper-in-ticks written proper)) quick calm)
      ∙ software-raised _ e (program y) ∙ ap (retimed e) (program-software y)

  module _ (v : List Bound) (fits : Fits (hard_rows x) v) (r : places.Arrivals) (accepted : IsAccepted limit q r) (told : List machine.Event)
      (means : Meaning q r told) where
    serves : ServesTable q (take (hard_count x) (ts written x met version (hard-are-proper x (proper-in-ticks written proper)) quick calm)) v r
        (named q told)
    serves =
        tabled_served limit (processor-responds limit) q
        (take (hard_count x) (ts written x met version (hard-are-proper x (proper-in-ticks written proper)) quick calm))
        (hard_rows x) v r told upright
        (hard-tabled written x met version (hard-are-proper x (proper-in-ticks written proper)) quick calm) fits accepted means

    -- each hard thread is released on time, and its requests are served
    hard-served : Each (λ t. IsPeriodic r.until (named q told) t.name t.timing × IsRequested (named q told) t.name t.timing) (hard_tasks x)
    hard-served = each-in _ (hard_tasks x) (λ t h.
        let i = in-filter (λ (t : Task). not (e t.name)) t (software y).tasks h in
        let s = from-map task_of (threads y) t i.0 in
        let a = place-of s.0 (threads y) s.1 in
        let inside = slice_get_within (threads y) a.0 s.0 a.1 in
        let l = long (flat y) 1 in
        let g = has-at (priorities_of (flat y)) a.0 (omega (arith, inside, l)) in
        let hard : e s.0.name ≡ false = ap (λ (z : Task). e z.name) (sym s.2) ∙ not-true (e t.name) i.1 in
        let P : Task → Type 0 = λ z. IsPeriodic r.until (named q told) z.name z.timing × IsRequested (named q told) z.name z.timing in
        subst P (sym s.2)
        (all-at (λ (u : Ranked). IsPeriodic r.until (named q told) u.task.name u.task.timing × IsRequested (named q told) u.task.name u.task.timing)
        (take (hard_count x) (ts written x met version (hard-are-proper x (proper-in-ticks written proper)) quick calm))
        (length (priorities_of (flat y)) - g.0) (ranked_entry _ (s.0, g.0)) serves.served
        (hard-stands written x met version (hard-are-proper x (proper-in-ticks written proper)) quick calm a.0 g.0 s.0 a.1 g.1 hard)))
      where
        not-true : (b : Bool) → not b ≡ true → b ≡ false
        not-true true h = absurd (true≢false (sym h))
        not-true false h = refl

    -- each client is released again at once
    clients-restless : Each (λ o. IsRestless (named q told) o.name) (clients x)
    clients-restless = each-in (λ (o : Object). IsRestless (named q told) o.name) (clients x) (λ o h.
        let i = in-filter is_client o (terminal_objects x) h in
        let c = client-thread y o i.1 in
        let a = place-of c.thread (threads y) (client-there x quick calm
        (sound written x met version (hard-are-proper x (proper-in-ticks written proper)) quick calm) o i.0 c) in
        let eager : e c.thread.name ≡ true =
        ap e c.named ∙ named-from (map (λ (z : Object). z.name) (clients x)) o.name (in-map (λ (z : Object). z.name) o (clients x) h) in
        let t : Task = retask e (task_of c.thread) in
        let at : slice_get (program_software q).tasks a.0 ≡ Some t =
        ap (λ (w : Software). slice_get w.tasks a.0) does
        ∙ map-at (retask e) (map task_of (threads y)) a.0 (task_of c.thread) (map-at task_of (threads y) a.0 c.thread a.1) in
        let timed : t.timing ≡ timing.Cyclic 1 0 = ap₂ retime eager c.timing in
        subst (λ n. IsRestless (named q told) n) c.named
        (task_at_once limit q r told a.0 t upright.1 accepted means serves.quiet at timed))

    pub permitted : PermitsBackground x v (named_arrivals q r) (named q told)
    permitted = record {
      quiet = serves.quiet;
      written = written-back e (software y) r.until (named q told)
          (let W : Software → Type 0 = λ w. DoesAsWritten w r.until (named q told) in subst W does serves.written);
      periodic = each-first (hard_tasks x) hard-served;
      arrivals = serves.arrivals;
      requested = each-second (hard_tasks x) hard-served;
      restless = clients-restless;
      bounded = (let few = take-few (hard_count x) (table (flat y)).rows in
          let same = fits.0.0 in
          let B : List Response → Type 0 = λ rs. IsBounded rs r.until (named q told) in
          subst B (hard-times written x met version (hard-are-proper x (proper-in-ticks written proper)) quick calm v
          (omega (arith, few, same))) serves.bounded);
    }
      where
        each-first : (zs : List Task) → Each (λ t. IsPeriodic r.until (named q told) t.name t.timing × IsRequested (named q told) t.name t.timing) zs
            → Each (λ t. IsPeriodic r.until (named q told) t.name t.timing) zs
        each-first [] h = tt
        each-first (z ∷ zs) h = (h.0.0, each-first zs h.1)

        each-second : (zs : List Task) → Each (λ t. IsPeriodic r.until (named q told) t.name t.timing × IsRequested (named q told) t.name t.timing) zs
            → Each (λ t. IsRequested (named q told) t.name t.timing) zs
        each-second [] h = tt
        each-second (z ∷ zs) h = (h.0.1, each-second zs h.1)

  -- arrivals that keep the separations are accepted
  pub kept-accepted : (r : places.Arrivals) → KeepsSeparations limit y (named_arrivals q r) → IsAccepted limit q r
  kept-accepted r keeps =
      let K : Software → Type 0 = λ w. AreKept limit w (named_arrivals q r) in
      accepted_software limit q r upright (subst K (sym does) (kept-on e (software y) limit (named_arrivals q r) keeps))

  pub right-run : (v : List Bound) → Fits (hard_rows x) v → (r : places.Arrivals) → KeepsSeparations limit y (named_arrivals q r)
      → IsRightInBackground x v r
  right-run v fits r keeps =
      let accepted = kept-accepted r keeps in
      let m = readable_means q r upright.1 in
      record {
        trace = m.0;
        means = m.1;
        exclusive = exclusion.exclusive limit q r m.0 upright.1 accepted m.1;
        permitted = permitted v fits r accepted m.0 m.1;
      }

  -- a text with the tokens of the program
  pub guaranteed : (v : List Bound) → Fits (hard_rows x) v → (text : List ℕ) → length text ≤ ada_limit
      → plain (tokens text) ≡ Ok (program_tokens q) → IsGuaranteedInBackground limit x text v
  guaranteed v fits text within spelled = record {
    reads = record { reads = record { within = within; proper = upright.0; spelled = spelled }; meets = upright.1 };
    runs = right-run v fits;
  }

-- what holds whatever the bounds
pub hard-sound : (x : Design) → IsBackgroundDesign x → IsSound (flat (hard_part (in_ticks x)))
hard-sound x passes = flat-sound x (hard_part (in_ticks x)) (passes Hard)

pub hard-table : (x : Design) → IsProperDesign (within_limits is_design_name) x → IsBackgroundDesign x → IsTable (hard_rows (in_ticks x))
hard-table x proper passes =
    (hard-tabled x (in_ticks x) (passes Hard) (version 0 x proper passes) (hard-are-proper (in_ticks x) (proper-in-ticks x proper))
    (quick 0 x proper passes) (passes Requests)).table

pub program-readable : (x : Design) → IsProperDesign (within_limits is_design_name) x → IsBackgroundDesign x
    → IsReadable (background_program (in_ticks x))
program-readable x proper passes = upright 0 x proper passes
