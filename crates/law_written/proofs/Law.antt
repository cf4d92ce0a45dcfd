-- The law of a whole run, over the law of one task and over what exclusion keeps: a run without a stop does as the program's texts say.
use Rattle.std.specs.Prelude.{◌≡◌, ◌⊎◌, ℕ, zero, suc, ◌+◌, true, false, List, [], ◌∷◌, ◌++◌, map, Some, slice_get, option_map, unwrap_or, refl}
use Rattle.std.specs.List.{list_any}
use Rattle.std.proofs.Common.{sym, ◌∙◌, ap, subst, arith, inl, inr}
use Rattle.std.proofs.lemmas.Option.{slice_get-map, none-some, same_Some}
use Rattle.seq_tree.specs.Lists.{Each}
use Rattle.seq_tree.specs.Variables.{Variables, written}
use Rattle.seq_tree.specs.Runs.{Path, silent}
use Rattle.ada_tree.specs.Programs.{Program}
use Rattle.arrivals_tree.specs.declared.arrivals.Arrival.{Arrival}
use Rattle.trace_tree.specs.declared.event.Event as machine
use Rattle.trace_tree.specs.declared.event.Event.TheVariants as event
use Rattle.ods_tree.specs.Flats as flats
use Rattle.machine.specs.Systems.{System, TaskUnit, system}
use Rattle.machine.specs.Pieces.{Piece}
use Rattle.machine.specs.States.{State, Task, first_task, opening}
use Rattle.machine.specs.Steps.{step}
use Rattle.machine.specs.Meanings.{run}
use Rattle.machine.proofs.Shared.RunLaws.{stopped_stays}
use Rattle.guarantee.specs.Software.{Software, program_software}
use Rattle.guarantee.specs.Software as software
use Rattle.guarantee.specs.Events.{Event, Horizon, named}
use Rattle.guarantee.specs.Steps.{Moment, moments}
use Rattle.guarantee.specs.Scripts.{FollowsBlock}
use Rattle.guarantee.specs.Passages.{ServesOneByOne, AreOneByOne, passages}
use Rattle.law_written.proofs.Shared.Moves.{is_stopping}
use Rattle.law_written.proofs.Shared.Walks.{IsTimely, Walks, step-walks}
use Rattle.law_written.proofs.Shared.InOrder.{quiet_front, quiet_back, named-append, first_threads}
use Rattle.law_written.proofs.Shared.Claims.{Naming, Stands, Holds, Conducts, Finishes, task_at, guarded_at}
use Rattle.law_written.proofs.Evolving.{AreFitting, Lasts, HasTicksLeft}
use Rattle.law_written.proofs.Shared.StepsBack.{IsKept, IsDue, IsSteady, step_backs}
use Rattle.law_written.proofs.Steady.{step_steady}
use Rattle.std.proofs.lemmas.Bool.{true≢false}
use Rattle.law_lists.proofs.Shared.Lists.{each-by, each-map}
use Rattle.arrivals_tree.specs.Arriving.{Arrivals}
use Rattle.law_tasks.proofs.Shared.Courses.{Course, IsApt}
use Rattle.law_tasks.proofs.Shared.Programs.{course}
use Rattle.law_tasks.proofs.Shared.AptPrograms.{apt}
use Rattle.ada_tree.specs.Rules.{MeetsRules}
use Rattle.law_written.proofs.Shared.Namings.{naming}
use Rattle.law_tasks.proofs.Shared.Aheads.{ahead_cut}
use Rattle.law_ceilings.specs.Sections.{sections}

-- moments are those of their events and ways
moments-same : (ms : List Moment) → moments (map (λ m. m.event) ms) (map (λ m. m.body) ms) ≡ ms
moments-same [] = refl
moments-same (m ∷ ms) = ap (λ rest. m ∷ rest) (moments-same ms)

module _ (p : Program) (arrivals : Arrivals) (meets : MeetsRules p) (fits : AreFitting p arrivals (system p arrivals).threads) where
  abbrev y : System
  y = system p arrivals

  abbrev w : Software
  w = program_software p

  abbrev setup : Course
  setup = course p arrivals

  names' : Naming p y w
  names' = naming p arrivals meets

  is_apt : IsApt (course p arrivals)
  is_apt = apt p arrivals meets

  abbrev Steady' : State → Type 0
  Steady' s = IsSteady p arrivals meets fits s

  -- at the horizon
  cut_stands : (now : ℕ) (t : Task) (ps : List Piece) → Lasts p arrivals ps → Stands p arrivals now t ps []
  cut_stands now t [] last = (refl, tt)
  cut_stands now t (x ∷ rest) last = record {
    used = t.used + t.left;
    ending = now + t.left;
    more = 0;
    ahead = λ n legit. ahead_cut setup is_apt tt (Finishes y w t.thread (t.used + t.left) (now + t.left)) t.vars (x ∷ rest) (n + 0) last.0;
    sums = omega arith;
    since = omega arith;
  }

  at_horizon : (s : State) → Steady' s → Conducts p arrivals s.time s.tasks s.stores (Horizon s.time ∷ [])
  at_horizon s steady = record {
    moments' = record { event = Horizon s.time; body = silent 0 [] } ∷ [];
    tells = refl;
    threads = λ k t at. cut_stands s.time t t.pieces (steady.lasts k t at);
    objects = λ j g at. record { held = λ k t d there h. inl refl; free = λ none. tt };
  }

  -- from a state on
  conducts_from : (n : ℕ) (s : State) → Steady' s → ((m : ℕ) → IsKept (run y m s).0.tasks) → IsTimely y.until s.phase s.time → s.stopped ≡ false
      → (run y n s).0.stopped ≡ true → list_any is_stopping (run y n s).1 ≡ false
      → Conducts p arrivals s.time s.tasks s.stores (named p (run y n s).1)
  conducts_from zero s steady kept timely on stops quiet = absurd (true≢false (sym stops ∙ on))
  conducts_from (suc n) s steady kept timely on stops quiet = by (step-walks y y.threads s on timely steady.threads)
      (λ timely' on'. conducts_from n (step y s).0 (step_steady p arrivals meets fits s steady) (λ m. kept (suc m)) timely' on' stops
      (quiet_back (step y s).1 (run y n (step y s).0).1 quiet))
    where
      by : Walks y y.threads s (step y s)
          → (IsTimely y.until (step y s).0.phase (step y s).0.time → (step y s).0.stopped ≡ false
          → Conducts p arrivals (step y s).0.time (step y s).0.tasks (step y s).0.stores (named p (run y n (step y s).0).1))
          → Conducts p arrivals s.time s.tasks s.stores (named p ((step y s).1 ++ (run y n (step y s).0).1))
      by (inl f) later =
          let more : List machine.Event = (run y n (step y s).0).1 in
          let P : List Event → Type 0 = λ es. Conducts p arrivals s.time s.tasks s.stores es in
          subst P (sym (named-append p (step y s).1 more))
          (step_backs p arrivals meets fits s on steady (kept 0) (kept 1).alone f.on (quiet_front (step y s).1 more quiet) (named p more)
          (later f.timely f.on))
      by (inr (inl e)) later =
          let none : (run y n (step y s).0).1 ≡ [] = ap (λ next. next.1) (stopped_stays y n (step y s).0 e.stopped) in
          let P : List machine.Event → Type 0 = λ es. Conducts p arrivals s.time s.tasks s.stores (named p (es ++ (run y n (step y s).0).1)) in
          let Q : List machine.Event → Type 0 = λ es. Conducts p arrivals s.time s.tasks s.stores (named p (event.Horizon s.time ∷ es)) in
          subst P (sym e.told) (subst Q (sym none) (at_horizon s steady))
      by (inr (inr st)) later = absurd (true≢false (sym st ∙ quiet_front (step y s).1 (run y n (step y s).0).1 quiet))

  -- the opening
  first_at : (ths : List TaskUnit) (k : ℕ) (t : Task) → slice_get (map first_task ths) k ≡ Some t
      → (th : TaskUnit) × (slice_get ths k ≡ Some th) × (first_task th ≡ t)
  first_at [] k t e = absurd (none-some t e)
  first_at (th ∷ ths) zero t e = (th, refl, same_Some (first_task th) t e)
  first_at (th ∷ ths) (suc k) t e = first_at ths k t e

  opening_steady : (items : List Arrival) → Steady' (opening y items)
  opening_steady items = record {
    threads = first_threads y.threads;
    has = λ j g at. (written g.vars, slice_get-map (λ h. written h.vars) y.objects j ∙ ap (option_map (λ h. written h.vars)) at);
    lasts = λ k t at.
        let f : (th : TaskUnit) × (slice_get y.threads k ≡ Some th) × (first_task th ≡ t) = first_at y.threads k t at in
        let P : Task → Type 0 = λ z. Lasts p arrivals z.pieces in
        subst P f.2 tt;
    left = λ k t at.
        let f : (th : TaskUnit) × (slice_get y.threads k ≡ Some th) × (first_task th ≡ t) = first_at y.threads k t at in
        let P : Task → Type 0 = λ z. IsDue (opening y items) k ⊎ HasTicksLeft z.pieces z.left in
        subst P f.2 (inr tt);
  }

  -- what a run from the opening to its stop does
  pub record DoesSo (told : List Event) : Type 0 where
    pub bodies : List Path
    pub threads : Each (FollowsBlock w (moments told bodies)) w.tasks
    pub objects : Each (ServesOneByOne w (moments told bodies)) w.shared

  pub runs_so : (items : List Arrival) (n : ℕ) → ((m : ℕ) → IsKept (run y m (opening y items)).0.tasks)
      → (run y n (opening y items)).0.stopped ≡ true → list_any is_stopping (run y n (opening y items)).1 ≡ false
      → DoesSo (named p (run y n (opening y items)).1)
  runs_so items n kept stops quiet =
      let s : State = opening y items in
      let c : Conducts p arrivals 0 s.tasks s.stores (named p (run y n s).1)
      = conducts_from n s (opening_steady items) kept (omega arith) refl stops quiet in
      let ms : List Moment = c.moments' in
      let same : ms ≡ moments (named p (run y n s).1) (map (λ m. m.body) ms)
      = sym (moments-same ms) ∙ ap (λ es. moments es (map (λ m. m.body) ms)) c.tells in
      let T : List Moment → Type 0 = λ z. Each (FollowsBlock w z) w.tasks in
      let T' : List software.Task → Type 0 = λ ts. Each (FollowsBlock w ms) ts in
      let O : List Moment → Type 0 = λ z. Each (ServesOneByOne w z) w.shared in
      let O' : List flats.Guarded → Type 0 = λ gs. Each (ServesOneByOne w ms) gs in
      record {
        bodies = map (λ m. m.body) ms;
        threads = subst T same (subst T' (sym names'.tasks) (each-map task_at (FollowsBlock w ms) y.threads
            (each-by (λ th. FollowsBlock w ms (task_at th)) y.threads
            (λ k th at. c.threads k (first_task th) (slice_get-map first_task y.threads k ∙ ap (option_map first_task) at)))));
        objects = subst O same (subst O' (sym names'.shared) (each-map guarded_at (ServesOneByOne w ms) y.objects
            (each-by (λ g. ServesOneByOne w ms (guarded_at g)) y.objects (λ j g at.
            let A : Variables → Type 0 = λ v. AreOneByOne w (guarded_at g) v (passages g.name ms) in
            let stored : unwrap_or (slice_get s.stores j) [] ≡ written g.vars =
            ap (λ o. unwrap_or o []) (slice_get-map (λ h. written h.vars) y.objects j ∙ ap (option_map (λ h. written h.vars)) at) in
            subst A stored ((c.objects j g at).free (λ k t d there h.
            let f : (th : TaskUnit) × (slice_get y.threads k ≡ Some th) × (first_task th ≡ t) = first_at y.threads k t there in
            let H : Task → Type 0 = λ z. Holds j d (sections z) in
            subst H (sym f.2) h))))));
      }
