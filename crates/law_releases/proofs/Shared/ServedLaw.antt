-- Every run of a program that meets the rules, under arrivals that are accepted, serves the requests of each sporadic task in order and
-- each once, up to
-- the first that comes while another is not yet served.
use Rattle.std.specs.Prelude.{◌≡◌, ◌⊎◌, ℕ, zero, suc, ◌≤◌, ◌<◌, Bool, true, false, ◌||◌, ◌==◌, List, [], ◌∷◌, drop, slice_get, option_map}
use Rattle.std.specs.Prelude.{unwrap_or, Some, None, refl}
use Rattle.std.proofs.Common.{sym, ◌∙◌, ap, subst, arith, inl, inr}
use Rattle.std.proofs.lemmas.Slice.Eq.{bytes_eq-Decides}
use Rattle.seq_tree.specs.Lists.{Each}
use Rattle.seq_tree.specs.Names.{same_name, Name}
use Rattle.seq_tree.specs.Operations.{Signature}
use Rattle.ada_tree.specs.Programs.{Program}
use Rattle.arrivals_tree.specs.declared.arrivals.Arrival.{Arrival}
use Rattle.arrivals_tree.specs.Arriving.{Arrivals}
use Rattle.arrivals_tree.specs.Acceptance.{IsAccepted}
use Rattle.trace_tree.specs.declared.event.Event as machine
use Rattle.trace_tree.specs.Lines.{unit_name}
use Rattle.ods_tree.specs.Flats as flats
use Rattle.machine.specs.Systems.{System, TaskUnit, ReleasePattern, Periodic, Requested, system}
use Rattle.machine.specs.Pieces.{Piece, Closing}
use Rattle.machine.specs.Pieces as parts
use Rattle.machine.specs.States.{State, Task, Effects, Control, opening}
use Rattle.machine.specs.Effects.{ceiling_of, ceiling_by}
use Rattle.machine.specs.Meanings.{Meaning, run}
use Rattle.guarantee.specs.Software.{program_software}
use Rattle.guarantee.specs.Events.{named}
use Rattle.guarantee.specs.Requests.{notices}
use Rattle.law_ceilings.proofs.Shared.Pieces.{closers}
use Rattle.law_ceilings.specs.Sections.{IsAmong, sections}
use Rattle.law_ceilings.proofs.Shared.Kept.{runner}
use Rattle.law_ceilings.specs.Premises.{MayExclude, IsCovered, IsElsewhere}
use Rattle.law_ceilings.proofs.Shared.Excludes.{Excludes}
use Rattle.law_ceilings.proofs.Shared.Moves.{stacked-ceiling, among-inside}
use Rattle.law_ceilings.proofs.Shared.Excluding.{opening-excludes, run-excludes}
use Rattle.law_written.proofs.Shared.Claims.{Naming, timing_at}
use Rattle.law_written.proofs.Shared.Namings.{naming}
use Rattle.law_ceilings.proofs.Shared.Programs.{may-exclude}
use Rattle.law_releases.proofs.RequestPieces.{asks}
use Rattle.law_releases.proofs.RequestNotices.{IsNamed}
use Rattle.law_releases.proofs.RequestSteps.{MayServe, served_in_order}
use Rattle.std.proofs.lemmas.Bool.{true≢false, eqb-true, false_from_ne_true}
use Rattle.std.proofs.lemmas.Option.{same_Some}
use Rattle.law_releases.specs.Serving.{ServedWhile, IsServedWhile, HasNoOverrun}
use Rattle.law_releases.specs.Laws.{RequestsAreServed, AllRequestsAreServed}
use Rattle.law_releases.proofs.Shared.Tasks.{each_task}
use Rattle.law_releases.proofs.AllServed.{served_all}
use Rattle.law_lists.proofs.Shared.Lists.{each-to}
use Rattle.guarantee.specs.Allowed.{IsRequested}
use Rattle.law_written.proofs.Shared.Back.{places}
use Rattle.law_ceilings.proofs.Shared.Turning.{among-there}
use Rattle.law_written.proofs.Shared.Excluded.{run_kept}
use Rattle.ada_tree.specs.Rules.{MeetsRules}

-- a task that asks another is inside its control structure
pub asks_ends : (j : ℕ) (ps : List Piece) → asks j ps ≡ true → IsAmong (Control j) (closers ps)
asks_ends j [] e = absurd (true≢false (sym e))
asks_ends j (parts.Requested k v ∷ ps) e = by (k == j) refl e (asks_ends j ps)
  where
    by : (b : Bool) → (k == j) ≡ b → (b || asks j ps) ≡ true → (asks j ps ≡ true → IsAmong (Control j) (closers ps))
        → (Control k ≡ Control j) ⊎ IsAmong (Control j) (closers ps)
    by true same h more = inl (ap Control (eqb-true k j same))
    by false same h more = inr (more h)
asks_ends j (Closing object op vars outs stores caller ∷ ps) e = inr (asks_ends j ps e)
asks_ends j (_ ∷ ps) e = asks_ends j ps e

-- a fact of each of the arrivals that are left
pub each_left : (P : Arrival → Type 0) (n : ℕ) (as' : List Arrival) (a : Arrival) (others : List Arrival) → Each P as' → a ∷ others ≡ drop n as' → P a
each_left P n [] a others all e = absurd (empty n e)
  where
    empty : (m : ℕ) → a ∷ others ≡ drop m [] → ⊥
    empty zero h = cc
    empty (suc m) h = cc
each_left P zero (x ∷ as') a others all e = let same : a ≡ x = cc in subst P (sym same) all.0
each_left P (suc n) (x ∷ as') a others all e = each_left P n as' a others all.1 e

module _ (limit : ℕ) (p : Program) (r : Arrivals) (meets : MeetsRules p) (accepted : IsAccepted limit p r) (j : ℕ) (th : TaskUnit)
    (at : slice_get (system p r).threads j ≡ Some th)
    (sig : Signature) (ceiling separation jitter : ℕ) (external : Bool) (timing : th.timing ≡ Requested sig ceiling separation jitter external) where
  abbrev y : System
  y = system p r

  names' : Naming p y (program_software p)
  names' = naming p r meets

  ex : MayExclude y r.items
  ex = may-exclude p meets limit r accepted

  is_named : IsNamed p y j th
  is_named = record {
    at = at;
    own = (bytes_eq-Decides (unit_name p th.unit) th.name).1 (names'.thread_name j th at);
    others = λ k u stands apart. false_from_ne_true (same_name (unit_name p u.unit) th.name) (λ e.
        apart (names'.threads_apart k j u th stands at (ap (λ n. same_name n th.name) (sym (names'.thread_name k u stands)) ∙ e)));
  }

  may_serve : (n : ℕ) → MayServe p y j th is_named sig ceiling separation jitter external timing (run y n (opening y r.items)).0
  may_serve n = record {
    good = record { written = λ k u stands. (x.keeps.sound k u stands).written; rests = (run_kept y r.items ex n).idles };
    asking = λ i u stands asking k w there other. x.keeps.alone k i w u (Control j) there stands (among k w j there other) (among i u j
        stands asking);
    finishing = λ t stands phase ran k w there other. places k j (λ e. e) (λ apart. absurd (excluded t stands phase ran k w there other apart));
    valid = λ i u k stands asking. let z = among-there y r.items (Control k) (sections u) (x.held i u stands) (among i u k stands asking)
        in (z.0, z.1);
    arriving = λ a others left for_task i u stands asking.
        let z = among-there y r.items (Control j) (sections u) (x.held i u stands) (among i u j stands asking) in
        each_left (IsElsewhere y j) x.past r.items a others z.3 (sym left ∙ x.left) th at (sym for_task);
  }
    where
      s : State
      s = (run y n (opening y r.items)).0

      x : Excludes y r.items ex.ranking s
      x = run-excludes y r.items ex n (opening y r.items) (opening-excludes y r.items ex)

      among : (i : ℕ) (u : Task) (k : ℕ) → slice_get s.tasks i ≡ Some u → asks k u.pieces ≡ true → IsAmong (Control k) (sections u)
      among i u k stands asking = subst (IsAmong (Control k)) (x.keeps.sound i u stands).closes (asks_ends k u.pieces asking)

      ceiling_is : ceiling_of y (Control j) ≡ ceiling
      ceiling_is = ap (λ o. unwrap_or (option_map (λ (t : TaskUnit). ceiling_by t.timing) o) 0) at ∙ ap ceiling_by timing

      covered : th.priority ≤ ceiling
      covered = subst (IsCovered th.priority) timing (ex.covered j th at)

      excluded : (t : Task) → slice_get s.tasks j ≡ Some t → s.phase ≡ Effects → s.ran ≡ Some j → (k : ℕ) (w : Task) → slice_get s.tasks k ≡ Some w
          → asks j w.pieces ≡ true → (k ≡ j → ⊥) → ⊥
      excluded t stands phase ran k w there other apart =
          let inside' : IsAmong (Control j) (sections w) = among k w j there other in
          let some = among-inside (Control j) w.inside inside' in
          let runs : runner s.phase s.ran ≡ Some j = ap (λ f. runner f s.ran) phase ∙ ran in
          let below : w.active < t.thread.priority = x.keeps.runs j k t w some.0 some.1 runs stands there (λ e. apart (sym e)) some.2 in
          let above : ceiling_of y (Control j) ≤ w.active
          = stacked-ceiling y w.thread.priority w.active w.inside (Control j) (x.keeps.sound k w there).stacked inside' in
          let own : t.thread ≡ th = same_Some t.thread th (sym (x.keeps.sound j t stands).written ∙ at) in
          let priority : t.thread.priority ≡ th.priority = ap (λ z. z.priority) own in
          omega (arith, below, above, ceiling_is, covered, priority)

  -- the requests of the task
  pub served_while : (trace : List machine.Event) → Meaning p r trace → ServedWhile None (Some 0) (notices th.name (named p trace))
  served_while trace m =
      let served : ServedWhile None (Some 0) (notices th.name (named p (run y m.steps (opening y r.items)).1)) =
      served_in_order p y j th is_named sig ceiling separation jitter external timing r.items m.steps may_serve in
      subst (λ es. ServedWhile None (Some 0) (notices th.name (named p es))) m.tells served

-- the requests of every sporadic task
pub all_served : (limit : ℕ) → RequestsAreServed limit
all_served limit p r trace meets accepted m = each_task p r (λ t. IsServedWhile (named p trace) t.name t.timing) (λ k th at.
    by k th at th.timing refl)
  where
    by : (k : ℕ) (th : TaskUnit) → slice_get (system p r).threads k ≡ Some th → (timing : ReleasePattern) → th.timing ≡ timing
        → IsServedWhile (named p trace) th.name (timing_at timing)
    by k th at (Periodic offset period) e = tt
    by k th at (Requested sig ceiling separation jitter external) e
        = served_while limit p r meets accepted k th at sig ceiling separation jitter external e trace m

-- so all are served where none overruns another
pub all_requests_served : (limit : ℕ) → AllRequestsAreServed limit
all_requests_served limit p r trace meets accepted m =
    each-to (λ t. IsServedWhile (named p trace) t.name t.timing) (λ t. HasNoOverrun (named p trace) t.name t.timing
    → IsRequested (named p trace) t.name t.timing) (program_software p).tasks
    (λ t served none. by t.name t.timing served none) (all_served limit p r trace meets accepted m)
  where
    by : (name : Name) (timing : flats.Timing) → IsServedWhile (named p trace) name timing → HasNoOverrun (named p trace) name timing
        → IsRequested (named p trace) name timing
    by name (flats.Cyclic period offset) served none = tt
    by name (flats.Sporadic op separation jitter) served none = served_all None (Some 0) (notices name (named p trace)) none served
