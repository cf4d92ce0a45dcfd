-- In every run of a program that meets the rules, a sporadic task that one task alone requests, once on each way at most, is requested by
-- it at most once
-- from each of its releases to the end of that activation.
use Rattle.std.specs.Prelude.{◌≡◌, ℕ, ◌≤◌, Bool, true, false, ◌&&◌, ◌==◌, List, [], length, slice_get, option_map, unwrap_or, Some}
use Rattle.std.specs.Prelude.{if◌then◌else◌, refl, None, ◌+◌}
use Rattle.std.proofs.Common.{sym, ◌∙◌, ap, subst, arith}
use Rattle.seq_tree.specs.Lists.{Each}
use Rattle.seq_tree.specs.Names.{Name, same_name}
use Rattle.seq_tree.specs.Operations.{Signature}
use Rattle.seq_tree.specs.Dearest.{dearest, is_call_of}
use Rattle.seq_tree.specs.declared.tree.OpName.{OpName}
use Rattle.ada_tree.specs.Programs.{Program}
use Rattle.ada_tree.specs.Rules.{MeetsRules}
use Rattle.analysis.specs.Starts.{can_request, starts_within, block_starts}
use Rattle.guarantee.specs.ResponseLaw.{program_services}
use Rattle.law_calls.proofs.Shared.Starting.{through, unrequested, CoversBody, covers-body}
use Rattle.arrivals_tree.specs.Arriving.{Arrivals}
use Rattle.arrivals_tree.specs.Acceptance.{IsAccepted}
use Rattle.trace_tree.specs.declared.event.Event as machine
use Rattle.trace_tree.specs.Lines.{unit_name}
use Rattle.machine.specs.Systems.{System, TaskUnit, Requested, system, CallTarget, Plain, Protected, Request, Unknown, callee}
use Rattle.machine.specs.States.{State, Control, opening}
use Rattle.machine.specs.Effects.{task_unit}
use Rattle.machine.specs.Meanings.{Meaning, run}
use Rattle.guarantee.specs.Software.{program_software, Task}
use Rattle.guarantee.specs.Events.{named}
use Rattle.law_ceilings.specs.Sections.{IsAmong, sections}
use Rattle.law_ceilings.specs.Premises.{MayExclude, IsElsewhere}
use Rattle.law_ceilings.proofs.Shared.Excludes.{Excludes}
use Rattle.law_ceilings.proofs.Shared.Excluding.{opening-excludes, run-excludes}
use Rattle.law_written.proofs.Shared.Claims.{Naming, task_at}
use Rattle.law_ceilings.proofs.Shared.Programs.{may-exclude}
use Rattle.law_tasks.proofs.Shared.Programs.{asked_op}
use Rattle.law_tasks.proofs.Shared.AptPrograms.{apt}
use Rattle.law_releases.proofs.RequestNotices.{IsNamed, unit-at}
use Rattle.law_releases.proofs.Shared.ServedLaw.{asks_ends, each_left}
use Rattle.law_calls.proofs.Shared.Remaining.{Covers, CoversCalls}
use Rattle.law_releases.proofs.StarterCounts.{requests_of}
use Rattle.law_releases.proofs.StarterSteps.{MayAsk, once_opening}
use Rattle.law_calls.proofs.Shared.Resolved.{asked_by}
use Rattle.std.proofs.lemmas.Option.{same_Some}
use Rattle.std.proofs.lemmas.Bool.{true≢false, false_from_ne_true, eq-eqb, eqb-true}
use Rattle.law_lists.proofs.Shared.Facts.{is-same}
use Rattle.law_releases.specs.Starting.{AsksOnce}
use Rattle.law_releases.specs.Laws.{StartersAskOnce}
use Rattle.law_releases.proofs.Shared.Tasks.{thread_of, task_of, IsInternal, internal}
use Rattle.law_releases.proofs.NoArrivals.{all_elsewhere}
use Rattle.law_lists.proofs.Shared.Places.{all-at}
use Rattle.ods_tree.specs.Flats.{Sporadic}
use Rattle.law_ceilings.proofs.Shared.Turning.{among-there}
use Rattle.law_calls.proofs.Shared.Accepted.{IsInside}
use Rattle.law_lists.proofs.Shared.Weights.{counting}
use Rattle.law_calls.proofs.Shared.Threads.{threads_apart}
use Rattle.law_written.proofs.Shared.Namings.{naming}

module _ (limit : ℕ) (p : Program) (r : Arrivals) (meets : MeetsRules p) (accepted : IsAccepted limit p r) (j : ℕ) (th : TaskUnit)
    (at : slice_get (system p r).threads j ≡ Some th)
    (sig : Signature) (ceiling separation jitter : ℕ) (external : Bool) (timing : th.timing ≡ Requested sig ceiling separation jitter external)
    (first : ℕ) (sth : TaskUnit) (at_first : slice_get (system p r).threads first ≡ Some sth) where
  abbrev y : System
  y = system p r

  abbrev target : OpName
  target = record { object = th.name; op = sig.name }

  names' : Naming p y (program_software p)
  names' = naming p r meets

  named_by : (k : ℕ) (z : TaskUnit) → slice_get y.threads k ≡ Some z → IsNamed p y k z
  named_by k z stands = record {
    at = stands;
    own = is-same (unit_name p z.unit) z.name (names'.thread_name k z stands);
    others = λ m u there apart. false_from_ne_true (same_name (unit_name p u.unit) z.name) (λ e.
        apart (names'.threads_apart m k u z there stands (ap (λ n. same_name n z.name) (sym (names'.thread_name m u there)) ∙ e)));
  }

  -- how often a call requests the task
  abbrev count_of : Name → Name → ℕ
  count_of = through (program_services p) target

  -- what a call counts covers the body that it leads to, and a request of the task counts
  covers : CoversCalls y (requests_of count_of j)
  covers unit op = by (callee y unit op) refl (covers-body p r meets target j th at refl (record { object = unit; op = op }))
    where
      asks : callee y unit op ≡ Request j → count_of unit op ≡ 1
      asks e =
          let names : record { object = unit_name p (task_unit y j); op = asked_op y j } ≡ record { object = unit; op = op }
          = (apt p r meets).requests unit op j e in
          let unit_is : task_unit y j ≡ th.unit = unit-at y j th at in
          let object : th.name ≡ unit = sym (names'.thread_name j th at) ∙ ap (unit_name p) (sym unit_is) ∙ ap (λ n. n.object) names in
          let asked : asked_op y j ≡ sig.name = ap (λ o. unwrap_or (option_map (λ (t : TaskUnit). asked_by t.timing) o) []) at ∙ ap asked_by timing in
          let op_is : sig.name ≡ op = sym asked ∙ ap (λ n. n.op) names in
          let call : is_call_of target unit op ≡ true
          = ap (λ b. b && same_name sig.name op) (is-same th.name unit object) ∙ is-same sig.name op op_is in
          ap (λ b. let m : ℕ = if b then 1 else starts_within (length (program_services p)) (program_services p) target unit op in m) call

      by : (k : CallTarget) → callee y unit op ≡ k → CoversBody p target (record { object = unit; op = op }) k
          → Covers (requests_of count_of j) k (count_of unit op)
      by (Plain o) e h = h
      by (Protected object k g o) e h = h
      by (Request task) e h = own (task == j) refl
        where
          own : (b : Bool) → (task == j) ≡ b → 0 + 0 + (if b then 1 else 0) ≤ count_of unit op
          own true same = omega (arith, asks (e ∙ ap Request (eqb-true task j same)))
          own false same = omega arith
      by Unknown e h = tt

  module _ (once : block_starts (program_services p) target sth.block ≤ 1) (alone : (k : ℕ) (z : TaskUnit) → slice_get y.threads k ≡ Some z
      → (k ≡ first → ⊥) → can_request (program_services p) th.name z.block ≡ false)
      (elsewhere : Each (IsElsewhere y j) r.items) where
    blocks : (k : ℕ) (z : TaskUnit) → slice_get y.threads k ≡ Some z → dearest (counting count_of) z.block ≤ (if k == first then 1 else 0)
    blocks k z stands = by (k == first) refl
      where
        by : (b : Bool) → (k == first) ≡ b → dearest (counting count_of) z.block ≤ (if b then 1 else 0)
        by true e =
            let place : k ≡ first = grind arith in
            let same : z ≡ sth = same_Some z sth (sym stands ∙ ap (slice_get y.threads) place ∙ at_first) in
            subst (λ w. dearest (counting count_of) w.block ≤ 1) (sym same) once
        by false e =
            let apart : k ≡ first → ⊥ = λ h. true≢false (sym (eq-eqb k first h) ∙ e) in
            let none : dearest (counting count_of) z.block ≡ 0 = unrequested (program_services p) target z.block (alone k z stands apart) in
            omega (arith, none)

    ex : MayExclude y r.items
    ex = may-exclude p meets limit r accepted

    may_ask : (s : State) → Excludes y r.items ex.ranking s
        → MayAsk p y count_of j th (named_by j th at) first sth (named_by first sth at_first) covers blocks s
    may_ask s x = record {
      written = λ k u stands. (x.keeps.sound k u stands).written;
      valid = λ i u k stands asking.
          let among : IsAmong (Control k) (sections u)
          = subst (IsAmong (Control k)) (x.keeps.sound i u stands).closes (asks_ends k u.pieces asking) in
          let z = among-there y r.items (Control k) (sections u) (x.held i u stands) among in
          (z.0, z.1);
      arriving = λ a others left for_task. each_left (IsElsewhere y j) x.past r.items a others elsewhere (sym left ∙ x.left) th at (sym for_task);
    }

    -- requests by the starter alone, at most one from each release to the end of the activation
    asks_once : (trace : List machine.Event) → Meaning p r trace → AsksOnce sth.name th.name false (named p trace)
    asks_once trace m =
        let asked : AsksOnce sth.name th.name false (named p (run y m.steps (opening y r.items)).1) =
        once_opening p y count_of j th (named_by j th at) first sth (named_by first sth at_first) covers blocks r.items m.steps
        (λ n. may_ask (run y n (opening y r.items)).0 (run-excludes y r.items ex n (opening y r.items) (opening-excludes y r.items ex))) in
        subst (λ es. AsksOnce sth.name th.name false (named p es)) m.tells asked

-- of tasks of the program
pub starters_ask_once : (limit : ℕ) → StartersAskOnce limit
starters_ask_once limit p r trace t s op separation meets accepted m is_t is_s timing alone once =
    let h : (th : TaskUnit) × (slice_get (system p r).threads is_t.0 ≡ Some th) × (task_at th ≡ t) = thread_of p r is_t.0 t is_t.1 in
    let g : (th : TaskUnit) × (slice_get (system p r).threads is_s.0 ≡ Some th) × (task_at th ≡ s) = thread_of p r is_s.0 s is_s.1 in
    subst (Holds t) g.2 (subst (λ a. Holds a (task_at g.0)) h.2 (of_threads is_t.0 h.0 h.1 is_s.0 g.0 g.1)) timing alone once
  where
    Holds : Task → Task → Type 0
    Holds a b =
        a.timing ≡ Sporadic op separation None → Each (λ u. can_request (program_services p) a.name u.block ≡ true
        → same_name u.name b.name ≡ true) (program_software p).tasks
        → block_starts (program_services p) (record { object = a.name; op = op.name }) b.block ≤ 1 → AsksOnce b.name a.name false (named p trace)

    of_threads : (j : ℕ) (th : TaskUnit) → slice_get (system p r).threads j ≡ Some th → (first : ℕ) (sth : TaskUnit)
        → slice_get (system p r).threads first ≡ Some sth → Holds (task_at th) (task_at sth)
    of_threads j th at first sth at_first timing' alone' once' =
        let i : IsInternal th.timing op separation = internal th.timing op separation timing' in
        asks_once limit p r meets accepted j th at op i.ceiling separation i.jitter false i.is first sth at_first once'
        (λ k z stands apart. false_from_ne_true _ (λ calls.
        apart (threads_apart p r meets k first z sth stands at_first
        (all-at _ (program_software p).tasks k (task_at z) alone' (task_of p r k z stands) calls))))
        (all_elsewhere limit p r j th accepted at (subst IsInside (sym i.is) refl)) trace m
