-- How often tasks request others, in their blocks or through protected operations: what a call counts covers the body that it leads to, and a task
-- that is requested from inside has one starter, which requests it at most once on a path.
use Rattle.std.specs.Prelude.{◌≡◌, ◌≢◌, ◌⊎◌, ℕ, ◌+◌, ◌≤◌, ◌&&◌, Bool, true, false, not, List, length, slice_get, Option, Some, None}
use Rattle.std.specs.Prelude.{if◌then◌else◌, refl}
use Rattle.std.proofs.Common.{sym, ◌∙◌, ap, subst, arith, inl, inr}
use Rattle.std.proofs.lemmas.Option.{none-some}
use Rattle.seq_tree.specs.Names.{Name, same_name}
use Rattle.seq_tree.specs.Operations.{Signature}
use Rattle.seq_tree.specs.Statements.{Statements}
use Rattle.seq_tree.specs.Calls.{block_calls}
use Rattle.seq_tree.specs.Dearest.{dearest, is_call_of}
use Rattle.seq_tree.specs.declared.tree.OpName.{OpName}
use Rattle.ada_tree.specs.Programs.{Program, Sporadic}
use Rattle.ada_tree.specs.Uses.{is_requested, breaks_external}
use Rattle.ada_tree.specs.Rules.{MeetsRules}
use Rattle.arrivals_tree.specs.Arriving.{Arrivals}
use Rattle.rt_response.specs.declared.rows.ThreadRow.{ThreadRow}
use Rattle.ods_tree.specs.Flats as flats
use Rattle.machine.specs.Systems.{System, TaskUnit, ReleasePattern, Periodic, Requested, CallTarget, Plain, Protected, Request, Unknown, system}
use Rattle.machine.specs.Systems.{callee}
use Rattle.analysis.specs.Starts.{starts_within, all_calls, can_request, block_starts}
use Rattle.guarantee.specs.ResponseLaw.{Ranked, ranked, program_services, IsStarter, IsStarted, AreTabled}
use Rattle.law_lists.proofs.Shared.Lists.{IsIn, at-in, zip-first}
use Rattle.law_calls.proofs.Shared.Systems.{thread_form, thread-at, IsAskedBy, LeadsToTask, LeadsTo, leads-to}
use Rattle.law_calls.proofs.Shared.Remaining.{Measure, Covers, CoversCalls}
use Rattle.law_responses.proofs.Frames.{Frame, HasRow, one_at, one-here, one-apart, quota_by, quota, requests_measure, IsAsked, IsTabled}
use Rattle.law_responses.proofs.TwinTasks.{SameTiming, AreTwins, twin-of, thread-of}
use Rattle.law_responses.proofs.Tabling.{counted_in, counted_by, frame, ranked-once, row-is}
use Rattle.law_responses.proofs.TabledTasks.{task-tabled}
use Rattle.law_lists.proofs.Shared.Facts.{same-is}
use Rattle.law_lists.proofs.Shared.Places.{same-item, all-at}
use Rattle.std.proofs.lemmas.Bool.{cases_eq, and_parts, false_from_ne_true}
use Rattle.law_calls.proofs.Shared.UnitRules.{call-in, externals-kept, task-body}
use Rattle.law_calls.proofs.Shared.Requests.{written-requested}
use Rattle.law_calls.proofs.Shared.Starting.{block-requested, none-started, unrequested, CoversBody, covers-body}
use Rattle.law_lists.proofs.Shared.Weights.{counting, count-none}

-- a request of a task weighs at most what a call counts, where the call counts a request of this task
counted : (k task n : ℕ) → (k ≡ task → 1 ≤ n) → 0 + one_at k task + 0 ≤ n
counted k task n some = by (cases_eq k task)
  where
    by : (k ≡ task) ⊎ (k ≢ task) → 0 + one_at k task + 0 ≤ n
    by (inl same) = let own : one_at k task ≡ 1 = ap (one_at k) (sym same) ∙ one-here k in omega (arith, own, some same)
    by (inr differ) = let none : one_at k task ≡ 0 = one-apart k task differ in omega (arith, none)

module _ (p : Program) (a : Arrivals) (rules : MeetsRules p) where
  abbrev y : System
  y = system p a

  -- a call of this task's request
  record Requests (t : TaskUnit) (c : OpName) : Type 0 where
    named : same_name t.name c.object ≡ true
    asked : IsAskedBy c.op t.timing

  requests : (k : ℕ) (t : TaskUnit) (c : OpName) → slice_get y.threads k ≡ Some t → LeadsToTask y c.object c.op k → Requests t c
  requests k t c at l =
      let same : l.thread ≡ t = same-item (slice_get y.threads k) l.thread t l.stands at in
      record { named = subst (λ x. same_name x.name c.object ≡ true) same l.named; asked = subst (λ x. IsAskedBy c.op x.timing) same l.asked }

  abbrev target_of : TaskUnit → Signature → OpName
  target_of t sig = record { object = t.name; op = sig.name }

  -- what is counted of a call covers what it leads to
  abbrev count_by : ℕ → Option TaskUnit → Measure
  count_by k o = record { weights = counting (counted_by p o); keeping = 0; opening = one_at k; requesting = λ task. 0 }

  abbrev count_in : ℕ → TaskUnit → ReleasePattern → Measure
  count_in k t x = record { weights = counting (counted_in p t.name x); keeping = 0; opening = one_at k; requesting = λ task. 0 }

  none-deep : (b : Statements) → dearest (counting (λ object op. 0)) b ≤ 0
  none-deep b = let none : dearest (counting (λ object op. 0)) b ≡ 0 = count-none (λ object op. 0) b (λ c h. refl) in omega (arith, none)

  timed-deep : (k : ℕ) (t : TaskUnit) → slice_get y.threads k ≡ Some t → (x : ReleasePattern) → t.timing ≡ x → (unit op : Name)
      → Covers (count_in k t x) (callee y unit op) (counted_in p t.name x unit op)
  timed-deep k t at (Periodic offset period) e unit op = by (callee y unit op) (leads-to y unit op)
    where
      by : (c : CallTarget) → LeadsTo y unit op c → Covers (count_in k t (Periodic offset period)) c 0
      by (Plain o) l = none-deep o.block
      by (Protected object j g o) l = none-deep o.block
      by (Request task) l = counted k task 0 (λ same.
          let r : Requests t (record { object = unit; op = op })
          = requests k t (record { object = unit; op = op }) at (subst (LeadsToTask y unit op) (sym same) l) in
          absurd (subst (IsAskedBy op) e r.asked))
      by Unknown l = tt
  timed-deep k t at (Requested sig ceiling separation jitter external) e unit op
      = by (callee y unit op) (leads-to y unit op) (covers-body p a rules (target_of t sig) k t at refl (record { object = unit; op = op }))
    where
      c : OpName
      c = record { object = unit; op = op }

      by : (x : CallTarget) → LeadsTo y unit op x → CoversBody p (target_of t sig) (record { object = unit; op = op }) x
          → Covers (count_in k t (Requested sig ceiling separation jitter external)) x
          (counted_in p t.name (Requested sig ceiling separation jitter external) unit op)
      by (Plain o) l h = h
      by (Protected object j g o) l h = h
      by (Request task) l h = counted k task (counted_in p t.name (Requested sig ceiling separation jitter external) unit op) (λ same.
          let r : Requests t (record { object = unit; op = op })
          = requests k t (record { object = unit; op = op }) at (subst (LeadsToTask y unit op) (sym same) l) in
          let asked : same_name sig.name op ≡ true = subst (IsAskedBy op) e r.asked in
          let call : is_call_of (target_of t sig) unit op ≡ true = ap (λ b. b && same_name sig.name op) r.named ∙ asked in
          let one : counted_in p t.name (Requested sig ceiling separation jitter external) unit op ≡ 1 =
          ap (λ b. let m : ℕ = if b then 1 else starts_within (length (program_services p)) (program_services p) (target_of t sig) unit op
          in m) call in
          omega (arith, one))
      by Unknown l h = tt

  some-deep : (k : ℕ) (o : Option TaskUnit) → slice_get y.threads k ≡ o → (unit op : Name)
      → Covers (count_by k o) (callee y unit op) (counted_by p o unit op)
  some-deep k None e unit op = by (callee y unit op) (leads-to y unit op)
    where
      by : (c : CallTarget) → LeadsTo y unit op c → Covers (count_by k None) c 0
      by (Plain o) l = none-deep o.block
      by (Protected object j g o) l = none-deep o.block
      by (Request task) l = counted k task 0 (λ same. absurd (none-some l.thread (sym e ∙ ap (slice_get y.threads) same ∙ l.stands)))
      by Unknown l = tt
  some-deep k (Some t) e unit op = timed-deep k t e t.timing refl unit op

  -- what a call counts covers the body that it leads to
  pub requests-deep : (ts : List Ranked) (rows : List ThreadRow) (k : ℕ) → CoversCalls (system p a) (requests_measure (frame p ts rows a) k)
  requests-deep ts rows k unit op = some-deep k (slice_get y.threads k) refl unit op

  -- what a task's block leads to, some task can call
  reached : (i : ℕ) (t : TaskUnit) → slice_get y.threads i ≡ Some t → (d : OpName) → IsIn d (all_calls (program_services p) t.block)
      → is_requested p d ≡ true
  reached i t at d among =
      block-requested p t.block
      (λ c h.
      let body = task-body p a i t at in
      written-requested p body.1 (at-in p.units body.0 body.1 body.3) body.6 c
      (call-in p rules body.0 body.1 body.3 body.2 body.4 c (subst (λ b. IsIn c (block_calls b)) (sym body.5) h))) d among

  module _ (ts : List Ranked) (rows : List ThreadRow) (tabled : AreTabled p ts rows) where
    abbrev f : Frame
    f = frame p ts rows a

    same-call : (c : OpName) (object op : Name) → c.object ≡ object → c.op ≡ op → c ≡ record { object = object; op = op }
    same-call c object op e g = ap (λ x. let d : OpName = record { object = x; op = c.op }
        in d) e ∙ ap (λ x. let d : OpName = record { object = object; op = x } in d) g

    -- a task that is requested from outside can be requested by no task
    never-outside : (k : ℕ) (t : TaskUnit) (op : Signature) (ceiling separation jitter : ℕ) → slice_get y.threads k ≡ Some t
        → t.timing ≡ Requested op ceiling separation jitter true
        → (c : OpName) → is_requested p c ≡ true → is_call_of (target_of t op) c.object c.op ≡ true → ⊥
    never-outside k t op ceiling separation jitter at e c made call =
        let found = thread-at p a k t at in
        let form : found.1.form ≡ Sporadic t.priority ceiling op separation jitter true t.vars t.block
        = subst (λ x. thread_form t x found.1.form) e (found.2).form in
        let both = and_parts (same_name t.name c.object) (same_name op.name c.op) call in
        let object : c.object ≡ found.1.name = sym (same-is t.name c.object both.0) ∙ sym (found.2).name in
        let called : is_requested p (record { object = found.1.name; op = op.name }) ≡ true =
        subst (λ x. is_requested p x ≡ true) (same-call c found.1.name op.name object (sym (same-is op.name c.op both.1))) made in
        let kept : breaks_external p found.1.name (Sporadic t.priority ceiling op separation jitter true t.vars t.block) ≡ false =
        subst (λ x. breaks_external p found.1.name x ≡ false) form (externals-kept p rules found.0 found.1 (found.2).stands) in
        clash (is_requested p (record { object = found.1.name; op = op.name })) called kept
      where
        clash : (b : Bool) → b ≡ true → (if b then true else not true) ≡ false → ⊥
        clash true x z = cc
        clash false x z = cc

    none-most : (n m : ℕ) → n ≡ 0 → n ≤ m
    none-most n m e = omega (arith, e)

    -- an activation requests a task with a row at most so often
    pub requests-few : (k s i : ℕ) (t : TaskUnit) → HasRow f k s → slice_get y.threads i ≡ Some t
        → dearest (requests_measure f k).weights t.block ≤ quota f k i
    requests-few k s i t has at = build (row-is p a rules ts rows tabled k s has)
      where
        build : (u : Ranked) × (slice_get (ranked p) k ≡ Some u) × (slice_get ts s ≡ Some u)
            → dearest (requests_measure f k).weights t.block ≤ quota f k i
        build row = with_thread (thread-of p a k row.0 row.1)
          where
            u : Ranked
            u = row.0

            with_thread : (tk : TaskUnit) × (slice_get y.threads k ≡ Some tk) × AreTwins tk row.0
                → dearest (requests_measure f k).weights t.block ≤ quota f k i
            with_thread k-thread = with_table (task-tabled p a rules ts rows tabled k s k-thread.0 has k-thread.1)
              where
                tk : TaskUnit
                tk = k-thread.0

                counts : (x : ReleasePattern) → k-thread.0.timing ≡ x → dearest (requests_measure f k).weights t.block
                    ≡ dearest (counting (counted_in p k-thread.0.name x)) t.block
                counts x e =
                    ap (λ o. dearest (counting (counted_by p o)) t.block) k-thread.1 ∙ ap
                    (λ z. dearest (counting (counted_in p k-thread.0.name z)) t.block) e

                with_table : IsTabled f k s k-thread.0 → dearest (requests_measure f k).weights t.block ≤ quota f k i
                with_table table = by k-thread.0.timing refl table.asked
                  where
                    by : (x : ReleasePattern) → k-thread.0.timing ≡ x → IsAsked f k table.row x
                        → dearest (requests_measure f k).weights t.block ≤ quota f k i
                    by (Periodic offset period) e asked =
                        none-most (dearest (requests_measure f k).weights t.block) (quota f k i)
                        (counts (Periodic offset period) e ∙ count-none (λ object op. 0) t.block (λ c h. refl))
                    by (Requested op ceiling separation jitter true) e asked =
                        none-most (dearest (requests_measure f k).weights t.block) (quota f k i)
                        (counts (Requested op ceiling separation jitter true) e
                        ∙ none-started (program_services p) (target_of k-thread.0 op) t.block
                        (λ d among. false_from_ne_true (is_call_of (target_of k-thread.0 op) d.object d.op)
                        (λ call. never-outside k k-thread.0 op ceiling separation jitter k-thread.1 e d (reached i t at d among) call)))
                    by (Requested op ceiling separation jitter false) e asked = inside op ceiling separation jitter e asked
                      where
                        inside : (op : Signature) (ceiling separation jitter : ℕ) → k-thread.0.timing ≡ Requested op ceiling separation jitter false
                            → IsAsked f k table.row (Requested op ceiling separation jitter false)
                            → dearest (requests_measure f k).weights t.block ≤ quota f k i
                        inside op ceiling separation jitter e asked =
                            let timing : row.0.task.timing ≡ flats.Sporadic op separation None
                            = subst (λ x. SameTiming x row.0.task.timing) e (k-thread.2).timing in
                            let started = zip-first (λ x r. IsStarted p ts r x.task.name x.task.timing) ts rows s row.0 tabled.started row.2 in
                            let inner : IsStarter p ts started.0 row.0.task.name op separation
                            = subst (IsStarted p ts started.0 row.0.task.name) timing started.2 in
                            let lines : started.0 ≡ table.row = same-item (slice_get rows s) started.0 table.row started.1 table.asks in
                            let place : inner.place ≡ asked.0
                            = same-item table.row.starter inner.place asked.0 (subst (λ r. r.starter ≡ Some inner.place) lines inner.told) asked.4 in
                            let first = row-is p a rules ts rows tabled asked.1 asked.0 asked.3 in
                            let starter : first.0 ≡ inner.starter
                            = same-item (slice_get ts asked.0) first.0 inner.starter first.2
                            (subst (λ x. slice_get ts x ≡ Some inner.starter) place inner.stands) in
                            one_of inner (subst (λ w. slice_get (ranked p) asked.1 ≡ Some w) starter first.1) asked.7 (twin-of p a i t at)
                            (cases_eq i asked.1)
                          where
                            one_of : {r : ThreadRow} (inner : IsStarter p ts r row.0.task.name op separation)
                                → slice_get (ranked p) asked.1 ≡ Some inner.starter → f.starter_of k ≡ Some asked.1
                                → (v : Ranked) × (slice_get (ranked p) i ≡ Some v) × AreTwins t v → (i ≡ asked.1) ⊎ (i ≢ asked.1)
                                → dearest (requests_measure f k).weights t.block ≤ quota f k i
                            one_of inner stands starts' v (inl same) =
                                let own : v.0 ≡ inner.starter = same-item (slice_get (ranked p) asked.1) v.0 inner.starter
                                (subst (λ x. slice_get (ranked p) x ≡ Some v.0) same v.1) stands in
                                let block : inner.starter.task.block ≡ t.block = ap (λ w. w.task.block) (sym own) ∙ (v.2).block in
                                let name : row.0.task.name ≡ k-thread.0.name = (k-thread.2).name in
                                let once : block_starts (program_services p) (target_of k-thread.0 op) t.block ≤ 1 =
                                subst (λ b. block_starts (program_services p) (target_of k-thread.0 op) b ≤ 1) block
                                (subst (λ n. block_starts (program_services p) (record { object = n; op = op.name }) inner.starter.task.block ≤ 1)
                                name inner.once) in
                                let same' : dearest (requests_measure f k).weights t.block
                                ≡ block_starts (program_services p) (target_of k-thread.0 op) t.block
                                = counts (Requested op ceiling separation jitter false) e in
                                let one : quota f k i ≡ 1 = ap (λ o. quota_by o i) starts' ∙ ap (one_at asked.1) same ∙ one-here asked.1 in
                                omega (arith, same', once, one)
                            one_of inner stands starts' v (inr differ) =
                                none-most (dearest (requests_measure f k).weights t.block) (quota f k i)
                                (counts (Requested op ceiling separation jitter false) e
                                ∙ unrequested (program_services p) (target_of k-thread.0 op) t.block
                                (false_from_ne_true (can_request (program_services p) k-thread.0.name t.block) (λ called.
                                let mine : can_request (program_services p) row.0.task.name v.0.task.block ≡ true =
                                ap (λ n. can_request (program_services p) n v.0.task.block) (k-thread.2).name ∙ ap
                                (can_request (program_services p) k-thread.0.name) (v.2).block ∙ called in
                                let named : same_name v.0.task.name inner.starter.task.name ≡ true =
                                all-at (λ w. can_request (program_services p) row.0.task.name w.task.block ≡ true
                                → same_name w.task.name inner.starter.task.name ≡ true) (ranked p) i v.0 inner.alone v.1 mine in
                                differ (ranked-once p a rules i asked.1 v.0 inner.starter v.1 stands
                                (same-is v.0.task.name inner.starter.task.name named)))))
