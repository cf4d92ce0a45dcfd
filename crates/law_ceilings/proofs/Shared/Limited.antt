-- The sections of lower tasks, one inside another too, are within a row's blocking, so that the processor blocks its task no longer.
use Rattle.std.specs.Prelude.{◌≡◌, ◌≤◌, ◌<◌, ◌&&◌, ◌||◌, ℕ, Bool, true, false, nat_lt, List, flat_map, length, slice_get, Some, ⊤, refl}
use Rattle.std.specs.List.{list_any}
use Rattle.std.proofs.Common.{sym, ◌∙◌, ap, subst, arith}
use Rattle.seq_tree.specs.Names.{Name}
use Rattle.seq_tree.specs.Operations.{Operation}
use Rattle.seq_tree.specs.Calls.{same_op}
use Rattle.seq_tree.specs.Lists.{Each}
use Rattle.seq_tree.specs.declared.tree.OpName.{OpName}
use Rattle.ada_tree.specs.Programs.{Program}
use Rattle.ada_tree.specs.Bodies.{op_body, bodies, scope}
use Rattle.ada_tree.specs.Uses.{is_confined}
use Rattle.ada_tree.specs.Rules.{MeetsRules}
use Rattle.arrivals_tree.specs.Arriving.{Arrivals}
use Rattle.ods_tree.specs.Services.{Service, service_named}
use Rattle.ods_tree.specs.Services as sort
use Rattle.analysis.specs.Execution.{called_cost}
use Rattle.analysis.specs.Sections as parts
use Rattle.analysis.specs.Sections.{live_calls, section, sections_within, sections}
use Rattle.guarantee.specs.ResponseLaw.{ranked, ceiling_named, program_services, task_sections}
use Rattle.machine.specs.Systems.{System, TaskUnit, CallTarget, Plain, Protected, Request, Unknown, system, callee}
use Rattle.machine.specs.States.{Object, Control}
use Rattle.machine.specs.Effects.{ceiling_of, ceiling_by}
use Rattle.law_ceilings.specs.Bodies.{BlockFits, HasExitsInLoops}
use Rattle.law_ceilings.specs.Limits.{Costing, IsMade, CostsAtMost, IsLimited}
use Rattle.law_lists.proofs.Shared.Lists.{IsIn, at-in, in-flat, in-some, any-in, any-at, each-is}
use Rattle.law_calls.proofs.Shared.Systems.{library-at, object-at, LeadsTo, leads-to, passive-call, is_free, free-is}
use Rattle.law_ceilings.proofs.Shared.Programs.{body-fits}
use Rattle.law_ceilings.proofs.Texts.{live-fits}
use Rattle.law_calls.proofs.Shared.UnitRules.{op-body-in, task-body, body-kept, call-passive, call-costs}
use Rattle.law_calls.proofs.Shared.Sections.{live_by, live_in, live_of, EntersBy, Enters, live_within, live-itself, live-closed, section-in}
use Rattle.law_calls.proofs.Shared.Named.{IsServed, IsRequestServed, ServedAs, served-as}
use Rattle.law_calls.proofs.Shared.Costs.{PaysCall, pays-call}
use Rattle.law_calls.proofs.Shared.Rings.{no-ring}
use Rattle.law_calls.proofs.Shared.Apart.{units_apart}
use Rattle.law_lists.proofs.Shared.Facts.{or_second}
use Rattle.std.proofs.lemmas.Bool.{and_parts, or_left, or_right}
use Rattle.seq_tree.proofs.Shared.Walks.{same_op-eq, same_op-refl}
use Rattle.law_calls.proofs.Shared.RankedTasks.{ranked-at}
use Rattle.law_ceilings.proofs.Shared.Ceiled.{object-ceiling, control-ceiling}

-- the sections of tasks below a level, on ceilings that reach it, cost at most a bound
abbrev pub AreBounded : Program → ℕ → ℕ → Type 0
AreBounded p lev bound =
    Each (λ u. u.priority < lev → Each (λ s. lev ≤ ceiling_named p s.object → s.cost ≤ bound) (task_sections p u.task)) (ranked p)

module _ (p : Program) (a : Arrivals) (rules : MeetsRules p) (lev bound : ℕ) (bounded : AreBounded p lev bound) where
  abbrev y : System
  y = system p a

  abbrev ss : List Service
  ss = program_services p

  served : (c : OpName) → ServedAs p y c.object c.op (callee y c.object c.op)
  served c = served-as p a (units_apart p rules) c.object c.op

  -- what tasks below the level lead to by live calls
  abbrev low_calls : TaskUnit → List OpName
  low_calls t = flat_map (live_within ss) (live_calls t.block)

  abbrev is_low_call : OpName → Bool
  is_low_call c = list_any (λ t. nat_lt t.priority lev && list_any (same_op c) (low_calls t)) y.threads

  abbrev made : Name → Name → Bool
  made unit op = is_free (callee y unit op) || is_low_call (record { object = unit; op = op })

  abbrev costing : Costing
  costing = record { cost = called_cost p.costs ss; made = made }

  -- the task below the level that leads to a call
  record IsLow (c : OpName) : Type 0 where
    place : ℕ
    task : TaskUnit
    stands : slice_get y.threads place ≡ Some task
    below : task.priority < lev
    leads : IsIn c (low_calls task)

  low-of : (c : OpName) → is_low_call c ≡ true → IsLow c
  low-of c e =
      let found = any-at (λ (t : TaskUnit). nat_lt t.priority lev && list_any (same_op c) (low_calls t)) y.threads e in
      let halves = and_parts (nat_lt found.1.priority lev) (list_any (same_op c) (low_calls found.1)) found.3 in
      let call = any-at (same_op c) (low_calls found.1) halves.1 in
      record {
        place = found.0;
        task = found.1;
        stands = found.2;
        below = (let h : found.1.priority < lev = grind (arith, halves.0) in h);
        leads = subst (λ z. IsIn z (low_calls found.1)) (sym (same_op-eq c call.1 call.3)) (at-in (low_calls found.1) call.0 call.1 call.2);
      }

  low-is : (c : OpName) (i : ℕ) (t : TaskUnit) → slice_get y.threads i ≡ Some t → t.priority < lev → IsIn c (low_calls t) → is_low_call c ≡ true
  low-is c i t at low h =
      any-in (λ (z : TaskUnit). nat_lt z.priority lev && list_any (same_op c) (low_calls z)) t y.threads (at-in y.threads i t at)
      (both (nat_lt t.priority lev) (list_any (same_op c) (low_calls t)) (grind arith) (any-in (same_op c) c (low_calls t) h (same_op-refl c)))
    where
      both : (b d : Bool) → b ≡ true → d ≡ true → (b && d) ≡ true
      both true d e f = f
      both false d e f = e

  -- closed under the live calls of bodies
  low-next : (c e : OpName) → IsLow c → IsIn e (live_of ss c) → is_low_call e ≡ true
  low-next c e l h =
      let found = in-some (live_within ss) (live_calls l.task.block) c l.leads in
      low-is e l.place l.task l.stands l.below (in-flat (live_within ss) found.0 e (live_calls l.task.block) found.1
      (live-closed ss found.0 c e found.2 h))

  -- its section costs at most the bound
  low-cost : (c : OpName) → IsLow c → Enters (service_named ss c.object c.op) → lev ≤ ceiling_named p c.object
      → called_cost p.costs ss c.object c.op ≤ bound
  low-cost c l enters reach =
      let r = ranked-at p a (λ u. u.priority < lev → Each (λ z. lev ≤ ceiling_named p z.object → z.cost ≤ bound) (task_sections p u.task)) bounded
      l.place l.task l.stands in
      let below : r.ranked.priority < lev = let h : l.task.priority < lev = l.below in omega (arith, h, r.priority) in
      let found = in-some (live_within ss) (live_calls l.task.block) c l.leads in
      let mine : IsIn (section p.costs ss c) (sections p.costs ss l.task.block) =
      in-flat (sections_within (length ss) p.costs ss) found.0 (section p.costs ss c) (live_calls l.task.block) found.1
      (section-in ss (no-ring p rules) p.costs found.0 c found.2 enters) in
      each-is (λ (z : parts.Section). lev ≤ ceiling_named p z.object → z.cost ≤ bound) (task_sections p r.ranked.task) (section p.costs ss c)
      (r.holds below)
      (subst (λ b. IsIn (section p.costs ss c) (sections p.costs ss b)) (sym r.block) mine) reach

  -- the service of a call
  protected-enters : (c : OpName) (o : Operation) → IsServed p c.object c.op sort.Protected o → Enters (service_named ss c.object c.op)
  protected-enters c o s = subst Enters (sym s.found) (subst EntersBy (sym s.sorts) tt)

  protected-live : (c : OpName) (o : Operation) → IsServed p c.object c.op sort.Protected o → live_of ss c ≡ live_calls o.block
  protected-live c o s = ap live_in s.found ∙ ap (λ x. live_by x s.service.op) s.sorts ∙ ap (λ (q : Operation). live_calls q.block) s.does

  request-enters : (c : OpName) → IsRequestServed p c.object c.op → Enters (service_named ss c.object c.op)
  request-enters c s = subst Enters (sym s.found) (subst EntersBy (sym s.sorts) tt)

  low-made : (c : OpName) → made c.object c.op ≡ true → is_free (callee y c.object c.op) ≡ false → IsLow c
  low-made c e f = low-of c (or_second (is_free (callee y c.object c.op)) (is_low_call c) f e)

  -- the limits of the processor that the table gives
  pub is-limited : IsLimited (system p a) lev bound
  is-limited = record {
    costing = costing;
    exits = λ unit op. exits unit op (callee y unit op) (leads-to y unit op);
    tasks = λ i t at. task-made i t at;
    calls = λ unit op is-made. calls unit op (callee y unit op) refl (leads-to y unit op) (served (record { object = unit; op = op })) (pays-call p a
        (units_apart p rules) (no-ring p rules) (record { object = unit; op = op })) is-made;
    call = call-costs p rules;
  }
    where
      exits : (unit op : Name) (c : CallTarget) → LeadsTo y unit op c → HasExitsInLoops c
      exits unit op (Plain o) l =
          let found = library-at p a l.place l.library l.stands in
          body-fits p rules found.0 found.1 (found.2).stands (op_body o)
          (op-body-in found.1.form l.library.ops l.at o (ap bodies (found.2).form) l.holds) (λ unit' op'. ⊤) (λ x h. tt)
      exits unit op (Protected object j g o) l =
          let found = object-at p a object g l.stands in
          body-fits p rules found.0 found.1 (found.2).stands (op_body o) (op-body-in found.1.form g.ops j o (ap bodies (found.2).form) l.holds)
          (λ unit' op'. ⊤) (λ x h. tt)
      exits unit op (Request task) l = tt
      exits unit op Unknown l = tt

      task-made : (i : ℕ) (t : TaskUnit) → slice_get y.threads i ≡ Some t
          → BlockFits (λ unit op. t.priority < lev → IsMade costing unit op) false t.block
      task-made i t at =
          let body = task-body p a i t at in
          subst (λ b. BlockFits (λ unit op. t.priority < lev → IsMade costing unit op) false b) body.5
          (live-fits (λ unit op. t.priority < lev → IsMade costing unit op) (scope p body.1.form body.2) body.2.block
          (body-kept p rules body.0 body.1 body.3 body.2 body.4)
          (λ x h low. or_right (is_free (callee y x.object x.op)) (is_low_call x)
          ((low-is x i t at low (in-flat (live_within ss) x x (live_calls t.block) (subst (λ b. IsIn x (live_calls b)) body.5 h)
          (live-itself ss x))))))

      calls : (unit op : Name) (c : CallTarget) → callee y unit op ≡ c → LeadsTo y unit op c → ServedAs p y unit op c
          → PaysCall p (record { object = unit; op = op }) c → made unit op ≡ true
          → CostsAtMost y lev bound costing (called_cost p.costs ss unit op) c
      calls unit op (Plain o) e l s pays is-made =
          let found = library-at p a l.place l.library l.stands in (
            body-fits p rules found.0 found.1 (found.2).stands (op_body o)
                (op-body-in found.1.form l.library.ops l.at o (ap bodies (found.2).form) l.holds) (IsMade costing)
                (λ x h. or_left (is_free (callee y x.object x.op)) (is_low_call x) ((free-is (callee y x.object x.op) (passive-call p a x
                (call-passive p rules found.0 found.1 (found.2).stands (op_body o)
                (op-body-in found.1.form l.library.ops l.at o (ap bodies (found.2).form) l.holds) (ap is_confined (found.2).form) x h))))),
            pays,
          )
      calls unit op (Protected object j g o) e l s pays is-made =
          let found = object-at p a object g l.stands in
          let among' = op-body-in found.1.form g.ops j o (ap bodies (found.2).form) l.holds in
          let low = low-made (record { object = unit; op = op }) is-made (ap is_free e) in (
            live-fits (IsMade costing) (scope p found.1.form (op_body o)) o.block
                (body-kept p rules found.0 found.1 (found.2).stands (op_body o) among')
                (λ x h. or_right (is_free (callee y x.object x.op)) (is_low_call x)
                ((low-next (record { object = unit; op = op }) x low
                (subst (IsIn x) (sym (protected-live (record { object = unit; op = op }) o s.0)) h)))),
            pays,
            λ reach.
                let top : ceiling_of y (Object object) ≡ g.ceiling = object-ceiling y object g l.stands in
                low-cost (record { object = unit; op = op }) low (protected-enters (record { object = unit; op = op }) o s.0) (omega
                (arith, top, s.1, reach)),
          )
      calls unit op (Request task) e l s pays is-made =
          let low = low-made (record { object = unit; op = op }) is-made (ap is_free e) in (
            pays,
            λ reach.
                let top : ceiling_of y (Control task) ≡ ceiling_by l.thread.timing = control-ceiling y task l.thread l.stands in
                let named = s.1 l.thread l.stands in
                low-cost (record { object = unit; op = op }) low (request-enters (record { object = unit; op = op }) s.0) (omega
                (arith, top, named, reach)),
          )
      calls unit op Unknown e l s pays is-made = tt
