-- No run of a program stops at a ceiling where its tasks and protected bodies call at ceilings of at least their own priority.
use Rattle.std.specs.Prelude.{◌≡◌, ◌≤◌, ℕ, true, false, slice_get, Some, option_map, unwrap_or, refl}
use Rattle.std.specs.Prelude.{Bool}
use Rattle.seq_tree.specs.Operations.{Operation}
use Rattle.std.proofs.Common.{sym, ◌∙◌, ap, subst, arith}
use Rattle.seq_tree.specs.Names.{Name}
use Rattle.seq_tree.specs.Lists.{Each}
use Rattle.seq_tree.specs.Calls.{block_calls}
use Rattle.seq_tree.specs.declared.tree.OpName.{OpName}
use Rattle.ada_tree.specs.Programs.{Unit, Program}
use Rattle.ada_tree.specs.Bodies.{op_body, bodies}
use Rattle.ada_tree.specs.Uses.{is_confined}
use Rattle.ada_tree.specs.Rules.{MeetsRules}
use Rattle.arrivals_tree.specs.Arriving.{Arrivals}
use Rattle.ods_tree.specs.Services.{Service, Sort, service_named}
use Rattle.ods_tree.specs.Services as sort
use Rattle.ods_tree.specs.Flats as flats
use Rattle.guarantee.specs.Software.{guarded_by, program_software}
use Rattle.guarantee.specs.ResponseLaw.{ceiling_named, ranked, program_services, IsBelowCeiling, CallsUpwards}
use Rattle.machine.specs.Systems.{System, TaskUnit, ProtectedUnit, CallTarget, Plain, Protected, Request, Unknown, system, callee}
use Rattle.machine.specs.States.{Object, Control}
use Rattle.machine.specs.Effects.{ceiling_of, ceiling_by}
use Rattle.law_calls.proofs.Shared.Apart.{units_apart}
use Rattle.law_ceilings.specs.Bodies.{BlockFits}
use Rattle.law_ceilings.specs.Ceilings.{IsCeiled}
use Rattle.law_ceilings.proofs.Layers.{EntersAbove, IsPassiveCall, IsCallAbove, StaysAbove, layered-ceiled}
use Rattle.law_lists.proofs.Shared.Lists.{IsIn, at-in, each-is, each-made}
use Rattle.law_calls.proofs.Shared.Systems.{library-at, object-at, LeadsTo, leads-to, passive-call}
use Rattle.law_ceilings.proofs.Shared.Programs.{body-fits}
use Rattle.law_calls.proofs.Shared.UnitRules.{call-passive, op-body-in, task-body, priority-within, object-within}
use Rattle.law_calls.proofs.Shared.Named.{ServedAs, served-as}
use Rattle.law_lists.proofs.Shared.Facts.{same-is}
use Rattle.law_calls.proofs.Shared.RankedTasks.{ranked-at}

-- ceilings of sections
pub object-ceiling : (y : System) (i : ℕ) (g : ProtectedUnit) → slice_get y.objects i ≡ Some g → ceiling_of y (Object i) ≡ g.ceiling
object-ceiling y i g e = ap (λ o. unwrap_or (option_map (λ x. x.ceiling) o) 0) e

pub control-ceiling : (y : System) (i : ℕ) (t : TaskUnit) → slice_get y.threads i ≡ Some t → ceiling_of y (Control i) ≡ ceiling_by t.timing
control-ceiling y i t e = ap (λ o. unwrap_or (option_map (λ x. ceiling_by x.timing) o) 0) e

-- the section of a call is on a ceiling of at least a level
module _ (p : Program) (a : Arrivals) (rules : MeetsRules p) where
  abbrev y : System
  y = system p a

  up : (level ceiling : ℕ) (s : Service) (x : Sort) → s.sort ≡ x → IsBelowCeiling level ceiling (Some s)
      → IsBelowCeiling level ceiling (Some (record s { sort = x }))
  up level ceiling s x is h = subst (λ (z : Service). IsBelowCeiling level ceiling (Some z)) (ap (λ t. let z : Service = record s { sort = t }
      in z) is) h

  enters-above : (level : ℕ) (c : OpName) → IsBelowCeiling level (ceiling_named p c.object) (service_named (program_services p) c.object c.op)
      → EntersAbove y level (callee y c.object c.op)
  enters-above level c below = by (callee y c.object c.op) (leads-to y c.object c.op) (served-as p a (units_apart p rules) c.object c.op)
    where
      by : (k : CallTarget) → LeadsTo y c.object c.op k → ServedAs p y c.object c.op k → EntersAbove y level k
      by (Plain o) l s = tt
      by (Protected object j g o) l s =
          let is = s.0 in
          let low : level ≤ ceiling_named p c.object
          = up level (ceiling_named p c.object) is.service sort.Protected is.sorts
          (subst (IsBelowCeiling level (ceiling_named p c.object)) is.found below) in
          let same : ceiling_named p c.object ≡ g.ceiling = s.1 in
          let top : ceiling_of y (Object object) ≡ g.ceiling = object-ceiling y object g l.stands in
          omega (arith, low, same, top)
      by (Request task) l s =
          let is = s.0 in
          let low : level ≤ ceiling_named p c.object
          = up level (ceiling_named p c.object) is.service sort.Request is.sorts
          (subst (IsBelowCeiling level (ceiling_named p c.object)) is.found below) in
          let same : ceiling_named p c.object ≡ ceiling_by l.thread.timing = s.1 l.thread l.stands in
          let top : ceiling_of y (Control task) ≡ ceiling_by l.thread.timing = control-ceiling y task l.thread l.stands in
          omega (arith, low, same, top)
      by Unknown l s = tt

  -- any call
  abbrev any : Name → Name → Bool
  any unit op = true

  -- tasks call at ceilings of at least their priority, protected bodies at ceilings of at least their own: no run stops
  pub is-ceiled : Each (λ u. CallsUpwards p u.priority u.task.block) (ranked p)
      → Each (λ g. Each (λ o. CallsUpwards p (ceiling_named p g.name) o.block) g.ops) (program_software p).shared → IsCeiled (system p a)
  is-ceiled tasks inner = layered-ceiled y (record {
    made = any;
    top = 60;
    priorities = priority-within p rules a;
    ceilings = λ i g at. let top : ceiling_of y (Object i) ≡ g.ceiling = object-ceiling y i g at in let small = object-within p rules a i g at
        in omega (arith, top, small);
    tasks = λ i t at.
        let b = task-body p a i t at in
        let r = ranked-at p a (λ u. CallsUpwards p u.priority u.task.block) tasks i t at in
        subst (λ s. BlockFits (IsCallAbove y any t.priority) false s) b.5
        (body-fits p rules b.0 b.1 b.3 b.2 b.4 (IsCallAbove y any t.priority)
        (λ x h. (
          refl,
          enters-above t.priority x (subst (λ n. IsBelowCeiling n (ceiling_named p x.object)
              (service_named (program_services p) x.object x.op)) r.priority
              (each-is (λ c. IsBelowCeiling r.ranked.priority (ceiling_named p c.object) (service_named (program_services p) c.object c.op))
              (block_calls r.ranked.task.block) x r.holds
              (subst (λ s. IsIn x (block_calls s)) (b.5 ∙ sym r.block) h))),
        )));
    calls = λ unit op made. by unit op (callee y unit op) (leads-to y unit op) (served-as p a (units_apart p rules) unit op);
  })
    where
      by : (unit op : Name) (c : CallTarget) → LeadsTo y unit op c → ServedAs p y unit op c → StaysAbove y any c
      by unit op (Plain o) l s =
          let found = library-at p a l.place l.library l.stands in
          let within' = op-body-in found.1.form l.library.ops l.at o (ap bodies (found.2).form) l.holds in
          body-fits p rules found.0 found.1 (found.2).stands (op_body o) within' (IsPassiveCall y any)
          (λ x h. (
            refl,
            passive-call p a x (call-passive p rules found.0 found.1 (found.2).stands (op_body o) within'
                (ap is_confined (found.2).form) x h),
          ))
      by unit op (Protected object j g o) l s =
          let found = object-at p a object g l.stands in
          let is = found.2 in
          let guard : flats.Guarded = record { name = found.1.name; vars = g.vars; ops = g.ops } in
          let mine = each-made (λ (z : flats.Guarded). Each (λ q. CallsUpwards p (ceiling_named p z.name) q.block) z.ops)
          (λ (u : Unit). guarded_by u.name u.form) p.units found.0 found.1 guard inner is.stands
          (ap (guarded_by found.1.name) is.form) in
          let body = each-is (λ (q : Operation). CallsUpwards p (ceiling_named p found.1.name) q.block) g.ops o mine (at-in g.ops j o l.holds) in
          let name : found.1.name ≡ unit = is.name ∙ same-is g.name unit l.named in
          let level : ceiling_named p found.1.name ≡ ceiling_of y (Object object)
          = ap (ceiling_named p) name ∙ s.1 ∙ sym (object-ceiling y object g l.stands) in
          body-fits p rules found.0 found.1 is.stands (op_body o) (op-body-in found.1.form g.ops j o (ap bodies is.form) l.holds)
          (IsCallAbove y any (ceiling_of y (Object object)))
          (λ x h. (
            refl,
            enters-above (ceiling_of y (Object object)) x
                (subst (λ n. IsBelowCeiling n (ceiling_named p x.object) (service_named (program_services p) x.object x.op)) level
                (each-is (λ c. IsBelowCeiling (ceiling_named p found.1.name) (ceiling_named p c.object)
                (service_named (program_services p) c.object c.op)) (block_calls o.block) x body h)),
          ))
      by unit op (Request task) l s = tt
      by unit op Unknown l s = tt
