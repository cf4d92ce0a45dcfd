-- What the definitions say of small programs: each clause holds of a case, and is broken by one that differs from it alone.
use Rattle.std.proofs.Common.{◌≡◌, ℕ, Bool, true, false, List, [], ◌∷◌, Option, Some, None, map, refl, ap, sym, subst, arith, if◌then◌else◌}
use Rattle.std.specs.Prelude.{codes, slice_get}
use Rattle.std.proofs.lemmas.Option.{none-some, same_Some, slice_get_within}
use Rattle.seq_tree.specs.Names.{Name, same_name}
use Rattle.seq_tree.specs.Operations.{Operation}
use Rattle.seq_tree.specs.Statements.{End}
use Rattle.seq_tree.specs.declared.tree.Costs.{Costs}
use Rattle.seq_tree.specs.declared.tree.Datum.{Datum}
use Rattle.seq_tree.specs.declared.tree.Mode.TheVariants.{In}
use Rattle.seq_tree.specs.declared.tree.Param.{Param}
use Rattle.ada_tree.specs.Programs.{Cyclic, Passive, Unit}
use Rattle.machine.specs.Systems.{PassiveUnit, ProtectedUnit, System, TaskUnit}
use Rattle.machine.specs.Systems as to
use Rattle.linker.specs.Callees.{IsLed, IsSystemOf, OpBody, body_of}
use Rattle.linker.specs.Leads.{Body, Nowhere, Request}
use Rattle.linker.specs.Programs.{AllStand, AreLinked, Part, op_part, task_part}
use Rattle.linker.specs.Scopes.{slots_of}
use Rattle.linker.specs.Standing.{Has, lists_of}
use Rattle.linker.specs.declared.code.Ins.TheVariants as ins
use Rattle.linker.specs.declared.program.LinkedUnits.{LinkedUnits}
use Rattle.law_flat_code.specs.Codes.{TaskStands}

abbrev tick : Operation
tick = record { sig = record { name = codes "tick"; params = [] }; locals = []; block = End }

-- a datum, and an operation that has it as a local
abbrev level : Datum
level = record { name = codes "level"; value = 7 }

abbrev tock : Operation
tock = record { sig = record { name = codes "tick"; params = [] }; locals = level ∷ []; block = End }

-- an operation of a passive unit
abbrev body : OpBody
body = record { owner = None; vars = []; op = tick }

-- where one body is known, a call leads to that one
only_body : (b w : OpBody) → (k : ℕ) × (Body 0 [] ≡ Body k []) × (slice_get (b ∷ []) k ≡ Some w) → b ≡ w
only_body b w h =
    let first : 0 ≡ h.0 = cc in
    same_Some b w (subst (λ k. slice_get (b ∷ []) k ≡ Some w) (sym first) h.2)

-- a call leads to the body of its operation, by its place
leads_there : IsLed (body ∷ []) (to.Plain tick) (Body 0 [])
leads_there = (0, refl, refl)

-- and not to another's, past the last body, nowhere, or to a task
leads_to_another : IsLed (body ∷ []) (to.Plain tock) (Body 0 []) → ⊥
leads_to_another h =
    let e : [] ≡ level ∷ [] = ap (λ w. w.op.locals) (only_body body (record { owner = None; vars = []; op = tock }) h) in cc

leads_past : IsLed [] (to.Plain tick) (Body 0 []) → ⊥
leads_past h = let lt = slice_get_within [] h.0 body h.2 in omega (arith, lt)

leads_nowhere : IsLed (body ∷ []) (to.Plain tick) Nowhere → ⊥
leads_nowhere h = let e = h.1 in cc

leads_to_a_task : IsLed (body ∷ []) (to.Plain tick) (Request 0) → ⊥
leads_to_a_task h = let e = h.1 in cc

unknown_leads : IsLed (body ∷ []) to.Unknown (Body 0 []) → ⊥
unknown_leads h = cc

unknown_leads_nowhere : IsLed (body ∷ []) to.Unknown Nowhere
unknown_leads_nowhere = refl

-- a request leads to its own task
request_leads : IsLed [] (to.Request 1) (Request 1)
request_leads = refl

request_of_another : IsLed [] (to.Request 1) (Request 0) → ⊥
request_of_another h = cc

-- a protected object with one datum and one operation
abbrev guarded : ProtectedUnit
guarded = record { unit = 3; name = codes "q"; ceiling = 5; vars = level ∷ []; ops = tick ∷ [] }

abbrev owned : Option (ℕ × ℕ) → List Datum → OpBody
owned owner vars = record { owner = owner; vars = vars; op = tick }

-- a call of it leads to the body that has the place of the object, its own place and the object's data
protected_leads : IsLed (owned (Some (2, 1)) (level ∷ []) ∷ []) (to.Protected 2 1 guarded tick) (Body 0 [])
protected_leads = (0, refl, refl)

-- and not to one of another object, one at another place, one without the data, or one of no object
protected_elsewhere : IsLed (owned (Some (0, 1)) (level ∷ []) ∷ []) (to.Protected 2 1 guarded tick) (Body 0 []) → ⊥
protected_elsewhere h =
    let e = ap (λ w. w.owner) (only_body (owned (Some (0, 1)) (level ∷ [])) (owned (Some (2, 1)) (level ∷ [])) h) in
    let same : 0 ≡ 2 = ap (λ p. p.0) (same_Some (0, 1) (2, 1) e) in omega (arith, same)

protected_at_another_place : IsLed (owned (Some (2, 0)) (level ∷ []) ∷ []) (to.Protected 2 1 guarded tick) (Body 0 []) → ⊥
protected_at_another_place h =
    let e = ap (λ w. w.owner) (only_body (owned (Some (2, 0)) (level ∷ [])) (owned (Some (2, 1)) (level ∷ [])) h) in
    let same : 0 ≡ 1 = ap (λ p. p.1) (same_Some (2, 0) (2, 1) e) in omega (arith, same)

protected_without_data : IsLed (owned (Some (2, 1)) [] ∷ []) (to.Protected 2 1 guarded tick) (Body 0 []) → ⊥
protected_without_data h =
    let e : [] ≡ level ∷ [] = ap (λ w. w.vars) (only_body (owned (Some (2, 1)) []) (owned (Some (2, 1)) (level ∷ [])) h) in cc

protected_of_none : IsLed (owned None (level ∷ []) ∷ []) (to.Protected 2 1 guarded tick) (Body 0 []) → ⊥
protected_of_none h =
    none-some (2, 1) (ap (λ w. w.owner) (only_body (owned None (level ∷ [])) (owned (Some (2, 1)) (level ∷ [])) h))

-- the first name of a body has the highest slot: parameters, then locals, then data
slots_count_down : slots_of (codes "x" ∷ codes "y" ∷ []) ≡ (codes "x", 1) ∷ (codes "y", 0) ∷ []
slots_count_down = refl

abbrev in_x : Param
in_x = record { mode = In; name = codes "x" }

abbrev local_y : Datum
local_y = record { name = codes "y"; value = 0 }

names_in_order : (op_part (record {
  owner = Some (2, 0);
  vars = level ∷ [];
  op = record { sig = record { name = codes "set"; params = in_x ∷ [] }; locals = local_y ∷ []; block = End };
})).names
    ≡ codes "x" ∷ codes "y" ∷ codes "level" ∷ []
names_in_order = refl

abbrev part : Part
part = record { names = []; block = End }

-- each part has a start, and each start a part
starts_lack : AllStand (λ scope start block. start ≡ 0) (part ∷ []) [] → ⊥
starts_lack h = h

parts_lack : AllStand (λ scope start block. start ≡ 0) [] (0 ∷ []) → ⊥
parts_lack h = h

starts_elsewhere : AllStand (λ scope start block. start ≡ 0) (part ∷ []) (1 ∷ []) → ⊥
starts_elsewhere h = let e = h.0 in cc

starts_there : AllStand (λ scope start block. start ≡ 0) (part ∷ []) (0 ∷ [])
starts_there = (refl, tt)

-- a program of one task that does nothing, with its thread, and one of a passive unit
abbrev lone : Unit
lone = record { name = codes "a"; form = Cyclic 1 0 10 [] End }

abbrev thread : List ℕ → TaskUnit
thread work = record { unit = 0; name = codes "a"; priority = 1; timing = to.Periodic 0 10; vars = []; block = End; durations = work }

abbrev passive : Unit
passive = record { name = codes "p"; form = Passive (tick ∷ []) }

abbrev library : PassiveUnit
library = record { unit = 0; name = codes "p"; ops = tick ∷ [] }

module _ (costs : Costs) where
  -- what runs of them
  abbrev running : System
  running = record { until = 0; costs = costs; libraries = []; objects = []; threads = thread [] ∷ [] }

  runs : IsSystemOf (lone ∷ []) running
  runs = record { durations = λ unit. []; libraries = refl; objects = refl; threads = refl }

  abbrev called : System
  called = record { until = 0; costs = costs; libraries = library ∷ []; objects = []; threads = [] }

  calls : IsSystemOf (passive ∷ []) called
  calls = record { durations = λ unit. []; libraries = refl; objects = refl; threads = refl }

  -- a system has all the units
  runs_nothing : IsSystemOf (lone ∷ []) called → ⊥
  runs_nothing h = let e : [] ≡ thread (h.durations 0) ∷ [] = h.threads in cc

  calls_nothing : IsSystemOf (passive ∷ []) running → ⊥
  calls_nothing h = let e : [] ≡ library ∷ [] = h.libraries in cc

  -- the block of the task has a start
  task_lacks : (c : LinkedUnits) → c.tasks.items ≡ [] → AreLinked (lone ∷ []) c → ⊥
  task_lacks c none h =
      subst (AllStand (TaskStands (Has h.leads (lists_of c.code))) (map task_part running.threads)) none (h.tasks running runs)

  -- and ends as an activation does
  task_returns : (c : LinkedUnits) → c.tasks.items ≡ 0 ∷ [] → c.code.ins.items ≡ ins.Return ∷ [] → AreLinked (lone ∷ []) c → ⊥
  task_returns c at code h =
      let stands = subst (AllStand (TaskStands (Has h.leads (lists_of c.code))) (map task_part running.threads)) at (h.tasks running runs) in
      let last : slice_get c.code.ins.items 0 ≡ Some ins.Finish = stands.0.1 in
      let e : Some ins.Return ≡ Some ins.Finish = subst (λ is. slice_get is 0 ≡ Some ins.Finish) code last in cc

  -- the body of an operation that is called is there
  body_lacks : (c : LinkedUnits) → c.ops.items ≡ [] → AreLinked (passive ∷ []) c → ⊥
  body_lacks c none h =
      let led : IsLed (map body_of c.ops.items) (to.Plain tick) (h.leads (codes "p") (codes "tick")) =
      h.calls called calls (codes "p") (codes "tick") in
      let here : slice_get [] led.0 ≡ Some body = subst (λ bs. slice_get (map body_of bs) led.0 ≡ Some body) none led.2 in
      let lt = slice_get_within [] led.0 body here in omega (arith, lt)

unrequested : (b : Bool) (bodies : List OpBody) (work : List ℕ) (op : Name)
    → IsLed bodies (to.request_by op (if b then Some (0, thread work) else None)) Nowhere
unrequested true bodies work op = refl
unrequested false bodies work op = refl

-- the one task is linked as the end of its activation, and calls lead nowhere
task_is_linked : (c : LinkedUnits) → c.code.ins.items ≡ ins.Finish ∷ [] → c.code.nodes.items ≡ [] → c.ops.items ≡ [] → c.starts.items ≡ []
    → c.tasks.items ≡ 0 ∷ [] → AreLinked (lone ∷ []) c
task_is_linked c code nodes ops starts tasks = record {
  leads = λ unit op. Nowhere;
  calls = λ y is unit op. rw (is.libraries, is.objects, is.threads)
      (unrequested (same_name (codes "a") unit) (map body_of c.ops.items) (is.durations 0) op);
  bodies = rw (ops, starts) tt;
  tasks = λ y is. rw (is.threads, tasks) ((tt, rw code refl), tt);
  ordered = rw nodes (λ k n at. absurd (let lt = slice_get_within [] k n at in omega (arith, lt)));
}
