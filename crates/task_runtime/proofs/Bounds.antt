-- Room for each operation of a program once is enough for a task: its calls lead to no operation that is under way.
use Rattle.std.proofs.Common.{◌≡◌, inl, inr, ◌<◌, ◌≤◌, ℕ, zero, suc, ◌+◌, ◌-◌, ◌*◌, true, false, List, [], ◌∷◌, Some, length, map, refl, ap, sym}
use Rattle.std.proofs.Common.{subst, ◌∙◌, arith}
use Rattle.std.specs.Prelude.{replicate, slice_get}
use Rattle.std.proofs.lemmas.List.{length-append, length-map, length-replicate}
use Rattle.std.proofs.lemmas.Option.{same_Some}
use Rattle.seq_tree.specs.Names.{Name}
use Rattle.seq_tree.specs.declared.tree.Datum.{Datum}
use Rattle.ada_tree.specs.Trees.{unit_of}
use Rattle.machine.specs.Pieces.{Calling}
use Rattle.machine.specs.Systems.{System, callee, request_params}
use Rattle.law_flat_code.specs.Codes.{TaskStands, block_size}
use Rattle.linker.specs.Callees.{IsLed, OpBody, body_of}
use Rattle.linker.specs.Leads.{Leads}
use Rattle.linker.specs.Programs.{AreLinked, datum_names, param_names, task_part}
use Rattle.linker.specs.Scopes.{slots_of}
use Rattle.linker.specs.Standing.{Has, Lists, lists_of}
use Rattle.linker.specs.declared.code.Ins.{Ins}
use Rattle.linker.specs.declared.code.Ins.TheVariants as ins
use Rattle.linker.specs.declared.program.LinkedUnits.{LinkedUnits}
use Rattle.linker.proofs.Shared.Starts.{body_stands, task_stands}
use Rattle.task_runtime.specs.Callable.{op_name}
use Rattle.task_runtime.specs.Written as written
use Rattle.task_runtime.specs.Written.{IsReady, block_of_thread, reserve, system_of, thread_of, timing_of}
use Rattle.task_runtime.specs.declared.thread.Thread.{Thread}
use Rattle.task_runtime.specs.Bodies.{Body, body_with, ended, first_body, scope_at, size_of}
use Rattle.task_runtime.specs.Reserving.{HasRoom, extent_in, extent_of}
use Rattle.task_runtime.specs.Sounds.{CanWork, IsSound, IsTaskStart}
use Rattle.task_runtime.proofs.Calls.{call_says, data_is, led_to, names_count, op_is, system_is}
use Rattle.task_runtime.proofs.Heads.{Head, head_at}
use Rattle.task_runtime.proofs.Reserves.{more_room}
use Rattle.task_runtime.proofs.Steps.{as_there, next_left}

-- how many names a task's block knows
pub own_names : (th : Thread) → length (task_part (thread_of th)).names ≡ length (written.param_names th) + length th.«data».now
own_names th =
    length-append (param_names (request_params (timing_of th.timing))) (datum_names th.«data».now)
    ∙ ap (λ k. length (written.param_names th) + k) (length-map th.«data».now (λ (d : Datum). d.name))

module _ (c : LinkedUnits) (th : Thread) (works : CanWork th) (linked : AreLinked (map unit_of th.units.now) c) where
  abbrev y : System
  y = system_of th

  abbrev t : Lists
  t = lists_of c.code

  abbrev leads : Name → Name → Leads
  leads = linked.leads

  -- the block of the task stands in code
  pub block_stands : (start : ℕ) → IsTaskStart c th start
      → TaskStands (Has leads t) (slots_of (task_part (thread_of th)).names) start (block_of_thread th)
  block_stands start is =
      let k = task_stands (map unit_of th.units.now) c linked y (system_is th) is.place (thread_of th) is.task in
      subst (λ n. TaskStands (Has leads t) (slots_of (task_part (thread_of th)).names) n (block_of_thread th))
      (same_Some k.0 start (sym k.1 ∙ is.starts)) k.2

  pub block_sound : (start : ℕ) → IsTaskStart c th start → IsSound y leads t ins.Finish (reserve th) (first_body th start)
  block_sound start is =
      let stands = block_stands start is in
      record {
        stands = stands.0;
        ends = stands.1;
        fits = works.runs.block;
        full = works.full;
        ending = inl ([], refl);
        room' = (let e = own_names th in omega (arith, e));
      }

  -- a call in a body leads to an operation whose room is a part of that of the body
  record Inside (bodies room : ℕ) (last : Ins) (r : Body) (place : ℕ) : Type 0 where
    body : OpBody
    there : slice_get (map body_of c.ops.items) place ≡ Some body
    start : ℕ
    starts : slice_get c.starts.items place ≡ Some start
    behind : Body
    is : extent_in behind ≡ extent_of body start
    sound : IsSound y leads t ins.Return (room - size_of r) behind

  inside : (bodies room : ℕ) (last : Ins) (r : Body) → IsSound y leads t last room r → (at place first outs : ℕ) → r.start ≤ at
      → at < r.start + block_size r.block → slice_get t.ins at ≡ Some (ins.Call place first outs) → Inside bodies room last r place
  inside bodies room last r s at place first outs from to is =
      let here : List ℕ = replicate (size_of r) 0 in
      let zero' : ℕ = 0 in
      let many = length-replicate (size_of r) zero' in
      let long : size_of r ≤ length here = omega (arith, many) in
      let lt : at - r.start < block_size r.block = omega (arith, from, to) in
      let f = as_there y leads t last room r s here long at from true lt (ins.Call place first outs) is in
      let unit = f.0 in
      let op = f.1 in
      let actuals = f.2 in
      let says = call_says t (scope_at r false at) place first outs actuals (leads unit op) f.4 in
      let led = led_to (map body_of c.ops.items) (callee y unit op) place says.params
      (subst (IsLed (map body_of c.ops.items) (callee y unit op)) says.leads' (linked.calls y (system_is th) unit op)) in
      let calls = f.3.0 ∙ ap (λ ps. Calling unit op actuals ∷ ps) (next_left y leads t last room r s here long at from lt) in
      let head = subst (Head y r.chain (length r.names) (scope_at r true at)) calls (head_at y leads t last room r s true at here) in
      let stand = body_stands (map unit_of th.units.now) c linked place led.body led.there in
      let ready : IsReady y r.chain (op_name unit op) led.body.op =
      works.runs.calls r.chain (op_name unit op) led.body.op (op_is (callee y unit op) led.body led.is_body) head.0 in
      let tidy = works.tidy unit op led.body led.is_body in
      record {
        body = led.body;
        there = led.there;
        start = stand.0;
        starts = stand.1;
        behind = body_with led.body stand.0 (ended led.body actuals [] ∷ []) (op_name unit op ∷ r.chain);
        is = refl;
        sound = record {
          stands = stand.2.0;
          ends = stand.2.1;
          fits = ready.block;
          full = tidy.full;
          ending = inr (led.body, actuals, [], [], refl);
          room' =
              (let count = names_count led.body in
              let data' = ap length (data_is (callee y unit op) led.body led.is_body) in
              let more = ready.room in
              let enough = s.room' in
              omega (arith, count, data', more, enough));
        };
      }

  pub bounded : (bodies room : ℕ) (last : Ins) (r : Body) → IsSound y leads t last room r → room < 194 * suc bodies
      → HasRoom c bodies room (extent_in r)
  bounded zero room last r s few = absurd (let enough = s.room' in omega (arith, enough, few))
  bounded (suc bodies) room last r s few =
      let enough = s.room' in (
        omega (arith, enough),
        λ at place first outs b start from to is there starts.
            let k = inside bodies room last r s at place first outs from to is in
            let h : HasRoom c bodies (room - size_of r) (extent_of k.body k.start) =
            subst (HasRoom c bodies (room - size_of r)) k.is
            (bounded bodies (room - size_of r) ins.Return k.behind k.sound (omega (arith, enough, few))) in
            subst (λ n. HasRoom c bodies (room - size_of r) (extent_of b n)) (same_Some k.start start (sym k.starts ∙ starts))
            (subst (λ d. HasRoom c bodies (room - size_of r) (extent_of d k.start)) (same_Some k.body b (sym k.there ∙ there)) h),
      )

  -- of a task
  pub task_bounded : (start bodies slots : ℕ) → IsTaskStart c th start → reserve th ≤ slots → slots < 194 * (bodies + 1)
      → HasRoom c bodies slots (extent_in (first_body th start))
  task_bounded start bodies slots is enough few =
      more_room c bodies bodies (reserve th) slots (extent_in (first_body th start))
      (bounded bodies (reserve th) ins.Finish (first_body th start) (block_sound start is) (omega (arith, enough, few))) (omega arith) enough
