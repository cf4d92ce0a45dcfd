-- A call at a place of the body that runs: the operation that it leads to, what code has of it, and that there is room for it.
use Rattle.std.proofs.Common.{◌≡◌, ◌⊎◌, inl, inr, ◌<◌, ◌≤◌, ℕ, ◌+◌, ◌-◌, true, false, List, [], ◌∷◌, ◌++◌, Option, Some, None, length, map}
use Rattle.std.proofs.Common.{refl, ap, sym, subst, ◌∙◌, arith}
use Rattle.std.specs.Prelude.{slice_get, take}
use Rattle.std.proofs.lemmas.List.{length-append, length-map, length-take-le}
use Rattle.std.proofs.lemmas.Option.{same_Some}
use Rattle.seq_tree.specs.Names.{Name}
use Rattle.seq_tree.specs.Expressions.{Expression}
use Rattle.seq_tree.specs.Variables.{Variables, targets}
use Rattle.seq_tree.specs.declared.tree.Param.{Param}
use Rattle.ada_tree.specs.Trees.{unit_of}
use Rattle.arrivals_tree.specs.Arriving.{durations}
use Rattle.machine.specs.Pieces.{Calling}
use Rattle.machine.specs.Systems.{System, CallTarget, Plain, Protected, Unknown, callee}
use Rattle.machine.specs.Systems as to
use Rattle.law_flat_code.specs.Codes.{BodyStands, block_size}
use Rattle.linker.specs.declared.nodes.Operand.{Operand}
use Rattle.linker.specs.Callees.{IsLed, IsSystemOf, OpBody, body_of}
use Rattle.linker.specs.Leads.{Leads, Body, Request, Nowhere}
use Rattle.linker.specs.Programs.{datum_names, op_part, param_names}
use Rattle.linker.specs.Scopes.{slots_of}
use Rattle.linker.specs.Standing.{CallStands, Has, Lists, TargetsStand, ValuesStand, lists_of, values_in}
use Rattle.linker.specs.declared.code.Ins.{Ins}
use Rattle.linker.specs.declared.code.Ins.TheVariants as ins
use Rattle.linker.specs.declared.program.LinkedUnits.{LinkedUnits}
use Rattle.linker.proofs.Shared.Starts.{body_stands}
use Rattle.task_runtime.specs.Callable.{data_by, op_by, op_name}
use Rattle.task_runtime.specs.Libraries.{handed}
use Rattle.task_runtime.specs.Written.{IsReady, reserve, system_of}
use Rattle.task_runtime.specs.declared.thread.Thread.{Thread}
use Rattle.task_runtime.specs.Bodies as bodies
use Rattle.task_runtime.specs.Bodies.{ended, first_body, into, left_at, scope_at, size_of, vars_here}
use Rattle.task_runtime.specs.Doings.{owner_at}
use Rattle.task_runtime.specs.Lefts.{running_of}
use Rattle.task_runtime.specs.Reserving.{IsInner}
use Rattle.task_runtime.specs.Settling.{IsAmid}
use Rattle.task_runtime.specs.Sounds.{IsBodyOf, IsCall, IsSound, IsStacked, IsTidy}
use Rattle.task_runtime.specs.declared.piece.Frame.{Frame}
use Rattle.task_runtime.specs.declared.stack.Stack.{Stack}
use Rattle.task_runtime.proofs.Arrivals.{sound_running}
use Rattle.task_runtime.proofs.Belows.{left_below, taken_same, vars_below}
use Rattle.task_runtime.proofs.Heads.{Head, head_at}
use Rattle.task_runtime.proofs.Orders.{order}
use Rattle.task_runtime.proofs.Reserves.{own_slots}
use Rattle.task_runtime.proofs.Stacks.{last_by, room_by}
use Rattle.task_runtime.proofs.Steps.{as_there, next_amid, next_left, next_scope, shows_there}

last_outer : (last : Ins) (fs : List Frame) → (IsInner last → ⊥) → IsInner (last_by last fs) → ⊥
last_outer last [] outer h = outer h
last_outer last (f ∷ fs) outer h = last_outer ins.Return fs (λ k. k) h

-- two calls in one place of code
call_parts : (a b c a' b' c' : ℕ) → ins.Call a b c ≡ ins.Call a' b' c' → (a ≡ a') × (b ≡ b') × (c ≡ c')
call_parts a b c a' b' c' h = (cc, cc, cc)

no_request : (a b c k : ℕ) (v : Option Operand) → ins.Call a b c ≡ ins.Request k v → ⊥
no_request a b c k v h = cc

no_nowhere : (a b c : ℕ) → ins.Call a b c ≡ ins.Nowhere → ⊥
no_nowhere a b c h = cc

body_parts : (k j : ℕ) (ps qs : List Param) → Body k ps ≡ Body j qs → (k ≡ j) × (ps ≡ qs)
body_parts k j ps qs h = (cc, cc)

no_body_request : (k task : ℕ) (ps : List Param) → Body k ps ≡ Request task → ⊥
no_body_request k task ps h = cc

no_body_nowhere : (k : ℕ) (ps : List Param) → Body k ps ≡ Nowhere → ⊥
no_body_nowhere k ps h = cc

-- what a call instruction says of what it leads to
module _ (t : Lists) (scope : Variables) (place first outs : ℕ) (actuals : List Expression) where
  pub record CallSays (l : Leads) : Type 0 where
    pub params : List Param
    pub leads' : l ≡ Body place params
    pub many : outs ≡ length (targets params actuals)
    pub values : ValuesStand t scope first (values_in params actuals)
    pub stores : TargetsStand t scope (first + length (values_in params actuals)) (targets params actuals)

  pub call_says : (l : Leads) → CallStands t scope l actuals (Some (ins.Call place first outs)) → CallSays l
  call_says (Body k params) h =
      let e = call_parts place first outs k h.0 (length (targets params actuals)) (same_Some _ _ h.1) in
      record {
        params = params;
        leads' = ap (λ z. Body z params) (sym e.0);
        many = e.2;
        values = subst (λ z. ValuesStand t scope z (values_in params actuals)) (sym e.1) h.2;
        stores = subst (λ z. TargetsStand t scope (z + length (values_in params actuals)) (targets params actuals)) (sym e.1) h.3;
      }
  call_says Nowhere h = absurd (no_nowhere place first outs (same_Some _ _ h))
  call_says (Request task) h = by actuals h
    where
      by : (es : List Expression) → CallStands t scope (Request task) es (Some (ins.Call place first outs)) → CallSays (Request task)
      by [] k = absurd (no_request place first outs task None (same_Some _ _ k))
      by (e ∷ es) k = absurd (no_request place first outs task (Some k.0) (same_Some _ _ k.1))

-- the operation that a call leads to, where code says its place
pub record LedTo (bodies' : List OpBody) (k : CallTarget) (place : ℕ) (params : List Param) : Type 0 where
  pub body : OpBody
  pub is_body : IsBodyOf k body
  pub there : slice_get bodies' place ≡ Some body
  pub params' : params ≡ body.op.sig.params

pub led_to : (bodies' : List OpBody) (k : CallTarget) (place : ℕ) (params : List Param) → IsLed bodies' k (Body place params)
    → LedTo bodies' k place params
led_to bodies' (Plain o) place params h =
    let e = body_parts place h.0 params o.sig.params h.1 in
    record {
      body = record { owner = None; vars = []; op = o };
      is_body = refl;
      there = ap (slice_get bodies') e.0 ∙ h.2;
      params' = e.1;
    }
led_to bodies' (Protected object op g o) place params h =
    let e = body_parts place h.0 params o.sig.params h.1 in
    record {
      body = record { owner = Some (object, op); vars = g.vars; op = o };
      is_body = refl;
      there = ap (slice_get bodies') e.0 ∙ h.2;
      params' = e.1;
    }
led_to bodies' (to.Request task) place params h = absurd (no_body_request place task params h)
led_to bodies' Unknown place params h = absurd (no_body_nowhere place params h)

-- the units of a task are a system of its program's units
pub system_is : (th : Thread) → IsSystemOf (map unit_of th.units.now) (system_of th)
system_is th = record { durations = durations (handed th.work.now); libraries = refl; objects = refl; threads = refl }

-- what the definitions know of an operation, as code has it
pub op_is : (k : CallTarget) (b : OpBody) → IsBodyOf k b → op_by k ≡ Some b.op
op_is (Plain o) b h = ap (λ z. Some z.op) (sym h)
op_is (Protected object op g o) b h = ap (λ z. Some z.op) (sym h)
op_is (to.Request task) b h = absurd h
op_is Unknown b h = absurd h

pub data_is : (k : CallTarget) (b : OpBody) → IsBodyOf k b → data_by k ≡ b.vars
data_is (Plain o) b h = ap (λ z. z.vars) (sym h)
data_is (Protected object op g o) b h = ap (λ z. z.vars) (sym h)
data_is (to.Request task) b h = absurd h
data_is Unknown b h = absurd h

-- how many names a body knows
pub names_count : (b : OpBody) → length (op_part b).names ≡ length b.op.sig.params + (length b.op.locals + length b.vars)
names_count b =
    length-append (param_names b.op.sig.params) (datum_names b.op.locals ++ datum_names b.vars)
    ∙ ap (λ k. k + length (datum_names b.op.locals ++ datum_names b.vars)) (length-map b.op.sig.params (λ p. p.name))
    ∙ ap (λ k. length b.op.sig.params + k) (length-append (datum_names b.op.locals) (datum_names b.vars)
    ∙ ap (λ k. k + length (datum_names b.vars)) (length-map b.op.locals (λ d. d.name))
    ∙ ap (λ k. length b.op.locals + k) (length-map b.vars (λ d. d.name)))

module _ (c : LinkedUnits) (s : Stack) (h : IsStacked c s) where
  abbrev y : System
  y = system_of s.thread

  abbrev t : Lists
  t = lists_of c.code

  abbrev r : bodies.Body
  r = running_of s

  abbrev here : List ℕ
  here = s.slots.here

  sound : IsSound y h.linked.leads t (last_by ins.Finish s.frames.items) (room_by (reserve s.thread) s.frames.items) r
  sound = sound_running c s h

  -- the slots of the body that runs are enough for it
  pub long_here : size_of r ≤ length here
  long_here = own_slots c s h

  -- an instruction that is no last one stands before the end of the body
  pub inner : (at : ℕ) (x : Ins) → IsAmid r.start r.block at → slice_get t.ins at ≡ Some x → IsInner x → at - r.start < block_size r.block
  inner at x amid there is = by (order (at - r.start) (block_size r.block))
    where
      by : (at - r.start < block_size r.block) ⊎ (block_size r.block ≤ at - r.start) → at - r.start < block_size r.block
      by (inl lt) = lt
      by (inr ge) =
          let from = amid.from in
          let le = amid.to in
          let end : r.start + block_size r.block ≡ at = omega (arith, ge, from, le) in
          let same = same_Some x (last_by ins.Finish s.frames.items) (sym there ∙ ap (slice_get t.ins) (sym end) ∙ sound.ends) in
          absurd (last_outer ins.Finish s.frames.items (λ k. k) (subst IsInner same is))

  -- the call at a place
  pub record CallAt (at place first outs : ℕ) : Type 0 where
    pub unit : Name
    pub op : Name
    pub actuals : List Expression
    pub calls : left_at r true at here ≡ Calling unit op actuals ∷ left_at r true (at + 1) here
    pub shown : scope_at r true at ≡ scope_at r false at
    pub behind : scope_at r true (at + 1) ≡ scope_at r false at
    pub amid_behind : IsAmid r.start r.block (at + 1)
    pub body : OpBody
    pub is_body : IsBodyOf (callee y unit op) body
    pub there : owner_at c place ≡ Some body
    pub values : ValuesStand t (scope_at r false at) first (values_in body.op.sig.params actuals)
    pub stores : TargetsStand t (scope_at r false at) (first + length (values_in body.op.sig.params actuals)) (targets body.op.sig.params actuals)
    pub many : outs ≡ length (targets body.op.sig.params actuals)
    pub ready : IsReady y r.chain (op_name unit op) body.op
    pub tidy : IsTidy y body
    pub start : ℕ
    pub starts : slice_get c.starts.items place ≡ Some start
    pub stands : BodyStands (Has h.linked.leads t) (slots_of (op_part body).names) start body.op.block

  pub call_at : (at place first outs : ℕ) → IsAmid r.start r.block at → slice_get t.ins at ≡ Some (ins.Call place first outs)
      → CallAt at place first outs
  call_at at place first outs amid is =
      let lt = inner at (ins.Call place first outs) amid is tt in
      let last = last_by ins.Finish s.frames.items in
      let room = room_by (reserve s.thread) s.frames.items in
      let f = as_there y h.linked.leads t last room r sound here long_here at amid.from true lt (ins.Call place first outs) is in
      let unit = f.0 in
      let op = f.1 in
      let actuals = f.2 in
      let says = call_says t (scope_at r false at) place first outs actuals (h.linked.leads unit op) f.4 in
      let led = led_to (map body_of c.ops.items) (callee y unit op) place says.params
      (subst (IsLed (map body_of c.ops.items) (callee y unit op)) says.leads' (h.linked.calls y (system_is s.thread) unit op)) in
      let calls = f.3.0 ∙ ap (λ ps. Calling unit op actuals ∷ ps) (next_left y h.linked.leads t last room r sound here long_here at amid.from lt) in
      let head = subst (Head y r.chain (length r.names) (scope_at r true at)) calls
      (head_at y h.linked.leads t last room r sound true at here) in
      let stand = body_stands (map unit_of s.thread.units.now) c h.linked place led.body led.there in
      record {
        unit = unit;
        op = op;
        actuals = actuals;
        calls = calls;
        shown = shows_there y h.linked.leads t last room r sound here long_here at amid.from lt (ins.Call place first outs) is;
        behind = sym (next_scope y h.linked.leads t last room r sound here long_here at amid.from lt) ∙ f.3.1;
        amid_behind = next_amid y h.linked.leads t last room r sound here long_here at amid.from lt;
        body = led.body;
        is_body = led.is_body;
        there = led.there;
        values = subst (λ ps. ValuesStand t (scope_at r false at) first (values_in ps actuals)) led.params' says.values;
        stores = subst (λ ps. TargetsStand t (scope_at r false at) (first + length (values_in ps actuals)) (targets ps actuals)) led.params'
            says.stores;
        many = says.many ∙ ap (λ ps. length (targets ps actuals)) led.params';
        ready = h.works.runs.calls r.chain (op_name unit op) led.body.op (op_is (callee y unit op) led.body led.is_body) head.0;
        tidy = h.works.tidy unit op led.body led.is_body;
        start = stand.0;
        starts = stand.1;
        stands = stand.2;
      }

  -- a call that begins
  module _ (at place first outs : ℕ) (amid : IsAmid r.start r.block at) (is : slice_get t.ins at ≡ Some (ins.Call place first outs)) (f : Frame)
      (k : CallAt at place first outs) (same_body : body_of f.body ≡ k.body) (same_start : f.start ≡ k.start) (same_at : f.at ≡ at)
      (same_size : f.away ≡ size_of r) where
    abbrev seg : List ℕ
    seg = take f.away here

    seg_long : length seg ≡ f.away
    seg_long = length-take-le f.away here (let le = long_here in omega (arith, le, same_size))

    seg_left : left_at r true at seg ≡ left_at r true at here
    seg_left =
        left_below y h.linked.leads t (last_by ins.Finish s.frames.items) (room_by (reserve s.thread) s.frames.items) r sound here seg long_here
        (λ j lt. taken_same f.away here j (omega (arith, lt, same_size))) at amid

    seg_vars : vars_here r true at seg ≡ vars_here r true at here
    seg_vars =
        vars_below y h.linked.leads t (last_by ins.Finish s.frames.items) (room_by (reserve s.thread) s.frames.items) r sound here seg long_here
        (λ j lt. taken_same f.away here j (omega (arith, lt, same_size))) at amid

    seg_calls : left_at r true f.at seg ≡ Calling k.unit k.op k.actuals ∷ left_at r true (at + 1) here
    seg_calls = ap (λ j. left_at r true j seg) same_at ∙ seg_left ∙ k.calls

    pub is_call : IsCall y t r f seg
    is_call = record {
      from = (let from = amid.from in omega (arith, from, same_at));
      to = (let lt = inner at (ins.Call place first outs) amid is tt in let from = amid.from in omega (arith, lt, from, same_at));
      size = same_size;
      long = seg_long;
      unit = k.unit;
      op = k.op;
      actuals = k.actuals;
      rest = left_at r true (at + 1) here;
      calls = seg_calls;
      body = subst (IsBodyOf (callee y k.unit k.op)) (sym same_body) k.is_body;
      place = place;
      first = first;
      outs = outs;
      call_is = ap (slice_get t.ins) same_at ∙ is;
    }

    -- the body that begins
    abbrev pub began : bodies.Body
    began = bodies.body_with k.body k.start (ended k.body k.actuals (vars_here r true at here) ∷ left_at r true (at + 1) here)
        (op_name k.unit k.op ∷ r.chain)

    pub into_is : into r f seg ≡ began
    into_is =
        ap (λ b. bodies.body_with b f.start (bodies.behind_call b (vars_here r true f.at seg) (left_at r true f.at seg))
        (bodies.chain_with r.chain (left_at r true f.at seg))) same_body
        ∙ ap (λ n. bodies.body_with k.body n (bodies.behind_call k.body (vars_here r true f.at seg) (left_at r true f.at seg))
        (bodies.chain_with r.chain (left_at r true f.at seg))) same_start
        ∙ ap (λ ps. bodies.body_with k.body k.start (bodies.behind_call k.body (vars_here r true f.at seg) ps)
        (bodies.chain_with r.chain ps)) seg_calls
        ∙ ap (λ vs. bodies.body_with k.body k.start (ended k.body k.actuals vs ∷ left_at r true (at + 1) here) (op_name k.unit k.op ∷ r.chain))
        (ap (λ j. vars_here r true j seg) same_at ∙ seg_vars)

    pub began_sound : IsSound y h.linked.leads t ins.Return (room_by (reserve s.thread) s.frames.items - f.away) began
    began_sound = record {
      stands = k.stands.0;
      ends = k.stands.1;
      fits = k.ready.block;
      full = k.tidy.full;
      ending = inr (k.body, k.actuals, vars_here r true at here, left_at r true (at + 1) here, refl);
      room' =
          (let count = names_count k.body in
          let data' = ap length (data_is (callee y k.unit k.op) k.body k.is_body) in
          let more = k.ready.room in
          let enough = sound.room' in
          omega (arith, count, data', more, enough, same_size));
    }

    pub into_sound : IsSound y h.linked.leads t ins.Return (room_by (reserve s.thread) s.frames.items - f.away) (into r f seg)
    into_sound = subst (IsSound y h.linked.leads t ins.Return (room_by (reserve s.thread) s.frames.items - f.away)) (sym into_is) began_sound
