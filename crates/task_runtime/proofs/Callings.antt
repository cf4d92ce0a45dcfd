-- A call that begins: what its method finds in code, and how much room there is for the body.
use Rattle.std.proofs.Common.{◌≡◌, ◌<◌, ◌≤◌, ℕ, ◌+◌, true, false, List, [], ◌∷◌, ◌++◌, Option, Some, None, length, map, refl, ap, sym, subst}
use Rattle.std.proofs.Common.{◌∙◌, ◌^◌, arith, get_or}
use Rattle.std.specs.Prelude.{drop, slice_get, take, option_map}
use Rattle.std.proofs.lemmas.List.{length-append, length-drop, length-map}
use Rattle.std.proofs.lemmas.Option.{same_Some, slice_get-map, slice_get_read, slice_get_within}
use Rattle.seq_tree.specs.Names.{Name}
use Rattle.seq_tree.specs.Expressions.{Expression}
use Rattle.seq_tree.specs.Variables.{Variables, entered, written}
use Rattle.seq_tree.specs.declared.tree.Datum.{Datum}
use Rattle.seq_tree.specs.declared.tree.Param.{Param}
use Rattle.machine.specs.Pieces.{Piece, Calling}
use Rattle.machine.specs.Systems.{System, CallTarget, Plain, Protected, ProtectedUnit, Request, Unknown, callee}
use Rattle.law_flat_code.specs.Codes.{block_size}
use Rattle.linker.specs.Slots.{vars_at}
use Rattle.linker.specs.Callees.{OpBody, body_of}
use Rattle.linker.specs.Programs.{datum_names, op_part, param_names}
use Rattle.linker.specs.Scopes.{slots_of}
use Rattle.linker.specs.Standing.{ValuesStand, lists_of, values_in}
use Rattle.linker.specs.declared.code.Ins.TheVariants as ins
use Rattle.linker.specs.declared.program.LinkedUnits.{LinkedUnits}
use Rattle.linker.specs.declared.tables.OpBody as code
use Rattle.task_runtime.specs.Callable.{op_name}
use Rattle.task_runtime.specs.Fitting.{names_of}
use Rattle.task_runtime.specs.Stacked.{vars_of}
use Rattle.task_runtime.specs.Written.{reserve, system_of}
use Rattle.task_runtime.specs.declared.values.Var.{Var}
use Rattle.task_runtime.proofs.Shared.Doings.{protected-at}
use Rattle.task_runtime.specs.Bodies.{Body, scope_at, size_of, vars_here}
use Rattle.task_runtime.specs.Framed.{Framed}
use Rattle.task_runtime.specs.Goings.{GoesOnAt, HasCalled}
use Rattle.task_runtime.specs.Handing.{ValuesAt, values_of}
use Rattle.task_runtime.specs.Lefts.{pieces_left, running_of}
use Rattle.task_runtime.specs.Settling.{IsAmid}
use Rattle.task_runtime.specs.Slotted.{Slotted}
use Rattle.task_runtime.specs.Sounds.{IsAtWork, IsBodyOf, IsFull, IsStacked}
use Rattle.task_runtime.specs.declared.piece.Frame.{Frame}
use Rattle.task_runtime.specs.declared.piece.Piece.TheVariants as is
use Rattle.task_runtime.specs.declared.progress.Progress.{Progress}
use Rattle.task_runtime.specs.declared.stack.Stack.{Stack}
use Rattle.task_runtime.proofs.Arrivals.{sound_running}
use Rattle.task_runtime.proofs.Begun.{called_there, has_called, left_here, the_call}
use Rattle.task_runtime.proofs.Calls.{CallAt, inner, names_count}
use Rattle.task_runtime.proofs.Entries.{call_running, call_stacked, with_call}
use Rattle.task_runtime.proofs.Filling.{names_long}
use Rattle.task_runtime.proofs.Heads.{Head, head_at}
use Rattle.task_runtime.proofs.Reserves.{callee_slots}
use Rattle.task_runtime.proofs.Stacks.{last_by, room_by}

-- a task has few slots
pub here_few : (c : LinkedUnits) (s : Stack) → IsStacked c s → length s.slots.here < 2 ^ 63
here_few c s h = let lt = h.small in omega (arith, lt)

-- what an object has is what its operations know of it
pub object_vars : (y : System) (unit op : Name) (k : CallTarget) (b : OpBody) (object place : ℕ) → callee y unit op ≡ k → IsBodyOf k b
    → b.owner ≡ Some (object, place) → (g : ProtectedUnit) × (slice_get y.objects object ≡ Some g) × (b.vars ≡ g.vars)
object_vars y unit op (Plain o) b object place e h owner = absurd (none (sym (ap (λ d. d.owner) h) ∙ owner))
  where
    none : ◌≡◌ {A = Option (ℕ × ℕ)} None (Some (object, place)) → ⊥
    none k = cc
object_vars y unit op (Protected object' place' g o) b object place e h owner =
    let same = same_Some (object', place') (object, place) (sym (ap (λ d. d.owner) h) ∙ owner) in (
      g,
      ap (slice_get y.objects) (sym (ap (λ (w : ℕ × ℕ). w.0) same)) ∙ protected-at y (op_name unit op) object' place' g o e,
      ap (λ d. d.vars) h,
    )
object_vars y unit op (Request task) b object place e h owner = absurd h
object_vars y unit op Unknown b object place e h owner = absurd h

module _ (c : LinkedUnits) (p : Progress) (h : IsAtWork c p) (place first outs : ℕ) (e : p.piece ≡ Some (is.Here (ins.Call place first outs))) where
  abbrev s : Stack
  s = p.stack

  abbrev r : Body
  r = running_of s

  abbrev here : List ℕ
  here = s.slots.here

  abbrev k : CallAt c s h.stacked p.at place first outs
  k = the_call c p h place first outs e

  pub op_there : place < length c.ops.items
  op_there =
      let lt = slice_get_within (map body_of c.ops.items) place k.body k.there in
      let l = length-map c.ops.items body_of in
      omega (arith, lt, l)

  pub start_there : place < length c.starts.items
  start_there = slice_get_within c.starts.items place k.start k.starts

  pub read_op : (d : code.OpBody) → d ≡ get_or c.ops.items place d → slice_get c.ops.items place ≡ Some d
  read_op d is' = slice_get_read c.ops.items (length c.ops.items) place d refl op_there is'

  pub read_start : (n : ℕ) → n ≡ get_or c.starts.items place n → slice_get c.starts.items place ≡ Some n
  read_start n is' = slice_get_read c.starts.items (length c.starts.items) place n refl start_there is'

  -- what code has of the operation
  pub body_is : (d : code.OpBody) → slice_get c.ops.items place ≡ Some d → body_of d ≡ k.body
  body_is d there =
      same_Some (body_of d) k.body (sym (ap (option_map body_of) there) ∙ sym (slice_get-map body_of c.ops.items place) ∙ k.there)

  pub start_is : (n : ℕ) → slice_get c.starts.items place ≡ Some n → n ≡ k.start
  start_is n there = same_Some n k.start (sym there ∙ k.starts)

  -- a call of a protected operation has as many actuals as it has parameters
  pub is_full : (unit op : Name) (actuals : List Expression) (rest : List Piece) → pieces_left p ≡ Calling unit op actuals ∷ rest
      → IsFull (callee (system_of s.thread) unit op) actuals
  is_full unit op actuals rest is' =
      (subst (Head (system_of s.thread) r.chain (length r.names) (scope_at r true p.at)) (sym (left_here p (ins.Call place first outs) e) ∙ is')
      (head_at (system_of s.thread) h.stacked.linked.leads (lists_of c.code) (last_by ins.Finish s.frames.items)
      (room_by (reserve s.thread) s.frames.items) r (sound_running c s h.stacked) true p.at here)).1

  module _ (d : code.OpBody) (there : slice_get c.ops.items place ≡ Some d) where
    abbrev b : OpBody
    b = body_of d

    abbrev same : b ≡ k.body
    same = body_is d there

    pub few_params : length b.op.sig.params ≤ 8
    few_params = subst (λ q. length q.op.sig.params ≤ 8) (sym same) k.ready.few

    here_stand : ValuesStand (lists_of c.code) (scope_at r false p.at) first (values_in b.op.sig.params k.actuals)
    here_stand = subst (λ q. ValuesStand (lists_of c.code) (scope_at r false p.at) first (values_in q.op.sig.params k.actuals)) (sym same) k.values

    pub values_there : ValuesAt (lists_of c.code) first b.op.sig.params
    values_there = record { scope = scope_at r false p.at; actuals = k.actuals; stand = here_stand }

    is' : slice_get c.code.ins.items p.at ≡ Some (ins.Call place first outs)
    is' = called_there c p h place first outs e

    before_end : p.at < r.start + block_size r.block
    before_end =
        let lt = inner c s h.stacked p.at (ins.Call place first outs) h.amid is' tt in
        let from = h.amid.from in
        omega (arith, lt, from)

    -- the names of the body have their slots behind those of its caller
    pub body_fits : size_of r + (length b.op.sig.params + (length b.op.locals + length b.vars)) ≤ length here
    body_fits =
        let parts = ap (λ q. length q.op.sig.params + (length q.op.locals + length q.vars)) same in
        let count = names_count k.body in
        let enough = callee_slots c s h.stacked p.at place first outs k.body k.start h.amid.from before_end is' k.there k.starts in
        omega (arith, parts, count, enough)

    -- the values that are handed in
    module _ (ps : List Param) (ps_are : ps ≡ b.op.sig.params) where
      pub few_handed : (old : List ℕ) → old ≡ [] → length old + length ps ≤ 8
      few_handed old none =
          let few = few_params in
          let n = ap length none in
          let m = ap length ps_are in
          omega (arith, few, n, m)

      pub values_at : ValuesAt (lists_of c.code) first ps
      values_at = subst (ValuesAt (lists_of c.code) first) (sym ps_are) values_there

      pub values_handed : (old values slots : List ℕ) → old ≡ [] → slots ≡ here
          → ((scope : Variables) (es : List Expression) → ValuesStand (lists_of c.code) scope first (values_in ps es)
          → values ≡ old ++ values_of (values_in ps es) (vars_at scope slots))
          → values ≡ values_of (values_in k.body.op.sig.params k.actuals) (vars_here r false p.at here)
      values_handed old values slots none same_slots hands =
          let scope = scope_at r false p.at in
          hands scope k.actuals (subst (λ qs. ValuesStand (lists_of c.code) scope first (values_in qs k.actuals)) (sym ps_are) here_stand)
          ∙ ap (λ xs. xs ++ values_of (values_in ps k.actuals) (vars_at scope slots)) none
          ∙ ap (λ xs. values_of (values_in ps k.actuals) (vars_at scope xs)) same_slots
          ∙ ap (λ qs. values_of (values_in qs k.actuals) (vars_at scope here)) ps_are
          ∙ ap (λ q. values_of (values_in q.op.sig.params k.actuals) (vars_at scope here)) same

    -- what an object lends has as many slots as the operation has data
    module _ (lent : List Var) (named : names_of (vars_of lent) ≡ datum_names b.vars) (size : ℕ) (sized : size ≡ size_of r) (inner : List ℕ)
        (rest : inner ≡ drop size here) where
      lent_long : length lent ≡ length b.vars
      lent_long =
          let m = names_long lent in
          let l = ap length named in
          let n = length-map b.vars (λ v. v.name) in
          omega (arith, m, l, n)

      fits : length b.op.sig.params + (length b.op.locals + length lent) ≤ length inner
      fits =
          let all = body_fits in
          let l = lent_long in
          let e = ap length rest in
          let m = length-drop size here in
          omega (arith, all, l, e, m, sized)

      pub lent_fits : length lent ≤ length inner
      lent_fits = let le = fits in omega (arith, le)

      module _ (ls : List Datum) (ls_are : ls ≡ b.op.locals) (slots : List ℕ) (slots_long : length slots ≡ length inner) where
        pub locals_fit : (low : ℕ) → low ≡ length ls → length lent + low ≤ length slots
        locals_fit low low_is =
            let le = fits in
            let n = ap length ls_are in
            omega (arith, le, n, low_is, slots_long)

        module _ (ps : List Param) (ps_are : ps ≡ b.op.sig.params) where
          pub params_fit : (low top : ℕ) → low ≡ length ls → top ≡ length ps → length lent + low + top ≤ length slots
          params_fit low top low_is top_is =
              let le = fits in
              let n = ap length ls_are in
              let m = ap length ps_are in
              omega (arith, le, n, m, low_is, top_is, slots_long)

          -- names that get their values
          pub opened_all : (values vs here' mid new : List ℕ) (low top : ℕ) → low ≡ length ls → top ≡ length ps → vs ≡ values
              → ((ns : List Name) → ns ≡ names_of (vars_of lent) → vars_at (slots_of ns) here' ≡ vars_of lent)
              → ((ns : List Name) → length ns + length ls ≡ length lent + low
              → vars_at (slots_of (datum_names ls ++ ns)) mid ≡ written ls ++ vars_at (slots_of ns) here')
              → ((ns : List Name) → length ns + length ps ≡ length lent + low + top
              → vars_at (slots_of (param_names ps ++ ns)) new ≡ entered ps vs ++ vars_at (slots_of ns) mid)
              → vars_at (slots_of (op_part k.body).names) new
              ≡ entered k.body.op.sig.params values ++ (written k.body.op.locals ++ vars_of lent)
          opened_all values vs here' mid new low top low_is top_is vs_are lends locals params =
              let ds = datum_names ls in
              let ns = datum_names b.vars in
              let l = lent_long in
              let m = length-map ls (λ v. v.name) in
              let n = length-map b.vars (λ v. v.name) in
              let j = length-append ds ns in
              let bottom = lends ns (sym named) in
              let middle = locals ns (omega (arith, l, n, low_is)) in
              let upper = params (ds ++ ns) (omega (arith, l, m, n, j, low_is, top_is)) in
              let all : vars_at (slots_of (param_names ps ++ (ds ++ ns))) new ≡ entered ps values ++ (written ls ++ vars_of lent) =
              upper ∙ ap (λ w. entered ps vs ++ w) (middle ∙ ap (λ w. written ls ++ w) bottom)
              ∙ ap (λ w. entered ps w ++ (written ls ++ vars_of lent)) vs_are in
              let Opened : List Param → List Datum → Type 0 = λ qs es. vars_at (slots_of (param_names qs ++ (datum_names es ++ ns))) new
              ≡ entered qs values ++ (written es ++ vars_of lent) in
              subst (λ q. vars_at (slots_of (op_part q).names) new ≡ entered q.op.sig.params values ++ (written q.op.locals ++ vars_of lent)) same
              (subst (λ es. Opened b.op.sig.params es) ls_are (subst (λ qs. Opened qs ls) ps_are all))

    -- the call is put on the stacks
    module _ (start : ℕ) (starts : slice_get c.starts.items place ≡ Some start) (size : ℕ) (sized : size ≡ size_of r) (slots' : Slotted)
        (frames' : Framed) (away : slots'.away ≡ s.slots.away ++ take size here) (long : length slots'.here ≡ length (drop size here))
        (items : frames'.items ≡ s.frames.items ++ record { body = d; start = start; at = p.at; away = size } ∷ [])
        (room : frames'.room ≡ s.frames.room) where
      abbrev f : Frame
      f = record { body = d; start = start; at = p.at; away = size }

      abbrev pub inside : Stack
      inside = with_call c s h.stacked p.at place first outs h.amid (called_there c p h place first outs e) f k same
          (start_is start starts) refl sized
          slots' frames' away long items room

      pub inside_stacked : IsStacked c inside
      inside_stacked =
          call_stacked c s h.stacked p.at place first outs h.amid (called_there c p h place first outs e) f k same (start_is start starts) refl sized
          slots' frames' away long items room

      pub inside_amid : IsAmid (running_of inside).start (running_of inside).block start
      inside_amid =
          subst (λ q. IsAmid q.start q.block start) (sym (call_running c s h.stacked p.at place first outs h.amid
          (called_there c p h place first outs e) f k same (start_is start starts) refl sized slots' frames' away long items room))
          (let n = start_is start starts in record { from = omega (arith, n); to = omega (arith, n) })

      pub calls : (values : List ℕ) (lent : Variables)
          → values ≡ values_of (values_in k.body.op.sig.params k.actuals) (vars_here r false p.at here)
          → vars_at (slots_of (op_part k.body).names) slots'.here ≡ entered k.body.op.sig.params values ++ (written k.body.op.locals ++ lent)
          → (p' : Progress) → GoesOnAt c inside start p' → HasCalled c p place lent values p'
      calls values lent hand vars p' on =
          has_called c p h place first outs e f same (start_is start starts) refl sized slots' frames' away long items room values lent hand vars p'
          (subst (λ n. GoesOnAt c inside n p') (start_is start starts) on)
