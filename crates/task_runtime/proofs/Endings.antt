-- A body that ends: what its method finds on the stacks and in code.
use Rattle.std.proofs.Common.{◌≡◌, ◌<◌, ◌≤◌, ℕ, ◌+◌, ◌-◌, Bool, true, false, not, ◌&&◌, ◌||◌, List, [], ◌∷◌, ◌++◌, Some, None, length}
use Rattle.std.proofs.Common.{refl, ap, sym, subst, ◌∙◌, append_assoc, arith, get_or}
use Rattle.std.specs.Prelude.{drop, slice_get, take}
use Rattle.std.proofs.lemmas.List.{length-append, length-map}
use Rattle.std.proofs.lemmas.List.Folds.{list_any-append}
use Rattle.std.proofs.lemmas.Option.{same_Some, slice_get_read, slice_get_within}
use Rattle.seq_tree.specs.Names.{Name, are_distinct, is_named, same_name}
use Rattle.seq_tree.specs.Expressions.{Expression}
use Rattle.seq_tree.specs.Operations.{out_names}
use Rattle.seq_tree.specs.Variables.{Variables, kept, reads, targets}
use Rattle.seq_tree.specs.declared.tree.Datum.{Datum}
use Rattle.seq_tree.specs.declared.tree.Param.{Param}
use Rattle.machine.specs.Pieces.{Piece, Closing}
use Rattle.machine.specs.Systems.{System, ProtectedUnit, callee}
use Rattle.law_flat_code.specs.Codes.{next_slot}
use Rattle.linker.specs.Slots.{set_all, vars_at}
use Rattle.linker.specs.Callees.{OpBody, body_of}
use Rattle.linker.specs.Programs.{datum_names, op_part, param_names}
use Rattle.linker.specs.Scopes.{slots_of}
use Rattle.linker.specs.Standing.{Lists, TargetsStand, lists_of, values_in}
use Rattle.linker.specs.declared.code.Ins.{Ins}
use Rattle.linker.specs.declared.code.Ins.TheVariants as ins
use Rattle.linker.specs.declared.program.LinkedUnits.{LinkedUnits}
use Rattle.task_runtime.specs.Callable.{op_name}
use Rattle.task_runtime.specs.Fitting.{names_of}
use Rattle.task_runtime.specs.Written.{IsReady, data_names, reserve, system_of}
use Rattle.task_runtime.specs.Bodies.{Body, behind_call, ended, ended_by, first_body, into, left_at, running, scope_at, vars_here}
use Rattle.task_runtime.specs.Doings.{EndsBody}
use Rattle.task_runtime.specs.Framed.{Framed}
use Rattle.task_runtime.specs.Goings.{GoesOnAt, HasReturned}
use Rattle.task_runtime.specs.Handing.{TargetsAt, target_slots}
use Rattle.task_runtime.specs.Lefts.{running_of, vars_left}
use Rattle.task_runtime.specs.Settling.{IsAmid}
use Rattle.task_runtime.specs.Slotted.{Slotted}
use Rattle.task_runtime.specs.Sounds.{IsAtWork, IsBodyOf, IsCall, IsStacked, IsTidy, owner_by, owner_of}
use Rattle.task_runtime.specs.declared.piece.Frame.{Frame}
use Rattle.task_runtime.specs.declared.progress.Progress.{Progress}
use Rattle.task_runtime.specs.declared.stack.Stack.{Stack}
use Rattle.task_runtime.proofs.Arrivals.{sound_running}
use Rattle.task_runtime.proofs.Callings.{object_vars}
use Rattle.task_runtime.proofs.Calls.{CallAt, long_here, names_count, op_is}
use Rattle.task_runtime.proofs.Ended.{end_by_left, end_by_vars, end_there, has_returned}
use Rattle.task_runtime.proofs.Entries.{slots_running, slots_stacked}
use Rattle.task_runtime.proofs.Firsts.{last_of}
use Rattle.task_runtime.proofs.Heads.{Head, head_at}
use Rattle.task_runtime.proofs.Passing.{values_few}
use Rattle.task_runtime.proofs.Returns.{back_stacked, call_amid, caller_call, end_left, end_vars, its_call, popped, same_op, some_call, without_call}
use Rattle.task_runtime.proofs.Shapes.{Shape, shape_at}
use Rattle.task_runtime.proofs.Stacks.{Popped, last_by, owner_pushed, room_by, running_pushed, sound_here}
use Rattle.task_runtime.proofs.Steps.{few}

-- names that differ, without those behind them
distinct_by : (a b a' b' : Bool) → (a ≡ false → a' ≡ false) → (b ≡ true → b' ≡ true) → (not a && b) ≡ true → (not a' && b') ≡ true
distinct_by true b a' b' f g h = absurd (no h)
  where
    no : false ≡ true → ⊥
    no k = cc
distinct_by false b a' b' f g h = simp (f refl, g h) refl

or_first : (a b : Bool) → (a || b) ≡ false → a ≡ false
or_first false b h = refl
or_first true b h = absurd (no h)
  where
    no : true ≡ false → ⊥
    no k = cc

pub distinct_front : (xs ys : List Name) → are_distinct (xs ++ ys) ≡ true → are_distinct xs ≡ true
distinct_front [] ys h = refl
distinct_front (x ∷ xs) ys h =
    distinct_by (is_named (xs ++ ys) x) (are_distinct (xs ++ ys)) (is_named xs x) (are_distinct xs)
    (λ e. or_first (is_named xs x) (is_named ys x) (sym (list_any-append (λ m. same_name m x) xs ys) ∙ e)) (distinct_front xs ys) h

-- the names of data that are kept
kept_names : (ds : List Datum) (vs : Variables) → names_of (kept ds vs) ≡ datum_names ds
kept_names [] vs = refl
kept_names (d ∷ ds) vs = ap (λ ns. d.name ∷ ns) (kept_names ds vs)

closing_vars : (a b a' b' : ℕ) (vs vs' : List Datum) (outs outs' stores stores' : List Name) (us us' : Variables) (ps ps' : List Piece)
    → Closing a b vs outs stores us ∷ ps ≡ Closing a' b' vs' outs' stores' us' ∷ ps' → vs ≡ vs'
closing_vars a b a' b' vs vs' outs outs' stores stores' us us' ps ps' h = cc

-- the end of an operation of an object says what data the object has
ended_vars : (b d : OpBody) (as' bs : List Expression) (us ws : Variables) (ps qs : List Piece) (o : ℕ × ℕ) → b.owner ≡ Some o → d.owner ≡ Some o
    → ended b as' us ∷ ps ≡ ended d bs ws ∷ qs → b.vars ≡ d.vars
ended_vars b d as' bs us ws ps qs o e f h =
    closing_vars o.0 o.1 o.0 o.1 b.vars d.vars (out_names b.op.sig.params) (out_names d.op.sig.params) (targets b.op.sig.params as')
    (targets d.op.sig.params bs) us ws ps qs
    (ap (λ w. ended_by w b.vars b.op as' us ∷ ps) (sym e) ∙ h ∙ ap (λ w. ended_by w d.vars d.op bs ws ∷ qs) f)

-- the body of the innermost call
module _ (c : LinkedUnits) (s : Stack) (h : IsStacked c s) (fs : List Frame) (f : Frame) (items : s.frames.items ≡ fs ++ f ∷ []) where
  abbrev y : System
  y = system_of s.thread

  abbrev t : Lists
  t = lists_of c.code

  abbrev base : Body
  base = first_body s.thread s.start

  abbrev b : OpBody
  b = body_of f.body

  abbrev pop : Popped y h.linked.leads t ins.Finish (reserve s.thread) base fs f s.slots.away
  pop = popped c s h fs f items

  abbrev outer : Body
  outer = running base fs pop.before

  into_is : running_of s ≡ into outer f pop.slots
  into_is =
      ap (λ gs. running base gs s.slots.away) items ∙ ap (running base (fs ++ f ∷ [])) pop.parts
      ∙ running_pushed y h.linked.leads t ins.Finish (reserve s.thread) base fs f pop.before pop.slots pop.sound pop.call.long

  pub end_names : (running_of s).names ≡ (op_part b).names
  end_names = ap (λ r. r.names) into_is

  end_behind : (running_of s).behind ≡ ended b pop.call.actuals (vars_here outer true f.at pop.slots) ∷ pop.call.rest
  end_behind = ap (λ r. r.behind) into_is ∙ ap (behind_call b (vars_here outer true f.at pop.slots)) pop.call.calls

  pub end_owner : owner_of s ≡ b.owner
  end_owner = ap (owner_by None) items ∙ owner_pushed None fs f

  tidy : IsTidy y b
  tidy = h.works.tidy pop.call.unit pop.call.op b pop.call.body

  abbrev known : Head y outer.chain (length outer.names) (scope_at outer true f.at) (left_at outer true f.at pop.slots)
  known =
      head_at y h.linked.leads t (last_by ins.Finish fs) (room_by (reserve s.thread) fs) outer
      (sound_here y h.linked.leads t ins.Finish (reserve s.thread) base fs pop.before pop.sound) true f.at pop.slots

  ready : IsReady y outer.chain (op_name pop.call.unit pop.call.op) b.op
  ready =
      h.works.runs.calls outer.chain (op_name pop.call.unit pop.call.op) b.op (op_is (callee y pop.call.unit pop.call.op) b pop.call.body)
      (subst (Head y outer.chain (length outer.names) (scope_at outer true f.at)) pop.call.calls known).0

  pub few_out : length b.op.sig.params ≤ 8
  few_out = ready.few

  pub distinct_out : are_distinct (param_names b.op.sig.params) ≡ true
  distinct_out = distinct_front (param_names b.op.sig.params) (datum_names b.op.locals ++ datum_names b.vars) tidy.distinct

  pub out_fits : length b.op.sig.params + (length b.op.locals + length b.vars) ≤ length s.slots.here
  out_fits =
      let e = ap length end_names in
      let n = names_count b in
      let le = long_here c s h in
      omega (arith, e, n, le)

  -- the values that are handed out
  module _ (ps : List Param) (ps_are : ps ≡ b.op.sig.params) where
    pub few_given : (old : List ℕ) → old ≡ [] → length old + length ps ≤ 8
    few_given old none =
        let few = few_out in
        let n = ap length none in
        let m = ap length ps_are in
        omega (arith, few, n, m)

    pub distinct_given : are_distinct (param_names ps) ≡ true
    distinct_given = ap (λ qs. are_distinct (param_names qs)) ps_are ∙ distinct_out

    pub values_out : (old values slots : List ℕ) (top : ℕ) → old ≡ [] → slots ≡ s.slots.here
        → top ≡ length b.op.sig.params + length b.op.locals + length b.vars
        → ((ns : List Name) → length ns + length ps ≡ top
        → values ≡ old ++ reads (out_names ps) (vars_at (slots_of (param_names ps ++ ns)) slots))
        → values ≡ reads (out_names b.op.sig.params) (vars_at (slots_of (op_part b).names) s.slots.here)
    values_out old values slots top none same_slots top_is hands =
        let ns = datum_names b.op.locals ++ datum_names b.vars in
        let j = length-append (datum_names b.op.locals) (datum_names b.vars) in
        let m = length-map b.op.locals (λ v. v.name) in
        let n = length-map b.vars (λ v. v.name) in
        let l = ap length ps_are in
        hands ns (omega (arith, top_is, j, m, n, l))
        ∙ ap (λ xs. xs ++ reads (out_names ps) (vars_at (slots_of (param_names ps ++ ns)) slots)) none
        ∙ ap (λ xs. reads (out_names ps) (vars_at (slots_of (param_names ps ++ ns)) xs)) same_slots
        ∙ ap (λ qs. reads (out_names qs) (vars_at (slots_of (param_names qs ++ ns)) s.slots.here)) ps_are

  -- an operation of an object knows the data of the object
  pub end_object : (object place : ℕ) → owner_of s ≡ Some (object, place)
      → (g : ProtectedUnit) × (slice_get y.objects object ≡ Some g) × (b.vars ≡ g.vars)
  end_object object place owner =
      object_vars y pop.call.unit pop.call.op (callee y pop.call.unit pop.call.op) b object place refl pop.call.body (sym end_owner ∙ owner)

  pub end_data : (object place : ℕ) → owner_of s ≡ Some (object, place) → (g : ProtectedUnit) → slice_get y.objects object ≡ Some g
      → b.vars ≡ g.vars
  end_data object place owner g there =
      let e = end_object object place owner in
      e.2 ∙ ap (λ q. q.vars) (same_Some e.0 g (sym e.1 ∙ there))

-- a task at the end of a body
module _ (c : LinkedUnits) (p : Progress) (h : IsAtWork c p) (e : EndsBody p.piece) where
  abbrev s : Stack
  s = p.stack

  pub not_bare : s.frames.items ≡ [] → ⊥
  not_bare = some_call c s h.stacked p.at h.amid (end_there c p h e)

  module _ (fs : List Frame) (f : Frame) (items : s.frames.items ≡ fs ++ f ∷ []) where
    abbrev ending : OpBody
    ending = body_of f.body

    here_are : vars_left p ≡ vars_at (slots_of (op_part ending).names) s.slots.here
    here_are =
        end_by_vars p.piece (data_names s.thread) (running_of s) p.at s.slots.here e ∙ end_vars c s h.stacked p.at h.amid (end_there c p h e)
        ∙ ap (λ ns. vars_at (slots_of ns) s.slots.here) (end_names c s h.stacked fs f items)

    -- the data that an object gets back
    pub data_kept : (vars : Variables)
        → ((ns : List Name) → are_distinct (ns ++ datum_names ending.vars) ≡ true
        → vars ≡ kept ending.vars (vars_at (slots_of (ns ++ datum_names ending.vars)) s.slots.here))
        → vars ≡ kept ending.vars (vars_left p)
    data_kept vars keeps =
        let ps = param_names ending.op.sig.params in
        let ls = datum_names ending.op.locals in
        let vs = datum_names ending.vars in
        let all : (ps ++ ls) ++ vs ≡ ps ++ (ls ++ vs) = append_assoc ps ls vs in
        keeps (ps ++ ls) (ap are_distinct all ∙ (tidy c s h.stacked fs f items).distinct)
        ∙ ap (λ ns. kept ending.vars (vars_at (slots_of ns) s.slots.here)) all ∙ ap (kept ending.vars) (sym here_are)

    pub data_named : (vars : Variables) → vars ≡ kept ending.vars (vars_left p) → names_of vars ≡ datum_names ending.vars
    data_named vars is = ap names_of is ∙ kept_names ending.vars (vars_left p)

    -- what has ended is the body of this call
    pub ended_data : (values : List ℕ) (p' : Progress) (d : HasReturned c p values p') (o : ℕ × ℕ) → owner_of s ≡ Some o → ending.vars ≡ d.body.vars
    ended_data values p' d o owner =
        let g = popped c s h.stacked fs f items in
        ended_vars ending d.body g.call.actuals d.actuals _ d.caller g.call.rest d.rest o (sym (end_owner c s h.stacked fs f items) ∙ owner)
        (sym d.owner ∙ owner)
        (sym (end_behind c s h.stacked fs f items) ∙ sym (end_left c s h.stacked p.at h.amid (end_there c p h e))
        ∙ sym (end_by_left p.piece (running_of s) p.at s.slots.here e) ∙ d.first)

    -- the caller goes on
    module _ (frames' : Framed) (left : frames'.items ≡ fs) (room : frames'.room ≡ s.frames.room) (slots' : Slotted)
        (away : slots'.away ≡ take (length s.slots.away - f.away) s.slots.away)
        (here : slots'.here ≡ drop (length s.slots.away - f.away) s.slots.away ++ s.slots.here) where
      abbrev pub back : Stack
      back = without_call c s h.stacked fs f items slots' frames' away here left room

      abbrev back_is : IsStacked c back
      back_is = back_stacked c s h.stacked fs f items slots' frames' away here left room

      abbrev caller : Body
      caller = running_of back

      abbrev its : IsCall (system_of s.thread) (lists_of c.code) caller f (popped c s h.stacked fs f items).slots
      its = its_call c s h.stacked fs f items slots' frames' away here left room

      abbrev k : CallAt c back back_is f.at its.place its.first its.outs
      k = caller_call c s h.stacked fs f items slots' frames' away here left room

      same : ending ≡ k.body
      same = same_op c s h.stacked fs f items slots' frames' away here left room

      pub call_there : f.at < length c.code.ins.items
      call_there = slice_get_within c.code.ins.items f.at (ins.Call its.place its.first its.outs) its.call_is

      pub read_call : (x : Ins) → x ≡ get_or c.code.ins.items f.at x → slice_get c.code.ins.items f.at ≡ Some x
      read_call x is' = slice_get_read c.code.ins.items (length c.code.ins.items) f.at x refl call_there is'

      pub is_there : (x : Ins) → slice_get c.code.ins.items f.at ≡ Some x → x ≡ ins.Call its.place its.first its.outs
      is_there x there = same_Some x (ins.Call its.place its.first its.outs) (sym there ∙ its.call_is)

      spare : next_slot (scope_at caller false f.at) < length slots'.here
      spare =
          let n = few (system_of s.thread) back_is.linked.leads (lists_of c.code) (last_by ins.Finish frames'.items)
          (room_by (reserve s.thread) frames'.items) caller (sound_running c back back_is) slots'.here (long_here c back back_is) f.at
          (call_amid c s h.stacked fs f items slots' frames' away here left room).from false (f.at - caller.start) in
          let long = long_here c back back_is in
          omega (arith, n, long)

      shape : Shape caller.names (scope_at caller false f.at)
      shape = shape_at caller.names caller.block (f.at - caller.start) false

      module _ (place first outs : ℕ) (there : slice_get c.code.ins.items f.at ≡ Some (ins.Call place first outs)) (n : ℕ)
          (count : (es : List Expression) → n ≡ length (values_in ending.op.sig.params es)) where
        first_is : its.first ≡ first
        first_is = let e' = is_there (ins.Call place first outs) there in cc

        outs_is : its.outs ≡ outs
        outs_is = let e' = is_there (ins.Call place first outs) there in cc

        pub values_fit : n ≤ 8
        values_fit =
            let e' = count [] in
            let le = values_few ending.op.sig.params [] in
            let most = few_out c s h.stacked fs f items in
            omega (arith, e', le, most)

        behind_values : its.first + length (values_in k.body.op.sig.params k.actuals) ≡ first + n
        behind_values =
            ap (λ j. j + length (values_in k.body.op.sig.params k.actuals)) first_is
            ∙ ap (λ m. first + m) (sym (count k.actuals ∙ ap (λ q. length (values_in q.op.sig.params k.actuals)) same))

        goals_stand : TargetsStand (lists_of c.code) (scope_at caller false f.at) (first + n) (targets k.body.op.sig.params k.actuals)
        goals_stand =
            subst (λ j. TargetsStand (lists_of c.code) (scope_at caller false f.at) j (targets k.body.op.sig.params k.actuals)) behind_values k.stores

        goals_many : length (targets k.body.op.sig.params k.actuals) ≡ outs
        goals_many = sym k.many ∙ outs_is

        pub targets_there : TargetsAt (lists_of c.code) (first + n) outs (length slots'.here)
        targets_there = record {
          scope = scope_at caller false f.at;
          names = targets k.body.op.sig.params k.actuals;
          stand = goals_stand;
          many = goals_many;
          slots = shape.slots;
          room' = spare;
        }

        module _ (values : List ℕ) (slots'' : Slotted) (same_away : slots''.away ≡ slots'.away) (same_long : length slots''.here ≡ length slots'.here)
            (put : (scope : Variables) (ns : List Name) → TargetsStand (lists_of c.code) scope (first + n) ns → length ns ≡ outs
            → slots''.here ≡ set_all (target_slots scope ns) values slots'.here) where
          pub back_after : IsStacked c (record back { slots = slots'' })
          back_after = slots_stacked c back back_is slots'' same_away same_long

          pub behind_amid : IsAmid (running_of (record back { slots = slots'' })).start
              (running_of (record back { slots = slots'' })).block (f.at + 1)
          behind_amid =
              subst (λ q. IsAmid q.start q.block (f.at + 1)) (sym (slots_running c back back_is slots'' same_away same_long)) k.amid_behind

          pub returned : values ≡ reads (out_names ending.op.sig.params) (vars_at (slots_of (op_part ending).names) s.slots.here) → (p' : Progress)
              → GoesOnAt c (record back { slots = slots'' }) (f.at + 1) p' → HasReturned c p values p'
          returned out p' on =
              has_returned c p h e fs f items slots' frames' away here left room slots'' same_away same_long values out
              (put (scope_at caller false f.at) (targets k.body.op.sig.params k.actuals) goals_stand goals_many) p' on

-- the operation whose body ends
pub record EndsOf (p : Progress) : Type 0 where
  pub unit : Name
  pub op : Name
  pub body : OpBody
  pub is_body : IsBodyOf (callee (system_of p.stack.thread) unit op) body
  pub owner : owner_of p.stack ≡ body.owner

pub end_protected : (c : LinkedUnits) (p : Progress) → IsAtWork c p → EndsBody p.piece → EndsOf p
end_protected c p h e =
    let g = last_of p.stack.frames.items (not_bare c p h e) in
    let f = g.1 in
    let k = (popped c p.stack h.stacked g.0 f g.2).call in
    record {
      unit = k.unit;
      op = k.op;
      body = body_of f.body;
      is_body = k.body;
      owner = end_owner c p.stack h.stacked g.0 f g.2;
    }
