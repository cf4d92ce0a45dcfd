-- A task at work whose first piece concerns itself alone, or asks a task: what its methods find there, and what the piece did when they are done.
use Rattle.std.proofs.Common.{◌≡◌, ◌<◌, ◌≤◌, ℕ, ◌+◌, ◌-◌, true, false, List, [], ◌∷◌, Option, Some, None, length, map, set, refl, ap, sym}
use Rattle.std.proofs.Common.{subst, ◌∙◌}
use Rattle.std.specs.Prelude.{◌==◌, slice_get}
use Rattle.std.proofs.lemmas.List.{length-set}
use Rattle.std.proofs.lemmas.Option.{same_Some}
use Rattle.seq_tree.specs.Names.{Name}
use Rattle.seq_tree.specs.Expressions.{Expression}
use Rattle.seq_tree.specs.Runs.{request_value}
use Rattle.seq_tree.specs.Values.{value}
use Rattle.seq_tree.specs.Variables.{Variables}
use Rattle.machine.specs.Systems.{System}
use Rattle.machine.specs.Pieces.{Piece, Calling}
use Rattle.machine.specs.Deeds as deeds
use Rattle.machine.specs.Deeds.{called, deed, done}
use Rattle.law_flat_code.specs.Codes.{block_size}
use Rattle.linker.specs.Slots.{slot_at, vars_at}
use Rattle.linker.specs.declared.nodes.Operand.{Operand}
use Rattle.linker.specs.Callees.{body_of}
use Rattle.linker.specs.Leads as leads
use Rattle.linker.specs.Leads.{Leads}
use Rattle.linker.specs.Standing.{CallStands, Lists, Reads, lists_of}
use Rattle.linker.specs.declared.code.Ins.{Ins}
use Rattle.linker.specs.declared.code.Ins.TheVariants as ins
use Rattle.linker.specs.declared.program.LinkedUnits.{LinkedUnits}
use Rattle.task_runtime.specs.Callable.{op_name}
use Rattle.task_runtime.specs.Written.{data_names, reserve, system_of}
use Rattle.task_runtime.proofs.Shared.Doings.{does-request, request-at}
use Rattle.task_runtime.specs.Bodies.{Body, left_at, scope_at, size_of, vars_here}
use Rattle.task_runtime.specs.Doings.{Passes}
use Rattle.task_runtime.specs.Goings.{Goes, GoesOnAt}
use Rattle.task_runtime.specs.Lefts.{pieces_by, pieces_left, running_of, vars_by, vars_left}
use Rattle.task_runtime.specs.Reserving.{IsInner}
use Rattle.task_runtime.specs.Settling.{IsAmid}
use Rattle.task_runtime.specs.Slotted.{Slotted}
use Rattle.task_runtime.specs.Sounds.{IsAtWork, IsPieceAt, IsSound, IsStacked}
use Rattle.task_runtime.specs.declared.piece.Piece.TheVariants as is
use Rattle.task_runtime.specs.declared.progress.Progress.{Progress}
use Rattle.task_runtime.specs.declared.stack.Stack.{Stack}
use Rattle.task_runtime.proofs.Arrivals.{sound_running}
use Rattle.task_runtime.proofs.Begun.{here_vars, ins_there, left_here}
use Rattle.task_runtime.proofs.Calls.{inner, long_here, system_is}
use Rattle.task_runtime.proofs.Entries.{slots_running, slots_stacked}
use Rattle.task_runtime.proofs.Firsts.{asks, leads_nowhere}
use Rattle.task_runtime.proofs.Owns.{goes_by}
use Rattle.task_runtime.proofs.Stacks.{last_by, room_by}
use Rattle.task_runtime.proofs.Steps.{Steps, as_there, assign_reads, assign_steps, begin_fits, begin_steps, exit_fails, exit_holds, exit_reads}
use Rattle.task_runtime.proofs.Steps.{next_amid}
use Rattle.task_runtime.proofs.Steps.{next_fits, next_left, next_scope, null_steps, put_reads, put_steps, shows_there, target_fits, test_fails}
use Rattle.task_runtime.proofs.Steps.{test_holds, test_reads, turn_counts, turn_leaves, turn_steps, work_steps}

passes_inner : (x : Ins) → Passes x → IsInner x
passes_inner ins.Return k = absurd k
passes_inner ins.Finish k = absurd k
passes_inner ins.Null k = tt
passes_inner (ins.Work ticks) k = tt
passes_inner (ins.Assign slot o) k = tt
passes_inner (ins.Put o) k = tt
passes_inner (ins.Test o other) k = tt
passes_inner (ins.Exit o to) k = tt
passes_inner (ins.Jump to) k = tt
passes_inner (ins.Begin counter low) k = tt
passes_inner (ins.Next counter last start) k = tt
passes_inner (ins.Call place first outs) k = tt
passes_inner (ins.Request task v) k = tt
passes_inner ins.Nowhere k = tt

module _ (c : LinkedUnits) (p : Progress) (h : IsAtWork c p) where
  abbrev s : Stack
  s = p.stack

  abbrev y : System
  y = system_of s.thread

  abbrev t : Lists
  t = lists_of c.code

  abbrev r : Body
  r = running_of s

  abbrev here : List ℕ
  here = s.slots.here

  abbrev lead : Name → Name → Leads
  lead = h.stacked.linked.leads

  abbrev last : Ins
  last = last_by ins.Finish s.frames.items

  abbrev room : ℕ
  room = room_by (reserve s.thread) s.frames.items

  abbrev from : r.start ≤ p.at
  from = h.amid.from

  sound : IsSound y lead t last room r
  sound = sound_running c s h.stacked

  long : size_of r ≤ length here
  long = long_here c s h.stacked

  -- an instruction that is no last one stands before the end of the body
  before_end : (x : Ins) → p.piece ≡ Some (is.Here x) → IsInner x → p.at - r.start < block_size r.block
  before_end x e i = inner c s h.stacked p.at x h.amid (ins_there c p h x e) i

  pub amid_behind : (x : Ins) → p.piece ≡ Some (is.Here x) → IsInner x → IsAmid r.start r.block (p.at + 1)
  amid_behind x e i = next_amid y lead t last room r sound here long p.at from (before_end x e i)

  -- a step that leaves the slots as they are, and one that does not
  same_slots : (x : Ins) → p.piece ≡ Some (is.Here x) → (p' : Progress) (act : deeds.Act) (to : ℕ) → Steps r true p.at here act true to here
      → GoesOnAt c s to p' → Goes c p act p'
  same_slots x e p' act to step on = goes_by c p p' s true to act (left_here p x e) (here_vars p x e) refl refl refl step on

  module _ (slots' : Slotted) (away : slots'.away ≡ s.slots.away) (long' : length slots'.here ≡ length here) where
    abbrev pub after : Stack
    after = record s { slots = slots' }

    same_running : running_of after ≡ r
    same_running = slots_running c s h.stacked slots' away long'

    pub stacked_after : IsStacked c after
    stacked_after = slots_stacked c s h.stacked slots' away long'

    pub amid_after : (to : ℕ) → IsAmid r.start r.block to → IsAmid (running_of after).start (running_of after).block to
    amid_after to amid = subst (λ b. IsAmid b.start b.block to) (sym same_running) amid

    other_slots : (x : Ins) → p.piece ≡ Some (is.Here x) → (p' : Progress) (act : deeds.Act) (to : ℕ) (now : List ℕ) → slots'.here ≡ now
        → Steps r true p.at here act true to now → GoesOnAt c after to p' → Goes c p act p'
    other_slots x e p' act to now put step on =
        goes_by c p p' after true to act (left_here p x e) (here_vars p x e) refl refl same_running
        (subst (Steps r true p.at here act true to) (sym put) step) on

  -- what an operand reads there
  abbrev pub IsRead : Operand → Type 0
  IsRead o = (scope : Variables) × (e : Expression) × Reads t scope o e

  abbrev pub Known : Operand → ℕ → Type 0
  Known o v = (scope : Variables) (e : Expression) → Reads t scope o e → v ≡ value e (vars_at scope here)

  -- an assignment
  module _ (slot : ℕ) (o : Operand) (e : p.piece ≡ Some (is.Here (ins.Assign slot o))) where
    pub assign_read : IsRead o
    assign_read =
        let g = assign_reads y lead t last room r sound here long p.at from slot o (before_end (ins.Assign slot o) e tt)
        (ins_there c p h (ins.Assign slot o) e) in
        (scope_at r false p.at, g.0, g.1)

    pub assign_fits : slot < length here
    assign_fits =
        target_fits y lead t last room r sound here long p.at from slot o (before_end (ins.Assign slot o) e tt) (ins_there c p h
        (ins.Assign slot o) e)

    pub assign_goes : (v : ℕ) → Known o v → (slots' : Slotted) (away : slots'.away ≡ s.slots.away) (put : slots'.here
        ≡ set here slot v) (p' : Progress)
        → GoesOnAt c (record s { slots = slots' }) (p.at + 1) p' → Goes c p deeds.Silent p'
    assign_goes v known slots' away put p' on =
        other_slots slots' away (ap length put ∙ length-set here slot v) (ins.Assign slot o) e p' deeds.Silent (p.at + 1) (set here slot v) put
        (assign_steps y lead t last room r sound here long p.at from slot o v (before_end (ins.Assign slot o) e tt)
        (ins_there c p h (ins.Assign slot o) e) (λ x k. known (scope_at r false p.at) x k)) on

  -- an output
  module _ (o : Operand) (e : p.piece ≡ Some (is.Here (ins.Put o))) where
    pub print_read : IsRead o
    print_read =
        let g = put_reads y lead t last room r sound here long p.at from o (before_end (ins.Put o) e tt) (ins_there c p h (ins.Put o) e) in
        (scope_at r false p.at, g.0, g.1)

    pub print_goes : (v : ℕ) → Known o v → (p' : Progress) → GoesOnAt c s (p.at + 1) p' → Goes c p (deeds.Print v) p'
    print_goes v known p' on =
        same_slots (ins.Put o) e p' (deeds.Print v) (p.at + 1)
        (put_steps y lead t last room r sound here long p.at from o v (before_end (ins.Put o) e tt) (ins_there c p h (ins.Put o) e)
        (λ x k. known (scope_at r false p.at) x k)) on

  -- a condition of an `if`
  module _ (o : Operand) (other : ℕ) (e : p.piece ≡ Some (is.Here (ins.Test o other))) where
    pub test_read : IsRead o
    test_read =
        let g = test_reads y lead t last room r sound here long p.at from o other (before_end (ins.Test o other) e tt)
        (ins_there c p h (ins.Test o other) e) in
        (scope_at r false p.at, g.0, g.1)

    test_on : (v : ℕ) → Known o v → (v == 1) ≡ true → Steps r true p.at here deeds.Silent true (p.at + 1) here
    test_on v known one =
        test_holds y lead t last room r sound here long p.at from o other (before_end (ins.Test o other) e tt) (ins_there c p h (ins.Test o other) e)
        (λ x k. ap (λ w. w == 1) (sym (known (scope_at r false p.at) x k)) ∙ one)

    test_off : (v : ℕ) → Known o v → (v == 1) ≡ false → Steps r true p.at here deeds.Silent true other here
    test_off v known none =
        test_fails y lead t last room r sound here long p.at from o other (before_end (ins.Test o other) e tt) (ins_there c p h (ins.Test o other) e)
        (λ x k. ap (λ w. w == 1) (sym (known (scope_at r false p.at) x k)) ∙ none)

    pub other_amid : (v : ℕ) → Known o v → (v == 1) ≡ false → IsAmid r.start r.block other
    other_amid v known none = (test_off v known none).amid

    pub test_goes_on : (v : ℕ) → Known o v → (v == 1) ≡ true → (p' : Progress) → GoesOnAt c s (p.at + 1) p' → Goes c p deeds.Silent p'
    test_goes_on v known one p' on = same_slots (ins.Test o other) e p' deeds.Silent (p.at + 1) (test_on v known one) on

    pub test_goes_past : (v : ℕ) → Known o v → (v == 1) ≡ false → (p' : Progress) → GoesOnAt c s other p' → Goes c p deeds.Silent p'
    test_goes_past v known none p' on = same_slots (ins.Test o other) e p' deeds.Silent other (test_off v known none) on

  -- an `exit when`
  module _ (o : Operand) (to : ℕ) (e : p.piece ≡ Some (is.Here (ins.Exit o to))) where
    pub exit_read : IsRead o
    exit_read =
        let g = exit_reads y lead t last room r sound here long p.at from o to (before_end (ins.Exit o to) e tt) (ins_there c p h
        (ins.Exit o to) e) in
        (scope_at r false p.at, g.0, g.1)

    exit_on : (v : ℕ) → Known o v → (v == 1) ≡ true → Steps r true p.at here deeds.Silent true to here
    exit_on v known one =
        exit_holds y lead t last room r sound here long p.at from o to (before_end (ins.Exit o to) e tt) (ins_there c p h (ins.Exit o to) e)
        (λ x k. ap (λ w. w == 1) (sym (known (scope_at r false p.at) x k)) ∙ one)

    exit_off : (v : ℕ) → Known o v → (v == 1) ≡ false → Steps r true p.at here deeds.Silent true (p.at + 1) here
    exit_off v known none =
        exit_fails y lead t last room r sound here long p.at from o to (before_end (ins.Exit o to) e tt) (ins_there c p h (ins.Exit o to) e)
        (λ x k. ap (λ w. w == 1) (sym (known (scope_at r false p.at) x k)) ∙ none)

    pub exit_amid : (v : ℕ) → Known o v → (v == 1) ≡ true → IsAmid r.start r.block to
    exit_amid v known one = (exit_on v known one).amid

    pub exit_goes_out : (v : ℕ) → Known o v → (v == 1) ≡ true → (p' : Progress) → GoesOnAt c s to p' → Goes c p deeds.Silent p'
    exit_goes_out v known one p' on = same_slots (ins.Exit o to) e p' deeds.Silent to (exit_on v known one) on

    pub exit_goes_on : (v : ℕ) → Known o v → (v == 1) ≡ false → (p' : Progress) → GoesOnAt c s (p.at + 1) p' → Goes c p deeds.Silent p'
    exit_goes_on v known none p' on = same_slots (ins.Exit o to) e p' deeds.Silent (p.at + 1) (exit_off v known none) on

  -- the first turn of a loop
  module _ (counter low : ℕ) (e : p.piece ≡ Some (is.Here (ins.Begin counter low))) where
    pub first_fits : counter + 1 < length here
    first_fits =
        begin_fits y lead t last room r sound here long p.at from counter low (before_end (ins.Begin counter low) e tt)
        (ins_there c p h (ins.Begin counter low) e)

    pub first_long : length (set (set here counter low) (counter + 1) low) ≡ length here
    first_long = length-set (set here counter low) (counter + 1) low ∙ length-set here counter low

    pub first_goes : (slots' : Slotted) (away : slots'.away ≡ s.slots.away) (put : slots'.here ≡ set (set here counter low) (counter + 1) low)
        (p' : Progress) → GoesOnAt c (record s { slots = slots' }) (p.at + 1) p' → Goes c p deeds.Silent p'
    first_goes slots' away put p' on =
        other_slots slots' away (ap length put ∙ first_long) (ins.Begin counter low) e p' deeds.Silent (p.at + 1)
        (set (set here counter low) (counter + 1) low) put
        (begin_steps y lead t last room r sound here long p.at from counter low (before_end (ins.Begin counter low) e tt)
        (ins_there c p h (ins.Begin counter low) e)) on

  -- the next turn, which was counted
  module _ (counter start : ℕ) (e : p.piece ≡ Some (is.Turn counter start)) where
    turn_there : IsPieceAt t s p.at (Some (is.Turn counter start))
    turn_there = subst (IsPieceAt t s p.at) e h.piece

    turn_inner : p.at - r.start < block_size r.block
    turn_inner = inner c s h.stacked p.at (ins.Next counter turn_there.0 start) h.amid turn_there.1 tt

    pub turn_fits : counter + 1 < length here
    turn_fits = next_fits y lead t last room r sound here long p.at from false counter turn_there.0 start turn_inner turn_there.1

    turn_step : Steps r false p.at here deeds.Silent true start (set here (counter + 1) (slot_at here counter))
    turn_step = turn_steps y lead t last room r sound here long p.at from counter turn_there.0 start turn_inner turn_there.1

    pub turn_amid : IsAmid r.start r.block start
    turn_amid = turn_step.amid

    pub turn_goes : (slots' : Slotted) (away : slots'.away ≡ s.slots.away) (put : slots'.here ≡ set here (counter + 1) (slot_at here counter))
        (p' : Progress) → GoesOnAt c (record s { slots = slots' }) start p' → Goes c p deeds.Silent p'
    turn_goes slots' away put p' on =
        goes_by c p p' (record s { slots = slots' }) false start deeds.Silent (ap (λ q. pieces_by q r p.at here) e)
        (ap (λ q. vars_by q (data_names s.thread) r p.at here) e) refl refl
        (same_running slots' away (ap length put ∙ length-set here (counter + 1) (slot_at here counter)))
        (subst (Steps r false p.at here deeds.Silent true start) (sym put) turn_step) on

  -- the end of a turn
  module _ (counter last' start : ℕ) (e : p.piece ≡ Some (is.Here (ins.Next counter last' start))) where
    next_there : slice_get t.ins p.at ≡ Some (ins.Next counter last' start)
    next_there = ins_there c p h (ins.Next counter last' start) e

    next_inner : p.at - r.start < block_size r.block
    next_inner = before_end (ins.Next counter last' start) e tt

    pub count_fits : counter + 1 < length here
    count_fits = next_fits y lead t last room r sound here long p.at from true counter last' start next_inner next_there

    pub counts_goes : slot_at here counter < last' → (slots' : Slotted) (away : slots'.away ≡ s.slots.away)
        (put : slots'.here ≡ set here counter (slot_at here counter + 1))
        → Goes c p deeds.Silent (record { stack = record s { slots = slots' }; at = p.at; piece = Some (is.Turn counter start) })
    counts_goes more slots' away put =
        let long' = ap length put ∙ length-set here counter (slot_at here counter + 1) in
        let step : Steps r true p.at here deeds.Silent false p.at slots'.here =
        subst (Steps r true p.at here deeds.Silent false p.at) (sym put)
        (turn_counts y lead t last room r sound here long p.at from counter last' start next_inner next_there more) in
        record {
          at_work = record {
            stacked = stacked_after slots' away long';
            amid = amid_after slots' away long' p.at h.amid;
            piece = (last', next_there);
          };
          thread = refl;
          room = refl;
          does = record {
            piece = step.piece;
            rest = step.rest;
            first = left_here p (ins.Next counter last' start) e ∙ step.first;
            does = λ z alike. ap (λ vs. done z step.piece vs step.rest) (here_vars p (ins.Next counter last' start) e) ∙ step.does z
                ∙ ap (λ b. deed deeds.Silent (vars_here b false p.at slots'.here) (left_at b false p.at slots'.here))
                (sym (same_running slots' away long'));
          };
        }

    pub leaves_goes : last' ≤ slot_at here counter → (p' : Progress) → GoesOnAt c s (p.at + 1) p' → Goes c p deeds.Silent p'
    leaves_goes none p' on =
        same_slots (ins.Next counter last' start) e p' deeds.Silent (p.at + 1)
        (turn_leaves y lead t last room r sound here long p.at from counter last' start next_inner next_there none) on

  -- behind a call that begins no body, the variables are the same
  module _ (x : Ins) (e : p.piece ≡ Some (is.Here x)) (i : IsInner x) (unit op : Name) (actuals : List Expression)
      (first : left_at r true p.at here ≡ Calling unit op actuals ∷ left_at r true (p.at + 1) here)
      (shown : scope_at r true p.at ≡ scope_at r false p.at) (behind : scope_at r true (p.at + 1) ≡ scope_at r false p.at) where
    abbrev rest : List Piece
    rest = left_at r true (p.at + 1) here

    call_first : pieces_left p ≡ Calling unit op actuals ∷ rest
    call_first = left_here p x e ∙ first

    call_vars : vars_here r true (p.at + 1) here ≡ vars_left p
    call_vars = ap (λ k. vars_at k here) (behind ∙ sym shown) ∙ sym (here_vars p x e)

  -- a call that leads nowhere
  pub nowhere_goes : p.piece ≡ Some (is.Here ins.Nowhere) → (p' : Progress) → GoesOnAt c s (p.at + 1) p' → Goes c p deeds.Silent p'
  nowhere_goes e p' on =
      let lt = before_end ins.Nowhere e tt in
      let there = ins_there c p h ins.Nowhere e in
      let g = as_there y lead t last room r sound here long p.at from true lt ins.Nowhere there in
      let first = g.3.0 ∙ ap (λ ps. Calling g.0 g.1 g.2 ∷ ps) (next_left y lead t last room r sound here long p.at from lt) in
      let shown = shows_there y lead t last room r sound here long p.at from lt ins.Nowhere there in
      let behind = sym (next_scope y lead t last room r sound here long p.at from lt) ∙ g.3.1 in
      let is' = leads_nowhere y (map body_of c.ops.items) t (scope_at r false p.at) g.0 g.1 g.2 (lead g.0 g.1) g.4
      (h.stacked.linked.calls y (system_is s.thread) g.0 g.1) in
      let after' = left_at r true (p.at + 1) here in
      let vars = call_vars ins.Nowhere e tt g.0 g.1 g.2 first shown behind in record {
        at_work = on.at_work;
        thread = ap (λ k. k.thread) on.stack;
        room = ap (λ k. k.frames.room) on.stack;
        does = record {
          piece = Calling g.0 g.1 g.2;
          rest = after';
          first = call_first ins.Nowhere e tt g.0 g.1 g.2 first shown behind;
          does = λ z alike. ap (λ k. called k g.2 (vars_left p) after') (alike g.0 g.1 ∙ is')
              ∙ ap (λ vs. deed deeds.Silent vs after') (sym vars ∙ sym on.vars) ∙ ap (λ ps. deed deeds.Silent (vars_left p') ps) (sym on.pieces);
        };
      }

  -- an instruction that passes
  pub pass_amid : (x : Ins) → p.piece ≡ Some (is.Here x) → Passes x → IsAmid r.start r.block (p.at + 1)
  pass_amid x e k = amid_behind x e (passes_inner x k)

  pub pass_goes : (x : Ins) → p.piece ≡ Some (is.Here x) → Passes x → (p' : Progress) → GoesOnAt c s (p.at + 1) p' → Goes c p deeds.Silent p'
  pass_goes ins.Null e k p' on =
      same_slots ins.Null e p' deeds.Silent (p.at + 1)
      (null_steps y lead t last room r sound here long p.at from (before_end ins.Null e tt) (ins_there c p h ins.Null e)) on
  pass_goes (ins.Work ticks) e k p' on =
      same_slots (ins.Work ticks) e p' deeds.Silent (p.at + 1)
      (work_steps y lead t last room r sound here long p.at from ticks (before_end (ins.Work ticks) e tt) (ins_there c p h (ins.Work ticks) e)) on
  pass_goes ins.Nowhere e k p' on = nowhere_goes e p' on
  pass_goes (ins.Assign slot o) e k p' on = absurd k
  pass_goes (ins.Put o) e k p' on = absurd k
  pass_goes (ins.Test o other) e k p' on = absurd k
  pass_goes (ins.Exit o to) e k p' on = absurd k
  pass_goes (ins.Jump to) e k p' on = absurd k
  pass_goes (ins.Begin counter low) e k p' on = absurd k
  pass_goes (ins.Next counter last' start) e k p' on = absurd k
  pass_goes (ins.Call place first outs) e k p' on = absurd k
  pass_goes (ins.Request task v) e k p' on = absurd k
  pass_goes ins.Return e k p' on = absurd k
  pass_goes ins.Finish e k p' on = absurd k

  -- the value of a request
  abbrev pub IsGiven : Option Operand → Option ℕ → Type 0
  IsGiven None w = w ≡ None
  IsGiven (Some o) w = (n : ℕ) × (w ≡ Some n) × Known o n

  module _ (task : ℕ) (v : Option Operand) (scope : Variables) where
    no_body : (a b d : ℕ) → ins.Request task v ≡ ins.Call a b d → ⊥
    no_body a b d k = cc

    no_nowhere : ins.Request task v ≡ ins.Nowhere → ⊥
    no_nowhere k = cc

    operand_is : (j : ℕ) (w : Option Operand) → ins.Request task v ≡ ins.Request j w → v ≡ w
    operand_is j w k = cc

    request_reads : (l : Leads) (es : List Expression) → CallStands t scope l es (Some (ins.Request task v)) → (o : Operand) → v ≡ Some o → IsRead o
    request_reads (leads.Body place params) es k o is' = absurd (no_body place k.0 _ (same_Some _ _ k.1))
    request_reads (leads.Request j) [] k o is' = absurd (none_some o (sym (operand_is j None (same_Some _ _ k)) ∙ is'))
      where
        none_some : (z : Operand) → None ≡ Some z → ⊥
        none_some z q = cc
    request_reads (leads.Request j) (e ∷ es) k o is' =
        (scope, e, subst (λ z. Reads t scope z e) (same_Some k.0 o (sym (operand_is j (Some k.0) (same_Some _ _ k.1)) ∙ is')) k.2)
    request_reads leads.Nowhere es k o is' = absurd (no_nowhere (same_Some _ _ k))

    request_is : (l : Leads) (es : List Expression) → CallStands t scope l es (Some (ins.Request task v)) → (w : Option ℕ) → IsGiven v w
        → w ≡ request_value es (vars_at scope here)
    request_is (leads.Body place params) es k w given = absurd (no_body place k.0 _ (same_Some _ _ k.1))
    request_is (leads.Request j) [] k w given = subst (λ z. IsGiven z w) (operand_is j None (same_Some _ _ k)) given
    request_is (leads.Request j) (e ∷ es) k w given =
        let g = subst (λ z. IsGiven z w) (operand_is j (Some k.0) (same_Some _ _ k.1)) given in
        g.1 ∙ ap Some (g.2 scope e k.2)
    request_is leads.Nowhere es k w given = absurd (no_nowhere (same_Some _ _ k))

  -- the request of a task
  module _ (task : ℕ) (v : Option Operand) (e : p.piece ≡ Some (is.Here (ins.Request task v))) where
    abbrev x : Ins
    x = ins.Request task v

    lt : p.at - r.start < block_size r.block
    lt = before_end x e tt

    abbrev call : Type 0
    call = (unit : Name) × (op : Name) × (actuals : List Expression)
        × (left_at r true p.at here ≡ Calling unit op actuals ∷ left_at r true (p.at + 1) here)
        × (scope_at r true (p.at + 1) ≡ scope_at r false p.at) × CallStands t (scope_at r false p.at) (lead unit op) actuals (Some x)

    the_call : call
    the_call =
        let g = as_there y lead t last room r sound here long p.at from true lt x (ins_there c p h x e) in (
          g.0,
          g.1,
          g.2,
          g.3.0 ∙ ap (λ ps. Calling g.0 g.1 g.2 ∷ ps) (next_left y lead t last room r sound here long p.at from lt),
          sym (next_scope y lead t last room r sound here long p.at from lt) ∙ g.3.1,
          g.4,
        )

    pub ask_read : (o : Operand) → v ≡ Some o → IsRead o
    ask_read o is' = request_reads task v (scope_at r false p.at) (lead the_call.0 the_call.1) the_call.2 the_call.5 o is'

    pub ask_goes : (w : Option ℕ) → IsGiven v w
        → Goes c p (deeds.Ask task) (record { stack = s; at = p.at + 1; piece = Some (is.Keep (record { task = task; value = w })) })
    ask_goes w given =
        let k = the_call in
        let shown = shows_there y lead t last room r sound here long p.at from lt x (ins_there c p h x e) in
        let is' = asks c y (map body_of c.ops.items) t (scope_at r false p.at) k.0 k.1 k.2 (lead k.0 k.1) task v k.5
        (h.stacked.linked.calls y (system_is s.thread) k.0 k.1) in
        let vars = call_vars x e tt k.0 k.1 k.2 k.3 shown k.4 in
        let value' : w ≡ request_value k.2 (vars_left p) =
        request_is task v (scope_at r false p.at) (lead k.0 k.1) k.2 k.5 w given
        ∙ ap (request_value k.2) (sym (here_vars p x e ∙ ap (λ z. vars_at z here) shown)) in
        let after' = left_at r true (p.at + 1) here in record {
          at_work = record { stacked = h.stacked; amid = amid_behind x e tt; piece = request-at y (op_name k.0 k.1) task is' };
          thread = refl;
          room = refl;
          does = record {
            piece = Calling k.0 k.1 k.2;
            rest = after';
            first = call_first x e tt k.0 k.1 k.2 k.3 shown k.4;
            does = does-request y k.0 k.1 k.2 (vars_left p) after' task (vars_here r true (p.at + 1) here) _ is' vars
                (ap (λ z. pieces_by (Some (is.Keep (record { task = task; value = z }))) r (p.at + 1) here) value');
          };
        }
