-- The first piece that a task has left, by the piece that it has in code.
use Rattle.std.proofs.Common.{◌≡◌, ◌⊎◌, inl, inr, ◌<◌, ◌≤◌, ℕ, suc, ◌+◌, ◌-◌, Bool, true, false, List, [], ◌∷◌, ◌++◌, Option, Some, None, length}
use Rattle.std.proofs.Common.{map, refl, ap, sym, subst, ◌∙◌, arith}
use Rattle.std.specs.Prelude.{drop, if◌then◌else◌, slice_get}
use Rattle.std.proofs.lemmas.Option.{same_Some}
use Rattle.seq_tree.specs.Names.{Name}
use Rattle.seq_tree.specs.Expressions.{Expression}
use Rattle.seq_tree.specs.Statements.{Branches, Statements}
use Rattle.seq_tree.specs.Operations.{out_names}
use Rattle.seq_tree.specs.Variables.{Variables, targets}
use Rattle.seq_tree.specs.declared.tree.Datum.{Datum}
use Rattle.machine.specs.Systems.{System, callee}
use Rattle.machine.specs.Systems as to
use Rattle.machine.specs.Pieces as pieces
use Rattle.machine.specs.Pieces.{Piece, after_loop}
use Rattle.law_flat_code.specs.Codes.{block_size}
use Rattle.law_flat_code.specs.Following.{LeftAt}
use Rattle.law_flat_code.specs.Withins.{within}
use Rattle.law_flat_code.proofs.Shared.Ends.{block_ends}
use Rattle.linker.specs.declared.nodes.Operand.{Operand}
use Rattle.linker.specs.Callees.{OpBody, body_of}
use Rattle.linker.specs.Leads as leads
use Rattle.linker.specs.Leads.{Leads}
use Rattle.linker.specs.Callees.{IsLed}
use Rattle.linker.specs.Scopes.{slots_of}
use Rattle.linker.specs.Standing.{CallStands, Lists, lists_of}
use Rattle.linker.specs.declared.code.Ins.{Ins}
use Rattle.linker.specs.declared.code.Ins.TheVariants as ins
use Rattle.linker.specs.declared.program.LinkedUnits.{LinkedUnits}
use Rattle.task_runtime.specs.Effort.{sections_among}
use Rattle.task_runtime.specs.Written.{reserve, system_of}
use Rattle.task_runtime.specs.Bodies.{Body, behind_call, ended, ended_by, first_body, into, left_at, running, scope_at, turn_at, vars_here}
use Rattle.task_runtime.specs.Doings.{owner_at}
use Rattle.task_runtime.specs.Lefts.{pieces_by, pieces_left, running_of}
use Rattle.task_runtime.specs.Sounds.{AreSound, IsAtWork, IsBodyOf, IsPieceAt, IsSound, IsStacked, owner_by, owner_of}
use Rattle.task_runtime.specs.declared.piece.Frame.{Frame}
use Rattle.task_runtime.specs.declared.piece.Piece as piece
use Rattle.task_runtime.specs.declared.piece.Piece.TheVariants as is
use Rattle.task_runtime.specs.declared.progress.Progress.{Progress}
use Rattle.task_runtime.specs.declared.stack.Stack.{Stack}
use Rattle.task_runtime.proofs.Arrivals.{sound_running}
use Rattle.task_runtime.proofs.Begun.{the_call}
use Rattle.task_runtime.proofs.Calls.{inner, long_here, system_is}
use Rattle.task_runtime.proofs.Efforts.{sections_within}
use Rattle.task_runtime.proofs.Heads.{Head, head_at, slots_long}
use Rattle.task_runtime.proofs.Returns.{end_left, some_call}
use Rattle.task_runtime.proofs.Stacks.{last_by, owner_pushed, room_by, running_pushed, sound_popped}
use Rattle.task_runtime.proofs.Orders.{order}
use Rattle.task_runtime.proofs.Steps.{As, as_there, shows_there, view}

-- what the first piece is, with the pieces behind it
abbrev pub StandsFor : LinkedUnits → Stack → piece.Piece → Piece → List Piece → Type 0
StandsFor c s (is.Here ins.Null) m rest = m ≡ pieces.Idle
StandsFor c s (is.Here (ins.Work ticks)) m rest = (m ≡ pieces.Working ticks) × (0 < ticks)
StandsFor c s (is.Here (ins.Assign slot v)) m rest = (target : Name) × (e : Expression) × (m ≡ pieces.Store target e)
StandsFor c s (is.Here (ins.Put v)) m rest = (e : Expression) × (m ≡ pieces.Printing e)
StandsFor c s (is.Here (ins.Test v other)) m rest =
    (e : Expression) × (block : Statements) × (others : Branches) × (m ≡ pieces.Testing e block others)
StandsFor c s (is.Here (ins.Exit v to)) m rest = (e : Expression) × (m ≡ pieces.Leaving e) × (sections_among (after_loop rest) ≡ sections_among rest)
StandsFor c s (is.Here (ins.Jump to)) m rest = ⊥
StandsFor c s (is.Here (ins.Begin counter low)) m rest =
    (name : Name) × (at : ℕ) × (last : ℕ) × (body : Statements) × (m ≡ pieces.Turning name at last body)
StandsFor c s (is.Here (ins.Next counter last start)) m rest =
    (name : Name) × (at : ℕ) × (last' : ℕ) × (body : Statements) × (m ≡ pieces.Turned name at last' body)
StandsFor c s (is.Here (ins.Call place first outs)) m rest =
    (unit : Name) × (op : Name) × (actuals : List Expression) × (b : OpBody) × (m ≡ pieces.Calling unit op actuals)
    × IsBodyOf (callee (system_of s.thread) unit op) b × (owner_at c place ≡ Some b)
StandsFor c s (is.Here (ins.Request task v)) m rest =
    (unit : Name) × (op : Name) × (actuals : List Expression) × (m ≡ pieces.Calling unit op actuals)
    × (callee (system_of s.thread) unit op ≡ to.Request task)
StandsFor c s (is.Here ins.Nowhere) m rest =
    (unit : Name) × (op : Name) × (actuals : List Expression) × (m ≡ pieces.Calling unit op actuals)
    × (callee (system_of s.thread) unit op ≡ to.Unknown)
StandsFor c s (is.Here ins.Return) m rest =
    (outs : List Name) × (stores : List Name) × (caller : Variables) × (m ≡ pieces.Returning outs stores caller)
StandsFor c s (is.Here ins.Finish) m rest = (m ≡ pieces.Finishing) × (rest ≡ [])
StandsFor c s (is.Turn counter start) m rest =
    (name : Name) × (at : ℕ) × (last : ℕ) × (body : Statements) × (m ≡ pieces.Turning name at last body)
StandsFor c s is.Close m rest =
    (object : ℕ) × (op : ℕ) × (vars : List Datum) × (outs : List Name) × (stores : List Name) × (caller : Variables)
    × (m ≡ pieces.Closing object op vars outs stores caller) × (owner_of s ≡ Some (object, op))
StandsFor c s (is.Keep q) m rest = (m ≡ pieces.Keeping q.task q.value) × (q.task < length (system_of s.thread).threads)
StandsFor c s (is.Open q) m rest = (m ≡ pieces.Opening q.task) × (q.task < length (system_of s.thread).threads)
StandsFor c s (is.Requested q) m rest = (m ≡ pieces.Requested q.task q.value) × (q.task < length (system_of s.thread).threads)

pub record First (c : LinkedUnits) (p : Progress) (q : piece.Piece) : Type 0 where
  pub piece : Piece
  pub rest : List Piece
  pub first : pieces_left p ≡ piece ∷ rest
  pub stands : StandsFor c p.stack q piece rest

-- a call that is no body's
pub asks : (c : LinkedUnits) (y : System) (bodies' : List OpBody) (t : Lists) (scope : Variables) (unit op : Name) (actuals : List Expression)
    (l : Leads) (task : ℕ) (v : Option Operand) → CallStands t scope l actuals (Some (ins.Request task v)) → IsLed bodies' (callee y unit op) l
    → callee y unit op ≡ to.Request task
asks c y bodies' t scope unit op actuals l task v h led = by l actuals h (callee y unit op) led
  where
    no_call : (a b d : ℕ) → ins.Request task v ≡ ins.Call a b d → ⊥
    no_call a b d e = cc

    no_nowhere : ins.Request task v ≡ ins.Nowhere → ⊥
    no_nowhere e = cc

    task_is : (k : ℕ) (w : Option Operand) → ins.Request task v ≡ ins.Request k w → k ≡ task
    task_is k w e = cc

    leads_is : (k j : ℕ) → leads.Request k ≡ leads.Request j → j ≡ k
    leads_is k j e = cc

    no_body : (k j : ℕ) (ps : List _) → leads.Request k ≡ leads.Body j ps → ⊥
    no_body k j ps e = cc

    no_none : (k : ℕ) → leads.Request k ≡ leads.Nowhere → ⊥
    no_none k e = cc

    target : (k : ℕ) (z : to.CallTarget) → IsLed bodies' z (leads.Request k) → z ≡ to.Request k
    target k (to.Plain o) g = absurd (no_body k g.0 _ g.1)
    target k (to.Protected object place g o) i = absurd (no_body k i.0 _ i.1)
    target k (to.Request j) g = ap to.Request (leads_is k j g)
    target k to.Unknown g = absurd (no_none k g)

    by : (l : Leads) (as' : List Expression) → CallStands t scope l as' (Some (ins.Request task v)) → (z : to.CallTarget) → IsLed bodies' z l
        → z ≡ to.Request task
    by (leads.Body place params) as' g z i = absurd (no_call place g.0 _ (same_Some _ _ g.1))
    by (leads.Request k) [] g z i = target k z i ∙ ap to.Request (task_is k None (same_Some _ _ g))
    by (leads.Request k) (e ∷ es) g z i = target k z i ∙ ap to.Request (task_is k (Some g.0) (same_Some _ _ g.1))
    by leads.Nowhere as' g z i = absurd (no_nowhere (same_Some _ _ g))

pub leads_nowhere : (y : System) (bodies' : List OpBody) (t : Lists) (scope : Variables) (unit op : Name) (actuals : List Expression)
    (l : Leads) → CallStands t scope l actuals (Some ins.Nowhere) → IsLed bodies' (callee y unit op) l → callee y unit op ≡ to.Unknown
leads_nowhere y bodies' t scope unit op actuals l h led = by l actuals h (callee y unit op) led
  where
    no_call : (a b d : ℕ) → ins.Nowhere ≡ ins.Call a b d → ⊥
    no_call a b d e = cc

    no_request : (k : ℕ) (w : Option Operand) → ins.Nowhere ≡ ins.Request k w → ⊥
    no_request k w e = cc

    no_body : (j : ℕ) (ps : List _) → leads.Nowhere ≡ leads.Body j ps → ⊥
    no_body j ps e = cc

    no_ask : (k : ℕ) → leads.Nowhere ≡ leads.Request k → ⊥
    no_ask k e = cc

    target : (z : to.CallTarget) → IsLed bodies' z leads.Nowhere → z ≡ to.Unknown
    target (to.Plain o) g = absurd (no_body g.0 _ g.1)
    target (to.Protected object place g o) i = absurd (no_body i.0 _ i.1)
    target (to.Request j) g = absurd (no_ask j g)
    target to.Unknown g = refl

    by : (l : Leads) (as' : List Expression) → CallStands t scope l as' (Some ins.Nowhere) → (z : to.CallTarget) → IsLed bodies' z l
        → z ≡ to.Unknown
    by (leads.Body place params) as' g z i = absurd (no_call place g.0 _ (same_Some _ _ g.1))
    by (leads.Request k) [] g z i = absurd (no_request k None (same_Some _ _ g))
    by (leads.Request k) (e ∷ es) g z i = absurd (no_request k (Some g.0) (same_Some _ _ g.1))
    by leads.Nowhere as' g z i = target z i

-- frames that are there have a last one
last_behind : {A : Type 0} (x : A) (xs : List A) → (ys : List A) × (y : A) × (x ∷ xs ≡ ys ++ y ∷ [])
last_behind x [] = ([], x, refl)
last_behind x (y ∷ xs) = let h = last_behind y xs in (x ∷ h.0, h.1, ap (λ zs. x ∷ zs) h.2)

pub last_of : {A : Type 0} (xs : List A) → (xs ≡ [] → ⊥) → (ys : List A) × (y : A) × (xs ≡ ys ++ y ∷ [])
last_of [] not = absurd (not refl)
last_of (x ∷ xs) not = last_behind x xs

-- what is behind the body of the innermost call
pub record Behind (s : Stack) : Type 0 where
  pub body : OpBody
  pub actuals : List Expression
  pub caller : Variables
  pub rest : List Piece
  pub behind : (running_of s).behind ≡ ended body actuals caller ∷ rest
  pub owner : owner_of s ≡ body.owner

pub behind_of : (c : LinkedUnits) (s : Stack) (h : IsStacked c s) (fs : List Frame) (f : Frame) → s.frames.items ≡ fs ++ f ∷ [] → Behind s
behind_of c s h fs f items =
    let y = system_of s.thread in
    let t = lists_of c.code in
    let first = first_body s.thread s.start in
    let p = sound_popped y h.linked.leads t ins.Finish (reserve s.thread) first fs f s.slots.away
    (subst (λ gs. AreSound y h.linked.leads t ins.Finish (reserve s.thread) first gs s.slots.away) items h.sound) in
    let caller = running first fs p.before in
    let is' : running_of s ≡ into caller f p.slots =
    ap (λ gs. running first gs s.slots.away) items ∙ ap (running first (fs ++ f ∷ [])) p.parts
    ∙ running_pushed y h.linked.leads t ins.Finish (reserve s.thread) first fs f p.before p.slots p.sound p.call.long in
    record {
      body = body_of f.body;
      actuals = p.call.actuals;
      caller = vars_here caller true f.at p.slots;
      rest = p.call.rest;
      behind = ap (λ b. b.behind) is' ∙ ap (behind_call (body_of f.body) (vars_here caller true f.at p.slots)) p.call.calls;
      owner = ap (owner_by None) items ∙ owner_pushed None fs f;
    }

last_finish : (fs : List Frame) → last_by ins.Finish fs ≡ ins.Finish → fs ≡ []
last_finish [] e = refl
last_finish (f ∷ fs) e = absurd (no (sym (returns fs) ∙ e))
  where
    returns : (gs : List Frame) → last_by ins.Return gs ≡ ins.Return
    returns [] = refl
    returns (g ∷ gs) = returns gs

    no : ins.Return ≡ ins.Finish → ⊥
    no k = cc

module _ (c : LinkedUnits) (p : Progress) (h : IsAtWork c p) where
  abbrev s : Stack
  s = p.stack

  abbrev r : Body
  r = running_of s

  abbrev here : List ℕ
  here = s.slots.here

  abbrev y : System
  y = system_of s.thread

  abbrev t : Lists
  t = lists_of c.code

  abbrev last : Ins
  last = last_by ins.Finish s.frames.items

  abbrev room : ℕ
  room = room_by (reserve s.thread) s.frames.items

  abbrev n : ℕ
  n = p.at - r.start

  sound : IsSound y h.stacked.linked.leads t last room r
  sound = sound_running c s h.stacked

  -- what is behind the instruction
  abbrev rest : List Piece
  rest = within r.block (suc n) true 0 (turn_at r.names here) r.behind

  as_at : (open' : Bool) (lt : n < block_size r.block) (x : Ins) → slice_get t.ins p.at ≡ Some x
      → As y h.stacked.linked.leads t last room r sound here (long_here c s h.stacked) p.at h.amid.from open' lt x
  as_at open' lt x e = as_there y h.stacked.linked.leads t last room r sound here (long_here c s h.stacked) p.at h.amid.from open' lt x e

  loop_left : (v : Operand) (to' : ℕ) (lt : n < block_size r.block) → slice_get t.ins p.at ≡ Some (ins.Exit v to')
      → sections_among (after_loop rest) ≡ sections_among rest
  loop_left v to' lt e = by f.1.1
    where
      f : As y h.stacked.linked.leads t last room r sound here (long_here c s h.stacked) p.at h.amid.from true lt (ins.Exit v to')
      f = as_at true lt (ins.Exit v to') e

      shown : scope_at r true p.at ≡ scope_at r false p.at
      shown = shows_there y h.stacked.linked.leads t last room r sound here (long_here c s h.stacked) p.at h.amid.from lt (ins.Exit v to') e

      inside_loop : length r.names < length (scope_at r true p.at)
      inside_loop = subst (Head y r.chain (length r.names) (scope_at r true p.at)) f.1.0.0
          (head_at y h.stacked.linked.leads t last room r sound true p.at here)

      by : LeftAt (view y h.stacked.linked.leads t last room r sound here (long_here c s h.stacked) p.at h.amid.from)
          (block_size r.block) r.start to' (turn_at r.names here) (after_loop rest) (drop 1 (scope_at r false p.at))
          ⊎ ((to' ≡ 0) × (after_loop rest ≡ after_loop r.behind) × (scope_at r false p.at ≡ slots_of r.names))
          → sections_among (after_loop rest) ≡ sections_among rest
      by (inl l) =
          ap sections_among l.pieces' ∙ sections_within r.block l.at true 0 (turn_at r.names here) r.behind
          ∙ sym (sections_within r.block (suc n) true 0 (turn_at r.names here) r.behind)
      by (inr k) =
          let e' = ap length (shown ∙ k.2) in
          let g = slots_long r.names in
          let more = inside_loop in
          absurd (omega (arith, e', g, more))

  -- an instruction as a piece
  first_here : (x : Ins) → p.piece ≡ Some (is.Here x) → First c p (is.Here x)
  first_here x e = by x e (subst (IsPieceAt t s p.at) e h.piece)
    where
      left : (z : Ins) → p.piece ≡ Some (is.Here z) → pieces_left p ≡ left_at r true p.at here
      left z k = ap (λ q. pieces_by q r p.at here) k

      end_of : (o : Option (ℕ × ℕ)) → owner_of s ≡ o → p.piece ≡ Some (is.Here ins.Return)
          → slice_get t.ins p.at ≡ Some ins.Return → o ≡ None → First c p (is.Here ins.Return)
      end_of o is' k there none =
          let g = last_of s.frames.items (some_call c s h.stacked p.at h.amid there) in
          let b = behind_of c s h.stacked g.0 g.1 g.2 in
          record {
            piece = ended_by None b.body.vars b.body.op b.actuals b.caller;
            rest = b.rest;
            first = left ins.Return k ∙ end_left c s h.stacked p.at h.amid there ∙ b.behind
                ∙ ap (λ w. ended_by w b.body.vars b.body.op b.actuals b.caller ∷ b.rest) (sym b.owner ∙ is' ∙ none);
            stands = (out_names b.body.op.sig.params, targets b.body.op.sig.params b.actuals, b.caller, refl);
          }

      finish_of : p.piece ≡ Some (is.Here ins.Finish) → slice_get t.ins p.at ≡ Some ins.Finish → First c p (is.Here ins.Finish)
      finish_of k there = on (order n (block_size r.block))
        where
          on : (n < block_size r.block) ⊎ (block_size r.block ≤ n) → First c p (is.Here ins.Finish)
          on (inl lt) = absurd (as_at true lt ins.Finish there)
          on (inr ge) =
              let from = h.amid.from in
              let le = h.amid.to in
              let end : r.start + block_size r.block ≡ p.at = omega (arith, ge, from, le) in
              let at_end : n ≡ block_size r.block = omega (arith, ge, from, le) in
              let is' = same_Some last ins.Finish (sym sound.ends ∙ ap (slice_get t.ins) end ∙ there) in
              let none = last_finish s.frames.items is' in
              let bare : r.behind ≡ pieces.Finishing ∷ [] =
              ap (λ fs. (running (first_body s.thread s.start) fs s.slots.away).behind) none in
              record {
                piece = pieces.Finishing;
                rest = [];
                first = left ins.Finish k ∙ ap (λ j. within r.block j true 0 (turn_at r.names here) r.behind) at_end
                    ∙ block_ends r.block true 0 (turn_at r.names here) r.behind ∙ bare;
                stands = (refl, refl);
              }

      by : (z : Ins) → p.piece ≡ Some (is.Here z) → IsPieceAt t s p.at (Some (is.Here z)) → First c p (is.Here z)
      by ins.Null k i =
          let g = as_at true (inner c s h.stacked p.at ins.Null h.amid i.0 tt) ins.Null i.0 in
          record { piece = pieces.Idle; rest = rest; first = left ins.Null k ∙ g.0; stands = refl }
      by (ins.Work ticks) k i =
          let g = as_at true (inner c s h.stacked p.at (ins.Work ticks) h.amid i.0 tt) (ins.Work ticks) i.0 in
          let some : 0 < ticks = subst (Head y r.chain (length r.names) (scope_at r true p.at)) g.0
          (head_at y h.stacked.linked.leads t last room r sound true p.at here) in
          record { piece = pieces.Working ticks; rest = rest; first = left (ins.Work ticks) k ∙ g.0; stands = (refl, some) }
      by (ins.Assign slot v) k i =
          let g = as_at true (inner c s h.stacked p.at (ins.Assign slot v) h.amid i.0 tt) (ins.Assign slot v) i.0 in
          record { piece = pieces.Store g.0 g.1; rest = rest; first = left (ins.Assign slot v) k ∙ g.2.0; stands = (g.0, g.1, refl) }
      by (ins.Put v) k i =
          let g = as_at true (inner c s h.stacked p.at (ins.Put v) h.amid i.0 tt) (ins.Put v) i.0 in
          record { piece = pieces.Printing g.0; rest = rest; first = left (ins.Put v) k ∙ g.1.0; stands = (g.0, refl) }
      by (ins.Test v other) k i =
          let g = as_at true (inner c s h.stacked p.at (ins.Test v other) h.amid i.0 tt) (ins.Test v other) i.0 in
          let f = g.1 in
          record { piece = pieces.Testing g.0 f.0 f.1; rest = f.2; first = left (ins.Test v other) k ∙ f.3; stands = (g.0, f.0, f.1, refl) }
      by (ins.Exit v to') k i =
          let lt = inner c s h.stacked p.at (ins.Exit v to') h.amid i.0 tt in
          let g = as_at true lt (ins.Exit v to') i.0 in
          record {
            piece = pieces.Leaving g.0;
            rest = rest;
            first = left (ins.Exit v to') k ∙ g.1.0.0;
            stands = (g.0, refl, loop_left v to' lt i.0);
          }
      by (ins.Jump to') k i = absurd i.1
      by (ins.Begin counter low) k i =
          let g = as_at true (inner c s h.stacked p.at (ins.Begin counter low) h.amid i.0 tt) (ins.Begin counter low) i.0 in
          let b = g.5 in
          record {
            piece = pieces.Turning g.0 low g.1 b.body;
            rest = b.rest;
            first = left (ins.Begin counter low) k ∙ b.pieces'
                ∙ ap (λ d. if d then pieces.Turning g.0 low g.1 b.body ∷ b.rest else b.rest) g.4;
            stands = (g.0, low, g.1, b.body, refl);
          }
      by (ins.Next counter last' start) k i =
          let g = as_at true (inner c s h.stacked p.at (ins.Next counter last' start) h.amid i.0 tt) (ins.Next counter last' start) i.0 in
          let b = g.2 in
          record {
            piece = pieces.Turned g.0 _ last' b.body;
            rest = b.rest;
            first = left (ins.Next counter last' start) k ∙ b.pieces';
            stands = (g.0, _, last', b.body, refl);
          }
      by (ins.Call place first outs) k i =
          let g = the_call c p h place first outs k in
          record {
            piece = pieces.Calling g.unit g.op g.actuals;
            rest = left_at r true (p.at + 1) here;
            first = left (ins.Call place first outs) k ∙ g.calls;
            stands = (g.unit, g.op, g.actuals, g.body, refl, g.is_body, g.there);
          }
      by (ins.Request task v) k i =
          let g = as_at true (inner c s h.stacked p.at (ins.Request task v) h.amid i.0 tt) (ins.Request task v) i.0 in
          record {
            piece = pieces.Calling g.0 g.1 g.2;
            rest = rest;
            first = left (ins.Request task v) k ∙ g.3.0;
            stands = (
              g.0,
              g.1,
              g.2,
              refl,
              asks c y (map body_of c.ops.items) t (scope_at r false p.at) g.0 g.1 g.2
                  (h.stacked.linked.leads g.0 g.1) task v
                  g.4 (h.stacked.linked.calls y (system_is s.thread) g.0 g.1),
            );
          }
      by ins.Nowhere k i =
          let g = as_at true (inner c s h.stacked p.at ins.Nowhere h.amid i.0 tt) ins.Nowhere i.0 in
          record {
            piece = pieces.Calling g.0 g.1 g.2;
            rest = rest;
            first = left ins.Nowhere k ∙ g.3.0;
            stands = (
              g.0,
              g.1,
              g.2,
              refl,
              leads_nowhere y (map body_of c.ops.items) t (scope_at r false p.at) g.0 g.1 g.2
                  (h.stacked.linked.leads g.0 g.1)
                  g.4 (h.stacked.linked.calls y (system_is s.thread) g.0 g.1),
            );
          }
      by ins.Return k i = end_of (owner_of s) refl k i.0 i.2
      by ins.Finish k i = finish_of k i.0

  first_turn : (counter start : ℕ) → p.piece ≡ Some (is.Turn counter start) → First c p (is.Turn counter start)
  first_turn counter start e =
      let i = subst (IsPieceAt t s p.at) e h.piece in
      let x = ins.Next counter i.0 start in
      let g = as_at false (inner c s h.stacked p.at x h.amid i.1 tt) x i.1 in
      let b = g.2 in
      record {
        piece = pieces.Turning g.0 _ i.0 b.body;
        rest = b.rest;
        first = ap (λ q. pieces_by q r p.at here) e ∙ b.pieces';
        stands = (g.0, _, i.0, b.body, refl);
      }

  first_close : p.piece ≡ Some is.Close → First c p is.Close
  first_close e =
      let i = subst (IsPieceAt t s p.at) e h.piece in
      let g = last_of s.frames.items (some_call c s h.stacked p.at h.amid i.0) in
      let b = behind_of c s h.stacked g.0 g.1 g.2 in
      record {
        piece = ended_by (Some i.1) b.body.vars b.body.op b.actuals b.caller;
        rest = b.rest;
        first = ap (λ q. pieces_by q r p.at here) e ∙ end_left c s h.stacked p.at h.amid i.0 ∙ b.behind
            ∙ ap (λ w. ended_by w b.body.vars b.body.op b.actuals b.caller ∷ b.rest) (sym b.owner ∙ i.2);
        stands = (i.1.0, i.1.1, b.body.vars, out_names b.body.op.sig.params, targets b.body.op.sig.params b.actuals, b.caller, refl, i.2);
      }

  -- the first piece
  pub first_at : (q : piece.Piece) → p.piece ≡ Some q → First c p q
  first_at (is.Here x) e = first_here x e
  first_at (is.Turn counter start) e = first_turn counter start e
  first_at is.Close e = first_close e
  first_at (is.Keep q) e = record {
    piece = pieces.Keeping q.task q.value;
    rest = pieces.Opening q.task ∷ pieces.Requested q.task q.value ∷ left_at r true p.at here;
    first = ap (λ k. pieces_by k r p.at here) e;
    stands = (refl, subst (IsPieceAt t s p.at) e h.piece);
  }
  first_at (is.Open q) e = record {
    piece = pieces.Opening q.task;
    rest = pieces.Requested q.task q.value ∷ left_at r true p.at here;
    first = ap (λ k. pieces_by k r p.at here) e;
    stands = (refl, subst (IsPieceAt t s p.at) e h.piece);
  }
  first_at (is.Requested q) e = record {
    piece = pieces.Requested q.task q.value;
    rest = left_at r true p.at here;
    first = ap (λ k. pieces_by k r p.at here) e;
    stands = (refl, subst (IsPieceAt t s p.at) e h.piece);
  }

  -- nothing is left where there is no piece
  pub none_at : p.piece ≡ None → pieces_left p ≡ []
  none_at e = ap (λ k. pieces_by k r p.at here) e

  some_left : (q : Option piece.Piece) → p.piece ≡ q → pieces_left p ≡ [] → q ≡ None
  some_left None e none = refl
  some_left (Some q) e none = let f = first_at q e in absurd (nothing f.piece f.rest (sym f.first ∙ none))
    where
      nothing : (m : Piece) (ms : List Piece) → m ∷ ms ≡ [] → ⊥
      nothing m ms k = cc

  pub none_left : pieces_left p ≡ [] → p.piece ≡ None
  none_left none = some_left p.piece refl none
