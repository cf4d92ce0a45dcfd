-- What starts with the first piece of a task at work: its ticks, and the `work` statement where it is one.
use Rattle.std.proofs.Common.{◌≡◌, ◌<◌, ◌≤◌, ℕ, suc, ◌+◌, ◌-◌, Bool, true, false, List, [], ◌∷◌, Option, Some, None, length, min, refl, ap, sym}
use Rattle.std.proofs.Common.{subst, ◌∙◌, arith}
use Rattle.std.specs.Prelude.{drop, take, ⊤}
use Rattle.std.proofs.lemmas.List.{length-drop, length-take}
use Rattle.seq_tree.specs.Names.{Name}
use Rattle.seq_tree.specs.Expressions.{Expression}
use Rattle.seq_tree.specs.Variables.{Variables}
use Rattle.seq_tree.specs.declared.tree.Costs.{Costs}
use Rattle.machine.specs.Pieces as pieces
use Rattle.machine.specs.Pieces.{Piece, ticks_of, work_ticks, works_of}
use Rattle.machine.specs.Systems.{System}
use Rattle.linker.specs.Callees.{OpBody, body_of}
use Rattle.linker.specs.Leads.{Leads}
use Rattle.linker.specs.Standing.{Lists, lists_of}
use Rattle.linker.specs.declared.code.Ins.{Ins}
use Rattle.linker.specs.declared.code.Ins.TheVariants as ins
use Rattle.linker.specs.declared.program.LinkedUnits.{LinkedUnits}
use Rattle.task_runtime.specs.Effort.{IsLong, effort, ends_among, first_ticks, first_works, sections_among}
use Rattle.task_runtime.specs.Fitting.{spot_of}
use Rattle.task_runtime.specs.Written.{reserve, system_of}
use Rattle.task_runtime.proofs.Shared.Starting.{AreTicking}
use Rattle.task_runtime.specs.Bodies.{Body, behind_call, ended_by, first_body, into, left_at, running, turn_at, vars_here}
use Rattle.task_runtime.specs.Lefts.{pieces_by, pieces_left, running_of}
use Rattle.task_runtime.specs.Silences.{piece_ticks, piece_works}
use Rattle.task_runtime.specs.Sounds.{AreSound, IsAtWork, IsSound}
use Rattle.task_runtime.specs.declared.piece.Frame.{Frame}
use Rattle.task_runtime.specs.declared.piece.Piece as piece
use Rattle.task_runtime.specs.declared.piece.Piece.TheVariants as is
use Rattle.task_runtime.specs.declared.progress.Progress.{Progress}
use Rattle.task_runtime.specs.declared.stack.Stack.{Stack}
use Rattle.task_runtime.proofs.Arrivals.{sound_running}
use Rattle.task_runtime.proofs.Efforts.{ends_within, sections_within}
use Rattle.task_runtime.proofs.Firsts.{First, StandsFor, first_at, none_at}
use Rattle.task_runtime.proofs.Reserves.{frame_fits}
use Rattle.task_runtime.proofs.Stacks.{last_by, room_by, room_is}

-- a `work` takes a tick, whatever is handed to it
work_long : (n : ℕ) (d : Option ℕ) → 0 < n → IsLong d → 0 < work_ticks n d
work_long n None h long = h
work_long n (Some k) h long = omega (arith, h, long)

-- a piece of work that has ticks
abbrev pub IsWorking : Piece → Type 0
IsWorking (pieces.Working ticks) = 0 < ticks
IsWorking _ = ⊤

module _ (c : LinkedUnits) (s : Stack) (costs : Costs) (d : Option ℕ) where
  ticks_as : (q : piece.Piece) (m : Piece) (rest : List Piece) → StandsFor c s q m rest → ticks_of costs d m ≡ piece_ticks costs d q
  ticks_as (is.Here ins.Null) m rest st = ap (ticks_of costs d) st
  ticks_as (is.Here (ins.Work ticks)) m rest st = ap (ticks_of costs d) st.0
  ticks_as (is.Here (ins.Assign slot v)) m rest st = ap (ticks_of costs d) st.2
  ticks_as (is.Here (ins.Put v)) m rest st = ap (ticks_of costs d) st.1
  ticks_as (is.Here (ins.Test v other)) m rest st = ap (ticks_of costs d) st.3
  ticks_as (is.Here (ins.Exit v to')) m rest st = ap (ticks_of costs d) st.1
  ticks_as (is.Here (ins.Jump to')) m rest st = absurd st
  ticks_as (is.Here (ins.Begin counter low)) m rest st = ap (ticks_of costs d) st.4
  ticks_as (is.Here (ins.Next counter last start)) m rest st = ap (ticks_of costs d) st.4
  ticks_as (is.Here (ins.Call place first outs)) m rest st = ap (ticks_of costs d) st.4
  ticks_as (is.Here (ins.Request task v)) m rest st = ap (ticks_of costs d) st.3
  ticks_as (is.Here ins.Nowhere) m rest st = ap (ticks_of costs d) st.3
  ticks_as (is.Here ins.Return) m rest st = ap (ticks_of costs d) st.3
  ticks_as (is.Here ins.Finish) m rest st = ap (ticks_of costs d) st.0
  ticks_as (is.Turn counter start) m rest st = ap (ticks_of costs d) st.4
  ticks_as is.Close m rest st = ap (ticks_of costs d) st.6
  ticks_as (is.Keep q) m rest st = ap (ticks_of costs d) st.0
  ticks_as (is.Open q) m rest st = ap (ticks_of costs d) st.0
  ticks_as (is.Requested q) m rest st = ap (ticks_of costs d) st.0

  works_as : (q : piece.Piece) (m : Piece) (rest : List Piece) → StandsFor c s q m rest → works_of m ≡ piece_works q
  works_as (is.Here ins.Null) m rest st = ap works_of st
  works_as (is.Here (ins.Work ticks)) m rest st = ap works_of st.0
  works_as (is.Here (ins.Assign slot v)) m rest st = ap works_of st.2
  works_as (is.Here (ins.Put v)) m rest st = ap works_of st.1
  works_as (is.Here (ins.Test v other)) m rest st = ap works_of st.3
  works_as (is.Here (ins.Exit v to')) m rest st = ap works_of st.1
  works_as (is.Here (ins.Jump to')) m rest st = absurd st
  works_as (is.Here (ins.Begin counter low)) m rest st = ap works_of st.4
  works_as (is.Here (ins.Next counter last start)) m rest st = ap works_of st.4
  works_as (is.Here (ins.Call place first outs)) m rest st = ap works_of st.4
  works_as (is.Here (ins.Request task v)) m rest st = ap works_of st.3
  works_as (is.Here ins.Nowhere) m rest st = ap works_of st.3
  works_as (is.Here ins.Return) m rest st = ap works_of st.3
  works_as (is.Here ins.Finish) m rest st = ap works_of st.0
  works_as (is.Turn counter start) m rest st = ap works_of st.4
  works_as is.Close m rest st = ap works_of st.6
  works_as (is.Keep q) m rest st = ap works_of st.0
  works_as (is.Open q) m rest st = ap works_of st.0
  works_as (is.Requested q) m rest st = ap works_of st.0

  work_as : (q : piece.Piece) (m : Piece) (rest : List Piece) → StandsFor c s q m rest → IsLong d
      → piece_works q ≤ min (piece_ticks costs d q) 1
  work_as (is.Here ins.Null) m rest st long = omega arith
  work_as (is.Here (ins.Work ticks)) m rest st long = let some = work_long ticks d st.1 long in omega (arith, some)
  work_as (is.Here (ins.Assign slot v)) m rest st long = omega arith
  work_as (is.Here (ins.Put v)) m rest st long = omega arith
  work_as (is.Here (ins.Test v other)) m rest st long = omega arith
  work_as (is.Here (ins.Exit v to')) m rest st long = omega arith
  work_as (is.Here (ins.Jump to')) m rest st long = absurd st
  work_as (is.Here (ins.Begin counter low)) m rest st long = omega arith
  work_as (is.Here (ins.Next counter last start)) m rest st long = omega arith
  work_as (is.Here (ins.Call place first outs)) m rest st long = omega arith
  work_as (is.Here (ins.Request task v)) m rest st long = omega arith
  work_as (is.Here ins.Nowhere) m rest st long = omega arith
  work_as (is.Here ins.Return) m rest st long = omega arith
  work_as (is.Here ins.Finish) m rest st long = omega arith
  work_as (is.Turn counter start) m rest st long = omega arith
  work_as is.Close m rest st long = omega arith
  work_as (is.Keep q) m rest st long = omega arith
  work_as (is.Open q) m rest st long = omega arith
  work_as (is.Requested q) m rest st long = omega arith

pub works_long : (c : LinkedUnits) (s : Stack) (q : piece.Piece) (m : Piece) (rest : List Piece) → StandsFor c s q m rest → IsWorking m
works_long c s (is.Here ins.Null) m rest st = subst IsWorking (sym st) tt
works_long c s (is.Here (ins.Work ticks)) m rest st = subst IsWorking (sym st.0) st.1
works_long c s (is.Here (ins.Assign slot v)) m rest st = subst IsWorking (sym st.2) tt
works_long c s (is.Here (ins.Put v)) m rest st = subst IsWorking (sym st.1) tt
works_long c s (is.Here (ins.Test v other)) m rest st = subst IsWorking (sym st.3) tt
works_long c s (is.Here (ins.Exit v to')) m rest st = subst IsWorking (sym st.1) tt
works_long c s (is.Here (ins.Jump to')) m rest st = absurd st
works_long c s (is.Here (ins.Begin counter low)) m rest st = subst IsWorking (sym st.4) tt
works_long c s (is.Here (ins.Next counter last start)) m rest st = subst IsWorking (sym st.4) tt
works_long c s (is.Here (ins.Call place first outs)) m rest st = subst IsWorking (sym st.4) tt
works_long c s (is.Here (ins.Request task v)) m rest st = subst IsWorking (sym st.3) tt
works_long c s (is.Here ins.Nowhere) m rest st = subst IsWorking (sym st.3) tt
works_long c s (is.Here ins.Return) m rest st = subst IsWorking (sym st.3) tt
works_long c s (is.Here ins.Finish) m rest st = subst IsWorking (sym st.0) tt
works_long c s (is.Turn counter start) m rest st = subst IsWorking (sym st.4) tt
works_long c s is.Close m rest st = subst IsWorking (sym st.6) tt
works_long c s (is.Keep q) m rest st = subst IsWorking (sym st.0) tt
works_long c s (is.Open q) m rest st = subst IsWorking (sym st.0) tt
works_long c s (is.Requested q) m rest st = subst IsWorking (sym st.0) tt

-- what starts, by the piece that a task has in code
module _ (c : LinkedUnits) (p : Progress) (h : IsAtWork c p) (costs : Costs) (d : Option ℕ) (q : piece.Piece) (is' : p.piece ≡ Some q) where
  f : First c p q
  f = first_at c p h q is'

  pub starts_ticks : piece_ticks costs d q ≡ first_ticks costs d (pieces_left p)
  starts_ticks = sym (ap (first_ticks costs d) f.first ∙ ticks_as c p.stack costs d q f.piece f.rest f.stands)

  pub starts_works : piece_works q ≡ first_works (pieces_left p)
  starts_works = sym (ap first_works f.first ∙ works_as c p.stack costs d q f.piece f.rest f.stands)

  pub starts_some : IsLong d → piece_works q ≤ min (piece_ticks costs d q) 1
  starts_some long = work_as c p.stack costs d q f.piece f.rest f.stands long

-- a piece without ticks is the end of a turn, of a body or of a request
pub quiet : (c : Costs) (d : Option ℕ) (most : ℕ) → AreTicking c → IsLong d → (m : Piece) (ps : List Piece) → IsWorking m
    → ticks_of c d m ≡ 0 → effort most (m ∷ ps) ≤ ends_among (m ∷ ps)
quiet c d most ticks long pieces.Idle ps w none = absurd (omega (arith, none, ticks.«nothing»))
quiet c d most ticks long (pieces.Store target e) ps w none = absurd (omega (arith, none, ticks.assign))
quiet c d most ticks long (pieces.Leaving condition) ps w none = absurd (omega (arith, none, ticks.test))
quiet c d most ticks long (pieces.Calling unit op actuals) ps w none = absurd (omega (arith, none, ticks.call))
quiet c d most ticks long (pieces.Working n) ps w none = absurd (let some = work_long n d w long in omega (arith, none, some))
quiet c d most ticks long (pieces.Printing e) ps w none = absurd (omega (arith, none, ticks.put))
quiet c d most ticks long (pieces.Testing condition block others) ps w none = absurd (omega (arith, none, ticks.test))
quiet c d most ticks long (pieces.Turning name at last body) ps w none = absurd (omega (arith, none, ticks.turn))
quiet c d most ticks long (pieces.Turned name at last body) ps w none = omega arith
quiet c d most ticks long (pieces.Returning outs stores caller) ps w none = omega arith
quiet c d most ticks long (pieces.Closing object op vars outs stores caller) ps w none = omega arith
quiet c d most ticks long (pieces.Keeping task v) ps w none = absurd (omega (arith, none, ticks.assign))
quiet c d most ticks long (pieces.Opening task) ps w none = absurd (omega (arith, none, ticks.assign))
quiet c d most ticks long (pieces.Requested task v) ps w none = omega arith
quiet c d most ticks long pieces.Finishing ps w none = absurd (omega (arith, none, ticks.finish))

-- what is left of a task without ticks
pub calm : (c : LinkedUnits) (p : Progress) → IsAtWork c p → (costs : Costs) (d : Option ℕ) (most : ℕ) → AreTicking costs → IsLong d
    → first_ticks costs d (pieces_left p) ≡ 0 → effort most (pieces_left p) ≤ ends_among (pieces_left p)
calm c p h costs d most ticks long none = by p.piece refl
  where
    by : (q : Option piece.Piece) → p.piece ≡ q → effort most (pieces_left p) ≤ ends_among (pieces_left p)
    by None e = subst (λ ps. effort most ps ≤ ends_among ps) (sym (none_at c p h e)) (omega arith)
    by (Some q) e =
        let f = first_at c p h q e in
        subst (λ ps. effort most ps ≤ ends_among ps) (sym f.first)
        (quiet costs d most ticks long f.piece f.rest (works_long c p.stack q f.piece f.rest f.stands)
        (sym (ap (first_ticks costs d) f.first) ∙ none))

-- the end of a body is one end
one_end : (o : Option (ℕ × ℕ)) (b : OpBody) (actuals : List Expression) (caller : Variables) (ps : List Piece)
    → ends_among (ended_by o b.vars b.op actuals caller ∷ ps) ≡ suc (ends_among ps)
one_end None b actuals caller ps = refl
one_end (Some owner) b actuals caller ps = refl

module _ (y : System) (leads : Name → Name → Leads) (t : Lists) where
  ends_left : (last : Ins) (room : ℕ) (r : Body) → IsSound y leads t last room r → (open' : Bool) (at : ℕ) (slots : List ℕ)
      → ends_among (left_at r open' at slots) ≤ 192 + ends_among r.behind
  ends_left last room r s open' at slots = ends_within (spot_of y r.chain) r.block (at - r.start) open' 0 (turn_at r.names slots) r.behind s.fits

  -- each call that is under way leaves fewer ends than its caller has slots
  ends_running : (last : Ins) (room : ℕ) (r : Body) (fs : List Frame) (away : List ℕ) → AreSound y leads t last room r fs away
      → ends_among (running r fs away).behind ≤ ends_among r.behind + length away
  ends_running last room r [] away h = omega arith
  ends_running last room r (f ∷ fs) away h =
      let call = h.1 in
      let slots = take f.away away in
      let more = ends_running ins.Return (room - f.away) (into r f slots) fs (drop f.away away) h.2 in
      let left = ends_left last room r h.0 true f.at slots in
      let calls = ap ends_among call.calls in
      let behind = ap (λ ps. ends_among (behind_call (body_of f.body) (vars_here r true f.at slots) ps)) call.calls in
      let one = one_end (body_of f.body).owner (body_of f.body) call.actuals (vars_here r true f.at slots) call.rest in
      let size = call.size in
      let long = call.long in
      let dropped = length-drop f.away away in
      let taken = length-take f.away away in
      omega (arith, more, left, calls, behind, one, size, long, dropped, taken)

-- fewer ends are left than there is room for
pub few_left : (c : LinkedUnits) (p : Progress) → IsAtWork c p → ends_among (pieces_left p) < reserve p.stack.thread
few_left c p h = by p.piece refl
  where
    s : Stack
    s = p.stack

    y : System
    y = system_of s.thread

    sound : IsSound y h.stacked.linked.leads (lists_of c.code) (last_by ins.Finish s.frames.items) (room_by (reserve s.thread) s.frames.items)
        (running_of s)
    sound = sound_running c s h.stacked

    behind : ends_among (running_of s).behind ≤ length s.slots.away
    behind =
        let e : ends_among (running_of s).behind ≤ 0 + length s.slots.away =
        ends_running y h.stacked.linked.leads (lists_of c.code) ins.Finish (reserve s.thread) (first_body s.thread s.start) s.frames.items
        s.slots.away h.stacked.sound in
        omega (arith, e)

    room : 194 + length s.slots.away ≤ reserve s.thread
    room =
        let e = room_is y h.stacked.linked.leads (lists_of c.code) ins.Finish (reserve s.thread) (first_body s.thread s.start) s.frames.items
        s.slots.away h.stacked.sound in
        let le = sound.room' in
        omega (arith, e, le)

    left : (open' : Bool) → ends_among (left_at (running_of s) open' p.at s.slots.here) ≤ 192 + length s.slots.away
    left open' =
        let e = ends_left y h.stacked.linked.leads (lists_of c.code) (last_by ins.Finish s.frames.items) (room_by (reserve s.thread) s.frames.items)
        (running_of s) sound open' p.at s.slots.here in
        let b = behind in
        omega (arith, e, b)

    few : (q : Option piece.Piece) → ends_among (pieces_by q (running_of s) p.at s.slots.here) ≤ 193 + length s.slots.away
    few None = omega arith
    few (Some (is.Here i)) = let e = left true in omega (arith, e)
    few (Some (is.Turn counter start)) = let e = left false in omega (arith, e)
    few (Some is.Close) = let e = left true in omega (arith, e)
    few (Some (is.Keep q)) = let e = left true in omega (arith, e)
    few (Some (is.Open q)) = let e = left true in omega (arith, e)
    few (Some (is.Requested q)) = let e = left true in omega (arith, e)

    by : (q : Option piece.Piece) → p.piece ≡ q → ends_among (pieces_left p) < reserve s.thread
    by q e = let a = few p.piece in let b = room in omega (arith, a, b)

-- the end of a body is one section at most
one_section : (o : Option (ℕ × ℕ)) (b : OpBody) (actuals : List Expression) (caller : Variables) (ps : List Piece)
    → sections_among (ended_by o b.vars b.op actuals caller ∷ ps) ≤ suc (sections_among ps)
one_section None b actuals caller ps = omega arith
one_section (Some owner) b actuals caller ps = omega arith

module _ (y : System) (leads : Name → Name → Leads) (t : Lists) where
  -- each call that is under way leaves one section at most
  sections_running : (last : Ins) (room : ℕ) (r : Body) (fs : List Frame) (away : List ℕ) → AreSound y leads t last room r fs away
      → sections_among (running r fs away).behind ≤ sections_among r.behind + length fs
  sections_running last room r [] away h = omega arith
  sections_running last room r (f ∷ fs) away h =
      let call = h.1 in
      let slots = take f.away away in
      let more = sections_running ins.Return (room - f.away) (into r f slots) fs (drop f.away away) h.2 in
      let left = sections_within r.block (f.at - r.start) true 0 (turn_at r.names slots) r.behind in
      let calls = ap sections_among call.calls in
      let behind = ap (λ ps. sections_among (behind_call (body_of f.body) (vars_here r true f.at slots) ps)) call.calls in
      let one = one_section (body_of f.body).owner (body_of f.body) call.actuals (vars_here r true f.at slots) call.rest in
      omega (arith, more, left, calls, behind, one)

-- no more sections are left than calls can be under way
pub few_sections : (c : LinkedUnits) (p : Progress) → IsAtWork c p → sections_among (pieces_left p) ≤ p.stack.frames.room
few_sections c p h = few p.piece
  where
    s : Stack
    s = p.stack

    behind : sections_among (running_of s).behind < s.frames.room
    behind =
        let e : sections_among (running_of s).behind ≤ 0 + length s.frames.items =
        sections_running (system_of s.thread) h.stacked.linked.leads (lists_of c.code) ins.Finish (reserve s.thread) (first_body s.thread s.start)
        s.frames.items s.slots.away h.stacked.sound in
        let lt = frame_fits c s h.stacked in
        omega (arith, e, lt)

    left : (open' : Bool) → sections_among (left_at (running_of s) open' p.at s.slots.here) ≡ sections_among (running_of s).behind
    left open' = sections_within (running_of s).block (p.at - (running_of s).start) open' 0 (turn_at (running_of s).names s.slots.here)
        (running_of s).behind

    few : (q : Option piece.Piece) → sections_among (pieces_by q (running_of s) p.at s.slots.here) ≤ s.frames.room
    few None = omega arith
    few (Some (is.Here i)) = let e = left true in let b = behind in omega (arith, e, b)
    few (Some (is.Turn counter start)) = let e = left false in let b = behind in omega (arith, e, b)
    few (Some is.Close) = let e = left true in let b = behind in omega (arith, e, b)
    few (Some (is.Keep q)) = let e = left true in let b = behind in omega (arith, e, b)
    few (Some (is.Open q)) = let e = left true in let b = behind in omega (arith, e, b)
    few (Some (is.Requested q)) = let e = left true in let b = behind in omega (arith, e, b)
