-- A task before its first activation, and one whose activation begins.
use Rattle.std.proofs.Common.{◌≡◌, ◌<◌, ◌≤◌, ◌^◌, ℕ, true, [], ◌∷◌, ◌++◌, Option, None, length, map, ap, sym, subst, ◌∙◌, arith}
use Rattle.ada_tree.specs.Trees.{unit_of}
use Rattle.machine.specs.Pieces as pieces
use Rattle.machine.specs.Releases.{parameter}
use Rattle.machine.specs.Systems.{System}
use Rattle.linker.specs.Slots.{vars_at}
use Rattle.linker.specs.Programs.{AreLinked, task_part}
use Rattle.linker.specs.Scopes.{slots_of}
use Rattle.linker.specs.Standing.{lists_of}
use Rattle.linker.specs.declared.code.Ins.TheVariants as ins
use Rattle.linker.specs.declared.program.LinkedUnits.{LinkedUnits}
use Rattle.task_runtime.specs.Written.{block_of_thread, data_names, reserve, system_of, thread_of, timing_of}
use Rattle.task_runtime.specs.declared.thread.Thread.{Thread}
use Rattle.task_runtime.specs.Bodies.{Body, first_body, left_at, running, vars_here}
use Rattle.task_runtime.specs.Goings.{GoesOnAt}
use Rattle.task_runtime.specs.Lefts.{pieces_left, running_of, vars_by, vars_left}
use Rattle.task_runtime.specs.Reserving.{HasRoom, HaveRoom, extent_in}
use Rattle.task_runtime.specs.Settling.{IsAmid}
use Rattle.task_runtime.specs.Sounds.{AreSound, CanWork, IsAtWork, IsPieceAt, IsSound, IsStacked, IsTaskStart, slots_count}
use Rattle.task_runtime.specs.declared.progress.Progress.{Progress}
use Rattle.task_runtime.specs.declared.reserve.Room.{Room}
use Rattle.task_runtime.specs.declared.stack.Stack.{Stack}
use Rattle.task_runtime.proofs.Bounds.{block_sound}
use Rattle.task_runtime.proofs.Entries.{begins_amid, begins_left, begins_vars, slots_stacked}
use Rattle.task_runtime.proofs.Reserves.{own_slots}

module _ (c : LinkedUnits) (s : Stack) (works : CanWork s.thread) (linked : AreLinked (map unit_of s.thread.units.now) c)
    (start : IsTaskStart c s.thread s.start) where
  abbrev y : System
  y = system_of s.thread

  first_sound : IsSound y linked.leads (lists_of c.code) ins.Finish (reserve s.thread) (first_body s.thread s.start)
  first_sound = block_sound c s.thread works linked s.start start

  module _ (away : s.slots.away ≡ []) (frames : s.frames.items ≡ []) (bodies : ℕ)
      (room : HasRoom c bodies (length s.slots.here) (extent_in (first_body s.thread s.start))) (more : bodies ≤ s.frames.room)
      (small : length s.slots.here < 2 ^ 63) where
    count : length s.slots.here ≡ slots_count s
    count = let e = ap length away in omega (arith, e)

    first_stacked : IsStacked c s
    first_stacked = record {
      linked = linked;
      works = works;
      sound = subst (λ fs. AreSound y linked.leads (lists_of c.code) ins.Finish (reserve s.thread) (first_body s.thread s.start) fs s.slots.away)
          (sym frames) (first_sound, away);
      bodies = bodies;
      room = subst (HaveRoom c bodies (slots_count s) (extent_in (first_body s.thread s.start))) (sym frames)
          (subst (λ n. HasRoom c bodies n (extent_in (first_body s.thread s.start))) count room);
      frames_room = more;
      small = omega (arith, count, small);
    }

    bare : running_of s ≡ first_body s.thread s.start
    bare = ap (λ fs. running (first_body s.thread s.start) fs s.slots.away) frames

    pub fresh_at_work : IsAtWork c (record { stack = s; at = s.start; piece = None })
    fresh_at_work = record {
      stacked = first_stacked;
      amid = subst (λ (b : Body). IsAmid b.start b.block s.start) (sym bare) (begins_amid (first_body s.thread s.start) []);
      piece = frames;
    }

-- stacks of which nothing but slots has changed
pub stack_is : (s s' : Stack) → s'.thread ≡ s.thread → s'.start ≡ s.start → s'.frames ≡ s.frames → record s { slots = s'.slots } ≡ s'
stack_is s s' thread start frames =
    ap (λ z. record s { slots = s'.slots; thread = z }) (sym thread)
    ∙ ap (λ z. record s { slots = s'.slots; thread = s'.thread; start = z }) (sym start)
    ∙ ap (λ z. record s { slots = s'.slots; thread = s'.thread; start = s'.start; frames = z }) (sym frames)

-- a task that runs no body
module _ (c : LinkedUnits) (p : Progress) (h : IsAtWork c p) (none : p.piece ≡ None) where
  abbrev s : Stack
  s = p.stack

  pub no_frames : s.frames.items ≡ []
  no_frames = subst (IsPieceAt (lists_of c.code) s p.at) none h.piece

  pub nothing_away : s.slots.away ≡ []
  nothing_away =
      (subst (λ fs. AreSound (system_of s.thread) h.stacked.linked.leads (lists_of c.code) ins.Finish (reserve s.thread) (first_body s.thread s.start)
      fs s.slots.away) no_frames h.stacked.sound).1

  bare_now : running_of s ≡ first_body s.thread s.start
  bare_now = ap (λ fs. running (first_body s.thread s.start) fs s.slots.away) no_frames

  pub room_there : length (task_part (thread_of s.thread)).names ≤ length s.slots.here
  room_there =
      let le = own_slots c s h.stacked in
      let e = ap (λ b. length b.names) bare_now in
      omega (arith, le, e)

  module _ (s' : Stack) (thread : s'.thread ≡ s.thread) (start : s'.start ≡ s.start) (frames : s'.frames ≡ s.frames)
      (away : s'.slots.away ≡ s.slots.away) (long : length s'.slots.here ≡ length s.slots.here) where
    pub open_stacked : IsStacked c s'
    open_stacked = subst (IsStacked c) (stack_is s s' thread start frames) (slots_stacked c s h.stacked s'.slots away long)

    open_bare : running_of s' ≡ first_body s'.thread s'.start
    open_bare = ap (λ fs. running (first_body s'.thread s'.start) fs s'.slots.away) (ap (λ v. v.items) frames ∙ no_frames)

    pub open_amid : IsAmid (running_of s').start (running_of s').block s'.start
    open_amid = subst (λ (b : Body). IsAmid b.start b.block s'.start) (sym open_bare) (begins_amid (first_body s'.thread s'.start) [])

    pub open_pieces : (p' : Progress) → GoesOnAt c s' s'.start p' → pieces_left p' ≡ pieces.pieces (block_of_thread s.thread) (pieces.Finishing ∷ [])
    open_pieces p' on =
        on.pieces ∙ ap (λ b. left_at b true s'.start s'.slots.here) open_bare ∙ begins_left (first_body s'.thread s'.start) s'.slots.here
        ∙ ap (λ th. pieces.pieces (block_of_thread th) (pieces.Finishing ∷ [])) thread

    pub open_vars : (value : Option ℕ) (p' : Progress) → GoesOnAt c s' s'.start p'
        → vars_at (slots_of (task_part (thread_of s.thread)).names) s'.slots.here
        ≡ parameter (timing_of s.thread.timing) value ++ vars_at (slots_of (data_names s.thread)) s.slots.here
        → vars_left p' ≡ parameter (timing_of s.thread.timing) value ++ vars_left p
    open_vars value p' on vars =
        on.vars ∙ ap (λ b. vars_here b true s'.start s'.slots.here) open_bare ∙ begins_vars (first_body s'.thread s'.start) s'.slots.here
        ∙ ap (λ th. vars_at (slots_of (task_part (thread_of th)).names) s'.slots.here) thread ∙ vars
        ∙ ap (λ vs. parameter (timing_of s.thread.timing) value ++ vs)
        (sym (ap (λ q. vars_by q (data_names s.thread) (running_of s) p.at s.slots.here) none))

pub new_at_work : (c : LinkedUnits) (th : Thread) (start : ℕ) (room : Room) (s : Stack) → CanWork th → AreLinked (map unit_of th.units.now) c
    → IsTaskStart c th start → (room.slots < 2 ^ 63 → HasRoom c room.bodies room.slots (extent_in (first_body th start)))
    → s.thread ≡ th → s.start ≡ start → s.slots.away ≡ [] → s.frames.items ≡ []
    → length s.slots.here ≡ room.slots → room.bodies ≤ s.frames.room → room.slots < 2 ^ 63
    → IsAtWork c (record { stack = s; at = start; piece = None })
new_at_work c th start room s works linked starts enough thread at away frames long more small =
    subst (λ k. IsAtWork c (record { stack = s; at = k; piece = None })) at
    (fresh_at_work c s (subst CanWork (sym thread) works)
    (subst (λ (t : Thread). AreLinked (map unit_of t.units.now) c) (sym thread) linked)
    (subst (λ t. IsTaskStart c t s.start) (sym thread) (subst (IsTaskStart c th) (sym at) starts)) away frames room.bodies
    (subst (λ n. HasRoom c room.bodies n (extent_in (first_body s.thread s.start))) (sym long)
    (subst (λ k. HasRoom c room.bodies room.slots (extent_in (first_body s.thread k))) (sym at)
    (subst (λ (t : Thread). HasRoom c room.bodies room.slots (extent_in (first_body t start))) (sym thread) (enough small))))
    more (omega (arith, long, small)))
