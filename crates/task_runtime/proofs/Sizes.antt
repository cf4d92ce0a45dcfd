-- How many slots the body that runs has, and where a protected object has its operation, by the innermost call.
use Rattle.std.proofs.Common.{◌≡◌, ℕ, Bool, ◌+◌, List, [], ◌∷◌, ◌++◌, None, length, take, drop, refl, ap, sym, ◌∙◌, arith}
use Rattle.std.proofs.lemmas.List.{length-append, length-map}
use Rattle.seq_tree.specs.declared.tree.Datum.{Datum}
use Rattle.seq_tree.specs.declared.tree.Param.{Param}
use Rattle.linker.specs.Callees.{body_of}
use Rattle.linker.specs.Programs.{datum_names, op_part, param_names, task_part}
use Rattle.task_runtime.specs.Written.{thread_of, timing_of}
use Rattle.task_runtime.specs.declared.thread.Timing.TheVariants.{Periodic, Requested}
use Rattle.task_runtime.specs.Bodies.{Body, first_body, into, running, size_of}
use Rattle.task_runtime.specs.Lefts.{running_of}
use Rattle.task_runtime.specs.Sounds.{owner_by, owner_of}
use Rattle.task_runtime.specs.declared.piece.Frame.{Frame}
use Rattle.task_runtime.specs.declared.stack.Stack.{Stack}
use Rattle.task_runtime.proofs.Calls.{names_count}
use Rattle.task_runtime.proofs.Stacks.{owner_pushed}
use Rattle.machine.specs.Systems.{request_params}

names_running : (r : Body) (fs : List Frame) (f : Frame) (away : List ℕ) → (running r (fs ++ f ∷ []) away).names ≡ (op_part (body_of f.body)).names
names_running r [] f away = refl
names_running r (g ∷ fs) f away = names_running (into r g (take g.away away)) fs f (drop g.away away)

-- inside a call
module _ (s : Stack) (rest : List Frame) (f : Frame) (is : s.frames.items ≡ rest ++ f ∷ []) where
  pub size_called : size_of (running_of s)
      ≡ length f.body.op.now.sig.params.items + length f.body.op.now.locals.items + length f.body.vars.now + 194
  size_called =
      let e = ap (λ fs. length (running (first_body s.thread s.start) fs s.slots.away).names) is
      ∙ ap length (names_running (first_body s.thread s.start) rest f s.slots.away) ∙ names_count (body_of f.body) in
      omega (arith, e)

  pub owner_called : f.body.owner ≡ owner_of s
  owner_called = sym (ap (owner_by None) is ∙ owner_pushed None rest f)

-- in the block of a task
module _ (s : Stack) (none : s.frames.items ≡ []) where
  size_bare : size_of (running_of s) ≡ length (task_part (thread_of s.thread)).names + 194
  size_bare = ap (λ fs. size_of (running (first_body s.thread s.start) fs s.slots.away)) none

  pub owner_bare : None ≡ owner_of s
  owner_bare = sym (ap (owner_by None) none)

  pub size_periodic : (offset period : ℕ) → s.thread.timing ≡ Periodic offset period → size_of (running_of s) ≡ length s.thread.«data».now + 194
  size_periodic offset period is =
      let e = ap (λ t. length (param_names (request_params (timing_of t)) ++ datum_names s.thread.«data».now)) is
      ∙ length-map s.thread.«data».now (λ (d : Datum). d.name) in
      size_bare ∙ ap (λ k. k + 194) e

  pub size_requested : (op : _) (ceiling separation jitter : ℕ) (external : Bool) → s.thread.timing ≡ Requested op ceiling separation jitter external
      → size_of (running_of s) ≡ length op.now.params.items + length s.thread.«data».now + 194
  size_requested op ceiling separation jitter external is =
      let e = ap (λ t. length (param_names (request_params (timing_of t)) ++ datum_names s.thread.«data».now)) is
      ∙ length-append (param_names op.now.params.items) (datum_names s.thread.«data».now) in
      let a = length-map op.now.params.items (λ (q : Param). q.name) in
      let b = length-map s.thread.«data».now (λ (d : Datum). d.name) in
      let z = size_bare in
      omega (arith, e, a, b, z)
