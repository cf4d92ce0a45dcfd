-- What holds of a task at work over linked code: what follows from the piece that it has, and how sections and effects are counted.
use Rattle.std.specs.Prelude.{◌≡◌, ◌⊎◌, ℕ, Bool, true, false, ◌||◌, suc, ◌+◌, ◌-◌, ◌<◌, ◌≤◌, min, vec_capacity, fold, List, [], ◌∷◌, length}
use Rattle.std.specs.Prelude.{slice_get}
use Rattle.std.specs.Prelude.{Option, Some, None, refl}
use Rattle.std.proofs.Common.{ap, subst, ◌∙◌, sym, arith, inl, inr}
use Rattle.std.proofs.lemmas.Option.{same_Some}
use Rattle.seq_tree.specs.Names.{Name}
use Rattle.seq_tree.specs.Variables.{Variables}
use Rattle.seq_tree.specs.declared.tree.Costs.{Costs}
use Rattle.machine.specs.Systems.{System, CallTarget, Plain, Protected, ProtectedUnit, Request, Unknown, callee}
use Rattle.machine.specs.Pieces as pieces
use Rattle.machine.specs.Releases.{going}
use Rattle.machine.specs.Effects.{ended, inside_now, outside_by, outside_now}
use Rattle.machine.specs.States as states
use Rattle.machine.specs.States.{Resource}
use Rattle.linker.specs.Callees.{OpBody}
use Rattle.linker.specs.declared.code.Ins.TheVariants as ins
use Rattle.linker.specs.declared.program.LinkedUnits.{LinkedUnits}
use Rattle.task_runtime.specs.Callable.{op_name}
use Rattle.task_runtime.specs.Doing.{act_of}
use Rattle.task_runtime.specs.Effort.{effort, sections_among}
use Rattle.task_runtime.specs.Insides.{inside_of, with_held}
use Rattle.task_runtime.specs.Progressed.{is_idle}
use Rattle.task_runtime.specs.Readies.{is_ready}
use Rattle.task_runtime.specs.Works.{Acts, EffortFalls, IsNested}
use Rattle.task_runtime.specs.Written.{reserve, system_of}
use Rattle.task_runtime.specs.declared.effects.Act.{Act}
use Rattle.task_runtime.specs.declared.inside.Held.{Held}
use Rattle.task_runtime.specs.declared.thread.Thread.{Thread}
use Rattle.task_runtime.proofs.Shared.AtWork.{going-inside}
use Rattle.task_runtime.proofs.Shared.Doings.{op-below, protected-at, request-at}
use Rattle.task_runtime.proofs.Shared.Starting.{effort-most}
use Rattle.task_runtime.specs.Doings.{IsAsk, IsEntry, IsOwn, StaysOutside}
use Rattle.task_runtime.specs.Lefts.{pieces_left}
use Rattle.task_runtime.specs.Sounds.{IsAtWork, IsBodyOf, owner_of}
use Rattle.task_runtime.specs.Tasks.{ActsAs, IsActOf, task_of}
use Rattle.task_runtime.specs.declared.piece.Deed.{Deed}
use Rattle.task_runtime.specs.declared.piece.Piece.{Piece}
use Rattle.task_runtime.specs.declared.piece.Piece.TheVariants as is
use Rattle.task_runtime.specs.declared.task.Task.{Task}
use Rattle.task_runtime.proofs.Endings.{end_protected}
use Rattle.task_runtime.proofs.Firsts.{StandsFor, first_at, none_at}
use Rattle.task_runtime.proofs.Reaching.{close_ends}
use Rattle.task_runtime.proofs.Starting.{few_left, few_sections}

pub piece-none : (c : LinkedUnits) (t : Task) → IsAtWork c t.progress → t.progress.piece ≡ None → (task_of t).pieces ≡ []
piece-none c t h none = none_at c t.progress h none

pub piece-ready : (c : LinkedUnits) (t : Task) → IsAtWork c t.progress → (p : Piece) → t.progress.piece ≡ Some p → is_ready t.readiness ≡ true
piece-ready c t h p is = by_ready (is_ready t.readiness) refl t.asleep
  where
    some_pieces : is_idle (pieces_left t.progress) ≡ false
    some_pieces = ap is_idle (first_at c t.progress h p is).first

    clash : false ≡ true → ⊥
    clash k = cc

    by_ready : (r : Bool) → is_ready t.readiness ≡ r → (r || is_idle (pieces_left t.progress)) ≡ true → is_ready t.readiness ≡ true
    by_ready true e k = e
    by_ready false e k = absurd (clash (sym some_pieces ∙ k))

-- a task that is not ready has nothing left
pub rests-idle : (t : Task) → is_ready t.readiness ≡ false → (task_of t).pieces ≡ []
rests-idle t not = by_pieces (pieces_left t.progress) refl
  where
    clash : false ≡ true → ⊥
    clash k = cc

    by_pieces : (ps : List pieces.Piece) → pieces_left t.progress ≡ ps → pieces_left t.progress ≡ []
    by_pieces [] e = e
    by_pieces (p ∷ ps) e = absurd (clash (sym (ap (λ b. b || is_idle (pieces_left t.progress)) not ∙ ap is_idle e) ∙ t.asleep))

-- a task without a piece whose ticks are used has no effect
pub nothing-due : (c : LinkedUnits) (t : Task) → IsAtWork c t.progress → (t.progress.piece ≡ None) ⊎ (t.left ≡ 0 → ⊥)
    → ((task_of t).pieces ≡ []) ⊎ (t.left ≡ 0 → ⊥)
nothing-due c t h (inl none) = inl (piece-none c t h none)
nothing-due c t h (inr some) = inr some

pub effort-few : (c : LinkedUnits) (most : ℕ) (t : Task) → IsAtWork c t.progress → reserve t.progress.stack.thread ≤ most
    → effort most (task_of t).pieces ≤ most
effort-few c most t h enough =
    let few = few_left c t.progress h in
    effort-most most (pieces_left t.progress) (omega (arith, few, enough))

-- a piece of a task's own enters no protected object and leaves none
pub stays-own : (c : LinkedUnits) (p : Piece) → IsOwn c p → StaysOutside c p
stays-own c (is.Here ins.Null) h = tt
stays-own c (is.Here (ins.Work ticks)) h = tt
stays-own c (is.Here (ins.Assign slot v)) h = tt
stays-own c (is.Here (ins.Put v)) h = tt
stays-own c (is.Here (ins.Test v other)) h = tt
stays-own c (is.Here (ins.Exit v to)) h = tt
stays-own c (is.Here (ins.Jump to)) h = tt
stays-own c (is.Here (ins.Begin counter low)) h = tt
stays-own c (is.Here (ins.Next counter last start)) h = tt
stays-own c (is.Here (ins.Call place first outs)) h = h
stays-own c (is.Here (ins.Request task v)) h = tt
stays-own c (is.Here ins.Nowhere) h = tt
stays-own c (is.Here ins.Return) h = tt
stays-own c (is.Here ins.Finish) h = tt
stays-own c (is.Turn counter start) h = tt
stays-own c is.Close h = h
stays-own c (is.Keep q) h = tt
stays-own c (is.Open q) h = tt
stays-own c (is.Requested q) h = tt

-- and so does one that requests a task
asks_outside : (c : LinkedUnits) (p : Piece) (task : ℕ) → IsAsk p task → StaysOutside c p
asks_outside c (is.Here ins.Null) task h = tt
asks_outside c (is.Here (ins.Work ticks)) task h = tt
asks_outside c (is.Here (ins.Assign slot v)) task h = tt
asks_outside c (is.Here (ins.Put v)) task h = tt
asks_outside c (is.Here (ins.Test v other)) task h = tt
asks_outside c (is.Here (ins.Exit v to)) task h = tt
asks_outside c (is.Here (ins.Jump to)) task h = tt
asks_outside c (is.Here (ins.Begin counter low)) task h = tt
asks_outside c (is.Here (ins.Next counter last start)) task h = tt
asks_outside c (is.Here (ins.Call place first outs)) task h = absurd h
asks_outside c (is.Here (ins.Request task' v)) task h = tt
asks_outside c (is.Here ins.Nowhere) task h = tt
asks_outside c (is.Here ins.Return) task h = tt
asks_outside c (is.Here ins.Finish) task h = tt
asks_outside c (is.Turn counter start) task h = tt
asks_outside c is.Close task h = h
asks_outside c (is.Keep q) task h = tt
asks_outside c (is.Open q) task h = tt
asks_outside c (is.Requested q) task h = tt

-- the task that it requests is one of the tasks
asks_among : (c : LinkedUnits) (t : Task) (p : Piece) (m : pieces.Piece) (rest : List pieces.Piece) → StandsFor c t.progress.stack p m rest
    → (task : ℕ) → IsAsk p task → task < length (system_of t.progress.stack.thread).threads
asks_among c t (is.Here (ins.Request task' v)) m rest st task h =
    let y = system_of t.progress.stack.thread in
    subst (λ k. k < length y.threads) h (request-at y (op_name st.0 st.1) task' st.4)
asks_among c t (is.Here ins.Null) m rest st task h = absurd h
asks_among c t (is.Here (ins.Work ticks)) m rest st task h = absurd h
asks_among c t (is.Here (ins.Assign slot v)) m rest st task h = absurd h
asks_among c t (is.Here (ins.Put v)) m rest st task h = absurd h
asks_among c t (is.Here (ins.Test v other)) m rest st task h = absurd h
asks_among c t (is.Here (ins.Exit v to)) m rest st task h = absurd h
asks_among c t (is.Here (ins.Jump to)) m rest st task h = absurd h
asks_among c t (is.Here (ins.Begin counter low)) m rest st task h = absurd h
asks_among c t (is.Here (ins.Next counter last start)) m rest st task h = absurd h
asks_among c t (is.Here (ins.Call place first outs)) m rest st task h = absurd h
asks_among c t (is.Here ins.Nowhere) m rest st task h = absurd h
asks_among c t (is.Here ins.Return) m rest st task h = absurd h
asks_among c t (is.Here ins.Finish) m rest st task h = absurd h
asks_among c t (is.Turn counter start) m rest st task h = absurd h
asks_among c t is.Close m rest st task h = absurd h
asks_among c t (is.Keep q) m rest st task h = absurd h
asks_among c t (is.Open q) m rest st task h = absurd h
asks_among c t (is.Requested q) m rest st task h = absurd h

pub stays-asking : (c : LinkedUnits) (t : Task) → IsAtWork c t.progress → (p : Piece) → t.progress.piece ≡ Some p → (task : ℕ) → IsAsk p task
    → StaysOutside c p × (task < length (system_of t.progress.stack.thread).threads)
stays-asking c t h p is task asks =
    let f = first_at c t.progress h p is in
    (asks_outside c p task asks, asks_among c t p f.piece f.rest f.stands task asks)

-- an object that is entered or left is there, with the operation
abbrev pub IsThere : System → ℕ → ℕ → Type 0
IsThere y object place = (g : ProtectedUnit) × (slice_get y.objects object ≡ Some g) × (place < length g.ops)

protected_there : (y : System) (unit op : Name) (k : CallTarget) (b : OpBody) (object place : ℕ) → callee y unit op ≡ k → IsBodyOf k b
    → b.owner ≡ Some (object, place) → IsThere y object place
protected_there y unit op (Plain o) b object place e h owner = absurd (none (sym (ap (λ d. d.owner) h) ∙ owner))
  where
    none : ◌≡◌ {A = Option (ℕ × ℕ)} None (Some (object, place)) → ⊥
    none k = cc
protected_there y unit op (Protected object' place' g o) b object place e h owner =
    let same = same_Some (object', place') (object, place) (sym (ap (λ d. d.owner) h) ∙ owner) in (
      g,
      ap (slice_get y.objects) (sym (ap (λ (w : ℕ × ℕ). w.0) same)) ∙ protected-at y (op_name unit op) object' place' g o e,
      subst (λ (w : ℕ × ℕ). w.1 < length g.ops) same (op-below y (op_name unit op) object' place' g o e),
    )
protected_there y unit op (Request task) b object place e h owner = absurd h
protected_there y unit op Unknown b object place e h owner = absurd h

enters_there : (c : LinkedUnits) (t : Task) (p : Piece) (m : pieces.Piece) (rest : List pieces.Piece) → StandsFor c t.progress.stack p m rest
    → (object place : ℕ) → IsEntry c p object place → IsThere (system_of t.progress.stack.thread) object place
enters_there c t (is.Here (ins.Call at first outs)) m rest st object place h =
    let y = system_of t.progress.stack.thread in
    let k = same_Some st.3 h.0 (sym st.6 ∙ h.1) in
    protected_there y st.0 st.1 (callee y st.0 st.1) st.3 object place refl st.5 (ap (λ z. z.owner) k ∙ h.2)
enters_there c t (is.Here (ins.Request task v)) m rest st object place h = absurd h
enters_there c t (is.Here ins.Null) m rest st object place h = absurd h
enters_there c t (is.Here (ins.Work ticks)) m rest st object place h = absurd h
enters_there c t (is.Here (ins.Assign slot v)) m rest st object place h = absurd h
enters_there c t (is.Here (ins.Put v)) m rest st object place h = absurd h
enters_there c t (is.Here (ins.Test v other)) m rest st object place h = absurd h
enters_there c t (is.Here (ins.Exit v to)) m rest st object place h = absurd h
enters_there c t (is.Here (ins.Jump to)) m rest st object place h = absurd h
enters_there c t (is.Here (ins.Begin counter low)) m rest st object place h = absurd h
enters_there c t (is.Here (ins.Next counter last start)) m rest st object place h = absurd h
enters_there c t (is.Here ins.Nowhere) m rest st object place h = absurd h
enters_there c t (is.Here ins.Return) m rest st object place h = absurd h
enters_there c t (is.Here ins.Finish) m rest st object place h = absurd h
enters_there c t (is.Turn counter start) m rest st object place h = absurd h
enters_there c t is.Close m rest st object place h = absurd h
enters_there c t (is.Keep q) m rest st object place h = absurd h
enters_there c t (is.Open q) m rest st object place h = absurd h
enters_there c t (is.Requested q) m rest st object place h = absurd h

pub entry-there : (c : LinkedUnits) (t : Task) → IsAtWork c t.progress → (p : Piece) → t.progress.piece ≡ Some p → (object place : ℕ)
    → IsEntry c p object place → IsThere (system_of t.progress.stack.thread) object place
entry-there c t h p is object place enters =
    let f = first_at c t.progress h p is in
    enters_there c t p f.piece f.rest f.stands object place enters

pub exit-there : (c : LinkedUnits) (t : Task) → IsAtWork c t.progress → t.progress.piece ≡ Some is.Close → (object place : ℕ)
    → owner_of t.progress.stack ≡ Some (object, place) → IsThere (system_of t.progress.stack.thread) object place
exit-there c t h is object place owner =
    let e = end_protected c t.progress h (close_ends t.progress.piece is) in
    protected_there (system_of t.progress.stack.thread) e.unit e.op (callee (system_of t.progress.stack.thread) e.unit e.op) e.body object place refl
    e.is_body (sym e.owner ∙ owner)

-- the act of a piece is as it reaches
pub reached-act : (z : System) (costs : Costs) (t t' : states.Task) (d : Deed) (act : Act) → ActsAs z t d → Acts z costs t act t'
    → IsActOf d (act_of act)
reached-act z costs t t' d act reaches a = subst (λ o. IsActOf d o.act) (a.does z (λ unit op. refl))
    (reaches a.piece a.rest a.first z (λ unit op. refl))

-- a task that leaves a section goes on with the same
module _ (t : Task) (t' t'' : Task) (does : task_of t'' ≡ outside_now (task_of t')) where
  pub outside-works : t'.works ≤ t.works + min t'.left 1 → t''.works ≤ t.works + min t''.left 1
  outside-works h = subst (λ (x : states.Task). x.works ≤ t.works + min x.left 1) (sym does) (by_inside (task_of t').inside)
    where
      by_inside : (hs : List states.Held) → (outside_by hs (task_of t')).works ≤ t.works + min (outside_by hs (task_of t')).left 1
      by_inside [] = h
      by_inside (x ∷ xs) = h

  pub outside-falls : (thread : Thread) → EffortFalls thread (task_of t) (task_of t') → EffortFalls thread (task_of t) (task_of t'')
  outside-falls thread h = subst (EffortFalls thread (task_of t)) (sym does) (by_inside (task_of t').inside)
    where
      by_inside : (hs : List states.Held) → EffortFalls thread (task_of t) (outside_by hs (task_of t'))
      by_inside [] = h
      by_inside (x ∷ xs) = h

-- and so does one that enters one
module _ (t : Task) (t' t'' : Task) (section : Resource) (ceiling : ℕ) (does : task_of t'' ≡ inside_now section ceiling (task_of t')) where
  pub inside-works : t'.works ≤ t.works + min t'.left 1 → t''.works ≤ t.works + min t''.left 1
  inside-works h = subst (λ (x : states.Task). x.works ≤ t.works + min x.left 1) (sym does) h

  pub inside-falls : (thread : Thread) → EffortFalls thread (task_of t) (task_of t') → EffortFalls thread (task_of t) (task_of t'')
  inside-falls thread h = subst (EffortFalls thread (task_of t)) (sym does) h

-- a task that goes on leaves as many sections still as it is inside
pub nests-going : (t t' : Task) (costs : Costs) (vars : Variables) (ps : List pieces.Piece) → task_of t' ≡ going costs vars ps (task_of t)
    → sections_among (task_of t').pieces ≡ sections_among (task_of t).pieces
    → IsNested (task_of t) → IsNested (task_of t')
nests-going t t' costs vars ps does same h =
    let inside = ap (λ v. length v.inside) does ∙ ap length (going-inside costs vars ps (task_of t)) in
    omega (arith, h, inside, same)

pub nests-ended : (t t' : Task) (vars : Variables) → task_of t' ≡ ended vars (task_of t)
    → sections_among (task_of t').pieces ≡ sections_among (task_of t).pieces → IsNested (task_of t) → IsNested (task_of t')
nests-ended t t' vars does same h =
    let inside = ap (λ v. length v.inside) does in
    omega (arith, h, inside, same)

pub nests-inside : (t t' t'' : Task) (costs : Costs) (vars : Variables) (ps : List pieces.Piece) → task_of t' ≡ going costs vars ps (task_of t)
    → sections_among (task_of t').pieces ≡ suc (sections_among (task_of t).pieces)
    → (section : Resource) (ceiling : ℕ) → task_of t'' ≡ inside_now section ceiling (task_of t') → IsNested (task_of t) → IsNested (task_of t'')
nests-inside t t' t'' costs vars ps does more section ceiling is h =
    let inside = ap (λ v. length v.inside) does ∙ ap length (going-inside costs vars ps (task_of t)) in
    let one = ap (λ v. length v.inside) is in
    let two = ap (λ v. sections_among v.pieces) is in
    omega (arith, h, inside, more, one, two)

pub nests-outside : (t t' t'' : Task) (costs : Costs) (vars : Variables) (ps : List pieces.Piece) → task_of t' ≡ going costs vars ps (task_of t)
    → sections_among (task_of t).pieces ≡ suc (sections_among (task_of t').pieces)
    → task_of t'' ≡ outside_now (task_of t') → IsNested (task_of t) → IsNested (task_of t'')
nests-outside t t' t'' costs vars ps does fewer is h =
    let inside = ap (λ v. length v.inside) does ∙ ap length (going-inside costs vars ps (task_of t)) in
    let one = ap (λ v. length v.inside) is in
    let two = ap (λ v. sections_among v.pieces) is in
    let held = by_inside (task_of t').inside refl in
    let still = by_pieces (task_of t').inside in
    omega (arith, h, inside, fewer, one, two, held, still)
  where
    by_inside : (hs : List states.Held) → (task_of t').inside ≡ hs → length (outside_by hs (task_of t')).inside ≤ length hs - 1
    by_inside [] e = let none = ap length e in omega (arith, none)
    by_inside (x ∷ xs) e = omega arith

    by_pieces : (hs : List states.Held) → sections_among (outside_by hs (task_of t')).pieces ≡ sections_among (task_of t').pieces
    by_pieces [] = refl
    by_pieces (x ∷ xs) = refl

-- there is room for a section that a task enters
length-inside : (rest : List states.Held) (hs : List Held) → length (fold with_held rest hs) ≡ length hs + length rest
length-inside rest [] = omega arith
length-inside rest (h ∷ hs) = let more = length-inside (with_held rest h) hs in omega (arith, more)

pub has-room : (c : LinkedUnits) (t t' : Task) (costs : Costs) (vars : Variables) (ps : List pieces.Piece) → IsAtWork c t'.progress
    → task_of t' ≡ going costs vars ps (task_of t)
    → sections_among (task_of t').pieces ≡ suc (sections_among (task_of t).pieces) → IsNested (task_of t)
    → length t'.inside.items < vec_capacity t'.inside
has-room c t t' costs vars ps works does more h =
    let inside = ap (λ v. length v.inside) does ∙ ap length (going-inside costs vars ps (task_of t)) in
    let count : length (inside_of t'.inside.items) ≡ length t'.inside.items + 0 = length-inside [] t'.inside.items in
    let few = few_sections c t'.progress works in
    let room = t'.room in
    omega (arith, h, inside, more, count, few, room)
