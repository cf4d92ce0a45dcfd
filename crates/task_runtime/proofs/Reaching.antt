-- What a piece reaches before its effect: the cases of its instruction.
use Rattle.std.proofs.Common.{◌≡◌, ℕ, List, [], Option, Some, None, refl, ap, sym, subst, ◌∙◌}
use Rattle.std.specs.Prelude.{IfSome, option_map, slice_get}
use Rattle.std.proofs.lemmas.Option.{same_Some, slice_get-map}
use Rattle.seq_tree.specs.Names.{Name}
use Rattle.machine.specs.Systems.{CallTarget, Plain, Protected, ProtectedUnit, Request, Unknown, callee}
use Rattle.linker.specs.declared.nodes.Operand.{Operand}
use Rattle.linker.specs.Callees.{OpBody, body_of}
use Rattle.linker.specs.Programs.{datum_names}
use Rattle.linker.specs.Standing.{lists_of}
use Rattle.linker.specs.declared.code.Ins.{Ins}
use Rattle.linker.specs.declared.code.Ins.TheVariants as ins
use Rattle.linker.specs.declared.program.LinkedUnits.{LinkedUnits}
use Rattle.linker.specs.declared.tables.OpBody as code
use Rattle.task_runtime.specs.Written.{system_of}
use Rattle.task_runtime.specs.Doings.{EndsBody, HasNoOwner, IsEntry, IsOwn, StaysOutside, owner_at}
use Rattle.task_runtime.specs.Sounds.{IsAtWork, IsBodyOf, IsPieceAt, owner_of}
use Rattle.task_runtime.specs.declared.piece.Piece as piece
use Rattle.task_runtime.specs.declared.piece.Piece.TheVariants as is
use Rattle.task_runtime.specs.declared.progress.Progress.{Progress}
use Rattle.task_runtime.proofs.Begun.{the_call}
use Rattle.task_runtime.proofs.Callings.{object_vars}

-- what stands at a place of the operations
pub owner_there : (c : LinkedUnits) (place : ℕ) (d : code.OpBody) → slice_get c.ops.items place ≡ Some d → owner_at c place ≡ Some (body_of d)
owner_there c place d there = slice_get-map body_of c.ops.items place ∙ ap (option_map body_of) there

pub enters : (c : LinkedUnits) (q : piece.Piece) (place first outs : ℕ) (d : code.OpBody) (owner : ℕ × ℕ) → q ≡ is.Here (ins.Call place first outs)
    → slice_get c.ops.items place ≡ Some d → d.owner ≡ Some owner → IsEntry c q owner.0 owner.1
enters c q place first outs d owner e there has =
    subst (λ z. IsEntry c z owner.0 owner.1) (sym e) (body_of d, owner_there c place d there, has)

pub calls_own : (c : LinkedUnits) (q : piece.Piece) (place first outs : ℕ) (d : code.OpBody) → q ≡ is.Here (ins.Call place first outs)
    → slice_get c.ops.items place ≡ Some d → d.owner ≡ None → IsOwn c q
calls_own c q place first outs d e there none = subst (IsOwn c) (sym e) (subst HasNoOwner (sym (owner_there c place d there)) none)

-- an instruction that neither calls nor requests
pub rests_own : (c : LinkedUnits) (x : Ins) → ((place first outs : ℕ) → x ≡ ins.Call place first outs → ⊥)
    → ((task : ℕ) (v : Option Operand) → x ≡ ins.Request task v → ⊥) → IsOwn c (is.Here x)
rests_own c (ins.Call place first outs) no_call no_request = absurd (no_call place first outs refl)
rests_own c (ins.Request task v) no_call no_request = absurd (no_request task v refl)
rests_own c ins.Null no_call no_request = tt
rests_own c (ins.Work ticks) no_call no_request = tt
rests_own c (ins.Assign slot v) no_call no_request = tt
rests_own c (ins.Put v) no_call no_request = tt
rests_own c (ins.Test v other) no_call no_request = tt
rests_own c (ins.Exit v to) no_call no_request = tt
rests_own c (ins.Jump to) no_call no_request = tt
rests_own c (ins.Begin counter low) no_call no_request = tt
rests_own c (ins.Next counter last start) no_call no_request = tt
rests_own c ins.Nowhere no_call no_request = tt
rests_own c ins.Return no_call no_request = tt
rests_own c ins.Finish no_call no_request = tt

-- the end of an operation of an object has an owner
pub close_owned : (c : LinkedUnits) (p : Progress) → IsAtWork c p → p.piece ≡ Some is.Close → owner_of p.stack ≡ None → ⊥
close_owned c p h e none =
    let k = subst (IsPieceAt (lists_of c.code) p.stack p.at) e h.piece in
    absurd (no k.1 (sym none ∙ k.2))
  where
    no : (o : ℕ × ℕ) → ◌≡◌ {A = Option (ℕ × ℕ)} None (Some o) → ⊥
    no o f = cc

-- a jump is no piece
pub no_jump : (c : LinkedUnits) (p : Progress) → IsAtWork c p → (to : ℕ) → p.piece ≡ Some (is.Here (ins.Jump to)) → ⊥
no_jump c p h to e = (subst (IsPieceAt (lists_of c.code) p.stack p.at) e h.piece).1

-- the end of a passive operation
pub return_bare : (c : LinkedUnits) (p : Progress) → IsAtWork c p → p.piece ≡ Some (is.Here ins.Return) → owner_of p.stack ≡ None
return_bare c p h e = (subst (IsPieceAt (lists_of c.code) p.stack p.at) e h.piece).2

pub return_ends : (o : Option piece.Piece) → o ≡ Some (is.Here ins.Return) → EndsBody o
return_ends o e = subst EndsBody (sym e) tt

pub close_ends : (o : Option piece.Piece) → o ≡ Some is.Close → EndsBody o
close_ends o e = subst EndsBody (sym e) tt

-- a piece that enters an object is a call
pub record EntersAt (c : LinkedUnits) (q : piece.Piece) (object place : ℕ) : Type 0 where
  pub op : ℕ
  pub first : ℕ
  pub outs : ℕ
  pub is' : q ≡ is.Here (ins.Call op first outs)

pub enters_at : (c : LinkedUnits) (q : piece.Piece) (object place : ℕ) → IsEntry c q object place → EntersAt c q object place
enters_at c (is.Here (ins.Call op first outs)) object place e = record { op = op; first = first; outs = outs; is' = refl }
enters_at c (is.Here ins.Null) object place e = absurd e
enters_at c (is.Here (ins.Work ticks)) object place e = absurd e
enters_at c (is.Here (ins.Assign slot v)) object place e = absurd e
enters_at c (is.Here (ins.Put v)) object place e = absurd e
enters_at c (is.Here (ins.Test v other)) object place e = absurd e
enters_at c (is.Here (ins.Exit v to)) object place e = absurd e
enters_at c (is.Here (ins.Jump to)) object place e = absurd e
enters_at c (is.Here (ins.Begin counter low)) object place e = absurd e
enters_at c (is.Here (ins.Next counter last start)) object place e = absurd e
enters_at c (is.Here (ins.Request task v)) object place e = absurd e
enters_at c (is.Here ins.Nowhere) object place e = absurd e
enters_at c (is.Here ins.Return) object place e = absurd e
enters_at c (is.Here ins.Finish) object place e = absurd e
enters_at c (is.Turn counter start) object place e = absurd e
enters_at c is.Close object place e = absurd e
enters_at c (is.Keep q) object place e = absurd e
enters_at c (is.Open q) object place e = absurd e
enters_at c (is.Requested q) object place e = absurd e

-- what is entered, by the piece of a task
pub entry_of : (c : LinkedUnits) (o : Option piece.Piece) (object place op first outs : ℕ) → IfSome o (λ q. IsEntry c q object place)
    → o ≡ Some (is.Here (ins.Call op first outs)) → (b : OpBody) × (owner_at c op ≡ Some b) × (b.owner ≡ Some (object, place))
entry_of c o object place op first outs h e = subst (λ z. IfSome z (λ q. IsEntry c q object place)) e h

-- an operation that no protected object has knows no data
bare_body : (k : CallTarget) (b : OpBody) → IsBodyOf k b → b.owner ≡ None → b.vars ≡ []
bare_body (Plain o) b h none = ap (λ d. d.vars) h
bare_body (Protected object place g o) b h none = absurd (no (sym (ap (λ d. d.owner) h) ∙ none))
  where
    no : ◌≡◌ {A = Option (ℕ × ℕ)} (Some (object, place)) None → ⊥
    no e = cc
bare_body (Request task) b h none = absurd h
bare_body Unknown b h none = absurd h

pub none_lent : (c : LinkedUnits) (p : Progress) (h : IsAtWork c p) (place first outs : ℕ) → p.piece ≡ Some (is.Here (ins.Call place first outs))
    → StaysOutside c (is.Here (ins.Call place first outs)) → (b : OpBody) → owner_at c place ≡ Some b → [] ≡ datum_names b.vars
none_lent c p h place first outs e outside b there =
    let k = the_call c p h place first outs e in
    let same : b ≡ k.body = same_Some b k.body (sym there ∙ k.there) in
    let none : b.owner ≡ None = subst HasNoOwner there outside in
    sym (ap datum_names (bare_body (callee (system_of p.stack.thread) k.unit k.op) b
    (subst (IsBodyOf (callee (system_of p.stack.thread) k.unit k.op)) (sym same) k.is_body) none))

-- and one that an object has knows those of the object
pub all_lent : (c : LinkedUnits) (p : Progress) (h : IsAtWork c p) (place first outs : ℕ) → p.piece ≡ Some (is.Here (ins.Call place first outs))
    → (object op : ℕ) (b : OpBody) → owner_at c place ≡ Some b → b.owner ≡ Some (object, op) → (ns : List Name)
    → ((g : ProtectedUnit) → slice_get (system_of p.stack.thread).objects object ≡ Some g → ns ≡ datum_names g.vars)
    → (d : OpBody) → owner_at c place ≡ Some d → ns ≡ datum_names d.vars
all_lent c p h place first outs e object op b there owner ns named d there' =
    let y = system_of p.stack.thread in
    let k = the_call c p h place first outs e in
    let same : b ≡ k.body = same_Some b k.body (sym there ∙ k.there) in
    let other : d ≡ b = same_Some d b (sym there' ∙ there) in
    let g = object_vars y k.unit k.op (callee y k.unit k.op) b object op refl (subst (IsBodyOf (callee y k.unit k.op)) (sym same) k.is_body)
    owner in
    named g.0 g.1 ∙ ap datum_names (sym g.2) ∙ ap (λ z. datum_names z.vars) (sym other)
