-- What stands at a place of a program, and the names of its operations.
use Rattle.std.proofs.Common.{◌≡◌, ℕ, ◌<◌, Bool, true, ◌&&◌, List, [], ◌∷◌, length, map, get_or, arith, Option, Some, slice_get, ap, sym, subst, ◌∙◌}
use Rattle.std.specs.Prelude.{option_map, unwrap_or}
use Rattle.std.proofs.lemmas.List.{length-map}
use Rattle.std.proofs.lemmas.Option.{slice_get-map}
use Rattle.seq_tree.specs.Names.{Name, same_name}
use Rattle.seq_tree.specs.Calls.{same_op}
use Rattle.seq_tree.specs.Operations.{Signature}
use Rattle.seq_tree.specs.Trees.{operation_of}
use Rattle.seq_tree.specs.declared.tree.OpText.{OpText}
use Rattle.seq_tree.specs.declared.tree.OpName.{OpName}
use Rattle.ada_tree.specs.Programs.{Unit, Program}
use Rattle.ada_tree.specs.Bodies.{heads}
use Rattle.ada_tree.specs.Trees.{form_of, program_of, unit_of}
use Rattle.ada_tree.specs.declared.program.AdaProgram.{AdaProgram}
use Rattle.ada_tree.specs.declared.program.Unit as units
use Rattle.trace_tree.specs.Lines.{unit_name, unit_ops}
use Rattle.guarantee.specs.Events.{op_at}
use Rattle.trace_text.proofs.Shared.Names.{read-map, unit_name-read}

pub unit-read : (p : AdaProgram) (unit : ℕ) (u : units.Unit) → unit < length (program_of p).units → u ≡ get_or p.units.items unit u
    → slice_get (program_of p).units unit ≡ Some (unit_of u)
unit-read p unit u h e = read-map unit_of p.units.items unit u h e

pub name-read : (ops : List OpText) (place : ℕ) (o : OpText) → place < length (map (λ q. q.sig) (map operation_of ops)) → o ≡ get_or ops place o
    → option_map (λ h. h.name) (slice_get (map (λ q. q.sig) (map operation_of ops)) place) ≡ Some o.sig.name
name-read ops place o h e =
    let short : place < length (map operation_of ops) = omega (arith, h, length-map (map operation_of ops) (λ q. q.sig)) in
    rw (slice_get-map (λ q. q.sig) (map operation_of ops) place, read-map operation_of ops place o short e)

pub only-name : (head : Signature) (place : ℕ) → place < length (head ∷ []) → option_map (λ h. h.name) (slice_get (head ∷ []) place) ≡ Some head.name
only-name head place h =
    let e : place ≡ 0 = omega (arith, h) in
    rw e

-- the unit at a place, by its name and its operations
pub unit-name : (p : Program) (unit : ℕ) (u : Unit) → slice_get p.units unit ≡ Some u → unit_name p unit ≡ u.name
unfolding unit_name
unit-name p unit u e = rw e

pub unit-ops : (p : Program) (unit : ℕ) (u : Unit) → slice_get p.units unit ≡ Some u → unit_ops p unit ≡ heads u.form
unfolding unit_ops
unit-ops p unit u e = rw e

pub op-read : (p : Program) (unit op : ℕ) (u : Unit) (name : Name) → slice_get p.units unit ≡ Some u
    → option_map (λ h. h.name) (slice_get (heads u.form) op) ≡ Some name
    → op_at p unit op ≡ (let n : OpName = record { object = u.name; op = name } in n)
op-read p unit op u name at e =
    let F : Name → List Signature → OpName = λ x hs. record { object = x; op = unwrap_or (option_map (λ o. o.name) (slice_get hs op)) [] } in
    let G : Option Name → OpName = λ o. record { object = u.name; op = unwrap_or o [] } in
    ap (λ x. F x (unit_ops p unit)) (unit-name p unit u at) ∙ ap (F u.name) (unit-ops p unit u at) ∙ ap G e

pub op-within : (p : AdaProgram) (unit op : ℕ) (u : units.Unit) → slice_get (program_of p).units unit ≡ Some (unit_of u)
    → op < length (unit_ops (program_of p) unit) → op < length (heads (form_of u.form))
op-within p unit op u at h = subst (λ hs. op < length hs) (unit-ops (program_of p) unit (unit_of u) at) h

pub op-is : (p : AdaProgram) (unit op : ℕ) (u : units.Unit) (object name name' : Name) → slice_get (program_of p).units unit ≡ Some (unit_of u)
    → option_map (λ h. h.name) (slice_get (heads (form_of u.form)) op) ≡ Some name' → (a b : Bool) → a ≡ same_name object u.name
    → b ≡ same_name name name' → a && b ≡ same_op (record { object = object; op = name }) (op_at (program_of p) unit op)
op-is p unit op u object name name' at e a b f g =
    let n : OpName = record { object = object; op = name } in
    ap (λ z. z && b) f ∙ ap (λ z. same_name object u.name && z) g ∙ ap (same_op n) (sym (op-read (program_of p) unit op (unit_of u) name' at e))

pub op-then : (p : AdaProgram) (unit op : ℕ) (u : units.Unit) (object name name' : Name) → slice_get (program_of p).units unit ≡ Some (unit_of u)
    → option_map (λ h. h.name) (slice_get (heads (form_of u.form)) op) ≡ Some name' → (a b : Bool) → a ≡ same_name object u.name
    → b ≡ same_name name name' → a ≡ true → b ≡ same_op (record { object = object; op = name }) (op_at (program_of p) unit op)
op-then p unit op u object name name' at e a b f g h = ap (λ z. z && b) (sym h) ∙ op-is p unit op u object name name' at e a b f g

pub ruleset unit_steps = (unit-read, unit_name-read)

pub ruleset read_steps = (op-within, op-is)

pub ruleset name_steps = (name-read, only-name, length-map)
