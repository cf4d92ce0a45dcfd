-- What stands at a place of a program that the code reads.
use Rattle.std.proofs.Common.{◌≡◌, ℕ, ◌<◌, List, [], ◌∷◌, ◌++◌, length, map, get_or, refl, arith, Some, slice_get, codes}
use Rattle.std.proofs.lemmas.List.{length-map}
use Rattle.std.proofs.lemmas.Option.{slice_get-map, slice_get_read}
use Rattle.seq_tree.specs.Operations.{Signature}
use Rattle.seq_tree.specs.Trees.{operation_of, signature_of}
use Rattle.seq_tree.specs.declared.tree.OpSig.{OpSig}
use Rattle.seq_tree.specs.declared.tree.OpText.{OpText}
use Rattle.ada_tree.specs.Bodies.{heads}
use Rattle.ada_tree.specs.Trees.{form_of, program_of, unit_of}
use Rattle.ada_tree.specs.declared.program.AdaProgram.{AdaProgram}
use Rattle.ada_tree.specs.declared.program.Unit as units
use Rattle.trace_tree.specs.Lines.{unit_name, unit_ops, op_name}

-- an item of a list, under a view
pub read-map : {A B : Type 0} (v : A → B) (xs : List A) (i : ℕ) (x : A) → i < length (map v xs) → x ≡ get_or xs i x → slice_get (map v xs) i
    ≡ Some (v x)
read-map v xs i x h e =
    let short : i < length xs = omega (arith, length-map xs v) in
    rw (slice_get-map v xs i, slice_get_read xs (length xs) i x refl short e)

-- the name of a unit
pub unit_name-read : (p : AdaProgram) (unit : ℕ) (u : units.Unit) → unit < length (program_of p).units → u ≡ get_or p.units.items unit u
    → unit_name (program_of p) unit ≡ u.name
unfolding unit_name
unit_name-read p unit u h e = rw (read-map unit_of p.units.items unit u h e)

-- the operations of a unit
pub unit_ops-read : (p : AdaProgram) (unit : ℕ) (u : units.Unit) → unit < length (program_of p).units → u ≡ get_or p.units.items unit u
    → unit_ops (program_of p) unit ≡ heads (form_of u.form)
unfolding unit_ops
unit_ops-read p unit u h e = rw (read-map unit_of p.units.items unit u h e)

-- the head of an operation that stands at a place
pub head-read : (ops : List OpText) (place : ℕ) (o : OpText) → place < length (map (λ q. q.sig) (map operation_of ops)) → o ≡ get_or ops place o
    → slice_get (map (λ q. q.sig) (map operation_of ops)) place ≡ Some (signature_of o.sig)
head-read ops place o h e =
    let short : place < length (map operation_of ops) = omega (arith, length-map (map operation_of ops) (λ q. q.sig)) in
    rw (slice_get-map (λ q. q.sig) (map operation_of ops) place, read-map operation_of ops place o short e)

-- the head of the one operation there is
pub only-read : (head : Signature) (place : ℕ) → place < length (head ∷ []) → slice_get (head ∷ []) place ≡ Some head
only-read head place h =
    let e : place ≡ 0 = omega (arith, h) in
    rw e

-- the name of the operation whose head stands at a place
pub op_name-read : (p : AdaProgram) (unit op : ℕ) (head : OpSig) → slice_get (unit_ops (program_of p) unit) op ≡ Some (signature_of head)
    → op_name (program_of p) unit op ≡ unit_name (program_of p) unit ++ (codes "." ++ head.name)
unfolding op_name
op_name-read p unit op head e = rw e

pub ruleset read_steps = (unit_name-read, unit_ops-read, op_name-read)

pub ruleset head_steps = (head-read, only-read, length-map)
