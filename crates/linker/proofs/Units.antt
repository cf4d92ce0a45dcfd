-- Units of a program one after another, and what calls of their names lead to.
use Rattle.std.proofs.Common.{◌≡◌, ℕ, suc, Bool, true, false, List, [], ◌∷◌, map, refl, ap, ◌+◌}
use Rattle.std.specs.Prelude.{Vec, if◌then◌else◌}
use Rattle.std.specs.declared.alloc.Global.{Global}
use Rattle.seq_tree.specs.Names.{Name, same_name}
use Rattle.seq_tree.specs.Operations.{Operation, Signature}
use Rattle.seq_tree.specs.Statements.{Statements}
use Rattle.seq_tree.specs.Trees.{block_of, operation_of, signature_of}
use Rattle.seq_tree.specs.declared.tree.Block.{Block}
use Rattle.seq_tree.specs.declared.tree.Datum.{Datum}
use Rattle.seq_tree.specs.declared.tree.OpSig.{OpSig}
use Rattle.seq_tree.specs.declared.tree.OpText.{OpText}
use Rattle.seq_tree.proofs.Shared.SameNames.{same-self}
use Rattle.ada_tree.specs.Programs.{Unit, Passive, Shared, Cyclic, Sporadic}
use Rattle.ada_tree.specs.Trees.{form_of, unit_of}
use Rattle.ada_tree.specs.declared.program.Form.TheVariants as form
use Rattle.ada_tree.specs.declared.program.Unit as units
use Rattle.machine.specs.Systems.{ProtectedUnit, TaskUnit, op_named, plain_by, protected_by, libraries_from, objects_from, threads_from}
use Rattle.machine.specs.Systems as to
use Rattle.linker.specs.Callees.{IsLed, OpBody, Passes, target_among}
use Rattle.linker.specs.Leads.{Request, Nowhere}

pub library_here : (name : Name) (os : List Operation) (n i m k : ℕ) (us : List Unit) (gs : List ProtectedUnit) (ts : List TaskUnit)
    → Passes name (λ op. plain_by (op_named op os)) (target_among n (libraries_from i (record { name = name; form = Passive os } ∷ us)) m gs k ts)
    (target_among (suc n) (libraries_from (i + 1) us) m gs k ts)
library_here name os n i m k us gs ts = record { here = λ op. rw (same-self name) refl; others = λ w op e. rw e refl }

-- a protected object as it is written
abbrev pub object_of : ℕ → Name → ℕ → List Datum → List Operation → ProtectedUnit
object_of i name ceiling vars os = record { unit = i; name = name; ceiling = ceiling; vars = vars; ops = os }

pub object_here : (name : Name) (ceiling : ℕ) (vars : List Datum) (os : List Operation) (m i k : ℕ) (us : List Unit) (ts : List TaskUnit)
    → Passes name (λ op. protected_by (m, object_of i name ceiling vars os) (op_named op os))
    (target_among 0 [] m (objects_from i (record { name = name; form = Shared ceiling vars os } ∷ us)) k ts)
    (target_among 0 [] (suc m) (objects_from (i + 1) us) k ts)
object_here name ceiling vars os m i k us ts = record { here = λ op. rw (same-self name) refl; others = λ w op e. rw e refl }

pub cyclic_here : (name : Name) (priority offset period : ℕ) (vars : List Datum) (block : Statements)
    (durations : ℕ → List ℕ) (k i : ℕ) (us : List Unit)
    → Passes name (λ op. to.Unknown)
    (target_among 0 [] 0 [] k (threads_from durations i (record { name = name; form = Cyclic priority offset period vars block } ∷ us)))
    (target_among 0 [] 0 [] (suc k) (threads_from durations (i + 1) us))
cyclic_here name priority offset period vars block durations k i us =
    record { here = λ op. rw (same-self name) refl; others = λ w op e. rw e refl }

pub sporadic_here : (name : Name) (priority ceiling : ℕ) (sig : Signature) (separation jitter : ℕ) (external : Bool) (vars : List Datum)
    (block : Statements) (durations : ℕ → List ℕ) (k i : ℕ) (us : List Unit)
    → Passes name (λ op. if same_name sig.name op then to.Request k else to.Unknown)
    (target_among 0 [] 0 [] k (threads_from durations i
    (record { name = name; form = Sporadic priority ceiling sig separation jitter external vars block } ∷ us)))
    (target_among 0 [] 0 [] (suc k) (threads_from durations (i + 1) us))
sporadic_here name priority ceiling sig separation jitter external vars block durations k i us =
    record { here = λ op. rw (same-self name) refl; others = λ w op e. rw e refl }

pub request_led : (b : Bool) (bs : List OpBody) (task : ℕ)
    → IsLed bs (if b then to.Request task else to.Unknown) (if b then Request task else Nowhere)
request_led true bs task = refl
request_led false bs task = refl

-- a unit by what it is
pub as_passive : (u : units.Unit) (ops : Vec OpText Global) → u.form ≡ form.Passive ops
    → unit_of u ≡ record { name = u.name; form = Passive (map operation_of ops.items) }
as_passive u ops e = ap (λ f. let v : Unit = record { name = u.name; form = form_of f } in v) e

pub as_shared : (u : units.Unit) (ceiling : ℕ) (vars : Vec Datum Global) (ops : Vec OpText Global) → u.form ≡ form.Shared ceiling vars ops
    → unit_of u ≡ record { name = u.name; form = Shared ceiling vars.items (map operation_of ops.items) }
as_shared u ceiling vars ops e = ap (λ f. let v : Unit = record { name = u.name; form = form_of f } in v) e

pub as_cyclic : (u : units.Unit) (priority offset period : ℕ) (vars : Vec Datum Global) (block : Block)
    → u.form ≡ form.Cyclic priority offset period vars block
    → unit_of u ≡ record { name = u.name; form = Cyclic priority offset period vars.items (block_of block) }
as_cyclic u priority offset period vars block e = ap (λ f. let v : Unit = record { name = u.name; form = form_of f } in v) e

pub as_sporadic : (u : units.Unit) (priority ceiling : ℕ) (op : OpSig) (separation jitter : ℕ) (external : Bool) (vars : Vec Datum Global)
    (block : Block) → u.form ≡ form.Sporadic priority ceiling op separation jitter external vars block
    → unit_of u ≡ record { name = u.name; form = Sporadic priority ceiling (signature_of op) separation jitter external vars.items (block_of block) }
as_sporadic u priority ceiling op separation jitter external vars block e =
    ap (λ f. let v : Unit = record { name = u.name; form = form_of f } in v) e
