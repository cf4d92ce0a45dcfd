-- What calls lead to in a program, by tables: units by their names, and for each its operations by theirs.
-- Operations with bodies are counted as they are found, through all units.
use Rattle.std.specs.Prelude.{◌≡◌, ℕ, false, List, [], ◌++◌, Option, Some, None, slice_get, option_map, if◌then◌else◌}
use Rattle.seq_tree.specs.Lists.{first_from}
use Rattle.seq_tree.specs.Names.{Name, same_name}
use Rattle.seq_tree.specs.Operations.{Operation}
use Rattle.seq_tree.specs.Trees.{operation_of}
use Rattle.seq_tree.specs.declared.tree.Datum.{Datum}
use Rattle.ada_tree.specs.Programs.{Unit}
use Rattle.machine.specs.Systems.{System, PassiveUnit, ProtectedUnit, TaskUnit, CallTarget, callee, library_or, object_or, op_named}
use Rattle.machine.specs.Systems.{libraries_from, objects_from, request_by, threads_from}
use Rattle.machine.specs.Systems as to
use Rattle.name_sets.specs.Tables.{named}
use Rattle.name_sets.specs.declared.name_table.NameTable.{NameTable}
use Rattle.linker.specs.Leads.{Leads, Body, Request, Nowhere}
use Rattle.linker.specs.declared.tables.OpBody as code
use Rattle.linker.specs.declared.tables.Entry.{Entry}
use Rattle.linker.specs.declared.tables.Entry.TheVariants as entry
use Rattle.linker.specs.declared.tables.Found.{Found}

-- an operation with a body: where a protected object has it, the places of both, and the object's data
pub record OpBody : Type 0 where
  pub owner : Option (ℕ × ℕ)
  pub vars : List Datum
  pub op : Operation

-- the operation that code has
abbrev pub body_of : code.OpBody → OpBody
body_of b = record { owner = b.owner; vars = b.vars.now; op = operation_of b.op.now }

-- what was found for an operation
abbrev pub lead_found : Option Found → Leads
lead_found None = Nowhere
lead_found (Some f) = Body f.place f.params.now

-- what a call of this operation leads to, by what was found for the unit
abbrev pub lead_by : Option Entry → Name → Leads
lead_by None op = Nowhere
lead_by (Some (entry.Ops table)) op = lead_found (named table op)
lead_by (Some (entry.Task task wanted)) op = if same_name wanted.now op then Request task else Nowhere
lead_by (Some entry.Nothing) op = Nowhere

-- what a call leads to in a program is what it leads to by places: an operation with a body by its place among these
abbrev pub IsLed : List OpBody → CallTarget → Leads → Type 0
IsLed bodies (to.Plain o) w =
    (k : ℕ) × (w ≡ Body k o.sig.params) × (slice_get bodies k ≡ Some (record { owner = None; vars = []; op = o }))
IsLed bodies (to.Protected object place g o) w =
    (k : ℕ) × (w ≡ Body k o.sig.params) × (slice_get bodies k ≡ Some (record { owner = Some (object, place); vars = g.vars; op = o }))
IsLed bodies (to.Request task) w = w ≡ Request task
IsLed bodies to.Unknown w = w ≡ Nowhere

-- a system of these units
pub record IsSystemOf (us : List Unit) (y : System) : Type 0 where
  pub durations : ℕ → List ℕ
  pub libraries : y.libraries ≡ libraries_from 0 us
  pub objects : y.objects ≡ objects_from 0 us
  pub threads : y.threads ≡ threads_from durations 0 us

-- what a call leads to among these passive units, protected objects and tasks, each counted from a number on
abbrev pub target_among : ℕ → List PassiveUnit → ℕ → List ProtectedUnit → ℕ → List TaskUnit → Name → Name → CallTarget
target_among n ls m gs k ts unit op =
    library_or op (first_from n (λ l. same_name l.name unit) ls)
    (object_or op (first_from m (λ o. same_name o.name unit) gs)
    (request_by op (first_from k (λ t. same_name t.name unit) ts)))

-- tables in which some units were entered: calls of other names lead to what is found among those that are left
pub record AreEntered (y : System) (units : NameTable Entry) (bodies : List OpBody) (left : Name → Name → CallTarget) : Type 0 where
  pub absent : (n : Name) → named units n ≡ None → (op : Name) → callee y n op ≡ left n op
  pub present : (n : Name) (e : Entry) → named units n ≡ Some e → (op : Name) → IsLed bodies (callee y n op) (lead_by (Some e) op)

-- what was found for operations is what they are, where these bodies are known
abbrev pub IsFound : List OpBody → Option ℕ → List Datum → Option Found → Option (ℕ × Operation) → Type 0
IsFound bodies object vars None o = o ≡ None
IsFound bodies object vars (Some f) o =
    (place : ℕ) × (op : Operation) × (o ≡ Some (place, op)) × (f.params.now ≡ op.sig.params)
    × (slice_get bodies f.place ≡ Some (record { owner = option_map (λ (k : ℕ). (k, place)) object; vars = vars; op = op }))

-- bodies were added behind others
pub record AddsBodies (bodies bodies' : List OpBody) : Type 0 where
  pub more : List OpBody
  pub is : bodies' ≡ bodies ++ more

-- whatever is found of these operations is what a call leads to
abbrev pub AreLed : Option ℕ → List Datum → List Operation → (Name → CallTarget) → Type 0
AreLed object vars ops target = (op : Name) (bodies : List OpBody) (f : Option Found) → IsFound bodies object vars f (op_named op ops)
    → IsLed bodies (target op) (lead_found f)

-- calls of a name lead to this, and what is left for other names stays
pub record Passes (name : Name) (target : Name → CallTarget) (left left' : Name → Name → CallTarget) : Type 0 where
  pub here : (op : Name) → left name op ≡ target op
  pub others : (n op : Name) → same_name name n ≡ false → left n op ≡ left' n op
