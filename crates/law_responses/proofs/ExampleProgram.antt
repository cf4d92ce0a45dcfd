-- A program of three tasks that can be read: a task is started from inside two protected operations, one inside the other.
use Rattle.std.specs.Prelude.{◌≡◌, ℕ, zero, suc, Bool, true, false, ◌||◌, List, [], ◌∷◌, slice_get, Some, codes, refl}
use Rattle.std.proofs.Common.{subst, inl, inr}
use Rattle.std.proofs.lemmas.Bool.{false≢true}
use Rattle.std.proofs.lemmas.Option.{none-some, same_Some}
use Rattle.seq_tree.specs.Names.{Name, same_name}
use Rattle.seq_tree.specs.Expressions.{Number}
use Rattle.seq_tree.specs.Faults.{BodyFault}
use Rattle.seq_tree.specs.Operations.{Signature, Operation}
use Rattle.seq_tree.specs.Proper.{within_limits}
use Rattle.seq_tree.specs.Rings.{LeadsTo}
use Rattle.seq_tree.specs.Statements.{Statement, Call, Work}
use Rattle.seq_tree.specs.declared.tree.OpName.{OpName}
use Rattle.ods_tree.proofs.Shared.Short.{row_costs, block, call, v_in}
use Rattle.ada_tree.specs.Programs.{Form, Unit, Program, Shared, Cyclic, Sporadic}
use Rattle.ada_tree.specs.Bodies.{unit_fault}
use Rattle.ada_tree.specs.Naming.{breaks_naming}
use Rattle.ada_tree.specs.Proper.{IsProperProgram}
use Rattle.ada_tree.specs.Ranges.{breaks_ranges}
use Rattle.ada_tree.specs.Rules.{Naming, Uses, Rings, Bodies, Ranges, Externals, Whole, At, MeetsRules}
use Rattle.ada_tree.specs.Uses.{breaks_uses, Calls, CallsUnit, BreaksRings, breaks_external}
use Rattle.ada_tree.specs.Words.{is_ada_name}
use Rattle.guarantee.specs.MachineLaw.{IsReadable}
use Rattle.law_lists.proofs.Shared.Facts.{same-is}

abbrev pub unit : Name → Form → Unit
unit name form = record { name = name; form = form }

abbrev pub operation : Name → List Statement → Operation
operation name ss = record { sig = record { name = name; params = [] }; locals = []; block = block ss }

abbrev pub start : Signature
start = record { name = codes "start"; params = v_in ∷ [] }

-- what each task does
abbrev pub of_sampler : List Statement
of_sampler = call (codes "store") (codes "set") ∷ []

abbrev pub of_alarm : List Statement
of_alarm = Work 4 ∷ []

abbrev pub of_watcher : List Statement
of_watcher = call (codes "log") (codes "note") ∷ Work 10 ∷ []

-- the log and the store, the sampler that enters the store and from inside the log and the alarm's control structure, and the watcher
abbrev log : Unit
log = unit (codes "log") (Shared 2 [] (operation (codes "note") (Work 2 ∷ []) ∷ []))

abbrev store : Unit
store = unit (codes "store") (Shared 2 [] (operation (codes "set") (Work 1 ∷ call (codes "log") (codes "note")
    ∷ Call (codes "alarm") (codes "start") (Number 7 ∷ []) ∷ []) ∷ []))

abbrev sampling : Unit
sampling = unit (codes "sampler") (Cyclic 2 0 50 [] (block of_sampler))

abbrev alarming : Unit
alarming = unit (codes "alarm") (Sporadic 3 3 start 50 0 false [] (block of_alarm))

abbrev watching : Unit
watching = unit (codes "watcher") (Cyclic 1 0 200 [] (block of_watcher))

abbrev pub plant : Program
plant = record { name = codes "plant"; costs = row_costs; units = log ∷ store ∷ sampling ∷ alarming ∷ watching ∷ [] }

-- what holds of each of the units, by its place
places : (Q : ℕ → Unit → Type 0) → Q 0 log → Q 1 store → Q 2 sampling → Q 3 alarming → Q 4 watching → (k : ℕ) (u : Unit)
    → slice_get plant.units k ≡ Some u → Q k u
places Q a b c d e zero u at = subst (Q 0) (same_Some log u at) a
places Q a b c d e (suc zero) u at = subst (Q 1) (same_Some store u at) b
places Q a b c d e (suc (suc zero)) u at = subst (Q 2) (same_Some sampling u at) c
places Q a b c d e (suc (suc (suc zero))) u at = subst (Q 3) (same_Some alarming u at) d
places Q a b c d e (suc (suc (suc (suc zero)))) u at = subst (Q 4) (same_Some watching u at) e
places Q a b c d e (suc (suc (suc (suc (suc k))))) u at = absurd (none-some u at)

-- no unit calls itself, directly or through others: the store calls the log, which calls none
calls-none : (name : Name) → ((to : Name) → CallsUnit plant name to → ⊥) → (path : List Name) (to : Name) → LeadsTo (CallsUnit plant) name path to → ⊥
calls-none name none [] to h = none to h
calls-none name none (via ∷ path) to h = none via h.0

store-calls : (path : List Name) → LeadsTo (CallsUnit plant) (codes "store") path (codes "store") → ⊥
store-calls [] h = false≢true h
store-calls (via ∷ path) h = calls-none via
    (λ to e. false≢true (subst (λ n. CallsUnit plant n to) (same-is via (codes "log") (first (same_name via (codes "log")) h.0)) e)) path
    (codes "store") h.1
  where
    first : (b : Bool) → (b || false) ≡ true → b ≡ true
    first true e = refl
    first false e = absurd (false≢true e)

plain-none : (name : Name) → ((op : Name) (to : OpName) → Calls plant (record { object = name; op = op }) to → ⊥)
    → (op : Name) (path : List OpName) (to : OpName)
    → LeadsTo (Calls plant) (record { object = name; op = op }) path to → ⊥
plain-none name none op [] to h = none op to h
plain-none name none op (via ∷ path) to h = none op via h.0

rings : (u : Unit) → ((op : Name) (to : OpName) → Calls plant (record { object = u.name; op = op }) to → ⊥)
    → ((path : List Name) → LeadsTo (CallsUnit plant) u.name path u.name → ⊥) → BreaksRings plant u → ⊥
rings u plain calls (inl (op, (path, h))) = plain-none u.name plain op path _ h
rings u plain calls (inr (path, h)) = calls path h

meets : MeetsRules plant
meets Naming Whole broken = broken
meets Uses Whole broken = broken
meets Rings Whole broken = broken
meets Bodies Whole broken = broken
meets Ranges Whole broken = false≢true broken
meets Externals Whole broken = broken
meets Naming (At k) (u, at, broken) = places (λ k u. breaks_naming plant k u ≡ true
    → ⊥) false≢true false≢true false≢true false≢true false≢true k u at broken
meets Uses (At k) (u, at, broken) = places (λ k u. breaks_uses plant u ≡ true
    → ⊥) false≢true false≢true false≢true false≢true false≢true k u at broken
meets Rings (At k) (u, at, broken) =
    places (λ k u. BreaksRings plant u → ⊥) (rings log (λ op to. false≢true) (λ path. calls-none (codes "log") (λ to. false≢true) path (codes "log")))
    (rings store (λ op to. false≢true) store-calls)
    (rings sampling (λ op to. false≢true) (λ path. calls-none (codes "sampler") (λ to. false≢true) path (codes "sampler")))
    (rings alarming (λ op to. false≢true) (λ path. calls-none (codes "alarm") (λ to. false≢true) path (codes "alarm")))
    (rings watching (λ op to. false≢true) (λ path. calls-none (codes "watcher") (λ to. false≢true) path (codes "watcher"))) k u at broken
meets Bodies (At k) (u, at, broken) =
    places (λ k u. (fault : BodyFault) → unit_fault plant u ≡ Some fault
    → ⊥) none-some none-some none-some none-some none-some k u at broken.0 broken.1
meets Ranges (At k) (u, at, broken) = places (λ k u. breaks_ranges u ≡ true → ⊥) false≢true false≢true false≢true false≢true false≢true k u at broken
meets Externals (At k) (u, at, broken) = places (λ k u. breaks_external plant u.name u.form ≡ true
    → ⊥) false≢true false≢true false≢true false≢true false≢true k u at broken

proper : IsProperProgram (within_limits is_ada_name) plant
unfolding is_ada_name
proper = (
  refl,
  (
    (refl, (tt, ((refl, tt, tt, (tt, tt)), tt))),
    (
      (refl, (tt, ((refl, tt, tt, (tt, ((refl, refl, tt), ((refl, refl, (tt, tt)), tt)))), tt))),
      ((refl, (tt, ((refl, refl, tt), tt))), ((refl, (refl, (refl, tt), refl, tt, (tt, tt))), ((refl, (tt, ((refl, refl, tt), (tt, tt)))), tt))),
    ),
  ),
)

pub readable : IsReadable plant
readable = (proper, meets)
