-- The names of a program that can be read tell its tasks and its objects apart, and those of its operations.
use Rattle.std.specs.Prelude.{◌≡◌, ℕ, suc, Bool, true, false, cond, List, [], ◌∷◌, find, slice_get, option_map, Some, refl, if◌then◌else◌}
use Rattle.std.proofs.Common.{sym, ap, subst}
use Rattle.std.proofs.lemmas.Option.{none-some}
use Rattle.seq_tree.specs.Lists.{first_from}
use Rattle.seq_tree.specs.Names.{Name, same_name}
use Rattle.seq_tree.specs.Operations.{Operation}
use Rattle.ada_tree.specs.Programs.{Program}
use Rattle.ada_tree.specs.Rules.{MeetsRules}
use Rattle.arrivals_tree.specs.Arriving.{Arrivals}
use Rattle.machine.specs.Systems.{ProtectedUnit, Protected, system, callee}
use Rattle.guarantee.specs.Software.{program_software}
use Rattle.guarantee.specs.Passages.{IsOpOf}
use Rattle.law_written.proofs.Shared.Claims as claims
use Rattle.law_written.proofs.Shared.Claims.{guarded_at}
use Rattle.law_written.proofs.Shared.Units.{tasks_of, shared_of}
use Rattle.law_tasks.proofs.Shared.Programs.{entry_name}
use Rattle.law_calls.proofs.Shared.Threads.{thread_name, object_name, threads_apart, objects_apart}
use Rattle.law_calls.proofs.Shared.Systems.{LeadsToObject, LeadsTo, leads-to}
use Rattle.law_tasks.proofs.Shared.AptPrograms.{apt}

-- the first item that passes a test is the one that is found
first_found : {A : Type 0} (test : A → Bool) (n : ℕ) (xs : List A) (k : ℕ) (x : A) → first_from n test xs ≡ Some (k, x) → find test xs ≡ Some x
first_found test n [] k x e = absurd (none-some (k, x) e)
first_found {A} test n (z ∷ xs) k x e = by (test z) e (first_found test (suc n) xs k x)
  where
    by : (b : Bool) → (if b then Some (n, z) else first_from (suc n) test xs) ≡ Some (k, x)
        → (first_from (suc n) test xs ≡ Some (k, x) → find test xs ≡ Some x) → cond b (Some z) (find test xs) ≡ Some x
    by true h later = ap (λ o. option_map (λ (q : ℕ × A). q.1) o) h
    by false h later = later h

-- a call of a protected operation leads to an operation of that object, of the name that a trace has
callees : (p : Program) (r : Arrivals) → MeetsRules p → (unit name : Name) (object at : ℕ) (g : ProtectedUnit) (o : Operation)
    → callee (system p r) unit name ≡ Protected object at g o
    → (slice_get (system p r).objects object ≡ Some g) × IsOpOf (guarded_at g) (entry_name p (system p r) object at).op o
callees p r meets unit name object at g o e =
    let l : LeadsToObject (system p r) unit name object at g o = subst (LeadsTo (system p r) unit name) e (leads-to (system p r) unit name) in
    let told : (entry_name p (system p r) object at).op ≡ name = ap (λ c. c.op) ((apt p r meets).entries unit name object at g o e) in
    let P : Name → Type 0 = λ n. IsOpOf (guarded_at g) n o in
    (l.stands, subst P (sym told) (first_found (λ z. same_name z.sig.name name) 0 g.ops at o l.first))

-- all of it
pub naming : (p : Program) (r : Arrivals) → MeetsRules p → claims.Naming p (system p r) (program_software p)
naming p r meets = record {
  finish = refl;
  tasks = tasks_of p r;
  shared = shared_of p r;
  thread_name = thread_name p r;
  object_name = object_name p r;
  threads_apart = threads_apart p r meets;
  objects_apart = objects_apart p r meets;
  callees = λ unit name object op g o e. callees p r meets unit name object op g o e;
}
