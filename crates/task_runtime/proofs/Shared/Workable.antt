-- A task that can run can work over linked code, where its calls have as many actuals as what they call has parameters.
use Rattle.std.proofs.Common.{◌≡◌, ℕ, Bool, true, false, not, ◌&&◌, ◌||◌, List, [], ◌∷◌, ◌++◌, Option, Some, None, length, refl, ap, sym}
use Rattle.std.proofs.Common.{◌∙◌, append-nil, append_assoc, arith}
use Rattle.std.specs.Prelude.{◌==◌}
use Rattle.std.specs.List.{list_any}
use Rattle.std.proofs.lemmas.Slice.Eq.{bytes_eq-Decides}
use Rattle.std.proofs.lemmas.List.Folds.{list_any-append}
use Rattle.std.proofs.lemmas.Bool.{or_parts, and_parts}
use Rattle.seq_tree.specs.Names.{Name, are_distinct, is_named, same_name}
use Rattle.seq_tree.specs.Expressions.{Expression}
use Rattle.seq_tree.specs.Faults.{Scope, or_else, fault_if, offer_of, call_fault, statement_fault, block_fault, branches_fault}
use Rattle.seq_tree.specs.Faults.{actuals_fault, conditions, expressions_fault, is_fixed_actual, is_no_variable, out_actuals, repeats}
use Rattle.seq_tree.specs.Faults.{within_loop, words}
use Rattle.seq_tree.specs.Faults as fault
use Rattle.seq_tree.specs.Operations.{Offer}
use Rattle.seq_tree.specs.Statements.{Statement, Statements, Branches, Null, Assign, If, For, ExitWhen, Call, Work, Put, End, Then, Nothing}
use Rattle.seq_tree.specs.Statements.{Else, When}
use Rattle.machine.specs.Systems.{System, callee}
use Rattle.linker.specs.Callees.{OpBody}
use Rattle.linker.specs.Programs.{datum_names, op_part, task_part}
use Rattle.linker.specs.Programs as part
use Rattle.task_runtime.specs.Written.{CanRun, block_of_thread, data_names, param_names, system_of, thread_of}
use Rattle.task_runtime.specs.declared.thread.Thread.{Thread}
use Rattle.task_runtime.proofs.Shared.Runnable.{or_none}
use Rattle.task_runtime.specs.Sounds.{CanWork, FullBlock, FullBranches, FullStatement, IsBodyOf, IsFull, IsTidy}

no_true : false ≡ true → ⊥
no_true h = cc

or_false : (a b : Bool) → a ≡ false → b ≡ false → (a || b) ≡ false
or_false a b e f = simp (e, f) refl

and_true : (a b : Bool) → a ≡ false → b ≡ true → (not a && b) ≡ true
and_true a b e f = simp (e, f) refl

not_false : (a : Bool) → not a ≡ true → a ≡ false
not_false true h = absurd (no_true h)
not_false false h = refl

-- names that differ in one order differ in the other
differs : (a b : Name) → same_name a b ≡ false → same_name b a ≡ false
differs a b h = by (same_name b a) refl
  where
    by : (x : Bool) → same_name b a ≡ x → x ≡ false
    by false e = refl
    by true e = absurd (no_true (sym h ∙ (bytes_eq-Decides a b).1 (sym ((bytes_eq-Decides b a).0 e))))

put_in : (x : Name) (ys xs : List Name) → is_named (ys ++ xs) x ≡ false → are_distinct (ys ++ xs) ≡ true → are_distinct (ys ++ x ∷ xs) ≡ true
put_in x [] xs h k = and_true (is_named xs x) (are_distinct xs) h k
put_in x (y ∷ ys) xs h k =
    let apart = or_parts (same_name y x) (is_named (ys ++ xs) x) h in
    let both = and_parts (not (is_named (ys ++ xs) y)) (are_distinct (ys ++ xs)) k in
    let none = or_parts (is_named ys y) (is_named xs y) (sym (list_any-append (λ m. same_name m y) ys xs) ∙ not_false
    (is_named (ys ++ xs) y) both.0) in
    and_true (is_named (ys ++ x ∷ xs) y) (are_distinct (ys ++ x ∷ xs))
    (list_any-append (λ m. same_name m y) ys (x ∷ xs)
    ∙ or_false (is_named ys y) (is_named (x ∷ xs) y) none.0 (or_false (same_name x y) (is_named xs y) (differs y x apart.0) none.1))
    (put_in x ys xs apart.1 both.1)

pub distinct_swapped : (xs ys : List Name) → are_distinct (xs ++ ys) ≡ true → are_distinct (ys ++ xs) ≡ true
distinct_swapped [] ys h = ap are_distinct (append-nil ys) ∙ h
distinct_swapped (x ∷ xs) ys h =
    let both = and_parts (not (is_named (xs ++ ys) x)) (are_distinct (xs ++ ys)) h in
    let none = or_parts (is_named xs x) (is_named ys x) (sym (list_any-append (λ m. same_name m x) xs ys) ∙ not_false
    (is_named (xs ++ ys) x) both.0) in
    put_in x ys xs (list_any-append (λ m. same_name m x) ys xs ∙ or_false (is_named ys x) (is_named xs x) none.1 none.0)
    (distinct_swapped xs ys both.1)

pub distinct_behind : (xs ys : List Name) → are_distinct (xs ++ ys) ≡ true → are_distinct ys ≡ true
distinct_behind [] ys h = h
distinct_behind (x ∷ xs) ys h = distinct_behind xs ys (and_parts (not (is_named (xs ++ ys) x)) (are_distinct (xs ++ ys)) h).1

-- the names of an operation, where those of its unit and its own differ: the unit's operations, its data, parameters and locals
pub op_distinct : (b : OpBody) (heads : List Name)
    → are_distinct ((heads ++ datum_names b.vars) ++ (part.param_names b.op.sig.params ++ datum_names b.op.locals)) ≡ true
    → are_distinct (op_part b).names ≡ true
op_distinct b heads h =
    let own = part.param_names b.op.sig.params ++ datum_names b.op.locals in
    let vs = datum_names b.vars in
    let data' : are_distinct (vs ++ own) ≡ true = distinct_behind heads (vs ++ own) (ap are_distinct (sym (append_assoc heads vs own)) ∙ h) in
    ap are_distinct (sym (append_assoc (part.param_names b.op.sig.params) (datum_names b.op.locals) vs)) ∙ distinct_swapped vs own data'

-- the names of a task's block
pub task_distinct : (t : Thread) → CanRun t → are_distinct (task_part (thread_of t)).names ≡ true
task_distinct t runs = distinct_swapped (data_names t) (param_names t) runs.distinct

-- what two parts of a body have no fault in
counted : (n m : ℕ) → fault_if (not (n == m)) fault.Count ≡ None → n ≡ m
counted n m h = by (n == m) refl h
  where
    by : (x : Bool) → (n == m) ≡ x → fault_if (not x) fault.Count ≡ None → n ≡ m
    by true e k = grind (arith, e)
    by false e k = absurd (no k)
      where
        no : Some fault.Count ≡ None → ⊥
        no j = cc

-- calls without faults have as many actuals as what is offered has parameters
module _ (y : System) (Agrees : Scope → Type 0)
    (inside : (c : Scope) (name : Name) → Agrees c → Agrees (within_loop c name))
    (full : (c : Scope) → Agrees c → (unit op : Name) (o : Offer) (actuals : List Expression) → offer_of c unit op ≡ Some o
    → length o.sig.params ≡ length actuals → IsFull (callee y unit op) actuals) where
  full_call : (c : Scope) → Agrees c → (unit op : Name) (actuals : List Expression) (o : Option Offer) → offer_of c unit op ≡ o
      → call_fault c o actuals ≡ None → IsFull (callee y unit op) actuals
  full_call c a unit op actuals None e h = absurd (no h)
    where
      no : Some fault.Unknown ≡ None → ⊥
      no k = cc
  full_call c a unit op actuals (Some o) e h =
      let outs = out_actuals o.sig.params actuals in
      let parts = or_none (expressions_fault c (words actuals)) (actuals_fault c outs o.sig.params actuals) h in
      let others = or_none (fault_if (list_any (is_fixed_actual c) outs) fault.Assigned) (or_else (fault_if (list_any is_no_variable outs || repeats
      outs) fault.Actual) (fault_if (not (length o.sig.params == length actuals)) fault.Count)) parts.1 in
      let last = or_none (fault_if (list_any is_no_variable outs || repeats outs) fault.Actual) (fault_if (not (length o.sig.params
      == length actuals)) fault.Count) others.1 in
      full c a unit op o actuals e (counted (length o.sig.params) (length actuals) last.1)

  mutual
    full_statement : (c : Scope) → Agrees c → (s : Statement) → statement_fault c s ≡ None → FullStatement y s
    full_statement c a Null h = tt
    full_statement c a (Assign target e) h = tt
    full_statement c a (If branches) h =
        full_branches c a branches (or_none (expressions_fault c (conditions branches)) (branches_fault c branches) h).1
    full_statement c a (For name low high body) h = full_block (within_loop c name) (inside c name a) body h
    full_statement c a (ExitWhen e) h = tt
    full_statement c a (Call unit op actuals) h = full_call c a unit op actuals (offer_of c unit op) refl h
    full_statement c a (Work ticks) h = tt
    full_statement c a (Put e) h = tt

    pub full_block : (c : Scope) → Agrees c → (b : Statements) → block_fault c b ≡ None → FullBlock y b
    full_block c a End h = tt
    full_block c a (Then first rest) h =
        let both = or_none (statement_fault c first) (block_fault c rest) h in
        (full_statement c a first both.0, full_block c a rest both.1)

    full_branches : (c : Scope) → Agrees c → (bs : Branches) → branches_fault c bs ≡ None → FullBranches y bs
    full_branches c a Nothing h = tt
    full_branches c a (Else block) h = full_block c a block h
    full_branches c a (When e block others) h =
        let both = or_none (block_fault c block) (branches_fault c others) h in
        (full_block c a block both.0, full_branches c a others both.1)

-- a task whose calls and whose operations' calls are full, and whose operations' names differ
pub can_work : (t : Thread) → CanRun t → FullBlock (system_of t) (block_of_thread t)
    → ((unit op : Name) (b : OpBody) → IsBodyOf (callee (system_of t) unit op) b → IsTidy (system_of t) b) → CanWork t
can_work t runs full tidy = record { runs = runs; full = full; distinct = task_distinct t runs; tidy = tidy }
