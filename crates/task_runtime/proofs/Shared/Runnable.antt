-- A task of a program that meets the rules can be run.
use Rattle.std.proofs.Common.{◌≡◌, ℕ, zero, suc, ◌+◌, ◌-◌, ◌*◌, ◌≤◌, ◌<◌, ◌^◌, Bool, true, false, not, ◌||◌, List, [], ◌∷◌, ◌++◌, length}
use Rattle.std.proofs.Common.{map, refl, ap, sym, subst, ◌∙◌, arith, append-nil, leb-true, nat_lt, Option, Some, None}
use Rattle.std.specs.Prelude.{slice_get, filter, flat_map}
use Rattle.std.specs.List.{list_any}
use Rattle.std.proofs.lemmas.List.Folds.{list_any-append}
use Rattle.std.proofs.lemmas.Bool.{or_parts, and_parts}
use Rattle.seq_tree.specs.Limits.{tick_limit}
use Rattle.seq_tree.specs.Names.{Name, is_named, are_distinct}
use Rattle.seq_tree.specs.Lists.{Each}
use Rattle.seq_tree.specs.Statements.{Statement, Statements, Branches, Null, Assign, If, For, ExitWhen, Call, Work, Put, End, Then, Nothing}
use Rattle.seq_tree.specs.Statements.{Else, When}
use Rattle.seq_tree.specs.Operations.{Operation}
use Rattle.seq_tree.specs.Calls.{statement_calls, block_calls, branch_calls, statement_works, block_works, branch_works}
use Rattle.seq_tree.specs.Faults.{Scope, BodyFault, Exit, or_else, fault_if, statement_fault, block_fault, branches_fault, expressions_fault}
use Rattle.seq_tree.specs.Faults.{condition, conditions, within_loop}
use Rattle.seq_tree.specs.Proper.{Limits, IsProperStatement, IsProperBlock, AreProperStatements, IsProperIf, AreProperBranches, within_limits}
use Rattle.seq_tree.specs.Trees.{signature_of}
use Rattle.seq_tree.specs.declared.tree.Datum.{Datum}
use Rattle.seq_tree.specs.declared.tree.OpName.{OpName}
use Rattle.ada_tree.specs.Programs.{Unit, Form, Program, Passive, Shared, Cyclic, Sporadic, is_task}
use Rattle.machine.specs.States.{first_time}
use Rattle.ada_tree.specs.Bodies.{Body, bodies, bodies_fault, heads, op_body, scope, unit_fault}
use Rattle.ada_tree.specs.Naming.{body_clashes, body_names, own_names}
use Rattle.ada_tree.specs.Rules.{At, Bodies, MeetsRules, Ranges, Whole}
use Rattle.ada_tree.specs.Words.{is_ada_name}
use Rattle.ada_tree.specs.Proper.{IsProperForm, IsProperOperation, IsProperProgram}
use Rattle.ada_tree.specs.Ranges.{is_outside, breaks_ranges, whole_breaks, costs_break, numbers_break}
use Rattle.arrivals_tree.specs.declared.arrivals.WorkList.{WorkList}
use Rattle.task_runtime.specs.declared.thread.Thread.{Thread}
use Rattle.task_runtime.specs.Callable.{IsClear, calls_by, is_in, is_known, op_name, target_in}
use Rattle.task_runtime.specs.Fitting.{FitsBlock, FitsBranches, FitsIf, FitsStatement, Spot, in_branch, in_loop, spot_of}
use Rattle.task_runtime.specs.Libraries.{system_from}
use Rattle.task_runtime.specs.declared.thread.Timing.{Timing}
use Rattle.task_runtime.specs.declared.thread.Timing.TheVariants as timing
use Rattle.task_runtime.specs.Written.{CanCall, CanRun, block_of_thread, form_by, params_of, system_of, timing_of, written_as}
use Rattle.task_runtime.proofs.CallLaws.{clear-next, in-append, in-behind, in-one, room-taken}
use Rattle.task_runtime.proofs.Leading.{leads-somewhere, naming, no-ring, not_false, not_true, owned, owned-calls}
use Rattle.task_runtime.proofs.Targets.{bodies-of, heads-of, ops_of}
use Rattle.machine.specs.Systems.{request_params}

-- what the names and constructs of a program that is read are within
abbrev pub limits : Limits
limits = within_limits is_ada_name

pub or_none : (a b : Option BodyFault) → or_else a b ≡ None → (a ≡ None) × (b ≡ None)
or_none None b e = (refl, e)
or_none (Some fault) b e = absurd (cc)

inside_one : (b : Bool) → fault_if (not b) Exit ≡ None → b ≡ true
inside_one true e = refl
inside_one false e = absurd (cc)

some_tick : (n : ℕ) → is_outside 1 tick_limit n ≡ false → 0 < n
some_tick n h = let low : nat_lt n 1 ≡ false = (or_parts _ _ h).0 in grind arith

works_apart : (xs ys : List ℕ) → list_any (is_outside 1 tick_limit) (xs ++ ys) ≡ false → (list_any (is_outside 1 tick_limit) xs ≡ false)
    × (list_any (is_outside 1 tick_limit) ys ≡ false)
works_apart xs ys h = or_parts _ _ (sym (list_any-append (is_outside 1 tick_limit) xs ys) ∙ h)

-- calls that are clear where statements stand
abbrev AreClear : Spot → List OpName → Type 0
AreClear s cs = (c : OpName) → is_in cs c ≡ true → IsClear s.system s.chain c

-- proper statements without faults, whose numbers are in their ranges and whose calls are clear, do with room for three for each construct
mutual
  fits_statement : (s : Spot) (d : ℕ) (c : Scope) (t : Statement) → 3 * (64 - d) ≤ s.room → s.inside ≡ c.in_loop → IsProperStatement limits d t
      → statement_fault c t ≡ None
      → list_any (is_outside 1 tick_limit) (statement_works t) ≡ false → AreClear s (statement_calls t) → FitsStatement s t
  fits_statement s d c Null h i p f w k = tt
  fits_statement s d c (Assign target e) h i p f w k = tt
  fits_statement s d c (If branches) h i p f w k =
      let deep : suc d ≤ 64 = leb-true _ _ p.0 in
      fits_if s (suc d) c branches (omega arith) i p.1 (or_none (expressions_fault c (conditions branches)) (branches_fault c branches) f).1 w k
  fits_statement s d c (For name low high body) h i p f w k =
      let deep : suc d ≤ 64 = leb-true _ _ p.0 in
      let some : 3 ≤ s.room = omega arith in
      (some, fits_block (in_loop s) (suc d) (within_loop c name) body (omega arith) refl p.2 f w k)
  fits_statement s d c (ExitWhen e) h i p f w k
      = i ∙ inside_one c.in_loop (or_none (expressions_fault c (condition e ∷ [])) (fault_if (not c.in_loop) Exit) f).1
  fits_statement s d c (Call object op actuals) h i p f w k = k (op_name object op) (in-one (op_name object op))
  fits_statement s d c (Work ticks) h i p f w k = some_tick ticks (or_parts (is_outside 1 tick_limit ticks) false w).0
  fits_statement s d c (Put e) h i p f w k = tt

  pub fits_block : (s : Spot) (d : ℕ) (c : Scope) (b : Statements) → 3 * (64 - d) ≤ s.room → s.inside ≡ c.in_loop → IsProperBlock limits d b
      → block_fault c b ≡ None
      → list_any (is_outside 1 tick_limit) (block_works b) ≡ false → AreClear s (block_calls b) → FitsBlock s b
  fits_block s d c End h i p f w k = tt
  fits_block s d c (Then first rest) h i p f w k =
      let faults = or_none (statement_fault c first) (block_fault c rest) f in
      let works = works_apart (statement_works first) (block_works rest) w in (
        fits_statement s d c first h i p.0 faults.0 works.0 (λ x e. k x (in-append (statement_calls first) (block_calls rest) x e)),
        fits_rest s d c rest h i p.1 faults.1 works.1 (λ x e. k x (in-behind (statement_calls first) (block_calls rest) x e)),
      )

  fits_rest : (s : Spot) (d : ℕ) (c : Scope) (b : Statements) → 3 * (64 - d) ≤ s.room → s.inside ≡ c.in_loop → AreProperStatements limits d b
      → block_fault c b ≡ None
      → list_any (is_outside 1 tick_limit) (block_works b) ≡ false → AreClear s (block_calls b) → FitsBlock s b
  fits_rest s d c End h i p f w k = tt
  fits_rest s d c (Then first rest) h i p f w k =
      let faults = or_none (statement_fault c first) (block_fault c rest) f in
      let works = works_apart (statement_works first) (block_works rest) w in (
        fits_statement s d c first h i p.0 faults.0 works.0 (λ x e. k x (in-append (statement_calls first) (block_calls rest) x e)),
        fits_rest s d c rest h i p.1 faults.1 works.1 (λ x e. k x (in-behind (statement_calls first) (block_calls rest) x e)),
      )

  fits_if : (s : Spot) (d : ℕ) (c : Scope) (bs : Branches) → 3 * (64 - d) + 1 ≤ s.room → s.inside ≡ c.in_loop → IsProperIf limits d bs
      → branches_fault c bs ≡ None
      → list_any (is_outside 1 tick_limit) (branch_works bs) ≡ false → AreClear s (branch_calls bs) → FitsIf s bs
  fits_if s d c Nothing h i p f w k = absurd p
  fits_if s d c (Else block) h i p f w k = absurd p
  fits_if s d c (When e block others) h i p f w k =
      let faults = or_none (block_fault c block) (branches_fault c others) f in
      let works = works_apart (block_works block) (branch_works others) w in (
        omega arith,
        fits_block (in_branch s) d c block (omega arith) i p.1 faults.0 works.0
            (λ x e. k x (in-append (block_calls block) (branch_calls others) x e)),
        fits_branches s d c others h i p.2 faults.1 works.1 (λ x e. k x (in-behind (block_calls block) (branch_calls others) x e)),
      )

  fits_branches : (s : Spot) (d : ℕ) (c : Scope) (bs : Branches) → 3 * (64 - d) + 1 ≤ s.room → s.inside ≡ c.in_loop → AreProperBranches limits d bs
      → branches_fault c bs ≡ None
      → list_any (is_outside 1 tick_limit) (branch_works bs) ≡ false → AreClear s (branch_calls bs) → FitsBranches s bs
  fits_branches s d c Nothing h i p f w k = tt
  fits_branches s d c (Else block) h i p f w k = (omega arith, fits_block (in_branch s) d c block (omega arith) i p f w k)
  fits_branches s d c (When e block others) h i p f w k =
      let faults = or_none (block_fault c block) (branches_fault c others) f in
      let works = works_apart (block_works block) (branch_works others) w in (
        omega arith,
        fits_block (in_branch s) d c block (omega arith) i p.1 faults.0 works.0
            (λ x e. k x (in-append (block_calls block) (branch_calls others) x e)),
        fits_branches s d c others h i p.2 faults.1 works.1 (λ x e. k x (in-behind (block_calls block) (branch_calls others) x e)),
      )

pub not_some : (o : Option BodyFault) → ((fault : BodyFault) → o ≡ Some fault → ⊥) → o ≡ None
not_some None h = refl
not_some (Some fault) h = absurd (h fault refl)

each_at : {A : Type 0} (P : A → Type 0) (xs : List A) (i : ℕ) (x : A) → Each P xs → slice_get xs i ≡ Some x → P x
each_at P [] i x each at = absurd (cc)
each_at P (y ∷ xs) zero x each at = let same : y ≡ x = (cc) in subst P same each.0
each_at P (y ∷ xs) (suc i) x each at = each_at P xs i x each.1 at

-- what is false of all is false of each
any_at : {A B : Type 0} (test : B → Bool) (f : A → List B) (xs : List A) (i : ℕ) (x : A) → slice_get xs i ≡ Some x
    → list_any test (flat_map f xs) ≡ false → list_any test (f x) ≡ false
any_at test f [] i x at h = absurd (cc)
any_at test f (y ∷ xs) zero x at h = let same : y ≡ x = (cc)
    in subst (λ z. list_any test (f z) ≡ false) same (or_parts _ _ (sym (list_any-append test (f y) (flat_map f xs)) ∙ h)).0
any_at test f (y ∷ xs) (suc i) x at h = any_at test f xs i x at (or_parts _ _ (sym (list_any-append test (f y) (flat_map f xs)) ∙ h)).1

body_at : {B : Type 0} (f : Body → List B) (os : List Operation) → flat_map f (map op_body os) ≡ flat_map (λ o. f (op_body o)) os
body_at f [] = refl
body_at f (o ∷ os) = ap (λ xs. f (op_body o) ++ xs) (body_at f os)

fault_at : (p : Program) (form : Form) (os : List Operation) (i : ℕ) (o : Operation) → slice_get os i ≡ Some o
    → bodies_fault p form (map op_body os) ≡ None
    → block_fault (scope p form (op_body o)) o.block ≡ None
fault_at p form [] i o at h = absurd (cc)
fault_at p form (q ∷ os) zero o at h =
    let same : q ≡ o = (cc) in
    subst (λ x. block_fault (scope p form (op_body x)) x.block ≡ None) same
    (or_none (block_fault (scope p form (op_body q)) q.block) (bodies_fault p form (map op_body os)) h).0
fault_at p form (q ∷ os) (suc i) o at h
    = fault_at p form os i o at (or_none (block_fault (scope p form (op_body q)) q.block) (bodies_fault p form (map op_body os)) h).1

few_at : (os : List Operation) (i : ℕ) (o : Operation) → slice_get os i ≡ Some o
    → list_any (λ h. nat_lt 8 (length h.params)) (map (λ q. q.sig) os) ≡ false → length o.sig.params ≤ 8
few_at [] i o at h = absurd (cc)
few_at (q ∷ os) zero o at h =
    let same : q ≡ o = (cc) in
    let few : nat_lt 8 (length q.sig.params) ≡ false = (or_parts _ _ h).0 in
    subst (λ x. length x.sig.params ≤ 8) same (grind arith)
few_at (q ∷ os) (suc i) o at h = few_at os i o at (or_parts (nat_lt 8 (length q.sig.params)) _ h).1

-- an operation of a proper unit is proper
proper_op : (f : Form) (i : ℕ) (o : Operation) → IsProperForm limits f → slice_get (ops_of f) i ≡ Some o → IsProperOperation limits o
proper_op (Passive ops) i o h at = each_at (IsProperOperation limits) ops i o h at
proper_op (Shared ceiling vars ops) i o h at = each_at (IsProperOperation limits) ops i o h.1 at
proper_op (Cyclic priority offset period vars block) i o h at = absurd (cc)
proper_op (Sporadic priority ceiling op separation jitter external vars block) i o h at = absurd (cc)

-- what is known of the body of a task, with the data of its unit
record IsTaskBody (p : Program) (work : List WorkList) (u : Unit) (vars : List Datum) (b : Body) : Type 0 where
  fault : block_fault (scope p u.form b) b.block ≡ None
  works : list_any (is_outside 1 tick_limit) (block_works b.block) ≡ false
  calls : (c : OpName) → is_in (block_calls b.block) c ≡ true → is_known (target_in (system_from work p.units) c) ≡ true
  proper : IsProperBlock limits 0 b.block
  distinct : are_distinct (map (λ d. d.name) vars ++ map (λ q. q.name) b.params) ≡ true

-- what is known of a program that meets the rules
module _ (p : Program) (meets : MeetsRules p) (proper : IsProperProgram limits p) (work : List WorkList) where
  unit_faultless : (i : ℕ) (u : Unit) → slice_get p.units i ≡ Some u → unit_fault p u ≡ None
  unit_faultless i u at = not_some (unit_fault p u) (λ f breaks. meets Bodies (At i) (u, at, (f, breaks)))

  unit_ranges : (i : ℕ) (u : Unit) → slice_get p.units i ≡ Some u → breaks_ranges u ≡ false
  unit_ranges i u at = not_true (breaks_ranges u) (λ breaks. meets Ranges (At i) (u, at, breaks))

  unit_proper : (i : ℕ) (u : Unit) → slice_get p.units i ≡ Some u → IsProperForm limits u.form
  unit_proper i u at = (each_at (λ v. (limits.is_name v.name ≡ true) × IsProperForm limits v.form) p.units i u proper.1 at).1

  -- the names of the data and of the parameters
  body_distinct : (i : ℕ) (u : Unit) (b : Body) → slice_get p.units i ≡ Some u → bodies u.form ≡ b ∷ []
      → are_distinct (own_names u.form ++ body_names b) ≡ true
  body_distinct i u b at one =
      let clashes : list_any (body_clashes u.form) (b ∷ []) ≡ false
      = ap (list_any (body_clashes u.form)) (sym one) ∙ (or_parts _ _ (or_parts _ _ (naming p meets work i u at)).0).1 in
      not_false (are_distinct (own_names u.form ++ body_names b))
      (or_parts (not (are_distinct (own_names u.form ++ body_names b))) _ (or_parts (body_clashes u.form b) false clashes).0).0

  -- an operation that is clear is ready
  pub can-call : CanCall (system_from work p.units)
  can-call chain c o e clear =
      let z = system_from work p.units in
      let w = owned p meets work c o e in
      let u = w.unit in
      let os = ops_of u.form in
      let bodies_are : bodies u.form ≡ map op_body os = bodies-of u.form w.op o w.op_at in
      let fault : bodies_fault p u.form (map op_body os) ≡ None = sym (ap (bodies_fault p u.form) bodies_are) ∙ unit_faultless w.place u w.at in
      let parts = or_parts (numbers_break u.form || list_any (λ h. nat_lt 8 (length h.params)) (heads u.form))
      (list_any (is_outside 1 tick_limit) (flat_map (λ b. block_works b.block) (bodies u.form))) (unit_ranges w.place u w.at) in
      let all_works : list_any (is_outside 1 tick_limit) (flat_map (λ b. block_works b.block) (map op_body os)) ≡ false =
      sym (ap (λ bs. list_any (is_outside 1 tick_limit) (flat_map (λ b. block_works b.block) bs)) bodies_are) ∙ parts.1 in
      let works : list_any (is_outside 1 tick_limit) (block_works o.block) ≡ false =
      any_at (is_outside 1 tick_limit) (λ q. block_works q.block) os w.op o w.op_at
      (ap (list_any (is_outside 1 tick_limit)) (sym (body_at (λ b. block_works b.block) os)) ∙ all_works) in
      let proper : IsProperOperation limits o = proper_op u.form w.op o (unit_proper w.place u w.at) w.op_at in
      let few : list_any (λ h. nat_lt 8 (length h.params)) (map (λ q. q.sig) os) ≡ false =
      sym (ap (list_any (λ h. nat_lt 8 (length h.params))) (heads-of u.form w.op o w.op_at)) ∙ (or_parts (numbers_break u.form) _ parts.0).1 in
      let s = spot_of z (c ∷ chain) in
      let calls : AreClear s (block_calls o.block) = λ d h.
      clear-next z chain c d (no-ring p meets work) clear (ap (λ x. is_in (calls_by x) d) e ∙ h)
      (leads-somewhere p meets work w.place u w.at d (owned-calls p meets work c o w d h)) in
      let deep : 3 * (64 - 0) ≤ s.room = omega arith in
      record {
        block = fits_block s 0 (scope p u.form (op_body o)) o.block deep refl proper.3 (fault_at p u.form os w.op o w.op_at fault) works calls;
        few = few_at os w.op o w.op_at few;
        room = room-taken chain c z o clear.1 e;
      }

  task_body : (w : Timing) (i : ℕ) (name : Name) (priority : ℕ) (vars : List Datum) (block : Statements)
      → slice_get p.units i ≡ Some (record { name = name; form = form_by w priority vars block })
      → IsTaskBody p work (record { name = name; form = form_by w priority vars block }) vars
      (record { params = request_params (timing_of w); locals = []; block = block })
  task_body (timing.Periodic offset period) i name priority vars block at =
      let u : Unit = record { name = name; form = Cyclic priority offset period vars block } in
      let b : Body = record { params = []; locals = []; block = block } in
      let works = (or_parts (numbers_break u.form || false) _ (unit_ranges i u at)).1 in
      record {
        fault = (or_none (block_fault (scope p u.form b) block) None (unit_faultless i u at)).0;
        works = ap (list_any (is_outside 1 tick_limit)) (sym (append-nil (block_works block))) ∙ works;
        calls = λ c h. leads-somewhere p meets work i u at c (in-append (block_calls block) [] c h);
        proper = (unit_proper i u at).1;
        distinct = body_distinct i u b at refl;
      }
  task_body (timing.Requested op ceiling separation jitter external) i name priority vars block at =
      let u : Unit = record { name = name; form = Sporadic priority ceiling (signature_of op.now) separation jitter external vars block } in
      let b : Body = record { params = op.now.params.items; locals = []; block = block } in
      let works = (or_parts (numbers_break u.form || (nat_lt 8 (length op.now.params.items) || false)) _ (unit_ranges i u at)).1 in
      let all = body_distinct i u b at refl in
      record {
        fault = (or_none (block_fault (scope p u.form b) block) None (unit_faultless i u at)).0;
        works = ap (list_any (is_outside 1 tick_limit)) (sym (append-nil (block_works block))) ∙ works;
        calls = λ c h. leads-somewhere p meets work i u at c (in-append (block_calls block) [] c h);
        proper = (unit_proper i u at).4;
        distinct = ap (λ ns. are_distinct (map (λ d. d.name) vars ++ ns)) (sym (append-nil (map (λ q. q.name) op.now.params.items)))
            ∙ (and_parts (not (is_named (map (λ d. d.name) vars ++ (map (λ q. q.name) op.now.params.items ++ [])) op.now.name)) _ all).1;
      }

  -- the first nominal time of a task
  pub near-offset : (w : Timing) (i : ℕ) (name : Name) (priority : ℕ) (vars : List Datum) (block : Statements)
      → slice_get p.units i ≡ Some (record { name = name; form = form_by w priority vars block })
      → first_time (timing_of w) < 2 ^ 32
  near-offset (timing.Periodic offset period) i name priority vars block at =
      let numbers = unit_ranges i (record { name = name; form = Cyclic priority offset period vars block }) at in
      let low : nat_lt tick_limit offset ≡ false
      = (or_parts (is_outside 1 60 priority || is_outside 1 tick_limit period) _ (or_parts _ _ (or_parts _ _ numbers).0).0).1 in
      near offset low
    where
      near : (n : ℕ) → nat_lt tick_limit n ≡ false → n < 2 ^ 32
      near n h = grind arith
  near-offset (timing.Requested op ceiling separation jitter external) i name priority vars block at = omega arith

  -- a task of the program
  pub can-run : (t : Thread) → slice_get p.units t.unit ≡ Some (written_as t) → system_of t ≡ system_from work p.units → CanRun t
  can-run t at among =
      let b = task_body t.timing t.unit t.name.now t.priority t.«data».now (block_of_thread t) at in
      let body : Body = record { params = params_of t; locals = []; block = block_of_thread t } in
      let s = spot_of (system_of t) [] in
      let calls : AreClear s (block_calls (block_of_thread t))
      = λ d h. subst (λ x. IsClear x [] d) (sym among) (b.calls d h, refl, λ path to leads. refl) in
      let deep : 3 * (64 - 0) ≤ s.room = omega arith in
      record {
        block = fits_block s 0 (scope p (written_as t).form body) (block_of_thread t) deep refl b.proper b.fault b.works calls;
        distinct = b.distinct;
        calls = subst CanCall (sym among) can-call;
      }

-- the numbers of a program
pub whole : (p : Program) → MeetsRules p → (costs_break p.costs ≡ false) × (length p.units ≤ 500)
whole p meets =
    let keeps : whole_breaks p ≡ false = not_true (whole_breaks p) (λ breaks. meets Ranges Whole breaks) in
    let outer = or_parts (costs_break p.costs || nat_lt 30 (length (filter (λ u. is_task u.form) p.units))) (nat_lt 500 (length p.units)) keeps in
    let few : nat_lt 500 (length p.units) ≡ false = outer.1 in
    ((or_parts (costs_break p.costs) (nat_lt 30 (length (filter (λ u. is_task u.form) p.units))) outer.0).0, grind arith)
