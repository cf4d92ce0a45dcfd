-- The ticks of a walk of a block of a sound design's program: at most those that the block costs, and so within the greatest cost.
use Rattle.std.proofs.Common.{◌≡◌, ◌≤◌, ◌+◌, ◌*◌, ℕ, zero, suc, Bool, true, false, List, [], ◌∷◌, ◌++◌, map, flat_map, Option, Some, None, refl}
use Rattle.std.proofs.Common.{sym, ap, subst, ◌∙◌, arith, le_refl}
use Rattle.std.specs.Prelude.{find, filter_map, cond, max, nat_lt, nat_le}
use Rattle.std.specs.List.{list_any, list_all, cons_option}
use Rattle.std.proofs.lemmas.Bool.{or_parts, and_parts, false_from_ne_true, leb-true}
use Rattle.std.proofs.lemmas.List.Folds.{list_any-append}
use Rattle.std.proofs.lemmas.Option.{none-some, same_Some}
use Rattle.seq_tree.specs.Limits.{tick_limit}
use Rattle.seq_tree.specs.Names.{Name}
use Rattle.seq_tree.specs.Lists.{Each}
use Rattle.seq_tree.specs.Operations.{Operation}
use Rattle.seq_tree.specs.Statements.{Statement, Statements, Branches, Null, Assign, If, For, ExitWhen, Call, Work, Put, End, Then, Nothing}
use Rattle.seq_tree.specs.Statements.{Else, When}
use Rattle.seq_tree.specs.Calls.{statement_works, block_works, branch_works}
use Rattle.seq_tree.specs.Dearest.{Weights, turn_count, dearest_statement, dearest, dearest_branch}
use Rattle.seq_tree.specs.declared.tree.Costs.{Costs}
use Rattle.seq_eval.specs.Bounds.{block_ticks, called_ticks, callee_ticks, most_ticks}
use Rattle.ods_tree.specs.Designs.{Design}
use Rattle.ods_tree.specs.Flats.{Guarded, Timing, Thread}
use Rattle.ods_tree.specs.Flats as timing
use Rattle.ods_tree.specs.Flattening.{flat}
use Rattle.ods_tree.specs.Services.{Service, Sort, Plain, Protected, Request, service_named, flat_services, plain_services, protected_services}
use Rattle.ods_tree.specs.Services.{requested, request_of, requests, callee_of, callee_by, is_service}
use Rattle.ods_tree.specs.Sound.{entry_ops}
use Rattle.ada_tree.specs.Programs.{Program, Form, Unit, Passive, Shared, Cyclic, Sporadic}
use Rattle.ada_tree.specs.Bodies.{bodies, op_body}
use Rattle.ada_tree.specs.Ranges.{is_outside, breaks_ranges}
use Rattle.ada_tree.specs.Rules.{MeetsRules, Ranges, At}
use Rattle.analysis.specs.Execution.{service_cost, called_cost, block_cost}
use Rattle.analysis.specs.Sound.{IsSound}
use Rattle.analysis.specs.Tables.{activation_cost}
use Rattle.guarantee.specs.Software.{Software, Task, program_software, software, task_of, library_by, guarded_by, task_by, leads_to, all_services}
use Rattle.guarantee.specs.Programs.{program}
use Rattle.guarantee.proofs.Shared.Same.{program-software}
use Rattle.law_calls.proofs.Shared.Bodies.{costs-cover}
use Rattle.law_calls.proofs.Shared.Rings.{no-ring}
use Rattle.law_lists.proofs.Shared.Lists.{each-append, each-by}
use Rattle.trace_scripts.specs.Scenes.{AllBlocks, AllIn}

-- numbers of `work`
abbrev AreWithin : List ℕ → Type 0
AreWithin ns = list_any (is_outside 1 tick_limit) ns ≡ false

within-parts : (ns ms : List ℕ) → AreWithin (ns ++ ms) → AreWithin ns × AreWithin ms
within-parts ns ms e = or_parts (list_any (is_outside 1 tick_limit) ns) _ (sym (list_any-append (is_outside 1 tick_limit) ns ms) ∙ e)

some-work : (n : ℕ) → AreWithin (n ∷ []) → max 1 n ≤ n
some-work n e =
    let h : nat_lt n 1 ≡ false = (or_parts _ _ (or_parts (is_outside 1 tick_limit n) _ e).0).0 in
    let one : 1 ≤ n = grind arith in
    grind (arith, one)

times-more : (k m a b : ℕ) → a ≤ b → k * (m + a) ≤ k * (m + b)
times-more k m a b h = grind (arith, h)

-- with dearer calls, where each `work` takes a tick at least, a block costs no less
module _ (c : Costs) (f g : Name → Name → ℕ) (less : (object op : Name) → f object op ≤ g object op) where
  abbrev v : Weights
  v = record { costs = c; work = max 1; called = f }

  abbrev w : Weights
  w = record { costs = c; work = λ ticks. ticks; called = g }

  mutual
    statement-less : (s : Statement) → AreWithin (statement_works s) → dearest_statement v s ≤ dearest_statement w s
    statement-less Null e = le_refl c.nothing
    statement-less (Assign target x) e = le_refl c.assign
    statement-less (If branches) e = branches-less branches e
    statement-less (For name low high body) e = times-more (turn_count low high) c.turn (dearest v body) (dearest w body) (block-less body e)
    statement-less (ExitWhen condition) e = le_refl c.test
    statement-less (Call object op actuals) e = omega (arith, less object op)
    statement-less (Work n) e = some-work n e
    statement-less (Put x) e = le_refl c.put

    pub block-less : (b : Statements) → AreWithin (block_works b) → dearest v b ≤ dearest w b
    block-less End e = le_refl 0
    block-less (Then first rest) e =
        let es = within-parts (statement_works first) (block_works rest) e in
        omega (arith, statement-less first es.0, block-less rest es.1)

    branches-less : (b : Branches) → AreWithin (branch_works b) → dearest_branch v b ≤ dearest_branch w b
    branches-less Nothing e = le_refl 0
    branches-less (Else block) e = block-less block e
    branches-less (When condition block others) e =
        let es = within-parts (block_works block) (branch_works others) e in
        omega (arith, block-less block es.0, branches-less others es.1)

-- LISTS
found-each : {A : Type 0} (P : A → Type 0) (test : A → Bool) (xs : List A) (x : A) → Each P xs → find test xs ≡ Some x → P x
found-each P test [] x h e = absurd (none-some x e)
found-each {A} P test (y ∷ ys) x h e = by (test y) e (λ k. found-each P test ys x h.1 k)
  where
    by : (b : Bool) → cond b (Some y) (find test ys) ≡ Some x → (find test ys ≡ Some x → P x) → P x
    by true k more = subst P (same_Some {A = A} y x k) h.0
    by false k more = more k

all-each : {A : Type 0} (P : A → Type 0) (test : A → Bool) → ((x : A) → test x ≡ true → P x) → (xs : List A) → list_all test xs ≡ true → Each P xs
all-each P test is [] e = tt
all-each P test is (x ∷ xs) e = let es = and_parts (test x) (list_all test xs) e in (is x es.0, all-each P test is xs es.1)

-- OPERATIONS of a program
abbrev HasWorks : Operation → Type 0
HasWorks o = AreWithin (block_works o.block)

ops-works : (os : List Operation) → AreWithin (flat_map (λ b. block_works b.block) (map op_body os)) → Each HasWorks os
ops-works [] e = tt
ops-works (o ∷ os) e =
    let es = within-parts (block_works o.block) (flat_map (λ b. block_works b.block) (map op_body os)) e in
    (es.0, ops-works os es.1)

abbrev UnitWorks : Unit → Type 0
UnitWorks u = AreWithin (flat_map (λ b. block_works b.block) (bodies u.form))

-- works of passive operations alone are asked
abbrev PlainWorks : Service → Type 0
PlainWorks s = s.sort ≡ Plain → HasWorks s.op

plain-each : (name : Name) (os : List Operation) → Each HasWorks os → Each PlainWorks (map (λ o. record { object = name; sort = Plain; op = o }) os)
plain-each name [] h = tt
plain-each name (o ∷ os) h = ((λ e. h.0), plain-each name os h.1)

never-protected : Protected ≡ Plain → ⊥
never-protected e = cc

never-request : Request ≡ Plain → ⊥
never-request e = cc

protected-each : (name : Name) (os : List Operation) → Each PlainWorks (map (λ o. record { object = name; sort = Protected; op = o }) os)
protected-each name [] = tt
protected-each name (o ∷ os) = ((λ e. absurd (never-protected e)), protected-each name os)

plain-libraries : (us : List Unit) → Each UnitWorks us → Each PlainWorks (flat_map plain_services (filter_map (λ u. library_by u.name u.form) us))
plain-libraries [] h = tt
plain-libraries (u ∷ us) h = by u.form h.0 (plain-libraries us h.1)
  where
    by : (f : Form) → AreWithin (flat_map (λ b. block_works b.block) (bodies f))
        → Each PlainWorks (flat_map plain_services (filter_map (λ x. library_by x.name x.form) us))
        → Each PlainWorks (flat_map plain_services (cons_option (library_by u.name f) (filter_map (λ x. library_by x.name x.form) us)))
    by (Passive os) e more =
        each-append PlainWorks (map (λ o. record { object = u.name; sort = Plain; op = o }) os)
        (flat_map plain_services (filter_map (λ x. library_by x.name x.form) us)) (plain-each u.name os (ops-works os e)) more
    by (Shared ceiling vars os) e more = more
    by (Cyclic priority offset period vars block) e more = more
    by (Sporadic priority ceiling o separation jitter external vars block) e more = more

plain-guarded : (gs : List Guarded) → Each PlainWorks (flat_map protected_services gs)
plain-guarded [] = tt
plain-guarded (g ∷ gs) =
    each-append PlainWorks (protected_services g) (flat_map protected_services gs) (protected-each g.name g.ops) (plain-guarded gs)

plain-requests : (ts : List Task) → Each PlainWorks (filter_map (λ t. requested t.name (request_of t.timing)) ts)
plain-requests [] = tt
plain-requests (t ∷ ts) = by t.timing (plain-requests ts)
  where
    by : (k : Timing) → Each PlainWorks (filter_map (λ x. requested x.name (request_of x.timing)) ts)
        → Each PlainWorks (cons_option (requested t.name (request_of k)) (filter_map (λ x. requested x.name (request_of x.timing)) ts))
    by (timing.Cyclic period offset) more = more
    by (timing.Sporadic op separation jitter) more = ((λ e. absurd (never-request e)), more)

module _ (p : Program) (meets : MeetsRules p) where
  abbrev ws : Software
  ws = program_software p

  abbrev ss : List Service
  ss = all_services ws

  units-work : Each UnitWorks p.units
  units-work =
      each-by UnitWorks p.units (λ i u at. (or_parts _ _ (false_from_ne_true (breaks_ranges u) (λ breaks. meets Ranges (At i) (u, at, breaks)))).1)

  services-work : Each PlainWorks ss
  services-work =
      each-append PlainWorks (flat_map plain_services ws.passive) _ (plain-libraries p.units units-work)
      (each-append PlainWorks (flat_map protected_services ws.shared) _ (plain-guarded ws.shared) (plain-requests ws.tasks))

  abbrev cost_of : Name → Name → ℕ
  cost_of = called_cost p.costs ss

  called-by : (f : Name → Name → ℕ) → ((object op : Name) → f object op ≤ cost_of object op) → (object op : Name)
      → callee_ticks p.costs (block_ticks p.costs f) (leads_to ws object op) ≤ cost_of object op
  called-by f less object op =
      subst (λ z. callee_ticks p.costs (block_ticks p.costs f) (leads_to ws object op) ≤ z) (sym (costs-cover ss (no-ring p meets) p.costs object op))
      (by (service_named ss object op) refl)
    where
      sorted : (s : Service) (k : Sort) → s.sort ≡ k → PlainWorks s
          → callee_ticks p.costs (block_ticks p.costs f) (callee_by k s.op) ≤ service_cost p.costs cost_of (Some (record s { sort = k }))
      sorted s Plain e has = block-less p.costs f cost_of less s.op.block (has e)
      sorted s Protected e has = omega arith
      sorted s Request e has = le_refl (2 * p.costs.assign)

      by : (o : Option Service) → service_named ss object op ≡ o
          → callee_ticks p.costs (block_ticks p.costs f) (callee_of o) ≤ service_cost p.costs cost_of o
      by None e = le_refl 0
      by (Some s) e = sorted s s.sort refl (found-each PlainWorks (is_service object op) ss s services-work e)

  called-less : (depth : ℕ) (object op : Name) → called_ticks p.costs (leads_to ws) depth object op ≤ cost_of object op
  called-less zero object op = omega arith
  called-less (suc depth) object op = called-by (called_ticks p.costs (leads_to ws) depth) (called-less depth) object op

  -- a block of a unit
  block-cheap : (depth : ℕ) (b : Statements) → AreWithin (block_works b) → most_ticks p.costs (leads_to ws) depth b ≤ block_cost p.costs ss b
  block-cheap depth b e = block-less p.costs (called_ticks p.costs (leads_to ws) depth) cost_of (called-less depth) b e

  abbrev IsCheap : Statements → Type 0
  IsCheap b = block_cost p.costs ss b ≤ tick_limit

  abbrev IsQuick : Statements → Type 0
  IsQuick b = (depth : ℕ) → most_ticks p.costs (leads_to ws) depth b ≤ tick_limit

  quick : (b : Statements) → AreWithin (block_works b) → IsCheap b → IsQuick b
  quick b e cheap depth = let less = block-cheap depth b e in omega (arith, less, cheap)

  quick-ops : (os : List Operation) → Each HasWorks os → Each (λ o. IsCheap o.block) os → Each (λ o. IsQuick o.block) os
  quick-ops [] h k = tt
  quick-ops (o ∷ os) h k = (quick o.block h.0 k.0, quick-ops os h.1 k.1)

  -- where the operations of objects and the threads are cheap
  all-quick : (us : List Unit) → Each UnitWorks us
      → Each (λ g. Each (λ o. IsCheap o.block) g.ops) (filter_map (λ u. guarded_by u.name u.form) us)
      → Each (λ t. IsCheap t.block) (filter_map (λ u. task_by u.name u.form) us) → Each (λ u. AllBlocks IsQuick u.form) us
  all-quick [] h gs ts = tt
  all-quick (u ∷ us) h gs ts = by (λ g t. all-quick us h.1 g t) u.form h.0 gs ts
    where
      by : (Each (λ g. Each (λ o. IsCheap o.block) g.ops) (filter_map (λ x. guarded_by x.name x.form) us)
          → Each (λ t. IsCheap t.block) (filter_map (λ x. task_by x.name x.form) us) → Each (λ x. AllBlocks IsQuick x.form) us) → (f : Form)
          → AreWithin (flat_map (λ b. block_works b.block) (bodies f))
          → Each (λ g. Each (λ o. IsCheap o.block) g.ops) (cons_option (guarded_by u.name f) (filter_map (λ x. guarded_by x.name x.form) us))
          → Each (λ t. IsCheap t.block) (cons_option (task_by u.name f) (filter_map (λ x. task_by x.name x.form) us))
          → AllBlocks IsQuick f × Each (λ x. AllBlocks IsQuick x.form) us
      by more (Passive os) e g t = (tt, more g t)
      by more (Shared ceiling vars os) e g t = (quick-ops os (ops-works os e) g.0, more g.1 t)
      by more (Cyclic priority offset period vars block) e g t = (quick block (within-parts (block_works block) [] e).0 t.0, more g t.1)
      by more (Sporadic priority ceiling o separation jitter external vars block) e g t =
          (quick block (within-parts (block_works block) [] e).0 t.0, more g t.1)

-- A SOUND DESIGN
requests-same : (ts : List Thread) → filter_map (λ t. requested t.name (request_of t.timing)) (map task_of ts) ≡ requests ts
requests-same [] = refl
requests-same (t ∷ ts) = ap (cons_option (requested t.name (request_of t.timing))) (requests-same ts)

same-services : (x : Design) → all_services (software x) ≡ flat_services (flat x)
same-services x =
    ap (λ z. flat_map plain_services (flat x).passive ++ (flat_map protected_services (flat x).shared ++ z)) (requests-same (flat x).threads)

less-is : (n m : ℕ) → nat_le n m ≡ true → n ≤ m
less-is n m e = leb-true n m e

module _ (x : Design) (sound : IsSound (flat x)) where
  abbrev p : Program
  p = program x

  abbrev costs_in : List Service → Statements → Type 0
  costs_in ss b = block_cost x.costs ss b ≤ tick_limit

  ops-cheap : (gs : List Guarded) → Each (Each (λ o. costs_in (flat_services (flat x)) o.block)) (map (λ g. g.ops) gs)
      → Each (λ g. Each (λ o. costs_in (flat_services (flat x)) o.block) g.ops) gs
  ops-cheap [] h = tt
  ops-cheap (g ∷ gs) h = (h.0, ops-cheap gs h.1)

  each-back : {A : Type 0} (P : A → Type 0) (xs ys : List A) → Each P (xs ++ ys) → Each P ys
  each-back P [] ys h = h
  each-back P (z ∷ zs) ys h = each-back P zs ys h.1

  shared-cheap : Each (λ g. Each (λ o. costs_in (flat_services (flat x)) o.block) g.ops) (flat x).shared
  shared-cheap =
      ops-cheap (flat x).shared
      (each-back (Each (λ o. costs_in (flat_services (flat x)) o.block)) (map (λ l. l.ops) (flat x).passive) (map (λ g. g.ops) (flat x).shared)
      (all-each (Each (λ o. costs_in (flat_services (flat x)) o.block)) _
      (λ os e. all-each (λ o. costs_in (flat_services (flat x)) o.block) _ (λ o k. less-is _ tick_limit k) os e) (entry_ops (flat x)) sound.op_costs))

  tasks-cheap : (ts : List Thread) → list_all (λ t. nat_le (activation_cost (flat x) t) tick_limit) ts ≡ true
      → Each (λ t. costs_in (flat_services (flat x)) t.block) (map task_of ts)
  tasks-cheap [] e = tt
  tasks-cheap (t ∷ ts) e =
      let es = and_parts (nat_le (activation_cost (flat x) t) tick_limit) _ e in
      let one = less-is (activation_cost (flat x) t) tick_limit es.0 in
      (omega (arith, one), tasks-cheap ts es.1)

  pub program-quick : MeetsRules p → AllIn (λ b. (depth : ℕ) → most_ticks p.costs (leads_to (program_software p)) depth b ≤ tick_limit) p
  program-quick meets =
      let same : all_services (program_software p) ≡ flat_services (flat x) = ap all_services (program-software x) ∙ same-services x in
      all-quick p meets p.units (units-work p meets)
      (subst (λ z. Each (λ g. Each (λ o. costs_in z o.block) g.ops) (program_software p).shared) (sym same)
      (subst (λ z. Each (λ g. Each (λ o. costs_in (flat_services (flat x)) o.block) g.ops) z.shared) (sym (program-software x)) shared-cheap))
      (subst (λ z. Each (λ t. costs_in z t.block) (program_software p).tasks) (sym same)
      (subst (λ z. Each (λ t. costs_in (flat_services (flat x)) t.block) z.tasks) (sym (program-software x))
      (tasks-cheap (flat x).threads sound.thread_costs)))
