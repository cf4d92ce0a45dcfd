-- What a sound flat design costs: its operations, its calls and its blocking are at most the greatest cost.
use Rattle.std.specs.Prelude.{◌≡◌, ℕ, zero, suc, ◌+◌, ◌*◌, ◌≤◌, nat_le, nat_lt, Bool, true, false, cond, List, [], ◌∷◌, ◌++◌, map, zip, filter}
use Rattle.std.specs.Prelude.{flat_map, find, length, Option, Some, None, if◌then◌else◌, ⊤, refl}
use Rattle.std.specs.List.{list_all, cons_option}
use Rattle.std.proofs.Common.{sym, subst, arith, le_refl, zero-le}
use Rattle.seq_tree.specs.Limits.{tick_limit, is_within}
use Rattle.seq_tree.specs.Names.{Name}
use Rattle.seq_tree.specs.Operations.{Operation}
use Rattle.seq_tree.specs.Lists.{Each}
use Rattle.seq_tree.specs.Statements.{Statement, Statements, Branches, Null, Assign, If, For, ExitWhen, Call, Work, Put, End, Then, Nothing}
use Rattle.seq_tree.specs.Statements.{Else, When}
use Rattle.seq_tree.specs.Dearest.{Weights, turn_count, dearest_statement, dearest, dearest_branch}
use Rattle.seq_tree.specs.declared.tree.Costs.{Costs}
use Rattle.seq_tree.specs.declared.tree.OpName.{OpName}
use Rattle.ods_tree.specs.Flats.{Library, Guarded, Thread, Flat}
use Rattle.ods_tree.specs.Flats as timing
use Rattle.ods_tree.specs.Services.{Service, Sort, plain_services, protected_services, requested, request_of, requests, is_service}
use Rattle.ods_tree.specs.Services.{service_named, flat_services}
use Rattle.ods_tree.specs.Services as sort
use Rattle.ods_tree.specs.Sound.{costs_of, entry_ops}
use Rattle.analysis.specs.Execution.{body_cost_by, service_cost, cost_within, called_cost, block_cost}
use Rattle.analysis.specs.Sections.{Section, live_calls, section, sections_by, service_sections, sections_within, sections}
use Rattle.analysis.specs.Sound.{IsSound}
use Rattle.analysis.specs.Ceilings.{ceiling}
use Rattle.analysis.specs.Blocking.{lower_sections, blocking}
use Rattle.std.proofs.lemmas.Bool.{and_parts, leb-true}
use Rattle.law_lists.proofs.Shared.Lists.{each-append, each-to, each-is, each-map}
use Rattle.law_lists.proofs.Shared.Greatest.{fold-most}

-- a dearer call makes no block cheaper
module _ (c : Costs) (f g : Name → Name → ℕ) (less : (object op : Name) → f object op ≤ g object op) where
  abbrev v : Weights
  v = record { costs = c; work = λ ticks. ticks; called = f }

  abbrev w : Weights
  w = record { costs = c; work = λ ticks. ticks; called = g }

  times-more : (k a b n : ℕ) → a ≤ b → k * (n + a) ≤ k * (n + b)
  times-more k a b n h = grind (arith, h)

  mutual
    statement-less : (s : Statement) → dearest_statement v s ≤ dearest_statement w s
    statement-less Null = le_refl c.nothing
    statement-less (Assign target e) = le_refl c.assign
    statement-less (If branches) = branches-less branches
    statement-less (For name low high body) = times-more (turn_count low high) (dearest v body) (dearest w body) c.turn (block-less body)
    statement-less (ExitWhen condition) = le_refl c.test
    statement-less (Call object op actuals) = omega (arith, less object op)
    statement-less (Work ticks) = le_refl ticks
    statement-less (Put e) = le_refl c.put

    pub block-less : (b : Statements) → dearest v b ≤ dearest w b
    block-less End = le_refl 0
    block-less (Then first rest) = omega (arith, statement-less first, block-less rest)

    branches-less : (b : Branches) → dearest_branch v b ≤ dearest_branch w b
    branches-less Nothing = le_refl 0
    branches-less (Else block) = block-less block
    branches-less (When condition block others) = omega (arith, block-less block, branches-less others)

body-less : (c : Costs) (f g : Name → Name → ℕ) → ((object op : Name) → f object op ≤ g object op) → (x : Sort) (o : Operation)
    → body_cost_by c f x o ≤ body_cost_by c g x o
body-less c f g less sort.Plain o = block-less c f g less o.block
body-less c f g less sort.Protected o = block-less c f g less o.block
body-less c f g less sort.Request o = le_refl (2 * c.assign)

service-less : (c : Costs) (f g : Name → Name → ℕ) → ((object op : Name) → f object op ≤ g object op) → (s : Option Service)
    → service_cost c f s ≤ service_cost c g s
service-less c f g less None = le_refl 0
service-less c f g less (Some s) = body-less c f g less s.sort s.op

-- the cost of a call grows with the depth that is looked at
deeper : (k : ℕ) (c : Costs) (ss : List Service) (object op : Name) → cost_within k c ss object op ≤ cost_within (suc k) c ss object op
deeper zero c ss object op = zero-le
deeper (suc k) c ss object op = service-less c (cost_within k c ss) (cost_within (suc k) c ss) (deeper k c ss) (service_named ss object op)

pub all-each : {A : Type 0} (test : A → Bool) (xs : List A) → list_all test xs ≡ true → Each (λ x. test x ≡ true) xs
all-each test [] e = tt
all-each test (x ∷ xs) e = let parts = and_parts (test x) (list_all test xs) e in (parts.0, all-each test xs parts.1)

each-split : {A : Type 0} (P : A → Type 0) (xs ys : List A) → Each P (xs ++ ys) → Each P xs × Each P ys
each-split P [] ys h = (tt, h)
each-split P (x ∷ xs) ys h = let rest = each-split P xs ys h.1 in ((h.0, rest.0), rest.1)

pub within-true : (low high n : ℕ) → is_within low high n ≡ true → (low ≤ n) × (n ≤ high)
within-true low high n e = let parts = and_parts (nat_le low n) (nat_le n high) e in (leb-true low n parts.0, leb-true n high parts.1)

module _ (f : Flat) (sound : IsSound f) where
  abbrev ss : List Service
  ss = flat_services f

  abbrev most : ℕ
  most = tick_limit

  pub finish-some : 1 ≤ f.costs.finish
  finish-some =
      let c = all-each (is_within 1 1000) (costs_of f.costs) sound.formed.costs in
      (within-true 1 1000 f.costs.finish c.1.1.1.1.1.1.0).0

  assign-small : f.costs.assign ≤ 1000
  assign-small = let c = all-each (is_within 1 1000) (costs_of f.costs) sound.formed.costs in (within-true 1 1000 f.costs.assign c.0).1

  -- bodies of operations cost at most the greatest cost
  abbrev IsCheap : Sort → Operation → Type 0
  IsCheap sort.Plain o = block_cost f.costs ss o.block ≤ tick_limit
  IsCheap sort.Protected o = block_cost f.costs ss o.block ≤ tick_limit
  IsCheap sort.Request o = ⊤

  abbrev Cheap : List Operation → Type 0
  Cheap os = Each (λ o. block_cost f.costs ss o.block ≤ tick_limit) os

  cheap-ops : (os : List Operation) → list_all (λ o. nat_le (block_cost f.costs ss o.block) tick_limit) os ≡ true → Cheap os
  cheap-ops os e = each-to (λ o. nat_le (block_cost f.costs ss o.block) tick_limit ≡ true) (λ o. block_cost f.costs ss o.block ≤ tick_limit) os
      (λ o h. leb-true (block_cost f.costs ss o.block) tick_limit h) (all-each (λ o. nat_le (block_cost f.costs ss o.block) tick_limit) os e)

  cheap-plain : (ls : List Library) → Each (λ os. list_all (λ o. nat_le (block_cost f.costs ss o.block) tick_limit) os ≡ true) (map (λ l. l.ops) ls)
      → Each (λ s. IsCheap s.sort s.op) (flat_map plain_services ls)
  cheap-plain [] h = tt
  cheap-plain (l ∷ ls) h = each-append (λ s. IsCheap s.sort s.op) (plain_services l) (flat_map plain_services ls) (ops l.ops (cheap-ops l.ops h.0))
      (cheap-plain ls h.1)
    where
      ops : (os : List Operation) → Cheap os
          → Each (λ s. IsCheap s.sort s.op) (map (λ o. let s : Service = record { object = l.name; sort = sort.Plain; op = o } in s) os)
      ops [] k = tt
      ops (o ∷ os) k = (k.0, ops os k.1)

  cheap-protected : (gs : List Guarded) → Each (λ os. list_all (λ o. nat_le (block_cost f.costs ss o.block) tick_limit) os
      ≡ true) (map (λ g. g.ops) gs) → Each (λ s. IsCheap s.sort s.op) (flat_map protected_services gs)
  cheap-protected [] h = tt
  cheap-protected (g ∷ gs) h = each-append (λ s. IsCheap s.sort s.op) (protected_services g) (flat_map protected_services gs)
      (ops g.ops (cheap-ops g.ops h.0)) (cheap-protected gs h.1)
    where
      ops : (os : List Operation) → Cheap os
          → Each (λ s. IsCheap s.sort s.op) (map (λ o. let s : Service = record { object = g.name; sort = sort.Protected; op = o } in s) os)
      ops [] k = tt
      ops (o ∷ os) k = (k.0, ops os k.1)

  cheap-requests : (ts : List Thread) → Each (λ s. IsCheap s.sort s.op) (requests ts)
  cheap-requests [] = tt
  cheap-requests (t ∷ ts) = by t.timing (cheap-requests ts)
    where
      by : (x : timing.Timing) → Each (λ s. IsCheap s.sort s.op) (requests ts)
          → Each (λ s. IsCheap s.sort s.op) (cons_option (requested t.name (request_of x)) (requests ts))
      by (timing.Cyclic period offset) rest = rest
      by (timing.Sporadic op separation jitter) rest = (tt, rest)

  all-cheap : Each (λ s. IsCheap s.sort s.op) ss
  all-cheap =
      let all = each-split (λ os. list_all (λ o. nat_le (block_cost f.costs ss o.block) tick_limit) os
      ≡ true) (map (λ l. l.ops) f.passive) (map (λ g. g.ops) f.shared)
      (all-each (λ ops. list_all (λ o. nat_le (block_cost f.costs (flat_services f) o.block) tick_limit) ops) (entry_ops f) sound.op_costs) in
      each-append (λ s. IsCheap s.sort s.op) (flat_map plain_services f.passive) (flat_map protected_services f.shared ++ requests f.threads)
      (cheap-plain f.passive all.0)
      (each-append (λ s. IsCheap s.sort s.op) (flat_map protected_services f.shared) (requests f.threads) (cheap-protected f.shared all.1)
      (cheap-requests f.threads))

  find-cheap : (test : Service → Bool) (xs : List Service) → Each (λ s. IsCheap s.sort s.op) xs → (s : Service) → find test xs ≡ Some s
      → IsCheap s.sort s.op
  find-cheap test [] h s e = cc
  find-cheap test (x ∷ xs) h s e = by (test x) e (λ g. find-cheap test xs h.1 s g)
    where
      by : (b : Bool) → cond b (Some x) (find test xs) ≡ Some s → (find test xs ≡ Some s → IsCheap s.sort s.op) → IsCheap s.sort s.op
      by true g later = let is : x ≡ s = cc in subst (λ z. IsCheap z.sort z.op) is h.0
      by false g later = later g

  -- and so do calls
  within-cheap : (n : ℕ) → suc n ≡ length ss → (s : Service) → IsCheap s.sort s.op
      → service_cost f.costs (cost_within n f.costs ss) (Some s) ≤ tick_limit
  within-cheap n long s cheap = by s.sort cheap
    where
      grows : (object op : Name) → cost_within n f.costs ss object op ≤ called_cost f.costs ss object op
      grows object op = subst (λ k. cost_within n f.costs ss object op ≤ cost_within k f.costs ss object op) long (deeper n f.costs ss object op)

      by : (x : Sort) → IsCheap x s.op → body_cost_by f.costs (cost_within n f.costs ss) x s.op ≤ tick_limit
      by sort.Plain h = let less = block-less f.costs (cost_within n f.costs ss) (called_cost f.costs ss) grows s.op.block in omega (arith, less, h)
      by sort.Protected h = let less = block-less f.costs (cost_within n f.costs ss) (called_cost f.costs ss) grows s.op.block
          in omega (arith, less, h)
      by sort.Request h = omega (arith, assign-small)

  called-cheap : (object op : Name) → called_cost f.costs ss object op ≤ tick_limit
  called-cheap object op = by (length ss) refl
    where
      found : (n : ℕ) → suc n ≡ length ss → (o : Option Service) → service_named ss object op ≡ o
          → service_cost f.costs (cost_within n f.costs ss) o ≤ tick_limit
      found n long None e = zero-le
      found n long (Some s) e = within-cheap n long s (find-cheap (is_service object op) ss all-cheap s e)

      by : (n : ℕ) → length ss ≡ n → cost_within n f.costs ss object op ≤ tick_limit
      by zero e = zero-le
      by (suc n) e = found n (sym e) (service_named ss object op) refl

  -- the sections of calls, those inside others too
  flat-cheap : (inner : OpName → List Section) → ((c : OpName) → Each (λ s. s.cost ≤ tick_limit) (inner c)) → (cs : List OpName)
      → Each (λ s. s.cost ≤ tick_limit) (flat_map inner cs)
  flat-cheap inner h [] = tt
  flat-cheap inner h (c ∷ cs) = each-append (λ s. s.cost ≤ tick_limit) (inner c) (flat_map inner cs) (h c) (flat-cheap inner h cs)

  call-cheap : (depth : ℕ) (c : OpName) → Each (λ s. s.cost ≤ tick_limit) (sections_within depth f.costs ss c)
  call-cheap zero c = tt
  call-cheap (suc depth) c = by (service_named ss c.object c.op) (call-cheap depth)
    where
      sorted : (x : Sort) (o : Operation) → ((d : OpName) → Each (λ s. s.cost ≤ tick_limit) (sections_within depth f.costs ss d))
          → Each (λ s. s.cost ≤ tick_limit) (sections_by (section f.costs ss c) (sections_within depth f.costs ss) x o)
      sorted sort.Plain o inner = tt
      sorted sort.Protected o inner = (called-cheap c.object c.op, flat-cheap (sections_within depth f.costs ss) inner (live_calls o.block))
      sorted sort.Request o inner = (called-cheap c.object c.op, tt)

      by : (o : Option Service) → ((d : OpName) → Each (λ s. s.cost ≤ tick_limit) (sections_within depth f.costs ss d))
          → Each (λ s. s.cost ≤ tick_limit) (service_sections (section f.costs ss c) (sections_within depth f.costs ss) o)
      by None inner = tt
      by (Some s) inner = sorted s.sort s.op inner

  sections-cheap : (cs : List OpName) → Each (λ s. s.cost ≤ tick_limit) (flat_map (sections_within (length ss) f.costs ss) cs)
  sections-cheap cs = flat-cheap (sections_within (length ss) f.costs ss) (call-cheap (length ss)) cs

  lower-cheap : (level : ℕ) (us : List (Thread × ℕ))
      → Each (λ s. s.cost ≤ tick_limit) (flat_map (λ u. if nat_lt u.1 level then sections f.costs ss u.0.block else []) us)
  lower-cheap level [] = tt
  lower-cheap level (u ∷ us) = by (nat_lt u.1 level) (lower-cheap level us)
    where
      by : (b : Bool) → Each (λ s. s.cost ≤ tick_limit) (flat_map (λ x. if nat_lt x.1 level then sections f.costs ss x.0.block else []) us)
          → Each (λ s. s.cost ≤ tick_limit) ((if b then sections f.costs ss u.0.block else [])
          ++ flat_map (λ x. if nat_lt x.1 level then sections f.costs ss x.0.block else []) us)
      by true rest = each-append (λ s. s.cost ≤ tick_limit) (sections f.costs ss u.0.block) _ (sections-cheap (live_calls u.0.block)) rest
      by false rest = rest

  filter-each : {A : Type 0} (P : A → Type 0) (test : A → Bool) (xs : List A) → Each P xs → Each P (filter test xs)
  filter-each P test [] h = tt
  filter-each {A} P test (x ∷ xs) h = by (test x) (filter-each P test xs h.1)
    where
      by : (b : Bool) → Each P (filter test xs) → Each P (if b then x ∷ filter test xs else filter test xs)
      by true rest = (h.0, rest)
      by false rest = rest

  pub blocking-cheap : (ps : List ℕ) (level : ℕ) → blocking f ps level ≤ tick_limit
  blocking-cheap ps level =
      fold-most 0 tick_limit (map (λ s. s.cost) (filter (λ s. nat_le level (ceiling f ps s.object)) (lower_sections f ps level))) zero-le (λ n h.
      each-is (λ m. m ≤ tick_limit) _ n
      (each-map (λ (s : Section). s.cost) (λ n. n ≤ tick_limit) (filter (λ s. nat_le level (ceiling f ps s.object)) (lower_sections f ps level))
      (filter-each (λ s. s.cost ≤ tick_limit) (λ s. nat_le level (ceiling f ps s.object)) (lower_sections f ps level)
      (lower-cheap level (zip f.threads ps)))) h)
