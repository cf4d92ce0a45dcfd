-- Threads that request an object: how many reach it, and that one that doesn't reach it never requests it.
use Rattle.std.proofs.Common.{◌≡◌, ◌≤◌, ◌<◌, ◌+◌, ℕ, zero, suc, Bool, true, false, cond, not, ◌&&◌, ◌||◌, List, [], ◌∷◌, ◌++◌, Option, Some, None}
use Rattle.std.proofs.Common.{map, filter, flat_map, fold, length, arith, refl, ap, sym, ◌∙◌}
use Rattle.std.specs.Prelude.{filter_map, max, min, nat_le, ◌==◌, option_to_list, if◌then◌else◌}
use Rattle.std.specs.List.{cons_option, list_any}
use Rattle.std.proofs.lemmas.List.Folds.{list_any-append}
use Rattle.std.proofs.lemmas.Bool.{or_parts}
use Rattle.seq_tree.specs.Calls.{block_calls}
use Rattle.seq_tree.specs.Dearest.{counted}
use Rattle.seq_tree.specs.Lists.{Each}
use Rattle.seq_tree.specs.Names.{Name, same_name}
use Rattle.seq_tree.specs.Statements.{Statements}
use Rattle.seq_tree.specs.declared.tree.OpName.{OpName}
use Rattle.ods_tree.specs.Attributes.{attribute}
use Rattle.ods_tree.specs.Designs.{Body, Design, Object, Tree, Node, Empty, With}
use Rattle.ods_tree.specs.Links.{resolve}
use Rattle.ods_tree.specs.declared.design.AttrKey.TheVariants.{ArrivalJitter}
use Rattle.ods_tree.specs.declared.design.Node as nodes
use Rattle.ods_tree.specs.declared.design.Node.{out-Node}
use Rattle.ods_tree.specs.Walk.{Standing, inner_standings, is_terminal, objects, only_if, own_of, roots, standings}
use Rattle.design_rules.specs.Broken.{V10}
use Rattle.design_rules.specs.Lookups.{has_thread, is_sporadic, requires}
use Rattle.design_rules.specs.Rings.{calls_within, can_start, inner_calls, meant_calls, operation_calls, protected_objects, terminal_ops}
use Rattle.design_rules.specs.Rings.{thread_objects}
use Rattle.design_rules.specs.Sources.{body_starts, breaks_sources, requests_by, source_count, start_count, start_weight, starts_within}
use Rattle.ods_calls.specs.Requested.{source_fault}
use Rattle.ods_calls.specs.Spreading.{reaches}
use Rattle.ods_index.specs.Walking.{object_of}
use Rattle.ods_calls.proofs.RequestLaws.{counted-quiet, fold-cons}
use Rattle.ods_index.proofs.Shared.WalkSteps.{own_fields}

-- a test of what a list leads to
pub any-flat : {A : Type 0} (p : OpName → Bool) (f : A → List OpName) (xs : List A) → list_any p (flat_map f xs)
    ≡ list_any (λ m. list_any p (f m)) xs
any-flat p f [] = refl
any-flat p f (y ∷ xs) = list_any-append p (f y) (flat_map f xs) ∙ ap (λ b. list_any p (f y) || b) (any-flat p f xs)

max-nothing : (a b : ℕ) → a ≡ 0 → b ≡ 0 → max a b ≡ 0
max-nothing a b h k = grind (arith, h, k)

-- once where an operation is of the target, and else so often
abbrev weigh : Bool → ℕ → ℕ
weigh here k = if here then 1 else k

-- where what leads to a target is told by this test, what doesn't counts nothing
module _ (x : Design) (target : Name) (inner : OpName → ℕ) (leads : OpName → Bool)
    (quiet : (m : OpName) → leads m ≡ false → weigh (same_name m.object target) (inner m) ≡ 0) where
  abbrev weight : Object → OpName → ℕ
  weight o c = start_weight x target inner o c.object c.op

  each-quiet : (o : Object) (cs : List OpName) → list_any leads (map (resolve x) (filter (requires o) cs)) ≡ false → Each (λ c. weight o c ≡ 0) cs
  each-quiet o [] h = tt
  each-quiet o (c ∷ cs) h = by (requires o c) refl h (each-quiet o cs)
    where
      by : (b : Bool) → requires o c ≡ b → list_any leads (map (resolve x) (cond b (c ∷ filter (requires o) cs) (filter (requires o) cs))) ≡ false
          → (list_any leads (map (resolve x) (filter (requires o) cs)) ≡ false → Each (λ d. weight o d ≡ 0) cs) → Each (λ d. weight o d ≡ 0) (c ∷ cs)
      by true e k rest =
          let parts = or_parts (leads (resolve x c)) (list_any leads (map (resolve x) (filter (requires o) cs))) k in (
            ap (λ b. if b then weigh (same_name (resolve x c).object target) (inner (resolve x c)) else 0) e
                ∙ quiet (resolve x c) parts.0,
            rest parts.1,
          )
      by false e k rest = (ap (λ b. if b then weigh (same_name (resolve x c).object target) (inner (resolve x c)) else 0) e, rest k)

  pub block-quiet : (o : Object) (b : Statements) → list_any leads (meant_calls x o b) ≡ false → counted (start_weight x target inner o) b ≡ 0
  block-quiet o b h = counted-quiet (start_weight x target inner o) b (each-quiet o (block_calls b) h)

  bodies-quiet : (o : Object) (bs : List Body) → list_any leads (flat_map (λ b. meant_calls x o b.block) bs) ≡ false
      → fold max 0 (map (λ b. counted (start_weight x target inner o) b.block) bs) ≡ 0
  bodies-quiet o [] h = refl
  bodies-quiet o (b ∷ bs) h =
      let parts = or_parts (list_any leads (meant_calls x o b.block)) (list_any leads (flat_map (λ d. meant_calls x o d.block) bs))
      (sym (list_any-append leads (meant_calls x o b.block) (flat_map (λ d. meant_calls x o d.block) bs)) ∙ h) in
      fold-cons (counted (start_weight x target inner o) b.block) (map (λ d. counted (start_weight x target inner o) d.block) bs)
      ∙ max-nothing (counted (start_weight x target inner o) b.block)
      (fold max 0 (map (λ d. counted (start_weight x target inner o) d.block) bs)) (block-quiet o b.block parts.0) (bodies-quiet o bs parts.1)

  objects-quiet : (op : Name) (os : List Object) → list_any leads (flat_map (λ o. operation_calls x o op) os) ≡ false
      → fold max 0 (map (body_starts x target inner op) os) ≡ 0
  objects-quiet op [] h = refl
  objects-quiet op (o ∷ os) h =
      let parts = or_parts (list_any leads (operation_calls x o op)) (list_any leads (flat_map (λ d. operation_calls x d op) os))
      (sym (list_any-append leads (operation_calls x o op) (flat_map (λ d. operation_calls x d op) os)) ∙ h) in
      fold-cons (body_starts x target inner op o) (map (body_starts x target inner op) os)
      ∙ max-nothing (body_starts x target inner op o) (fold max 0 (map (body_starts x target inner op) os))
      (bodies-quiet o (filter (λ b. same_name b.name op) o.bodies) parts.0) (objects-quiet op os parts.1)

module _ (x : Design) (target : Name) where
  abbrev here : OpName → Bool
  here c = same_name c.object target

  abbrev leads_within : ℕ → OpName → Bool
  leads_within depth n = list_any here (calls_within depth x n)

  unless-here : (n : OpName) (k : ℕ) → here n ≡ false → k ≡ 0 → weigh (here n) k ≡ 0
  unless-here n k e h = ap (λ b. weigh b k) e ∙ h

  first-here : (depth : ℕ) (n : OpName) → leads_within depth n ≡ false → here n ≡ false
  first-here zero n h = (or_parts (here n) false h).0
  first-here (suc depth) n h = (or_parts (here n) (list_any here (flat_map (calls_within depth x) (inner_calls x n))) h).0

  -- an operation that leads to none of the target never requests it
  quiet-within : (depth : ℕ) (n : OpName) → leads_within depth n ≡ false → starts_within depth x target n ≡ 0
  quiet-within zero n h = refl
  quiet-within (suc depth) n h =
      let parts = or_parts (here n) (list_any here (flat_map (calls_within depth x) (inner_calls x n))) h in
      objects-quiet x target (starts_within depth x target) (leads_within depth)
      (λ m k. unless-here m (starts_within depth x target m) (first-here depth m k) (quiet-within depth m k)) n.op
      (filter (λ o. same_name o.name n.object) (protected_objects x)) (sym (any-flat here (calls_within depth x) (inner_calls x n)) ∙ parts.1)

  quiet-call : (depth : ℕ) (m : OpName) → leads_within depth m ≡ false → weigh (here m) (starts_within depth x target m) ≡ 0
  quiet-call depth m h = unless-here m (starts_within depth x target m) (first-here depth m h) (quiet-within depth m h)

  -- and so a thread
  pub quiet-thread : (o : Object) → reaches x o target ≡ false → requests_by x target o ≡ 0
  quiet-thread o h = by o.thread (sym (any-flat here (calls_within depth x) (flat_map (meant_calls x o) (option_to_list o.thread))) ∙ h)
    where
      depth : ℕ
      depth = length (terminal_ops x)

      front : (xs ys : List OpName) → list_any (leads_within depth) (xs ++ ys) ≡ false → list_any (leads_within depth) xs ≡ false
      front xs ys k =
          (or_parts (list_any (leads_within depth) xs) (list_any (leads_within depth) ys) (sym (list_any-append (leads_within depth) xs ys) ∙ k)).0

      by : (t : Option Statements) → list_any (leads_within depth) (flat_map (meant_calls x o) (option_to_list t)) ≡ false
          → fold max 0 (map (counted (start_weight x target (starts_within depth x target) o)) (option_to_list t)) ≡ 0
      by None k = refl
      by (Some b) k =
          fold-cons (counted (start_weight x target (starts_within depth x target) o) b) []
          ∙ max-nothing (counted (start_weight x target (starts_within depth x target) o) b) 0
          (block-quiet x target (starts_within depth x target) (leads_within depth) (quiet-call depth) o b (front (meant_calls x o b) [] k)) refl

-- and so only threads that reach a target count
pub greatest-reached : (x : Design) (target : Name) (os : List Object)
    → fold max 0 (map (requests_by x target) (filter (λ o. reaches x o target) os)) ≡ fold max 0 (map (requests_by x target) os)
greatest-reached x target [] = refl
greatest-reached x target (o ∷ os) = by (reaches x o target) refl (greatest-reached x target os)
  where
    some : List Object
    some = filter (λ o. reaches x o target) os

    all : ℕ
    all = fold max 0 (map (requests_by x target) os)

    nothing-more : (a b : ℕ) → a ≡ 0 → b ≡ max a b
    nothing-more a b h = grind (arith, h)

    by : (t : Bool) → reaches x o target ≡ t → fold max 0 (map (requests_by x target) some) ≡ all
        → fold max 0 (map (requests_by x target) (cond t (o ∷ some) some)) ≡ fold max 0 (map (requests_by x target) (o ∷ os))
    by true e rest =
        fold-cons (requests_by x target o) (map (requests_by x target) some) ∙ ap (max (requests_by x target o)) rest
        ∙ sym (fold-cons (requests_by x target o) (map (requests_by x target) os))
    by false e rest =
        rest ∙ nothing-more (requests_by x target o) all (quiet-thread x target o e)
        ∙ sym (fold-cons (requests_by x target o) (map (requests_by x target) os))

pub start-counted : (x : Design) (o : Object) (name : Name) (os : List Object) → os ≡ filter (λ f. reaches x f name) (thread_objects x) → name
    ≡ o.name → min 2 (fold max 0 (map (requests_by x name) os)) ≡ start_count x o
start-counted x o name os are is =
    ap (λ (fs : List Object). min 2 (fold max 0 (map (requests_by x name) fs))) are ∙ ap (min 2) (greatest-reached x name (thread_objects x))
    ∙ ap (λ n. min 2 (fold max 0 (map (requests_by x n) (thread_objects x)))) is

-- the threads that reach an object are those that can start it, where it is sporadic
pub starters-counted : (x : Design) (o : Object) (fs : List Object) → is_sporadic o.kind ≡ true → length (filter (λ f. reaches x f o.name) fs)
    ≡ length (filter (λ f. can_start x f o) fs)
starters-counted x o fs e = ap (λ b. length (filter (λ f. b && reaches x f o.name) fs)) (sym e)

-- where no thread reaches an object, none counts
pub none-reached : (x : Design) (n : Name) (os : List Object) → list_any (λ o. reaches x o n) os ≡ false
    → (length (filter (λ o. reaches x o n) os) ≡ 0) × (fold max 0 (map (requests_by x n) os) ≡ 0)
none-reached x n [] h = (refl, refl)
none-reached x n (o ∷ os) h =
    let parts = or_parts (reaches x o n) (list_any (λ f. reaches x f n) os) h in
    let rest = none-reached x n os parts.1 in (
      ap (λ b. length (cond b (o ∷ filter (λ f. reaches x f n) os) (filter (λ f. reaches x f n) os))) parts.0 ∙ rest.0,
      fold-cons (requests_by x n o) (map (requests_by x n) os)
          ∙ max-nothing (requests_by x n o) (fold max 0 (map (requests_by x n) os)) (quiet-thread x n o parts.0) rest.1,
    )

-- and where one does, one counts
pub some-reached : (x : Design) (n : Name) (os : List Object) → list_any (λ o. reaches x o n) os ≡ true → 1 ≤ length (filter (λ o. reaches x o n) os)
some-reached x n [] h = absurd (cc)
some-reached x n (o ∷ os) h = by (reaches x o n) (some-reached x n os) h
  where
    rest : List Object
    rest = filter (λ f. reaches x f n) os

    by : (b : Bool) → (list_any (λ f. reaches x f n) os ≡ true → 1 ≤ length rest) → (b || list_any (λ f. reaches x f n) os) ≡ true
        → 1 ≤ length (cond b (o ∷ rest) rest)
    by true r k = omega arith
    by false r k = r k

-- fewer threads than objects, but for a design of one object
pub filter-shorter : {A : Type 0} (p : A → Bool) (xs : List A) → length (filter p xs) ≤ length xs
filter-shorter p [] = omega arith
filter-shorter p (a ∷ xs) = by (p a) (filter-shorter p xs)
  where
    by : (b : Bool) → length (filter p xs) ≤ length xs → length (cond b (a ∷ filter p xs) (filter p xs)) ≤ suc (length xs)
    by true h = omega (arith, h)
    by false h = omega (arith, h)

map-long : (ss : List Standing) → length (map (λ s. s.own) ss) ≡ length ss
map-long [] = refl
map-long (s ∷ ss) = ap suc (map-long ss)

abbrev threads : List Standing → ℕ
threads ss = length (map (λ s. s.own) (filter (λ s. has_thread s.own.kind) (filter is_terminal ss)))

fewer : (ss : List Standing) → threads ss ≤ length ss
fewer ss =
    let all = map-long (filter (λ s. has_thread s.own.kind) (filter is_terminal ss)) in
    let some = filter-shorter (λ s. has_thread s.own.kind) (filter is_terminal ss) in
    omega (arith, all, some, filter-shorter is_terminal ss)

few-tree : (t : Tree) → length (standings None (own_of t ∷ []) t) < 4294967296 → threads (standings None (own_of t ∷ []) t) < 4294967295
few-tree (Node own Empty) few = omega (arith, fewer (standings None (own ∷ []) (Node own Empty)))
few-tree (Node own (With first rest)) few = omega (arith, few, fewer (inner_standings (Some own) (roots (With first rest)) (With first rest)))

pub few-threads : (x : Design) → length (objects x) < 4294967296 → length (thread_objects x) < 4294967295
few-threads x few = few-tree x.root few

-- the name and the kind of an object with no fields hidden
pub own-name : (n : nodes.Node) → (out-Node n).name ≡ (object_of n).name
own-name n = sym (ap (λ (o : Object). o.name) (own_fields n))

pub own-kind : (n : nodes.Node) → (out-Node n).kind ≡ (object_of n).kind
own-kind n = sym (ap (λ (o : Object). o.kind) (own_fields n))

-- what is told of a sporadic object, by its counts
pub fault-counted : (x : Design) (o : Object) (sources starts : ℕ) → is_sporadic o.kind ≡ true → sources ≡ source_count x o → starts ≡ start_count x o
    → only_if (not (sources == 1) || not (nat_le starts 1)) (V10 o.name sources starts) ≡ source_fault x o
fault-counted x o sources starts k s t =
    ap (λ n. only_if (not (n == 1) || not (nat_le starts 1)) (V10 o.name n starts)) s
    ∙ ap (λ n. only_if (not (source_count x o == 1) || not (nat_le n 1)) (V10 o.name (source_count x o) n)) t
    ∙ ap (λ b. only_if (b && breaks_sources x o) (V10 o.name (source_count x o) (start_count x o))) (sym k)

least-one : (n k : ℕ) → n ≡ min 2 k → k ≤ 1 → nat_le n 1 ≡ true
least-one n k e h = grind (arith, e, h)

-- nothing is told of one that has one source and is requested once at most
pub fault-none : (x : Design) (o : Object) (sources : ℕ) → sources ≡ source_count x o → (sources == 1) ≡ true
    → fold max 0 (map (requests_by x o.name) (thread_objects x)) ≤ 1 → source_fault x o ≡ None
fault-none x o sources s one few =
    let counted : (source_count x o == 1) ≡ true = ap (λ n. n == 1) (sym s) ∙ one in
    let started : nat_le (start_count x o) 1 ≡ true = least-one (start_count x o) (fold max 0 (map (requests_by x o.name) (thread_objects x)))
    refl few in
    ap (λ b. only_if (is_sporadic o.kind && (not b || not (nat_le (start_count x o) 1))) (V10 o.name (source_count x o) (start_count x o))) counted
    ∙ ap (λ b. only_if (is_sporadic o.kind && (false || not b)) (V10 o.name (source_count x o) (start_count x o))) started
    ∙ by (is_sporadic o.kind)
  where
    by : (b : Bool) → only_if (b && false) (V10 o.name (source_count x o) (start_count x o)) ≡ None
    by true = refl
    by false = refl

-- nothing is told of one whose sources are one in all and that is requested once at most
pub fine-fault : (x : Design) (o : Object) (out : ℕ) → out ≡ length (option_to_list (attribute ArrivalJitter o))
    → length (filter (λ f. reaches x f o.name) (thread_objects x)) + out ≡ 1 → fold max 0 (map (requests_by x o.name) (thread_objects x)) ≤ 1
    → source_fault x o ≡ None
fine-fault x o out is one few = by (is_sporadic o.kind) refl
  where
    by : (b : Bool) → is_sporadic o.kind ≡ b → source_fault x o ≡ None
    by true e =
        let counted : source_count x o ≡ 1 =
        ap (λ n. n + length (option_to_list (attribute ArrivalJitter o))) (sym (starters-counted x o (thread_objects x) e))
        ∙ ap (λ n. length (filter (λ f. reaches x f o.name) (thread_objects x)) + n) (sym is) ∙ one in
        fault-none x o 1 (sym counted) refl few
    by false e = ap (λ b. only_if (b && breaks_sources x o) (V10 o.name (source_count x o) (start_count x o))) e

-- nothing is told where no thread is sporadic
pub none-sporadic : (x : Design) (os : List Object) → list_any (λ o. is_sporadic o.kind) os ≡ false → filter_map (source_fault x) os ≡ []
none-sporadic x [] h = refl
none-sporadic x (o ∷ os) h =
    let parts = or_parts (is_sporadic o.kind) (list_any (λ f. is_sporadic f.kind) os) h in
    ap (λ b. cons_option (only_if (b && breaks_sources x o) (V10 o.name (source_count x o) (start_count x o))) (filter_map (source_fault x) os))
    parts.0
    ∙ none-sporadic x os parts.1
