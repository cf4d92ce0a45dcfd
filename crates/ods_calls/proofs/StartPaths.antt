-- Paths of the graph of starts, by names: a thread starts another where a path leads to it through operations alone.
-- So a thread is on a ring of starts where it is on a ring of that graph.
use Rattle.std.proofs.Common.{◌≡◌, ◌⊎◌, inl, inr, ℕ, zero, suc, ◌&&◌, Bool, true, false, List, [], ◌∷◌, ◌++◌, map, flat_map, length, refl, sym, ap, subst, ◌∙◌}
use Rattle.std.specs.List.{list_any}
use Rattle.std.proofs.lemmas.Bool.{and_from, and_parts}
use Rattle.seq_tree.proofs.Shared.SameNames.{same-is, same-self}
use Rattle.seq_tree.proofs.Shared.Walks.{LeadOn, Step, leads-within, same_op-eq, same_op-refl, within, within-here, within-leads}
use Rattle.seq_tree.specs.Calls.{same_op}
use Rattle.seq_tree.specs.Names.{Name, same_name}
use Rattle.seq_tree.specs.Rings.{IsOnRing, LeadsTo}
use Rattle.seq_tree.specs.declared.tree.OpName.{OpName}
use Rattle.ods_tree.specs.Designs.{Design, Object}
use Rattle.design_rules.specs.Lookups.{is_sporadic}
use Rattle.design_rules.specs.Rings.{IsOnStartRing, StartsThread, can_start, calls_within, inner_calls, terminal_ops, thread_calls, thread_objects}
use Rattle.ods_calls.specs.Keys.{has_target, is_target}
use Rattle.ods_calls.specs.Spreading.{direct_calls}
use Rattle.ods_calls.specs.Starting.{Spot, Thread, Op}
use Rattle.ods_calls.proofs.Items.{In, any-in, from-flat, in-flat, some-in}

flat-same : (f g : OpName → List OpName) (xs : List OpName) → ((n : OpName) → f n ≡ g n) → flat_map f xs ≡ flat_map g xs
flat-same f g [] same = refl
flat-same f g (y ∷ xs) same = ap (λ l. l ++ flat_map f xs) (same y) ∙ ap (λ l. g y ++ l) (flat-same f g xs same)

-- what is within a depth is what calls of protected operations lead to
within-calls : (x : Design) (depth : ℕ) (n : OpName) → within depth (inner_calls x) n ≡ calls_within depth x n
within-calls x zero n = refl
within-calls x (suc depth) n =
    ap (λ l. n ∷ l) (flat-same (within depth (inner_calls x)) (calls_within depth x) (inner_calls x n) (within-calls x depth))

-- an operation among others, by a test and by itself
pub among-in : (a : OpName) (xs : List OpName) → list_any (same_op a) xs ≡ true → In a xs
among-in a xs h = let r = some-in (same_op a) xs h in let P : OpName → Type 0 = λ z. In z xs in subst P (sym (same_op-eq a r.0 r.2)) r.1

pub in-among : (a : OpName) (xs : List OpName) → In a xs → list_any (same_op a) xs ≡ true
in-among a xs h = any-in (same_op a) a xs h (same_op-refl a)

-- one path behind another
pub path-on : {A : Type 0} (S : A → A → Type 0) (p q : List A) (a b c : A) → LeadsTo S a p b → LeadsTo S b q c → LeadsTo S a (p ++ b ∷ q) c
path-on S [] q a b c h k = (h, k)
path-on S (via ∷ p) q a b c h k = (h.0, path-on S p q via b c h.1 k)

-- what a call leads to
abbrev pub Aimed : OpName → Spot → Type 0
Aimed k (Thread n) = k.object ≡ n
Aimed k (Op m) = k ≡ m

-- a step of the graph: a call of one of these threads, whose name passes a test, or of a protected operation
abbrev pub Leads : Design → (Name → Bool) → List Object → Spot → Spot → Type 0
Leads x target os (Thread n) s =
    (target n ≡ true) × ((o : Object) × In o os × (o.name ≡ n) × ((k : OpName) × In k (direct_calls x o) × Aimed k s))
Leads x target os (Op m) s = (k : OpName) × In k (inner_calls x m) × Aimed k s

-- an operation leads to another, or is it
abbrev pub Onward : Design → OpName → OpName → Type 0
Onward x m k = (m ≡ k) ⊎ ((path : List OpName) × LeadsTo (Step (inner_calls x)) m path k)

onward-step : (x : Design) (m k n : OpName) → Onward x m k → In n (inner_calls x k) → Onward x m n
onward-step x m k n (inl e) h = let P : OpName → Type 0 = λ z. Step (inner_calls x) z n in inr ([], subst P (sym e) (in-among n (inner_calls x k) h))
onward-step x m k n (inr (path, leads)) h = inr (path ++ k ∷ [], path-on (Step (inner_calls x)) path [] m k n leads (in-among n (inner_calls x k) h))

-- where whatever calls is a terminal operation, what a thread calls is what its own calls lead to
module _ (x : Design) (on : LeadOn (inner_calls x) (terminal_ops x)) where
  within-same : (m : OpName) → within (length (terminal_ops x)) (inner_calls x) m ≡ calls_within (length (terminal_ops x)) x m
  within-same m = within-calls x (length (terminal_ops x)) m

  pub onward-within : (m k : OpName) → Onward x m k → In k (calls_within (length (terminal_ops x)) x m)
  onward-within m k h =
      let P : List OpName → Type 0 = λ l. In k l in
      subst P (within-same m) (among-in k (within (length (terminal_ops x)) (inner_calls x) m) (by h))
    where
      by : Onward x m k → list_any (same_op k) (within (length (terminal_ops x)) (inner_calls x) m) ≡ true
      by (inl e) = let P : OpName → Type 0 = λ z. list_any (same_op z) (within (length (terminal_ops x)) (inner_calls x) m) ≡ true
          in subst P e (within-here (length (terminal_ops x)) (inner_calls x) m)
      by (inr (path, leads)) = leads-within (inner_calls x) (terminal_ops x) on m k path leads

  pub within-onward : (m k : OpName) → In k (calls_within (length (terminal_ops x)) x m) → Onward x m k
  within-onward m k h =
      let P : List OpName → Type 0 = λ l. In k l in
      by (within-leads (length (terminal_ops x)) (inner_calls x) m k
      (in-among k (within (length (terminal_ops x)) (inner_calls x) m) (subst P (sym (within-same m)) h)))
    where
      by : (same_op k m ≡ true) ⊎ ((path : List OpName) × LeadsTo (Step (inner_calls x)) m path k) → Onward x m k
      by (inl e) = inl (sym (same_op-eq k m e))
      by (inr way) = inr way

  pub in-thread : (o : Object) (m k : OpName) → In m (direct_calls x o) → Onward x m k → In k (thread_calls x o)
  in-thread o m k h way = in-flat (calls_within (length (terminal_ops x)) x) m k (direct_calls x o) h (onward-within m k way)

  pub from-thread : (o : Object) (k : OpName) → In k (thread_calls x o) → (m : OpName) × In m (direct_calls x o) × Onward x m k
  from-thread o k h =
      let r = from-flat (calls_within (length (terminal_ops x)) x) k (direct_calls x o) h in (r.0, r.1, within-onward r.0 k r.2)

  pub thread-on : (o : Object) (k n : OpName) → In k (thread_calls x o) → In n (inner_calls x k) → In n (thread_calls x o)
  thread-on o k n h call = let r = from-thread o k h in in-thread o r.0 n r.1 (onward-step x r.0 k n r.2 call)

  module _ (target : Name → Bool) (os : List Object) where
    -- along a path of operations, and to the thread of the last call
    pub ops-lead : (path : List OpName) (m k : OpName) → LeadsTo (Step (inner_calls x)) m path k
        → LeadsTo (Leads x target os) (Op m) (map Op path) (Thread k.object)
    ops-lead [] m k h = (k, among-in k (inner_calls x m) h, refl)
    ops-lead (via ∷ path) m k h = ((via, among-in via (inner_calls x m) h.0, refl), ops-lead path via k h.1)

    -- a call of a thread, and on to the thread of what it leads to
    pub thread-leads : (o : Object) (k : OpName) → In o os → target o.name ≡ true → In k (thread_calls x o)
        → (path : List Spot) × LeadsTo (Leads x target os) (Thread o.name) path (Thread k.object)
    thread-leads o k held is h = let r = from-thread o k h in by r.0 r.1 r.2
      where
        by : (m : OpName) → In m (direct_calls x o) → Onward x m k
            → (path : List Spot) × LeadsTo (Leads x target os) (Thread o.name) path (Thread k.object)
        by m call (inl e) = ([], (is, (o, held, refl, (m, call, ap (λ z. z.object) e))))
        by m call (inr (path, leads)) = (Op m ∷ map Op path, ((is, (o, held, refl, (m, call, refl))), ops-lead path m k leads))

  -- the threads that start others
  abbrev threads : List Object
  threads = thread_objects x

  abbrev target : Name → Bool
  target = has_target threads

  -- a thread that can start another, by the operation that it calls
  pub record Started (a c : Name) : Type 0 where
    pub from : Object
    pub stands : In from threads
    pub named : from.name ≡ a
    pub aim : target c ≡ true
    pub call : OpName
    pub called : In call (thread_calls x from)
    pub object : call.object ≡ c

  pub started : (a c : Name) → StartsThread x a c → Started a c
  started a c h =
      let f = some-in (λ f. same_name f.name a && list_any (λ t. same_name t.name c && can_start x f t) threads) threads h in
      let g = and_parts (same_name f.0.name a) (list_any (λ t. same_name t.name c && can_start x f.0 t) threads) f.2 in
      let t = some-in (λ t. same_name t.name c && can_start x f.0 t) threads g.1 in
      let u = and_parts (same_name t.0.name c) (can_start x f.0 t.0) t.2 in
      let v = and_parts (is_sporadic t.0.kind) (list_any (λ k. same_name k.object t.0.name) (thread_calls x f.0)) u.1 in
      let k = some-in (λ k. same_name k.object t.0.name) (thread_calls x f.0) v.1 in
      record {
        from = f.0;
        stands = f.1;
        named = same-is f.0.name a g.0;
        aim = any-in (is_target c) t.0 threads t.1 (and_from _ _ v.0 u.0);
        call = k.0;
        called = k.1;
        object = same-is k.0.object t.0.name k.2 ∙ same-is t.0.name c u.0;
      }

  pub starts : (o : Object) (k : OpName) (c : Name) → In o threads → In k (thread_calls x o) → k.object ≡ c → target c ≡ true → StartsThread x o.name c
  starts o k c held h is aim =
      let t = some-in (is_target c) threads aim in
      let u = and_parts (is_sporadic t.0.kind) (same_name t.0.name c) t.2 in
      let same : k.object ≡ t.0.name = is ∙ sym (same-is t.0.name c u.1) in
      let here : can_start x o t.0 ≡ true =
      and_from _ _ u.0 (any-in (λ m. same_name m.object t.0.name) k (thread_calls x o) h
      (ap (λ n. same_name n t.0.name) same ∙ same-self t.0.name)) in
      any-in (λ f. same_name f.name o.name && list_any (λ t. same_name t.name c && can_start x f t) threads) o threads held
      (and_from _ _ (same-self o.name)
      (any-in (λ t. same_name t.name c && can_start x o t) t.0 threads t.1 (and_from _ _ u.1 here)))

  abbrev pub Way : Spot → Spot → Type 0
  Way a c = (path : List Spot) × LeadsTo (Leads x target threads) a path c

  -- a start is a path
  start-leads : (a c : Name) → target a ≡ true → StartsThread x a c → Way (Thread a) (Thread c)
  start-leads a c is h =
      let d = started a c h in
      let r = thread-leads target threads d.from d.call d.stands (ap target d.named ∙ is) d.called in
      let P : Name → Type 0 = λ n. LeadsTo (Leads x target threads) (Thread n) r.0 (Thread c) in
      let Q : Name → Type 0 = λ n. LeadsTo (Leads x target threads) (Thread d.from.name) r.0 (Thread n) in
      (r.0, subst P d.named (subst Q d.object r.1))

  starts-lead : (path : List Name) (a c : Name) → target a ≡ true → LeadsTo (StartsThread x) a path c → Way (Thread a) (Thread c)
  starts-lead [] a c is h = start-leads a c is h
  starts-lead (via ∷ path) a c is h =
      let one = start-leads a via is h.0 in
      let more = starts-lead path via c (started a via h.0).aim h.1 in
      (one.0 ++ Thread via ∷ more.0, path-on (Leads x target threads) one.0 more.0 (Thread a) (Thread via) (Thread c) one.1 more.1)

  last-aim : (path : List Name) (a c : Name) → LeadsTo (StartsThread x) a path c → target c ≡ true
  last-aim [] a c h = (started a c h).aim
  last-aim (via ∷ path) a c h = last-aim path via c h.1

  -- where no thread is sporadic, none is started
  pub none-started : list_any (λ (o : Object). is_sporadic o.kind) threads ≡ false → (n : Name) → IsOnStartRing x n → ⊥
  none-started none n (path, h) =
      let t = some-in (is_target n) threads (last-aim path n n h) in
      let z : true ≡ false = sym (any-in (λ (o : Object). is_sporadic o.kind) t.0 threads t.1 (and_parts (is_sporadic t.0.kind) _ t.2).0) ∙ none in
      absurd (cc)

  pub ring-leads : (n : Name) → IsOnStartRing x n → IsOnRing (Leads x target threads) (Thread n)
  ring-leads n (path, h) = starts-lead path n n (last-aim path n n h) h

  -- what a thread of a name comes to before it comes to another
  abbrev Owns : Name → Spot → Type 0
  Owns a (Thread n) = a ≡ n
  Owns a (Op m) = (o : Object) × In o threads × (o.name ≡ a) × In m (thread_calls x o)

  -- a call of what it owns
  owned-call : (a : Name) (s : Spot) (to : Spot) → Owns a s → Leads x target threads s to
      → (o : Object) × In o threads × (o.name ≡ a) × ((k : OpName) × In k (thread_calls x o) × Aimed k to)
  owned-call a (Thread n) to e (is, (o, held, named, (k, call, aim))) = (o, held, named ∙ sym e, (k, in-thread o k k call (inl refl), aim))
  owned-call a (Op m) to (o, held, named, h) (k, call, aim) = (o, held, named, (k, thread-on o m k h call, aim))

  start-of : (a c : Name) (s : Spot) → Owns a s → Leads x target threads s (Thread c) → target c ≡ true → StartsThread x a c
  start-of a c s own h is =
      let r = owned-call a s (Thread c) own h in
      let P : Name → Type 0 = λ n. StartsThread x n c in subst P r.2 (starts r.0 r.3.0 c r.1 r.3.1 r.3.2 is)

  -- the thread that a path begins with is sporadic
  first-aim : (n : Name) (path : List Spot) (to : Spot) → LeadsTo (Leads x target threads) (Thread n) path to → target n ≡ true
  first-aim n [] to h = h.0
  first-aim n (via ∷ path) to h = h.0.0

  owned-leads : (path : List Spot) (a c : Name) (s : Spot) → Owns a s → target c ≡ true → LeadsTo (Leads x target threads) s path (Thread c)
      → (names : List Name) × LeadsTo (StartsThread x) a names c
  owned-leads [] a c s own is h = ([], start-of a c s own h is)
  owned-leads (Op m ∷ path) a c s own is h =
      let r = owned-call a s (Op m) own h.0 in
      let P : OpName → Type 0 = λ z. In z (thread_calls x r.0) in
      owned-leads path a c (Op m) (r.0, r.1, r.2, subst P r.3.2 r.3.1) is h.1
  owned-leads (Thread d ∷ path) a c s own is h =
      let r = owned-leads path d c (Thread d) refl is h.1 in
      (d ∷ r.0, (start-of a d s own h.0 (first-aim d path (Thread c) h.1), r.1))

  pub leads-ring : (n : Name) → IsOnRing (Leads x target threads) (Thread n) → IsOnStartRing x n
  leads-ring n (path, h) = owned-leads path n n (Thread n) refl (first-aim n path (Thread n) h) h
