-- Requests that are cut at 2, counted level by level: cutting what is known of protected operations changes no cut number, and
-- a number changes one level deeper only where that of an operation that is called has changed.
use Rattle.std.proofs.Common.{◌≡◌, ◌⊎◌, inl, inr, ◌≤◌, ◌+◌, ◌-◌, ℕ, zero, suc, Bool, true, false, cond, not, nat_eq, ◌&&◌, ◌||◌, List, [], ◌∷◌}
use Rattle.std.proofs.Common.{◌++◌, Option, Some, None, map, filter, flat_map, fold, arith, refl, ap, sym, subst, ◌∙◌}
use Rattle.std.specs.Prelude.{min, max, unwrap_or, ◌==◌, if◌then◌else◌}
use Rattle.std.specs.List.{list_any}
use Rattle.std.proofs.lemmas.List.{map-append}
use Rattle.std.proofs.lemmas.List.Concat.{flat_map-append}
use Rattle.std.proofs.lemmas.List.Sums.{fold-append}
use Rattle.seq_tree.specs.Calls.{block_calls, same_op}
use Rattle.seq_tree.specs.Dearest.{counted, free}
use Rattle.seq_tree.specs.Lists.{Each}
use Rattle.seq_tree.specs.Names.{Name, same_name}
use Rattle.seq_tree.specs.Statements.{Statements}
use Rattle.seq_tree.specs.declared.tree.OpName.{OpName}
use Rattle.seq_tree.proofs.Shared.Walks.{same_op-eq, same_op-refl}
use Rattle.name_sets.specs.Tables.{or_0}
use Rattle.seq_cost.proofs.Shared.Listed.{block-same}
use Rattle.call_graph.specs.Listed.{block_listed}
use Rattle.call_graph.specs.Once.{sum_of}
use Rattle.call_graph.proofs.Shared.ListedLaws.{counted-listed}
use Rattle.ods_tree.specs.Designs.{Body, Design, Object}
use Rattle.ods_tree.specs.Flattening.{is_protected}
use Rattle.ods_tree.specs.Links.{resolve}
use Rattle.ods_tree.specs.Walk.{Standing, terminals}
use Rattle.design_rules.specs.Sources.{body_starts, start_weight, starts_within}
use Rattle.ods_calls.specs.Requested.{AreDue, call_weight, greatest_count, held_count, held_named, object_caller, object_callers, op_caller}
use Rattle.ods_calls.specs.Requested.{op_callers}
use Rattle.ods_index.specs.Calling.{Calls, body_calls, object_calls, meant_by}
use Rattle.ods_calls.specs.Held.{held_bodies}
use Rattle.ods_calls.proofs.CalledLaws.{held-meant, held-of-objects}
use Rattle.ods_calls.proofs.Items.{In, any-in, from-filter, in-filter, in-flat, in-left, in-map, in-right, some-in}
use Rattle.ods_calls.specs.Spreading.{found_all}
use Rattle.ods_index.proofs.Shared.AccountSteps.{each-among}
use Rattle.seq_cost.proofs.Shared.CutCosts.{cap-called}
use Rattle.ods_calls.proofs.FoundLaws.{all-come}

cut-twice : (n k : ℕ) → n ≡ min 2 k → min 2 n ≡ min 2 k
cut-twice n k e = grind (arith, e)

-- a call whose meaning is known cut
pub call-cut : (x : Design) (target : Name) (needs : List OpName) (known inner : OpName → ℕ) → ((m : OpName) → known m ≡ min 2 (inner m))
    → (n : OpName)
    → min 2 (call_weight x target known needs n) ≡ min 2 (call_weight x target inner needs n)
call-cut x target needs known inner agrees n = by (list_any (same_op n) needs) (same_name (resolve x n).object target)
  where
    by : (a b : Bool) → min 2 (if a then (if b then 1 else known (resolve x n)) else 0)
        ≡ min 2 (if a then (if b then 1 else inner (resolve x n)) else 0)
    by true true = refl
    by true false = cut-twice (known (resolve x n)) (inner (resolve x n)) (agrees (resolve x n))
    by false b = refl

-- a block, where its calls count the same when they are cut
pub counted-each : (f g : Name → Name → ℕ) (b : Statements) → Each (λ c. min 2 (f c.object c.op) ≡ min 2 (g c.object c.op)) (block_calls b)
    → min 2 (counted f b) ≡ min 2 (counted g b)
counted-each f g b same =
    cap-called 2 free (λ ticks. 0) f b
    ∙ ap (min 2) (block-same free (λ ticks. 0) (λ object op. min 2 (f object op)) (λ object op. min 2 (g object op)) b same)
    ∙ sym (cap-called 2 free (λ ticks. 0) g b)

-- and where all calls do
pub counted-cut : (f g : Name → Name → ℕ) (b : Statements) → ((object op : Name) → min 2 (f object op) ≡ min 2 (g object op))
    → min 2 (counted f b) ≡ min 2 (counted g b)
counted-cut f g b same =
    counted-each f g b (each-among (λ c. min 2 (f c.object c.op) ≡ min 2 (g c.object c.op)) (block_calls b) (λ c h. same c.object c.op))

-- calls that count nothing
sum-none : (cs : List OpName) → sum_of (λ n. 0) cs ≡ 0
sum-none [] = refl
sum-none (c ∷ cs) = (let rest = sum-none cs in omega (arith, rest))

counted-none : (b : Statements) → counted (λ object op. 0) b ≡ 0
counted-none b =
    let none = sum-none (block_listed false b) in
    let few : sum_of (λ n. 0) (block_listed false b) ≤ 1 = omega (arith, none) in
    let counts : counted (λ object op. 0) b ≤ sum_of (λ n. 0) (block_listed false b) = counted-listed (λ n. 0) b few in
    omega (arith, none, counts)

-- a block whose calls count nothing
pub counted-quiet : (f : Name → Name → ℕ) (b : Statements) → Each (λ c. f c.object c.op ≡ 0) (block_calls b) → counted f b ≡ 0
counted-quiet f b quiet = block-same free (λ ticks. 0) f (λ object op. 0) b quiet ∙ counted-none b

-- the greatest of numbers
cap-max : (a b n : ℕ) → min 2 a ≡ min 2 b → min 2 (max a n) ≡ min 2 (max b n)
cap-max a b n h = grind (arith, h)

pub cap-fold : (a b : ℕ) (ns : List ℕ) → min 2 a ≡ min 2 b → min 2 (fold max a ns) ≡ min 2 (fold max b ns)
cap-fold a b [] h = h
cap-fold a b (n ∷ ns) h = cap-fold (max a n) (max b n) ns (cap-max a b n h)

few-max : (g count next n : ℕ) → next ≡ max g count → count ≡ min 2 n → g ≤ 2 → next ≤ 2
few-max g count next n is e few = grind (arith, is, e, few)

cap-count : (g count next n : ℕ) → next ≡ max g count → count ≡ min 2 n → min 2 next ≡ min 2 (max g n)
cap-count g count next n is e = grind (arith, is, e)

-- one more, cut
pub greatest-more : {A : Type 0} (v : A → ℕ) (a : A) (rest : List A) (g count next all : ℕ) → next ≡ max g count → count ≡ min 2 (v a) → g ≤ 2
    → min 2 (fold max g (map v (a ∷ rest))) ≡ all → (next ≤ 2) × (min 2 (fold max next (map v rest)) ≡ all)
greatest-more v a rest g count next all is e few h =
    (few-max g count next (v a) is e few, cap-fold next (max g (v a)) (map v rest) (cap-count g count next (v a) is e) ∙ h)

-- none more
pub greatest-all : (g all : ℕ) → g ≤ 2 → min 2 g ≡ all → g ≡ all
greatest-all g all few h = grind (arith, few, h)

max-none : (a : ℕ) → a ≡ max a 0
max-none a = grind arith

max-parts : (a n f : ℕ) → max (max a n) f ≡ max a (max (max 0 n) f)
max-parts a n f = grind arith

max-first : (n f : ℕ) → max (max 0 n) f ≡ max n f
max-first n f = grind arith

fold-from : (a : ℕ) (ns : List ℕ) → fold max a ns ≡ max a (fold max 0 ns)
fold-from a [] = max-none a
fold-from a (n ∷ ns) = fold-from (max a n) ns ∙ max-parts a n (fold max 0 ns) ∙ ap (max a) (sym (fold-from (max 0 n) ns))

pub fold-cons : (n : ℕ) (ns : List ℕ) → fold max 0 (n ∷ ns) ≡ max n (fold max 0 ns)
fold-cons n ns = fold-from (max 0 n) ns ∙ max-first n (fold max 0 ns)

fold-both : (ns ms : List ℕ) → fold max 0 (ns ++ ms) ≡ max (fold max 0 ns) (fold max 0 ms)
fold-both ns ms = fold-append max 0 ns ms ∙ fold-from (fold max 0 ns) ms

-- a number, or 0
pub or-zero : (o : Option ℕ) → unwrap_or o 0 ≡ or_0 o
or-zero None = refl
or-zero (Some n) = refl

-- a length that was found to be 0
pub none-left : (b : Bool) (n : ℕ) → b ≡ (n == 0) → b ≡ true → n ≡ 0
none-left b n e h = (let k : (n == 0) ≡ true = sym e ∙ h in grind (arith, k))

-- one more operation has its count, where those that are left have theirs
pub count-put : (v : OpName → ℕ) (c n : OpName) (left : Bool) (after before : Option ℕ) → after ≡ (if same_op c n then Some (v c) else before)
    → (if left then v n else or_0 after) ≡ (if same_op c n || left then v n else or_0 before)
count-put v c n left after before put = by left (same_op c n) refl
  where
    by : (l b : Bool) → same_op c n ≡ b → (if l then v n else or_0 after) ≡ (if b || l then v n else or_0 before)
    by true true e = refl
    by true false e = refl
    by false true e = ap or_0 (put ∙ ap (λ z. if z then Some (v c) else before) e) ∙ ap v (same_op-eq c n e)
    by false false e = ap or_0 (put ∙ ap (λ z. if z then Some (v c) else before) e)

each-in : (P : OpName → Type 0) (cs : List OpName) → ((c : OpName) → In c cs → P c) → Each P cs
each-in P [] all = tt
each-in P (c ∷ cs) all = (all c (inl refl), each-in P cs (λ d h. all d (inr h)))

-- an operation among some, by its name
abbrev Among : OpName → List OpName → Bool
Among n xs = list_any (λ c. same_op c n) xs

among-in : (n : OpName) (xs : List OpName) → Among n xs ≡ true → In n xs
among-in n xs h = let r = some-in (λ c. same_op c n) xs h in let P : OpName → Type 0 = λ z. In z xs in subst P (same_op-eq r.0 n r.2) r.1

in-among : (n : OpName) (xs : List OpName) → In n xs → Among n xs ≡ true
in-among n xs h = any-in (λ c. same_op c n) n xs h (same_op-refl n)

-- what is looked up is found
found-among : (n : OpName) (ops : List OpName) → In n ops → Among n (found_all [] ops) ≡ true
found-among n ops h = in-among n (found_all [] ops) (all-come n [] ops h)

no : {A : Type 0} (b : Bool) → b ≡ true → b ≡ false → A
no b h k = (let z : true ≡ false = sym h ∙ k in absurd (cc))

module _ (x : Design) (target : Name) where
  abbrev named : OpName → List Calls → List Calls
  named n hs = flat_map (held_named n) hs

  module _ (inner : OpName → ℕ) where
    abbrev most : List Calls → ℕ
    most hs = greatest_count x target inner hs

    abbrev calls : List Standing → List Calls
    calls ss = flat_map (λ s. object_calls x s.own) ss

    abbrev body : Object → Body → Calls
    body o b = body_calls x o.kind o.name o.needs b

    abbrev own : Object → Body → ℕ
    own o b = counted (start_weight x target inner o) b.block

    most-append : (hs ks : List Calls) → most (hs ++ ks) ≡ max (most hs) (most ks)
    most-append hs ks =
        ap (fold max 0) (map-append (held_count x target inner) hs ks)
        ∙ fold-both (map (held_count x target inner) hs) (map (held_count x target inner) ks)

    most-cons : (h : Calls) (hs : List Calls) → most (h ∷ hs) ≡ max (held_count x target inner h) (most hs)
    most-cons h hs = fold-cons (held_count x target inner h) (map (held_count x target inner) hs)

    -- the bodies of an object
    body-most : (n : OpName) (o : Object) (bs : List Body) → same_name o.name n.object ≡ true
        → most (named n (map (body o) bs)) ≡ fold max 0 (map (own o) (filter (λ b. same_name b.name n.op) bs))
    body-most n o [] e = refl
    body-most n o (b ∷ bs) e = by (same_name b.name n.op) refl (body-most n o bs e)
      where
        h : Calls
        h = body o b

        by : (t : Bool) → same_name b.name n.op ≡ t → most (named n (map (body o) bs))
            ≡ fold max 0 (map (own o) (filter (λ d. same_name d.name n.op) bs))
            → most ((if same_name o.name n.object && same_name b.name n.op then h ∷ [] else []) ++ named n (map (body o) bs))
            ≡ fold max 0 (map (own o)
            (cond (same_name b.name n.op) (b ∷ filter (λ d. same_name d.name n.op) bs) (filter (λ d. same_name d.name n.op) bs)))
        by true t k =
            rw (e, t) (most-cons h (named n (map (body o) bs)) ∙ ap (max (own o b)) k
            ∙ sym (fold-cons (own o b) (map (own o) (filter (λ d. same_name d.name n.op) bs))))
        by false t k = rw (e, t) k

    body-none : (n : OpName) (o : Object) (bs : List Body) → same_name o.name n.object ≡ false → named n (map (body o) bs) ≡ []
    body-none n o [] e = refl
    body-none n o (b ∷ bs) e =
        ap (λ t. (if t && same_name b.name n.op then body o b ∷ [] else []) ++ named n (map (body o) bs)) e
        ∙ body-none n o bs e

    object-most : (n : OpName) (ss : List Standing)
        → most (named n (calls ss))
        ≡ fold max 0 (map (body_starts x target inner n.op) (filter (λ o. same_name o.name n.object) (map (λ s. s.own) ss)))
    object-most n [] = refl
    object-most n (s ∷ ss) =
        ap most (flat_map-append (held_named n) (object_calls x s.own) (calls ss))
        ∙ most-append (named n (object_calls x s.own)) (named n (calls ss))
        ∙ by (same_name s.own.name n.object) refl (object-most n ss)
      where
        rest : List Object
        rest = filter (λ o. same_name o.name n.object) (map (λ s. s.own) ss)

        max-zero : (k : ℕ) → max 0 k ≡ k
        max-zero k = grind arith

        by : (t : Bool) → same_name s.own.name n.object ≡ t → most (named n (calls ss))
            ≡ fold max 0 (map (body_starts x target inner n.op) rest)
            → max (most (named n (object_calls x s.own))) (most (named n (calls ss)))
            ≡ fold max 0 (map (body_starts x target inner n.op) (cond (same_name s.own.name n.object) (s.own ∷ rest) rest))
        by true t k =
            rw t (ap (λ m. max m (most (named n (calls ss)))) (body-most n s.own s.own.bodies t)
            ∙ ap (max (body_starts x target inner n.op s.own)) k
            ∙ sym (fold-cons (body_starts x target inner n.op s.own) (map (body_starts x target inner n.op) rest)))
        by false t k =
            rw t (ap (λ hs. max (most hs) (most (named n (calls ss)))) (body-none n s.own s.own.bodies t) ∙ max-zero _ ∙ k)

  -- one level deeper, body by body
  pub deeper-count : (depth : ℕ) (n : OpName) → starts_within (suc depth) x target n
      ≡ greatest_count x target (starts_within depth x target) (flat_map (held_named n) (held_bodies x))
  deeper-count depth n =
      let inner : OpName → ℕ = starts_within depth x target in
      sym (ap (λ hs. greatest_count x target inner (named n hs)) (held-of-objects x (terminals x))
      ∙ object-most inner n (filter (λ s. is_protected s.own.kind) (terminals x)))

  -- a call that a body makes is listed with it
  op-listed : (n m : OpName) (h : Calls) → same_op h.name n ≡ true → In m h.meant → In n (op_callers m h)
  op-listed n m h e k =
      let P : Bool → Type 0 = λ b. In n (if b then h.name ∷ [] else []) in
      in-flat (op_caller m h.name) m n h.meant k (subst P (sym (same_op-refl m)) (inl (same_op-eq h.name n e)))

  object-listed : (n m : OpName) (h : Calls) → same_op h.name n ≡ true → same_name m.object target ≡ true → In m h.meant
      → In n (object_callers target h)
  object-listed n m h e s k =
      let P : Bool → Type 0 = λ b. In n (if b then h.name ∷ [] else []) in
      in-flat (object_caller target h.name) m n h.meant k (subst P (sym s) (inl (same_op-eq h.name n e)))

  -- bodies that call what they require, links followed
  abbrev Means : Calls → Type 0
  Means h = h.meant ≡ meant_by x h.needs h.block

  abbrev AllMean : List Calls → Type 0
  AllMean hs = (h : Calls) → In h hs → Means h

  meant-in : (h : Calls) (c : OpName) → Means h → In c (block_calls h.block) → list_any (same_op c) h.needs ≡ true → In (resolve x c) h.meant
  meant-in h c is k e =
      let P : List OpName → Type 0 = λ l. In (resolve x c) l in
      subst P (sym is) (in-map (resolve x) c (filter (λ d. list_any (same_op d) h.needs) (block_calls h.block))
      (in-filter (λ d. list_any (same_op d) h.needs) c (block_calls h.block) k e))

  -- a body, where what it calls counts the same
  held-same : (f g : OpName → ℕ) (h : Calls) → Means h → ((m : OpName) → In m h.meant → min 2 (f m) ≡ min 2 (g m))
      → min 2 (held_count x target f h) ≡ min 2 (held_count x target g h)
  held-same f g h is same =
      counted-each (λ object op. call_weight x target f h.needs (record { object = object; op = op }))
      (λ object op. call_weight x target g h.needs (record { object = object; op = op })) h.block
      (each-in (λ c. min 2 (call_weight x target f h.needs c) ≡ min 2 (call_weight x target g h.needs c)) (block_calls h.block) (λ c k. one c k))
    where
      one : (c : OpName) → In c (block_calls h.block) → min 2 (call_weight x target f h.needs c) ≡ min 2 (call_weight x target g h.needs c)
      one c k = by (list_any (same_op c) h.needs) refl (same_name (resolve x c).object target)
        where
          by : (a : Bool) → list_any (same_op c) h.needs ≡ a → (b : Bool) → min 2 (if a then (if b then 1 else f (resolve x c)) else 0)
              ≡ min 2 (if a then (if b then 1 else g (resolve x c)) else 0)
          by true e true = refl
          by true e false = same (resolve x c) (meant-in h c is k e)
          by false e b = refl

  abbrev weigh : Bool → Bool → ℕ
  weigh required here = if required then (if here then 1 else 0) else 0

  -- a body that calls no operation of the target, where others count nothing
  held-quiet : (h : Calls) → Means h → ((m : OpName) → In m h.meant → same_name m.object target ≡ true → ⊥) → held_count x target (λ m. 0) h ≡ 0
  held-quiet h is quiet =
      counted-quiet (λ object op. call_weight x target (λ m. 0) h.needs (record { object = object; op = op })) h.block
      (each-in (λ c. call_weight x target (λ m. 0) h.needs c ≡ 0) (block_calls h.block) (λ c k. one c k))
    where
      one : (c : OpName) → In c (block_calls h.block) → call_weight x target (λ m. 0) h.needs c ≡ 0
      one c k = by (list_any (same_op c) h.needs) refl (same_name (resolve x c).object target) refl
        where
          by : (a : Bool) → list_any (same_op c) h.needs ≡ a → (b : Bool) → same_name (resolve x c).object target ≡ b → weigh a b ≡ 0
          by true e true s = absurd (quiet (resolve x c) (meant-in h c is k e) s)
          by true e false s = refl
          by false e b s = refl

  cap-pair : (a b c d : ℕ) → min 2 a ≡ min 2 b → min 2 c ≡ min 2 d → min 2 (max a c) ≡ min 2 (max b d)
  cap-pair a b c d h k = grind (arith, h, k)

  -- an operation, where what calls it makes counts the same
  pub local : (f g : OpName → ℕ) (n : OpName) (hs : List Calls) → AllMean hs
      → ((m : OpName) → In n (flat_map (op_callers m) hs) → min 2 (f m) ≡ min 2 (g m))
      → min 2 (greatest_count x target f (named n hs)) ≡ min 2 (greatest_count x target g (named n hs))
  local f g n [] mean same = refl
  local f g n (h ∷ hs) mean same =
      by (same_op h.name n) refl
      (local f g n hs (λ k at. mean k (inr at)) (λ m k. same m (in-right n (op_callers m h) (flat_map (op_callers m) hs) k)))
    where
      by : (t : Bool) → same_op h.name n ≡ t → min 2 (greatest_count x target f (named n hs)) ≡ min 2 (greatest_count x target g (named n hs))
          → min 2 (greatest_count x target f ((if t then h ∷ [] else []) ++ named n hs))
          ≡ min 2 (greatest_count x target g ((if t then h ∷ [] else []) ++ named n hs))
      by true e k =
          ap (min 2) (most-cons f h (named n hs))
          ∙ cap-pair (held_count x target f h) (held_count x target g h) (greatest_count x target f (named n hs))
          (greatest_count x target g (named n hs))
          (held-same f g h (mean h (inl refl)) (λ m j. same m (in-left n (op_callers m h) (flat_map (op_callers m) hs) (op-listed n m h e j)))) k
          ∙ ap (min 2) (sym (most-cons g h (named n hs)))
      by false e k = k

  max-nothing : (a b : ℕ) → a ≡ 0 → b ≡ 0 → max a b ≡ 0
  max-nothing a b h k = grind (arith, h, k)

  -- an operation that calls none of the target
  quiet-here : (n : OpName) (hs : List Calls) → AllMean hs → (In n (flat_map (object_callers target) hs) → ⊥)
      → greatest_count x target (λ m. 0) (named n hs) ≡ 0
  quiet-here n [] mean quiet = refl
  quiet-here n (h ∷ hs) mean quiet =
      by (same_op h.name n) refl
      (quiet-here n hs (λ k at. mean k (inr at)) (λ k. quiet (in-right n (object_callers target h) (flat_map (object_callers target) hs) k)))
    where
      by : (t : Bool) → same_op h.name n ≡ t → greatest_count x target (λ m. 0) (named n hs) ≡ 0
          → greatest_count x target (λ m. 0) ((if t then h ∷ [] else []) ++ named n hs) ≡ 0
      by true e k =
          most-cons (λ m. 0) h (named n hs)
          ∙ max-nothing (held_count x target (λ m. 0) h) (greatest_count x target (λ m. 0) (named n hs))
          (held-quiet h (mean h (inl refl)) (λ m j s. quiet
          (in-left n (object_callers target h) (flat_map (object_callers target) hs) (object-listed n m h e s j)))) k
      by false e k = k

  abbrev cut : ℕ → OpName → ℕ
  cut depth n = min 2 (starts_within depth x target n)

  -- what is due first
  pub first-due : (found : List OpName) → found ≡ flat_map (object_callers target) (held_bodies x) → AreDue x target 0 (found_all [] found)
  first-due found is n = by (Among n (found_all [] found)) refl
    where
      by : (b : Bool) → Among n (found_all [] found) ≡ b → (Among n (found_all [] found) ≡ true) ⊎ (cut 0 n ≡ cut 1 n)
      by true e = inl e
      by false e =
          inr (ap (min 2) (sym (deeper-count 0 n ∙ quiet-here n (held_bodies x) (held-meant x)
          (λ k.
          let P : List OpName → Type 0 = λ z. In n z in no (Among n (found_all [] found))
          (found-among n found (subst P (sym is) k)) e))))

  -- what was due and didn't change, or wasn't due, is the same one level deeper
  pub same-unless : (depth : ℕ) (due : List OpName) (known counts : OpName → ℕ) → ((n : OpName) → known n ≡ cut depth n) → AreDue x target depth due
      → ((n : OpName) → Among n due ≡ true → counts n ≡ cut (suc depth) n) → (n : OpName)
      → Among n (filter (λ m. not (nat_eq (known m) (counts m))) due) ≡ false → cut depth n ≡ cut (suc depth) n
  same-unless depth due known counts knows are count n e = by (are n)
    where
      equal : (a b : ℕ) → not (nat_eq a b) ≡ false → a ≡ b
      equal a b h = grind (arith, h)

      due-same : Among n due ≡ true → (b : Bool) → not (nat_eq (known n) (counts n)) ≡ b → cut depth n ≡ cut (suc depth) n
      due-same h true d =
          no (Among n (filter (λ m. not (nat_eq (known m) (counts m))) due))
          (in-among n (filter (λ m. not (nat_eq (known m) (counts m))) due)
          (in-filter (λ m. not (nat_eq (known m) (counts m))) n due (among-in n due h) d)) e
      due-same h false d = sym (knows n) ∙ equal (known n) (counts n) d ∙ count n h

      by : (Among n due ≡ true) ⊎ (cut depth n ≡ cut (suc depth) n) → cut depth n ≡ cut (suc depth) n
      by (inl h) = due-same h (not (nat_eq (known n) (counts n))) refl
      by (inr s) = s

  -- what is known one level deeper
  pub next-known : (depth : ℕ) (due : List OpName) (known counts next : OpName → ℕ) → ((n : OpName) → known n ≡ cut depth n)
      → AreDue x target depth due
      → ((n : OpName) → Among n due ≡ true → counts n ≡ cut (suc depth) n)
      → ((n : OpName) → next n ≡ (if Among n (filter (λ m. not (nat_eq (known m) (counts m))) due) then counts n else known n)) → (n : OpName)
      → next n ≡ cut (suc depth) n
  next-known depth due known counts next knows are count is n = by (Among n changed) refl
    where
      changed : List OpName
      changed = filter (λ m. not (nat_eq (known m) (counts m))) due

      by : (b : Bool) → Among n changed ≡ b → next n ≡ cut (suc depth) n
      by true e =
          is n ∙ ap (λ b. if b then counts n else known n) e
          ∙ count n (in-among n due (from-filter (λ m. not (nat_eq (known m) (counts m))) n due (among-in n changed e)).0)
      by false e = is n ∙ ap (λ b. if b then counts n else known n) e ∙ knows n ∙ same-unless depth due known counts knows are count n e

  -- and what is due then
  pub next-due : (depth : ℕ) (callers : OpName → List OpName) (changed : List OpName)
      → ((n : OpName) → callers n ≡ flat_map (op_callers n) (held_bodies x))
      → ((n : OpName) → Among n changed ≡ false → cut depth n ≡ cut (suc depth) n)
      → AreDue x target (suc depth) (found_all [] (flat_map callers changed))
  next-due depth callers changed is same n = by (Among n due) refl
    where
      due : List OpName
      due = found_all [] (flat_map callers changed)

      unchanged : (m : OpName) → Among n due ≡ false → In n (flat_map (op_callers m) (held_bodies x)) → (b : Bool) → Among m changed ≡ b → b ≡ false
      unchanged m e k true h =
          let P : List OpName → Type 0 = λ z. In n z in
          no (Among n due)
          (found-among n (flat_map callers changed) (in-flat callers m n changed (among-in m changed h) (subst P (sym (is m)) k))) e
      unchanged m e k false h = refl

      by : (b : Bool) → Among n due ≡ b → (Among n due ≡ true) ⊎ (cut (suc depth) n ≡ cut (suc (suc depth)) n)
      by true e = inl e
      by false e =
          inr (ap (min 2) (deeper-count depth n)
          ∙ local (starts_within depth x target) (starts_within (suc depth) x target) n (held_bodies x) (held-meant x)
          (λ m k. same m (unchanged m e k (Among m changed) refl))
          ∙ ap (min 2) (sym (deeper-count (suc depth) n)))

  -- where nothing is due, nothing changes however deep calls are followed
  still : (depth : ℕ) → ((n : OpName) → cut depth n ≡ cut (suc depth) n) → (n : OpName) → cut (suc depth) n ≡ cut (suc (suc depth)) n
  still depth same n =
      ap (min 2) (deeper-count depth n)
      ∙ local (starts_within depth x target) (starts_within (suc depth) x target) n (held_bodies x) (held-meant x) (λ m k. same m)
      ∙ ap (min 2) (sym (deeper-count (suc depth) n))

  settled : (more depth : ℕ) → ((n : OpName) → cut depth n ≡ cut (suc depth) n) → (n : OpName) → cut depth n ≡ cut (more + depth) n
  settled zero depth same n = ap (λ d. cut d n) (omega arith)
  settled (suc more) depth same n = same n ∙ settled more (suc depth) (still depth same) n ∙ ap (λ d. cut d n) (omega arith)

  pub none-due : (depth whole : ℕ) (due : List OpName) → due ≡ [] → AreDue x target depth due → depth ≤ whole → (n : OpName) → cut depth n
      ≡ cut whole n
  none-due depth whole due empty are deep n = settled (whole - depth) depth (λ m. by m (are m)) n ∙ ap (λ d. cut d n) (omega (arith, deep))
    where
      by : (m : OpName) → (Among m due ≡ true) ⊎ (cut depth m ≡ cut (suc depth) m) → cut depth m ≡ cut (suc depth) m
      by m (inl h) = no (Among m due) h (ap (Among m) empty)
      by m (inr s) = s
