-- What calls count on a path, and what they count as they are listed.
-- A call that is listed once at most is made once at most on every path.
use Rattle.std.proofs.Common.{◌≡◌, ◌≤◌, ◌+◌, ◌*◌, ℕ, zero, suc, Bool, true, false, not, ◌&&◌, ◌||◌, List, [], ◌∷◌, ◌++◌, arith, refl, ap, ◌∙◌}
use Rattle.std.specs.Prelude.{max, if◌then◌else◌}
use Rattle.std.specs.List.{list_any}
use Rattle.std.proofs.lemmas.Bool.{and_parts}
use Rattle.seq_tree.specs.Calls.{same_op}
use Rattle.seq_tree.specs.Dearest.{Weights, counted, dearest, dearest_branch, dearest_statement, free, turn_count}
use Rattle.seq_tree.specs.Names.{Name}
use Rattle.seq_tree.specs.Statements.{Statement, Statements, Branches, Null, Assign, If, For, ExitWhen, Call, Work, Put, End, Then}
use Rattle.seq_tree.specs.Statements.{Nothing, Else, When}
use Rattle.seq_tree.specs.declared.tree.OpName.{OpName}
use Rattle.seq_tree.proofs.Shared.Walks.{same_op-eq, same_op-refl}
use Rattle.call_graph.specs.Listed.{block_listed, branch_listed, listed_all, listed_more, statement_listed}
use Rattle.call_graph.specs.Once.{sum_of}

-- what is listed together counts what and_parts parts do
pub sum-both : (w : OpName → ℕ) (cs ds : List OpName) → sum_of w (cs ++ ds) ≡ sum_of w cs + sum_of w ds
sum-both w [] ds = omega arith
sum-both w (c ∷ cs) ds = (let h = sum-both w cs ds in omega (arith, h))

no-turns : (n k : ℕ) → k ≡ 0 → n * (0 + k) ≡ 0
no-turns zero k e = grind arith
no-turns (suc n) k e = let h = no-turns n k e in grind (arith, h, e)

both-none : (a b : ℕ) → a ≡ 0 → b ≡ 0 → a + b ≡ 0
both-none a b e h = grind (arith, e, h)

most-none : (a b : ℕ) → a ≡ 0 → b ≡ 0 → 0 + max a b ≡ 0
most-none a b e h = grind (arith, e, h)

twice-none : (a : ℕ) → a + (a + 0) ≤ 1 → 0 + a ≡ 0
twice-none a h = omega (arith, h)

few-left : (s t u : ℕ) → u ≡ s + t → u ≤ 1 → s ≤ 1
few-left s t u e h = omega (arith, e, h)

few-right : (s t u : ℕ) → u ≡ s + t → u ≤ 1 → t ≤ 1
few-right s t u e h = omega (arith, e, h)

less-both : (a b s t u : ℕ) → u ≡ s + t → a ≤ s → b ≤ t → a + b ≤ u
less-both a b s t u e h k = omega (arith, e, h, k)

less-most : (a b u : ℕ) → a ≤ u → b ≤ u → 0 + max a b ≤ u
less-most a b u h k = grind (arith, h, k)

less-parts : (a b c : ℕ) → a ≤ b → b ≤ c → a ≤ c
less-parts a b c h k = omega (arith, h, k)

less-none : (a u : ℕ) → a ≡ 0 → a ≤ u
less-none a u e = omega (arith, e)

call-once : (a : ℕ) → 0 + a ≤ a + 0
call-once a = omega arith

module _ (w : OpName → ℕ) where
  abbrev called : Name → Name → ℕ
  called object op = w (record { object = object; op = op })

  abbrev weights : Weights
  weights = record { costs = free; work = λ ticks. 0; called = called }

  abbrev in_statement : Bool → Statement → ℕ
  in_statement twice s = sum_of w (statement_listed twice s)

  abbrev in_block : Bool → Statements → ℕ
  in_block twice b = sum_of w (block_listed twice b)

  abbrev in_branches : Bool → List OpName → Branches → ℕ
  in_branches twice all b = sum_of w (branch_listed twice all b)

  -- what counts, where it wasn't seen
  abbrev unseen : (OpName → Bool) → OpName → ℕ
  unseen seen n = if seen n then 0 else w n

  abbrev with_one : (OpName → Bool) → OpName → OpName → Bool
  with_one seen c n = same_op c n || seen n

  unseen-less : (seen : OpName → Bool) (c : OpName) (ds : List OpName) → sum_of (unseen (with_one seen c)) ds ≤ sum_of (unseen seen) ds
  unseen-less seen c [] = omega arith
  unseen-less seen c (d ∷ ds) = (let one = by (same_op c d) (seen d) in let rest = unseen-less seen c ds in omega (arith, one, rest))
    where
      by : (s t : Bool) → (if s || t then 0 else w d) ≤ (if t then 0 else w d)
      by true t = omega arith
      by false t = omega arith

  unseen-gone : (seen : OpName → Bool) (c : OpName) → unseen (with_one seen c) c ≡ 0
  unseen-gone seen c = ap (λ b. if b || seen c then 0 else w c) (same_op-refl c)

  -- what is seen now counts no more
  unseen-drop : (seen : OpName → Bool) (c : OpName) (ds : List OpName) → list_any (λ d. same_op d c) ds ≡ true → seen c ≡ false
      → sum_of (unseen (with_one seen c)) ds + w c ≤ sum_of (unseen seen) ds
  unseen-drop seen c [] h e = absurd (cc)
  unseen-drop seen c (d ∷ ds) h e = by (same_op d c) refl h (λ k. unseen-drop seen c ds k e)
    where
      by : (s : Bool) → same_op d c ≡ s → (s || list_any (λ f. same_op f c) ds) ≡ true
          → (list_any (λ f. same_op f c) ds ≡ true → sum_of (unseen (with_one seen c)) ds + w c ≤ sum_of (unseen seen) ds)
          → sum_of (unseen (with_one seen c)) (d ∷ ds) + w c ≤ sum_of (unseen seen) (d ∷ ds)
      by true l k rest =
          let is : d ≡ c = same_op-eq d c l in
          let here : unseen seen d ≡ w c = ap (unseen seen) is ∙ ap (λ b. if b then 0 else w c) e in
          let gone : unseen (with_one seen c) d ≡ 0 = ap (unseen (with_one seen c)) is ∙ unseen-gone seen c in
          omega (arith, here, gone, unseen-less seen c ds)
      by false l k rest = (let one = unseen-less seen c (d ∷ []) in omega (arith, one, rest k))

  -- a call more of a branch: either it is listed, or it is passed over since it is listed already and wasn't seen
  not-seen : (b : Bool) → not b ≡ true → b ≡ false
  not-seen true h = absurd (cc)
  not-seen false h = refl

  more-less : (seen : OpName → Bool) (all : List OpName) (c : OpName)
      → (w c + sum_of w all) + sum_of (unseen (with_one seen c)) (listed_more seen all c)
      ≤ sum_of (unseen seen) all + sum_of w (listed_more seen all c)
  unfolding listed_more
  more-less seen all c = by (list_any (λ d. same_op d c) all && not (seen c)) refl
    where
      by : (b : Bool) → (list_any (λ d. same_op d c) all && not (seen c)) ≡ b
          → (w c + sum_of w all) + sum_of (unseen (with_one seen c)) (if b then all else all ++ c ∷ [])
          ≤ sum_of (unseen seen) all + sum_of w (if b then all else all ++ c ∷ [])
      by true e =
          let parts = and_parts (list_any (λ d. same_op d c) all) (not (seen c)) e in
          let drop = unseen-drop seen c all parts.0 (not-seen (seen c) parts.1) in
          omega (arith, drop)
      by false e =
          let whole = sum-both w all (c ∷ []) in
          let left = sum-both (unseen (with_one seen c)) all (c ∷ []) in
          omega (arith, whole, left, unseen-gone seen c, unseen-less seen c all)

  more-kept : (seen : OpName → Bool) (all : List OpName) (c : OpName) → sum_of w all ≤ sum_of w (listed_more seen all c)
  unfolding listed_more
  more-kept seen all c = by (list_any (λ d. same_op d c) all && not (seen c))
    where
      by : (b : Bool) → sum_of w all ≤ sum_of w (if b then all else all ++ c ∷ [])
      by true = omega arith
      by false = (let whole = sum-both w all (c ∷ []) in omega (arith, whole))

  -- the calls of a branch behind others: these stay
  all-kept : (seen : OpName → Bool) (all cs : List OpName) → sum_of w all ≤ sum_of w (listed_all seen all cs)
  all-kept seen all [] = omega arith
  all-kept seen all (c ∷ cs) =
      let one = more-kept seen all c in
      let rest = all-kept (with_one seen c) (listed_more seen all c) cs in
      omega (arith, one, rest)

  -- and those of the branch count as before, where none was seen
  all-less : (seen : OpName → Bool) (all cs : List OpName)
      → sum_of w cs + sum_of w all ≤ sum_of (unseen seen) all + sum_of w (listed_all seen all cs)
  all-less seen all [] = omega arith
  all-less seen all (c ∷ cs) =
      let one = more-less seen all c in
      let rest = all-less (with_one seen c) (listed_more seen all c) cs in
      omega (arith, one, rest)

  abbrev behind : List OpName → List OpName → List OpName
  behind all cs = listed_all (λ n. false) all cs

  own-less : (all cs : List OpName) → sum_of w cs ≤ sum_of w (behind all cs)
  own-less all cs = (let and_parts = all-less (λ n. false) all cs in omega (arith, and_parts))

  branches-kept : (twice : Bool) (all : List OpName) (b : Branches) → sum_of w all ≤ in_branches twice all b
  branches-kept twice all Nothing = omega arith
  branches-kept twice all (Else block) = all-kept (λ n. false) all (block_listed twice block)
  branches-kept twice all (When condition block others) =
      let one = all-kept (λ n. false) all (block_listed twice block) in
      let rest = branches-kept twice (behind all (block_listed twice block)) others in
      omega (arith, one, rest)

  -- the first of some branches counts no more than all
  first-less : (twice : Bool) (all : List OpName) (block : Statements) (others : Branches)
      → in_block twice block ≤ in_branches twice (behind all (block_listed twice block)) others
  first-less twice all block others =
      let own = own-less all (block_listed twice block) in
      let rest = branches-kept twice (behind all (block_listed twice block)) others in
      omega (arith, own, rest)

  then-parts : (twice : Bool) (first : Statement) (rest : Statements) → in_block twice (Then first rest) ≡ in_statement twice first + in_block twice rest
  then-parts twice first rest = sum-both w (statement_listed twice first) (block_listed twice rest)

  -- what is listed twice counts nothing where all is at most 1
  mutual
    statement-twice : (s : Statement) → in_statement true s ≤ 1 → dearest_statement weights s ≡ 0
    statement-twice Null h = refl
    statement-twice (Assign target e) h = refl
    statement-twice (If branches) h = branches-twice [] branches h
    statement-twice (For name low high body) h = no-turns (turn_count low high) (dearest weights body) (block-twice body h)
    statement-twice (ExitWhen condition) h = refl
    statement-twice (Call object op actuals) h = twice-none (called object op) h
    statement-twice (Work ticks) h = refl
    statement-twice (Put e) h = refl

    block-twice : (b : Statements) → in_block true b ≤ 1 → dearest weights b ≡ 0
    block-twice End h = refl
    block-twice (Then first rest) h =
        both-none (dearest_statement weights first) (dearest weights rest)
        (statement-twice first (few-left (in_statement true first) (in_block true rest) _ (then-parts true first rest) h))
        (block-twice rest (few-right (in_statement true first) (in_block true rest) _ (then-parts true first rest) h))

    branches-twice : (all : List OpName) (b : Branches) → in_branches true all b ≤ 1 → dearest_branch weights b ≡ 0
    branches-twice all Nothing h = refl
    branches-twice all (Else block) h = block-twice block (less-parts _ _ 1 (own-less all (block_listed true block)) h)
    branches-twice all (When condition block others) h =
        most-none (dearest weights block) (dearest_branch weights others)
        (block-twice block (less-parts _ _ 1 (first-less true all block others) h)) (branches-twice (behind all (block_listed true block)) others h)

  -- and what is listed otherwise, not more than it is listed
  mutual
    statement-once : (s : Statement) → in_statement false s ≤ 1 → dearest_statement weights s ≤ in_statement false s
    statement-once Null h = less-none 0 0 refl
    statement-once (Assign target e) h = less-none 0 0 refl
    statement-once (If branches) h = branches-once [] branches h
    statement-once (For name low high body) h =
        less-none (turn_count low high * (0 + dearest weights body)) (in_block true body)
        (no-turns (turn_count low high) (dearest weights body) (block-twice body h))
    statement-once (ExitWhen condition) h = less-none 0 0 refl
    statement-once (Call object op actuals) h = call-once (called object op)
    statement-once (Work ticks) h = less-none 0 0 refl
    statement-once (Put e) h = less-none 0 0 refl

    block-once : (b : Statements) → in_block false b ≤ 1 → dearest weights b ≤ in_block false b
    block-once End h = less-none 0 0 refl
    block-once (Then first rest) h =
        less-both (dearest_statement weights first) (dearest weights rest) (in_statement false first) (in_block false rest) _
        (then-parts false first rest)
        (statement-once first (few-left (in_statement false first) (in_block false rest) _ (then-parts false first rest) h))
        (block-once rest (few-right (in_statement false first) (in_block false rest) _ (then-parts false first rest) h))

    branches-once : (all : List OpName) (b : Branches) → in_branches false all b ≤ 1 → dearest_branch weights b ≤ in_branches false all b
    branches-once all Nothing h = less-none 0 _ refl
    branches-once all (Else block) h =
        let own = own-less all (block_listed false block) in
        less-parts _ _ _ (block-once block (less-parts _ _ 1 own h)) own
    branches-once all (When condition block others) h =
        let first = first-less false all block others in
        less-most (dearest weights block) (dearest_branch weights others) _
        (less-parts _ _ _ (block-once block (less-parts _ _ 1 first h)) first) (branches-once (behind all (block_listed false block)) others h)

  -- a block counts what its calls do as they are listed, where that is 1 at most
  pub counted-listed : (b : Statements) → sum_of w (block_listed false b) ≤ 1 → counted called b ≤ sum_of w (block_listed false b)
  counted-listed b h = block-once b h
