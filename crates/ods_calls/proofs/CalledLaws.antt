-- Which bodies are held, which of them make the calls of protected operations, and that a body lists all calls that it makes.
-- So what it means by its calls is among what it means by those that it lists.
use Rattle.std.proofs.Common.{◌≡◌, inl, inr, ◌⊎◌, Bool, true, false, not, ◌&&◌, ◌||◌, List, [], ◌∷◌, ◌++◌, map, filter, flat_map, refl, ap, sym}
use Rattle.std.proofs.Common.{subst, ◌∙◌}
use Rattle.std.specs.Prelude.{if◌then◌else◌}
use Rattle.std.specs.List.{list_any}
use Rattle.std.proofs.lemmas.Bool.{and_parts, and_from}
use Rattle.std.proofs.lemmas.List.Elements.{filter-append}
use Rattle.seq_tree.proofs.Shared.SameNames.{same-self}
use Rattle.seq_tree.specs.Calls.{block_calls, branch_calls, same_op, statement_calls}
use Rattle.seq_tree.specs.Names.{same_name}
use Rattle.seq_tree.specs.Statements.{Statement, Statements, Branches, Null, Assign, If, For, ExitWhen, Call, Work, Put, End, Then, Nothing, Else}
use Rattle.seq_tree.specs.Statements.{When}
use Rattle.seq_tree.specs.declared.tree.OpName.{OpName}
use Rattle.seq_tree.proofs.Shared.Walks.{same_op-eq}
use Rattle.call_graph.specs.Listed.{block_listed, branch_listed, call_listed, listed_all, listed_more, statement_listed}
use Rattle.ods_tree.specs.Designs.{Body, Design, Object}
use Rattle.ods_tree.specs.Flattening.{is_protected}
use Rattle.ods_tree.specs.Links.{resolve}
use Rattle.ods_tree.specs.Walk.{Standing, terminals}
use Rattle.design_rules.specs.Rings.{inner_calls, meant_calls, operation_calls, protected_objects}
use Rattle.ods_calls.specs.Held.{held_bodies, is_held}
use Rattle.ods_index.specs.Calling.{Calls, body_calls, object_calls, meant_by}
use Rattle.ods_calls.proofs.Items.{In, any-in, from-filter, from-flat, from-map, in-filter, in-flat, in-left, in-map, in-parts, in-right}
use Rattle.ods_calls.proofs.Items.{some-in}

-- where none of a list passes, no item does
pub none-in : {A : Type 0} (p : A → Bool) (xs : List A) → list_any p xs ≡ false → (a : A) → In a xs → p a ≡ false
none-in p xs h a at = by (p a) refl
  where
    by : (b : Bool) → p a ≡ b → p a ≡ false
    by true e = (let z : true ≡ false = sym (any-in p a xs at e) ∙ h in cc)
    by false e = e

-- the bodies that are held are those of protected objects
held-of-object : (x : Design) (o : Object) (bs : List Body)
    → filter is_held (map (body_calls x o.kind o.name o.needs) bs) ≡ (if is_protected o.kind then map (body_calls x o.kind o.name o.needs) bs else [])
held-of-object x o [] = by (is_protected o.kind)
  where
    by : (t : Bool) → filter is_held [] ≡ (if t then map (body_calls x o.kind o.name o.needs) [] else [])
    by true = refl
    by false = refl
held-of-object x o (b ∷ bs) = by (is_protected o.kind) (held-of-object x o bs)
  where
    by : (t : Bool) → filter is_held (map (body_calls x o.kind o.name o.needs) bs) ≡ (if t then map (body_calls x o.kind o.name o.needs) bs else [])
        → (if t then body_calls x o.kind o.name o.needs b ∷ filter is_held (map (body_calls x o.kind o.name o.needs) bs)
        else filter is_held (map (body_calls x o.kind o.name o.needs) bs))
        ≡ (if t then map (body_calls x o.kind o.name o.needs) (b ∷ bs) else [])
    by true e = ap (λ cs. body_calls x o.kind o.name o.needs b ∷ cs) e
    by false e = e

pub held-of-objects : (x : Design) (ss : List Standing) → filter is_held (flat_map (λ s. object_calls x s.own) ss)
    ≡ flat_map (λ s. object_calls x s.own) (filter (λ s. is_protected s.own.kind) ss)
held-of-objects x [] = refl
held-of-objects x (s ∷ ss) =
    filter-append is_held (object_calls x s.own) (flat_map (λ s. object_calls x s.own) ss)
    ∙ ap (λ cs. cs ++ filter is_held (flat_map (λ s. object_calls x s.own) ss)) (held-of-object x s.own s.own.bodies)
    ∙ by (is_protected s.own.kind) (held-of-objects x ss)
  where
    by : (t : Bool) → filter is_held (flat_map (λ s. object_calls x s.own) ss)
        ≡ flat_map (λ s. object_calls x s.own) (filter (λ s. is_protected s.own.kind) ss)
        → (if t then object_calls x s.own else []) ++ filter is_held (flat_map (λ s. object_calls x s.own) ss)
        ≡ flat_map (λ s. object_calls x s.own)
        (if t then s ∷ filter (λ s. is_protected s.own.kind) ss else filter (λ s. is_protected s.own.kind) ss)
    by true e = ap (λ cs. object_calls x s.own ++ cs) e
    by false e = e

-- one that is held is a body of a terminal protected object
pub held-from : (x : Design) (h : Calls) → In h (held_bodies x) → (s : Standing) × In s (filter (λ (s : Standing). is_protected s.own.kind) (terminals x))
    × (b : Body) × In b s.own.bodies × (body_calls x s.own.kind s.own.name s.own.needs b ≡ h)
held-from x h at =
    let P : List Calls → Type 0 = λ hs. In h hs in
    let s = from-flat (λ (s : Standing). object_calls x s.own) h (filter (λ (s : Standing). is_protected s.own.kind) (terminals x))
    (subst P (held-of-objects x (terminals x)) at) in
    let b = from-map (body_calls x s.0.own.kind s.0.own.name s.0.own.needs) h s.0.own.bodies s.2 in (s.0, s.1, b.0, b.1, b.2)

-- what one that is held means by its calls
pub held-meant : (x : Design) (h : Calls) → In h (held_bodies x) → h.meant ≡ meant_by x h.needs h.block
held-meant x h at =
    let P : Calls → Type 0 = λ g. g.meant ≡ meant_by x g.needs g.block in let r = held-from x h at in subst P r.4 refl

-- a protected operation makes the calls of its bodies
pub inner-body : (x : Design) (n k : OpName) → In k (inner_calls x n) → (h : Calls) × In h (held_bodies x) × (h.name ≡ n) × In k h.meant
inner-body x n k at =
    let f = from-flat (λ (o : Object). operation_calls x o n.op) k (filter (λ (o : Object). same_name o.name n.object) (protected_objects x)) at in
    let g = from-filter (λ (o : Object). same_name o.name n.object) f.0 (protected_objects x) f.1 in
    let s = from-map (λ (s : Standing). s.own) f.0 (filter (λ (s : Standing). is_protected s.own.kind) (terminals x)) g.0 in
    let b = from-flat (λ (b : Body). meant_calls x f.0 b.block) k (filter (λ (b : Body). same_name b.name n.op) f.0.bodies) f.2 in
    let c = from-filter (λ (b : Body). same_name b.name n.op) b.0 f.0.bodies b.1 in
    let h : Calls = body_calls x f.0.kind f.0.name f.0.needs b.0 in
    let P : Object → Type 0 = λ o. In h (object_calls x o) in
    let Q : List Calls → Type 0 = λ hs. In h hs in (
      h,
      subst Q (sym (held-of-objects x (terminals x)))
          (in-flat (λ (s : Standing). object_calls x s.own) s.0 h (filter (λ (s : Standing). is_protected s.own.kind) (terminals x)) s.1
          (subst P (sym s.2) (in-map (body_calls x f.0.kind f.0.name f.0.needs) b.0 f.0.bodies c.0))),
      same_op-eq (record { object = f.0.name; op = b.0.name }) n (and_from (same_name f.0.name n.object) (same_name b.0.name n.op) g.1 c.1),
      b.2,
    )

pub body-inner : (x : Design) (h : Calls) (k : OpName) → In h (held_bodies x) → In k h.meant → In k (inner_calls x h.name)
body-inner x h k at calls =
    let r = held-from x h at in
    let s = r.0 in
    let own = r.2 in
    let P : Calls → Type 0 = λ g. In k g.meant in
    let Q : Calls → Type 0 = λ g. In k (inner_calls x g.name) in
    let mine : In k (meant_calls x s.own own.block) = subst P (sym r.4) calls in
    let object : In s.own (filter (λ (o : Object). same_name o.name s.own.name) (protected_objects x)) =
    in-filter (λ (o : Object). same_name o.name s.own.name) s.own (protected_objects x)
    (in-map (λ (s : Standing). s.own) s (filter (λ (s : Standing). is_protected s.own.kind) (terminals x)) r.1) (same-self s.own.name) in
    let body : In own (filter (λ (b : Body). same_name b.name own.name) s.own.bodies) =
    in-filter (λ (b : Body). same_name b.name own.name) own s.own.bodies r.3 (same-self own.name) in
    subst Q r.4
    (in-flat (λ (o : Object). operation_calls x o own.name) s.own k (filter (λ (o : Object). same_name o.name s.own.name) (protected_objects x))
    object
    (in-flat (λ (b : Body). meant_calls x s.own b.block) own k (filter (λ (b : Body). same_name b.name own.name) s.own.bodies) body mine))

-- a block lists all that it calls
once-or-twice : (twice : Bool) (c : OpName) → In c (call_listed twice c)
once-or-twice true c = inl refl
once-or-twice false c = inl refl

call-listed : (twice : Bool) (c d : OpName) → In c (d ∷ []) → In c (call_listed twice d)
call-listed twice c d (inl e) = let P : OpName → Type 0 = λ k. In k (call_listed twice d) in subst P e (once-or-twice twice d)
call-listed twice c d (inr h) = absurd h

two-parts : (c : OpName) (xs ys vs ws : List OpName) → (In c xs → In c vs) → (In c ys → In c ws) → In c (xs ++ ys) → In c (vs ++ ws)
two-parts c xs ys vs ws f g h = by (in-parts c xs ys h)
  where
    by : In c xs ⊎ In c ys → In c (vs ++ ws)
    by (inl k) = in-left c vs ws (f k)
    by (inr k) = in-right c vs ws (g k)

either-part : (c : OpName) (xs ys zs : List OpName) → (In c xs → In c zs) → (In c ys → In c zs) → In c (xs ++ ys) → In c zs
either-part c xs ys zs f g h = by (in-parts c xs ys h)
  where
    by : In c xs ⊎ In c ys → In c zs
    by (inl k) = f k
    by (inr k) = g k

-- a call of a branch is listed, as it stands behind those that are or is passed over since it is among them
more-stays : (c d : OpName) (seen : OpName → Bool) (all : List OpName) → In c all → In c (listed_more seen all d)
unfolding listed_more
more-stays c d seen all h = by (list_any (λ e. same_op e d) all && not (seen d))
  where
    by : (b : Bool) → In c (if b then all else all ++ d ∷ [])
    by true = h
    by false = in-left c all (d ∷ []) h

more-comes : (d : OpName) (seen : OpName → Bool) (all : List OpName) → In d (listed_more seen all d)
unfolding listed_more
more-comes d seen all = by (list_any (λ e. same_op e d) all && not (seen d)) refl
  where
    by : (b : Bool) → (list_any (λ e. same_op e d) all && not (seen d)) ≡ b → In d (if b then all else all ++ d ∷ [])
    by true e =
        let r = some-in (λ f. same_op f d) all (and_parts (list_any (λ f. same_op f d) all) (not (seen d)) e).0 in
        let P : OpName → Type 0 = λ z. In z all in subst P (same_op-eq r.0 d r.2) r.1
    by false e = in-right d all (d ∷ []) (inl refl)

all-stay : (c : OpName) (seen : OpName → Bool) (all ds : List OpName) → In c all → In c (listed_all seen all ds)
all-stay c seen all [] h = h
all-stay c seen all (d ∷ ds) h = all-stay c (λ n. same_op d n || seen n) (listed_more seen all d) ds (more-stays c d seen all h)

all-come : (c : OpName) (seen : OpName → Bool) (all ds : List OpName) → In c ds → In c (listed_all seen all ds)
all-come c seen all [] h = absurd h
all-come c seen all (d ∷ ds) (inl e) =
    let P : OpName → Type 0 = λ z. In z (listed_more seen all d) in
    all-stay c (λ n. same_op d n || seen n) (listed_more seen all d) ds (subst P e (more-comes d seen all))
all-come c seen all (d ∷ ds) (inr h) = all-come c (λ n. same_op d n || seen n) (listed_more seen all d) ds h

branches-stay : (twice : Bool) (c : OpName) (all : List OpName) (b : Branches) → In c all → In c (branch_listed twice all b)
branches-stay twice c all Nothing h = h
branches-stay twice c all (Else block) h = all-stay c (λ n. false) all (block_listed twice block) h
branches-stay twice c all (When condition block others) h =
    branches-stay twice c (listed_all (λ n. false) all (block_listed twice block)) others (all-stay c (λ n. false) all (block_listed twice block) h)

mutual
  statement-listed : (twice : Bool) (c : OpName) (s : Statement) → In c (statement_calls s) → In c (statement_listed twice s)
  statement-listed twice c Null h = absurd h
  statement-listed twice c (Assign target e) h = absurd h
  statement-listed twice c (If branches) h = branches-listed twice c [] branches h
  statement-listed twice c (For name low high body) h = block-listed true c body h
  statement-listed twice c (ExitWhen condition) h = absurd h
  statement-listed twice c (Call object op actuals) h = call-listed twice c (record { object = object; op = op }) h
  statement-listed twice c (Work ticks) h = absurd h
  statement-listed twice c (Put e) h = absurd h

  block-listed : (twice : Bool) (c : OpName) (b : Statements) → In c (block_calls b) → In c (block_listed twice b)
  block-listed twice c End h = absurd h
  block-listed twice c (Then first rest) h =
      two-parts c (statement_calls first) (block_calls rest) (statement_listed twice first) (block_listed twice rest)
      (statement-listed twice c first) (block-listed twice c rest) h

  branches-listed : (twice : Bool) (c : OpName) (all : List OpName) (b : Branches) → In c (branch_calls b) → In c (branch_listed twice all b)
  branches-listed twice c all Nothing h = absurd h
  branches-listed twice c all (Else block) h = all-come c (λ n. false) all (block_listed twice block) (block-listed twice c block h)
  branches-listed twice c all (When condition block others) h =
      let behind = listed_all (λ n. false) all (block_listed twice block) in
      either-part c (block_calls block) (branch_calls others) (branch_listed twice behind others)
      (λ k. branches-stay twice c behind others (all-come c (λ n. false) all (block_listed twice block) (block-listed twice c block k)))
      (λ k. branches-listed twice c behind others k) h

-- what a block means to call, and what it lists of that
abbrev pub meant_of : Design → List OpName → List OpName → List OpName
meant_of x needs cs = map (resolve x) (filter (λ c. list_any (same_op c) needs) cs)

pub meant-listed : (x : Design) (needs : List OpName) (b : Statements) (k : OpName) → In k (meant_of x needs (block_calls b))
    → In k (meant_of x needs (block_listed false b))
meant-listed x needs b k h =
    let p : OpName → Bool = λ c. list_any (same_op c) needs in
    let r = from-map (resolve x) k (filter p (block_calls b)) h in
    let g = from-filter p r.0 (block_calls b) r.1 in
    let P : OpName → Type 0 = λ m. In m (meant_of x needs (block_listed false b)) in
    subst P r.2 (in-map (resolve x) r.0 (filter p (block_listed false b)) (in-filter p r.0 (block_listed false b) (block-listed false r.0 b g.0) g.1))
