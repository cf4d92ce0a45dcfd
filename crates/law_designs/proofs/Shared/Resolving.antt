-- What a call means: an operation that is there leads to one of a terminal object, and the two agree.
-- It needs that the parts of each object fit: one link for each operation of a parent, to an operation of a child that agrees.
use Rattle.std.proofs.Common.{◌≡◌, Bool, true, false, not, ◌||◌, ◌==◌, List, [], ◌∷◌, ◌++◌, filter, find, length, Option, Some, None}
use Rattle.std.proofs.Common.{option_and_then, option_map, unwrap_or, refl, sym, ap, subst, ◌∙◌, inl, inr, if◌then◌else◌}
use Rattle.std.specs.List.{list_any}
use Rattle.std.specs.Option.{option_or}
use Rattle.std.proofs.lemmas.Bool.{or_parts, and_parts, and_from, eq-eqb, not-false, eqb-true}
use Rattle.std.proofs.lemmas.List.Folds.{find-append}
use Rattle.seq_tree.specs.Names.{Name, same_name}
use Rattle.seq_tree.specs.Operations.{is_out}
use Rattle.seq_tree.specs.declared.tree.Param.{Param}
use Rattle.seq_tree.specs.declared.tree.OpName.{OpName}
use Rattle.ods_tree.specs.Designs.{Provided, Object, Tree, Trees, Node, Empty, With, Design}
use Rattle.ods_tree.specs.Walk.{Standing, own_of, roots, standings, inner_standings, objects, is_empty, is_terminal}
use Rattle.ods_tree.specs.Links.{first_of, link_for, tree_named, inner_named, terminal_op, child_op, resolve}
use Rattle.ods_tree.specs.declared.design.Link.{Link}
use Rattle.design_rules.specs.Lookups.{provided_named, object_named, operation_named}
use Rattle.design_rules.specs.Clashes.{has_block}
use Rattle.design_rules.specs.Fittings.{same_mode, same_params, constraint_place, agrees, child_operation, is_link, link_count, misfits}
use Rattle.design_rules.specs.Fittings.{misfits_parent}
use Rattle.law_designs.proofs.Renaming.{three}
use Rattle.law_lists.proofs.Shared.Facts.{same-is, same-self}
use Rattle.law_lists.proofs.Shared.Lists.{in-left, in-right, none-in, IsIn, found-in}

-- where the standings of a tree stand
abbrev pub Within : List Standing → List Standing → Type 0
Within some all = (s : Standing) → IsIn s some → IsIn s all

-- the root of a tree with those round it
abbrev pub standing_of : Option Object → List Object → Tree → Standing
standing_of parent siblings (Node own children) = record { own = own; parent = parent; siblings = siblings; children = roots children }

-- what is found among trees is what is found among their objects in flattened order
abbrev pub Matches : List Standing → Option Tree → Option Standing → Type 0
Matches all None o = o ≡ None
Matches all (Some t) o = (parent : Option Object) × (siblings : List Object) × (o ≡ Some (standing_of parent siblings t))
    × Within (standings parent siblings t) all

abbrev pub has_name : Name → Standing → Bool
has_name name s = same_name s.own.name name

first-matches : (all : List Standing) (t u : Option Tree) (o p : Option Standing) → Matches all t o → Matches all u p
    → Matches all (first_of t u) (option_or o p)
first-matches all None u o p h k = let P : Option Standing → Type 0 = λ z. Matches all u (option_or z p) in subst P (sym h) k
first-matches all (Some t) u o p (parent, siblings, e, inside) k = (parent, siblings, ap (λ z. option_or z p) e, inside)

mutual
  pub tree-matches : (name : Name) (all : List Standing) (parent : Option Object) (siblings : List Object) (t : Tree)
      → Within (standings parent siblings t) all
      → Matches all (tree_named name t) (find (has_name name) (standings parent siblings t))
  tree-matches name all parent siblings (Node own children) inside
      = by (trees-match name all (Some own) (roots children) children (λ s h. inside s (inr h))) (same_name own.name name)
    where
      by : Matches all (inner_named name children) (find (has_name name) (inner_standings (Some own) (roots children) children)) → (b : Bool)
          → Matches all (if b then Some (Node own children) else inner_named name children)
          (if b then Some (standing_of parent siblings (Node own children)) else find (has_name name)
          (inner_standings (Some own) (roots children) children))
      by rest true = (parent, siblings, refl, inside)
      by rest false = rest

  pub trees-match : (name : Name) (all : List Standing) (parent : Option Object) (siblings : List Object) (ts : Trees)
      → Within (inner_standings parent siblings ts) all
      → Matches all (inner_named name ts) (find (has_name name) (inner_standings parent siblings ts))
  trees-match name all parent siblings Empty inside = refl
  trees-match name all parent siblings (With first rest) inside =
      let a = tree-matches name all parent siblings first
      (λ s h. inside s (in-left s (standings parent siblings first) (inner_standings parent siblings rest) h)) in
      let b = trees-match name all parent siblings rest
      (λ s h. inside s (in-right s (standings parent siblings first) (inner_standings parent siblings rest) h)) in
      let P : Option Standing → Type 0 = λ z. Matches all (first_of (tree_named name first) (inner_named name rest)) z in
      subst P (sym (find-append (has_name name) (standings parent siblings first) (inner_standings parent siblings rest)))
      (first-matches all _ _ _ _ a b)

-- operations that agree
same_mode-refl : (b : Bool) → same_mode b b ≡ true
same_mode-refl true = refl
same_mode-refl false = refl

same_mode-trans : (a b c : Bool) → same_mode a b ≡ true → same_mode b c ≡ true → same_mode a c ≡ true
same_mode-trans true true c h k = k
same_mode-trans true false c h k = cc
same_mode-trans false true c h k = cc
same_mode-trans false false c h k = k

pub same_params-refl : (ps : List Param) → same_params ps ps ≡ true
same_params-refl [] = refl
same_params-refl (p ∷ ps) = and_from _ _ (and_from _ _ (same-self p.name) (same_mode-refl (is_out p.mode))) (same_params-refl ps)

pub same_params-trans : (ps qs rs : List Param) → same_params ps qs ≡ true → same_params qs rs ≡ true → same_params ps rs ≡ true
same_params-trans [] [] rs h k = k
same_params-trans [] (q ∷ qs) rs h k = cc
same_params-trans (p ∷ ps) [] rs h k = cc
same_params-trans (p ∷ ps) (q ∷ qs) [] h k = cc
same_params-trans (p ∷ ps) (q ∷ qs) (r ∷ rs) h k =
    let a = three (same_name p.name q.name) (same_mode (is_out p.mode) (is_out q.mode)) (same_params ps qs) h in
    let b = three (same_name q.name r.name) (same_mode (is_out q.mode) (is_out r.mode)) (same_params qs rs) k in
    let P : Name → Type 0 = λ n. same_name n r.name ≡ true in
    and_from _ _ (and_from _ _ (subst P (sym (same-is p.name q.name a.0)) b.0)
    (same_mode-trans (is_out p.mode) (is_out q.mode) (is_out r.mode) a.1 b.1)) (same_params-trans ps qs rs a.2 b.2)

pub agrees-refl : (p : Provided) → agrees (Some p) (Some p) ≡ true
agrees-refl p = and_from _ _ (eq-eqb (constraint_place p.constraint) _ refl) (same_params-refl p.sig.params)

pub agrees-trans : (p q r : Provided) → agrees (Some p) (Some q) ≡ true → agrees (Some q) (Some r) ≡ true → agrees (Some p) (Some r) ≡ true
agrees-trans p q r h k =
    let a = and_parts (constraint_place p.constraint == constraint_place q.constraint) (same_params p.sig.params q.sig.params) h in
    let b = and_parts (constraint_place q.constraint == constraint_place r.constraint) (same_params q.sig.params r.sig.params) k in
    let e : constraint_place p.constraint ≡ constraint_place q.constraint = eqb-true _ _ a.0 in
    and_from _ _ (ap (λ n. n == constraint_place r.constraint) e ∙ b.0) (same_params-trans p.sig.params q.sig.params r.sig.params a.1 b.1)

-- one that passes is found
pub one-found : {A : Type 0} (p : A → Bool) (xs : List A) → length (filter p xs) ≡ 1 → (a : A) × (find p xs ≡ Some a)
one-found p [] h = absurd (let e : 0 ≡ 1 = h in cc)
one-found {A} p (x ∷ xs) h = by (one-found p xs) (p x) h
  where
    by : (length (filter p xs) ≡ 1 → (a : A) × (find p xs ≡ Some a)) → (b : Bool) → length (if b then x ∷ filter p xs else filter p xs) ≡ 1
        → (a : A) × ((if b then Some x else find p xs) ≡ Some a)
    by rest true k = (x, refl)
    by rest false k = rest k

-- the terminal operation of an operation among these objects
pub record Ends (all : List Standing) (to : OpName) (q : Provided) : Type 0 where
  pub standing : Standing
  pub op : Provided
  pub stands : IsIn standing all
  pub terminal : is_terminal standing ≡ true
  pub object : to.object ≡ standing.own.name
  pub provides : provided_named to.op standing.own.provides ≡ Some op
  pub agree : agrees (Some q) (Some op) ≡ true

ends-more : (some all : List Standing) (to : OpName) (p q : Provided) → agrees (Some p) (Some q) ≡ true → Within some all → Ends some to q
    → Ends all to p
ends-more some all to p q h inside e =
    record {
      standing = e.standing;
      op = e.op;
      stands = inside e.standing e.stands;
      terminal = e.terminal;
      object = e.object;
      provides = e.provides;
      agree = agrees-trans p q e.op h e.agree;
    }

abbrev pub Fit : List Standing → Type 0
Fit all = (s : Standing) → IsIn s all → misfits (is_terminal s) s ≡ false

-- a parent's operation has a link to an operation of a child that agrees
record Linked (own : Object) (children : List Object) (op : Name) (q : Provided) : Type 0 where
  to : OpName
  link : link_for op own.links ≡ Some to
  child : Provided
  there : child_operation children to ≡ Some child
  agree : agrees (Some q) (Some child) ≡ true

agreeing : (children : List Object) (to : OpName) (q : Provided) (o : Option Provided) → child_operation children to ≡ o → agrees (Some q) o ≡ true
    → (child : Provided) × (child_operation children to ≡ Some child) × (agrees (Some q) (Some child) ≡ true)
agreeing children to q None e h = cc
agreeing children to q (Some child) e h = (child, e, h)

linked : (s : Standing) (op : Name) (q : Provided) → misfits_parent s ≡ false → provided_named op s.own.provides ≡ Some q
    → Linked s.own s.children op q
linked s op q h k =
    let last = or_parts (has_block s.own.thread || not (is_empty s.own.vars) || not (is_empty s.own.bodies)
    || list_any (λ p. not (link_count s.own p.sig.name == 1)) s.own.provides)
    (list_any (λ l. not (is_link s l)) s.own.links) h in
    let counts = (or_parts (has_block s.own.thread || not (is_empty s.own.vars) || not (is_empty s.own.bodies))
    (list_any (λ p. not (link_count s.own p.sig.name == 1)) s.own.provides) last.0).1 in
    let at = found-in (λ p. same_name p.sig.name op) s.own.provides q k in
    let name : q.sig.name ≡ op = same-is q.sig.name op at.1 in
    let one : link_count s.own q.sig.name ≡ 1
    = eqb-true _ _ (not-false _ (none-in (λ p. not (link_count s.own p.sig.name == 1)) q s.own.provides counts at.0)) in
    let found = one-found (λ l. same_name l.op op) s.own.links (ap (link_count s.own) (sym name) ∙ one) in
    let l : Link = found.0 in
    let stands = found-in (λ l. same_name l.op op) s.own.links l found.1 in
    let fits : is_link s l ≡ true = not-false _ (none-in (λ l. not (is_link s l)) l s.own.links last.1 stands.0) in
    let same : provided_named l.op s.own.provides ≡ Some q = ap (λ n. provided_named n s.own.provides) (same-is l.op op stands.1) ∙ k in
    let there = agreeing s.children l.to q _ refl (ap (λ o. agrees o (child_operation s.children l.to)) (sym same) ∙ fits) in
    record { to = l.to; link = ap (option_map (λ l. l.to)) found.1; child = there.0; there = there.1; agree = there.2 }

mutual
  pub tree-ends : (parent : Option Object) (siblings : List Object) (t : Tree) → Fit (standings parent siblings t) → (op : Name) (q : Provided)
      → provided_named op (own_of t).provides ≡ Some q
      → (to : OpName) × (terminal_op t op ≡ Some to) × Ends (standings parent siblings t) to q
  tree-ends parent siblings (Node own Empty) fit op q h = (
    record { object = own.name; op = op },
    refl,
    record {
      standing = standing_of parent siblings (Node own Empty);
      op = q;
      stands = inl refl;
      terminal = refl;
      object = refl;
      provides = h;
      agree = agrees-refl q;
    },
  )
  tree-ends parent siblings (Node own (With first rest)) fit op q h =
      by (trees-end (Some own) (roots (With first rest)) (With first rest) (λ s k. fit s (inr k)))
      (linked (standing_of parent siblings (Node own (With first rest))) op q (fit _ (inl refl)) h)
    where
      inner : List Standing
      inner = inner_standings (Some own) (roots (With first rest)) (With first rest)

      by : ((to : OpName) (r : Provided) → child_operation (roots (With first rest)) to ≡ Some r
          → (end : OpName) × (child_op (With first rest) to ≡ Some end) × Ends inner end r)
          → Linked own (roots (With first rest)) op q
          → (to : OpName) × (terminal_op (Node own (With first rest)) op ≡ Some to)
          × Ends (standings parent siblings (Node own (With first rest))) to q
      by more l =
          let r = more l.to l.child l.there in (
            r.0,
            ap (option_and_then (child_op (With first rest))) l.link ∙ r.1,
            ends-more inner (standings parent siblings
                (Node own (With first rest))) r.0 q l.child l.agree (λ s k. inr k) r.2,
          )

  pub trees-end : (parent : Option Object) (siblings : List Object) (ts : Trees) → Fit (inner_standings parent siblings ts)
      → (to : OpName) (r : Provided) → child_operation (roots ts) to ≡ Some r
      → (end : OpName) × (child_op ts to ≡ Some end) × Ends (inner_standings parent siblings ts) end r
  trees-end parent siblings Empty fit to r h = absurd (let e : None ≡ Some r = h in cc)
  trees-end parent siblings (With first rest) fit to r h =
      by (λ k. tree-ends parent siblings first
      (λ s j. fit s (in-left s (standings parent siblings first) (inner_standings parent siblings rest) j)) to.op r k)
      (λ k. trees-end parent siblings rest
      (λ s j. fit s (in-right s (standings parent siblings first) (inner_standings parent siblings rest) j)) to r k)
      (same_name (own_of first).name to.object) h
    where
      by : (provided_named to.op (own_of first).provides ≡ Some r → (end : OpName) × (terminal_op first to.op ≡ Some end)
          × Ends (standings parent siblings first) end r)
          → (child_operation (roots rest) to ≡ Some r → (end : OpName) × (child_op rest to ≡ Some end)
          × Ends (inner_standings parent siblings rest) end r)
          → (b : Bool) → option_and_then (λ (c : Object). provided_named to.op c.provides)
          (if b then Some (own_of first) else find (λ c. same_name c.name to.object) (roots rest)) ≡ Some r
          → (end : OpName) × ((if b then terminal_op first to.op else child_op rest to) ≡ Some end)
          × Ends ((standings parent siblings first) ++ (inner_standings parent siblings rest)) end r
      by one more true k = let e = one k
          in (
            e.0,
            e.1,
            ends-more (standings parent siblings first) ((standings parent siblings first)
                ++ (inner_standings parent siblings rest)) e.0 r r (agrees-refl r) (λ s j. in-left s (standings parent siblings first)
                (inner_standings parent siblings rest) j) e.2,
          )
      by one more false k = let e = more k
          in (
            e.0,
            e.1,
            ends-more (inner_standings parent siblings rest) ((standings parent siblings first)
                ++ (inner_standings parent siblings rest)) e.0 r r (agrees-refl r) (λ s j. in-right s (standings parent siblings first)
                (inner_standings parent siblings rest) j) e.2,
          )

-- what an operation that is there means
pub resolve-ends : (x : Design) → Fit (objects x) → (name : OpName) (q : Provided) → operation_named x name ≡ Some q
    → Ends (objects x) (resolve x name) q
resolve-ends x fit name q h = by (tree_named name.object x.root) refl
    (tree-matches name.object (objects x) None (own_of x.root ∷ []) x.root (λ s k. k))
  where
    by : (t : Option Tree) → tree_named name.object x.root ≡ t → Matches (objects x) t (object_named x name.object)
        → Ends (objects x) (resolve x name) q
    by None e m = (let z : None ≡ Some q = sym (ap (option_and_then (λ (s : Standing). provided_named name.op s.own.provides)) m) ∙ h in cc)
    by (Some (Node own children)) e (parent, siblings, found, inside) =
        let k : provided_named name.op own.provides ≡ Some q
        = sym (ap (option_and_then (λ (s : Standing). provided_named name.op s.own.provides)) found) ∙ h in
        let r = tree-ends parent siblings (Node own children) (λ s j. fit s (inside s j)) name.op q k in
        let same : resolve x name ≡ r.0 = ap (λ o. unwrap_or (option_and_then (λ t. terminal_op t name.op) o) name) e ∙ ap
        (λ o. unwrap_or o name) r.1 in
        let P : OpName → Type 0 = λ n. Ends (objects x) n q in
        subst P (sym same) (ends-more (standings parent siblings (Node own children)) (objects x) r.0 q q (agrees-refl q) inside r.2)
