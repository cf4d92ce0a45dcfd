-- Rules on objects by themselves, with names, parts and what they require: what is told of a design whose `work` is changed is what was told.
use Rattle.std.proofs.Common.{◌≡◌, ℕ, ◌+◌, ◌==◌, Bool, true, false, not, ◌&&◌, ◌||◌, List, [], ◌∷◌, ◌++◌, map, filter, flat_map, filter_map, length}
use Rattle.std.proofs.Common.{refl, ap, ap₂, ◌∙◌, Option, Some, None, option_map, option_to_list}
use Rattle.std.specs.Prelude.{option_and_then, find, nat_lt}
use Rattle.std.specs.List.{list_any, enumerate_from, cons_option}
use Rattle.std.proofs.lemmas.List.{length-map}
use Rattle.seq_tree.specs.Names.{Name, same_name}
use Rattle.seq_tree.specs.Statements.{Statements}
use Rattle.seq_tree.specs.Faults.{Scope, block_fault}
use Rattle.seq_tree.specs.Operations.{Offer, out_names}
use Rattle.seq_tree.specs.declared.tree.Param.{Param}
use Rattle.seq_tree.specs.declared.tree.Datum.{Datum}
use Rattle.seq_tree.specs.declared.tree.OpName.{OpName}
use Rattle.ods_tree.specs.Designs.{Provided, Body, Object, Design}
use Rattle.ods_tree.specs.Walk.{Standing, objects, standings, own_of, is_terminal, is_empty, terminals, only_if}
use Rattle.ods_tree.specs.Flattening.{body_named, request_op, is_passive}
use Rattle.ods_tree.specs.declared.design.Kind.{Kind}
use Rattle.ods_tree.specs.declared.design.Kind.TheVariants as kind
use Rattle.ods_tree.specs.declared.design.Link.{Link}
use Rattle.design_rules.specs.Broken.{Broken, V02, V03, V04, V05, V06, V07, V08, V12, V13}
use Rattle.design_rules.specs.Bodies.{is_active, idle_actives, offers, params_by, request_params, scope, body_fault, thread_fault, bad_bodies}
use Rattle.design_rules.specs.Clashes.{Mention, Role, Whole, Single, Local, Loop, Member, Parameter, block_loops, is_there, has_block, is_request, request_names, is_bodied, mention}
use Rattle.design_rules.specs.Clashes.{operation_mentions, body_mentions, thread_mentions, object_mentions, mentions, clashes_after, clashes}
use Rattle.design_rules.specs.Fittings.{wanted_bodies, body_count, is_provided, misfits_terminal, agrees, child_operation, is_link, link_count}
use Rattle.design_rules.specs.Fittings.{misfits_parent, misfits, bad_fittings}
use Rattle.design_rules.specs.Includes.{may_include, kind_place, child_count, has_own_kind, breaks_includes, bad_includes}
use Rattle.design_rules.specs.Lookups.{provided_named, object_named, operation_named, has_thread}
use Rattle.design_rules.specs.Operations.{breaks_table, hands_out, breaks_operations, bad_operations}
use Rattle.design_rules.specs.Uses.{is_uncle, is_sibling, is_near, is_forbidden, needs_that, strangers, absent, forbidden}
use Rattle.design_rules.specs.Words.{body_names, thread_names, provided_names, op_names, link_names, object_names, kept_names}
use Rattle.ada_tree.specs.Words.{is_ada_name}
use Rattle.law_scaling.specs.Working.{reworked_block}
use Rattle.law_scaling.specs.Designs.{freed, reworked_body, reworked_object, reworked_tree, reworked_design}
use Rattle.law_scaling.proofs.Shared.Designs.{own-same, standing, standings-same, empty-same, terminals-same, find-map, filter-map}
use Rattle.law_scaling.proofs.Shared.Ranks.{any-map}
use Rattle.law_scaled_designs.proofs.Lists.{filter_map-moved, flat_map-moved, flat_map-each, map-each, any-each, filter-each, count-moved}
use Rattle.law_scaled_designs.proofs.Texts.{join, block-names, block-loops, block-faults}

there-same : (f : Body → Body) (b : Option Body) → is_there (option_map f b) ≡ is_there b
there-same f None = refl
there-same f (Some b) = refl

block-there : (f : Statements → Statements) (b : Option Statements) → has_block (option_map f b) ≡ has_block b
block-there f None = refl
block-there f (Some b) = refl

bodies-empty : (f : Body → Body) (bs : List Body) → is_empty (map f bs) ≡ is_empty bs
bodies-empty f [] = refl
bodies-empty f (b ∷ bs) = refl

module _ (w : Name → ℕ → ℕ) where
  -- OBJECTS

  -- bodies by their names
  body-found : (o : Object) (name : Name) → body_named name (map (reworked_body (w o.name)) o.bodies)
      ≡ option_map (reworked_body (w o.name)) (body_named name o.bodies)
  body-found o name =
      find-map (λ b. same_name b.name name) (λ b. same_name b.name name) (reworked_body (w o.name)) o.bodies (λ b. refl)

  bodied-same : (o : Object) (p : Provided) → is_bodied (reworked_object w o) p ≡ is_bodied o p
  bodied-same o p =
      ap₂ (λ a b. a || (is_request o p && b))
      (ap is_there (body-found o p.sig.name) ∙ there-same (reworked_body (w o.name)) (body_named p.sig.name o.bodies))
      (block-there (reworked_block (w o.name)) o.thread)

  counted-bodies : (o : Object) (name : Name) → body_count (reworked_object w o) name ≡ body_count o name
  counted-bodies o name = count-moved (λ b. same_name b.name name) (λ b. same_name b.name name) (reworked_body (w o.name)) o.bodies (λ b. refl)

  -- NAMES

  body-named-same : (o : Object) (b : Body) → body_names (reworked_body (w o.name) b) ≡ body_names b
  body-named-same o b = ap (λ ns. b.name ∷ (map (λ d. d.name) b.locals ++ ns)) (block-names (w o.name) b.block)

  thread-named-same : (o : Object) (b : Option Statements) → thread_names (option_map (reworked_block (w o.name)) b) ≡ thread_names b
  thread-named-same o None = refl
  thread-named-same o (Some b) = block-names (w o.name) b

  object-named-same : (o : Object) → object_names (reworked_object w o) ≡ object_names o
  object-named-same o =
      ap₂ (λ bs t. o.name ∷ (flat_map provided_names o.provides ++ (flat_map op_names o.needs ++ (map (λ d. d.name) o.vars
      ++ (bs ++ (t ++ flat_map link_names o.links))))))
      (flat_map-moved body_names body_names (reworked_body (w o.name)) o.bodies (body-named-same o)) (thread-named-same o o.thread)

  -- MENTIONS

  operation-mentioned : (place : ℕ) (o : Object) (p : Provided) → operation_mentions place (reworked_object w o) p ≡ operation_mentions place o p
  operation-mentioned place o p =
      ap (λ b. mention (Member place) p.sig.name ∷ map (λ q. mention (Parameter place p.sig.name b) q.name) p.sig.params) (bodied-same o p)

  bodies-mentioned : (place n : ℕ) (c : ℕ → ℕ) (bs : List Body) → flat_map (body_mentions place) (enumerate_from n (map (reworked_body c) bs))
      ≡ flat_map (body_mentions place) (enumerate_from n bs)
  bodies-mentioned place n c [] = refl
  bodies-mentioned place n c (b ∷ bs) =
      ap₂ join
      (ap (λ ms. map (λ d. mention (role b.name) d.name) b.locals ++ ms)
      (block-loops c (λ name open'. record { name = name; role = Loop place n (b.name ∷ []); open' = open' }) [] b.block))
      (bodies-mentioned place (n + 1) c bs)
    where
      role : Name → Role
      role name = Local place n name

  thread-mentioned : (place : ℕ) (o : Object) (b : Option Statements)
      → thread_mentions place (reworked_object w o) (option_map (reworked_block (w o.name)) b) ≡ thread_mentions place o b
  thread-mentioned place o None = refl
  thread-mentioned place o (Some b) =
      block-loops (w o.name) (λ name open'. record {
        name = name;
        role = Loop place (length (map (reworked_body (w o.name)) o.bodies)) (request_names o);
        open' = open';
      }) [] b
      ∙ ap (λ n. block_loops (λ name open'. record { name = name; role = Loop place n (request_names o); open' = open' }) [] b)
      (length-map o.bodies (reworked_body (w o.name)))

  object-mentioned : (place : ℕ) (s : Standing) → object_mentions (place, standing w s) ≡ object_mentions (place, s)
  object-mentioned place s =
      let o = s.own in
      ap₂ (λ ops rest. mention Single o.name ∷ (ops ++ (map (λ d. mention (Member place) d.name) o.vars ++ rest)))
      (flat_map-each (operation_mentions place (reworked_object w o)) (operation_mentions place o) o.provides (operation-mentioned place o))
      (ap₂ join (bodies-mentioned place 0 (w o.name) o.bodies) (thread-mentioned place o o.thread))

  all-mentioned : (n : ℕ) (ss : List Standing) → flat_map object_mentions (enumerate_from n (map (standing w) ss))
      ≡ flat_map object_mentions (enumerate_from n ss)
  all-mentioned n [] = refl
  all-mentioned n (s ∷ ss) = ap₂ join (object-mentioned n s) (all-mentioned (n + 1) ss)

  -- INCLUDES

  child-counts : (k : Kind) (cs : List Object) → child_count k (map (reworked_object w) cs) ≡ child_count k cs
  child-counts k cs =
      count-moved (λ c. kind_place c.kind == kind_place k) (λ c. kind_place c.kind == kind_place k) (reworked_object w) cs (λ c. refl)

  own-kind : (k : Kind) (cs : List Object) → has_own_kind k (map (reworked_object w) cs) ≡ has_own_kind k cs
  own-kind kind.Protected cs = ap (λ n. n == 1) (child-counts kind.Protected cs)
  own-kind kind.Sporadic cs = ap (λ n. nat_lt 0 n) (child-counts kind.Sporadic cs)
  own-kind kind.Cyclic cs = ap (λ n. nat_lt 0 n) (child-counts kind.Cyclic cs)
  own-kind kind.Passive cs = refl
  own-kind kind.Active cs = refl

  includes-same : (s : Standing) → breaks_includes (standing w s) ≡ breaks_includes s
  includes-same s =
      let made : Bool → Bool → Bool → Bool = λ a b c. not a && (b || not c) in
      ap₂ (λ a b. made a b (has_own_kind s.own.kind (map (reworked_object w) s.children))) (empty-same w s.children)
      (any-map (λ c. not (may_include s.own.kind c.kind)) (λ c. not (may_include s.own.kind c.kind)) (reworked_object w) s.children (λ c. refl))
      ∙ ap (made (is_terminal s) (list_any (λ c. not (may_include s.own.kind c.kind)) s.children)) (own-kind s.own.kind s.children)

  -- OPERATIONS

  operations-same : (s : Standing) → breaks_operations (standing w s) ≡ breaks_operations s
  operations-same s = by (is_empty s.children) (is_empty (map (reworked_object w) s.children)) (empty-same w s.children)
    where
      by : (a b : Bool) → b ≡ a → (breaks_table b (reworked_object w s.own) || list_any hands_out s.own.provides)
          ≡ (breaks_table a s.own || list_any hands_out s.own.provides)
      by true true e = refl
      by false false e = refl
      by true false e = cc
      by false true e = cc

  -- FITTINGS

  wanted-same : (o : Object) (p : Provided) → wanted_bodies (reworked_object w o) p ≡ wanted_bodies o p
  wanted-same o p = refl

  misfits-inner : (o : Object) → misfits_terminal (reworked_object w o) ≡ misfits_terminal o
  misfits-inner o =
      let made : Bool → Bool → Bool → Bool = λ a b t. a || b || (has_thread o.kind && not t) || (not (has_thread o.kind) && t)
      || (is_passive o.kind && not (is_empty o.vars)) || not (is_empty o.links) in
      ap₂ (λ a b. made a b (has_block (option_map (reworked_block (w o.name)) o.thread)))
      (any-each (λ p. not (body_count (reworked_object w o) p.sig.name == wanted_bodies (reworked_object w o) p))
      (λ p. not (body_count o p.sig.name == wanted_bodies o p)) o.provides
      (λ p. ap₂ (λ m n. not (m == n)) (counted-bodies o p.sig.name) (wanted-same o p)))
      (any-map (λ b. not (is_provided (provided_named b.name o.provides))) (λ b. not (is_provided (provided_named b.name o.provides)))
      (reworked_body (w o.name)) o.bodies (λ b. refl))
      ∙ ap (made (list_any (λ p. not (body_count o p.sig.name == wanted_bodies o p)) o.provides)
      (list_any (λ b. not (is_provided (provided_named b.name o.provides))) o.bodies)) (block-there (reworked_block (w o.name)) o.thread)

  child-op-same : (cs : List Object) (to : OpName) → child_operation (map (reworked_object w) cs) to ≡ child_operation cs to
  child-op-same cs to =
      ap (option_and_then (λ c. provided_named to.op c.provides))
      (find-map (λ c. same_name c.name to.object) (λ c. same_name c.name to.object) (reworked_object w) cs (λ c. refl))
      ∙ by (find (λ c. same_name c.name to.object) cs)
    where
      by : (c : Option Object) → option_and_then (λ c. provided_named to.op c.provides) (option_map (reworked_object w) c)
          ≡ option_and_then (λ c. provided_named to.op c.provides) c
      by None = refl
      by (Some c) = refl

  misfits-outer : (s : Standing) → misfits_parent (standing w s) ≡ misfits_parent s
  misfits-outer s =
      let o = s.own in
      let links : Bool = list_any (λ p. not (link_count o p.sig.name == 1)) o.provides in
      let made : Bool → Bool → Bool → Bool = λ t b l. t || not (is_empty o.vars) || not b || links || l in
      ap₂ (λ t b. made t b (list_any (λ l. not (is_link (standing w s) l)) o.links)) (block-there (reworked_block (w o.name)) o.thread)
      (bodies-empty (reworked_body (w o.name)) o.bodies)
      ∙ ap (made (has_block o.thread) (is_empty o.bodies))
      (any-each (λ l. not (is_link (standing w s) l)) (λ l. not (is_link s l)) o.links
      (λ l. ap (λ c. not (agrees (provided_named l.op o.provides) c)) (child-op-same s.children l.to)))

  misfits-same : (s : Standing) → misfits (is_terminal (standing w s)) (standing w s) ≡ misfits (is_terminal s) s
  misfits-same s = by (is_terminal (standing w s)) (is_terminal s) (empty-same w s.children)
    where
      by : (a b : Bool) → a ≡ b → misfits a (standing w s) ≡ misfits b s
      by true true e = misfits-inner s.own
      by false false e = misfits-outer s
      by true false e = cc
      by false true e = cc

  -- A DESIGN

  module _ (x : Design) where
    abbrev new : Design
    new = reworked_design w x

    pub objects-same : objects new ≡ map (standing w) (objects x)
    objects-same =
        ap (λ os. standings None os (reworked_tree w x.root)) (ap (λ o. o ∷ []) (own-same w x.root))
        ∙ standings-same w None (own_of x.root ∷ []) x.root

    pub clashes-same : clashes new ≡ clashes x
    clashes-same =
        ap (λ ms. clashes_after [] (mention Whole x.name ∷ ms))
        (ap (λ ss. flat_map object_mentions (enumerate_from 0 ss)) objects-same ∙ all-mentioned 0 (objects x))

    pub kept-same : kept_names new ≡ kept_names x
    kept-same =
        ap (λ ns. map V02 (filter (λ n. not (is_ada_name n)) (x.name ∷ ns)))
        (ap (λ ss. flat_map (λ s. object_names s.own) ss) objects-same
        ∙ flat_map-moved (λ s. object_names s.own) (λ s. object_names s.own) (standing w) (objects x) (λ s. object-named-same s.own))

    -- what is told of those objects that fail a test, by their names
    told-same : (told : Name → Broken) (test other : Standing → Bool) → ((s : Standing) → test (standing w s) ≡ other s)
        → filter_map (λ s. only_if (test s) (told s.own.name)) (objects new) ≡ filter_map (λ s. only_if (other s) (told s.own.name)) (objects x)
    told-same told test other same =
        ap (filter_map (λ s. only_if (test s) (told s.own.name))) objects-same
        ∙ filter_map-moved (λ s. only_if (test s) (told s.own.name)) (λ s. only_if (other s) (told s.own.name)) (standing w) (objects x)
        (λ s. ap (λ b. only_if b (told s.own.name)) (same s))

    pub bad-includes-same : bad_includes new ≡ bad_includes x
    bad-includes-same = told-same V03 breaks_includes breaks_includes includes-same

    pub bad-operations-same : bad_operations new ≡ bad_operations x
    bad-operations-same = told-same V04 breaks_operations breaks_operations operations-same

    pub bad-fittings-same : bad_fittings new ≡ bad_fittings x
    bad-fittings-same = told-same V05 (λ s. misfits (is_terminal s) s) (λ s. misfits (is_terminal s) s) misfits-same

    pub idle-same : idle_actives new ≡ idle_actives x
    idle-same =
        ap (filter_map (λ s. only_if (is_active s.own.kind) (V12 s.own.name))) (terminals-same w x)
        ∙ filter_map-moved (λ s. only_if (is_active s.own.kind) (V12 s.own.name)) (λ s. only_if (is_active s.own.kind) (V12 s.own.name))
        (standing w) (terminals x) (λ s. refl)

    -- USES

    pub operation-there : (name : OpName) → operation_named new name ≡ operation_named x name
    operation-there name =
        ap (λ ss. option_and_then (λ s. provided_named name.op s.own.provides) (find (λ s. same_name s.own.name name.object) ss)) objects-same
        ∙ ap (option_and_then (λ s. provided_named name.op s.own.provides))
        (find-standing (objects x)) ∙ by (object_named x name.object)
      where
        find-standing : (ss : List Standing) → find (λ s. same_name s.own.name name.object) (map (standing w) ss)
            ≡ option_map (standing w) (find (λ s. same_name s.own.name name.object) ss)
        find-standing ss = find-map (λ s. same_name s.own.name name.object) (λ s. same_name s.own.name name.object) (standing w) ss (λ s. refl)

        by : (s : Option Standing) → option_and_then (λ s. provided_named name.op s.own.provides) (option_map (standing w) s)
            ≡ option_and_then (λ s. provided_named name.op s.own.provides) s
        by None = refl
        by (Some s) = refl

    uncle-same : (p : Option Object) (name : Name) → is_uncle (option_map (reworked_object w) p) name ≡ is_uncle p name
    uncle-same None name = refl
    uncle-same (Some p) name = refl

    near-same : (s : Standing) (n : OpName) → is_near (standing w s) n ≡ is_near s n
    near-same s n =
        ap₂ (λ a b. (not (same_name s.own.name n.object) && a) || b)
        (any-map (λ o. same_name o.name n.object) (λ o. same_name o.name n.object) (reworked_object w) s.siblings (λ o. refl))
        (uncle-same s.parent n.object)

    needs-same : (told : Name → OpName → Broken) (test other : Standing → OpName → Bool)
        → ((s : Standing) (n : OpName) → test (standing w s) n ≡ other s n) → needs_that told test new ≡ needs_that told other x
    needs-same told test other same =
        ap (flat_map (λ s. map (told s.own.name) (filter (test s) s.own.needs))) objects-same
        ∙ flat_map-moved (λ s. map (told s.own.name) (filter (test s) s.own.needs)) (λ s. map (told s.own.name) (filter (other s) s.own.needs))
        (standing w) (objects x)
        (λ s. ap (map (told s.own.name)) (filter-each (test (standing w s)) (other s) s.own.needs (same s)))

    pub strangers-same : strangers new ≡ strangers x
    strangers-same = needs-same V06 (λ s n. not (is_near s n)) (λ s n. not (is_near s n)) (λ s n. ap not (near-same s n))

    pub absent-same : absent new ≡ absent x
    absent-same =
        needs-same V07 (λ s n. not (is_provided (operation_named new n))) (λ s n. not (is_provided (operation_named x n)))
        (λ s n. ap (λ p. not (is_provided p)) (operation-there n))

    pub forbidden-same : forbidden new ≡ forbidden x
    forbidden-same =
        needs-same V08 (λ s n. is_forbidden s.own.kind (operation_named new n)) (λ s n. is_forbidden s.own.kind (operation_named x n))
        (λ s n. ap (is_forbidden s.own.kind) (operation-there n))

    -- BODIES

    abbrev offer_by : OpName → Provided → Offer
    offer_by n p = record { object = n.object; sig = p.sig }

    offers-same : (o : Object) → offers new (reworked_object w o) ≡ offers x o
    offers-same o = offers-of o.needs
      where
        offers-of : (ns : List OpName) → filter_map (λ n. option_map (offer_by n) (operation_named new n)) ns
            ≡ filter_map (λ n. option_map (offer_by n) (operation_named x n)) ns
        offers-of [] = refl
        offers-of (n ∷ ns) = ap₂ cons_option (ap (option_map (offer_by n)) (operation-there n)) (offers-of ns)

    scope-same : (o : Object) (params : List Param) (locals : List Datum) → scope new (reworked_object w o) params locals ≡ scope x o params locals
    scope-same o params locals =
        ap (λ cs. let s : Scope = record {
          reads = map (λ d. d.name) o.vars ++ (map (λ q. q.name) params ++ map (λ d. d.name) locals);
          writes = map (λ d. d.name) o.vars ++ (out_names params ++ map (λ d. d.name) locals);
          calls = cs;
          in_loop = false;
        } in s) (offers-same o)

    body-faulty : (o : Object) (b : Body) → body_fault new (reworked_object w o) (reworked_body (w o.name) b) ≡ body_fault x o b
    body-faulty o b =
        ap (option_map (V13 o.name (Some b.name)))
        (block-faults (w o.name) (scope new (reworked_object w o) (params_by (provided_named b.name o.provides)) b.locals) b.block
        ∙ ap (λ s. block_fault s b.block) (scope-same o (params_by (provided_named b.name o.provides)) b.locals))

    thread-faulty : (o : Object) (b : Option Statements)
        → filter_map (thread_fault new (reworked_object w o)) (option_to_list (option_map (reworked_block (w o.name)) b))
        ≡ filter_map (thread_fault x o) (option_to_list b)
    thread-faulty o None = refl
    thread-faulty o (Some b) =
        ap (λ f. cons_option (option_map (V13 o.name None) f) [])
        (block-faults (w o.name) (scope new (reworked_object w o) (request_params o.kind (request_op o.provides)) []) b
        ∙ ap (λ s. block_fault s b) (scope-same o (request_params o.kind (request_op o.provides)) []))

    pub bad-bodies-same : bad_bodies new ≡ bad_bodies x
    bad-bodies-same =
        ap (flat_map (λ s. filter_map (body_fault new s.own) s.own.bodies ++ filter_map (thread_fault new s.own) (option_to_list s.own.thread)))
        objects-same
        ∙ flat_map-moved (λ s. filter_map (body_fault new s.own) s.own.bodies ++ filter_map (thread_fault new s.own) (option_to_list s.own.thread))
        (λ s. filter_map (body_fault x s.own) s.own.bodies ++ filter_map (thread_fault x s.own) (option_to_list s.own.thread)) (standing w)
        (objects x)
        (λ s. ap₂ join (filter_map-moved (body_fault new (reworked_object w s.own)) (body_fault x s.own) (reworked_body (w s.own.name)) s.own.bodies
        (body-faulty s.own)) (thread-faulty s.own s.own.thread))
