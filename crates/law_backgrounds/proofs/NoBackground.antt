-- A design that meets the rules has no background objects, so that it is its own hard part.
use Rattle.std.specs.Prelude.{◌≡◌, ℕ, Bool, true, false, not, ◌&&◌, ◌||◌, ◌==◌, List, [], ◌∷◌, ◌++◌, map, filter, flat_map, slice_get, Option, Some}
use Rattle.std.specs.Prelude.{None, refl}
use Rattle.std.specs.Prelude.{option_and_then, if◌then◌else◌, zero, suc, ◌-◌, ◌≤◌, length, take, max, filter_map, position}
use Rattle.std.specs.List.{list_any, list_all, cons_option}
use Rattle.std.proofs.Common.{sym, ◌∙◌, ap, ap₂, subst, inl, inr, arith}
use Rattle.std.proofs.lemmas.Bool.{and_parts, or_parts, true≢false, not-false}
use Rattle.seq_tree.specs.Names.{same_name, is_named}
use Rattle.seq_tree.specs.Layout.{layout}
use Rattle.seq_tree.specs.Operations.{is_out}
use Rattle.seq_tree.specs.declared.tree.OpName.{OpName}
use Rattle.ods_tree.specs.Designs.{Provided, Object, Tree, Trees, Node, Empty, With, Design}
use Rattle.ods_tree.specs.Walk.{Standing, own_of, roots, standings, inner_standings, objects, terminals, is_terminal, is_empty, only_if}
use Rattle.ods_tree.specs.Links.{resolve}
use Rattle.ods_tree.specs.Ticks.{in_ticks, first_priority}
use Rattle.ods_tree.specs.Flats.{Cyclic, Thread, Flat}
use Rattle.ods_tree.specs.Flattening.{flat}
use Rattle.ods_tree.specs.Services.{flat_services}
use Rattle.analysis.specs.Starts.{can_request}
use Rattle.ada_tree.specs.Spelling.{program_lines}
use Rattle.rt_response.specs.declared.rows.Bound.{Bound}
use Rattle.analysis.specs.Ceilings.{Ranks, ranks, written_ranks}
use Rattle.analysis.specs.Priorities.{priorities_of}
use Rattle.analysis.specs.Tables.{table, downwards, row_at}
use Rattle.guarantee.specs.Programs.{program_for, program, head, stated_ranks, text}
use Rattle.ods_tree.specs.declared.design.Constraint.{Constraint}
use Rattle.ods_tree.specs.declared.design.Constraint.TheVariants.{Aser, Hser, Pser, Paer}
use Rattle.ods_tree.specs.declared.design.Kind.{Kind}
use Rattle.ods_tree.specs.declared.design.Kind.TheVariants as kind
use Rattle.design_rules.specs.Bodies.{is_active}
use Rattle.design_rules.specs.Clashes.{has_block, is_aser}
use Rattle.design_rules.specs.Lookups.{object_named, operation_named, provided_named}
use Rattle.design_rules.specs.Operations.{may_provide, breaks_table, has_request, hands_out}
use Rattle.design_rules.specs.Fittings.{constraint_place, same_params}
use Rattle.design_rules.specs.Rules as rule
use Rattle.design_rules.specs.Rules.{AreMet, MeetsRules}
use Rattle.design_rules.specs.Versions.{version_faults}
use Rattle.law_designs.proofs.Shared.Lists.{found-only, key-eq, from-map}
use Rattle.law_designs.proofs.Shared.Starting.{filter-none}
use Rattle.law_designs.proofs.Shared.TabledPrograms.{long}
use Rattle.law_designs.proofs.Shared.ObjectRules.{no-clash, operations-right}
use Rattle.law_designs.proofs.Shared.ObjectNames.{object-names, op-names}
use Rattle.law_designs.proofs.Shared.Resolving.{Ends, resolve-ends}
use Rattle.law_designs.proofs.Shared.Blocks.{kept}
use Rattle.law_lists.proofs.Shared.Facts.{same-self, same-is}
use Rattle.law_lists.proofs.Shared.Lists.{IsIn, in-left, in-right, found-in, none-in, filter-in}
use Rattle.background_designs.specs.Clients.{is_hser, is_client, is_server, clients, is_client_name}
use Rattle.background_designs.specs.Misfits.{A1, A2, A3, A4, A6, is_such, has_foreign_parent, misfit_actives, foreign_waits, foreign_servers}
use Rattle.background_designs.specs.Misfits.{background_requests, slow_threads, misfits, is_sporadic, requesting_clients}
use Rattle.background_designs.specs.Refusals.{IsBackgroundDesign, Version, Background, Hard, Requests}
use Rattle.background_designs.specs.Programs.{raised, background_text, hard_rows}
use Rattle.background_designs.specs.HardParts.{softened, soft_operation, soft_object, cyclic_client, protected_server, hard_object, hard_tree}
use Rattle.background_designs.specs.HardParts.{hard_trees, hard_part}
use Rattle.law_backgrounds.proofs.Shared.HardRanks.{length-downwards}

hser-is : (c : Option Constraint) → is_hser c ≡ true → c ≡ Some Hser
hser-is None h = cc
hser-is (Some Hser) h = refl
hser-is (Some Aser) h = cc
hser-is (Some Pser) h = cc
hser-is (Some Paer) h = cc

place-hser : (c d : Option Constraint) → c ≡ Some Hser → (constraint_place c == constraint_place d) ≡ true → d ≡ Some Hser
place-hser c d e h = by d (ap (λ z. constraint_place z == constraint_place d) (sym e) ∙ h)
  where
    by : (z : Option Constraint) → (constraint_place (Some Hser) == constraint_place z) ≡ true → z ≡ Some Hser
    by None k = cc
    by (Some Hser) k = refl
    by (Some Aser) k = cc
    by (Some Pser) k = cc
    by (Some Paer) k = cc

only-active : (k : Kind) → may_provide k (Some Hser) ≡ true → is_active k ≡ true
only-active kind.Active h = refl
only-active kind.Passive h = cc
only-active kind.Protected h = cc
only-active kind.Cyclic h = cc
only-active kind.Sporadic h = cc

module _ (written x : Design) (met : AreMet written x) where
  there : (s : Standing) (p : Provided) → IsIn s (objects x) → IsIn p s.own.provides
      → operation_named x (record { object = s.own.name; op = p.sig.name }) ≡ Some p
  there s p h j =
      ap (option_and_then (λ (z : Standing). provided_named p.sig.name z.own.provides))
      (found-only (λ (z : Standing). same_name z.own.name s.own.name) (objects x) s h (same-self s.own.name)
      (λ z k e. key-eq (λ (z : Standing). z.own.name) (objects x) (object-names x (no-clash written x met)) z s k h
      (same-is z.own.name s.own.name e)))
      ∙ found-only (λ (q : Provided). same_name q.sig.name p.sig.name) s.own.provides p j (same-self p.sig.name)
      (λ q k e. key-eq (λ (q : Provided). q.sig.name) s.own.provides (op-names x s (no-clash written x met) h) q p k j
      (same-is q.sig.name p.sig.name e))

  -- nothing that callers wait for is provided
  never-waits : (s : Standing) (p : Provided) → IsIn s (objects x) → IsIn p s.own.provides → is_hser p.constraint ≡ false
  never-waits s p h j = by (is_hser p.constraint) refl
    where
      by : (b : Bool) → is_hser p.constraint ≡ b → b ≡ false
      by false e = refl
      by true e =
          let n : OpName = record { object = s.own.name; op = p.sig.name } in
          let r : Ends (objects x) (resolve x n) p = resolve-ends x (kept written x met).fit n p (there s p h j) in
          let same = (and_parts (constraint_place p.constraint == constraint_place r.op.constraint)
          (same_params p.sig.params r.op.sig.params) r.agree).0 in
          let hard : r.op.constraint ≡ Some Hser = place-hser p.constraint r.op.constraint (hser-is p.constraint e) same in
          let among = (found-in (λ (q : Provided). same_name q.sig.name (resolve x n).op) r.standing.own.provides r.op r.provides).0 in
          let whole : (breaks_table true r.standing.own || list_any hands_out r.standing.own.provides) ≡ false =
          (let P : Bool → Type 0 = λ b. (breaks_table b r.standing.own || list_any hands_out r.standing.own.provides) ≡ false
          in subst P r.terminal (operations-right written x met r.standing r.stands)) in
          let table = or_parts (list_any (λ (q : Provided). not (may_provide r.standing.own.kind q.constraint)) r.standing.own.provides)
          (not (has_request r.standing.own.kind r.standing.own.provides))
          (or_parts (breaks_table true r.standing.own) (list_any hands_out r.standing.own.provides) whole).0 in
          let may : may_provide r.standing.own.kind r.op.constraint ≡ true =
          not-false _ (none-in (λ (q : Provided). not (may_provide r.standing.own.kind q.constraint)) r.op r.standing.own.provides table.0 among) in
          let active : is_active r.standing.own.kind ≡ true =
          only-active r.standing.own.kind (ap (may_provide r.standing.own.kind) (sym hard) ∙ may) in
          let idle = (kept written x met).idle r.standing (filter-in is_terminal r.standing (objects x) r.stands r.terminal) in
          absurd (true≢false (sym active ∙ idle))

  soft-op : (p : Provided) → is_hser p.constraint ≡ false → soft_operation p ≡ p
  soft-op p e = ap (λ c. let q : Provided = record { sig = p.sig; constraint = c } in q)
      (by (list_any (λ q. is_out q.mode) p.sig.params) p.constraint e)
    where
      by : (b : Bool) (c : Option Constraint) → is_hser c ≡ false → softened b c ≡ c
      by b None h = refl
      by b (Some Hser) h = cc
      by b (Some Aser) h = refl
      by b (Some Pser) h = refl
      by b (Some Paer) h = refl

  soft-ops : (ps : List Provided) → ((p : Provided) → IsIn p ps → is_hser p.constraint ≡ false) → map soft_operation ps ≡ ps
  soft-ops [] h = refl
  soft-ops (p ∷ ps) h = ap₂ (λ q qs. q ∷ qs) (soft-op p (h p (inl refl))) (soft-ops ps (λ q k. h q (inr k)))

  soft-same : (s : Standing) → IsIn s (objects x) → soft_object s.own ≡ s.own
  soft-same s h = ap (λ ps. record s.own { provides = ps }) (soft-ops s.own.provides (λ p k. never-waits s p h k))

  hard-same : (s : Standing) → IsIn s (objects x) → is_terminal s ≡ true → hard_object s.own ≡ s.own
  hard-same s h e =
      let idle = (kept written x met).idle s (filter-in is_terminal s (objects x) h e) in
      ap (λ b. if b then cyclic_client s.own else (if is_server s.own then protected_server s.own else soft_object s.own))
      (ap (λ b. b && (has_block s.own.thread && is_empty s.own.provides)) idle)
      ∙ ap (λ b. if b then protected_server s.own else soft_object s.own)
      (ap (λ b. b && (not (has_block s.own.thread) && (not (is_empty s.own.provides) && list_all (λ p. is_hser p.constraint) s.own.provides))) idle)
      ∙ soft-same s h

  mutual
    tree-same : (p : Option Object) (ss : List Object) (t : Tree) → ((s : Standing) → IsIn s (standings p ss t) → IsIn s (objects x))
        → hard_tree t ≡ t
    tree-same p ss (Node own Empty) h =
        let s : Standing = record { own = own; parent = p; siblings = ss; children = [] } in
        ap (λ o. Node o Empty) (hard-same s (h s (inl refl)) refl)
    tree-same p ss (Node own (With first rest)) h =
        let s : Standing = record { own = own; parent = p; siblings = ss; children = roots (With first rest) } in
        ap₂ Node (soft-same s (h s (inl refl))) (trees-same (Some own) (roots (With first rest)) (With first rest) (λ z k. h z (inr k)))

    trees-same : (p : Option Object) (ss : List Object) (ts : Trees) → ((s : Standing) → IsIn s (inner_standings p ss ts) → IsIn s (objects x))
        → hard_trees ts ≡ ts
    trees-same p ss Empty h = refl
    trees-same p ss (With first rest) h =
        ap₂ With (tree-same p ss first (λ z k. h z (in-left z (standings p ss first) (inner_standings p ss rest) k)))
        (trees-same p ss rest (λ z k. h z (in-right z (standings p ss first) (inner_standings p ss rest) k)))

  pub own-hard-part : hard_part x ≡ x
  own-hard-part = ap (λ t. record x { root = t }) (tree-same None (own_of x.root ∷ []) x.root (λ s h. h))

  no-clients : clients x ≡ []
  no-clients = filter-none is_client (map (λ (s : Standing). s.own) (terminals x)) (λ o h.
      let s = from-map (λ (s : Standing). s.own) (terminals x) o h in
      let idle = (kept written x met).idle s.0 s.1 in
      ap is_client s.2 ∙ ap (λ b. b && (has_block s.0.own.thread && is_empty s.0.own.provides)) idle)

  none-kept : {A B : Type 0} (f : A → Option B) (xs : List A) → ((a : A) → IsIn a xs → f a ≡ None) → filter_map f xs ≡ []
  none-kept f [] h = refl
  none-kept f (a ∷ xs) h = ap (λ o. cons_option o (filter_map f xs)) (h a (inl refl)) ∙ none-kept f xs (λ b k. h b (inr k))

  none-flat : {A B : Type 0} (f : A → List B) (xs : List A) → ((a : A) → IsIn a xs → f a ≡ []) → flat_map f xs ≡ []
  none-flat f [] h = refl
  none-flat f (a ∷ xs) h = ap (λ ys. ys ++ flat_map f xs) (h a (inl refl)) ∙ none-flat f xs (λ b k. h b (inr k))

  not-idle : (s : Standing) → IsIn s (terminals x) → is_active s.own.kind ≡ false
  not-idle s h = (kept written x met).idle s h

  no-misfit-actives : misfit_actives x ≡ []
  no-misfit-actives = none-kept _ (terminals x) (λ s h.
      ap (λ b. only_if (b && (not (is_client s.own || is_server s.own) || (not (is_empty s.own.attrs) || has_foreign_parent s.parent)))
      (A1 s.own.name))
      (not-idle s h))

  -- an operation that is named is one of an object
  never-named : (n : OpName) → is_such is_hser (operation_named x n) ≡ false
  never-named n = by (object_named x n.object) refl
    where
      by : (o : Option Standing) → object_named x n.object ≡ o
          → is_such is_hser (option_and_then (λ (s : Standing). provided_named n.op s.own.provides) o) ≡ false
      by None e = refl
      by (Some s) e = provided (provided_named n.op s.own.provides) refl
        where
          provided : (q : Option Provided) → provided_named n.op s.own.provides ≡ q → is_such is_hser q ≡ false
          provided None g = refl
          provided (Some p) g = never-waits s p (found-in (λ (z : Standing). same_name z.own.name n.object) (objects x) s e).0
              (found-in (λ (z : Provided). same_name z.sig.name n.op) s.own.provides p g).0

  no-foreign-waits : foreign_waits x ≡ []
  no-foreign-waits = none-flat _ (objects x) (λ s h.
      ap (map (A2 s.own.name)) (filter-none _ s.own.needs (λ n k. ap (λ b. not (is_active s.own.kind) && b) (never-named n) ∙ never (not
      (is_active s.own.kind)))))
    where
      never : (b : Bool) → (b && false) ≡ false
      never true = refl
      never false = refl

  no-foreign-servers : foreign_servers x ≡ []
  no-foreign-servers = none-kept _ (objects x) (λ s h.
      ap (λ b. only_if (not (is_active s.own.kind) && b) (A3 s.own.name)) (none-any s.own.provides (λ p k. never-waits s p h k))
      ∙ ap (λ b. only_if b (A3 s.own.name)) (never (not (is_active s.own.kind))))
    where
      never : (b : Bool) → (b && false) ≡ false
      never true = refl
      never false = refl

      none-any : (ps : List Provided) → ((p : Provided) → IsIn p ps → is_hser p.constraint ≡ false) → list_any (λ p. is_hser p.constraint) ps ≡ false
      none-any [] h = refl
      none-any (p ∷ ps) h = ap₂ (λ a b. a || b) (h p (inl refl)) (none-any ps (λ q k. h q (inr k)))

  no-background-requests : background_requests x ≡ []
  no-background-requests = none-flat _ (terminals x) (λ s h.
      ap (map (A4 s.own.name)) (filter-none _ s.own.needs (λ n k.
      ap (λ b. (b && (has_block s.own.thread && is_empty s.own.provides)
      || b && (not (has_block s.own.thread) && (not (is_empty s.own.provides) && list_all (λ p. is_hser p.constraint) s.own.provides)))
      && is_such is_aser (operation_named x n)) (not-idle s h))))

  -- nothing but a deadline of clients can be wrong with its background objects
  pub own-fitting : slow_threads x ≡ [] → misfits x ≡ []
  own-fitting quick =
      ap₂ (λ a b. a ++ b) no-misfit-actives (ap₂ (λ a b. a ++ b) no-foreign-waits
      (ap₂ (λ a b. a ++ b) no-foreign-servers (ap₂ (λ a b. a ++ b) no-background-requests quick)))

  pub own-calm : requesting_clients x ≡ []
  own-calm =
      ap (λ ts. flat_map (λ c. map (λ t. A6 c.name t.name)
      (filter (λ t. is_sporadic t.timing && can_request (flat_services (flat (hard_part x))) t.name c.block) (flat (hard_part x)).threads)) ts)
      (filter-none (λ (t : Thread). is_client_name x t.name) (flat (hard_part x)).threads
      (λ t h. ap (λ (cs : List Object). is_named (map (λ (o : Object). o.name) cs) t.name) no-clients))

-- a design that meets the rules passes all steps, where no thread has the deadline of clients
pub own-passes : (x : Design) → MeetsRules x → slow_threads (in_ticks x) ≡ [] → IsBackgroundDesign x
own-passes x met quick Version = none-first (version_faults x) (met rule.Version)
  where
    none-first : {A : Type 0} (as' : List A) → ((place : ℕ) (a : A) → slice_get as' place ≡ Some a → ⊥) → as' ≡ []
    none-first [] h = refl
    none-first (a ∷ as') h = absurd (h 0 a refl)
own-passes x met quick Background = own-fitting x (in_ticks x) met quick
own-passes x met quick Hard = subst (AreMet x) (sym (own-hard-part x (in_ticks x) met)) met
own-passes x met quick Requests = own-calm x (in_ticks x) met

-- the text by the hard part and the clients
abbrev restless_by : List Object → Thread → Thread
restless_by cs t = if is_named (map (λ o. o.name) cs) t.name then record t { timing = Cyclic 1 0 } else t

abbrev flat_by : Design → List Object → Flat
flat_by y cs = record (flat y) { threads = map (restless_by cs) (flat y).threads }

abbrev ranks_by : ℕ → Design → List Object → Ranks
ranks_by first y cs = written_ranks first (raised (length cs) (ranks (flat y)))

abbrev text_by : ℕ → Design → List Object → List Bound → List ℕ
text_by first y cs v =
    head (flat_by y cs) (ranks_by first y cs) (take (length (flat y).threads - length cs) (table (flat y)).places) v
    ++ layout (program_lines (program_for (flat_by y cs) (ranks_by first y cs)))

map-same : {A : Type 0} (f : A → A) (xs : List A) → ((x : A) → f x ≡ x) → map f xs ≡ xs
map-same f [] h = refl
map-same f (x ∷ xs) h = ap₂ (λ y ys. y ∷ ys) (h x) (map-same f xs h)

take-all : {A : Type 0} (k : ℕ) (xs : List A) → length xs ≤ k → take k xs ≡ xs
take-all zero [] h = refl
take-all zero (x ∷ xs) h = absurd (omega (arith, h))
take-all (suc k) [] h = refl
take-all (suc k) (x ∷ xs) h = ap (λ ys. x ∷ ys) (take-all k xs (omega (arith, h)))

few-made : {A B : Type 0} (f : A → Option B) (xs : List A) → length (filter_map f xs) ≤ length xs
few-made f [] = omega arith
few-made {A} {B} f (x ∷ xs) = by (f x) (few-made f xs)
  where
    by : (o : Option B) → length (filter_map f xs) ≤ length xs → length (cons_option o (filter_map f xs)) ≤ suc (length xs)
    by None h = omega (arith, h)
    by (Some b) h = omega (arith, h)

without-clients : (x : Design) (v : List Bound) → text_by (first_priority x) x [] v ≡ text x v
without-clients x v =
    ap (λ ts. let f : Flat = record (flat x) { threads = ts } in
    head f (ranks_by (first_priority x) x []) (take (length (flat x).threads - 0) (table (flat x)).places) v
    ++ layout (program_lines (program_for f (ranks_by (first_priority x) x [])))) (map-same (restless_by []) (flat x).threads (λ t. refl))
    ∙ ap (λ r. head (flat x) (written_ranks (first_priority x) r) (take (length (flat x).threads - 0) (table (flat x)).places) v
    ++ layout (program_lines (program_for (flat x) (written_ranks (first_priority x) r)))) (unraised (ranks (flat x)))
    ∙ ap (λ ps. head (flat x) (stated_ranks x) ps v ++ layout (program_lines (program x)))
    (take-all (length (flat x).threads - 0) (table (flat x)).places
    (let a = few-made (λ p. position (λ q. q == p) (priorities_of (flat x))) (downwards (length (priorities_of (flat x)))) in
    let b = length-downwards (length (priorities_of (flat x))) in let c = long (flat x) 1 in omega (arith, a, b, c)))
  where
    zero-most : (n : ℕ) → max 0 n ≡ n
    zero-most n = omega arith

    unraised : (r : Ranks) → raised 0 r ≡ r
    unraised r = λ i. record {
      threads = map-same (max 0) r.threads zero-most i;
      shared = map-same (max 0) r.shared zero-most i;
      obcs = map-same (max 0) r.obcs zero-most i;
    }

-- the text of a design without background objects is its own
pub own-text : (written x : Design) → AreMet written x → (v : List Bound) → background_text x v ≡ text x v
own-text written x met v =
    ap (λ y. text_by (first_priority y) y (clients x) v) (own-hard-part written x met)
    ∙ ap (λ cs. text_by (first_priority x) x cs v) (no-clients written x met) ∙ without-clients x v

-- and so are its rows
few-places : (x : Design) → length (table (flat x)).places ≤ length (flat x).threads
few-places x =
    let a = few-made (λ p. position (λ q. q == p) (priorities_of (flat x))) (downwards (length (priorities_of (flat x)))) in
    let b = length-downwards (length (priorities_of (flat x))) in let c = long (flat x) 1 in omega (arith, a, b, c)

pub own-rows : (written x : Design) → AreMet written x → hard_rows x ≡ (table (flat x)).rows
own-rows written x met =
    ap (λ y. take (length (flat y).threads - length (clients x)) (table (flat y)).rows) (own-hard-part written x met)
    ∙ ap (λ (cs : List Object). take (length (flat x).threads - length cs) (table (flat x)).rows) (no-clients written x met)
    ∙ take-all (length (flat x).threads - 0) (table (flat x)).rows
    (let a = few-made (row_at (flat x) (priorities_of (flat x))) (table (flat x)).places in let b = few-places x in omega (arith, a, b))
