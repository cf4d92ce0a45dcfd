-- What runs of a design whose `work` is changed is the flat design with its `work` so changed.
use Rattle.std.proofs.Common.{◌≡◌, ℕ, Bool, true, false, ◌==◌, List, [], ◌∷◌, ◌++◌, map, filter, refl, ap, ◌∙◌, sym, Option, Some, None, option_map}
use Rattle.std.proofs.Common.{arith}
use Rattle.std.specs.Prelude.{find, filter_map, option_and_then, unwrap_or, cond, if◌then◌else◌}
use Rattle.std.specs.List.{cons_option}
use Rattle.std.proofs.lemmas.List.{map-append}
use Rattle.seq_tree.specs.Limits.{tick_limit}
use Rattle.seq_tree.specs.Names.{Name, same_name}
use Rattle.seq_tree.specs.Statements.{Statement, Statements, Branches, Null, Assign, If, For, ExitWhen, Call, Work, Put, End, Then, Nothing}
use Rattle.seq_tree.specs.Statements.{Else, When}
use Rattle.seq_tree.specs.Operations.{Signature, Operation}
use Rattle.seq_tree.specs.declared.tree.OpName.{OpName}
use Rattle.ods_tree.specs.Attributes.{has_key, key_place, attribute, attribute_or}
use Rattle.ods_tree.specs.Designs.{Body, Object, Tree, Trees, Node, Empty, With, Design}
use Rattle.ods_tree.specs.Flats.{Library, Guarded, Timing, Cyclic, Sporadic, Thread, Flat}
use Rattle.ods_tree.specs.Flattening.{body_named, operation_by, operations, request_op, timing_by, thread_at, thread_by, is_passive, is_protected}
use Rattle.ods_tree.specs.Flattening.{libraries, guarded, threads, flat}
use Rattle.ods_tree.specs.Links.{first_of, link_for, tree_named, inner_named, terminal_op, child_op, resolve, renamed_statement, renamed}
use Rattle.ods_tree.specs.Links.{renamed_branches}
use Rattle.ods_tree.specs.Links.{resolved}
use Rattle.ods_tree.specs.Walk.{Standing, own_of, roots, standings, inner_standings, objects, is_empty, is_terminal, terminals}
use Rattle.ods_tree.specs.declared.design.Attr.{Attr}
use Rattle.ods_tree.specs.declared.design.AttrKey.{AttrKey}
use Rattle.ods_tree.specs.declared.design.AttrKey.TheVariants.{Period, Offset, Separation, Deadline, ThreadBudget, ArrivalJitter}
use Rattle.ods_tree.specs.declared.design.Kind.{Kind}
use Rattle.ods_tree.specs.declared.design.Kind.TheVariants as kind
use Rattle.law_scaling.specs.Working.{reworked_statement, reworked_block, reworked_branches, reworked_op, reworked_library, reworked_guarded}
use Rattle.law_scaling.specs.Working.{reworked_thread, reworked}
use Rattle.law_scaling.specs.Designs.{freed, reworked_body, reworked_object, reworked_tree, reworked_trees, reworked_design}
pub use Rattle.law_scaling.proofs.Services.{find-map}

-- calls are read as before
module _ (c : ℕ → ℕ) (m n : OpName → OpName) (same : (x : OpName) → m x ≡ n x) where
  mutual
    statement-renamed : (s : Statement) → renamed_statement m (reworked_statement c s) ≡ reworked_statement c (renamed_statement n s)
    statement-renamed Null = refl
    statement-renamed (Assign target v) = refl
    statement-renamed (If branches) = ap If (branches-renamed branches)
    statement-renamed (For name low high body) = ap (For name low high) (block-renamed body)
    statement-renamed (ExitWhen v) = refl
    statement-renamed (Call object op actuals) = ap (λ (x : OpName). Call x.object x.op actuals) (same (record { object = object; op = op }))
    statement-renamed (Work ticks) = refl
    statement-renamed (Put v) = refl

    block-renamed : (b : Statements) → renamed m (reworked_block c b) ≡ reworked_block c (renamed n b)
    block-renamed End = refl
    block-renamed (Then first rest) = ap (λ s. Then s (renamed m (reworked_block c rest))) (statement-renamed first)
        ∙ ap (Then (reworked_statement c (renamed_statement n first))) (block-renamed rest)

    branches-renamed : (b : Branches) → renamed_branches m (reworked_branches c b) ≡ reworked_branches c (renamed_branches n b)
    branches-renamed Nothing = refl
    branches-renamed (Else block) = ap Else (block-renamed block)
    branches-renamed (When v block others) = ap (λ s. When v s (renamed_branches m (reworked_branches c others))) (block-renamed block)
        ∙ ap (When v (reworked_block c (renamed n block))) (branches-renamed others)

pub filter-map : {A : Type 0} (p q : A → Bool) (g : A → A) (xs : List A) → ((x : A) → p (g x) ≡ q x) → filter p (map g xs) ≡ map g (filter q xs)
filter-map p q g [] same = refl
filter-map {A} p q g (x ∷ xs) same = rw (same x) (by (q x) (filter-map p q g xs same))
  where
    by : (b : Bool) → filter p (map g xs) ≡ map g (filter q xs)
        → cond b (g x ∷ filter p (map g xs)) (filter p (map g xs)) ≡ map g (cond b (x ∷ filter q xs) (filter q xs))
    by true rest = ap (λ z. g x ∷ z) rest
    by false rest = rest

pub filter_map-map : {A B : Type 0} (h k : A → Option B) (g : A → A) (t : B → B) (xs : List A) → ((x : A) → h (g x) ≡ option_map t (k x))
    → filter_map h (map g xs) ≡ map t (filter_map k xs)
filter_map-map h k g t [] same = refl
filter_map-map {A} {B} h k g t (x ∷ xs) same =
    ap (λ o. cons_option o (filter_map h (map g xs))) (same x) ∙ by (k x) (filter_map-map h k g t xs same)
  where
    by : (o : Option B) → filter_map h (map g xs) ≡ map t (filter_map k xs)
        → cons_option (option_map t o) (filter_map h (map g xs)) ≡ map t (cons_option o (filter_map k xs))
    by None rest = rest
    by (Some y) rest = ap (λ z. t y ∷ z) rest

filter_map-each : {A B : Type 0} (h k : A → Option B) (t : B → B) (xs : List A) → ((x : A) → h x ≡ option_map t (k x))
    → filter_map h xs ≡ map t (filter_map k xs)
filter_map-each h k t [] same = refl
filter_map-each {A} {B} h k t (x ∷ xs) same =
    ap (λ o. cons_option o (filter_map h xs)) (same x) ∙ by (k x) (filter_map-each h k t xs same)
  where
    by : (o : Option B) → filter_map h xs ≡ map t (filter_map k xs)
        → cons_option (option_map t o) (filter_map h xs) ≡ map t (cons_option o (filter_map k xs))
    by None rest = rest
    by (Some y) rest = ap (λ z. t y ∷ z) rest

-- keys stay
pub key-same : (key : AttrKey) (a : Attr) → has_key key (freed a) ≡ has_key key a
key-same key a = by (has_key ThreadBudget a)
  where
    by : (b : Bool) → has_key key (if b then record { key = a.key; value = tick_limit; unit = None } else a) ≡ has_key key a
    by true = refl
    by false = refl

-- no attribute but a budget changes
module _ (key : AttrKey) (other : (key_place key == 4) ≡ false) where
  kept : (a : Attr) → has_key key a ≡ true → freed a ≡ a
  kept a h = let not_budget : has_key ThreadBudget a ≡ false = grind (arith, h, other) in rw not_budget refl

  found-same : (xs : List Attr) → find (has_key key) (map freed xs) ≡ find (has_key key) xs
  found-same [] = refl
  found-same (a ∷ xs) = rw (key-same key a) (by (has_key key a) refl (found-same xs))
    where
      by : (b : Bool) → has_key key a ≡ b → find (has_key key) (map freed xs) ≡ find (has_key key) xs
          → cond b (Some (freed a)) (find (has_key key) (map freed xs)) ≡ cond b (Some a) (find (has_key key) xs)
      by true h rest = ap (λ y. Some y) (kept a h)
      by false h rest = rest

  pub attribute-same : (w : Name → ℕ → ℕ) (o : Object) → attribute key (reworked_object w o) ≡ attribute key o
  attribute-same w o = ap (option_map (λ a. a.value)) (found-same o.attrs)

module _ (w : Name → ℕ → ℕ) where
  -- links lead where they led
  pub own-same : (t : Tree) → own_of (reworked_tree w t) ≡ reworked_object w (own_of t)
  own-same (Node own children) = refl

  first-of : (a b : Option Tree) → first_of (option_map (reworked_tree w) a) (option_map (reworked_tree w) b) ≡ option_map (reworked_tree w) (first_of a b)
  first-of None b = refl
  first-of (Some a) b = refl

  mutual
    tree-named : (name : Name) (t : Tree) → tree_named name (reworked_tree w t) ≡ option_map (reworked_tree w) (tree_named name t)
    tree-named name (Node own children) = by (same_name own.name name) (inner-named name children)
      where
        by : (b : Bool) → inner_named name (reworked_trees w children) ≡ option_map (reworked_tree w) (inner_named name children)
            → (if b then Some (Node (reworked_object w own) (reworked_trees w children)) else inner_named name (reworked_trees w children))
            ≡ option_map (reworked_tree w) (if b then Some (Node own children) else inner_named name children)
        by true rest = refl
        by false rest = rest

    inner-named : (name : Name) (ts : Trees) → inner_named name (reworked_trees w ts) ≡ option_map (reworked_tree w) (inner_named name ts)
    inner-named name Empty = refl
    inner-named name (With first rest) =
        ap (λ o. first_of o (inner_named name (reworked_trees w rest))) (tree-named name first)
        ∙ ap (first_of (option_map (reworked_tree w) (tree_named name first))) (inner-named name rest)
        ∙ first-of (tree_named name first) (inner_named name rest)

  mutual
    op-terminal : (t : Tree) (op : Name) → terminal_op (reworked_tree w t) op ≡ terminal_op t op
    op-terminal (Node own Empty) op = refl
    op-terminal (Node own (With first rest)) op = by (link_for op own.links) (child-terminal (With first rest))
      where
        by : (o : Option OpName) → ((to : OpName) → child_op (reworked_trees w (With first rest)) to ≡ child_op (With first rest) to)
            → option_and_then (child_op (reworked_trees w (With first rest))) o ≡ option_and_then (child_op (With first rest)) o
        by None h = refl
        by (Some to) h = h to

    child-terminal : (ts : Trees) (to : OpName) → child_op (reworked_trees w ts) to ≡ child_op ts to
    child-terminal Empty to = refl
    child-terminal (With first rest) to =
        ap (λ o. if same_name o.name to.object then terminal_op (reworked_tree w first) to.op else child_op (reworked_trees w rest) to) (own-same first)
        ∙ ap (λ z. if same_name (own_of first).name to.object then z else child_op (reworked_trees w rest) to) (op-terminal first to.op)
        ∙ ap (λ z. if same_name (own_of first).name to.object then terminal_op first to.op else z) (child-terminal rest to)

  module _ (x : Design) where
    abbrev new : Design
    new = reworked_design w x

    pub resolve-same : (n : OpName) → resolve new n ≡ resolve x n
    resolve-same n =
        ap (λ o. unwrap_or (option_and_then (λ t. terminal_op t n.op) o) n) (tree-named n.object x.root) ∙ by (tree_named n.object x.root)
      where
        by : (o : Option Tree) → unwrap_or (option_and_then (λ t. terminal_op t n.op) (option_map (reworked_tree w) o)) n
            ≡ unwrap_or (option_and_then (λ t. terminal_op t n.op) o) n
        by None = refl
        by (Some t) = ap (λ z. unwrap_or z n) (op-terminal t n.op)

    pub resolved-same : (c : ℕ → ℕ) (b : Statements) → resolved new (reworked_block c b) ≡ reworked_block c (resolved x b)
    resolved-same c b = block-renamed c (resolve new) (resolve x) resolve-same b

    -- operations and threads
    pub operation-same : (c : ℕ → ℕ) (sig : Signature) (b : Body) → operation_by new sig (reworked_body c b) ≡ reworked_op c (operation_by x sig b)
    operation-same c sig b =
        ap (λ (s : Statements). let o : Operation = record { sig = sig; locals = b.locals; block = s } in o) (resolved-same c b.block)

    operations-same : (o : Object) → operations new (reworked_object w o) ≡ map (reworked_op (w o.name)) (operations x o)
    operations-same o =
        filter_map-each (λ p. option_map (operation_by new p.sig) (body_named p.sig.name (map (reworked_body (w o.name)) o.bodies)))
        (λ p. option_map (operation_by x p.sig) (body_named p.sig.name o.bodies)) (reworked_op (w o.name)) o.provides
        (λ p. ap (option_map (operation_by new p.sig))
        (find-map (λ b. same_name b.name p.sig.name) (λ b. same_name b.name p.sig.name) (reworked_body (w o.name)) o.bodies (λ b. refl))
        ∙ by p.sig (body_named p.sig.name o.bodies))
      where
        by : (sig : Signature) (b : Option Body) → option_map (operation_by new sig) (option_map (reworked_body (w o.name)) b)
            ≡ option_map (reworked_op (w o.name)) (option_map (operation_by x sig) b)
        by sig None = refl
        by sig (Some b) = ap (λ y. Some y) (operation-same (w o.name) sig b)

    timing-same : (k : Kind) (o : Object) → timing_by k (reworked_object w o) ≡ timing_by k o
    timing-same kind.Cyclic o =
        ap (λ p. Some (Cyclic (unwrap_or p 0) (attribute_or 0 Offset (reworked_object w o)))) (attribute-same Period refl w o)
        ∙ ap (λ p. Some (Cyclic (attribute_or 0 Period o) (unwrap_or p 0))) (attribute-same Offset refl w o)
    timing-same kind.Sporadic o =
        ap (λ p. option_map (λ op. Sporadic op (unwrap_or p 0) (attribute ArrivalJitter (reworked_object w o))) (request_op o.provides))
        (attribute-same Separation refl w o)
        ∙ ap (λ p. option_map (λ op. Sporadic op (attribute_or 0 Separation o) p) (request_op o.provides)) (attribute-same ArrivalJitter refl w o)
    timing-same kind.Passive o = refl
    timing-same kind.Active o = refl
    timing-same kind.Protected o = refl

    at-same : (o : Object) (timing : Timing) (b : Statements) → thread_at new (reworked_object w o) timing (reworked_block (w o.name) b)
        ≡ reworked_thread w (thread_at x o timing b)
    at-same o timing b =
        ap (λ (d : ℕ). let t : Thread = record {
          name = o.name;
          timing = timing;
          deadline = d;
          vars = o.vars;
          block = resolved new (reworked_block (w o.name) b);
        } in t) (ap (λ d. unwrap_or d 0) (attribute-same Deadline refl w o))
        ∙ ap (λ (s : Statements). let t : Thread = record {
          name = o.name;
          timing = timing;
          deadline = attribute_or 0 Deadline o;
          vars = o.vars;
          block = s;
        } in t) (resolved-same (w o.name) b)

    thread-same : (o : Object) → thread_by new (reworked_object w o) ≡ option_map (reworked_thread w) (thread_by x o)
    thread-same o =
        ap (option_and_then (λ timing. option_map (thread_at new (reworked_object w o) timing) (option_map (reworked_block (w o.name)) o.thread)))
        (timing-same o.kind o)
        ∙ by (timing_by o.kind o) o.thread
      where
        by : (t : Option Timing) (b : Option Statements)
            → option_and_then (λ timing. option_map (thread_at new (reworked_object w o) timing) (option_map (reworked_block (w o.name)) b)) t
            ≡ option_map (reworked_thread w) (option_and_then (λ timing. option_map (thread_at x o timing) b) t)
        by None b = refl
        by (Some timing) None = refl
        by (Some timing) (Some b) = ap (λ y. Some y) (at-same o timing b)

  -- the objects of the tree
  abbrev pub standing : Standing → Standing
  standing s = record {
    own = reworked_object w s.own;
    parent = option_map (reworked_object w) s.parent;
    siblings = map (reworked_object w) s.siblings;
    children = map (reworked_object w) s.children;
  }

  pub roots-same : (ts : Trees) → roots (reworked_trees w ts) ≡ map (reworked_object w) (roots ts)
  roots-same Empty = refl
  roots-same (With first rest) = ap (λ o. o ∷ roots (reworked_trees w rest)) (own-same first) ∙ ap (λ z. reworked_object w (own_of first) ∷ z) (roots-same rest)

  mutual
    pub standings-same : (p : Option Object) (os : List Object) (t : Tree)
        → standings (option_map (reworked_object w) p) (map (reworked_object w) os) (reworked_tree w t) ≡ map standing (standings p os t)
    standings-same p os (Node own children) =
        let made : List Object → Standing = λ cs. record {
          own = reworked_object w own;
          parent = option_map (reworked_object w) p;
          siblings = map (reworked_object w) os;
          children = cs;
        } in
        ap (λ cs. made cs ∷ inner_standings (Some (reworked_object w own)) cs (reworked_trees w children)) (roots-same children)
        ∙ ap (λ z. made (map (reworked_object w) (roots children)) ∷ z) (inner-same (Some own) (roots children) children)

    inner-same : (p : Option Object) (os : List Object) (ts : Trees)
        → inner_standings (option_map (reworked_object w) p) (map (reworked_object w) os) (reworked_trees w ts) ≡ map standing (inner_standings p os ts)
    inner-same p os Empty = refl
    inner-same p os (With first rest) =
        ap (λ z. z ++ inner_standings (option_map (reworked_object w) p) (map (reworked_object w) os) (reworked_trees w rest)) (standings-same p os first)
        ∙ ap (λ z. map standing (standings p os first) ++ z) (inner-same p os rest)
        ∙ sym (map-append standing (standings p os first) (inner_standings p os rest))

  pub empty-same : (os : List Object) → is_empty (map (reworked_object w) os) ≡ is_empty os
  empty-same [] = refl
  empty-same (o ∷ os) = refl

  module _ (x : Design) where
    pub terminals-same : terminals (reworked_design w x) ≡ map standing (terminals x)
    terminals-same =
        ap (λ os. filter is_terminal (standings None os (reworked_tree w x.root))) (ap (λ o. o ∷ []) (own-same x.root))
        ∙ ap (filter is_terminal) (standings-same None (own_of x.root ∷ []) x.root)
        ∙ filter-map is_terminal is_terminal standing (objects x) (λ s. empty-same s.children)

    libraries-same : libraries (reworked_design w x) ≡ map (reworked_library w) (libraries x)
    libraries-same =
        let new = reworked_design w x in
        ap (filter_map (λ s. if is_passive s.own.kind then Some (record { name = s.own.name; ops = operations new s.own }) else None)) terminals-same
        ∙ filter_map-map (λ s. if is_passive s.own.kind then Some (record { name = s.own.name; ops = operations new s.own }) else None)
        (λ s. if is_passive s.own.kind then Some (record { name = s.own.name; ops = operations x s.own }) else None) standing (reworked_library w)
        (terminals x) (λ s. by s.own (is_passive s.own.kind))
      where
        by : (o : Object) (b : Bool)
            → (if b then Some (let l : Library = record { name = o.name; ops = operations (reworked_design w x) (reworked_object w o) } in l) else None)
            ≡ option_map (reworked_library w) (if b then Some (record { name = o.name; ops = operations x o }) else None)
        by o true = ap (λ (os : List Operation). let l : Library = record { name = o.name; ops = os } in Some l) (operations-same x o)
        by o false = refl

    guarded-same : guarded (reworked_design w x) ≡ map (reworked_guarded w) (guarded x)
    guarded-same =
        let new = reworked_design w x in
        ap
        (filter_map
        (λ s. if is_protected s.own.kind then Some (record { name = s.own.name; vars = s.own.vars; ops = operations new s.own }) else None))
        terminals-same
        ∙ filter_map-map
        (λ s. if is_protected s.own.kind then Some (record { name = s.own.name; vars = s.own.vars; ops = operations new s.own }) else None)
        (λ s. if is_protected s.own.kind then Some (record { name = s.own.name; vars = s.own.vars; ops = operations x s.own }) else None)
        standing (reworked_guarded w) (terminals x) (λ s. by s.own (is_protected s.own.kind))
      where
        by : (o : Object) (b : Bool)
            → (if b then Some (let g : Guarded = record {
              name = o.name;
              vars = o.vars;
              ops = operations (reworked_design w x) (reworked_object w o);
            } in g) else None)
            ≡ option_map (reworked_guarded w) (if b then Some (record { name = o.name; vars = o.vars; ops = operations x o }) else None)
        by o true = ap (λ (os : List Operation). let g : Guarded = record { name = o.name; vars = o.vars; ops = os } in Some g) (operations-same x o)
        by o false = refl

    threads-same : threads (reworked_design w x) ≡ map (reworked_thread w) (threads x)
    threads-same =
        ap (filter_map (λ s. thread_by (reworked_design w x) s.own)) terminals-same
        ∙ filter_map-map (λ s. thread_by (reworked_design w x) s.own) (λ s. thread_by x s.own) standing (reworked_thread w) (terminals x)
        (λ s. thread-same x s.own)

    -- the flat design
    pub flat-same : flat (reworked_design w x) ≡ reworked w (flat x)
    flat-same =
        let made : List Library → List Guarded → List Thread → Flat =
        λ ls gs ts. record { name = x.name; costs = x.costs; passive = ls; shared = gs; threads = ts } in
        ap (λ ls. made ls (guarded (reworked_design w x)) (threads (reworked_design w x))) libraries-same
        ∙ ap (λ gs. made (map (reworked_library w) (libraries x)) gs (threads (reworked_design w x))) guarded-same
        ∙ ap (made (map (reworked_library w) (libraries x)) (map (reworked_guarded w) (guarded x))) threads-same
