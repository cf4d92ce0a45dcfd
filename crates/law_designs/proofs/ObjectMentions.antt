-- What an object of a design without clashes mentions, part by part: its operations with their parameters, its data, the locals and loops
-- of its bodies, the loops of its thread. So the names of a body differ, and from those of its object.
use Rattle.std.proofs.Common.{◌≡◌, ℕ, Bool, true, false, not, ◌&&◌, ◌||◌, List, [], ◌∷◌, ◌++◌, map, flat_map, length, Option, Some, refl, sym}
use Rattle.std.proofs.Common.{ap, subst, ◌∙◌, inl, inr, ◌⊎◌, filter}
use Rattle.std.specs.List.{enumerate_from}
use Rattle.std.proofs.lemmas.Bool.{and_from}
use Rattle.seq_tree.specs.Names.{Name, same_name, is_named, are_distinct}
use Rattle.seq_tree.specs.Statements.{Statements}
use Rattle.seq_tree.specs.declared.tree.Param.{Param}
use Rattle.seq_tree.specs.declared.tree.Datum.{Datum}
use Rattle.ods_tree.specs.Designs.{Provided, Body, Design}
use Rattle.ods_tree.specs.Walk.{Standing}
use Rattle.ods_tree.specs.Links.{resolved}
use Rattle.ods_tree.specs.Flattening.{body_named, operation_by}
use Rattle.design_rules.specs.Broken.{V01}
use Rattle.design_rules.specs.Clashes.{Role, Member, Parameter, Local, Loop, Mention, excludes, mention, block_loops, is_there, request_names}
use Rattle.design_rules.specs.Clashes.{is_request, has_block, is_bodied, operation_mentions, body_mentions, thread_mentions, is_taken}
use Rattle.design_rules.specs.Clashes.{clashes_after}
use Rattle.ada_tree.specs.Bodies.{op_body}
use Rattle.ada_tree.specs.Bodies as ada
use Rattle.law_designs.proofs.Shared.Lists.{from-map, placed, named-from, unnamed-from}
use Rattle.law_designs.proofs.Shared.ObjectNames.{free-head, later-free, rest-free, first-free, pair-free, inner_mentions, same-place}
use Rattle.law_designs.proofs.LoopNames.{loop}
use Rattle.law_lists.proofs.Shared.Facts.{same-is, same-self}
use Rattle.law_lists.proofs.Shared.Lists.{in-left, in-right, in-map, in-flat, filter-in, IsIn, found-in}

-- a part of what is mentioned, without clashes behind what comes before it
pub record FreePart (earlier ms : List Mention) : Type 0 where
  pub before : List Mention
  pub free : clashes_after before ms ≡ []
  pub keeps : (a : Mention) → IsIn a earlier → IsIn a before

part-free : {A : Type 0} (f : A → List Mention) (xs : List A) (earlier : List Mention) (a : A) → clashes_after earlier (flat_map f xs) ≡ []
    → IsIn a xs → FreePart earlier (f a)
part-free f [] earlier a e h = absurd h
part-free {A} f (x ∷ xs) earlier a e (inl s) =
    let P : A → Type 0 = λ z. clashes_after earlier (f z) ≡ [] in
    record { before = earlier; free = subst P s (first-free (f x) (flat_map f xs) earlier e); keeps = λ b h. h }
part-free f (x ∷ xs) earlier a e (inr h) =
    let r = rest-free (f x) (flat_map f xs) earlier e in
    let q = part-free f xs r.0 a r.1 h in
    record { before = q.before; free = q.free; keeps = λ b j. q.keeps b (r.2 b (inr j)) }

-- names of one role that excludes itself differ
role-distinct : {A : Type 0} (r : Role) (key : A → Name) (xs : List A) (earlier : List Mention) → excludes r r ≡ true
    → clashes_after earlier (map (λ a. mention r (key a)) xs) ≡ [] → are_distinct (map key xs) ≡ true
role-distinct r key [] earlier x e = refl
role-distinct r key (a ∷ as') earlier x e =
    let p = free-head (is_taken earlier (mention r (key a))) (V01 (key a))
    (clashes_after (mention r (key a) ∷ earlier) (map (λ b. mention r (key b)) as')) e in
    let fresh : is_named (map key as') (key a) ≡ false =
    unnamed-from (map key as') (key a) (λ h.
    let q = from-map key as' (key a) h in
    later-free (mention r (key a) ∷ earlier) (map (λ b. mention r (key b)) as') (mention r (key a)) (mention r (key q.0)) p.1 (inl refl)
    (in-map (λ b. mention r (key b)) q.0 as' q.1) x q.2) in
    ap (λ b. not b && are_distinct (map key as')) fresh ∙ role-distinct r key as' (mention r (key a) ∷ earlier) x p.1

-- a body of a unit by what its object has: the body of an operation, a thread, or the thread of a request
pub data BodyFrom (x : Design) (s : Standing) (b : ada.Body) : Type 0 where
  OfOperation : (p : Provided) (c : Body) → IsIn p s.own.provides → body_named p.sig.name s.own.bodies ≡ Some c → b ≡ op_body (operation_by x p.sig c)
      → BodyFrom x s b
  OfThread : (block : Statements) → s.own.thread ≡ Some block → b ≡ record { params = []; locals = []; block = resolved x block } → BodyFrom x s b
  OfRequest : (p : Provided) (block : Statements) → IsIn p s.own.provides → is_bodied s.own p ≡ true → is_request s.own p ≡ true
      → s.own.thread ≡ Some block → b ≡ record { params = p.sig.params; locals = []; block = resolved x block } → BodyFrom x s b

module _ (x : Design) (s : Standing) (k : ℕ) where
  abbrev pub op-part : List Mention
  op-part = flat_map (operation_mentions k s.own) s.own.provides

  abbrev pub var-part : List Mention
  var-part = map (λ d. mention (Member k) d.name) s.own.vars

  abbrev pub body-part : List Mention
  body-part = flat_map (body_mentions k) (enumerate_from 0 s.own.bodies)

  abbrev pub thread-part : List Mention
  thread-part = thread_mentions k s.own s.own.thread

  -- a member of the object: an operation or a datum
  pub data IsMember (n : Name) : Type 0 where
    OfOp : IsIn (mention (Member k) n) op-part → IsMember n
    OfVar : IsIn (mention (Member k) n) var-part → IsMember n

  pub op-member : (p : Provided) → IsIn p s.own.provides → IsIn (mention (Member k) p.sig.name) op-part
  op-member p h = in-flat (operation_mentions k s.own) p (mention (Member k) p.sig.name) s.own.provides h (inl refl)

  pub var-member : (d : Datum) → IsIn d s.own.vars → IsIn (mention (Member k) d.name) var-part
  var-member d h = in-map (λ (z : Datum). mention (Member k) z.name) d s.own.vars h

  pub member-inside : (n : Name) → IsMember n → IsIn (mention (Member k) n) (inner_mentions (k, s))
  member-inside n (OfOp h) = in-left (mention (Member k) n) op-part (var-part ++ (body-part ++ thread-part)) h
  member-inside n (OfVar h) = in-right (mention (Member k) n) op-part (var-part ++ (body-part ++ thread-part))
      (in-left (mention (Member k) n) var-part (body-part ++ thread-part) h)

  -- the names of a body of a unit: mentioned in the object, each list without a name twice, and its loops without a clash behind all others
  pub record BodyNames (b : ada.Body) : Type 0 where
    pub index : ℕ
    pub op : Name
    pub ops : List Name
    pub block : Statements
    pub made : b.block ≡ resolved x block
    pub params_differ : are_distinct (map (λ q. q.name) b.params) ≡ true
    pub locals_differ : are_distinct (map (λ d. d.name) b.locals) ≡ true
    pub param : (q : Param) → IsIn q b.params → IsIn (mention (Parameter k op true) q.name) op-part
    pub named : (q : Param) → IsIn q b.params → is_named ops op ≡ true
    pub local : (d : Datum) → IsIn d b.locals → IsIn (mention (Local k index op) d.name) body-part
    pub loops : (m : Mention) → IsIn m (block_loops (loop (Loop k index ops)) [] block) → IsIn m (body-part ++ thread-part)
    pub before : List Mention
    pub free : clashes_after before (block_loops (loop (Loop k index ops)) [] block) ≡ []
    pub op_before : (m : Mention) → IsIn m op-part → IsIn m before
    pub var_before : (m : Mention) → IsIn m var-part → IsIn m before
    pub local_before : (d : Datum) → IsIn d b.locals → IsIn (mention (Local k index op) d.name) before

  module _ (earlier : List Mention) (free : clashes_after earlier (inner_mentions (k, s)) ≡ []) where
    op-free : clashes_after earlier op-part ≡ []
    op-free = first-free op-part (var-part ++ (body-part ++ thread-part)) earlier free

    behind-ops : (before : List Mention) × (clashes_after before (var-part ++ (body-part ++ thread-part)) ≡ [])
        × ((a : Mention) → IsIn a op-part ⊎ IsIn a earlier → IsIn a before)
    behind-ops = rest-free op-part (var-part ++ (body-part ++ thread-part)) earlier free

    behind-vars : (before : List Mention) × (clashes_after before (body-part ++ thread-part) ≡ [])
        × ((a : Mention) → IsIn a var-part ⊎ IsIn a behind-ops.0 → IsIn a before)
    behind-vars = rest-free var-part (body-part ++ thread-part) behind-ops.0 behind-ops.1

    behind-bodies : (before : List Mention) × (clashes_after before thread-part ≡ [])
        × ((a : Mention) → IsIn a body-part ⊎ IsIn a behind-vars.0 → IsIn a before)
    behind-bodies = rest-free body-part thread-part behind-vars.0 behind-vars.1

    op-earlier : (m : Mention) → IsIn m op-part → IsIn m behind-vars.0
    op-earlier m h = behind-vars.2 m (inr (behind-ops.2 m (inl h)))

    var-earlier : (m : Mention) → IsIn m var-part → IsIn m behind-vars.0
    var-earlier m h = behind-vars.2 m (inl h)

    pub vars-differ : are_distinct (map (λ (d : Datum). d.name) s.own.vars) ≡ true
    vars-differ = role-distinct (Member k) (λ (d : Datum). d.name) s.own.vars behind-ops.0 (same-place k)
        (first-free var-part (body-part ++ thread-part) behind-ops.0 behind-ops.1)

    -- no datum has the name of an operation
    pub op-var-apart : (n : Name) → IsIn (mention (Member k) n) op-part → IsIn (mention (Member k) n) var-part → ⊥
    op-var-apart n h j =
        later-free behind-ops.0 (var-part ++ (body-part ++ thread-part)) (mention (Member k) n) (mention (Member k) n) behind-ops.1
        (behind-ops.2 (mention (Member k) n) (inl h))
        (in-left (mention (Member k) n) var-part (body-part ++ thread-part) j) (same-place k) refl

    params-differ : (p : Provided) → IsIn p s.own.provides → is_bodied s.own p ≡ true → are_distinct (map (λ (q : Param). q.name) p.sig.params) ≡ true
    params-differ p h bodied =
        let r = part-free (operation_mentions k s.own) s.own.provides earlier p op-free h in
        let role : Role = Parameter k p.sig.name (is_bodied s.own p) in
        role-distinct role (λ (q : Param). q.name) p.sig.params (mention (Member k) p.sig.name ∷ r.before)
        (and_from _ _ (and_from _ _ (same-place k) bodied) (same-self p.sig.name))
        (free-head (is_taken r.before (mention (Member k) p.sig.name)) (V01 p.sig.name) _ r.free).1

    param-said : (p : Provided) (op : Name) → IsIn p s.own.provides → is_bodied s.own p ≡ true → p.sig.name ≡ op → (q : Param) → IsIn q p.sig.params
        → IsIn (mention (Parameter k op true) q.name) op-part
    param-said p op h bodied name q j =
        let P : Bool → Type 0 = λ t. IsIn (mention (Parameter k p.sig.name t) q.name) op-part in
        let Q : Name → Type 0 = λ n. IsIn (mention (Parameter k n true) q.name) op-part in
        subst Q name (subst P bodied (in-flat (operation_mentions k s.own) p (mention (Parameter k p.sig.name (is_bodied s.own p)) q.name)
        s.own.provides h
        (inr (in-map (λ (z : Param). mention (Parameter k p.sig.name (is_bodied s.own p)) z.name) q p.sig.params j))))

    -- the names of an operation's body
    operation-names : (p : Provided) (c : Body) → IsIn p s.own.provides → body_named p.sig.name s.own.bodies ≡ Some c
        → BodyNames (op_body (operation_by x p.sig c))
    operation-names p c h named =
        let at = found-in (λ z. same_name z.name p.sig.name) s.own.bodies c named in
        let i = placed 0 s.own.bodies c at.0 in
        let role : Role = Local k i.0 c.name in
        let locals : List Mention = map (λ (d : Datum). mention (Local k i.0 c.name) d.name) c.locals in
        let loops : List Mention = block_loops (loop (Loop k i.0 (c.name ∷ []))) [] c.block in
        let r = part-free (body_mentions k) (enumerate_from 0 s.own.bodies) behind-vars.0 (i.0, c)
        (first-free body-part thread-part behind-vars.0 behind-vars.1) i.1 in
        let w = rest-free locals loops r.before r.free in
        let bodied : is_bodied s.own p ≡ true = ap (λ o. is_there o || (is_request s.own p && has_block s.own.thread)) named in
        record {
          index = i.0;
          op = c.name;
          ops = c.name ∷ [];
          block = c.block;
          made = refl;
          params_differ = params-differ p h bodied;
          locals_differ = role-distinct role (λ (d : Datum). d.name) c.locals r.before (and_from _ _ (same-place k)
              (same-place i.0)) (first-free locals loops r.before r.free);
          param = param-said p c.name h bodied (sym (same-is c.name p.sig.name at.1));
          named = λ q j. ap (λ t. t || false) (same-self c.name);
          local = λ d j. in-flat (body_mentions k) (i.0, c) (mention (Local k i.0 c.name) d.name) (enumerate_from 0 s.own.bodies) i.1
              (in-left (mention (Local k i.0 c.name) d.name) locals loops (in-map (λ (z : Datum). mention (Local k i.0 c.name) z.name) d c.locals j));
          loops = λ m j. in-left m body-part thread-part (in-flat (body_mentions k) (i.0, c) m (enumerate_from 0 s.own.bodies) i.1
              (in-right m locals loops j));
          before = w.0;
          free = w.1;
          op_before = λ m j. w.2 m (inr (r.keeps m (op-earlier m j)));
          var_before = λ m j. w.2 m (inr (r.keeps m (var-earlier m j)));
          local_before = λ d j. w.2 (mention (Local k i.0 c.name) d.name) (inl
              (in-map (λ (z : Datum). mention (Local k i.0 c.name) z.name) d c.locals j));
        }

    -- the names of a thread
    thread-names : (params : List Param) (op : Name) (block : Statements) → s.own.thread ≡ Some block
        → are_distinct (map (λ (q : Param). q.name) params) ≡ true
        → ((q : Param) → IsIn q params → IsIn (mention (Parameter k op true) q.name) op-part)
        → ((q : Param) → IsIn q params → is_named (request_names s.own) op ≡ true)
        → BodyNames (record { params = params; locals = []; block = resolved x block })
    thread-names params op block runs differ said named =
        let P : Option Statements → Type 0 = λ t. clashes_after behind-bodies.0 (thread_mentions k s.own t) ≡ [] in
        let Q : Option Statements → Type 0 = λ t. (m : Mention) → IsIn m (thread_mentions k s.own t) → IsIn m (body-part ++ thread-part) in
        record {
          index = length s.own.bodies;
          op = op;
          ops = request_names s.own;
          block = block;
          made = refl;
          params_differ = differ;
          locals_differ = refl;
          param = said;
          named = named;
          local = λ d j. absurd j;
          loops = subst Q runs (λ m j. in-right m body-part thread-part j);
          before = behind-bodies.0;
          free = subst P runs behind-bodies.1;
          op_before = λ m j. behind-bodies.2 m (inr (op-earlier m j));
          var_before = λ m j. behind-bodies.2 m (inr (var-earlier m j));
          local_before = λ d j. absurd j;
        }

    pub body-names : (b : ada.Body) → BodyFrom x s b → BodyNames b
    body-names b (OfOperation p c h named made) = subst BodyNames (sym made) (operation-names p c h named)
    body-names b (OfThread block runs made) = subst BodyNames (sym made) (thread-names [] [] block runs refl (λ q j. absurd j) (λ q j. absurd j))
    body-names b (OfRequest p block h bodied request runs made) =
        subst BodyNames (sym made) (thread-names p.sig.params p.sig.name block runs (params-differ p h bodied) (param-said p p.sig.name h bodied refl)
        (λ q j. named-from (request_names s.own) p.sig.name (in-map (λ (z : Provided). z.sig.name) p (filter (is_request s.own) s.own.provides)
        (filter-in (is_request s.own) p s.own.provides h request))))

    -- no parameter or local has the name of a member, and no local that of a parameter
    pub member-param-apart : (op n : Name) → IsMember n → IsIn (mention (Parameter k op true) n) op-part → ⊥
    member-param-apart op n h j =
        pair-free earlier (inner_mentions (k, s)) (mention (Member k) n) (mention (Parameter k op true) n) free (member-inside n h)
        (in-left (mention (Parameter k op true) n) op-part (var-part ++ (body-part ++ thread-part)) j)
        (and_from _ _ (same-place k) refl) (and_from _ _ (same-place k) refl) (λ e. let z : Member k ≡ Parameter k op true
        = ap (λ (m : Mention). m.role) e in cc) refl

    pub member-local-apart : (index : ℕ) (op n : Name) → IsMember n → IsIn (mention (Local k index op) n) body-part → ⊥
    member-local-apart index op n h j =
        later-free behind-vars.0 (body-part ++ thread-part) (mention (Member k) n) (mention (Local k index op) n) behind-vars.1 (by h)
        (in-left (mention (Local k index op) n) body-part thread-part j) (same-place k) refl
      where
        by : IsMember n → IsIn (mention (Member k) n) behind-vars.0
        by (OfOp i) = op-earlier (mention (Member k) n) i
        by (OfVar i) = var-earlier (mention (Member k) n) i

    pub param-local-apart : (index : ℕ) (op n : Name) → IsIn (mention (Parameter k op true) n) op-part
        → IsIn (mention (Local k index op) n) body-part → ⊥
    param-local-apart index op n h j =
        later-free behind-vars.0 (body-part ++ thread-part) (mention (Parameter k op true) n) (mention (Local k index op) n) behind-vars.1
        (op-earlier (mention (Parameter k op true) n) h)
        (in-left (mention (Local k index op) n) body-part thread-part j) (and_from _ _ (same-place k) (same-self op)) refl
