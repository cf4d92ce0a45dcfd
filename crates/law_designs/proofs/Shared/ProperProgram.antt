-- The program of a design that is proper and meets the rules is proper as an Ada program.
use Rattle.std.proofs.Common.{◌≡◌, ℕ, suc, ◌≤◌, Bool, true, false, not, ◌&&◌, ◌||◌, ◌==◌, List, [], ◌∷◌, map, zip, flat_map, length, nat_le}
use Rattle.std.proofs.Common.{Option, Some, None, refl, sym, ap, subst, ◌∙◌, arith, inl, inr, ◌⊎◌}
use Rattle.std.specs.List.{list_any}
use Rattle.std.proofs.lemmas.Bool.{or_parts, and_parts, not-false, not-true}
use Rattle.seq_tree.specs.Lists.{Each}
use Rattle.seq_tree.specs.Names.{Name, same_name}
use Rattle.seq_tree.specs.Statements.{Statements}
use Rattle.seq_tree.specs.Operations.{Signature, Operation, is_out}
use Rattle.seq_tree.specs.Calls.{block_calls}
use Rattle.seq_tree.specs.Proper.{AreData, IsProperBlock, within_limits}
use Rattle.seq_tree.specs.declared.tree.Datum.{Datum}
use Rattle.seq_tree.specs.declared.tree.Param.{Param}
use Rattle.seq_tree.specs.declared.tree.Mode.{Mode}
use Rattle.seq_tree.specs.declared.tree.Mode.TheVariants.{In, Out}
use Rattle.seq_tree.specs.declared.tree.OpName.{OpName}
use Rattle.ods_tree.specs.Designs.{Provided, Body, Object, Tree, Trees, Node, Empty, With, Design}
use Rattle.ods_tree.specs.Walk.{Standing, roots, standings, inner_standings, objects, terminals, own_of}
use Rattle.ods_tree.specs.Links.{resolve, resolved}
use Rattle.ods_tree.specs.Words.{is_design_name}
use Rattle.ods_tree.specs.Flats.{Library, Guarded, Timing, Thread}
use Rattle.ods_tree.specs.Flattening.{operations, request_op, libraries, guarded, threads, flat, thread_at}
use Rattle.ods_tree.specs.declared.design.Kind.{Kind}
use Rattle.ods_tree.specs.declared.design.Kind.TheVariants as kind
use Rattle.ods_tree.specs.declared.design.Constraint.{Constraint}
use Rattle.ods_tree.specs.declared.design.Constraint.TheVariants.{Aser, Hser, Pser, Paer}
use Rattle.ods_tree.specs.declared.design.VersionTwo.{VersionTwo}
use Rattle.ods_tree.specs.Proper.{IsProperObject, IsProperTree, AreProperTrees, IsProperThread, IsProperBody}
use Rattle.ada_tree.specs.Words.{is_ada_name}
use Rattle.ada_tree.specs.Programs.{Unit, Passive, Shared}
use Rattle.ada_tree.specs.Proper as ada
use Rattle.analysis.specs.Ceilings.{Ranks}
use Rattle.guarantee.specs.Programs.{thread_unit, thread_form, program_for}
use Rattle.design_rules.specs.Words.{block_names, op_names, provided_names, body_names, thread_names, link_names}
use Rattle.design_rules.specs.Operations.{may_provide, has_request, breaks_table, hands_out, is_one_way}
use Rattle.design_rules.specs.Rules.{AreMet}
use Rattle.law_designs.proofs.Shared.Lists.{in-cases}
use Rattle.law_designs.proofs.ProperBlocks.{proper-renamed}
use Rattle.law_designs.proofs.Shared.Flattened.{library-from, guarded-from, operation-from, ThreadFrom, thread-from, terminal-object, TimingOf}
use Rattle.law_designs.proofs.Shared.Flattened.{OfCyclic, OfSporadic, timing-of}
use Rattle.law_designs.proofs.Shared.ObjectRules.{names-stand, own-names-stand, operations-right}
use Rattle.law_designs.proofs.Shared.Served.{Meant, meant}
use Rattle.law_designs.proofs.Shared.Blocks.{Needed, AreNeeded, needed-call, body-needed, thread-needed, kept}
use Rattle.law_designs.proofs.Shared.Units.{UnitFrom, OfLibrary, OfGuarded, OfThread, unit-from, from-zip}
use Rattle.law_lists.proofs.Shared.Facts.{same-is}
use Rattle.law_lists.proofs.Shared.Lists.{in-left, in-right, in-map, in-flat, each-in, each-is, none-in, IsIn, found-in}

-- objects that are proper, each at some nesting
abbrev pub AreProper : Design → Type 0
AreProper x = (s : Standing) → IsIn s (objects x) → (version : Option VersionTwo) × (d : ℕ)
    × IsProperObject (within_limits is_design_name) version d s.own

mutual
  pub proper-tree : (v : Option VersionTwo) (d : ℕ) (parent : Option Object) (siblings : List Object) (t : Tree)
      → IsProperTree (within_limits is_design_name) v d t → (s : Standing)
      → IsIn s (standings parent siblings t) → (version : Option VersionTwo) × (e : ℕ) × IsProperObject (within_limits is_design_name) version e s.own
  proper-tree v d parent siblings (Node own children) p s (inl e)
      = (v, suc d, (let P : Standing → Type 0 = λ z. IsProperObject (within_limits is_design_name) v (suc d) z.own in subst P e p.0))
  proper-tree v d parent siblings (Node own children) p s (inr h) = proper-trees v (suc d) (Some own) (roots children) children p.1 s h

  proper-trees : (v : Option VersionTwo) (d : ℕ) (parent : Option Object) (siblings : List Object) (ts : Trees)
      → AreProperTrees (within_limits is_design_name) v d ts → (s : Standing)
      → IsIn s (inner_standings parent siblings ts) → (version : Option VersionTwo) × (e : ℕ)
      × IsProperObject (within_limits is_design_name) version e s.own
  proper-trees v d parent siblings Empty p s h = absurd h
  proper-trees v d parent siblings (With first rest) p s h =
      by (proper-tree v d parent siblings first p.0 s) (proper-trees v d parent siblings rest p.1 s)
      (in-cases (standings parent siblings first) (inner_standings parent siblings rest) s h)
    where
      by : (IsIn s (standings parent siblings first) → (version : Option VersionTwo) × (e : ℕ)
          × IsProperObject (within_limits is_design_name) version e s.own)
          → (IsIn s (inner_standings parent siblings rest) → (version : Option VersionTwo) × (e : ℕ)
          × IsProperObject (within_limits is_design_name) version e s.own)
          → IsIn s (standings parent siblings first) ⊎ IsIn s (inner_standings parent siblings rest)
          → (version : Option VersionTwo) × (e : ℕ) × IsProperObject (within_limits is_design_name) version e s.own
      by f g (inl k) = f k
      by f g (inr k) = g k

pub proper-objects : (x : Design) → IsProperTree (within_limits is_design_name) x.version 0 x.root → AreProper x
proper-objects x p s h = proper-tree x.version 0 None (own_of x.root ∷ []) x.root p s h

-- a request has no parameter or one that hands a value in
in-mode : (m : Mode) → is_out m ≡ false → m ≡ In
in-mode In e = refl
in-mode Out e = cc

request-of : (ps : List Param) → nat_le (length ps) 1 ≡ true → list_any (λ (q : Param). is_out q.mode) ps ≡ false → ada.IsRequest ps
request-of [] h k = tt
request-of (p ∷ []) h k = in-mode p.mode (or_parts (is_out p.mode) false k).0
request-of (p ∷ q ∷ ps) h k = absurd (many (length ps) h)
  where
    many : (n : ℕ) → nat_le (suc (suc n)) 1 ≡ true → ⊥
    many n e = grind arith

one-way : (c : Option Constraint) → may_provide kind.Sporadic c ≡ true → is_one_way c ≡ true
one-way None e = cc
one-way (Some Aser) e = refl
one-way (Some Hser) e = cc
one-way (Some Pser) e = cc
one-way (Some Paer) e = cc

module _ (written x : Design) (met : AreMet written x) (proper : AreProper x) where
  -- names of an object
  stands-name : (s : Standing) → IsIn s (objects x) → is_ada_name s.own.name ≡ true
  stands-name s h = own-names-stand written x met s s.own.name h (inl refl)

  stands-provided : (s : Standing) (p : Provided) (n : Name) → IsIn s (objects x) → IsIn p s.own.provides → IsIn n (provided_names p)
      → is_ada_name n ≡ true
  stands-provided s p n h j k = own-names-stand written x met s n h
      (inr (in-left n (flat_map provided_names s.own.provides) _ (in-flat provided_names p n s.own.provides j k)))

  stands-var : (s : Standing) (d : Datum) → IsIn s (objects x) → IsIn d s.own.vars → is_ada_name d.name ≡ true
  stands-var s d h j = own-names-stand written x met s d.name h
      (inr (in-right d.name (flat_map provided_names s.own.provides) _ (in-right d.name (flat_map op_names s.own.needs) _
      (in-left d.name (map (λ (e : Datum). e.name) s.own.vars) _ (in-map (λ (e : Datum). e.name) d s.own.vars j)))))

  stands-body : (s : Standing) (b : Body) (n : Name) → IsIn s (objects x) → IsIn b s.own.bodies → IsIn n (body_names b) → is_ada_name n ≡ true
  stands-body s b n h j k = own-names-stand written x met s n h
      (inr (in-right n (flat_map provided_names s.own.provides) _ (in-right n (flat_map op_names s.own.needs) _
      (in-right n (map (λ (e : Datum). e.name) s.own.vars) _ (in-left n (flat_map body_names s.own.bodies) _
      (in-flat body_names b n s.own.bodies j k))))))

  stands-thread : (s : Standing) (n : Name) → IsIn s (objects x) → IsIn n (thread_names s.own.thread) → is_ada_name n ≡ true
  stands-thread s n h k = own-names-stand written x met s n h
      (inr (in-right n (flat_map provided_names s.own.provides) _ (in-right n (flat_map op_names s.own.needs) _
      (in-right n (map (λ (e : Datum). e.name) s.own.vars) _ (in-right n (flat_map body_names s.own.bodies) _
      (in-left n (thread_names s.own.thread) (flat_map link_names s.own.links) k))))))

  -- the names of what is called
  meant-names : (o : Object) (b : Statements) → AreNeeded x o b → (c : OpName) → IsIn c (block_calls b)
      → (is_ada_name (resolve x c).object ≡ true) × (is_ada_name (resolve x c).op ≡ true)
  meant-names o b needed c h =
      let n : Needed x o c = needed-call x o b needed c h in
      let m : Meant x c n.provided = meant x (kept written x met) c n.provided n.there in
      let s = (terminal-object x m.standing m.stands).0 in
      let at = found-in (λ p. same_name p.sig.name (resolve x c).op) m.standing.own.provides m.provided m.provides in (
        ap is_ada_name m.object ∙ stands-name m.standing s,
        ap is_ada_name (sym (same-is m.provided.sig.name (resolve x c).op
            at.1)) ∙ stands-provided m.standing m.provided m.provided.sig.name s at.0 (inl refl),
      )

  operation-proper : (s : Standing) (e : Operation) → IsIn s (terminals x) → IsIn e (operations x s.own)
      → ada.IsProperOperation (within_limits is_ada_name) e
  operation-proper s e h j =
      let f = operation-from x s.own e j in
      let o = (terminal-object x s h).0 in
      let at = found-in (λ b. same_name b.name f.provided.sig.name) s.own.bodies f.body f.named in
      let p = proper s o in
      let block : IsProperBlock (within_limits is_design_name) p.1 f.body.block
      = (each-is (IsProperBody (within_limits is_design_name) p.1) s.own.bodies f.body p.2.bodies at.0).2 in
      let P : Operation → Type 0 = λ z. ada.IsProperOperation (within_limits is_ada_name) z in
      subst P (sym f.made) (
        stands-provided s f.provided f.provided.sig.name o f.provides (inl refl),
        each-in (λ (q : Param). is_ada_name q.name ≡ true) f.provided.sig.params (λ q i. stands-provided s f.provided q.name o f.provides
            (inr (in-map (λ (z : Param). z.name) q f.provided.sig.params i))),
        each-in (λ (d : Datum). is_ada_name d.name ≡ true) f.body.locals (λ d i.
            stands-body s f.body d.name o at.0 (inr (in-left d.name (map (λ (z : Datum). z.name) f.body.locals) (block_names f.body.block)
            (in-map (λ (z : Datum). z.name) d f.body.locals i)))),
        proper-renamed is_design_name is_ada_name (resolve x) p.1 0 (least p.1) f.body.block block
            (λ n i. stands-body s f.body n o at.0 (inr (in-right n (map (λ (z : Datum). z.name) f.body.locals) (block_names f.body.block) i)))
            (meant-names s.own f.body.block (body-needed written x met s f.body o at.0)),
      )
    where
      least : (n : ℕ) → 0 ≤ n
      least n = omega arith

  operations-proper : (s : Standing) → IsIn s (terminals x) → Each (ada.IsProperOperation (within_limits is_ada_name)) (operations x s.own)
  operations-proper s h = each-in (ada.IsProperOperation (within_limits is_ada_name)) (operations x s.own) (λ e j. operation-proper s e h j)

  vars-proper : (s : Standing) → IsIn s (terminals x) → AreData (within_limits is_ada_name) s.own.vars
  vars-proper s h = each-in (λ (d : Datum). is_ada_name d.name ≡ true) s.own.vars (λ d j. stands-var s d (terminal-object x s h).0 j)

  thread-block : (f : Standing) (b : Statements) → IsIn f (terminals x) → f.own.thread ≡ Some b
      → IsProperBlock (within_limits is_ada_name) 0 (resolved x b)
  thread-block s b h e =
      let o = (terminal-object x s h).0 in
      let p = proper s o in
      let P : Option Statements → Type 0 = λ t. IsProperThread (within_limits is_design_name) p.1 t in
      let Q : Option Statements → Name → Type 0 = λ t n. IsIn n (thread_names t) in
      proper-renamed is_design_name is_ada_name (resolve x) p.1 0 (least p.1) b (subst P e p.2.thread)
      (λ n i. stands-thread s n o (let R : Option Statements → Type 0 = λ t. IsIn n (thread_names t) in subst R (sym e) i))
      (meant-names s.own b (thread-needed written x met s b o e))
    where
      least : (n : ℕ) → 0 ≤ n
      least n = omega arith

  -- the request of a sporadic object
  request-proper : (s : Standing) (sig : Signature) → IsIn s (terminals x) → s.own.kind ≡ kind.Sporadic → request_op s.own.provides ≡ Some sig
      → (is_ada_name sig.name ≡ true) × ada.AreNamed (within_limits is_ada_name) sig.params × ada.IsRequest sig.params
  request-proper s sig h e k = by s.own.provides refl k
    where
      o : IsIn s (objects x)
      o = (terminal-object x s h).0

      whole : (breaks_table true s.own || list_any hands_out s.own.provides) ≡ false
      whole = let P : Bool → Type 0 = λ b. (breaks_table b s.own || list_any hands_out s.own.provides) ≡ false
          in subst P (terminal-object x s h).1 (operations-right written x met s o)

      table : (list_any (λ (p : Provided). not (may_provide s.own.kind p.constraint)) s.own.provides ≡ false)
          × (not (has_request s.own.kind s.own.provides) ≡ false)
      table = or_parts (list_any (λ (p : Provided). not (may_provide s.own.kind p.constraint)) s.own.provides)
          (not (has_request s.own.kind s.own.provides)) (or_parts (breaks_table true s.own) (list_any hands_out s.own.provides) whole).0

      first-of : (p : Provided) (ps : List Provided) → request_op (p ∷ ps) ≡ Some sig → p.sig ≡ sig
      first-of p ps q = (let z : Some p.sig ≡ Some sig = q in cc)

      at : (p : Provided) → IsIn p s.own.provides → p.sig ≡ sig → (is_ada_name sig.name ≡ true) × ada.AreNamed (within_limits is_ada_name) sig.params
          × ada.IsRequest sig.params
      at p j same =
          let P : Signature → Type 0 = λ z. (is_ada_name z.name ≡ true) × ada.AreNamed (within_limits is_ada_name) z.params
          × ada.IsRequest z.params in
          let K : Kind → Type 0 = λ z. has_request z s.own.provides ≡ true in
          let L : Kind → Type 0 = λ z. may_provide z p.constraint ≡ true in
          let request = and_parts (length s.own.provides == 1)
          (not (list_any (λ (q : Provided). not (nat_le (length q.sig.params) 1)) s.own.provides)) (subst K e (not-false _ table.1)) in
          let few : nat_le (length p.sig.params) 1 ≡ true
          = not-false _ (none-in (λ (q : Provided). not (nat_le (length q.sig.params) 1)) p s.own.provides (not-true _ request.1) j) in
          let allowed : may_provide s.own.kind p.constraint ≡ true
          = not-false _ (none-in (λ (q : Provided). not (may_provide s.own.kind q.constraint)) p s.own.provides table.0 j) in
          let hands : (is_one_way p.constraint && list_any (λ (q : Param). is_out q.mode) p.sig.params) ≡ false =
          none-in hands_out p s.own.provides (or_parts (breaks_table true s.own) (list_any hands_out s.own.provides) whole).1 j in
          let none : list_any (λ (q : Param). is_out q.mode) p.sig.params ≡ false
          = sym (ap (λ b. b && list_any (λ (q : Param). is_out q.mode) p.sig.params) (one-way p.constraint (subst L e allowed))) ∙ hands in
          subst P same (
            stands-provided s p p.sig.name o j (inl refl),
            each-in (λ (q : Param). is_ada_name q.name
                ≡ true) p.sig.params (λ q i. stands-provided s p q.name o j (inr (in-map (λ (z : Param). z.name) q p.sig.params i))),
            request-of p.sig.params few none,
          )

      by : (ps : List Provided) → s.own.provides ≡ ps → request_op ps ≡ Some sig → (is_ada_name sig.name ≡ true)
          × ada.AreNamed (within_limits is_ada_name) sig.params × ada.IsRequest sig.params
      by [] g q = (let z : None ≡ Some sig = q in cc)
      by (p ∷ ps) g q = let P : List Provided → Type 0 = λ z. IsIn p z in at p (subst P (sym g) (inl refl)) (first-of p ps q)

  library-proper : (l : Library) → IsIn l (libraries x) → ada.IsProperForm (within_limits is_ada_name) (Passive l.ops)
  library-proper l h =
      let s = library-from x l h in
      let P : List Operation → Type 0 = λ z. Each (ada.IsProperOperation (within_limits is_ada_name)) z in
      subst P (sym (ap (λ (k : Library). k.ops) s.3)) (operations-proper s.0 s.1)

  guarded-proper : (g : Guarded) (ceiling : ℕ) → IsIn g (guarded x) → ada.IsProperForm (within_limits is_ada_name) (Shared ceiling g.vars g.ops)
  guarded-proper g ceiling h =
      let s = guarded-from x g h in
      let P : Guarded → Type 0 = λ k. ada.IsProperForm (within_limits is_ada_name) (Shared ceiling k.vars k.ops) in
      subst P (sym s.3) (vars-proper s.0 s.1, operations-proper s.0 s.1)

  -- what the unit of a thread is
  abbrev IsFormed : ℕ → ℕ → Thread → Timing → Type 0
  IsFormed n m t u = ada.IsProperForm (within_limits is_ada_name) (thread_form n m u t)

  thread-formed : (n m : ℕ) (t : Thread) (f : ThreadFrom x t) → IsFormed n m (thread_at x f.standing.own f.timing f.block) f.timing
  thread-formed n m t f = kinds (timing-of f.standing.own f.timing f.timed)
    where
      P : Timing → Type 0
      P u = IsFormed n m (thread_at x f.standing.own f.timing f.block) u

      kinds : TimingOf f.standing.own f.timing → IsFormed n m (thread_at x f.standing.own f.timing f.block) f.timing
      kinds (OfCyclic e s) = subst P (sym s) (vars-proper f.standing f.stands, thread-block f.standing f.block f.stands f.runs)
      kinds (OfSporadic sig e g s) =
          let r = request-proper f.standing sig f.stands e g in
          subst P (sym s) (r.0, r.1, r.2, vars-proper f.standing f.stands, thread-block f.standing f.block f.stands f.runs)

  abbrev IsRightUnit : Unit → Type 0
  IsRightUnit u = (is_ada_name u.name ≡ true) × ada.IsProperForm (within_limits is_ada_name) u.form

  unit-proper : (r : Ranks) (u : Unit) → UnitFrom (flat x) r u → IsRightUnit u
  unit-proper r u (OfLibrary l j e) =
      let s = library-from x l j in
      subst IsRightUnit (sym e) (
        ap is_ada_name (ap (λ (k : Library). k.name) s.3) ∙ stands-name s.0 (terminal-object x s.0
            s.1).0,
        library-proper l j,
      )
  unit-proper r u (OfGuarded g ceiling j e) =
      let i = (from-zip (guarded x) r.shared (g, ceiling) j).0 in
      let s = guarded-from x g i in
      subst IsRightUnit (sym e) (
        ap is_ada_name (ap (λ (k : Guarded). k.name) s.3) ∙ stands-name s.0 (terminal-object x s.0
            s.1).0,
        guarded-proper g ceiling i,
      )
  unit-proper r u (OfThread t n j e) =
      let i = (from-zip (threads x) (zip r.threads r.obcs) (t, n) j).0 in
      let f = thread-from x t i in
      let P : Thread → Type 0 = λ v. IsRightUnit (thread_unit (v, n)) in
      subst IsRightUnit (sym e) (subst P (sym f.made) (stands-name f.standing (terminal-object x f.standing f.stands).0, thread-formed n.0 n.1 t f))

  -- the program is proper, whatever the priorities
  pub program-proper : (r : Ranks) → ada.IsProperProgram (within_limits is_ada_name) (program_for (flat x) r)
  program-proper r = (
    names-stand written x met x.name (inl refl),
    each-in IsRightUnit (program_for (flat x) r).units (λ u h.
        unit-proper r u (unit-from (flat x) r u h)),
  )
