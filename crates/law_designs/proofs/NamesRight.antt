-- No unit of the program breaks the rule of names.
use Rattle.std.proofs.Common.{◌≡◌, ℕ, suc, true, false, not, List, [], ◌∷◌, ◌++◌, map, flat_map, zip, take, length, slice_get, Some, refl, sym}
use Rattle.std.proofs.Common.{ap, subst, ◌∙◌, arith, inl, inr, ◌⊎◌}
use Rattle.std.proofs.lemmas.Simd.{map-map}
use Rattle.std.specs.List.{list_any}
use Rattle.std.proofs.lemmas.Bool.{or_from, and_from}
use Rattle.std.proofs.lemmas.List.{map-append}
use Rattle.seq_tree.specs.Names.{Name, same_name, is_named, are_distinct}
use Rattle.seq_tree.specs.Operations.{Signature}
use Rattle.seq_tree.specs.declared.tree.Param.{Param}
use Rattle.seq_tree.specs.declared.tree.Datum.{Datum}
use Rattle.ods_tree.specs.Designs.{Design}
use Rattle.ods_tree.specs.Walk.{Standing}
use Rattle.ods_tree.specs.Links.{resolve}
use Rattle.ods_tree.specs.Flats.{Library, Guarded, Thread, Flat}
use Rattle.ods_tree.specs.Flattening.{flat}
use Rattle.ods_tree.specs.Sound.{entry_names}
use Rattle.design_rules.specs.Clashes.{Role, Member, Parameter, Local, Loop, Mention, excludes, mention}
use Rattle.design_rules.specs.Rules.{AreMet}
use Rattle.ada_tree.specs.Programs.{Unit, Program}
use Rattle.ada_tree.specs.Bodies.{Body, bodies, data_of, heads}
use Rattle.ada_tree.specs.Naming.{block_loops, block_clashes, own_names, inner_names, body_clashes, breaks_naming}
use Rattle.ada_tree.specs.Naming as naming
use Rattle.analysis.specs.Ceilings.{Ranks}
use Rattle.guarantee.specs.Programs.{passive_unit, shared_unit, thread_unit, program_for}
use Rattle.law_designs.proofs.Shared.Lists.{in-cases, from-map, none-from, unnamed-from, distinct-append, in-take, key-fresh}
use Rattle.law_designs.proofs.Renaming.{block_loops-renamed, block_clashes-renamed}
use Rattle.law_designs.proofs.Shared.Flattened.{terminal-object}
use Rattle.law_designs.proofs.Shared.ObjectRules.{no-clash}
use Rattle.law_designs.proofs.Shared.ObjectNames.{inner_mentions, FreeInside, inside-free, same-place, design-name, flat-names}
use Rattle.law_designs.proofs.InnerNames.{IsInner, member-inner, parameter-inner, local-inner, loop-inner, inner-apart}
use Rattle.law_designs.proofs.LoopNames.{Covered, loops-free, loops-mentioned}
use Rattle.law_designs.proofs.Shared.Offers.{Fitting}
use Rattle.law_designs.proofs.CallsThere.{program-calls-there}
use Rattle.law_designs.proofs.ObjectMentions.{IsMember, OfOp, OfVar, op-member, var-member, member-inside, BodyNames, vars-differ}
use Rattle.law_designs.proofs.ObjectMentions.{op-var-apart, body-names, member-param-apart, member-local-apart, param-local-apart}
use Rattle.law_designs.proofs.ObjectMentions as part
use Rattle.law_designs.proofs.UnitObjects.{UnitObject, unit-object}
use Rattle.law_lists.proofs.Shared.Lists.{in-left, in-right, at-in, IsIn, in-some}

-- the names of units are those of the entries
guarded-names : (gs : List Guarded) (cs : List ℕ) → length cs ≡ length gs → map (λ (u : Unit). u.name) (map shared_unit (zip gs cs))
    ≡ map (λ (g : Guarded). g.name) gs
guarded-names [] cs h = refl
guarded-names (g ∷ gs) [] h = absurd (omega (arith, h))
guarded-names (g ∷ gs) (c ∷ cs) h = (let rest : length cs ≡ length gs = omega (arith, h) in ap (λ z. g.name ∷ z) (guarded-names gs cs rest))

thread-names : (ts : List Thread) (ps cs : List ℕ) → length ps ≡ length ts → length cs ≡ length ts
    → map (λ (u : Unit). u.name) (map thread_unit (zip ts (zip ps cs))) ≡ map (λ (t : Thread). t.name) ts
thread-names [] ps cs h k = refl
thread-names (t ∷ ts) [] cs h k = absurd (omega (arith, h))
thread-names (t ∷ ts) (p ∷ ps) [] h k = absurd (omega (arith, k))
thread-names (t ∷ ts) (p ∷ ps) (c ∷ cs) h k =
    let h' : length ps ≡ length ts = omega (arith, h) in
    let k' : length cs ≡ length ts = omega (arith, k) in ap (λ z. t.name ∷ z) (thread-names ts ps cs h' k')

unit-names : (f : Flat) (r : Ranks) → Fitting f r → map (λ (u : Unit). u.name) (program_for f r).units ≡ entry_names f
unit-names f r fit =
    let name : Unit → Name = λ u. u.name in
    let us : List Unit = map passive_unit f.passive in
    let vs : List Unit = map shared_unit (zip f.shared r.shared) in
    let ws : List Unit = map thread_unit (zip f.threads (zip r.threads r.obcs)) in
    map-append (λ (u : Unit). u.name) us (vs ++ ws) ∙ ap (λ z. z ++ map (λ (u : Unit). u.name) (vs ++ ws))
    (map-map (λ (u : Unit). u.name) passive_unit f.passive)
    ∙ ap (λ z. map (λ (l : Library). l.name) f.passive ++ z)
    (map-append (λ (u : Unit). u.name) vs ws ∙ ap (λ z. z ++ map (λ (u : Unit). u.name) ws) (guarded-names f.shared r.shared fit.shared)
    ∙ ap (λ z. map (λ (g : Guarded). g.name) f.shared ++ z) (thread-names f.threads r.threads r.obcs fit.threads fit.obcs))

-- a unit whose object has no clash inside
module _ (x : Design) (u : Unit) (q : UnitObject x u) (i : FreeInside x q.standing) where
  abbrev s : Standing
  s = q.standing

  abbrev k : ℕ
  k = i.place

  abbrev own : List Name
  own = own_names u.form

  op-own : (n : Name) → IsIn n (map (λ (h : Signature). h.name) (heads u.form)) → IsIn (mention (Member k) n) (part.op-part x s k)
  op-own n h =
      let a = from-map (λ (z : Signature). z.name) (heads u.form) n h in
      let p = q.op a.0 a.1 in
      let P : Name → Type 0 = λ m. IsIn (mention (Member k) m) (part.op-part x s k) in
      subst P (sym (a.2 ∙ ap (λ (z : Signature). z.name) p.2)) (op-member x s k p.0 p.1)

  var-own : (n : Name) → IsIn n (map (λ (d : Datum). d.name) (data_of u.form)) → IsIn (mention (Member k) n) (part.var-part x s k)
  var-own n h = by q.vars
    where
      by : (data_of u.form ≡ []) ⊎ (data_of u.form ≡ s.own.vars) → IsIn (mention (Member k) n) (part.var-part x s k)
      by (inl e) = let P : List Datum → Type 0 = λ z. IsIn n (map (λ (d : Datum). d.name) z) in absurd (subst P e h)
      by (inr e) =
          let Q : List Datum → Type 0 = λ z. IsIn n (map (λ (d : Datum). d.name) z) in
          let a = from-map (λ (d : Datum). d.name) s.own.vars n (subst Q e h) in
          let R : Name → Type 0 = λ m. IsIn (mention (Member k) m) (part.var-part x s k) in subst R (sym a.2) (var-member x s k a.0 a.1)

  vars-own : are_distinct (map (λ (d : Datum). d.name) (data_of u.form)) ≡ true
  vars-own = by q.vars
    where
      by : (data_of u.form ≡ []) ⊎ (data_of u.form ≡ s.own.vars) → are_distinct (map (λ (d : Datum). d.name) (data_of u.form)) ≡ true
      by (inl e) = ap (λ z. are_distinct (map (λ (d : Datum). d.name) z)) e
      by (inr e) = ap (λ z. are_distinct (map (λ (d : Datum). d.name) z)) e ∙ vars-differ x s k i.before i.free

  own-member : (n : Name) → IsIn n own → IsMember x s k n
  own-member n h = by (in-cases (map (λ (g : Signature). g.name) (heads u.form)) (map (λ (d : Datum). d.name) (data_of u.form)) n h)
    where
      by : IsIn n (map (λ (g : Signature). g.name) (heads u.form)) ⊎ IsIn n (map (λ (d : Datum). d.name) (data_of u.form)) → IsMember x s k n
      by (inl j) = OfOp (op-own n j)
      by (inr j) = OfVar (var-own n j)

  -- the names of operations and data differ
  pub own-differ : are_distinct own ≡ true
  own-differ =
      distinct-append (map (λ (g : Signature). g.name) (heads u.form)) (map (λ (d : Datum). d.name) (data_of u.form)) q.ops_differ vars-own
      (λ n h j. op-var-apart x s k i.before i.free n (op-own n h) (var-own n j))

  names-of : (b : Body) → IsIn b (bodies u.form) → BodyNames x s k b
  names-of b h = body-names x s k i.before i.free b (q.bodies b h)

  param-of : (b : Body) (m : BodyNames x s k b) (n : Name) → IsIn n (map (λ (z : Param). z.name) b.params)
      → IsIn (mention (Parameter k m.op true) n) (part.op-part x s k)
  param-of b m n h =
      let a = from-map (λ (z : Param). z.name) b.params n h in
      let P : Name → Type 0 = λ z. IsIn (mention (Parameter k m.op true) z) (part.op-part x s k) in subst P (sym a.2) (m.param a.0 a.1)

  local-of : (b : Body) (m : BodyNames x s k b) (n : Name) → IsIn n (map (λ (z : Datum). z.name) b.locals)
      → IsIn (mention (Local k m.index m.op) n) (part.body-part x s k) × IsIn (mention (Local k m.index m.op) n) m.before
  local-of b m n h =
      let a = from-map (λ (z : Datum). z.name) b.locals n h in
      let P : Name → Type 0 = λ z. IsIn (mention (Local k m.index m.op) z) (part.body-part x s k) in
      let Q : Name → Type 0 = λ z. IsIn (mention (Local k m.index m.op) z) m.before in
      (subst P (sym a.2) (m.local a.0 a.1), subst Q (sym a.2) (m.local_before a.0 a.1))

  -- the names in a body differ, from those outside it too
  taken-differ : (b : Body) → BodyNames x s k b → are_distinct (own ++ naming.body_names b) ≡ true
  taken-differ b m =
      let params : List Name = map (λ (z : Param). z.name) b.params in
      let locals : List Name = map (λ (z : Datum). z.name) b.locals in
      distinct-append own (naming.body_names b) own-differ
      (distinct-append params locals m.params_differ m.locals_differ
      (λ n h j. param-local-apart x s k i.before i.free m.index m.op n (param-of b m n h) (local-of b m n j).0))
      (λ n h j. by n (own-member n h) (in-cases params locals n j))
    where
      by : (n : Name) → IsMember x s k n → IsIn n (map (λ (z : Param). z.name) b.params) ⊎ IsIn n (map (λ (z : Datum). z.name) b.locals) → ⊥
      by n h (inl j) = member-param-apart x s k i.before i.free m.op n h (param-of b m n j)
      by n h (inr j) = member-local-apart x s k i.before i.free m.index m.op n h (local-of b m n j).0

  -- each is taken where the loops of the body begin
  covered : (b : Body) (m : BodyNames x s k b) → Covered (Loop k m.index m.ops) (own ++ naming.body_names b) [] m.before
  covered b m n h = by (in-cases own (naming.body_names b) n h)
    where
      member : IsMember x s k n → IsIn (mention (Member k) n) m.before
      member (OfOp j) = m.op_before (mention (Member k) n) j
      member (OfVar j) = m.var_before (mention (Member k) n) j

      inner : IsIn n (map (λ (z : Param). z.name) b.params) ⊎ IsIn n (map (λ (z : Datum). z.name) b.locals)
          → IsIn n [] ⊎ ((e : Mention) × IsIn e m.before × (e.name ≡ n) × (excludes e.role (Loop k m.index m.ops) ≡ true))
      inner (inl j) =
          inr (
            mention (Parameter k m.op true) n,
            m.op_before (mention (Parameter k m.op true) n) (param-of b m n j),
            refl,
            and_from _ _ (same-place
                k) (let q = from-map (λ (z : Param). z.name) b.params n j in m.named q.0 q.1),
          )
      inner (inr j) =
          inr (mention (Local k m.index m.op) n, (local-of b m n j).1, refl, and_from _ _ (same-place k) (same-place m.index))

      by : IsIn n own ⊎ IsIn n (naming.body_names b) → IsIn n [] ⊎ ((e : Mention) × IsIn e m.before × (e.name ≡ n)
          × (excludes e.role (Loop k m.index m.ops) ≡ true))
      by (inl j) = inr (mention (Member k) n, member (own-member n j), refl, same-place k)
      by (inr j) = inner (in-cases (map (λ (z : Param). z.name) b.params) (map (λ (z : Datum). z.name) b.locals) n j)

  -- no body has a clash
  pub body-right : (b : Body) → IsIn b (bodies u.form) → body_clashes u.form b ≡ false
  body-right b h =
      let m = names-of b h in
      let taken : List Name = own ++ naming.body_names b in
      or_from (not (are_distinct taken)) (block_clashes taken b.block) (ap not (taken-differ b m))
      (ap (block_clashes taken) m.made ∙ block_clashes-renamed (resolve x) taken m.block ∙ loops-free (Loop k m.index m.ops) m.block taken [] m.before
      (covered b m) m.free)

  -- each inner name is mentioned inside the object
  pub record Said (n : Name) : Type 0 where
    pub said : Mention
    pub among : IsIn said (inner_mentions (k, s))
    pub inner : IsInner said.role
    pub name : said.name ≡ n

  body-said : (b : Body) (n : Name) → BodyNames x s k b → IsIn n (naming.body_names b ++ block_loops b.block) → Said n
  body-said b n m h = by (in-cases (naming.body_names b) (block_loops b.block) n h)
    where
      later : (a : Mention) → IsIn a (part.body-part x s k ++ part.thread-part x s k) → IsIn a (inner_mentions (k, s))
      later a j = in-right a (part.op-part x s k) (part.var-part x s k ++ (part.body-part x s k ++ part.thread-part x s k))
          (in-right a (part.var-part x s k) (part.body-part x s k ++ part.thread-part x s k) j)

      names : IsIn n (map (λ (z : Param). z.name) b.params) ⊎ IsIn n (map (λ (z : Datum). z.name) b.locals) → Said n
      names (inl j) = record {
        said = mention (Parameter k m.op true) n;
        among = in-left (mention (Parameter k m.op true) n) (part.op-part x s k) (part.var-part x s k
            ++ (part.body-part x s k ++ part.thread-part x s k)) (param-of b m n j);
        inner = parameter-inner k m.op true;
        name = refl;
      }
      names (inr j) = record {
        said = mention (Local k m.index m.op) n;
        among = later (mention (Local k m.index m.op) n) (in-left (mention (Local k m.index m.op) n) (part.body-part x s k) (part.thread-part x s k)
            (local-of b m n j).0);
        inner = local-inner k m.index m.op;
        name = refl;
      }

      by : IsIn n (naming.body_names b) ⊎ IsIn n (block_loops b.block) → Said n
      by (inl j) = names (in-cases (map (λ (z : Param). z.name) b.params) (map (λ (z : Datum). z.name) b.locals) n j)
      by (inr j) =
          let P : List Name → Type 0 = λ z. IsIn n z in
          let l = loops-mentioned (Loop k m.index m.ops) m.block [] n (subst P (ap block_loops m.made ∙ block_loops-renamed (resolve x) m.block) j) in
          let Q : Role → Type 0 = IsInner in
          record {
            said = l.mention;
            among = later l.mention (m.loops l.mention l.among);
            inner = subst Q (sym l.sort) (loop-inner k m.index m.ops);
            name = l.name;
          }

  pub inner-said : (n : Name) → IsIn n (inner_names u.form) → Said n
  inner-said n h = by (in-cases own (flat_map (λ (b : Body). naming.body_names b ++ block_loops b.block) (bodies u.form)) n h)
    where
      by : IsIn n own ⊎ IsIn n (flat_map (λ (b : Body). naming.body_names b ++ block_loops b.block) (bodies u.form)) → Said n
      by (inl j) = record { said = mention (Member k) n; among = member-inside x s k n (own-member n j); inner = member-inner k; name = refl }
      by (inr j) = (let a = in-some (λ (b : Body). naming.body_names b ++ block_loops b.block) (bodies u.form) n j
          in body-said a.0 n (names-of a.0 a.1) a.2)

module _ (written x : Design) (met : AreMet written x) (r : Ranks) (fit : Fitting (flat x) r) where
  abbrev p : Program
  p = program_for (flat x) r

  inside-of : (u : Unit) (q : UnitObject x u) → FreeInside x q.standing
  inside-of u q = inside-free x q.standing (no-clash written x met) (terminal-object x q.standing q.stands).0

  -- no inner name of a unit is the name of one
  inner-no-unit : (u v : Unit) → IsIn u p.units → IsIn v p.units → IsIn v.name (inner_names u.form) → ⊥
  inner-no-unit u v h j k =
      let q = unit-object written x met r fit u h in
      let i = inside-of u q in
      let m = inner-said x u q i v.name k in
      let t = unit-object written x met r fit v j in
      inner-apart x (no-clash written x met) i.place q.standing i.stands m.said m.among m.inner t.standing (terminal-object x t.standing t.stands).0
      (m.name ∙ t.name)

  -- no unit breaks the rule of names
  pub names-right : (place : ℕ) (u : Unit) → slice_get p.units place ≡ Some u → breaks_naming p place u ≡ false
  names-right place u e =
      or_from _ _ (or_from _ _ (or_from _ _ (or_from _ _ (or_from _ _ first program-name) no-inner) (ap not (own-differ x u q i))) bodies-free)
      (program-calls-there written x met r fit u h)
    where
      h : IsIn u p.units
      h = at-in p.units place u e

      q : UnitObject x u
      q = unit-object written x met r fit u h

      i : FreeInside x q.standing
      i = inside-of u q

      differ : are_distinct (map (λ (v : Unit). v.name) p.units) ≡ true
      differ = ap are_distinct (unit-names (flat x) r fit) ∙ flat-names x (no-clash written x met)

      first : is_named (map (λ (v : Unit). v.name) (take place p.units) ++ flat_map (λ (v : Unit). inner_names v.form) (take place p.units))
          u.name ≡ false
      first = unnamed-from _ u.name (λ j.
          by (in-cases (map (λ (v : Unit). v.name) (take place p.units)) (flat_map (λ (v : Unit). inner_names v.form) (take place p.units)) u.name j))
        where
          by : IsIn u.name (map (λ (v : Unit). v.name) (take place p.units))
              ⊎ IsIn u.name (flat_map (λ (v : Unit). inner_names v.form) (take place p.units)) → ⊥
          by (inl j) = key-fresh (λ (v : Unit). v.name) p.units place u differ e j
          by (inr j) =
              let a = in-some (λ (v : Unit). inner_names v.form) (take place p.units) u.name j in
              inner-no-unit a.0 u (in-take p.units place a.0 a.1) h a.2

      program-name : same_name p.name u.name ≡ false
      program-name = ap (same_name x.name) q.name ∙ design-name x q.standing (no-clash written x met) (terminal-object x q.standing q.stands).0

      no-inner : list_any (is_named (map (λ (v : Unit). v.name) (take (suc place) p.units))) (inner_names u.form) ≡ false
      no-inner = none-from (is_named (map (λ (v : Unit). v.name) (take (suc place) p.units))) (inner_names u.form) (λ n j. unnamed-from _ n (λ l.
          let a = from-map (λ (v : Unit). v.name) (take (suc place) p.units) n l in
          let P : Name → Type 0 = λ n. IsIn n (inner_names u.form) in
          inner-no-unit u a.0 h (in-take p.units (suc place) a.0 a.1) (subst P a.2 j)))

      bodies-free : list_any (body_clashes u.form) (bodies u.form) ≡ false
      bodies-free = none-from (body_clashes u.form) (bodies u.form) (λ b j. body-right x u q i b j)
