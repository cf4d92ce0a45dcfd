-- What a search of the graph of starts finds, where threads lead nowhere: the threads to which calls lead through protected operations.
-- A search the other way round finds the operations that lead to a thread.
use Rattle.std.proofs.Common.{◌≡◌, ◌⊎◌, inl, inr, ℕ, ◌<◌, ◌==◌, Bool, true, false, ◌&&◌, List, [], ◌∷◌, ◌++◌, map, filter_map, flat_map, length}
use Rattle.std.proofs.Common.{nat_lt}
use Rattle.std.proofs.Common.{Result, Ok, Err, IfOk, ◌||◌, Option, Some, None, cond, filter, get_or, slice_get, refl, sym, ap, subst, ◌∙◌, arith}
use Rattle.std.specs.List.{list_any}
use Rattle.std.proofs.Math.Path.{fun_ext}
use Rattle.std.proofs.lemmas.Bool.{and_from, and_parts, eq-eqb, eqb-true}
use Rattle.std.proofs.lemmas.List.Folds.{list_any-append}
use Rattle.std.proofs.lemmas.Option.{slice_get_within}
use Rattle.seq_tree.proofs.Shared.SameNames.{same-is, same-self}
use Rattle.seq_tree.proofs.Shared.Walks.{LeadOn, Step}
use Rattle.seq_tree.specs.Names.{Name, same_name}
use Rattle.seq_tree.specs.Rings.{LeadsTo}
use Rattle.seq_tree.specs.declared.tree.OpName.{OpName}
use Rattle.ods_tree.specs.Designs.{Design, Object}
use Rattle.design_rules.specs.Rings.{calls_within, inner_calls, terminal_ops, thread_objects}
use Rattle.ods_index.specs.Calling.{Calls}
use Rattle.ods_calls.specs.Held.{held_bodies}
use Rattle.ods_calls.specs.Sourced.{reaches_by}
use Rattle.ods_calls.specs.Spotted.{marked}
use Rattle.ods_calls.specs.Spreading.{direct_calls, led, of_object, reaches}
use Rattle.ods_calls.specs.Starting.{Op, Spot, Thread, same_spot, spot_from, spots_of, turned}
use Rattle.ods_calls.proofs.Items.{In, any-in, from-map, from-taken, in-left, in-map, in-parts, in-right, in-taken, some-in}
use Rattle.ods_calls.proofs.NamePlaces.{in-placed}
use Rattle.ods_calls.proofs.SourceLaws.{any-flat}
use Rattle.ods_calls.proofs.StartGraph.{edge-back, es, source-placed, stands-at, step-back, step-forth, step-of, there}
use Rattle.ods_calls.proofs.StartPaths.{Leads, Onward, among-in, in-among, onward-within, ops-lead, path-on, within-onward}
use Rattle.rings.proofs.Shared.NamedRings.{names_lead, one_name, places_lead}
use Rattle.rings.specs.Graphs.{has_number, is_step}
use Rattle.rings.specs.Reached.{Goes, IsReached, leads}
use Rattle.rings.specs.declared.graph.Graph.{Graph}

-- two promises of one answer are one
pub both-ok : {T E : Type 0} (P Q R : T → Type 0) (r : Result T E) → ((v : T) → P v → Q v → R v) → IfOk r P → IfOk r Q → IfOk r R
both-ok P Q R (Ok v) f h k = f v h k
both-ok P Q R (Err e) f h k = tt

pub same-bool : (a b : Bool) → (a ≡ true → b ≡ true) → (b ≡ true → a ≡ true) → a ≡ b
same-bool true b f g = sym (f refl)
same-bool false true f g = g refl
same-bool false false f g = refl

-- a thread has a place
pub thread-placed : (x : Design) (o : Object) → In o (thread_objects x) → (p : ℕ) × (spot_from 0 (spots_of x) (Thread o.name) ≡ Some p)
thread-placed x o h =
    in-placed (λ t. same_spot t (Thread o.name)) 0 (spots_of x) (Thread o.name)
    (in-left (Thread o.name) (map (λ (t : Object). Thread t.name) (thread_objects x)) (map (λ (b : Calls). Op b.name) (held_bodies x))
    (in-map (λ (t : Object). Thread t.name) o (thread_objects x) h)) (same-self o.name)

-- what threads reach by what they call
pub reached-led : (x : Design) (n : Name) (o : Object) → list_any (led x n) (direct_calls x o) ≡ reaches x o n
reached-led x n o = sym (any-flat (of_object n) (calls_within (length (terminal_ops x)) x) (direct_calls x o))

pub any-led : (x : Design) (n : Name) (os : List Object) → list_any (led x n) (flat_map (direct_calls x) os) ≡ list_any (λ o. reaches x o n) os
any-led x n [] = refl
any-led x n (o ∷ os) =
    list_any-append (led x n) (direct_calls x o) (flat_map (direct_calls x) os)
    ∙ ap (λ b. b || list_any (led x n) (flat_map (direct_calls x) os)) (reached-led x n o) ∙ ap (λ b. reaches x o n || b) (any-led x n os)

-- a path the other way round
path-back : {A : Type 0} (S T : A → A → Type 0) → ((a b : A) → S a b → T b a) → (path : List A) (a b : A) → LeadsTo S a path b
    → (back : List A) × LeadsTo T b back a
path-back S T flip [] a b h = ([], flip a b h)
path-back S T flip (via ∷ path) a b h =
    let r = path-back S T flip path via b h.1 in (r.0 ++ via ∷ [], path-on T r.0 [] b via a r.1 (flip a via h.0))

flipped : (edges : List (ℕ × ℕ)) (p q : ℕ) → list_any (there p q) (map turned edges) ≡ true → list_any (there q p) edges ≡ true
flipped edges p q h =
    let e = some-in (there p q) (map turned edges) h in
    let ends = and_parts (e.0.0 == p) (e.0.1 == q) e.2 in
    let d = from-map turned e.0 edges e.1 in
    any-in (there q p) d.0 edges d.1
    (and_from _ _ (ap (λ z. z.1 == q) d.2 ∙ ends.1) (ap (λ z. z.0 == p) d.2 ∙ ends.0))

flips : (edges : List (ℕ × ℕ)) (p q : ℕ) → list_any (there q p) edges ≡ true → list_any (there p q) (map turned edges) ≡ true
flips edges p q h =
    let e = some-in (there q p) edges h in
    let ends = and_parts (e.0.0 == q) (e.0.1 == p) e.2 in
    any-in (there p q) (turned e.0) (map turned edges) (in-map turned e.0 edges e.1) (and_from _ _ ends.1 ends.0)

number-in : (ns : List ℕ) (n : ℕ) → has_number ns n ≡ true → In n ns
number-in ns n h =
    let r = some-in (λ m. m == n) ns h in let P : ℕ → Type 0 = λ z. In z ns in subst P (eqb-true r.0 n r.2) r.1

in-number : (ns : List ℕ) (n : ℕ) → In n ns → has_number ns n ≡ true
in-number ns n h = any-in (λ m. m == n) n ns h (eq-eqb n n refl)

module _ (x : Design) (on : LeadOn (inner_calls x) (terminal_ops x)) (place : Spot → Option ℕ)
    (placed : (s : Spot) → place s ≡ spot_from 0 (spots_of x) s) where
  abbrev none : Name → Bool
  none n = false

  abbrev pub lead : Spot → Spot → Type 0
  lead = Leads x none []

  abbrev pub step : ℕ → ℕ → Bool
  step = step-of x place placed none [] (λ o h. absurd h)

  abbrev edges : List (ℕ × ℕ)
  edges = es x place placed none [] (λ o h. absurd h)

  stands : (s : Spot) (p : ℕ) → place s ≡ Some p → slice_get (spots_of x) p ≡ Some s
  stands = stands-at x place placed none [] (λ o h. absurd h)

  forth : (a c : Spot) (p q : ℕ) → lead a c → place a ≡ Some p → place c ≡ Some q → step p q ≡ true
  forth = step-forth x place placed none [] (λ o h. absurd h)

  back : (p q : ℕ) → step p q ≡ true → (a c : Spot) × (place a ≡ Some p) × (place c ≡ Some q) × lead a c
  back = step-back x place placed none [] (λ o h. absurd h)

  source : (a c : Spot) → lead a c → (p : ℕ) × (place a ≡ Some p)
  source = source-placed x place placed none [] (λ o h. absurd h)

  one : (a b : Spot) (p : ℕ) → place a ≡ Some p → place b ≡ Some p → a ≡ b
  one = one_name (spots_of x) place lead step stands forth back source

  inside : (s : Spot) (p : ℕ) → place s ≡ Some p → p < length (spots_of x)
  inside s p e = slice_get_within (spots_of x) p s (stands s p e)

  -- calls of protected operations that lead from one to an operation of an object
  abbrev pub Way : OpName → Name → Type 0
  Way m n = (k : OpName) × ((path : List OpName) × LeadsTo (Step (inner_calls x)) m path k) × (k.object ≡ n)

  lead-way : (path : List Spot) (m : OpName) (n : Name) → LeadsTo lead (Op m) path (Thread n) → Way m n
  lead-way [] m n (k, call, aim) = (k, ([], in-among k (inner_calls x m) call), aim)
  lead-way (Op via ∷ path) m n ((k, call, aim), rest) =
      let r = lead-way path via n rest in
      let P : OpName → Type 0 = λ z. Step (inner_calls x) m z in
      (r.0, (via ∷ r.1.0, (subst P aim (in-among k (inner_calls x m) call), r.1.1)), r.2)
  lead-way (Thread d ∷ []) m n (first, rest) = (let z : false ≡ true = rest.0 in absurd (cc))
  lead-way (Thread d ∷ (via ∷ path)) m n (first, rest) = (let z : false ≡ true = rest.0.0 in absurd (cc))

  -- it begins at a place
  begins : (m : OpName) (n : Name) → Way m n → (p : ℕ) × (place (Op m) ≡ Some p)
  begins m n (k, (path, way), aim) = by path k way
    where
      by : (path : List OpName) (k : OpName) → LeadsTo (Step (inner_calls x)) m path k → (p : ℕ) × (place (Op m) ≡ Some p)
      by [] k call = source (Op m) (Op k) (k, among-in k (inner_calls x m) call, refl)
      by (via ∷ path) k calls = source (Op m) (Op via) (via, among-in via (inner_calls x m) calls.0, refl)

  way-ops : (m : OpName) (n : Name) (s q : ℕ) → place (Op m) ≡ Some s → place (Thread n) ≡ Some q → Way m n
      → (steps : List ℕ) × LeadsTo (Goes step) s steps q
  way-ops m n s q e f (k, (path, way), aim) =
      let P : Name → Type 0 = λ z. LeadsTo lead (Op m) (map Op path) (Thread z) in
      places_lead (spots_of x) place lead step stands forth back source (map Op path) (Op m) (Thread n) s q e f
      (subst P aim (ops-lead x on none [] path m k way))

  ops-way : (m : OpName) (n : Name) (s q : ℕ) → place (Op m) ≡ Some s → place (Thread n) ≡ Some q → (steps : List ℕ)
      → LeadsTo (Goes step) s steps q → Way m n
  ops-way m n s q e f steps h =
      let r = names_lead (spots_of x) place lead step stands forth back source steps s q h in
      let P : Spot → Type 0 = λ z. LeadsTo lead z r.4.0 (Thread n) in
      let Q : Spot → Type 0 = λ z. LeadsTo lead r.0 r.4.0 z in
      lead-way r.4.0 m n (subst P (one r.0 (Op m) s r.2 e) (subst Q (one r.1 (Thread n) q r.3 f) r.4.1))

  -- a thread leads nowhere
  thread-still : (n : Name) (to : Spot) (p q : ℕ) → place (Thread n) ≡ Some p → place to ≡ Some q → (steps : List ℕ)
      → LeadsTo (Goes step) p steps q → ⊥
  thread-still n to p q e f steps h =
      let r = names_lead (spots_of x) place lead step stands forth back source steps p q h in
      let P : Spot → Type 0 = λ z. LeadsTo lead z r.4.0 r.1 in
      by r.1 r.4.0 (subst P (one r.0 (Thread n) p r.2 e) r.4.1)
    where
      by : (c : Spot) (path : List Spot) → LeadsTo lead (Thread n) path c → ⊥
      by c [] h = (let z : false ≡ true = h.0 in cc)
      by c (via ∷ path) h = (let z : false ≡ true = h.0.0 in cc)

  -- a call leads to an operation of an object where it is one, or a way leads to one
  led-by : (m : OpName) (n : Name) → led x n m ≡ true → (m.object ≡ n) ⊎ Way m n
  led-by m n h =
      let r = some-in (of_object n) (calls_within (length (terminal_ops x)) x m) h in
      by r.0 (same-is r.0.object n r.2) (within-onward x on m r.0 r.1)
    where
      by : (k : OpName) → k.object ≡ n → Onward x m k → (m.object ≡ n) ⊎ Way m n
      by k aim (inl e) = inl (ap (λ z. z.object) e ∙ aim)
      by k aim (inr way) = inr (k, way, aim)

  by-led : (m : OpName) (n : Name) → (m.object ≡ n) ⊎ Way m n → led x n m ≡ true
  by-led m n (inl e) =
      any-in (of_object n) m (calls_within (length (terminal_ops x)) x m) (onward-within x on m m (inl refl)) (ap (λ o. same_name o n) e ∙ same-self n)
  by-led m n (inr (k, way, aim)) =
      any-in (of_object n) k (calls_within (length (terminal_ops x)) x m) (onward-within x on m k (inr way))
      (ap (λ o. same_name o n) aim ∙ same-self n)

  -- the places to which calls lead
  abbrev pub starts-of : List OpName → List ℕ
  starts-of cs = filter_map (λ k. place (Thread k.object)) cs ++ filter_map (λ k. place (Op k)) cs

  module _ (g : Graph) (stepped : (a b : ℕ) → leads g a b ≡ step a b) (counted : g.count ≡ length (spots_of x)) where
    same-step : leads g ≡ step
    same-step = fun_ext (λ a. fun_ext (λ b. stepped a b))

    -- what a search from calls finds
    pub found-led : (cs : List OpName) (n : Name) (q : ℕ) → place (Thread n) ≡ Some q → IsReached g (starts-of cs) q
        → list_any (led x n) cs ≡ true
    found-led cs n q f (s, is, way) =
        let at = number-in (starts-of cs) s (and_parts (has_number (starts-of cs) s) (nat_lt s g.count) is).0 in
        by (in-parts s (filter_map (λ k. place (Thread k.object)) cs) (filter_map (λ k. place (Op k)) cs) at) way
      where
        P : (ℕ → ℕ → Bool) → Type 0
        P t = (path : List ℕ) × LeadsTo (Goes t) s path q

        thread : (k : OpName) → In k cs → place (Thread k.object) ≡ Some s → (s ≡ q) ⊎ ((path : List ℕ) × LeadsTo (Goes (leads g)) s path q)
            → list_any (led x n) cs ≡ true
        thread k h e (inl here) =
            let same : Thread k.object ≡ Thread n = one (Thread k.object) (Thread n) q (e ∙ ap Some here) f in
            let object : k.object ≡ n = cc in any-in (led x n) k cs h (by-led k n (inl object))
        thread k h e (inr way) = let r = subst P same-step way in absurd (thread-still k.object (Thread n) s q e f r.0 r.1)

        op : (k : OpName) → In k cs → place (Op k) ≡ Some s → (s ≡ q) ⊎ ((path : List ℕ) × LeadsTo (Goes (leads g)) s path q)
            → list_any (led x n) cs ≡ true
        op k h e (inl here) = (let z : Op k ≡ Thread n = one (Op k) (Thread n) q (e ∙ ap Some here) f in absurd (cc))
        op k h e (inr way) = let r = subst P same-step way in any-in (led x n) k cs h (by-led k n (inr (ops-way k n s q e f r.0 r.1)))

        by : In s (filter_map (λ k. place (Thread k.object)) cs) ⊎ In s (filter_map (λ k. place (Op k)) cs)
            → (s ≡ q) ⊎ ((path : List ℕ) × LeadsTo (Goes (leads g)) s path q) → list_any (led x n) cs ≡ true
        by (inl i) way = let k = from-taken (λ (k : OpName). place (Thread k.object)) s cs i in thread k.0 k.1 k.2 way
        by (inr i) way = let k = from-taken (λ (k : OpName). place (Op k)) s cs i in op k.0 k.1 k.2 way

    pub led-found : (cs : List OpName) (n : Name) (q : ℕ) → place (Thread n) ≡ Some q → list_any (led x n) cs ≡ true
        → IsReached g (starts-of cs) q
    led-found cs n q f h = let m = some-in (led x n) cs h in by m.0 m.1 (led-by m.0 n m.2)
      where
        is-start : (s : ℕ) → In s (starts-of cs) → s < length (spots_of x) → (has_number (starts-of cs) s && nat_lt s g.count) ≡ true
        is-start s i less = and_from _ _ (in-number (starts-of cs) s i) (grind (arith, less, counted))

        by : (m : OpName) → In m cs → (m.object ≡ n) ⊎ Way m n → IsReached g (starts-of cs) q
        by m h (inl e) = (
          q,
          is-start q
              (in-left q (filter_map (λ k. place (Thread k.object)) cs) (filter_map (λ k. place (Op k)) cs)
              (in-taken (λ (k : OpName). place (Thread k.object)) m q cs h (ap (λ o. place (Thread o)) e ∙ f))) (inside (Thread n) q f),
          inl refl,
        )
        by m h (inr way) =
            let s = begins m n way in
            let r = way-ops m n s.0 q s.1 f way in
            let P : (ℕ → ℕ → Bool) → Type 0 = λ t. (path : List ℕ) × LeadsTo (Goes t) s.0 path q in (
              s.0,
              is-start s.0
                  (in-right s.0 (filter_map (λ k. place (Thread k.object)) cs) (filter_map (λ k. place (Op k)) cs)
                  (in-taken (λ (k : OpName). place (Op k)) m s.0 cs h s.1)) (inside (Op m) s.0 s.1),
              inr (subst P (sym same-step) r),
            )

  -- what leads to an object, and isn't one of its operations, has a place
  pub led-placed : (m : OpName) (n : Name) → same_name m.object n ≡ false → led x n m ≡ true → (p : ℕ) × (place (Op m) ≡ Some p)
  led-placed m n other h = by (led-by m n h)
    where
      by : (m.object ≡ n) ⊎ Way m n → (p : ℕ) × (place (Op m) ≡ Some p)
      by (inl same) = (let z : false ≡ true = sym other ∙ ap (λ o. same_name o n) same ∙ same-self n in absurd (cc))
      by (inr way) = begins m n way

  module _ (g : Graph) (stepped : (a b : ℕ) → leads g a b ≡ is_step (length (spots_of x)) (map turned edges) a b)
      (counted : g.count ≡ length (spots_of x)) where
    back-edge : (p q : ℕ) → leads g p q ≡ true → step q p ≡ true
    back-edge p q h =
        let parts = and_parts (nat_lt q (length (spots_of x))) (list_any (there p q) (map turned edges)) (sym (stepped p q) ∙ h) in
        let edge = flipped edges p q parts.1 in
        let r = edge-back x place placed none [] (λ o h. absurd h) q p edge in
        let less = inside r.1 p r.3 in and_from _ _ (grind (arith, less)) edge

    edge-forth : (p q : ℕ) → step q p ≡ true → leads g p q ≡ true
    edge-forth p q h =
        let r = back q p h in
        let less = inside r.0 q r.2 in
        stepped p q ∙ and_from _ _ (grind (arith, less)) (flips edges p q (and_parts (nat_lt p (length (spots_of x))) (list_any (there q p) edges) h).1)

    -- what a search back from a thread finds
    pub back-led : (m : OpName) (n : Name) (s q : ℕ) → place (Op m) ≡ Some s → place (Thread n) ≡ Some q → IsReached g (q ∷ []) s → led x n m ≡ true
    back-led m n s q e f (t, is, way) =
        let at = number-in (q ∷ []) t (and_parts (has_number (q ∷ []) t) (nat_lt t g.count) is).0 in by-led m n (inr (by at way))
      where
        by : In t (q ∷ []) → (t ≡ s) ⊎ ((path : List ℕ) × LeadsTo (Goes (leads g)) t path s) → Way m n
        by (inl here) (inl same) = (let z : Op m ≡ Thread n = one (Op m) (Thread n) s e (f ∙ ap Some (here ∙ same)) in absurd (cc))
        by (inl here) (inr (path, way)) =
            let P : ℕ → Type 0 = λ z. LeadsTo (Goes (leads g)) z path s in
            let r = path-back (Goes (leads g)) (Goes step) back-edge path q s (subst P (sym here) way) in ops-way m n s q e f r.0 r.1
        by (inr none') way = absurd none'

    pub led-back : (m : OpName) (n : Name) (s q : ℕ) → place (Op m) ≡ Some s → place (Thread n) ≡ Some q → same_name m.object n ≡ false
        → led x n m ≡ true → IsReached g (q ∷ []) s
    led-back m n s q e f other h =
        let less = inside (Thread n) q f in
        let r = by (led-by m n h) in
        (q, and_from _ _ (in-number (q ∷ []) q (inl refl)) (grind (arith, less, counted)), inr r)
      where
        by : (m.object ≡ n) ⊎ Way m n → (path : List ℕ) × LeadsTo (Goes (leads g)) q path s
        by (inl same) = (let z : false ≡ true = sym other ∙ ap (λ o. same_name o n) same ∙ same-self n in absurd (cc))
        by (inr way) =
            let w = way-ops m n s q e f way in path-back (Goes step) (Goes (leads g)) (λ a b k. edge-forth b a k) w.0 s q w.1

    -- an operation is one of an object or marked where calls lead from it to that object
    pub marked-led : (n : Name) (q : ℕ) (marks : List Bool) → place (Thread n) ≡ Some q
        → ((s : ℕ) → get_or marks s false ≡ true → IsReached g (q ∷ []) s) → ((s : ℕ) → IsReached g (q ∷ []) s → get_or marks s false ≡ true)
        → (m : OpName) → (same_name m.object n || marked marks (place (Op m))) ≡ led x n m
    marked-led n q marks f sound complete m = by (same_name m.object n) refl (place (Op m)) refl
      where
        by : (t : Bool) → same_name m.object n ≡ t → (o : Option ℕ) → place (Op m) ≡ o → (t || marked marks o) ≡ led x n m
        by true e o at = sym (by-led m n (inl (same-is m.object n e)))
        by false e None at =
            same-bool false (led x n m) (λ h. absurd (cc)) (λ h. let p = led-placed m n e h in let z : None ≡ Some p.0 = sym at ∙ p.1 in absurd (cc))
        by false e (Some s) at =
            same-bool (get_or marks s false) (led x n m) (λ h. back-led m n s q at f (sound s h)) (λ h. complete s (led-back m n s q at f e h))

-- tests that agree find the same
any-same : (p q : OpName → Bool) (xs : List OpName) → ((m : OpName) → p m ≡ q m) → list_any p xs ≡ list_any q xs
any-same p q [] same = refl
any-same p q (y ∷ xs) same = ap (λ b. b || list_any p xs) (same y) ∙ ap (λ b. q y || b) (any-same p q xs same)

filter-same : (p q : Object → Bool) (os : List Object) → ((o : Object) → p o ≡ q o) → filter p os ≡ filter q os
filter-same p q [] same = refl
filter-same p q (o ∷ os) same =
    ap (λ b. cond b (o ∷ filter p os) (filter p os)) (same o) ∙ ap (λ (l : List Object). cond (q o) (o ∷ l) l) (filter-same p q os same)

-- so a thread reaches an object where it calls such an operation itself
pub reachers-same : (x : Design) (n : Name) (leads_to : OpName → Bool) (os : List Object)
    → ((m : OpName) → (same_name m.object n || leads_to m) ≡ led x n m) → filter (reaches_by x n leads_to) os ≡ filter (λ o. reaches x o n) os
reachers-same x n leads_to os same =
    filter-same (reaches_by x n leads_to) (λ o. reaches x o n) os
    (λ o. any-same (λ m. same_name m.object n || leads_to m) (led x n) (direct_calls x o) same ∙ reached-led x n o)
