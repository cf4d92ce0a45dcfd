-- The first unit on a ring is that of the first operation on one, or the first protected unit on one, where names of units differ.
use Rattle.std.proofs.Common.{◌≡◌, ℕ, zero, suc, ◌+◌, ◌<◌, ◌≤◌, Bool, true, false, ◌||◌, List, [], ◌∷◌, ◌++◌, flat_map, length, map, take}
use Rattle.std.proofs.Common.{slice_get, nat_lt, Option, Some, None, inl, inr, ◌⊎◌, refl, sym, ap, subst, ◌∙◌, arith, if◌then◌else◌}
use Rattle.std.specs.List.{list_any}
use Rattle.std.proofs.lemmas.Option.{slice_get_within}
use Rattle.std.proofs.lemmas.Bool.{and_parts, or_left, or_right}
use Rattle.seq_tree.specs.Names.{Name, is_named, same_name}
use Rattle.seq_tree.specs.Rings.{IsOnRing}
use Rattle.seq_tree.specs.declared.tree.OpName.{OpName}
use Rattle.seq_tree.proofs.Shared.SameNames.{same-is, same-self}
use Rattle.name_sets.proofs.Shared.PlaceLaws.{name-none-later, name-placed}
use Rattle.name_sets.specs.FirstPlaces.{op_place_from, place_from}
use Rattle.rings.specs.Graphs.{is_step}
use Rattle.rings.specs.Reached.{Goes, IsFirstOnRing}
use Rattle.rings.proofs.Shared.NamedRings.{ring_of_names, ring_of_places}
use Rattle.ada_tree.specs.Naming.{breaks_naming, inner_names}
use Rattle.ada_tree.specs.Programs.{Unit, Program}
use Rattle.ada_tree.specs.Uses.{Calls, CallsUnit}
use Rattle.ada_rules.specs.Callers.{Caller, Makes, caller_edges, callers, names, op_caller, ops_in, unit_callers}
use Rattle.ada_rules.specs.Firsts.{IsFirst}
use Rattle.ada_rules.specs.UnitPlaces.{earlier, unit_at, unit_by}
use Rattle.ada_rules.specs.declared.callers.Sort as code
use Rattle.ada_rules.specs.declared.callers.Sort.TheVariants as sort
use Rattle.ada_rules.proofs.ObjectLaws.{ring_of_units, unit_calls, units_ring}
use Rattle.ada_rules.proofs.PlaceLaws.{back, forth}
use Rattle.ada_rules.proofs.ReachLaws.{op-back, op-forth, op-source, op-stands}
use Rattle.ada_rules.proofs.RingLaws.{any_place, made_ring, ring_of}

le-or : (a b : ℕ) → (a ≤ b) ⊎ (b < a)
le-or zero b = inl (omega arith)
le-or (suc a) zero = inr (omega arith)
le-or (suc a) (suc b) = step (le-or a b)
  where
    step : (a ≤ b) ⊎ (b < a) → (suc a ≤ suc b) ⊎ (suc b < suc a)
    step (inl h) = inl (omega (arith, h))
    step (inr h) = inr (omega (arith, h))

not-before : (a b : ℕ) → (b < a → ⊥) → a ≤ b
not-before a b none = by (le-or a b)
  where
    by : (a ≤ b) ⊎ (b < a) → a ≤ b
    by (inl h) = h
    by (inr h) = absurd (none h)

zero-and : (i : ℕ) → i ≡ 0 + i
zero-and i = omega arith

-- what stands in two lists, one behind the other
beside : {A : Type 0} (xs ys : List A) (i : ℕ) (a : A) → slice_get (xs ++ ys) i ≡ Some a → (slice_get xs i ≡ Some a)
    ⊎ ((j : ℕ) × (i ≡ length xs + j) × (slice_get ys j ≡ Some a))
beside [] ys i a h = inr (i, zero-and i, h)
beside (x ∷ xs) ys zero a h = inl h
beside (x ∷ xs) ys (suc i) a h = by (beside xs ys i a h)
  where
    by : (slice_get xs i ≡ Some a) ⊎ ((j : ℕ) × (i ≡ length xs + j) × (slice_get ys j ≡ Some a))
        → (slice_get xs i ≡ Some a) ⊎ ((j : ℕ) × (suc i ≡ suc (length xs) + j) × (slice_get ys j ≡ Some a))
    by (inl k) = inl k
    by (inr k) = let y = k.1 in inr (k.0, omega (arith, y), k.2)

-- what stands in lists one behind the other stands in one of them
flat-at : {A B : Type 0} (f : A → List B) (xs : List A) (i : ℕ) (b : B) → slice_get (flat_map f xs) i ≡ Some b
    → (k : ℕ) × (a : A) × (slice_get xs k ≡ Some a) × ((j : ℕ) × (slice_get (f a) j ≡ Some b))
flat-at f [] i b h = cc
flat-at f (x ∷ xs) i b h = by (beside (f x) (flat_map f xs) i b h) (λ j. flat-at f xs j b)
  where
    by : (slice_get (f x) i ≡ Some b) ⊎ ((j : ℕ) × (i ≡ length (f x) + j) × (slice_get (flat_map f xs) j ≡ Some b))
        → ((j : ℕ) → slice_get (flat_map f xs) j ≡ Some b → (k : ℕ) × (a : _) × (slice_get xs k ≡ Some a) × ((l : ℕ) × (slice_get (f a) l ≡ Some b)))
        → (k : ℕ) × (a : _) × (slice_get (x ∷ xs) k ≡ Some a) × ((l : ℕ) × (slice_get (f a) l ≡ Some b))
    by (inl k) rest = (0, x, refl, (i, k))
    by (inr k) rest = let r = rest k.0 k.2 in (suc r.0, r.1, r.2, r.3)

map-at : {A B : Type 0} (f : A → B) (xs : List A) (i : ℕ) (b : B) → slice_get (map f xs) i ≡ Some b
    → (a : A) × (slice_get xs i ≡ Some a) × (f a ≡ b)
map-at f [] i b h = cc
map-at f (x ∷ xs) zero b h = let same : f x ≡ b = cc in (x, refl, same)
map-at f (x ∷ xs) (suc i) b h = map-at f xs i b h

at-map : {A B : Type 0} (f : A → B) (xs : List A) (i : ℕ) (a : A) → slice_get xs i ≡ Some a → slice_get (map f xs) i ≡ Some (f a)
at-map f [] i a h = cc
at-map f (x ∷ xs) zero a h = let same : x ≡ a = cc in ap (λ z. Some (f z)) same
at-map f (x ∷ xs) (suc i) a h = at-map f xs i a h

-- a thing in the list that is of the one at a place
abbrev Stands : {A B : Type 0} → (A → List B) → List A → ℕ → B → Type 0
Stands {A} f xs n b = (a : A) × (slice_get xs n ≡ Some a) × ((i : ℕ) × (slice_get (f a) i ≡ Some b))

-- of two things the first is of a thing that isn't later
in-order : {A B : Type 0} (f : A → List B) (xs : List A) (p q : ℕ) (b c : B) → p ≤ q → slice_get (flat_map f xs) p ≡ Some b
    → slice_get (flat_map f xs) q ≡ Some c
    → (k m : ℕ) × (k ≤ m) × Stands f xs k b × Stands f xs m c
in-order f [] p q b c h k l = cc
in-order f (x ∷ xs) p q b c h k l = by (beside (f x) (flat_map f xs) p b k) (beside (f x) (flat_map f xs) q c l) (λ i j. in-order f xs i j b c)
  where
    by : (slice_get (f x) p ≡ Some b) ⊎ ((j : ℕ) × (p ≡ length (f x) + j) × (slice_get (flat_map f xs) j ≡ Some b))
        → (slice_get (f x) q ≡ Some c) ⊎ ((j : ℕ) × (q ≡ length (f x) + j) × (slice_get (flat_map f xs) j ≡ Some c))
        → ((i j : ℕ) → i ≤ j → slice_get (flat_map f xs) i ≡ Some b → slice_get (flat_map f xs) j ≡ Some c
        → (n m : ℕ) × (n ≤ m) × Stands f xs n b × Stands f xs m c)
        → (n m : ℕ) × (n ≤ m) × Stands f (x ∷ xs) n b × Stands f (x ∷ xs) m c
    by (inl s) (inl t) rest = (0, 0, omega arith, (x, refl, (p, s)), (x, refl, (q, t)))
    by (inl s) (inr t) rest = let r = flat-at f xs t.0 c t.2 in (0, suc r.0, omega arith, (x, refl, (p, s)), (r.1, r.2, r.3))
    by (inr s) (inl t) rest = let within : q < length (f x) = slice_get_within (f x) q c t in let y = s.1 in absurd (omega (arith, h, within, y))
    by (inr s) (inr t) rest =
        let y = s.1 in
        let z = t.1 in
        let r = rest s.0 t.0 (omega (arith, h, y, z)) s.2 t.2 in
        let w = r.2 in (suc r.0, suc r.1, omega (arith, w), r.3, r.4)

-- an operation of a unit has its name
of-unit : (which : code.Sort) (u : Unit) (i : ℕ) (c : Caller) → slice_get (unit_callers which u) i ≡ Some c → c.name.object ≡ u.name
of-unit which u i c h = sym (ap (λ (d : Caller). d.name.object) (map-at (op_caller u.name) (ops_in which u.form) i c h).2)

-- the first of which one of two things holds
pub first-of-both : (A B : ℕ → Unit → Type 0) (us : List Unit) (a b : Option ℕ) → IsFirst A us a → IsFirst B us b
    → IsFirst (λ k u. A k u ⊎ B k u) us (earlier a b)
first-of-both A B us None None x y = none
  where
    none : (place : ℕ) (u : Unit) → slice_get us place ≡ Some u → A place u ⊎ B place u → ⊥
    none place u at (inl h) = x place u at h
    none place u at (inr h) = y place u at h
first-of-both A B us None (Some b) x (u, at, holds, before) = (u, at, inr holds, none)
  where
    none : (k : ℕ) → k < b → (v : Unit) → slice_get us k ≡ Some v → A k v ⊎ B k v → ⊥
    none k below v there (inl h) = x k v there h
    none k below v there (inr h) = before k below v there h
first-of-both A B us (Some a) None (u, at, holds, before) y = (u, at, inl holds, none)
  where
    none : (k : ℕ) → k < a → (v : Unit) → slice_get us k ≡ Some v → A k v ⊎ B k v → ⊥
    none k below v there (inl h) = before k below v there h
    none k below v there (inr h) = y k v there h
first-of-both A B us (Some a) (Some b) x y = by (nat_lt b a) refl
  where
    none : (m k : ℕ) → k < m → m ≤ a → m ≤ b → (v : Unit) → slice_get us k ≡ Some v → A k v ⊎ B k v → ⊥
    none m k below one other v there (inl h) = x.3 k (omega (arith, below, one)) v there h
    none m k below one other v there (inr h) = y.3 k (omega (arith, below, other)) v there h

    by : (t : Bool) → nat_lt b a ≡ t → IsFirst (λ k u. A k u ⊎ B k u) us (if t then Some b else Some a)
    by true e = let less : b < a = grind (arith, e) in (y.0, y.1, inr y.2, λ k below. none b k below (omega (arith, less)) (omega arith))
    by false e = let least : a ≤ b = grind (arith, e) in (x.0, x.1, inl x.2, λ k below. none a k below (omega arith) (omega (arith, least)))

module _ (p : Program) (naming : IsFirst (λ place u. breaks_naming p place u ≡ true) p.units None) where
  taken-name : (us : List Unit) (rest : List Name) (k j : ℕ) (u : Unit) (n : Name) → slice_get us k ≡ Some u → k < j → u.name ≡ n
      → is_named (map (λ (v : Unit). v.name) (take j us) ++ rest) n ≡ true
  taken-name [] rest k j u n at below same = cc
  taken-name (v ∷ us) rest zero zero u n at below same = absurd (omega (arith, below))
  taken-name (v ∷ us) rest zero (suc j) u n at below same =
      let here : v ≡ u = cc in
      ap (λ b. b || is_named (map (λ (w : Unit). w.name) (take j us) ++ rest) n)
      (ap (λ (w : Unit). same_name w.name n) here ∙ ap (λ m. same_name m n) same ∙ same-self n)
  taken-name (v ∷ us) rest (suc k) zero u n at below same = absurd (omega (arith, below))
  taken-name (v ∷ us) rest (suc k) (suc j) u n at below same
      = or_right (same_name v.name n) _ (taken-name us rest k j u n at (omega (arith, below)) same)

  -- a unit isn't later than another of its name
  not-later : (j m : ℕ) (u v : Unit) → slice_get p.units j ≡ Some u → slice_get p.units m ≡ Some v → v.name ≡ u.name → m ≤ j
  not-later j m u v at there same = by (le-or m j)
    where
      by : (m ≤ j) ⊎ (j < m) → m ≤ j
      by (inl h) = h
      by (inr h) = absurd (naming m v there
          (or_left _ _ (or_left _ _ (or_left _ _
          (or_left _ _ (or_left _ _ (taken-name p.units (flat_map (λ (w : Unit). inner_names w.form) (take m p.units)) j m u v.name at h
          (sym same))))))))

  module _ (unit : Name → Option ℕ) (units : (n : Name) → unit n ≡ place_from 0 n (map (λ (u : Unit). u.name) p.units)) where
    -- a unit has a place by its name, and what stands there has the name
    unit-place : (j : ℕ) (u : Unit) → slice_get p.units j ≡ Some u → (k : ℕ) × (unit u.name ≡ Some k) × (k ≤ j)
    unit-place j u at =
        let l = name-none-later 0 (map (λ (v : Unit). v.name) p.units) u.name j (at-map (λ (v : Unit). v.name) p.units j u at) in
        let y = l.2 in (l.0, units u.name ∙ l.1, omega (arith, y))

    unit-stands : (n : Name) (k : ℕ) → unit n ≡ Some k → slice_get (map (λ (u : Unit). u.name) p.units) k ≡ Some n
    unit-stands n k e =
        let r = name-placed 0 (map (λ (u : Unit). u.name) p.units) n k (sym (units n) ∙ e) in
        let y = r.1 in
        let same : r.0 ≡ k = omega (arith, y) in
        let P : ℕ → Type 0 = λ z. slice_get (map (λ (u : Unit). u.name) p.units) z ≡ Some n in subst P same r.2

    -- of the operations
    module _ (cs : List Caller) (made : cs ≡ callers sort.Passive p) (place : OpName → Option ℕ)
        (placed : (n : OpName) → place n ≡ op_place_from 0 (names cs) n) (step : ℕ → ℕ → Bool)
        (stepped : (a b : ℕ) → step a b ≡ is_step (length (names cs)) (caller_edges place cs) a b)
      where
        abbrev HasRing : Unit → Type 0
        HasRing u = (op : Name) × IsOnRing (Calls p) (record { object = u.name; op = op })

        made-ring : (n : OpName) → IsOnRing (Calls p) n → IsOnRing (Makes cs) n
        made-ring n h = let P : List Caller → Type 0 = λ ds. IsOnRing (Makes ds) n in subst P (sym made) (made_ring p n h)

        of-ring : (n : OpName) → IsOnRing (Makes cs) n → IsOnRing (Calls p) n
        of-ring n h = let P : List Caller → Type 0 = λ ds. IsOnRing (Makes ds) n in ring_of p n (subst P made h)

        -- an operation on a ring has a place on one
        placed-ring : (n : OpName) → IsOnRing (Calls p) n → (q : ℕ) × (place n ≡ Some q) × IsOnRing (Goes step) q
        placed-ring n h = by (made-ring n h)
          where
            on : (q : ℕ) → place n ≡ Some q → IsOnRing (Makes cs) n → IsOnRing (Goes step) q
            on q at ring =
                ring_of_places (names cs) place (Makes cs) step (op-stands cs place placed) (op-forth cs place placed step stepped)
                (op-back cs place placed step stepped) (op-source cs place placed) n q at ring

            by : IsOnRing (Makes cs) n → (q : ℕ) × (place n ≡ Some q) × IsOnRing (Goes step) q
            by ([], k) = let r = op-source cs place placed n n k in (r.0, r.1, on r.0 r.1 ([], k))
            by (via ∷ path, k) = let r = op-source cs place placed n via k.0 in (r.0, r.1, on r.0 r.1 (via ∷ path, k))

        caller-at : (n : OpName) (q : ℕ) → place n ≡ Some q → (c : Caller) × (slice_get (callers sort.Passive p) q ≡ Some c) × (c.name ≡ n)
        caller-at n q at =
            let r = map-at (λ (c : Caller). c.name) cs q n (op-stands cs place placed n q at) in
            let P : List Caller → Type 0 = λ ds. slice_get ds q ≡ Some r.0 in (r.0, subst P made r.1, r.2)

        pub ops-first : (first : Option ℕ) → IsFirstOnRing step first → IsFirst (λ k u. HasRing u) p.units (unit_at unit cs first)
        ops-first None none = λ j u at broken.
            let r = placed-ring (record { object = u.name; op = broken.0 }) broken.1 in none r.0 r.2
        ops-first (Some first) (ring, none) =
            let r = ring_of_names (names cs) place (Makes cs) step (op-stands cs place placed) (op-forth cs place placed step stepped)
            (op-back cs place placed step stepped) (op-source cs place placed) first ring in
            let c = caller-at r.0 first r.1 in
            let own = flat-at (unit_callers sort.Passive) p.units first c.0 c.1 in
            let mine : c.0.name.object ≡ own.1.name = of-unit sort.Passive own.1 own.3.0 c.0 own.3.1 in
            let k = unit-place own.0 own.1 own.2 in
            let P : List Caller → Type 0 = λ ds. slice_get ds first ≡ Some c.0 in
            let told : unit_at unit cs (Some first) ≡ Some k.0 = ap (unit_by unit) (subst P (sym made) c.1) ∙ ap unit mine ∙ k.1 in
            let u = map-at (λ (v : Unit). v.name) p.units k.0 own.1.name (unit-stands own.1.name k.0 k.1) in
            let named : r.0.object ≡ u.0.name = sym (ap (λ (n : OpName). n.object) c.2) ∙ mine ∙ sym u.2 in
            let R : Name → Type 0 = λ n. IsOnRing (Calls p) (record { object = n; op = r.0.op }) in
            let Q : Option ℕ → Type 0 = IsFirst (λ j v. HasRing v) p.units in
            subst Q (sym told) (
              u.0,
              u.1,
              (r.0.op, subst R named (of-ring r.0 r.2)),
              λ j below v there broken.
                  let s = placed-ring (record { object = v.name; op = broken.0 }) broken.1 in
                  let late : first ≤ s.0 = not-before first s.0 (λ less. none s.0 less s.2) in
                  let d = caller-at (record { object = v.name; op = broken.0 }) s.0 s.1 in
                  let o = in-order (unit_callers sort.Passive) p.units first s.0 c.0 d.0 late c.1 d.1 in
                  let here : c.0.name.object ≡ o.3.0.name = of-unit sort.Passive o.3.0 o.3.2.0 c.0 o.3.2.1 in
                  let other : d.0.name.object ≡ o.4.0.name = of-unit sort.Passive o.4.0 o.4.2.0 d.0 o.4.2.1 in
                  let l = unit-place o.0 o.3.0 o.3.1 in
                  let one : Some l.0 ≡ Some k.0 = sym l.1 ∙ ap unit (sym here ∙ mine) ∙ k.1 in
                  let equal : l.0 ≡ k.0 = cc in
                  let within = not-later j o.1 v o.4.0 there o.4.1 (sym other ∙ ap (λ (n : OpName). n.object) d.2) in
                  let y = o.2 in
                  let z = l.2 in
                  absurd (omega (arith, below, equal, within, y, z)),
            )

    -- of protected units
    module _ (cs : List Caller) (made : cs ≡ callers sort.Shared p) (step : ℕ → ℕ → Bool)
        (stepped : (a b : ℕ) → step a b ≡ is_step (length (map (λ (u : Unit). u.name) p.units)) (caller_edges (λ n. unit n.object) cs) a b)
      where
        abbrev Steps : Name → Name → Type 0
        Steps a b = list_any (unit_calls a b) cs ≡ true

        unit-source : (a b : Name) → Steps a b → (k : ℕ) × (unit a ≡ Some k)
        unit-source a b h =
            let r = any_place (unit_calls a b) cs h in
            let P : List Caller → Type 0 = λ ds. slice_get ds r.0 ≡ Some r.1 in
            let own = flat-at (unit_callers sort.Shared) p.units r.0 r.1 (subst P made r.2) in
            let mine : r.1.name.object ≡ own.1.name = of-unit sort.Shared own.1 own.3.0 r.1 own.3.1 in
            let named = same-is r.1.name.object a (and_parts (same_name r.1.name.object a) (list_any (λ k. same_name b k.object) r.1.calls) r.3).0 in
            let k = unit-place own.0 own.1 own.2 in (k.0, ap unit (sym named ∙ mine) ∙ k.1)

        unit-forth : (a c : Name) (k l : ℕ) → Steps a c → unit a ≡ Some k → unit c ≡ Some l → step k l ≡ true
        unit-forth = forth (λ n. n.object) same_name same-is same-self cs unit (map (λ (u : Unit). u.name) p.units) unit-stands step stepped

        unit-back : (k l : ℕ) → step k l ≡ true → (a c : Name) × (unit a ≡ Some k) × (unit c ≡ Some l) × Steps a c
        unit-back = back (λ n. n.object) same_name same-is same-self cs unit (map (λ (u : Unit). u.name) p.units) unit-stands step stepped

        steps-ring : (n : Name) → IsOnRing (CallsUnit p) n → IsOnRing Steps n
        steps-ring n h = let P : List Caller → Type 0 = λ ds. IsOnRing (λ a b. list_any (unit_calls a b) ds ≡ true) n in
            subst P (sym made) (units_ring p n h)

        of-steps : (n : Name) → IsOnRing Steps n → IsOnRing (CallsUnit p) n
        of-steps n h = let P : List Caller → Type 0 = λ ds. IsOnRing (λ a b. list_any (unit_calls a b) ds ≡ true) n in
            ring_of_units p n (subst P made h)

        -- a unit on a ring has a place on one, none later
        place-on : (j : ℕ) (u : Unit) → slice_get p.units j ≡ Some u → IsOnRing (CallsUnit p) u.name → (k : ℕ) × (k ≤ j) × IsOnRing (Goes step) k
        place-on j u at h =
            let k = unit-place j u at in (
              k.0,
              k.2,
              ring_of_places (map (λ (v : Unit). v.name) p.units) unit Steps step unit-stands unit-forth unit-back unit-source u.name k.0 k.1
                  (steps-ring u.name h),
            )

        pub objects-first : (first : Option ℕ) → IsFirstOnRing step first → IsFirst (λ k u. IsOnRing (CallsUnit p) u.name) p.units first
        objects-first None none = λ j u at broken. let r = place-on j u at broken in none r.0 r.2
        objects-first (Some first) (ring, none) =
            let r = ring_of_names (map (λ (v : Unit). v.name) p.units) unit Steps step unit-stands unit-forth unit-back unit-source first ring in
            let u = map-at (λ (v : Unit). v.name) p.units first r.0 (unit-stands r.0 first r.1) in
            let P : Name → Type 0 = IsOnRing (CallsUnit p) in (
              u.0,
              u.1,
              subst P (sym u.2) (of-steps r.0 r.2),
              λ j below v there broken.
                  let s = place-on j v there broken in
                  let y = s.1 in none s.0 (omega (arith, below, y)) s.2,
            )
