-- The place of a name in a list: it is one of the places, and that of a name which no earlier one is the same as.
use Rattle.std.proofs.Common.{◌≡◌, ℕ, zero, suc, true, false, not, List, [], ◌∷◌, ◌++◌, map, length, Option, Some, None, refl, sym, ap, subst}
use Rattle.std.proofs.Common.{◌∙◌, arith}
use Rattle.std.specs.Prelude.{◌+◌, ◌<◌, slice_get, option_map, option_and_then, unwrap_or, if◌then◌else◌}
use Rattle.std.proofs.lemmas.Bool.{and_parts, or_parts, ne_eqb, not-true}
use Rattle.std.proofs.lemmas.List.{length-map}
use Rattle.std.proofs.lemmas.Option.{none-some, same_Some, slice_get_within}
use Rattle.seq_tree.specs.Names.{Name, same_name, is_named, are_distinct}
use Rattle.seq_tree.specs.Operations.{Signature}
use Rattle.ada_tree.specs.Programs.{Unit, Program}
use Rattle.ada_tree.specs.Bodies.{heads, data_of}
use Rattle.ada_tree.specs.Rules.{MeetsRules}
use Rattle.trace_tree.specs.Lines.{unit_name, unit_ops}
use Rattle.trace_tree.specs.Placed.{IsUnit, IsOp}
use Rattle.law_lists.proofs.Shared.Facts.{is-same}
use Rattle.law_trace_places.proofs.Shared.Units.{item-at, name-is, unit-names, own-distinct}
use Rattle.name_sets.proofs.Shared.PlaceLaws.{name-placed}
use Rattle.name_sets.specs.FirstPlaces.{place_from}
use Rattle.trace_read.specs.Names.{head_names, unit_of_name, op_of_name}
use Rattle.law_traces.proofs.Shared.Finding.{same-turned}

pub place-below : (names : List Name) (i k : ℕ) (n : Name) → place_from i n names ≡ Some k → k < i + length names
place-below names i k n e =
    let r = name-placed i names n k e in let here = r.1 in let h = slice_get_within names r.0 n r.2 in omega (arith, here, h)

place-at : (names : List Name) (i k : ℕ) (n : Name) → slice_get names k ≡ Some n
    → ((j : ℕ) (m : Name) → j < k → slice_get names j ≡ Some m → same_name m n ≡ false) → place_from i n names ≡ Some (i + k)
place-at [] i k n at before = absurd (none-some n at)
place-at (m ∷ names) i zero n at before =
    ap (λ b. if b then Some i else place_from (suc i) n names) (is-same m n (same_Some m n at))
    ∙ ap (λ z. Some z) (let z : i ≡ i + zero = omega arith in z)
place-at (m ∷ names) i (suc k) n at before =
    ap (λ b. if b then Some i else place_from (suc i) n names) (before zero m (omega arith) refl)
    ∙ place-at names (suc i) k n at (λ j x h e. before (suc j) x (omega (arith, h)) e)
    ∙ ap (λ z. Some z) (let z : suc i + k ≡ i + suc k = omega arith in z)

map-at : {A B : Type 0} (f : A → B) (xs : List A) (k : ℕ) (x : A) → slice_get xs k ≡ Some x → slice_get (map f xs) k ≡ Some (f x)
map-at f [] k x at = absurd (none-some x at)
map-at f (y ∷ ys) zero x at = ap (λ o. option_map f o) at
map-at f (y ∷ ys) (suc k) x at = map-at f ys k x at

at-map : {A B : Type 0} (f : A → B) (xs : List A) (k : ℕ) (y : B) → slice_get (map f xs) k ≡ Some y → (x : A) × (slice_get xs k ≡ Some x) × (y ≡ f x)
at-map f [] k y at = absurd (none-some y at)
at-map f (x ∷ xs) zero y at = (x, refl, sym (same_Some (f x) y at))
at-map f (x ∷ xs) (suc k) y at = at-map f xs k y at

-- UNITS
pub unit-back : (p : Program) → MeetsRules p → (k : ℕ) → IsUnit p k → unit_of_name p (unit_name p k) ≡ Some k
unfolding unit_of_name
unit-back p meets k h =
    let u = item-at p.units k h in
    place-at (map (λ (x : Unit). x.name) p.units) 0 k (unit_name p k)
    (map-at (λ (x : Unit). x.name) p.units k u.0 u.1 ∙ ap (λ n. Some n) (sym (name-is p k u.0 u.1)))
    (λ j m less at. let v = at-map (λ (x : Unit). x.name) p.units j m at in
    ap (λ n. same_name n (unit_name p k)) (v.2 ∙ sym (name-is p j v.0 v.1))
    ∙ unit-names p meets j k (slice_get_within p.units j v.0 v.1) h ∙ ne_eqb j k (λ e. let z : j ≡ k = e in absurd (omega (arith, z, less))))
    ∙ ap (λ z. Some z) (let z : 0 + k ≡ k = omega arith in z)

pub unit-below : (p : Program) (k : ℕ) (n : Name) → unit_of_name p n ≡ Some k → IsUnit p k
unfolding unit_of_name
unit-below p k n e =
    let h = place-below (map (λ (x : Unit). x.name) p.units) 0 k n e in
    let l = length-map p.units (λ x. x.name) in
    let g : 0 + length (map (λ (x : Unit). x.name) p.units) ≡ length p.units = omega (arith, l) in subst (λ z. k < z) g h

-- OPERATIONS
named-not : (names more : List Name) (k : ℕ) (m n : Name) → is_named (names ++ more) m ≡ false → slice_get names k ≡ Some n → same_name n m ≡ false
named-not [] more k m n e at = absurd (none-some n at)
named-not (x ∷ names) more zero m n e at = ap (λ z. same_name z m) (sym (same_Some x n at)) ∙ (or_parts (same_name x m) _ e).0
named-not (x ∷ names) more (suc k) m n e at = named-not names more k m n (or_parts (same_name x m) _ e).1 at

distinct-at : (names more : List Name) → are_distinct (names ++ more) ≡ true → (j k : ℕ) (m n : Name) → j < k → slice_get names j ≡ Some m
    → slice_get names k ≡ Some n → same_name m n ≡ false
distinct-at [] more d j k m n less at to = absurd (none-some m at)
distinct-at (x ∷ names) more d zero zero m n less at to = absurd (omega (arith, less))
distinct-at (x ∷ names) more d zero (suc k) m n less at to =
    let p = and_parts (not (is_named (names ++ more) x)) _ d in
    ap (λ z. same_name z n) (sym (same_Some x m at)) ∙ same-turned n x (named-not names more k x n (not-true _ p.0) to)
distinct-at (x ∷ names) more d (suc j) zero m n less at to = absurd (omega (arith, less))
distinct-at (x ∷ names) more d (suc j) (suc k) m n less at to =
    distinct-at names more (and_parts (not (is_named (names ++ more) x)) _ d).1 j k m n (omega (arith, less)) at to

abbrev pub op-name : Program → ℕ → ℕ → Name
op-name p unit op = unwrap_or (option_map (λ (o : Signature). o.name) (slice_get (unit_ops p unit) op)) []

pub op-back : (p : Program) → MeetsRules p → (unit op : ℕ) → IsUnit p unit → IsOp p unit op → op_of_name p unit (op-name p unit op) ≡ Some op
unfolding op_of_name unit_ops
op-back p meets unit op h i =
    let u = item-at p.units unit h in
    let ops : unit_ops p unit ≡ heads u.0.form = ap (λ o. unwrap_or (option_map (λ (z : Unit). heads z.form) o) []) u.1 in
    let s = item-at (heads u.0.form) op (subst (λ (hs : List Signature). op < length hs) ops i) in
    let name : op-name p unit op ≡ s.0.name =
    ap (λ hs. unwrap_or (option_map (λ (o : Signature). o.name) (slice_get hs op)) []) ops
    ∙ ap (λ o. unwrap_or (option_map (λ (z : Signature). z.name) o) []) s.1 in
    ap (λ o. option_and_then (λ (z : Unit). place_from 0 (op-name p unit op) (head_names z.form)) o) u.1
    ∙ ap (λ n. place_from 0 n (head_names u.0.form)) name
    ∙ place-at (head_names u.0.form) 0 op s.0.name (map-at (λ (z : Signature). z.name) (heads u.0.form) op s.0 s.1)
    (λ j m less at. distinct-at (head_names u.0.form) (map (λ d. d.name) (data_of u.0.form)) (own-distinct p meets unit u.0 u.1) j op m s.0.name less at
    (map-at (λ (z : Signature). z.name) (heads u.0.form) op s.0 s.1))
    ∙ ap (λ z. Some z) (let z : 0 + op ≡ op = omega arith in z)

pub op-below : (p : Program) (unit op : ℕ) (n : Name) → op_of_name p unit n ≡ Some op → IsOp p unit op
unfolding op_of_name unit_ops
op-below p unit op n e = by (slice_get p.units unit) refl e
  where
    by : (o : Option Unit) → slice_get p.units unit ≡ o → option_and_then (λ (z : Unit). place_from 0 n (head_names z.form)) o ≡ Some op → IsOp p unit op
    by None at g = absurd (none-some op g)
    by (Some u) at g =
        let ops : unit_ops p unit ≡ heads u.form = ap (λ o. unwrap_or (option_map (λ (z : Unit). heads z.form) o) []) at in
        let h = place-below (head_names u.form) 0 op n g in
        let l = length-map (heads u.form) (λ z. z.name) in
        let below : op < length (heads u.form) =
        let k : 0 + length (head_names u.form) ≡ length (heads u.form) = omega (arith, l) in subst (λ z. op < z) k h in
        subst (λ (hs : List Signature). op < length hs) (sym ops) below
