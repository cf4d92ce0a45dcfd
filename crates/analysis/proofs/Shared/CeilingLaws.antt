-- The ceiling of what a protected object calls is at least its own, and at least the priority of each thread that uses it.
use Rattle.std.proofs.Common.{◌≡◌, ℕ, zero, suc, ◌≤◌, max, Bool, true, false, ◌||◌, List, [], ◌∷◌, length, map, flat_map, filter, refl}
use Rattle.std.proofs.Common.{sym, ap, subst, arith, inl, inr, ◌⊎◌}
use Rattle.std.specs.Prelude.{fold}
use Rattle.std.specs.List.{list_any}
use Rattle.std.proofs.lemmas.List.{length-map}
use Rattle.std.proofs.lemmas.Bool.{or_cases, or_right}
use Rattle.seq_tree.specs.Names.{Name}
use Rattle.seq_tree.specs.Calls.{same_op}
use Rattle.seq_tree.specs.Rings.{LeadsTo}
use Rattle.seq_tree.specs.declared.tree.OpName.{OpName}
use Rattle.seq_tree.proofs.Shared.Walks.{IsIn, Step, within, within-here, within-step, within-leads, reaches-among, targets_in, from_flat_map}
use Rattle.seq_tree.proofs.Shared.Walks.{same_op-eq, same_op-refl}
use Rattle.ods_tree.specs.Flats.{Guarded, Flat}
use Rattle.analysis.specs.Ceilings.{greatest_user, calls_from_inside, ceiling_within, ceiling}

-- an object as a node
abbrev pub node : Name → OpName
node name = record { object = name; op = name }

-- the greatest of numbers is none below one of them
base-below : (b : ℕ) (ns : List ℕ) → b ≤ fold max b ns
base-below b [] = omega arith
base-below b (n ∷ ns) = let h = base-below (max b n) ns in grind (arith, h)

fold-mono : (a b : ℕ) (ns : List ℕ) → a ≤ b → fold max a ns ≤ fold max b ns
fold-mono a b [] h = h
fold-mono a b (n ∷ ns) h = fold-mono (max a n) (max b n) ns (grind (arith, h))

head-below : (b n : ℕ) (ns : List ℕ) → n ≤ fold max b (n ∷ ns)
head-below b n ns = let h = base-below (max b n) ns in grind (arith, h)

tail-below : (b n : ℕ) (ns : List ℕ) → fold max b ns ≤ fold max b (n ∷ ns)
tail-below b n ns = fold-mono b (max b n) ns (grind arith)

nodes_of : List Guarded → List OpName
nodes_of gs = map (λ g. node g.name) gs

-- a value of one of some objects is none above the greatest
one-below : (X : Name → ℕ) (b : ℕ) (gs : List Guarded) (e : OpName) → IsIn (map (λ g. node g.name) gs) e
    → X e.object ≤ fold max b (map (λ g. X g.name) gs)
one-below X b [] e h = cc
one-below X b (g ∷ gs) e h = by (one-below X b gs e) (or_cases (same_op e (node g.name)) (list_any (same_op e) (map (λ q. node q.name) gs)) h)
  where
    by : (IsIn (map (λ q. node q.name) gs) e → X e.object ≤ fold max b (map (λ q. X q.name) gs)) → (same_op e (node g.name) ≡ true)
        ⊎ IsIn (map (λ q. node q.name) gs) e
        → X e.object ≤ fold max b (map (λ q. X q.name) (g ∷ gs))
    by rest (inl s) =
        let P : OpName → Type 0 = λ y. X y.object ≤ fold max b (map (λ q. X q.name) (g ∷ gs)) in
        subst P (sym (same_op-eq e (node g.name) s)) (head-below b (X g.name) (map (λ q. X q.name) gs))
    by rest (inr s) = let h' = rest s in let k = tail-below b (X g.name) (map (λ q. X q.name) gs) in omega (arith, h', k)

-- the greatest is none above what none is above
all-below : (X : Name → ℕ) (b most : ℕ) (gs : List Guarded) → b ≤ most → ((e : OpName) → IsIn (map (λ g. node g.name) gs) e → X e.object ≤ most)
    → fold max b (map (λ g. X g.name) gs) ≤ most
all-below X b most [] h each = h
all-below X b most (g ∷ gs) h each =
    let here : X g.name ≤ most = each (node g.name)
    (ap (λ t. t || list_any (same_op (node g.name)) (map (λ q. node q.name) gs)) (same_op-refl (node g.name))) in
    all-below X (max b (X g.name)) most gs (grind (arith, h, here)) (λ e k. each e (or_right (same_op e (node g.name)) _ k))

module _ (f : Flat) (ps : List ℕ) where
  -- the objects that call what a node names
  abbrev pub callers : OpName → List OpName
  callers c = map (λ g. node g.name) (filter (calls_from_inside c.object) f.shared)

  -- a user of what leads up to an object is none above its ceiling
  lower : (d : ℕ) (c m : OpName) → IsIn (within d callers c) m → greatest_user f.threads ps m.object ≤ ceiling_within d f ps c.object
  lower zero c m h = by (or_cases (same_op m c) false h)
    where
      by : (same_op m c ≡ true) ⊎ (false ≡ true) → greatest_user f.threads ps m.object ≤ greatest_user f.threads ps c.object
      by (inl s) =
          let P : OpName → Type 0 = λ y. greatest_user f.threads ps y.object ≤ greatest_user f.threads ps c.object in
          subst P (sym (same_op-eq m c s)) (omega arith)
      by (inr s) = cc
  lower (suc d) c m h = by (λ e. lower d e m) (or_cases (same_op m c) (list_any (same_op m) (flat_map (within d callers) (callers c))) h)
    where
      all : List ℕ
      all = map (λ g. ceiling_within d f ps g.name) (filter (calls_from_inside c.object) f.shared)

      by : ((e : OpName) → IsIn (within d callers e) m → greatest_user f.threads ps m.object ≤ ceiling_within d f ps e.object)
          → (same_op m c ≡ true) ⊎ IsIn (flat_map (within d callers) (callers c)) m
          → greatest_user f.threads ps m.object ≤ ceiling_within (suc d) f ps c.object
      by rest (inl s) =
          let P : OpName → Type 0 = λ y. greatest_user f.threads ps y.object ≤ ceiling_within (suc d) f ps c.object in
          subst P (sym (same_op-eq m c s)) (base-below (greatest_user f.threads ps c.object) all)
      by rest (inr s) =
          let r = from_flat_map (within d callers) (callers c) m s in
          let a = rest r.0 r.2 in
          let b = one-below (ceiling_within d f ps) (greatest_user f.threads ps c.object) (filter (calls_from_inside c.object) f.shared) r.0 r.1 in
          omega (arith, a, b)

  -- what no user of what leads up to an object is above, its ceiling isn't above
  upper : (most d : ℕ) (c : OpName) → ((m : OpName) → IsIn (within d callers c) m → greatest_user f.threads ps m.object ≤ most)
      → ceiling_within d f ps c.object ≤ most
  upper most zero c each = each c (within-here zero callers c)
  upper most (suc d) c each =
      all-below (ceiling_within d f ps) (greatest_user f.threads ps c.object) most (filter (calls_from_inside c.object) f.shared)
      (each c (within-here (suc d) callers c))
      (λ e k.
      let P : OpName → Type 0 = λ y. ceiling_within d f ps y.object ≤ most in
      upper most d e (λ m h. each m (within-step d callers c e m k h)))

  -- every caller is a protected object
  kept_in : (k : Guarded → Bool) (gs : List Guarded) (e : OpName) → IsIn (map (λ g. node g.name) (filter k gs)) e → IsIn (map (λ g. node g.name) gs) e
  kept_in k [] e h = h
  kept_in k (g ∷ gs) e h = by (k g) refl (kept_in k gs e)
    where
      by : (b : Bool) → k g ≡ b → (IsIn (map (λ q. node q.name) (filter k gs)) e → IsIn (map (λ q. node q.name) gs) e)
          → IsIn (map (λ q. node q.name) (g ∷ gs)) e
      by true e' rest = part (or_cases (same_op e (node g.name)) (list_any (same_op e) (map (λ q. node q.name) (filter k gs))) (rw e' at h))
        where
          part : (same_op e (node g.name) ≡ true) ⊎ IsIn (map (λ q. node q.name) (filter k gs)) e → IsIn (map (λ q. node q.name) (g ∷ gs)) e
          part (inl s) = ap (λ t. t || list_any (same_op e) (map (λ q. node q.name) gs)) s
          part (inr s) = or_right (same_op e (node g.name)) _ (rest s)
      by false e' rest = or_right (same_op e (node g.name)) _ (rest (rw e' at h))

  abbrev nodes : List OpName
  nodes = map (λ g. node g.name) f.shared

  caller_in : (a b : OpName) → Step callers a b → IsIn nodes b
  caller_in a b h = kept_in (calls_from_inside a.object) f.shared b h

  many : length nodes ≡ length f.shared
  many = length-map f.shared (λ g. node g.name)

  -- what leads up to a caller leads up to what it calls, within the number of protected objects
  further : (n : ℕ) → length f.shared ≡ n → (c e m : OpName) → Step callers c e → IsIn (within n callers e) m → IsIn (within n callers c) m
  further zero none c e m step h = absurd (empty f.shared none (caller_in c e step))
    where
      empty : (gs : List Guarded) → length gs ≡ 0 → IsIn (map (λ g. node g.name) gs) e → ⊥
      empty [] l k = cc
      empty (g ∷ gs) l k = omega (arith, l)
  further (suc n) count c e m step h = within-step n callers c e m step (by (within-leads (suc n) callers e m h))
    where
      few : length nodes ≤ suc n
      few = omega (arith, many, count)

      by : (same_op m e ≡ true) ⊎ ((path : List OpName) × LeadsTo (Step callers) e path m) → IsIn (within n callers e) m
      by (inl s) = let P : OpName → Type 0 = λ y. IsIn (within n callers e) y in subst P (sym (same_op-eq m e s)) (within-here n callers e)
      by (inr (path, leads)) = (let t = targets_in callers nodes caller_in e m path leads in reaches-among n callers nodes few e m path
          (caller_in c e step) t.0 t.1 leads)

  -- the ceiling of what a protected object calls is at least its own
  pub ceiling-caller : (name caller : Name) → Step callers (node name) (node caller) → ceiling f ps caller ≤ ceiling f ps name
  ceiling-caller name caller step =
      upper (ceiling f ps name) (length f.shared) (node caller)
      (λ m h. lower (length f.shared) (node name) m (further (length f.shared) refl (node name) (node caller) m step h))

  -- and at least the priority of each thread that uses it
  pub ceiling-user : (name : Name) → greatest_user f.threads ps name ≤ ceiling f ps name
  ceiling-user name = lower (length f.shared) (node name) (node name) (within-here (length f.shared) callers (node name))
