-- That operations and objects of a list have a place, and the objects that stand at places, also as the code keeps them.
use Rattle.std.proofs.Common.{◌≡◌, ℕ, zero, suc, Bool, true, false, if◌then◌else◌, List, [], ◌∷◌, map, option_map, slice_get, Some, None, Bor, inl}
use Rattle.std.proofs.Common.{inr, Option, refl, sym, ap, ◌∙◌}
use Rattle.seq_tree.proofs.Shared.SameNames.{same-self}
use Rattle.seq_tree.proofs.Shared.Walks.{same_op-refl}
use Rattle.seq_tree.specs.Calls.{same_op}
use Rattle.seq_tree.specs.Names.{Name, same_name}
use Rattle.seq_tree.specs.declared.tree.OpName.{OpName}
use Rattle.ods_tree.specs.Designs.{Object}
use Rattle.ods_tree.specs.declared.design.Node.{Node}
use Rattle.design_rules.specs.Broken.{Broken}
use Rattle.ods_index.specs.Nodes.{node_name, node_object}
use Rattle.name_sets.specs.FirstPlaces.{place_where, op_place_from, place_from}
use Rattle.ods_calls.proofs.Items.{In, in-map}

-- what stands in a list and passes a test has a first place
pub in-placed : {A : Type 0} (test : A → Bool) (k : ℕ) (xs : List A) (x : A) → In x xs → test x ≡ true → (p : ℕ) × (place_where test k xs ≡ Some p)
in-placed test k [] x h passes = absurd h
in-placed test k (y ∷ xs) x h passes = by (λ j. in-placed test (suc k) xs x j passes) (test y) refl h
  where
    by : (In x xs → (p : ℕ) × (place_where test (suc k) xs ≡ Some p)) → (t : Bool) → test y ≡ t → In x (y ∷ xs)
        → (p : ℕ) × ((if t then Some k else place_where test (suc k) xs) ≡ Some p)
    by rest true s j = (k, refl)
    by rest false s (inl e) = (let z : false ≡ true = sym s ∙ ap test e ∙ passes in cc)
    by rest false s (inr j) = rest j

-- an operation among these has a place
pub op-in : (k : ℕ) (ops : List OpName) (n : OpName) → In n ops → (p : ℕ) × (op_place_from k ops n ≡ Some p)
op-in k ops n h = in-placed (λ op. same_op op n) k ops n h (same_op-refl n)

-- the names of objects
abbrev pub names-of : List Object → List Name
names-of os = map (λ o. o.name) os

-- an object among these has a place
pub has-place : (k : ℕ) (os : List Object) (o : Object) → In o os → (p : ℕ) × (place_from k o.name (names-of os) ≡ Some p)
has-place k os o h =
    in-placed (λ n. same_name n o.name) k (names-of os) o.name (in-map (λ (q : Object). q.name) o os h) (same-self o.name)

-- what stands at a place of names is the name of an object
pub object-at : (os : List Object) (i : ℕ) (n : Name) → slice_get (names-of os) i ≡ Some n → (o : Object) × In o os × (o.name ≡ n)
    × (slice_get os i ≡ Some o)
object-at [] i n e = cc
object-at (o ∷ os) zero n e = let same : o.name ≡ n = cc in (o, inl refl, same, refl)
object-at (o ∷ os) (suc i) n e = let r = object-at os i n e in (r.0, inr r.1, r.2, r.3)

pub name-at : (os : List Object) (i : ℕ) (o : Object) → slice_get os i ≡ Some o → slice_get (names-of os) i ≡ Some o.name
name-at [] i o e = cc
name-at (q ∷ os) zero o e = let same : q ≡ o = cc in ap (λ z. Some z.name) same
name-at (q ∷ os) (suc i) o e = name-at os i o e

-- what has a place only where a test passes, passes it
pub placed-parts : (b : Bool) (o : Option ℕ) (q : ℕ) → (if b then o else None) ≡ Some q → (b ≡ true) × (o ≡ Some q)
placed-parts true o q e = (refl, e)
placed-parts false o q e = absurd (cc)

-- the names of objects as the code keeps them
pub names-same : (nodes : List (Bor Node)) → map node_name nodes ≡ names-of (map node_object nodes)
names-same [] = refl
names-same (n ∷ nodes) = ap (λ ns. node_name n ∷ ns) (names-same nodes)

-- what is told of an item at a place, by what it stands for
pub tell-same : {A B : Type 0} (see : A → B) (told : B → Broken) (xs : List A) (k : ℕ) (b : B) → slice_get (map see xs) k ≡ Some b
    → option_map (λ a. told (see a)) (slice_get xs k) ≡ Some (told b)
tell-same see told [] k b e = cc
tell-same see told (x ∷ xs) zero b e = let z : Some (see x) ≡ Some b = e in let same : see x ≡ b = cc in ap (λ c. Some (told c)) same
tell-same see told (x ∷ xs) (suc k) b e = tell-same see told xs k b e
