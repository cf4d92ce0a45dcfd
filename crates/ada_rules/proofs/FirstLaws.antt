-- Going over units until something holds of one.
use Rattle.std.proofs.Common.{◌≡◌, ℕ, ◌+◌, ◌<◌, ◌≤◌, Bool, true, false, List, ◌∷◌, [], ◌++◌, length, map, take, Some, None, option_map}
use Rattle.std.proofs.Common.{slice_get, refl, sym, ap, subst, ◌∙◌, arith, below_more}
use Rattle.std.proofs.Math.ListN.{get_or}
use Rattle.std.proofs.lemmas.Option.{get_or_from_slice_get, slice_get-map, slice_get_read, slice_get_within}
use Rattle.std.proofs.lemmas.List.{length-map}
use Rattle.ada_tree.specs.Programs.{Unit}
use Rattle.ada_tree.specs.Trees.{unit_of}
use Rattle.ada_tree.specs.declared.program.Unit as code
use Rattle.ada_rules.specs.Firsts.{NoneBefore, IsFirst}
use Rattle.seq_tree.proofs.Shared.LoopSteps.{take_step}

-- the unit at a place
pub unit_at : (us : List code.Unit) (i : ℕ) (x : code.Unit) → i < length us → x ≡ get_or us i x → slice_get (map unit_of us) i ≡ Some (unit_of x)
unit_at us i x inside at = slice_get-map unit_of us i ∙ ap (option_map unit_of) (slice_get_read us (length us) i x refl inside at)

-- units up to a place and with it
pub take_unit : (us : List Unit) (i : ℕ) (u : Unit) → slice_get us i ≡ Some u → take (i + 1) us ≡ take i us ++ u ∷ []
take_unit us i u h = take_step us i u (slice_get_within us i u h) (sym (get_or_from_slice_get us i u u h))

-- it does not hold here either
pub none_more : (P : ℕ → Unit → Type 0) (us : List Unit) (i : ℕ) (u : Unit) → slice_get us i ≡ Some u → (P i u → ⊥) → NoneBefore P us i
    → NoneBefore P us (i + 1)
none_more P us i u at fails before =
    below_more (λ k. (v : Unit) → slice_get us k ≡ Some v → P k v → ⊥) i before
    (λ v found broken. let e : v ≡ u = cc in fails (let Q : Unit → Type 0 = λ w. P i w in subst Q e broken))

-- it holds of none
pub none_at_all : (P : ℕ → Unit → Type 0) (us all : List code.Unit) (i : ℕ) → us ≡ all → length us ≤ i → NoneBefore P (map unit_of us) i
    → IsFirst P (map unit_of all) None
none_at_all P us all i same end before = λ place u found broken.
    let here : slice_get (map unit_of us) place ≡ Some u = ap (λ xs. slice_get (map unit_of xs) place) same ∙ found in
    let within : place < length (map unit_of us) = slice_get_within (map unit_of us) place u here in
    before place (omega (arith, within, end, length-map us unit_of)) u here broken

-- a test that fails at a place
pub passes : (f : ℕ → Unit → Bool) (us : List code.Unit) (i : ℕ) (x : code.Unit) (b : Bool) → i < length us → x ≡ get_or us i x → b ≡ f i (unit_of x)
    → b ≡ false →
    NoneBefore (λ k u. f k u ≡ true) (map unit_of us) i → NoneBefore (λ k u. f k u ≡ true) (map unit_of us) (i + 1)
passes f us i x b inside at told fails before =
    none_more (λ k u. f k u ≡ true) (map unit_of us) i (unit_of x) (unit_at us i x inside at) (λ holds. let h : false ≡ true
    = sym fails ∙ told ∙ holds in cc) before

-- it holds at a place, and at none before
pub first_at : (P : ℕ → Unit → Type 0) (us all : List code.Unit) (i : ℕ) (x : code.Unit) → us ≡ all → i < length us → x ≡ get_or us i x
    → P i (unit_of x) →
    NoneBefore P (map unit_of us) i → IsFirst P (map unit_of all) (Some i)
first_at P us all i x same inside at holds before =
    let First : List code.Unit → Type 0 = λ xs. IsFirst P (map unit_of xs) (Some i)
    in subst First same (unit_of x, unit_at us i x inside at, holds, before)

-- a test that holds at a place, and at none before
pub stops : (f : ℕ → Unit → Bool) (us all : List code.Unit) (i : ℕ) (x : code.Unit) (b : Bool) → us ≡ all → i < length us → x ≡ get_or us i x
    → b ≡ f i (unit_of x) → b ≡ true →
    NoneBefore (λ k u. f k u ≡ true) (map unit_of us) i → IsFirst (λ k u. f k u ≡ true) (map unit_of all) (Some i)
stops f us all i x b same inside at told holds before =
    first_at (λ k u. f k u ≡ true) us all i x same inside at (sym told ∙ holds) before
