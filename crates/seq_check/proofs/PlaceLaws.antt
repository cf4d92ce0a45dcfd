-- Which names can be assigned inside a loop, and what is found among operations.
use Rattle.std.proofs.Common.{◌≡◌, Bool, true, false, not, ◌&&◌, ◌||◌, List, [], ◌∷◌, map, cond, Option, Some, None, refl, ap, subst}
use Rattle.std.specs.Prelude.{filter, find, option_map}
use Rattle.std.proofs.lemmas.Slice.Eq.{bytes_eq-Decides}
use Rattle.seq_tree.specs.Names.{Name, same_name, is_named}

-- a name other than the loop's is none that is the loop's
apart : (loop name n : Name) → same_name n loop ≡ false → same_name loop name ≡ true → same_name n name ≡ false
apart loop name n other same = subst (λ z. same_name n z ≡ false) ((bytes_eq-Decides loop name).0 same) other

falls_out : (same rest : Bool) → (not same && rest) ≡ (not same && (same || rest))
falls_out true rest = refl
falls_out false rest = refl

stays : (same here rest : Bool) → (same ≡ true → here ≡ false) → (here || (not same && rest)) ≡ (not same && (here || rest))
stays true here rest h = rw (h refl) refl
stays false here rest h = refl

step : (loop name n : Name) (ns : List Name) (same : Bool) → same_name n loop ≡ same →
    is_named (filter (λ n. not (same_name n loop)) ns) name ≡ (not (same_name loop name) && is_named ns name) →
    is_named (filter (λ n. not (same_name n loop)) (n ∷ ns)) name ≡ (not (same_name loop name) && is_named (n ∷ ns) name)
step loop name n ns true e h =
    rw (e, h, ap (λ z. same_name z name) ((bytes_eq-Decides n loop).0 e)) (falls_out (same_name loop name) (is_named ns name))
step loop name n ns false e h = rw (e, h) (stays (same_name loop name) (same_name n name) (is_named ns name) (apart loop name n e))

nothing : (same : Bool) → false ≡ (not same && false)
nothing true = refl
nothing false = refl

-- what can be assigned inside a loop: what can be assigned outside it, but for the loop's name
pub named_inside : (loop name : Name) (names : List Name) → is_named (filter (λ n. not (same_name n loop)) names) name
    ≡ (not (same_name loop name) && is_named names name)
named_inside loop name [] = nothing (same_name loop name)
named_inside loop name (n ∷ ns) = step loop name n ns (same_name n loop) refl (named_inside loop name ns)

found : {A B : Type 0} (f : A → B) (b : Bool) (x : A) (there : Option B) (here : Option A) → there ≡ option_map f here
    → cond b (Some (f x)) there ≡ option_map f (cond b (Some x) here)
found f true x there here h = refl
found f false x there here h = h

pub find-map : {A B : Type 0} (f : A → B) (test : B → Bool) (xs : List A) → find test (map f xs) ≡ option_map f (find (λ x. test (f x)) xs)
find-map f test [] = refl
find-map f test (x ∷ xs) = found f (test (f x)) x (find test (map f xs)) (find (λ y. test (f y)) xs) (find-map f test xs)

pub map-map : {A B C : Type 0} (f : B → C) (g : A → B) (o : Option A) → option_map (λ x. f (g x)) o ≡ option_map f (option_map g o)
map-map f g None = refl
map-map f g (Some x) = refl
