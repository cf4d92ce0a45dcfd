-- Names that are added to a scope one after another, from the last to the first.
use Rattle.std.proofs.Common.{◌≡◌, ◌<◌, ◌≤◌, ℕ, ◌-◌, List, [], ◌∷◌, ◌++◌, length, map, drop, get_or, refl, ap, sym, ◌∙◌, arith}
use Rattle.std.proofs.Math.Seq.{drop-length}
use Rattle.seq_tree.specs.Names.{Name}
use Rattle.seq_tree.specs.Variables.{Variables}
use Rattle.seq_tree.proofs.Shared.LoopSteps.{drop_step}
use Rattle.law_flat_code.specs.Codes.{next_slot}
use Rattle.linker.specs.Scopes.{slots_of}
use Rattle.linker.proofs.LinkSteps.{one_on}

next_of : (ns : List Name) → next_slot (slots_of ns) ≡ length ns
next_of [] = refl
next_of (n ∷ ns) = refl

-- before any name is added
pub names_none : {X : Type 0} (name : X → Name) (xs : List X) (ns : List Name) (scope : Variables) → scope ≡ slots_of ns
    → scope ≡ slots_of (map name (drop (length xs) xs) ++ ns)
names_none name xs ns scope e = e ∙ ap (λ ys. slots_of (map name ys ++ ns)) (sym (drop-length xs))

-- one name more
pub names_on : {X : Type 0} (name : X → Name) (xs : List X) (at : ℕ) (x : X) (ns : List Name) (old new : Variables) → 0 < at → at ≤ length xs
    → x ≡ get_or xs (at - 1) x → old ≡ slots_of (map name (drop at xs) ++ ns) → new ≡ (name x, next_slot old) ∷ old
    → new ≡ slots_of (map name (drop (at - 1) xs) ++ ns)
names_on name xs at x ns old new some within is was now =
    let rest = map name (drop at xs) ++ ns in
    let here : drop (at - 1) xs ≡ x ∷ drop at xs =
    drop_step xs (at - 1) x (omega (arith, some, within)) is ∙ ap (λ k. x ∷ drop k xs) (one_on at some) in
    now ∙ ap (λ z. (name x, next_slot z) ∷ z) was ∙ ap (λ k. (name x, k) ∷ slots_of rest) (next_of rest)
    ∙ ap (λ ys. slots_of (map name ys ++ ns)) (sym here)

-- all names are added
pub names_all : {X : Type 0} (name : X → Name) (xs : List X) (at : ℕ) (ns : List Name) (scope : Variables) → at ≡ 0
    → scope ≡ slots_of (map name (drop at xs) ++ ns) → scope ≡ slots_of (map name xs ++ ns)
names_all name xs at ns scope e h = h ∙ ap (λ k. slots_of (map name (drop k xs) ++ ns)) e
