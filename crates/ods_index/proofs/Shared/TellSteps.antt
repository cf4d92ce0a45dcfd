-- What an answer tells, of lists one after another.
use Rattle.std.proofs.Common.{◌≡◌, ◌++◌, Bool, true, false, List, [], ◌∷◌, Option, Some, None, Err, refl, sym, ◌∙◌}
use Rattle.design_rules.specs.Broken.{Broken}
use Rattle.ods_index.specs.Judging.{IsTold, Tells, head_of}
use Rattle.ods_index.specs.Told.{told_of, is_memory}
use Rattle.ods_index.specs.declared.broken.Broken as code

-- the first of two lists is the first of the second where the first is empty
pub head_later : {A : Type 0} (xs ys : List A) → head_of xs ≡ None → head_of (xs ++ ys) ≡ head_of ys
head_later [] ys e = refl
head_later (x ∷ xs) ys e = absurd (cc)

head_earlier : {A : Type 0} (xs ys : List A) (x : A) → head_of xs ≡ Some x → head_of (xs ++ ys) ≡ Some x
head_earlier [] ys x e = absurd (cc)
head_earlier (y ∷ xs) ys x e = e

-- what is told where it is to be told stays told where the same is to be told
same_told : (memory : Bool) (told : Option Broken) (wanted other : Option Broken) → ((b : Broken) → wanted ≡ Some b → other ≡ Some b)
    → IsTold memory told wanted → IsTold memory told other
same_told true told wanted other same h = h
same_told false None wanted other same h = h
same_told false (Some b) wanted other same h = same b h

-- what is told of a front is told of the whole
pub tells_front : (e : code.Broken) (xs ys : List Broken) → Tells (Err e) (head_of xs) → Tells (Err e) (head_of (xs ++ ys))
tells_front e xs ys h = same_told (is_memory e) (told_of e) (head_of xs) (head_of (xs ++ ys)) (λ b. head_earlier xs ys b) h

-- what is told where this is to be told
told_by_cases : (memory : Bool) (told : Option Broken) (b : Broken) (wanted : Option Broken) → memory ≡ false → told ≡ Some b → wanted ≡ Some b
    → IsTold memory told wanted
told_by_cases true told b wanted m t w = absurd (cc)
told_by_cases false None b wanted m t w = absurd (cc)
told_by_cases false (Some c) b wanted m t w = w ∙ sym t

pub tells_this : (e : code.Broken) (b : Broken) (wanted : Option Broken) → is_memory e ≡ false → told_of e ≡ Some b → wanted ≡ Some b
    → Tells (Err e) wanted
tells_this e b wanted m t w = told_by_cases (is_memory e) (told_of e) b wanted m t w

pub ruleset tell_steps = (head_later, tells_front, tells_this)
