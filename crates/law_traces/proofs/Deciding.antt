-- Laws of what decides: of two facts, of each of a list, of equal facts.
use Rattle.std.proofs.Common.{◌≡◌, ℕ, ◌≤◌, ◌<◌, Bool, true, false, not, ◌&&◌, ◌||◌, List, [], ◌∷◌, Option, Some, None, refl, ap, arith}
use Rattle.std.specs.Prelude.{nat_le, nat_lt, ◌==◌}
use Rattle.std.specs.Bool.{Decides}
use Rattle.std.specs.List.{list_all}
use Rattle.std.proofs.lemmas.Bool.{and_from, and_parts, eqb-true, eq-eqb}
use Rattle.seq_tree.specs.Lists.{Each}
use Rattle.law_walks.specs.Walks.{same_value}

pub decides-and : (a b : Bool) (A B : Type 0) → Decides a A → Decides b B → Decides (a && b) (A × B)
decides-and a b A B f g =
    (λ e. let p = and_parts a b e in (f.0 p.0, g.0 p.1), λ h. and_from a b (f.1 h.0) (g.1 h.1))

pub decides-same : (a : Bool) (A B : Type 0) → (A → B) → (B → A) → Decides a A → Decides a B
decides-same a A B to back f = (λ e. to (f.0 e), λ h. f.1 (back h))

pub decides-yes : (A : Type 0) → A → Decides true A
decides-yes A h = (λ e. h, λ h. refl)

pub decides-no : (A : Type 0) → (A → ⊥) → Decides false A
decides-no A never = (λ e. cc, λ h. absurd (never h))

pub decides-le : (a b : ℕ) → Decides (nat_le a b) (a ≤ b)
decides-le a b = (λ e. grind (arith, e), λ h. grind (arith, h))

pub decides-lt : (a b : ℕ) → Decides (nat_lt a b) (a < b)
decides-lt a b = (λ e. grind (arith, e), λ h. grind (arith, h))

pub decides-eq : (a b : ℕ) → Decides (a == b) (a ≡ b)
decides-eq a b = (λ e. eqb-true a b e, λ h. eq-eqb a b h)

pub decides-value : (v w : Option ℕ) → Decides (same_value v w) (v ≡ w)
decides-value None None = (λ e. refl, λ h. refl)
decides-value None (Some w) = (λ e. cc, λ h. cc)
decides-value (Some v) None = (λ e. cc, λ h. cc)
decides-value (Some v) (Some w) = (λ e. ap Some (eqb-true v w e), λ h. eq-eqb v w cc)

pub decides-each : {A : Type 0} (test : A → Bool) (P : A → Type 0) (xs : List A) → Each (λ x. Decides (test x) (P x)) xs
    → Decides (list_all test xs) (Each P xs)
decides-each test P [] h = decides-yes _ tt
decides-each test P (x ∷ xs) h = decides-and (test x) (list_all test xs) (P x) (Each P xs) h.0 (decides-each test P xs h.1)

-- a condition, where it is there
pub decides-where : (a b : Bool) (B : Type 0) → Decides b B → Decides (not a || b) (a ≡ true → B)
decides-where true b B f = (λ e given. f.0 e, λ h. f.1 (h refl))
decides-where false b B f = (λ e given. absurd (let wrong : false ≡ true = given in cc), λ h. refl)

-- a fact of each item
pub each-of : {A : Type 0} (P : A → Type 0) → ((x : A) → P x) → (xs : List A) → Each P xs
each-of P all [] = tt
each-of P all (x ∷ xs) = (all x, each-of P all xs)

pub each-map : {A : Type 0} (P Q : A → Type 0) → ((x : A) → P x → Q x) → (xs : List A) → Each P xs → Each Q xs
each-map P Q to [] h = tt
each-map P Q to (x ∷ xs) h = (to x h.0, each-map P Q to xs h.1)

pub each-both : {A : Type 0} (P Q R : A → Type 0) → ((x : A) → P x → Q x → R x) → (xs : List A) → Each P xs → Each Q xs → Each R xs
each-both P Q R to [] h i = tt
each-both P Q R to (x ∷ xs) h i = (to x h.0 i.0, each-both P Q R to xs h.1 i.1)
