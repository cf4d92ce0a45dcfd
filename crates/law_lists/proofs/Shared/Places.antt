-- Items of a list by their places: as one of them changes, as the list grows at its end, and in lists that are made of others.
use Rattle.std.specs.Prelude.{◌≡◌, ◌≢◌, ◌⊎◌, ℕ, zero, suc, List, [], ◌∷◌, ◌++◌, map, zip, set, length, slice_get, Option, Some, None, refl}
use Rattle.std.proofs.Common.{sym, ap, subst, arith, inl, inr, ◌∙◌}
use Rattle.std.proofs.lemmas.Option.{none-some, same_Some}
use Rattle.seq_tree.specs.Lists.{Each, change}

pub change-at : {A : Type 0} (i : ℕ) (f : A → A) (xs : List A) (x : A) → slice_get xs i ≡ Some x → slice_get (change i f xs) i ≡ Some (f x)
change-at i f [] x e = absurd (none-some x e)
change-at zero f (a ∷ xs) x e = ap (λ b. Some (f b)) (same_Some a x e)
change-at (suc i) f (a ∷ xs) x e = change-at i f xs x e

pub change-else : {A : Type 0} (i j : ℕ) (f : A → A) (xs : List A) → j ≢ i → slice_get (change i f xs) j ≡ slice_get xs j
change-else i j f [] other = refl
change-else zero zero f (a ∷ xs) other = absurd (other refl)
change-else zero (suc j) f (a ∷ xs) other = refl
change-else (suc i) zero f (a ∷ xs) other = refl
change-else (suc i) (suc j) f (a ∷ xs) other = change-else i j f xs (λ e. other (ap suc e))

pub length-change : {A : Type 0} (i : ℕ) (f : A → A) (xs : List A) → length (change i f xs) ≡ length xs
length-change i f [] = refl
length-change zero f (a ∷ xs) = refl
length-change (suc i) f (a ∷ xs) = ap suc (length-change i f xs)

-- an item after a change is the changed one or another that was there
pub changed : {A P : Type 0} (i j : ℕ) (f : A → A) (xs : List A) (y : A) → slice_get (change i f xs) j ≡ Some y
    → ((x : A) → j ≡ i → slice_get xs i ≡ Some x → y ≡ f x → P) → (j ≢ i → slice_get xs j ≡ Some y → P) → P
changed i j f [] y e here there = absurd (none-some y e)
changed zero zero f (a ∷ xs) y e here there = here a refl refl (sym (same_Some (f a) y e))
changed zero (suc j) f (a ∷ xs) y e here there = there (λ h. omega arith) e
changed (suc i) zero f (a ∷ xs) y e here there = there (λ h. omega arith) e
changed (suc i) (suc j) f (a ∷ xs) y e here there =
    changed i j f xs y e (λ x is at same. here x (ap suc is) at same) (λ other at. there (λ h. other (let less : j ≡ i = omega arith in less)) at)

pub change-same : {A : Type 0} (i : ℕ) (f g : A → A) (xs : List A) → ((x : A) → f x ≡ g x) → change i f xs ≡ change i g xs
change-same i f g [] e = refl
change-same zero f g (a ∷ xs) e = ap (λ b. b ∷ xs) (e a)
change-same (suc i) f g (a ∷ xs) e = ap (λ bs. a ∷ bs) (change-same i f g xs e)

-- the same for one item that is set
pub set-at : {A : Type 0} (i : ℕ) (v : A) (xs : List A) (w : A) → slice_get (set xs i v) i ≡ Some w → w ≡ v
set-at i v [] w e = absurd (none-some w e)
set-at zero v (a ∷ xs) w e = sym (same_Some v w e)
set-at (suc i) v (a ∷ xs) w e = set-at i v xs w e

pub set-else : {A : Type 0} (i j : ℕ) (v : A) (xs : List A) → j ≢ i → slice_get (set xs i v) j ≡ slice_get xs j
set-else i j v [] other = refl
set-else zero zero v (a ∷ xs) other = absurd (other refl)
set-else zero (suc j) v (a ∷ xs) other = refl
set-else (suc i) zero v (a ∷ xs) other = refl
set-else (suc i) (suc j) v (a ∷ xs) other = set-else i j v xs (λ e. other (ap suc e))

pub length-set' : {A : Type 0} (i : ℕ) (v : A) (xs : List A) → length (set xs i v) ≡ length xs
length-set' i v [] = refl
length-set' zero v (a ∷ xs) = refl
length-set' (suc i) v (a ∷ xs) = ap suc (length-set' i v xs)

-- what holds of all holds of each
pub all-at : {A : Type 0} (P : A → Type 0) (xs : List A) (i : ℕ) (x : A) → Each P xs → slice_get xs i ≡ Some x → P x
all-at P [] i x h e = absurd (none-some x e)
all-at P (a ∷ xs) zero x h e = subst P (same_Some a x e) h.0
all-at P (a ∷ xs) (suc i) x h e = all-at P xs i x h.1 e

pub change-none : {A : Type 0} (i : ℕ) (f : A → A) (xs : List A) → slice_get xs i ≡ None → change i f xs ≡ xs
change-none i f [] e = refl
change-none zero f (a ∷ xs) e = absurd (none-some a (sym e))
change-none (suc i) f (a ∷ xs) e = ap (λ ys. a ∷ ys) (change-none i f xs e)

pub get-front : {A : Type 0} (xs ys : List A) (k : ℕ) (x : A) → slice_get xs k ≡ Some x → slice_get (xs ++ ys) k ≡ Some x
get-front [] ys k x e = cc
get-front (z ∷ xs) ys zero x e = e
get-front (z ∷ xs) ys (suc k) x e = get-front xs ys k x e

pub get-last : {A : Type 0} (xs : List A) (x : A) → slice_get (xs ++ x ∷ []) (length xs) ≡ Some x
get-last [] x = refl
get-last (z ∷ xs) x = get-last xs x

-- an item of a list that has grown is an item from before, or the new one
pub get-grown : {A : Type 0} (xs : List A) (x : A) (k : ℕ) (y : A) → slice_get (xs ++ x ∷ []) k ≡ Some y
    → (slice_get xs k ≡ Some y) ⊎ ((k ≡ length xs) × (x ≡ y))
get-grown [] x zero y e = inr (refl, cc)
get-grown [] x (suc k) y e = cc
get-grown (z ∷ xs) x zero y e = inl e
get-grown (z ∷ xs) x (suc k) y e = elim (get-grown xs x k y e) [ inl h ↦ inl h | inr h ↦ inr (omega (arith, h.0), h.1) ]

-- an item of a list that has changed at a place is an item from before, or the changed one
pub get-changed : {A : Type 0} (i : ℕ) (f : A → A) (xs : List A) (k : ℕ) (y : A) → slice_get (change i f xs) k ≡ Some y
    → ((k ≢ i) × (slice_get xs k ≡ Some y)) ⊎ ((k ≡ i) × (x : A) × (slice_get xs k ≡ Some x) × (f x ≡ y))
get-changed i f [] k y e = cc
get-changed zero f (x ∷ xs) zero y e = inr (refl, x, refl, cc)
get-changed zero f (x ∷ xs) (suc k) y e = inl (λ h. omega (arith, h), e)
get-changed (suc i) f (x ∷ xs) zero y e = inl (λ h. omega (arith, h), e)
get-changed (suc i) f (x ∷ xs) (suc k) y e =
    elim (get-changed i f xs k y e) [ inl h ↦ inl (λ same. h.0 (omega (arith, same)), h.1) | inr h ↦ inr (omega (arith, h.0), h.1, h.2, h.3) ]

pub get-other : {A : Type 0} (i k : ℕ) (f : A → A) (xs : List A) (x : A) → k ≢ i → slice_get xs k ≡ Some x → slice_get (change i f xs) k ≡ Some x
get-other i k f [] x differ e = cc
get-other zero zero f (z ∷ xs) x differ e = absurd (differ refl)
get-other zero (suc k) f (z ∷ xs) x differ e = e
get-other (suc i) zero f (z ∷ xs) x differ e = e
get-other (suc i) (suc k) f (z ∷ xs) x differ e = get-other i k f xs x (λ h. differ (ap suc h)) e

pub length-grown : {A : Type 0} (xs : List A) (x : A) → length (xs ++ x ∷ []) ≡ suc (length xs)
length-grown [] x = refl
length-grown (z ∷ xs) x = ap suc (length-grown xs x)

pub same-item : {A : Type 0} (o : Option A) (x y : A) → o ≡ Some x → o ≡ Some y → x ≡ y
same-item o x y e f = cc

-- items of lists that are made of others
pub map-at : {A B : Type 0} (g : A → B) (xs : List A) (k : ℕ) (x : A) → slice_get xs k ≡ Some x → slice_get (map g xs) k ≡ Some (g x)
map-at g [] k x e = cc
map-at g (z ∷ xs) zero x e = let is : z ≡ x = cc in ap (λ w. Some (g w)) is
map-at g (z ∷ xs) (suc k) x e = map-at g xs k x e

pub mapped-at : {A B : Type 0} (g : A → B) (xs : List A) (k : ℕ) (y : B) → slice_get (map g xs) k ≡ Some y
    → (x : A) × (slice_get xs k ≡ Some x) × (g x ≡ y)
mapped-at g [] k y e = cc
mapped-at g (z ∷ xs) zero y e = (z, refl, (let is : g z ≡ y = cc in is))
mapped-at g (z ∷ xs) (suc k) y e = mapped-at g xs k y e

pub zip-at : {A B : Type 0} (xs : List A) (ys : List B) (k : ℕ) (x : A) (y : B) → slice_get xs k ≡ Some x → slice_get ys k ≡ Some y
    → slice_get (zip xs ys) k ≡ Some (x, y)
zip-at [] ys k x y e g = cc
zip-at (z ∷ xs) [] k x y e g = cc
zip-at {A} {B} (z ∷ xs) (w ∷ ys) zero x y e g =
    let one : z ≡ x = cc in
    let two : w ≡ y = cc in
    ap (λ u. let p : A × B = (u, w) in Some p) one ∙ ap (λ u. let p : A × B = (x, u) in Some p) two
zip-at (z ∷ xs) (w ∷ ys) (suc k) x y e g = zip-at xs ys k x y e g

-- an item after a change, and what it was before
pub changed-at : {A : Type 0} (i : ℕ) (f : A → A) (xs : List A) (y : A) → slice_get (change i f xs) i ≡ Some y
    → (x : A) × (slice_get xs i ≡ Some x) × (y ≡ f x)
changed-at i f [] y e = absurd (none-some y e)
changed-at zero f (x ∷ xs) y e = (x, refl, sym (same_Some (f x) y e))
changed-at (suc i) f (x ∷ xs) y e = changed-at i f xs y e

pub change-any : {A : Type 0} (k i : ℕ) (f : A → A) (xs : List A) (y : A) → slice_get (change k f xs) i ≡ Some y
    → (x : A) × (slice_get xs i ≡ Some x) × ((y ≡ x) ⊎ ((y ≡ f x) × (k ≡ i)))
change-any k i f [] y e = absurd (none-some y e)
change-any zero zero f (x ∷ xs) y e = (x, refl, inr (sym (same_Some (f x) y e), refl))
change-any zero (suc i) f (x ∷ xs) y e = (y, e, inl refl)
change-any (suc k) zero f (x ∷ xs) y e = (y, e, inl refl)
change-any (suc k) (suc i) f (x ∷ xs) y e = by (change-any k i f xs y e)
  where
    by : (x : _) × (slice_get xs i ≡ Some x) × ((y ≡ x) ⊎ ((y ≡ f x) × (k ≡ i))) → (x : _) × (slice_get xs i ≡ Some x)
        × ((y ≡ x) ⊎ ((y ≡ f x) × (suc k ≡ suc i)))
    by (x, at, inl same) = (x, at, inl same)
    by (x, at, inr changed) = (x, at, inr (changed.0, ap suc changed.1))

-- what holds of each item after a change: it holds of the others, and of the item that changed
pub each-changed : {A : Type 0} (Q : ℕ → A → Type 0) (i : ℕ) (g : A → A) (xs : List A) → ((j : ℕ) (x : A) → j ≢ i → slice_get xs j ≡ Some x → Q j x)
    → ((x : A) → slice_get xs i ≡ Some x → Q i (g x)) → (j : ℕ) (y : A) → slice_get (change i g xs) j ≡ Some y → Q j y
each-changed {A} Q i g xs others own j y e = by (get-changed i g xs j y e)
  where
    by : ((j ≢ i) × (slice_get xs j ≡ Some y)) ⊎ ((j ≡ i) × (x : A) × (slice_get xs j ≡ Some x) × (g x ≡ y)) → Q j y
    by (inl other) = others j y other.0 other.1
    by (inr mine) = subst (Q j) mine.3 (subst (λ k. Q k (g mine.1)) (sym mine.0)
        (own mine.1 (subst (λ k. slice_get xs k ≡ Some mine.1) mine.0 mine.2)))

-- the same where the item that changed is known
pub each-changed-one : {A : Type 0} (Q : ℕ → A → Type 0) (i : ℕ) (g : A → A) (xs : List A) (x : A) → slice_get xs i ≡ Some x
    → ((j : ℕ) (y : A) → j ≢ i → slice_get xs j ≡ Some y → Q j y) → Q i (g x) → (j : ℕ) (y : A) → slice_get (change i g xs) j ≡ Some y → Q j y
each-changed-one Q i g xs x here others own = each-changed Q i g xs others (λ y e. subst (λ z. Q i (g z)) (same-item (slice_get xs i) x y here e) own)

-- what holds of each item of a list that has grown: it holds of those before, and of the new one
pub each-grown : {A : Type 0} (Q : ℕ → A → Type 0) (xs : List A) (x : A) → ((k : ℕ) (y : A) → slice_get xs k ≡ Some y → Q k y) → Q (length xs) x
    → (k : ℕ) (y : A) → slice_get (xs ++ x ∷ []) k ≡ Some y → Q k y
each-grown Q xs x before new k y e = by (get-grown xs x k y e)
  where
    by : (slice_get xs k ≡ Some y) ⊎ ((k ≡ length xs) × (x ≡ y)) → Q k y
    by (inl old) = before k y old
    by (inr mine) = subst (Q k) mine.1 (subst (λ i. Q i x) (sym mine.0) new)

-- what is made of the items, as one of them changes
pub map-changed : {A B : Type 0} (h : A → B) (i : ℕ) (f : A → A) (g : B → B) (xs : List A) → ((x : A) → h (f x) ≡ g (h x))
    → map h (change i f xs) ≡ change i g (map h xs)
map-changed h i f g [] e = refl
map-changed h zero f g (x ∷ xs) e = ap (λ b. b ∷ map h xs) (e x)
map-changed h (suc i) f g (x ∷ xs) e = ap (λ bs. h x ∷ bs) (map-changed h i f g xs e)

pub map-kept : {A B : Type 0} (h : A → B) (i : ℕ) (f : A → A) (xs : List A) → ((x : A) → h (f x) ≡ h x) → map h (change i f xs) ≡ map h xs
map-kept h i f [] e = refl
map-kept h zero f (x ∷ xs) e = ap (λ b. b ∷ map h xs) (e x)
map-kept h (suc i) f (x ∷ xs) e = ap (λ bs. h x ∷ bs) (map-kept h i f xs e)
