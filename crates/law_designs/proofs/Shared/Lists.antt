-- What stands in a list that is made of others, what tests and first finds say of it, and names that differ.
use Rattle.std.proofs.Common.{◌≡◌, ℕ, zero, suc, ◌+◌, take, slice_get, Bool, true, false, not, ◌&&◌, List, [], ◌∷◌, ◌++◌, map, filter_map, find}
use Rattle.std.proofs.Common.{Option, Some, None, length, ◌<◌, arith, refl, sym, ap, subst, ◌∙◌, inl, inr, ◌⊎◌, if◌then◌else◌}
use Rattle.std.specs.List.{list_any, list_all, cons_option, enumerate_from}
use Rattle.std.proofs.lemmas.Bool.{and_parts, false_from_ne_true, not-true}
use Rattle.seq_tree.specs.Names.{Name, same_name, is_named, are_distinct}
use Rattle.ods_tree.specs.Walk.{only_if}
use Rattle.law_lists.proofs.Shared.Facts.{same-is, same-self, is-same}
use Rattle.law_lists.proofs.Shared.Lists.{in-map, any-in, at-in, IsIn, any-at, in-made, found-in}

pub in-cases : {A : Type 0} (xs ys : List A) (a : A) → IsIn a (xs ++ ys) → IsIn a xs ⊎ IsIn a ys
in-cases [] ys a h = inr h
in-cases (x ∷ xs) ys a (inl e) = inl (inl e)
in-cases (x ∷ xs) ys a (inr h) = by (in-cases xs ys a h)
  where
    by : IsIn a xs ⊎ IsIn a ys → IsIn a (x ∷ xs) ⊎ IsIn a ys
    by (inl k) = inl (inr k)
    by (inr k) = inr k

pub from-map : {A B : Type 0} (f : A → B) (xs : List A) (b : B) → IsIn b (map f xs) → (a : A) × IsIn a xs × (b ≡ f a)
from-map f [] b h = absurd h
from-map f (x ∷ xs) b (inl e) = (x, inl refl, sym e)
from-map f (x ∷ xs) b (inr h) = (let r = from-map f xs b h in (r.0, inr r.1, r.2))

pub in-filter_map : {A B : Type 0} (f : A → Option B) (xs : List A) (a : A) (b : B) → IsIn a xs → f a ≡ Some b → IsIn b (filter_map f xs)
in-filter_map f [] a b h e = absurd h
in-filter_map {A} {B} f (x ∷ xs) a b h e = by (λ s. in-filter_map f xs a b s e) (f x) refl h
  where
    by : (IsIn a xs → IsIn b (filter_map f xs)) → (o : Option B) → f x ≡ o → IsIn a (x ∷ xs) → IsIn b (cons_option o (filter_map f xs))
    by rest (Some c) k (inl s) = let z : Some b ≡ Some c = sym e ∙ ap f (sym s) ∙ k in inl cc
    by rest (Some c) k (inr s) = inr (rest s)
    by rest None k (inl s) = let z : Some b ≡ None = sym e ∙ ap f (sym s) ∙ k in cc
    by rest None k (inr s) = rest s

-- a thing stands with its place
pub placed : {A : Type 0} (n : ℕ) (xs : List A) (a : A) → IsIn a xs → (k : ℕ) × IsIn (k, a) (enumerate_from n xs)
placed n [] a h = absurd h
placed n (x ∷ xs) a (inl e) = (n, inl (ap (λ z. (n, z)) e))
placed n (x ∷ xs) a (inr h) = (let r = placed (n + 1) xs a h in (r.0, inr r.1))

-- nothing stands in a list that is empty
pub in-none : {A : Type 0} (xs : List A) (a : A) → xs ≡ [] → IsIn a xs → ⊥
in-none {A} xs a e h = let P : List A → Type 0 = λ ys. IsIn a ys in subst P e h

-- where nothing is told of the things that fail a test, each passes it
pub none-told : {A B : Type 0} (test : A → Bool) (told : A → B) (xs : List A) → filter_map (λ a. only_if (test a) (told a)) xs ≡ [] → (a : A)
    → IsIn a xs → test a ≡ false
none-told {A} {B} test told xs e a h
    = false_from_ne_true (test a) (λ t. in-none _ (told a) e (in-filter_map (λ z. only_if (test z) (told z)) xs a (told a) h
    (ap (λ b. only_if b (told a)) t)))

-- tests of all and of any
pub all-from : {A : Type 0} (p : A → Bool) (xs : List A) → ((a : A) → IsIn a xs → p a ≡ true) → list_all p xs ≡ true
all-from p [] h = refl
all-from p (x ∷ xs) h = ap (λ b. b && list_all p xs) (h x (inl refl)) ∙ all-from p xs (λ a k. h a (inr k))

pub all-in : {A : Type 0} (p : A → Bool) (xs : List A) (a : A) → list_all p xs ≡ true → IsIn a xs → p a ≡ true
all-in p [] a h k = absurd k
all-in p (x ∷ xs) a h (inl e) = ap p (sym e) ∙ (and_parts (p x) (list_all p xs) h).0
all-in p (x ∷ xs) a h (inr k) = all-in p xs a (and_parts (p x) (list_all p xs) h).1 k

pub some-in : {A : Type 0} (p : A → Bool) (xs : List A) → list_any p xs ≡ true → (a : A) × IsIn a xs × (p a ≡ true)
some-in p xs h = let found = any-at p xs h in (found.1, at-in xs found.0 found.1 found.2, found.3)

pub none-from : {A : Type 0} (p : A → Bool) (xs : List A) → ((a : A) → IsIn a xs → p a ≡ false) → list_any p xs ≡ false
none-from p xs h = false_from_ne_true (list_any p xs) (λ e. let r = some-in p xs e in let z : true ≡ false = sym r.2 ∙ h r.0 r.1 in cc)

-- where something passes, something is found
pub found-some : {A : Type 0} (p : A → Bool) (xs : List A) (a : A) → IsIn a xs → p a ≡ true → (b : A) × (find p xs ≡ Some b)
found-some p [] a h e = absurd h
found-some {A} p (x ∷ xs) a h e = by (λ s. found-some p xs a s e) (p x) refl h
  where
    by : (IsIn a xs → (b : A) × (find p xs ≡ Some b)) → (t : Bool) → p x ≡ t → IsIn a (x ∷ xs)
        → (b : A) × ((if t then Some x else find p xs) ≡ Some b)
    by rest true k s = (x, refl)
    by rest false k (inl s) = let z : true ≡ false = sym e ∙ ap p (sym s) ∙ k in cc
    by rest false k (inr s) = rest s

-- the only one that passes is the one that is found
pub found-only : {A : Type 0} (p : A → Bool) (xs : List A) (a : A) → IsIn a xs → p a ≡ true → ((b : A) → IsIn b xs → p b ≡ true → b ≡ a)
    → find p xs ≡ Some a
found-only p xs a h e only = let r = found-some p xs a h e in let k = found-in p xs r.0 r.1 in r.1 ∙ ap Some (only r.0 k.0 k.1)

pub differ-if : (a b : Name) → (a ≡ b → ⊥) → same_name a b ≡ false
differ-if a b h = false_from_ne_true (same_name a b) (λ e. h (same-is a b e))

pub differ-not : (a b : Name) → same_name a b ≡ false → a ≡ b → ⊥
differ-not a b h e = let z : true ≡ false = sym (is-same a b e) ∙ h in cc

pub named-from : (ns : List Name) (n : Name) → IsIn n ns → is_named ns n ≡ true
named-from ns n h = any-in (λ m. same_name m n) n ns h (same-self n)

pub named-at : (ns : List Name) (n : Name) → is_named ns n ≡ true → IsIn n ns
named-at ns n h = let r = some-in (λ m. same_name m n) ns h in let P : Name → Type 0 = λ m. IsIn m ns in subst P (same-is r.0 n r.2) r.1

pub unnamed-from : (ns : List Name) (n : Name) → (IsIn n ns → ⊥) → is_named ns n ≡ false
unnamed-from ns n h = false_from_ne_true (is_named ns n) (λ e. h (named-at ns n e))

pub unnamed-at : (ns : List Name) (n : Name) → is_named ns n ≡ false → IsIn n ns → ⊥
unnamed-at ns n h k = let z : true ≡ false = sym (named-from ns n k) ∙ h in cc

-- names that differ, in two lists one after another
pub distinct-append : (ms ns : List Name) → are_distinct ms ≡ true → are_distinct ns ≡ true → ((n : Name) → IsIn n ms → IsIn n ns → ⊥)
    → are_distinct (ms ++ ns) ≡ true
distinct-append [] ns h k apart = k
distinct-append (m ∷ ms) ns h k apart =
    let parts = and_parts (not (is_named ms m)) (are_distinct ms) h in
    let fresh : is_named (ms ++ ns) m ≡ false = unnamed-from (ms ++ ns) m (λ a. by (in-cases ms ns m a)) in
    ap (λ b. not b && are_distinct (ms ++ ns)) fresh ∙ distinct-append ms ns parts.1 k (λ n a b. apart n (inr a) b)
  where
    by : IsIn m ms ⊎ IsIn m ns → ⊥
    by (inl a) = unnamed-at ms m (not-true (is_named ms m) (and_parts (not (is_named ms m)) (are_distinct ms) h).0) a
    by (inr a) = apart m (inl refl) a

-- in a list whose keys differ, things of one key are one
pub key-eq : {A : Type 0} (key : A → Name) (xs : List A) → are_distinct (map key xs) ≡ true → (a b : A) → IsIn a xs → IsIn b xs
    → key a ≡ key b → a ≡ b
key-eq key [] h a b j k e = absurd j
key-eq {A} key (x ∷ xs) h a b j k e
    = by (λ s t. key-eq key xs (and_parts (not (is_named (map key xs) (key x))) (are_distinct (map key xs)) h).1 a b s t e) j k
  where
    fresh : IsIn (key x) (map key xs) → ⊥
    fresh = unnamed-at (map key xs) (key x) (not-true (is_named (map key xs) (key x))
        (and_parts (not (is_named (map key xs) (key x))) (are_distinct (map key xs)) h).0)

    by : (IsIn a xs → IsIn b xs → a ≡ b) → IsIn a (x ∷ xs) → IsIn b (x ∷ xs) → a ≡ b
    by rest (inl s) (inl t) = sym s ∙ t
    by rest (inl s) (inr t) =
        let P : Name → Type 0 = λ n. IsIn n (map key xs) in absurd (fresh (subst P (sym e ∙ ap key (sym s)) (in-map key b xs t)))
    by rest (inr s) (inl t) =
        let P : Name → Type 0 = λ n. IsIn n (map key xs) in absurd (fresh (subst P (e ∙ ap key (sym t)) (in-map key a xs s)))
    by rest (inr s) (inr t) = rest s t

-- what a filter_map takes of a list whose keys differ has keys that differ
pub distinct-taken : {A B : Type 0} (key : A → Name) (other : B → Name) (f : A → Option B) (xs : List A)
    → ((a : A) (b : B) → f a ≡ Some b → other b ≡ key a)
    → are_distinct (map key xs) ≡ true → are_distinct (map other (filter_map f xs)) ≡ true
distinct-taken key other f [] keeps h = refl
distinct-taken {A} {B} key other f (x ∷ xs) keeps h =
    by (distinct-taken key other f xs keeps (and_parts (not (is_named (map key xs) (key x))) (are_distinct (map key xs)) h).1) (f x) refl
  where
    parts : (not (is_named (map key xs) (key x)) ≡ true) × (are_distinct (map key xs) ≡ true)
    parts = and_parts (not (is_named (map key xs) (key x))) (are_distinct (map key xs)) h

    fresh : (b : B) → f x ≡ Some b → IsIn (other b) (map other (filter_map f xs)) → ⊥
    fresh b e k =
        let r = from-map other (filter_map f xs) (other b) k in
        let s = in-made f xs r.0 r.1 in
        let P : Name → Type 0 = λ n. IsIn n (map key xs) in
        unnamed-at (map key xs) (key x) (not-true _ parts.0) (subst P (sym (keeps s.0 r.0 s.2) ∙ sym r.2 ∙ keeps x b e) (in-map key s.0 xs s.1))

    by : are_distinct (map other (filter_map f xs)) ≡ true → (o : Option B) → f x ≡ o
        → are_distinct (map other (cons_option o (filter_map f xs))) ≡ true
    by rest None e = rest
    by rest (Some b) e = ap (λ t. not t && are_distinct (map other (filter_map f xs)))
        (unnamed-from (map other (filter_map f xs)) (other b) (fresh b e)) ∙ rest

pub in-take : {A : Type 0} (xs : List A) (k : ℕ) (a : A) → IsIn a (take k xs) → IsIn a xs
in-take [] zero a h = absurd h
in-take [] (suc k) a h = absurd h
in-take (x ∷ xs) zero a h = absurd h
in-take (x ∷ xs) (suc k) a (inl e) = inl e
in-take (x ∷ xs) (suc k) a (inr h) = inr (in-take xs k a h)

-- where keys differ, what stands at a place has no key of what stands before it
pub key-fresh : {A : Type 0} (key : A → Name) (xs : List A) (place : ℕ) (a : A) → are_distinct (map key xs) ≡ true → slice_get xs place ≡ Some a
    → IsIn (key a) (map key (take place xs)) → ⊥
key-fresh key [] zero a d e h = h
key-fresh key [] (suc place) a d e h = h
key-fresh key (x ∷ xs) zero a d e h = h
key-fresh key (x ∷ xs) (suc place) a d e (inl s) =
    let P : Name → Type 0 = λ n. IsIn n (map key xs) in
    unnamed-at (map key xs) (key x) (not-true _ (and_parts (not (is_named (map key xs) (key x))) (are_distinct (map key xs)) d).0)
    (subst P (sym s) (in-map key a xs (at-in xs place a e)))
key-fresh key (x ∷ xs) (suc place) a d e (inr h)
    = key-fresh key xs place a (and_parts (not (is_named (map key xs) (key x))) (are_distinct (map key xs)) d).1 e h

-- what stands at a place within a list
pub has-at : {A : Type 0} (xs : List A) (i : ℕ) → i < length xs → (x : A) × (slice_get xs i ≡ Some x)
has-at [] i h = absurd (omega (arith, h))
has-at (x ∷ xs) zero h = (x, refl)
has-at (x ∷ xs) (suc i) h = has-at xs i (omega (arith, h))
