-- Items of lists: those that are made of numbered items, those that a test finds, and those of lists in lists.
use Rattle.std.specs.Prelude.{◌≡◌, ◌⊎◌, ◌≤◌, ◌+◌, ℕ, zero, suc, Bool, true, false, ◌||◌, List, [], ◌∷◌, ◌++◌, map, flat_map, filter_map}
use Rattle.std.specs.Prelude.{slice_get, Option, Some, None, ⊤, refl}
use Rattle.std.specs.List.{enumerate_from, cons_option, list_any, AllZip}
use Rattle.std.specs.Prelude.{filter, cond, drop, find}
use Rattle.std.proofs.Common.{ap₂}
use Rattle.std.proofs.Common.{sym, ◌∙◌, ap, subst, arith, inl, inr}
use Rattle.std.proofs.lemmas.Option.{none-some, same_Some}
use Rattle.seq_tree.specs.Lists.{Each}
use Rattle.std.proofs.lemmas.Bool.{or_parts, false≢true, or_left, or_right}

abbrev pub IsIn : {A : Type 0} → A → List A → Type 0
IsIn x [] = ⊥
IsIn x (y ∷ ys) = (y ≡ x) ⊎ IsIn x ys

pub at-in : {A : Type 0} (xs : List A) (k : ℕ) (x : A) → slice_get xs k ≡ Some x → IsIn x xs
at-in [] k x e = absurd (none-some x e)
at-in (y ∷ ys) zero x e = inl (same_Some y x e)
at-in (y ∷ ys) (suc k) x e = inr (at-in ys k x e)

pub in-left : {A : Type 0} (x : A) (xs ys : List A) → IsIn x xs → IsIn x (xs ++ ys)
in-left x [] ys h = absurd h
in-left x (y ∷ xs) ys (inl e) = inl e
in-left x (y ∷ xs) ys (inr h) = inr (in-left x xs ys h)

pub in-right : {A : Type 0} (x : A) (xs ys : List A) → IsIn x ys → IsIn x (xs ++ ys)
in-right x [] ys h = h
in-right x (y ∷ xs) ys h = inr (in-right x xs ys h)

pub in-map : {A B : Type 0} (f : A → B) (x : A) (xs : List A) → IsIn x xs → IsIn (f x) (map f xs)
in-map f x [] h = absurd h
in-map f x (y ∷ xs) (inl e) = inl (ap f e)
in-map f x (y ∷ xs) (inr h) = inr (in-map f x xs h)

pub in-flat : {A B : Type 0} (f : A → List B) (x : A) (y : B) (xs : List A) → IsIn x xs → IsIn y (f x) → IsIn y (flat_map f xs)
in-flat f x y [] h k = absurd h
in-flat f x y (z ∷ xs) (inl e) k = in-left y (f z) (flat_map f xs) (subst (λ w. IsIn y (f w)) (sym e) k)
in-flat f x y (z ∷ xs) (inr h) k = in-right y (f z) (flat_map f xs) (in-flat f x y xs h k)

pub each-in : {A : Type 0} (P : A → Type 0) (xs : List A) → ((x : A) → IsIn x xs → P x) → Each P xs
each-in P [] h = tt
each-in P (x ∷ xs) h = (h x (inl refl), each-in P xs (λ z k. h z (inr k)))

pub any-in : {A : Type 0} (test : A → Bool) (x : A) (xs : List A) → IsIn x xs → test x ≡ true → list_any test xs ≡ true
any-in test x [] h e = absurd h
any-in test x (y ∷ xs) (inl same) e = or_left (test y) (list_any test xs) (ap test same ∙ e)
any-in test x (y ∷ xs) (inr h) e = or_right (test y) (list_any test xs) (any-in test x xs h e)

pub none-in : {A : Type 0} (test : A → Bool) (x : A) (xs : List A) → list_any test xs ≡ false → IsIn x xs → test x ≡ false
none-in test x [] none h = absurd h
none-in test x (y ∷ xs) none (inl same) = ap test (sym same) ∙ (or_parts (test y) (list_any test xs) none).0
none-in test x (y ∷ xs) none (inr h) = none-in test x xs (or_parts (test y) (list_any test xs) none).1 h

pub any-at : {A : Type 0} (test : A → Bool) (xs : List A) → list_any test xs ≡ true → (k : ℕ) × (x : A) × (slice_get xs k ≡ Some x) × (test x ≡ true)
any-at test [] e = absurd (false≢true e)
any-at {A} test (x ∷ xs) e = by (test x) refl e (any-at test xs)
  where
    by : (b : Bool) → test x ≡ b → (b || list_any test xs) ≡ true
        → (list_any test xs ≡ true → (k : ℕ) × (z : A) × (slice_get xs k ≡ Some z) × (test z ≡ true))
        → (k : ℕ) × (z : A) × (slice_get (x ∷ xs) k ≡ Some z) × (test z ≡ true)
    by true h e' more = (0, x, refl, h)
    by false h e' more = let found = more e' in (suc found.0, found.1, found.2, found.3)

-- what is made of numbered items
pub made-at : {A B : Type 0} (f : ℕ × A → Option B) (n : ℕ) (xs : List A) (i : ℕ) (b : B) → slice_get (filter_map f (enumerate_from n xs)) i ≡ Some b
    → (m : ℕ) × (a : A) × (slice_get xs m ≡ Some a) × (f (n + m, a) ≡ Some b)
made-at f n [] i b e = absurd (none-some b e)
made-at {A} {B} f n (x ∷ xs) i b e = by (f (n, x)) refl i e (λ j. made-at f (n + 1) xs j b)
  where
    here : f (n, x) ≡ f (n + 0, x)
    here = let is : n ≡ n + 0 = omega arith in ap (λ k. f (k, x)) is

    more : ((m : ℕ) × (a : A) × (slice_get xs m ≡ Some a) × (f (n + 1 + m, a) ≡ Some b)) → (m : ℕ) × (a : A) × (slice_get (x ∷ xs) m ≡ Some a)
        × (f (n + m, a) ≡ Some b)
    more found = (suc found.0, found.1, found.2, (let is : n + suc found.0 ≡ n + 1 + found.0 = omega arith in ap (λ k. f (k, found.1)) is ∙ found.3))

    by : (o : Option B) → f (n, x) ≡ o → (j : ℕ) → slice_get (cons_option o (filter_map f (enumerate_from (n + 1) xs))) j ≡ Some b
        → ((j : ℕ) → slice_get (filter_map f (enumerate_from (n + 1) xs)) j ≡ Some b → (m : ℕ) × (a : A) × (slice_get xs m ≡ Some a)
        × (f (n + 1 + m, a) ≡ Some b))
        → (m : ℕ) × (a : A) × (slice_get (x ∷ xs) m ≡ Some a) × (f (n + m, a) ≡ Some b)
    by None h j e' later = more (later j e')
    by (Some c) h zero e' later = (0, x, refl, sym here ∙ h ∙ e')
    by (Some c) h (suc j) e' later = more (later j e')

pub places-differ : {A B : Type 0} (f : ℕ × A → Option B) (place : B → ℕ) → ((k : ℕ) (a : A) (b : B) → f (k, a) ≡ Some b → place b ≡ k)
    → (n : ℕ) (xs : List A) (i j : ℕ) (b c : B) → slice_get (filter_map f (enumerate_from n xs)) i ≡ Some b
    → slice_get (filter_map f (enumerate_from n xs)) j ≡ Some c
    → place b ≡ place c → i ≡ j
places-differ f place says n [] i j b c e g same = absurd (none-some b e)
places-differ {A} {B} f place says n (x ∷ xs) i j b c e g same =
    by (f (n, x)) refl i j e g (λ i' j' e' g'. places-differ f place says (n + 1) xs i' j' b c e' g' same)
  where
    above : (k : ℕ) (d : B) → slice_get (filter_map f (enumerate_from (n + 1) xs)) k ≡ Some d → n + 1 ≤ place d
    above k d h = let found = made-at f (n + 1) xs k d h in let is : place d ≡ n + 1 + found.0 = says (n + 1 + found.0) found.1 d found.3
        in omega arith

    by : (o : Option B) → f (n, x) ≡ o → (i' j' : ℕ) → slice_get (cons_option o (filter_map f (enumerate_from (n + 1) xs))) i' ≡ Some b
        → slice_get (cons_option o (filter_map f (enumerate_from (n + 1) xs))) j' ≡ Some c
        → ((i'' j'' : ℕ) → slice_get (filter_map f (enumerate_from (n + 1) xs)) i'' ≡ Some b
        → slice_get (filter_map f (enumerate_from (n + 1) xs)) j'' ≡ Some c → i'' ≡ j'')
        → i' ≡ j'
    by None h i' j' e' g' later = later i' j' e' g'
    by (Some d) h zero zero e' g' later = refl
    by (Some d) h zero (suc j') e' g' later =
        let mine : place b ≡ n = says n x b (h ∙ e') in let yours : n + 1 ≤ place c = above j' c g' in absurd (omega (arith, same))
    by (Some d) h (suc i') zero e' g' later =
        let mine : place c ≡ n = says n x c (h ∙ g') in let yours : n + 1 ≤ place b = above i' b e' in absurd (omega (arith, same))
    by (Some d) h (suc i') (suc j') e' g' later = ap suc (later i' j' e' g')

-- what holds of each holds of one among them
pub each-is : {A : Type 0} (P : A → Type 0) (xs : List A) (x : A) → Each P xs → IsIn x xs → P x
each-is P [] x each h = absurd h
each-is P (z ∷ xs) x each (inl e) = subst P e each.0
each-is P (z ∷ xs) x each (inr k) = each-is P xs x each.1 k

-- one among those that pass a test
pub in-filter : {A : Type 0} (test : A → Bool) (x : A) (xs : List A) → IsIn x (filter test xs) → IsIn x xs × (test x ≡ true)
in-filter test x [] h = absurd h
in-filter {A} test x (z ∷ xs) h = by (test z) refl h (in-filter test x xs)
  where
    by : (b : Bool) → test z ≡ b → IsIn x (cond b (z ∷ filter test xs) (filter test xs)) → (IsIn x (filter test xs) → IsIn x xs × (test x ≡ true))
        → ((z ≡ x) ⊎ IsIn x xs) × (test x ≡ true)
    by true e (inl same) more = (inl same, ap test (sym same) ∙ e)
    by true e (inr k) more = let found = more k in (inr found.0, found.1)
    by false e k more = let found = more k in (inr found.0, found.1)

pub filter-in : {A : Type 0} (test : A → Bool) (x : A) (xs : List A) → IsIn x xs → test x ≡ true → IsIn x (filter test xs)
filter-in test x [] h e = absurd h
filter-in {A} test x (z ∷ xs) h e = by (test z) refl h (λ k. filter-in test x xs k e)
  where
    by : (b : Bool) → test z ≡ b → (z ≡ x) ⊎ IsIn x xs → (IsIn x xs → IsIn x (filter test xs)) → IsIn x (cond b (z ∷ filter test xs) (filter test xs))
    by true f (inl same) more = inl same
    by true f (inr k) more = inr (more k)
    by false f (inl same) more = absurd (false≢true (sym f ∙ ap test same ∙ e))
    by false f (inr k) more = more k

-- the place of one among them
pub place-of : {A : Type 0} (x : A) (xs : List A) → IsIn x xs → (k : ℕ) × (slice_get xs k ≡ Some x)
place-of x [] h = absurd h
place-of x (z ∷ xs) (inl e) = (0, ap Some e)
place-of x (z ∷ xs) (inr h) = let found = place-of x xs h in (suc found.0, found.1)

-- facts of each item of a list
pub each-append : {A : Type 0} (P : A → Type 0) (xs ys : List A) → Each P xs → Each P ys → Each P (xs ++ ys)
each-append P [] ys h k = k
each-append P (x ∷ xs) ys h k = (h.0, each-append P xs ys h.1 k)

pub each-to : {A : Type 0} (P Q : A → Type 0) (xs : List A) → ((x : A) → P x → Q x) → Each P xs → Each Q xs
each-to P Q [] f h = tt
each-to P Q (x ∷ xs) f h = (f x h.0, each-to P Q xs f h.1)

pub each-drop : {A : Type 0} (P : A → Type 0) (n : ℕ) (xs : List A) → Each P xs → Each P (drop n xs)
each-drop P zero xs all = all
each-drop P (suc n) [] all = tt
each-drop P (suc n) (x ∷ xs) all = each-drop P n xs all.1

pub each-by : {A : Type 0} (P : A → Type 0) (xs : List A) → ((k : ℕ) (x : A) → slice_get xs k ≡ Some x → P x) → Each P xs
each-by P [] all = tt
each-by P (x ∷ xs) all = (all 0 x refl, each-by P xs (λ k a e. all (suc k) a e))

pub each-map : {A B : Type 0} (f : A → B) (P : B → Type 0) (xs : List A) → Each (λ x. P (f x)) xs → Each P (map f xs)
each-map f P [] all = tt
each-map f P (x ∷ xs) all = (all.0, each-map f P xs all.1)

-- of two lists whose items belong together, the item that belongs to one
pub zip-first : {A B : Type 0} (R : A → B → Type 0) (xs : List A) (ys : List B) (k : ℕ) (x : A) → AllZip R xs ys → slice_get xs k ≡ Some x
    → (y : B) × (slice_get ys k ≡ Some y) × R x y
zip-first R [] [] k x h e = cc
zip-first R [] (y ∷ ys) k x h e = absurd h
zip-first R (z ∷ xs) [] k x h e = absurd h
zip-first R (z ∷ xs) (y ∷ ys) zero x h e = let is : z ≡ x = cc in (y, refl, subst (λ w. R w y) is h.0)
zip-first R (z ∷ xs) (y ∷ ys) (suc k) x h e = zip-first R xs ys k x h.1 e

-- one among joined lists is in one of them
pub in-parts : {A : Type 0} (x : A) (xs ys : List A) → IsIn x (xs ++ ys) → IsIn x xs ⊎ IsIn x ys
in-parts x [] ys h = inr h
in-parts x (z ∷ xs) ys (inl e) = inl (inl e)
in-parts {A} x (z ∷ xs) ys (inr h) = by (in-parts x xs ys h)
  where
    by : IsIn x xs ⊎ IsIn x ys → ((z ≡ x) ⊎ IsIn x xs) ⊎ IsIn x ys
    by (inl k) = inl (inr k)
    by (inr k) = inr k

pub in-some : {A B : Type 0} (f : A → List B) (xs : List A) (b : B) → IsIn b (flat_map f xs) → (x : A) × IsIn x xs × IsIn b (f x)
in-some f [] b h = absurd h
in-some {A} {B} f (x ∷ xs) b h = by (in-parts b (f x) (flat_map f xs) h) (in-some f xs b)
  where
    by : IsIn b (f x) ⊎ IsIn b (flat_map f xs) → (IsIn b (flat_map f xs) → (z : A) × IsIn z xs × IsIn b (f z))
        → (z : A) × IsIn z (x ∷ xs) × IsIn b (f z)
    by (inl k) more = (x, inl refl, k)
    by (inr k) more = let found = more k in (found.0, inr found.1, found.2)

-- what an item is made of
pub in-made : {A B : Type 0} (f : A → Option B) (xs : List A) (b : B) → IsIn b (filter_map f xs) → (x : A) × IsIn x xs × (f x ≡ Some b)
in-made f [] b h = absurd h
in-made {A} {B} f (x ∷ xs) b h = by (f x) refl h (in-made f xs b)
  where
    by : (o : Option B) → f x ≡ o → IsIn b (cons_option o (filter_map f xs)) → (IsIn b (filter_map f xs) → (z : A) × IsIn z xs × (f z ≡ Some b))
        → (z : A) × IsIn z (x ∷ xs) × (f z ≡ Some b)
    by None e k more = let found = more k in (found.0, inr found.1, found.2)
    by (Some c) e (inl is) more = (x, inl refl, e ∙ ap Some is)
    by (Some c) e (inr k) more = let found = more k in (found.0, inr found.1, found.2)

pub flat-same : {A B : Type 0} (f g : A → List B) (xs : List A) → ((x : A) → IsIn x xs → f x ≡ g x) → flat_map f xs ≡ flat_map g xs
flat-same f g [] same = refl
flat-same f g (x ∷ xs) same = ap₂ (λ a b. a ++ b) (same x (inl refl)) (flat-same f g xs (λ z h. same z (inr h)))

-- the same from the second list
pub zip-second : {A B : Type 0} (R : A → B → Type 0) (xs : List A) (ys : List B) (k : ℕ) (y : B) → AllZip R xs ys → slice_get ys k ≡ Some y
    → (x : A) × (slice_get xs k ≡ Some x) × R x y
zip-second R [] [] k y h e = absurd (none-some y e)
zip-second R [] (z ∷ ys) k y h e = absurd h
zip-second R (x ∷ xs) [] k y h e = absurd h
zip-second R (x ∷ xs) (z ∷ ys) zero y h e = (x, refl, subst (R x) (same_Some z y e) h.0)
zip-second R (x ∷ xs) (z ∷ ys) (suc k) y h e = zip-second R xs ys k y h.1 e

-- what two functions make of each item, by places, where they make something of the same items
abbrev pub BothMake : {B C : Type 0} → (B → C → Type 0) → Option B → Option C → Type 0
BothMake R None None = ⊤
BothMake R None (Some c) = ⊥
BothMake R (Some b) None = ⊥
BothMake R (Some b) (Some c) = R b c

pub made-both : {A B C : Type 0} (R : B → C → Type 0) (f : ℕ × A → Option B) (g : A → Option C) → ((k : ℕ) (a : A) → BothMake R (f (k, a)) (g a))
    → (n : ℕ) (xs : List A)
    → AllZip R (filter_map f (enumerate_from n xs)) (filter_map g xs)
made-both R f g both n [] = tt
made-both {A} {B} {C} R f g both n (a ∷ xs) = by (f (n, a)) (g a) (both n a) (made-both R f g both (n + 1) xs)
  where
    by : (b : Option B) (c : Option C) → BothMake R b c → AllZip R (filter_map f (enumerate_from (n + 1) xs)) (filter_map g xs)
        → AllZip R (cons_option b (filter_map f (enumerate_from (n + 1) xs))) (cons_option c (filter_map g xs))
    by None None h later = later
    by None (Some c) h later = absurd h
    by (Some b) None h later = absurd h
    by (Some b) (Some c) h later = (h, later)

-- an item that is found is there and passes the test
pub found-in : {A : Type 0} (test : A → Bool) (xs : List A) (x : A) → find test xs ≡ Some x → IsIn x xs × (test x ≡ true)
found-in test [] x e = absurd (none-some x e)
found-in {A} test (z ∷ xs) x e = by (test z) refl e (found-in test xs x)
  where
    by : (b : Bool) → test z ≡ b → cond b (Some z) (find test xs) ≡ Some x → (find test xs ≡ Some x → IsIn x xs × (test x ≡ true))
        → ((z ≡ x) ⊎ IsIn x xs) × (test x ≡ true)
    by true h e' more = let same : z ≡ x = same_Some z x e' in (inl same, ap test (sym same) ∙ h)
    by false h e' more = let found = more e' in (inr found.0, found.1)

-- what holds of each that is made of the items holds of what is made of one
pub each-made : {A B : Type 0} (P : B → Type 0) (f : A → Option B) (xs : List A) (k : ℕ) (a : A) (b : B) → Each P (filter_map f xs)
    → slice_get xs k ≡ Some a → f a ≡ Some b → P b
each-made P f [] k a b each at e = absurd (none-some a at)
each-made {A} {B} P f (x ∷ xs) k a b each at e = by (f x) refl each k at (λ h j g. each-made P f xs j a b h g e)
  where
    by : (o : Option B) → f x ≡ o → Each P (cons_option o (filter_map f xs)) → (j : ℕ) → slice_get (x ∷ xs) j ≡ Some a
        → (Each P (filter_map f xs) → (i : ℕ) → slice_get xs i ≡ Some a → P b) → P b
    by None g h zero at' later = absurd (none-some b (sym g ∙ ap f (same_Some x a at') ∙ e))
    by None g h (suc j) at' later = later h j at'
    by (Some c) g h zero at' later = subst P (same_Some c b (sym g ∙ ap f (same_Some x a at') ∙ e)) h.0
    by (Some c) g h (suc j) at' later = later h.1 j at'
