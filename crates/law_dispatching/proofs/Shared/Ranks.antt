-- Places in the ready list serve as order numbers: they rank the ready tasks as any numbers do for which the list is in order of dispatch.
use Rattle.std.specs.Prelude.{◌≡◌, ◌≢◌, ◌⊎◌, ℕ, zero, suc, ◌+◌, ◌<◌, ◌≤◌, Bool, true, false, ◌==◌, List, [], ◌∷◌, length, Some, slice_get}
use Rattle.std.specs.Prelude.{unwrap_or, ℤ, pos, int_lt, if◌then◌else◌, refl}
use Rattle.std.proofs.Common.{sym, ◌∙◌, ap, subst, arith, inl, inr}
use Rattle.std.proofs.lemmas.Option.{same_Some}
use Rattle.std.proofs.lemmas.Bool.Decides.{nat_tests}
use Rattle.std.proofs.lemmas.Int.{ints}
use Rattle.link_queue.specs.Queues.{Entry, Each, IsOrdered, Differ}
use Rattle.link_queue.proofs.Shared.Lists.{each-map, each-both}
use Rattle.machine.specs.States.{Task}
use Rattle.law_dispatching.specs.Renumbering.{AreRivals, HasNumber, RankAlike}
use Rattle.law_dispatching.specs.Queueing.{AreQueued, IsIn, IsReadyAt, Precedes, number, place_from, places, places_from}
use Rattle.law_dispatching.proofs.Shared.Queued.{int-same, int-turn, precedes-apart, each-within}

-- pairs of a list in order
pub ordered-map : (P R S : Entry → Entry → Type 0) (K : Entry → Type 0) (es : List Entry) → ((x y : Entry) → K x → K y → P x y → R x y → S x y)
    → Each K es → IsOrdered P es → IsOrdered R es → IsOrdered S es
ordered-map P R S K [] f all p r = tt
ordered-map P R S K (e ∷ es) f all p r = (
  each-map (λ y. (P e y × R e y) × K y) (S e) es (λ y h. f e y all.0 h.1 h.0.0 h.0.1) (each-both (λ y. P e y
      × R e y) K es (each-both (P e) (R e) es p.0 r.0) all.1),
  ordered-map P R S K es f all.1 p.1 r.1,
)

pub distinct-ordered : (ts : List Task) (os : List ℤ) (es : List Entry) → Each (IsReadyAt ts) es → IsOrdered (Precedes os) es → IsOrdered Differ es
distinct-ordered ts os es all ordered =
    ordered-map (Precedes os) (Precedes os) Differ (IsReadyAt ts) es (λ x y kx ky p r. λ same. precedes-apart os x y p same (levels x y same kx ky))
    all ordered ordered
  where
    levels : (x y : Entry) → x.0 ≡ y.0 → IsReadyAt ts x → IsReadyAt ts y → x.1 ≡ y.1
    levels x y same kx ky = sym kx.3 ∙ ap (λ u. u.active) (same_Some kx.0 ky.0 (sym kx.1 ∙ ap (slice_get ts) same ∙ ky.1)) ∙ ky.3

-- a task's place
pub place-here : (n i : ℕ) (e : Entry) (es : List Entry) → e.0 ≡ i → place_from n i (e ∷ es) ≡ n
place-here n i e es same = ap (λ b. if b then n else place_from (suc n) i es) (is_same e.0 i same)
  where
    is_same : (a b : ℕ) → a ≡ b → (a == b) ≡ true
    is_same a b h = grind (arith, nat_tests)

pub place-later : (n i : ℕ) (e : Entry) (es : List Entry) → e.0 ≢ i → place_from n i (e ∷ es) ≡ place_from (suc n) i es
place-later n i e es differs = ap (λ b. if b then n else place_from (suc n) i es) (by_test (e.0 == i) refl)
  where
    by_test : (b : Bool) → (e.0 == i) ≡ b → b ≡ false
    by_test true h = absurd (differs (same e.0 i h))
      where
        same : (a b : ℕ) → (a == b) ≡ true → a ≡ b
        same a b k = grind (arith, nat_tests)
    by_test false h = refl

place-most : (n : ℕ) (es : List Entry) → IsOrdered Differ es → Each (λ y. n ≤ place_from n y.0 es) es
place-most n [] once = tt
place-most n (e ∷ es) once = (
  at_first (place-here n e.0 e es refl),
  each-map (λ y. (e.0 ≢ y.0) × (suc n ≤ place_from (suc n) y.0 es)) (λ y. n ≤ place_from n y.0 (e ∷ es)) es
      (λ y h. later (place_from n y.0 (e ∷ es)) (place_from (suc n) y.0 es) (place-later n y.0 e es h.0) h.1)
      (each-both (λ y. e.0 ≢ y.0) (λ y. suc n ≤ place_from (suc n) y.0 es) es once.0 (place-most (suc n) es once.1)),
)
  where
    at_first : place_from n e.0 (e ∷ es) ≡ n → n ≤ place_from n e.0 (e ∷ es)
    at_first h = let P : ℕ → Type 0 = λ k. n ≤ k in subst P (sym h) (omega arith)

    later : (a b : ℕ) → a ≡ b → suc n ≤ b → n ≤ a
    later a b h k = omega arith

pub place-ordered : (n : ℕ) (es : List Entry) → IsOrdered Differ es → IsOrdered (λ x y. place_from n x.0 es < place_from n y.0 es) es
place-ordered n [] once = tt
place-ordered n (e ∷ es) once = (
  each-map (λ y. (e.0 ≢ y.0) × (suc n ≤ place_from (suc n) y.0 es)) (λ y. place_from n e.0 (e ∷ es) < place_from n y.0 (e ∷ es)) es
      (λ y h. first (place_from n e.0 (e ∷ es)) (place_from n y.0 (e ∷ es)) (place_from (suc n) y.0 es) (place-here n e.0 e es refl)
      (place-later n y.0 e es h.0) h.1)
      (each-both (λ y. e.0 ≢ y.0) (λ y. suc n ≤ place_from (suc n) y.0 es) es once.0 (place-most (suc n) es once.1)),
  ordered-map (λ x y. place_from (suc n) x.0 es < place_from (suc n) y.0 es) Differ (λ x y. place_from n x.0 (e ∷ es) < place_from n y.0 (e ∷ es))
      (λ y. e.0 ≢ y.0) es
      (λ x y kx ky p r. both (place_from n x.0 (e ∷ es)) (place_from n y.0 (e ∷ es)) (place_from (suc n) x.0 es) (place_from (suc n) y.0 es)
      (place-later n x.0 e es kx) (place-later n y.0 e es ky) p)
      once.0 (place-ordered (suc n) es once.1) once.1,
)
  where
    first : (a b c : ℕ) → a ≡ n → b ≡ c → suc n ≤ c → a < b
    first a b c h k l = omega arith

    both : (a b c d : ℕ) → a ≡ c → b ≡ d → c < d → a < b
    both a b c d h k l = omega arith

-- the numbers that places are
pub length-places : (k n : ℕ) (es : List Entry) → length (places_from k n es) ≡ n
length-places k zero es = refl
length-places k (suc n) es = ap suc (length-places (suc k) n es)

number-places : (k n i : ℕ) (es : List Entry) → i < n → number (places_from k n es) i ≡ pos (place_from 1 (k + i) es)
number-places k zero i es h = absurd (none h)
  where
    none : i < 0 → ⊥
    none l = omega arith
number-places k (suc n) zero es h = let same : k ≡ k + 0 = omega arith in ap (λ j. pos (place_from 1 j es)) same
number-places k (suc n) (suc i) es h = let same : suc k + i ≡ k + suc i = omega arith
    in number-places (suc k) n i es (omega arith) ∙ ap (λ j. pos (place_from 1 j es)) same

pub number-place : (n i : ℕ) (es : List Entry) → i < n → number (places n es) i ≡ pos (place_from 1 i es)
number-place n i es h = number-places 0 n i es h ∙ (let same : 0 + i ≡ i = omega arith in ap (λ j. pos (place_from 1 j es)) same)

pub pos-less : (m n : ℕ) → m < n → int_lt (pos m) (pos n) ≡ true
pos-less m n h = grind (arith, ints)

-- by its places a list is in the order that it has by other numbers
pub ordered-places : (ts : List Task) (os : List ℤ) (es : List Entry) → Each (IsReadyAt ts) es → IsOrdered (Precedes os) es
    → IsOrdered (Precedes (places (length ts) es)) es
ordered-places ts os es each ordered =
    ordered-map (Precedes os) (λ x y. place_from 1 x.0 es < place_from 1 y.0 es) (Precedes (places (length ts) es)) (λ x. x.0 < length ts) es
    (λ x y kx ky p r. by_level x y kx ky p r) (each-within ts es each) ordered (place-ordered 1 es (distinct-ordered ts os es each ordered))
  where
    by_level : (x y : Entry) → x.0 < length ts → y.0 < length ts → Precedes os x y → place_from 1 x.0 es < place_from 1 y.0 es
        → Precedes (places (length ts) es) x y
    by_level x y kx ky (inl a) r = inl a
    by_level x y kx ky (inr a) r =
        inr (
          a.0,
          ap (λ z. int_lt z (number (places (length ts) es) y.0)) (number-place (length ts) x.0 es kx)
              ∙ ap (int_lt (pos (place_from 1 x.0 es))) (number-place (length ts) y.0 es ky) ∙ pos-less (place_from 1 x.0 es) (place_from 1 y.0 es) r,
        )

pub queued-places : (ts : List Task) (os : List ℤ) (ready : List Entry) → AreQueued ts os ready → AreQueued ts (places (length ts) ready) ready
queued-places ts os ready q =
    record { numbered = length-places 0 (length ts) ready; each = q.each; all = q.all; ordered = ordered-places ts os ready q.each q.ordered }

-- two tasks of a list
record Pair (R : Entry → Entry → Type 0) (K : Entry → Type 0) (i j : ℕ) : Type 0 where
  x : Entry
  y : Entry
  is_x : i ≡ x.0
  is_y : j ≡ y.0
  of_x : K x
  of_y : K y
  order : (i ≡ j) ⊎ (R x y ⊎ R y x)

pair-first : (R : Entry → Entry → Type 0) (K : Entry → Type 0) (i j : ℕ) (e : Entry) (es : List Entry) → i ≡ e.0 → K e → Each (R e) es → Each K es
    → IsIn j es → Pair R K i j
pair-first R K i j e [] is k r all h = absurd h
pair-first R K i j e (f ∷ es) is k r all (inl a) = record { x = e; y = f; is_x = is; is_y = a; of_x = k; of_y = all.0; order = inr (inl r.0) }
pair-first R K i j e (f ∷ es) is k r all (inr a) = pair-first R K i j e es is k r.1 all.1 a

turned : (R : Entry → Entry → Type 0) (K : Entry → Type 0) (i j : ℕ) → Pair R K i j → Pair R K j i
turned R K i j p = record { x = p.y; y = p.x; is_x = p.is_y; is_y = p.is_x; of_x = p.of_y; of_y = p.of_x; order = turn p.order }
  where
    turn : (i ≡ j) ⊎ (R p.x p.y ⊎ R p.y p.x) → (j ≡ i) ⊎ (R p.y p.x ⊎ R p.x p.y)
    turn (inl e) = inl (sym e)
    turn (inr (inl a)) = inr (inr a)
    turn (inr (inr a)) = inr (inl a)

pair : (R : Entry → Entry → Type 0) (K : Entry → Type 0) (i j : ℕ) (es : List Entry) → IsIn i es → IsIn j es → IsOrdered R es → Each K es
    → Pair R K i j
pair R K i j [] h k ordered all = absurd h
pair R K i j (e ∷ es) (inl a) (inl b) ordered all = record { x = e; y = e; is_x = a; is_y = b; of_x = all.0; of_y = all.0; order = inl (a ∙ sym b) }
pair R K i j (e ∷ es) (inl a) (inr b) ordered all = pair-first R K i j e es a all.0 ordered.0 all.1 b
pair R K i j (e ∷ es) (inr a) (inl b) ordered all = turned R K j i (pair-first R K j i e es b all.0 ordered.0 all.1 a)
pair R K i j (e ∷ es) (inr a) (inr b) ordered all = pair R K i j es a b ordered.1 all.1

has-number : (os : List ℤ) (i : ℕ) (o : ℤ) → HasNumber os i o → number os i ≡ o
has-number os i o h = ap (λ z. unwrap_or z (pos 0)) h

numbers-lt : (os : List ℤ) (x y : Entry) → x.1 ≡ y.1 → Precedes os x y → int_lt (number os x.0) (number os y.0) ≡ true
numbers-lt os x y same (inl a) = absurd (nope x.1 y.1 same a)
  where
    nope : (m n : ℕ) → m ≡ n → n < m → ⊥
    nope m n h k = omega arith
numbers-lt os x y same (inr a) = a.1

-- two lists of numbers for which one list is in order of dispatch rank alike
pub ranks-alike : (ts : List Task) (os ps : List ℤ) (ready : List Entry) → AreQueued ts os ready → AreQueued ts ps ready → RankAlike ts os ps
ranks-alike ts os ps ready q r = record {
  numbered = q.numbered;
  renumbered = r.numbered;
  alike = λ i j t u o x p y ti uj rivals oi xj pi yj. by_pair i j t u o x p y ti uj rivals oi xj pi yj
      (pair (λ a b. Precedes os a b × Precedes ps a b) (IsReadyAt ts) i j ready (q.all i t ti rivals.0) (q.all j u uj rivals.1)
      (ordered-map (Precedes os) (Precedes ps) (λ a b. Precedes os a b × Precedes ps a b) (IsReadyAt ts) ready
      (λ a b ka kb s z. (s, z)) q.each q.ordered r.ordered) q.each);
}
  where
    by_pair : (i j : ℕ) (t u : Task) (o x p y : ℤ) → slice_get ts i ≡ Some t → slice_get ts j ≡ Some u → AreRivals t u → HasNumber os i o
        → HasNumber os j x → HasNumber ps i p → HasNumber ps j y
        → Pair (λ a b. Precedes os a b × Precedes ps a b) (IsReadyAt ts) i j → int_lt o x ≡ int_lt p y
    by_pair i j t u o x p y ti uj rivals oi xj pi yj k =
        sym (lt os o x (has-number os i o oi) (has-number os j x xj)) ∙ by_order k.order ∙ lt ps p y (has-number ps i p pi) (has-number ps j y yj)
      where
        lt : (ns : List ℤ) (a b : ℤ) → number ns i ≡ a → number ns j ≡ b → int_lt (number ns i) (number ns j) ≡ int_lt a b
        lt ns a b h l = ap (λ z. int_lt z (number ns j)) h ∙ ap (int_lt a) l

        level-x : k.x.1 ≡ t.active
        level-x = sym k.of_x.3 ∙ ap (λ v. v.active) (same_Some k.of_x.0 t (sym k.of_x.1 ∙ ap (slice_get ts) (sym k.is_x) ∙ ti))

        level-y : k.y.1 ≡ u.active
        level-y = sym k.of_y.3 ∙ ap (λ v. v.active) (same_Some k.of_y.0 u (sym k.of_y.1 ∙ ap (slice_get ts) (sym k.is_y) ∙ uj))

        levels : k.x.1 ≡ k.y.1
        levels = level-x ∙ rivals.2 ∙ sym level-y

        at : (ns : List ℤ) (b : Bool) → int_lt (number ns k.x.0) (number ns k.y.0) ≡ b → int_lt (number ns i) (number ns j) ≡ b
        at ns b h = ap (λ z. int_lt (number ns z) (number ns j)) k.is_x ∙ ap (λ z. int_lt (number ns k.x.0) (number ns z)) k.is_y ∙ h

        same : (ns : List ℤ) → i ≡ j → int_lt (number ns i) (number ns j) ≡ false
        same ns e = ap (λ z. int_lt (number ns i) (number ns z)) (sym e) ∙ irr (number ns i)
          where
            irr : (a : ℤ) → int_lt a a ≡ false
            irr a = by_test (int_lt a a) refl
              where
                by_test : (b : Bool) → int_lt a a ≡ b → b ≡ false
                by_test true h = absurd (int-same a h)
                by_test false h = refl

        by_order : (i ≡ j) ⊎ ((Precedes os k.x k.y × Precedes ps k.x k.y) ⊎ (Precedes os k.y k.x × Precedes ps k.y k.x))
            → int_lt (number os i) (number os j) ≡ int_lt (number ps i) (number ps j)
        by_order (inl e) = same os e ∙ sym (same ps e)
        by_order (inr (inl h)) = at os true (numbers-lt os k.x k.y levels h.0) ∙ sym (at ps true (numbers-lt ps k.x k.y levels h.1))
        by_order (inr (inr h)) =
            at os false (int-turn (number os k.y.0) (number os k.x.0) (numbers-lt os k.y k.x (sym levels) h.0))
            ∙ sym (at ps false (int-turn (number ps k.y.0) (number ps k.x.0) (numbers-lt ps k.y k.x (sym levels) h.1)))
