-- The running task apart from the ready list: while it has effects it is in no list, and the order of dispatch is the ready list with it
-- before the others of its active priority. So it may enter and leave sections, and release other tasks, wherever it then stands.
use Rattle.std.specs.Prelude.{◌≡◌, ◌≢◌, ◌⊎◌, ℕ, ◌<◌, Bool, true, false, nat_lt, nat_le, List, [], ◌∷◌, Some, slice_get, ℤ, if◌then◌else◌, refl}
use Rattle.std.proofs.Common.{sym, ◌∙◌, ap, subst, arith, inl, inr}
use Rattle.std.proofs.lemmas.Option.{same_Some}
use Rattle.std.proofs.lemmas.Bool.{cases_eq}
use Rattle.std.proofs.lemmas.Bool.Decides.{nat_tests}
use Rattle.seq_tree.specs.Lists.{change}
use Rattle.link_queue.specs.Queues.{Entry, Each, IsApart, IsOrdered, at_head, at_tail, outranks, put_behind}
use Rattle.link_queue.proofs.Shared.Lists.{each-taken}
use Rattle.machine.specs.States.{Task, Ready}
use Rattle.machine.specs.Dispatch.{put_first, put_last}
use Rattle.law_dispatching.specs.Queueing.{AreQueued, IsIn, IsReadyAt, Precedes}
use Rattle.law_dispatching.proofs.Shared.Places.{get-changed, length-change}
use Rattle.law_dispatching.proofs.Shared.Queued.{all-others, each-other, first-apart, moved-among, queued-released}

-- the two ways in which a task comes to the list do not depend on which comes first
tests : (m n : ℕ) → nat_lt m n ≡ true → nat_le n m ≡ false
tests m n h = grind (arith, nat_tests)

tests' : (m n : ℕ) → nat_lt m n ≡ false → nat_le n m ≡ true
tests' m n h = grind (arith, nat_tests)

pub put-commute : (p s : Entry) (es : List Entry) → at_head p (at_tail s es) ≡ at_tail s (at_head p es)
put-commute p s [] = by_test (nat_lt p.1 s.1) refl
  where
    by_test : (b : Bool) → nat_lt p.1 s.1 ≡ b → (if nat_lt p.1 s.1 then s ∷ p ∷ [] else p ∷ s ∷ [])
        ≡ (if nat_le s.1 p.1 then p ∷ s ∷ [] else s ∷ p ∷ [])
    by_test true h = ap (λ b. if b then s ∷ p ∷ [] else p ∷ s ∷ []) h ∙ sym (ap (λ b. if b then p ∷ s ∷ [] else s ∷ p ∷ []) (tests p.1 s.1 h))
    by_test false h = ap (λ b. if b then s ∷ p ∷ [] else p ∷ s ∷ []) h ∙ sym (ap (λ b. if b then p ∷ s ∷ [] else s ∷ p ∷ []) (tests' p.1 s.1 h))
put-commute p s (x ∷ xs) = by_tests (nat_le s.1 x.1) refl (nat_lt p.1 x.1) refl (put-commute p s xs)
  where
    at_s : Bool → List Entry
    at_s a = if a then x ∷ at_tail s xs else s ∷ x ∷ xs

    by_tests : (a : Bool) → nat_le s.1 x.1 ≡ a → (b : Bool) → nat_lt p.1 x.1 ≡ b → at_head p (at_tail s xs) ≡ at_tail s (at_head p xs)
        → at_head p (at_tail s (x ∷ xs)) ≡ at_tail s (at_head p (x ∷ xs))
    by_tests true h true k more =
        ap (λ c. at_head p (if c then x ∷ at_tail s xs else s ∷ x ∷ xs)) h ∙ ap (λ c. if c then x ∷ at_head p (at_tail s xs) else p ∷ x
        ∷ at_tail s xs) k ∙ ap (λ es. x ∷ es) more
        ∙ sym (ap (λ c. at_tail s (if c then x ∷ at_head p xs else p ∷ x ∷ xs)) k ∙ ap
        (λ c. if c then x ∷ at_tail s (at_head p xs) else s ∷ x ∷ at_head p xs) h)
    by_tests true h false k more =
        let behind : nat_le s.1 p.1 ≡ true = below s.1 x.1 p.1 h k in
        ap (λ c. at_head p (if c then x ∷ at_tail s xs else s ∷ x ∷ xs)) h ∙ ap (λ c. if c then x ∷ at_head p (at_tail s xs) else p ∷ x
        ∷ at_tail s xs) k
        ∙ sym (ap (λ c. at_tail s (if c then x ∷ at_head p xs else p ∷ x ∷ xs)) k ∙ ap
        (λ c. if c then p ∷ at_tail s (x ∷ xs) else s ∷ p ∷ x ∷ xs) behind
        ∙ ap (λ c. p ∷ (if c then x ∷ at_tail s xs else s ∷ x ∷ xs)) h)
      where
        below : (m n k : ℕ) → nat_le m n ≡ true → nat_lt k n ≡ false → nat_le m k ≡ true
        below m n k u v = grind (arith, nat_tests)
    by_tests false h true k more =
        let before : nat_lt p.1 s.1 ≡ true = above s.1 x.1 p.1 h k in
        ap (λ c. at_head p (if c then x ∷ at_tail s xs else s ∷ x ∷ xs)) h ∙ ap (λ c. if c then s ∷ at_head p (x ∷ xs) else p ∷ s ∷ x ∷ xs) before
        ∙ ap (λ c. s ∷ (if c then x ∷ at_head p xs else p ∷ x ∷ xs)) k
        ∙ sym (ap (λ c. at_tail s (if c then x ∷ at_head p xs else p ∷ x ∷ xs)) k ∙ ap
        (λ c. if c then x ∷ at_tail s (at_head p xs) else s ∷ x ∷ at_head p xs) h)
      where
        above : (m n k : ℕ) → nat_le m n ≡ false → nat_lt k n ≡ true → nat_lt k m ≡ true
        above m n k u v = grind (arith, nat_tests)
    by_tests false h false k more =
        ap (λ c. at_head p (if c then x ∷ at_tail s xs else s ∷ x ∷ xs)) h ∙ by_test (nat_lt p.1 s.1) refl ∙ sym
        (ap (λ c. at_tail s (if c then x ∷ at_head p xs else p ∷ x ∷ xs)) k)
      where
        by_test : (b : Bool) → nat_lt p.1 s.1 ≡ b → at_head p (s ∷ x ∷ xs) ≡ at_tail s (p ∷ x ∷ xs)
        by_test true l =
            ap (λ c. if c then s ∷ at_head p (x ∷ xs) else p ∷ s ∷ x ∷ xs) l ∙ ap (λ c. s ∷ (if c then x ∷ at_head p xs else p ∷ x ∷ xs)) k
            ∙ sym (ap (λ c. if c then p ∷ at_tail s (x ∷ xs) else s ∷ p ∷ x ∷ xs) (tests p.1 s.1 l))
        by_test false l =
            ap (λ c. if c then s ∷ at_head p (x ∷ xs) else p ∷ s ∷ x ∷ xs) l
            ∙ sym (ap (λ c. if c then p ∷ at_tail s (x ∷ xs) else s ∷ p ∷ x ∷ xs) (tests' p.1 s.1 l) ∙ ap
            (λ c. p ∷ (if c then x ∷ at_tail s xs else s ∷ x ∷ xs)) h)

-- the list without what was put into it
ordered-without : (R : Entry → Entry → Type 0) (test : Entry → Bool) (e : Entry) (es : List Entry) → IsOrdered R (put_behind test e es)
    → IsOrdered R es
ordered-without R test e [] h = tt
ordered-without R test e (x ∷ xs) h = by_test (test x) h (λ k. ordered-without R test e xs k)
  where
    by_test : (b : Bool) → IsOrdered R (if b then x ∷ put_behind test e xs else e ∷ x ∷ xs) → (IsOrdered R (put_behind test e xs) → IsOrdered R xs)
        → IsOrdered R (x ∷ xs)
    by_test true k later = ((each-taken (R x) test e xs k.0).1, later k.1)
    by_test false k later = k.1

apart-without : (ts : List Task) (os : List ℤ) (test : Entry → Bool) (e : Entry) (es : List Entry) → Each (IsReadyAt ts) (put_behind test e es)
    → IsOrdered (Precedes os) (put_behind test e es) → IsApart e.0 es
apart-without ts os test e [] all ordered = tt
apart-without ts os test e (x ∷ xs) all ordered = by_test (test x) all ordered (λ a o. apart-without ts os test e xs a o)
  where
    by_test : (b : Bool) → Each (IsReadyAt ts) (if b then x ∷ put_behind test e xs else e ∷ x ∷ xs)
        → IsOrdered (Precedes os) (if b then x ∷ put_behind test e xs else e ∷ x ∷ xs)
        → (Each (IsReadyAt ts) (put_behind test e xs) → IsOrdered (Precedes os) (put_behind test e xs) → IsApart e.0 xs) → IsApart e.0 (x ∷ xs)
    by_test true a o later = (
      (λ same. (first-apart ts os x (e ∷ []) a.0 ((each-taken (IsReadyAt ts) test e xs a.1).0, tt)
          ((each-taken (Precedes os x) test e xs o.0).0, tt)).0 (sym same)),
      later a.1 o.1,
    )
    by_test false a o later = first-apart ts os e (x ∷ xs) a.0 a.1 o.0

-- a task of the list with one more is that one or one of the others
in-taken : (j : ℕ) (test : Entry → Bool) (e : Entry) (es : List Entry) → IsIn j (put_behind test e es) → (j ≡ e.0) ⊎ IsIn j es
in-taken j test e [] h = h
in-taken j test e (x ∷ xs) h = by_test (test x) h (λ k. in-taken j test e xs k)
  where
    by_test : (b : Bool) → IsIn j (if b then x ∷ put_behind test e xs else e ∷ x ∷ xs) → (IsIn j (put_behind test e xs) → (j ≡ e.0) ⊎ IsIn j xs)
        → (j ≡ e.0) ⊎ IsIn j (x ∷ xs)
    by_test true (inl a) later = inr (inl a)
    by_test true (inr a) later = by_place (later a)
      where
        by_place : (j ≡ e.0) ⊎ IsIn j xs → (j ≡ e.0) ⊎ IsIn j (x ∷ xs)
        by_place (inl b) = inl b
        by_place (inr b) = inr (inr b)
    by_test false h' later = h'

-- the first task of the list, where it is taken off, goes before the others of its level
pub running-taken : (os : List ℤ) (e : Entry) (es : List Entry) → IsOrdered (Precedes os) (e ∷ es) → at_head e es ≡ e ∷ es
running-taken os e [] ordered = refl
running-taken os e (x ∷ xs) ordered = ap (λ b. if b then x ∷ put_behind (outranks e) e xs else e ∷ x ∷ xs) (lower ordered.0.0)
  where
    lower : Precedes os e x → nat_lt e.1 x.1 ≡ false
    lower (inl a) = less e.1 x.1 a
      where
        less : (m n : ℕ) → n < m → nat_lt m n ≡ false
        less m n h = grind (arith, nat_tests)
    lower (inr a) = same e.1 x.1 a.0
      where
        same : (m n : ℕ) → m ≡ n → nat_lt m n ≡ false
        same m n h = grind (arith, nat_tests)

module _ (ts : List Task) (os : List ℤ) (e : Entry) (rest : List Entry) (q : AreQueued ts os (at_head e rest)) where
  pub running-here : IsReadyAt ts e
  running-here = (each-taken (IsReadyAt ts) (outranks e) e rest q.each).0

  others-each : Each (IsReadyAt ts) rest
  others-each = (each-taken (IsReadyAt ts) (outranks e) e rest q.each).1

  -- it is in no other place
  pub running-apart : IsApart e.0 rest
  running-apart = apart-without ts os (outranks e) e rest q.each q.ordered

  others-all : (j : ℕ) (u : Task) → slice_get ts j ≡ Some u → u.readiness ≡ Ready → (j ≡ e.0) ⊎ IsIn j rest
  others-all j u here ready = in-taken j (outranks e) e rest (q.all j u here ready)

  -- another task that is not ready is released, and comes behind all of at least its level
  pub running-released : (i : ℕ) (t : Task) (f : Task → Task) → slice_get ts i ≡ Some t → (t.readiness ≡ Ready → ⊥) → (f t).readiness ≡ Ready
      → AreQueued (change i f ts) (put_last i os) (at_head e (at_tail (i, (f t).active) rest))
  running-released i t f at not is =
      subst (AreQueued (change i f ts) (put_last i os)) (sym (put-commute e (i, (f t).active) rest))
      (queued-released ts os (at_head e rest) i t f q at not is)

  module _ (t : Task) (f : Task → Task) (at : slice_get ts e.0 ≡ Some t) where
    -- it enters or leaves a section: it goes before the others of its new level
    pub running-moved : (f t).readiness ≡ Ready → AreQueued (change e.0 f ts) (put_first e.0 os) (at_head (e.0, (f t).active) rest)
    running-moved is = moved-among ts os e rest t f at q.numbered others-each (ordered-without (Precedes os) (outranks e) e rest q.ordered)
        running-apart others-all is

    -- it is ready no more
    pub running-ended : ((f t).readiness ≡ Ready → ⊥) → AreQueued (change e.0 f ts) os rest
    running-ended not = record {
      numbered = q.numbered ∙ sym (length-change e.0 f ts);
      each = each-other e.0 f ts rest running-apart others-each;
      all = λ j u here ready. by_place j u here ready (cases_eq j e.0);
      ordered = ordered-without (Precedes os) (outranks e) e rest q.ordered;
    }
      where
        other : (j : ℕ) → j ≢ e.0 → (j ≡ e.0) ⊎ IsIn j rest → IsIn j rest
        other j d (inl s) = absurd (d s)
        other j d (inr h) = h

        by_place : (j : ℕ) (u : Task) → slice_get (change e.0 f ts) j ≡ Some u → u.readiness ≡ Ready → (j ≡ e.0) ⊎ (j ≢ e.0) → IsIn j rest
        by_place j u here ready (inl same)
            = absurd (not (ap (λ v. v.readiness)
            (same_Some (f t) u (sym (get-changed e.0 f ts t at) ∙ ap (slice_get (change e.0 f ts)) (sym same) ∙ here)) ∙ ready))
        by_place j u here ready (inr d) = other j d (others-all j u (all-others e.0 f ts j u here d) ready)
