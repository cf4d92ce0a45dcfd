-- The ready list stands for the order of dispatch, and goes on doing so after each release, entry, exit and end.
use Rattle.std.specs.Prelude.{◌≡◌, ◌≢◌, ◌⊎◌, ℕ, ◌<◌, ◌≤◌, Bool, true, false, ◌==◌, nat_lt, nat_le, List, [], ◌∷◌, length, Some, slice_get, ℤ}
use Rattle.std.specs.Prelude.{int_lt, if◌then◌else◌, refl}
use Rattle.std.proofs.Common.{sym, ◌∙◌, ap, subst, arith, inl, inr}
use Rattle.std.proofs.lemmas.Option.{same_Some}
use Rattle.std.proofs.lemmas.Bool.{cases_eq}
use Rattle.std.proofs.lemmas.Bool.Decides.{nat_tests}
use Rattle.std.proofs.lemmas.Int.{ints}
use Rattle.seq_tree.specs.Lists.{change}
use Rattle.link_queue.specs.Queues.{Entry, Each, IsApart, IsOrdered, at_head, at_tail, outranks, put_behind, stays_before, with_level}
use Rattle.link_queue.proofs.Shared.Lists.{each-map, each-both, each-put, ordered-put}
use Rattle.machine.specs.States.{Task, Ready}
use Rattle.machine.specs.Dispatch.{put_first, put_last}
use Rattle.law_dispatching.specs.Queueing.{AreQueued, IsIn, IsReadyAt, Precedes, number}
use Rattle.law_dispatching.proofs.Shared.Places.{Before, before-change, get-changed, get-other, length-change, get-within, length-last, length-first}
use Rattle.law_dispatching.proofs.Shared.Places.{last-other, first-other, last-after, first-before}

pub int-same : (a : ℤ) → int_lt a a ≡ true → ⊥
int-same a h = grind (arith, ints)

pub int-turn : (a b : ℤ) → int_lt a b ≡ true → int_lt b a ≡ false
int-turn a b h = grind (arith, ints)

pub int-along : (a b c : ℤ) → int_lt a b ≡ true → int_lt b c ≡ true → int_lt a c ≡ true
int-along a b c h k = grind (arith, ints)

-- an order
pub precedes-along : (os : List ℤ) (x y z : Entry) → Precedes os x y → Precedes os y z → Precedes os x z
precedes-along os x y z (inl a) (inl b) = inl (omega arith)
precedes-along os x y z (inl a) (inr b) = inl (omega arith)
precedes-along os x y z (inr a) (inl b) = inl (omega arith)
precedes-along os x y z (inr a) (inr b) = inr (omega arith, int-along (number os x.0) (number os y.0) (number os z.0) a.1 b.1)

pub precedes-apart : (os : List ℤ) (x y : Entry) → Precedes os x y → x.0 ≡ y.0 → x.1 ≡ y.1 → ⊥
precedes-apart os x y (inl a) e k = omega arith
precedes-apart os x y (inr a) e k = int-same (number os x.0) (subst (λ (j : ℕ). int_lt (number os x.0) (number os j) ≡ true) (sym e) a.1)

-- entries of a list
pub in-put : (i : ℕ) (test : Entry → Bool) (e : Entry) (es : List Entry) → IsIn i es → IsIn i (put_behind test e es)
in-put i test e [] h = absurd h
in-put i test e (x ∷ xs) h = by_test (test x) h (in-put i test e xs)
  where
    by_test : (b : Bool) → (i ≡ x.0) ⊎ IsIn i xs → (IsIn i xs → IsIn i (put_behind test e xs))
        → IsIn i (if b then x ∷ put_behind test e xs else e ∷ x ∷ xs)
    by_test true (inl a) later = inl a
    by_test true (inr a) later = inr (later a)
    by_test false a later = inr a

pub in-new : (i : ℕ) (test : Entry → Bool) (e : Entry) (es : List Entry) → i ≡ e.0 → IsIn i (put_behind test e es)
in-new i test e [] h = inl h
in-new i test e (x ∷ xs) h = by_test (test x) (in-new i test e xs h)
  where
    by_test : (b : Bool) → IsIn i (put_behind test e xs) → IsIn i (if b then x ∷ put_behind test e xs else e ∷ x ∷ xs)
    by_test true later = inr later
    by_test false later = inl h

-- a task of the list, with its entry
pub in-each : (P : Entry → Type 0) (i : ℕ) (es : List Entry) → IsIn i es → Each P es → (e : Entry) × (i ≡ e.0) × P e
in-each P i [] h all = absurd h
in-each P i (e ∷ es) (inl same) all = (e, same, all.0)
in-each P i (e ∷ es) (inr later) all = in-each P i es later all.1

-- a task that is not ready is in no place
pub apart-ready : (ts : List Task) (i : ℕ) (t : Task) (es : List Entry) → slice_get ts i ≡ Some t → (t.readiness ≡ Ready → ⊥) → Each (IsReadyAt ts) es
    → IsApart i es
apart-ready ts i t [] at not all = tt
apart-ready ts i t (e ∷ es) at not all = (
  λ same. not (ap (λ u. u.readiness) (same_Some t all.0.0 (sym at ∙ ap (slice_get ts) same ∙ all.0.1)) ∙
      all.0.2),
  apart-ready ts i t es at not all.1,
)

-- what is known of each task in the list after a change of another
ready-other : (i : ℕ) (f : Task → Task) (ts : List Task) (e : Entry) → i ≢ e.0 → IsReadyAt ts e → IsReadyAt (change i f ts) e
ready-other i f ts e d h = (h.0, get-other i e.0 f ts (λ s. d (sym s)) ∙ h.1, h.2, h.3)

pub each-other : (i : ℕ) (f : Task → Task) (ts : List Task) (es : List Entry) → IsApart i es → Each (IsReadyAt ts) es
    → Each (IsReadyAt (change i f ts)) es
each-other i f ts es apart all =
    each-map (λ e. (i ≢ e.0) × IsReadyAt ts e) (IsReadyAt (change i f ts)) es (λ e h. ready-other i f ts e h.0 h.1)
    (each-both (λ e. i ≢ e.0) (IsReadyAt ts) es apart all)

pub each-within : (ts : List Task) (es : List Entry) → Each (IsReadyAt ts) es → Each (λ e. e.0 < length ts) es
each-within ts es all = each-map (IsReadyAt ts) (λ e. e.0 < length ts) es (λ e h. get-within e.0 ts h.0 h.1) all

-- the order among others after one number has changed
pub ordered-other : (os os' : List ℤ) (i : ℕ) (es : List Entry) → ((j : ℕ) → j ≢ i → number os' j ≡ number os j) → IsApart i es
    → IsOrdered (Precedes os) es → IsOrdered (Precedes os') es
ordered-other os os' i [] same apart ordered = tt
ordered-other os os' i (e ∷ es) same apart ordered = (
  each-map (λ x. (i ≢ x.0) × Precedes os e x) (Precedes os' e) es
      (λ x h. moved x h.0 h.1) (each-both (λ x. i ≢ x.0) (Precedes os e) es apart.1 ordered.0),
  ordered-other os os' i es same apart.1 ordered.1,
)
  where
    moved : (x : Entry) → i ≢ x.0 → Precedes os e x → Precedes os' e x
    moved x d (inl a) = inl a
    moved x d (inr a) = inr (
      a.0,
      ap (λ z. int_lt z (number os' x.0)) (same e.0 (λ s. apart.0 (sym s))) ∙ ap (int_lt (number os e.0)) (same x.0
          (λ s. d (sym s))) ∙ a.1,
    )

-- which task is ready after a change of one
pub all-others : (i : ℕ) (f : Task → Task) (ts : List Task) (j : ℕ) (t : Task) → slice_get (change i f ts) j ≡ Some t → j ≢ i
    → slice_get ts j ≡ Some t
all-others i f ts j t at d = sym (get-other i j f ts d) ∙ at

-- a task of the list is the first one or a later one
pub in-rest : (j : ℕ) (e : Entry) (es : List Entry) → j ≢ e.0 → IsIn j (e ∷ es) → IsIn j es
in-rest j e es d (inl a) = absurd (d a)
in-rest j e es d (inr a) = a

-- the first task is in no other place
pub first-apart : (ts : List Task) (os : List ℤ) (e : Entry) (es : List Entry) → IsReadyAt ts e → Each (IsReadyAt ts) es → Each (Precedes os e) es
    → IsApart e.0 es
first-apart ts os e es here each ordered =
    each-map (λ x. Precedes os e x × IsReadyAt ts x) (λ x. e.0 ≢ x.0) es
    (λ x h. λ same. precedes-apart os e x h.0 same (levels x same h.1)) (each-both (Precedes os e) (IsReadyAt ts) es ordered each)
  where
    levels : (x : Entry) → e.0 ≡ x.0 → IsReadyAt ts x → e.1 ≡ x.1
    levels x same h = sym here.3 ∙ ap (λ u. u.active) (same_Some here.0 h.0 (sym here.1 ∙ ap (slice_get ts) same ∙ h.1)) ∙ h.3

pub head-apart : (ts : List Task) (os : List ℤ) (e : Entry) (es : List Entry) → AreQueued ts os (e ∷ es) → IsApart e.0 es
head-apart ts os e es q = first-apart ts os e es q.each.0 q.each.1 q.ordered.0

-- a released task comes behind all of at least its level
module _ (ts : List Task) (os : List ℤ) (ready : List Entry) (i : ℕ) (t : Task) (f : Task
    → Task) (q : AreQueued ts os ready) (at : slice_get ts i ≡ Some t) where
  known : i < length os
  known = let h : i < length ts = get-within i ts t at in omega (arith, q.numbered)

  enters-last : (x : Entry) → (i ≢ x.0) × (x.0 < length os) → nat_le (f t).active x.1 ≡ true → Precedes (put_last i os) x (i, (f t).active)
  enters-last x d h = by_test (nat_lt (f t).active x.1) refl
    where
      by_test : (b : Bool) → nat_lt (f t).active x.1 ≡ b → Precedes (put_last i os) x (i, (f t).active)
      by_test true e = inl (less e)
        where
          less : nat_lt (f t).active x.1 ≡ true → (f t).active < x.1
          less k = grind (arith, nat_tests)
      by_test false e = inr (
        equal h e,
        ap (λ z. int_lt z (number (put_last i os) i)) (last-other i x.0 os
            (λ s. d.0 (sym s))) ∙ last-after i x.0 os known d.1,
      )
        where
          equal : nat_le (f t).active x.1 ≡ true → nat_lt (f t).active x.1 ≡ false → x.1 ≡ (f t).active
          equal k l = grind (arith, nat_tests)

  goes-last : (x : Entry) → nat_le (f t).active x.1 ≡ false → Precedes (put_last i os) (i, (f t).active) x
  goes-last x h = inl (less h)
    where
      less : nat_le (f t).active x.1 ≡ false → x.1 < (f t).active
      less k = grind (arith, nat_tests)

  pub queued-released : (t.readiness ≡ Ready → ⊥) → (f t).readiness ≡ Ready
      → AreQueued (change i f ts) (put_last i os) (at_tail (i, (f t).active) ready)
  queued-released not is =
      let apart : IsApart i ready = apart-ready ts i t ready at not q.each in
      let within : Each (λ e. e.0 < length os) ready
      = each-map (λ e. e.0 < length ts) (λ e. e.0 < length os) ready (λ e h. omega (arith, q.numbered)) (each-within ts ready q.each) in
      record {
        numbered = length-last i os ∙ q.numbered ∙ sym (length-change i f ts);
        each = each-put (IsReadyAt (change i f ts)) (stays_before (i, (f t).active)) (i, (f t).active) ready (f t, get-changed i f ts t at, is, refl)
            (each-other i f ts ready apart q.each);
        all = λ j u here ready'. by_place j u here ready' (cases_eq j i);
        ordered = ordered-put (Precedes (put_last i os)) (λ x. (i ≢ x.0) × (x.0 < length os)) (stays_before (i, (f t).active)) (i, (f t).active) ready
            (λ x d h. enters-last x d h) (λ x d h. goes-last x h) (λ x y r s. precedes-along (put_last i os) (i, (f t).active) x y r s)
            (each-both (λ x. i ≢ x.0) (λ x. x.0 < length os) ready apart within)
            (ordered-other os (put_last i os) i ready (λ j d. last-other i j os d) apart q.ordered);
      }
    where
      by_place : (j : ℕ) (u : Task) → slice_get (change i f ts) j ≡ Some u → u.readiness ≡ Ready → (j ≡ i) ⊎ (j ≢ i)
          → IsIn j (at_tail (i, (f t).active) ready)
      by_place j u here ready' (inl same) = in-new j (stays_before (i, (f t).active)) (i, (f t).active) ready same
      by_place j u here ready' (inr d) = in-put j (stays_before (i, (f t).active)) (i, (f t).active) ready
          (q.all j u (all-others i f ts j u here d) ready')

-- a task of the list, wherever it stands, takes another level, behind all of a greater one and before the others of its own
module _ (ts : List Task) (os : List ℤ) (e : Entry) (rest : List Entry) (t : Task) (f : Task
    → Task) (at : slice_get ts e.0 ≡ Some t) (numbered : length os ≡ length ts) (each : Each (IsReadyAt ts) rest)
    (ordered : IsOrdered (Precedes os) rest) (apart : IsApart e.0 rest) (all : (j : ℕ) (u : Task) → slice_get ts j ≡ Some u → u.readiness ≡ Ready
    → (j ≡ e.0) ⊎ IsIn j rest) where
  known-moved : e.0 < length os
  known-moved = let h : e.0 < length ts = get-within e.0 ts t at in omega (arith, numbered)

  enters-moved : (x : Entry) → nat_lt (f t).active x.1 ≡ true → Precedes (put_first e.0 os) x (e.0, (f t).active)
  enters-moved x h = inl (less h)
    where
      less : nat_lt (f t).active x.1 ≡ true → (f t).active < x.1
      less k = grind (arith, nat_tests)

  goes-moved : (x : Entry) → (e.0 ≢ x.0) × (x.0 < length os) → nat_lt (f t).active x.1 ≡ false → Precedes (put_first e.0 os) (e.0, (f t).active) x
  goes-moved x d h = by_test ((f t).active == x.1) refl
    where
      by_test : (b : Bool) → ((f t).active == x.1) ≡ b → Precedes (put_first e.0 os) (e.0, (f t).active) x
      by_test true k = inr (
        equal k,
        ap (int_lt (number (put_first e.0 os) e.0)) (first-other e.0 x.0 os
            (λ s. d.0 (sym s))) ∙ first-before e.0 x.0 os known-moved d.1,
      )
        where
          equal : ((f t).active == x.1) ≡ true → (f t).active ≡ x.1
          equal l = grind (arith, nat_tests)
      by_test false k = inl (less h k)
        where
          less : nat_lt (f t).active x.1 ≡ false → ((f t).active == x.1) ≡ false → x.1 < (f t).active
          less l m = grind (arith, nat_tests)

  pub moved-among : (f t).readiness ≡ Ready → AreQueued (change e.0 f ts) (put_first e.0 os) (at_head (e.0, (f t).active) rest)
  moved-among is =
      let within : Each (λ x. x.0 < length os) rest
      = each-map (λ x. x.0 < length ts) (λ x. x.0 < length os) rest (λ x h. omega (arith, numbered)) (each-within ts rest each) in
      record {
        numbered = length-first e.0 os ∙ numbered ∙ sym (length-change e.0 f ts);
        each = each-put (IsReadyAt (change e.0 f ts)) (outranks (e.0, (f t).active)) (e.0, (f t).active) rest
            (f t, get-changed e.0 f ts t at, is, refl) (each-other e.0 f ts rest apart each);
        all = λ j u here ready. by_place j u here ready (cases_eq j e.0);
        ordered = ordered-put (Precedes (put_first e.0 os)) (λ x. (e.0 ≢ x.0) × (x.0 < length os)) (outranks (e.0, (f t).active))
            (e.0, (f t).active) rest
            (λ x d h. enters-moved x h) (λ x d h. goes-moved x d h) (λ x y r s. precedes-along (put_first e.0 os) (e.0, (f t).active) x y r s)
            (each-both (λ x. e.0 ≢ x.0) (λ x. x.0 < length os) rest apart within)
            (ordered-other os (put_first e.0 os) e.0 rest (λ j d. first-other e.0 j os d) apart ordered);
      }
    where
      other : (j : ℕ) → j ≢ e.0 → (j ≡ e.0) ⊎ IsIn j rest → IsIn j rest
      other j d (inl s) = absurd (d s)
      other j d (inr h) = h

      by_place : (j : ℕ) (u : Task) → slice_get (change e.0 f ts) j ≡ Some u → u.readiness ≡ Ready → (j ≡ e.0) ⊎ (j ≢ e.0)
          → IsIn j (at_head (e.0, (f t).active) rest)
      by_place j u here ready (inl same) = in-new j (outranks (e.0, (f t).active)) (e.0, (f t).active) rest same
      by_place j u here ready (inr d) = in-put j (outranks (e.0, (f t).active)) (e.0, (f t).active) rest
          (other j d (all j u (all-others e.0 f ts j u here d) ready))

-- the first task does so
module _ (ts : List Task) (os : List ℤ) (e : Entry) (es : List Entry) (t : Task) (f : Task
    → Task) (q : AreQueued ts os (e ∷ es)) (at : slice_get ts e.0 ≡ Some t) where
  pub queued-moved : (f t).readiness ≡ Ready → AreQueued (change e.0 f ts) (put_first e.0 os) (at_head (e.0, (f t).active) es)
  queued-moved is = moved-among ts os e es t f at q.numbered q.each.1 q.ordered.1 (head-apart ts os e es q) q.all is

  -- it stays first where its level does not fall
  pub queued-raised : (f t).readiness ≡ Ready → e.1 ≤ (f t).active → AreQueued (change e.0 f ts) (put_first e.0 os) (with_level (f t).active (e ∷ es))
  queued-raised is most = subst (AreQueued (change e.0 f ts) (put_first e.0 os)) (stays es q.ordered.0) (queued-moved is)
    where
      stays : (es : List Entry) → Each (Precedes os e) es → at_head (e.0, (f t).active) es ≡ (e.0, (f t).active) ∷ es
      stays [] all = refl
      stays (x ∷ xs) all = ap (λ b. if b then x ∷ put_behind (outranks (e.0, (f t).active)) (e.0, (f t).active) xs else (e.0, (f t).active) ∷ x ∷ xs)
          (lower all.0)
        where
          lower : Precedes os e x → nat_lt (f t).active x.1 ≡ false
          lower (inl a) = lem a
            where
              lem : x.1 < e.1 → nat_lt (f t).active x.1 ≡ false
              lem k = grind (arith, nat_tests)
          lower (inr a) = lem a.0
            where
              lem : e.1 ≡ x.1 → nat_lt (f t).active x.1 ≡ false
              lem k = grind (arith, nat_tests)

  -- it leaves the list where it is ready no more
  pub queued-ended : ((f t).readiness ≡ Ready → ⊥) → AreQueued (change e.0 f ts) os es
  queued-ended not =
      let apart : IsApart e.0 es = head-apart ts os e es q in
      record {
        numbered = q.numbered ∙ sym (length-change e.0 f ts);
        each = each-other e.0 f ts es apart q.each.1;
        all = λ j u here ready'. by_place j u here ready' (cases_eq j e.0);
        ordered = q.ordered.1;
      }
    where
      by_place : (j : ℕ) (u : Task) → slice_get (change e.0 f ts) j ≡ Some u → u.readiness ≡ Ready → (j ≡ e.0) ⊎ (j ≢ e.0) → IsIn j es
      by_place j u here ready' (inl same)
          = absurd (not (ap (λ v. v.readiness)
          (same_Some (f t) u (sym (get-changed e.0 f ts t at) ∙ ap (slice_get (change e.0 f ts)) (sym same) ∙ here)) ∙ ready'))
      by_place j u here ready' (inr d) = in-rest j e es d (q.all j u (all-others e.0 f ts j u here d) ready')

-- a change of what dispatching does not read
module _ (ts : List Task) (os : List ℤ) (ready : List Entry) (i : ℕ) (f : Task → Task) (q : AreQueued ts os ready) (same : (t : Task)
    → ((f t).readiness ≡ t.readiness) × ((f t).active ≡ t.active)) where
  kept-at : (e : Entry) → IsReadyAt ts e → IsReadyAt (change i f ts) e
  kept-at e h = by_place (cases_eq i e.0)
    where
      by_place : (i ≡ e.0) ⊎ (i ≢ e.0) → IsReadyAt (change i f ts) e
      by_place (inl s) =
          (f h.0, ap (slice_get (change i f ts)) (sym s) ∙ get-changed i f ts h.0 (ap (slice_get ts) s ∙ h.1), (same h.0).0 ∙ h.2, (same h.0).1 ∙ h.3)
      by_place (inr d) = ready-other i f ts e d h

  kept-all : (j : ℕ) (u : Task) → slice_get (change i f ts) j ≡ Some u → u.readiness ≡ Ready → IsIn j ready
  kept-all j u here is = let b : Before i f ts j u = before-change i f ts j u here in q.all j b.task b.at (was b.task b.is)
    where
      was : (v : Task) → (u ≡ v) ⊎ (u ≡ f v) → v.readiness ≡ Ready
      was v (inl e) = ap (λ w. w.readiness) (sym e) ∙ is
      was v (inr e) = sym (same v).0 ∙ ap (λ w. w.readiness) (sym e) ∙ is

  pub queued-kept : AreQueued (change i f ts) os ready
  queued-kept = record {
    numbered = q.numbered ∙ sym (length-change i f ts);
    each = each-map (IsReadyAt ts) (IsReadyAt (change i f ts)) ready kept-at q.each;
    all = kept-all;
    ordered = q.ordered;
  }
