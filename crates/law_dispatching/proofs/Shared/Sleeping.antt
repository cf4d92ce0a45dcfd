-- The delay list stands for the sleeping tasks: its first task is the one that is released next.
use Rattle.std.specs.Prelude.{◌≡◌, ◌≢◌, ◌⊎◌, ℕ, zero, suc, ◌+◌, ◌<◌, ◌≤◌, max, Bool, true, false, nat_le, List, [], ◌∷◌, Some, None, option_map}
use Rattle.std.specs.Prelude.{slice_get, if◌then◌else◌, refl}
use Rattle.std.proofs.Common.{sym, ◌∙◌, ap, subst, arith, inl, inr}
use Rattle.std.proofs.lemmas.Option.{none-some, same_Some}
use Rattle.std.proofs.lemmas.Bool.{cases_eq}
use Rattle.std.proofs.lemmas.Bool.Decides.{nat_tests}
use Rattle.seq_tree.specs.Lists.{change, first_from, first_where}
use Rattle.link_queue.specs.Queues.{Entry, Each, IsApart, IsOrdered, WakesBefore, due, in_time, wakes_before}
use Rattle.link_queue.proofs.Shared.Lists.{each-map, each-both, each-put, in_order-time}
use Rattle.machine.specs.States.{Task, Readiness, Asleep, Waiting, Ready}
use Rattle.machine.specs.Steps.{is_due}
use Rattle.law_dispatching.specs.Queueing.{AreSleeping, IsIn, SleepsUntil}
use Rattle.law_dispatching.proofs.Shared.Places.{Before, before-change, get-changed, get-other}
use Rattle.law_dispatching.proofs.Shared.Queued.{all-others, in-each, in-new, in-put, in-rest}

-- whether a sleeper is due
abbrev is_now : ℕ → Task → Bool
is_now time t = is_due time t.readiness

-- the first task that passes a test
pub first-found : (n : ℕ) (test : Task → Bool) (ts : List Task) (i : ℕ) (t : Task) → slice_get ts i ≡ Some t → test t ≡ true
    → ((j : ℕ) (u : Task) → j < i → slice_get ts j ≡ Some u → test u ≡ false)
    → first_from n test ts ≡ Some (n + i, t)
first-found n test [] i t at passes before = absurd (none-some t at)
first-found n test (u ∷ ts) zero t at passes before =
    let same : u ≡ t = same_Some u t at in
    let here : n ≡ n + 0 = omega arith in
    ap (λ b. if b then Some (n, u) else first_from (suc n) test ts) (ap test same ∙ passes) ∙ ap (λ k. Some (k, u)) here ∙ ap
    (λ v. Some (n + 0, v)) same
first-found n test (u ∷ ts) (suc i) t at passes before =
    let there : suc n + i ≡ n + suc i = omega arith in
    ap (λ b. if b then Some (n, u) else first_from (suc n) test ts) (before 0 u (omega arith) refl)
    ∙ first-found (suc n) test ts i t at passes (λ j v h k. before (suc j) v (omega arith) k) ∙ ap (λ k. Some (k, t)) there

pub first-none : (n : ℕ) (test : Task → Bool) (ts : List Task) → ((j : ℕ) (u : Task) → slice_get ts j ≡ Some u → test u ≡ false)
    → first_from n test ts ≡ None
first-none n test [] none = refl
first-none n test (u ∷ ts) none =
    ap (λ b. if b then Some (n, u) else first_from (suc n) test ts) (none 0 u refl) ∙ first-none (suc n) test ts (λ j v k. none (suc j) v k)

asleep-same : (a b : ℕ) → Asleep a ≡ Asleep b → a ≡ b
asleep-same a b h = cc

-- how long a task sleeps that is in the list
sleeps : (ts : List Task) (time : ℕ) (e : Entry) (i until : ℕ) (t : Task) → SleepsUntil ts time e → i ≡ e.0 → slice_get ts i ≡ Some t
    → t.readiness ≡ Asleep until → e.1 ≡ max until time
sleeps ts time e i until t s same at is =
    let u : s.0 ≡ t = same_Some s.0 t (sym s.2 ∙ ap (slice_get ts) (sym same) ∙ at) in
    s.4 ∙ ap (λ k. max k time) (asleep-same s.1 until (sym s.3 ∙ ap (λ v. v.readiness) u ∙ is))

module _ (ts : List Task) (time : ℕ) (asleep : List Entry) (a : AreSleeping ts time asleep) where
  -- no task is due before the time of the first entry
  pub none-due : (later : ℕ) → time ≤ later → ((e : Entry) → slice_get asleep 0 ≡ Some e → later < e.1) → first_where (is_now later) ts ≡ None
  none-due later le first = first-none 0 (is_now later) ts (λ j u at. by_readiness j u at u.readiness refl)
    where
      most : (es : List Entry) → IsOrdered WakesBefore es → ((e : Entry) → slice_get es 0 ≡ Some e → later < e.1) → Each (λ e. later < e.1) es
      most [] ordered h = tt
      most (e ∷ es) ordered h = (h e refl, each-map (WakesBefore e) (λ x. later < x.1) es (λ x w. more x w (h e refl)) ordered.0)
        where
          more : (x : Entry) → WakesBefore e x → later < e.1 → later < x.1
          more x (inl p) k = omega arith
          more x (inr p) k = omega arith

      by_readiness : (j : ℕ) (u : Task) → slice_get ts j ≡ Some u → (r : Readiness) → u.readiness ≡ r → is_due later u.readiness ≡ false
      by_readiness j u at Ready e = ap (is_due later) e
      by_readiness j u at Waiting e = ap (is_due later) e
      by_readiness j u at (Asleep until) e =
          let x : (x : Entry) × (j ≡ x.0) × ((later < x.1) × SleepsUntil ts time x) =
          in-each (λ x. (later < x.1) × SleepsUntil ts time x) j asleep (a.all j until u at e)
          (each-both (λ x. later < x.1) (SleepsUntil ts time) asleep (most asleep a.ordered first) a.each) in
          ap (is_due later) e ∙ not_yet x.0.1 until (sleeps ts time x.0 j until u x.2.1 x.1 at e) x.2.0
        where
          not_yet : (k until : ℕ) → k ≡ max until time → later < k → nat_le until later ≡ false
          not_yet k until h l = let m : later < until = omega arith in grind (arith, nat_tests)

-- the first entry is due: its task is the first in order of units that is due
pub first-due : (ts : List Task) (time : ℕ) (e : Entry) (es : List Entry) (t : Task) → AreSleeping ts time (e ∷ es) → e.1 ≤ time
    → slice_get ts e.0 ≡ Some t → first_where (is_now time) ts ≡ Some (e.0, t)
first-due ts time e es t a le at =
    let same : a.each.0.0 ≡ t = same_Some a.each.0.0 t (sym a.each.0.2 ∙ at) in
    let found : first_where (is_now time) ts ≡ Some (0 + e.0, t) =
    first-found 0 (is_now time) ts e.0 t at (ap (is_due time) (sym (ap (λ u. u.readiness) same) ∙ a.each.0.3) ∙ now a.each.0.1 e.1 a.each.0.4 le)
    (λ j u less here. by_readiness j u less here u.readiness refl) in
    found ∙ (let zero_add : 0 + e.0 ≡ e.0 = omega arith in ap (λ k. Some (k, t)) zero_add)
  where
    now : (until k : ℕ) → k ≡ max until time → k ≤ time → nat_le until time ≡ true
    now until k h l = let m : until ≤ time = omega arith in grind (arith, nat_tests)

    by_readiness : (j : ℕ) (u : Task) → j < e.0 → slice_get ts j ≡ Some u → (r : Readiness) → u.readiness ≡ r → is_due time u.readiness ≡ false
    by_readiness j u less here Ready k = ap (is_due time) k
    by_readiness j u less here Waiting k = ap (is_due time) k
    by_readiness j u less here (Asleep until) k = by_place (a.all j until u here k)
      where
        later : IsIn j es → nat_le until time ≡ false
        later h =
            let x : (x : Entry) × (j ≡ x.0) × (WakesBefore e x × SleepsUntil ts time x) =
            in-each (λ x. WakesBefore e x × SleepsUntil ts time x) j es h (each-both (WakesBefore e) (SleepsUntil ts time) es a.ordered.0 a.each.1) in
            not_yet x.0.1 (sleeps ts time x.0 j until u x.2.1 x.1 here k) (after x.0 x.1 x.2.0)
          where
            after : (x : Entry) → j ≡ x.0 → WakesBefore e x → e.1 < x.1
            after x is (inl p) = p
            after x is (inr p) = absurd (clash is p.1)
              where
                clash : j ≡ x.0 → e.0 < x.0 → ⊥
                clash s q = omega arith

            not_yet : (m : ℕ) → m ≡ max until time → e.1 < m → nat_le until time ≡ false
            not_yet m h' l = let ge : time ≤ e.1 = omega (arith, a.each.0.4) in let gt : time < until = omega arith in grind (arith, nat_tests)

        by_place : (j ≡ e.0) ⊎ IsIn j es → is_due time u.readiness ≡ false
        by_place (inl s) = absurd (clash s less)
          where
            clash : j ≡ e.0 → j < e.0 → ⊥
            clash p q = omega arith
        by_place (inr h) = ap (is_due time) k ∙ later h

-- the list says which task is released next
pub due-sleeper : (ts : List Task) (time : ℕ) (asleep : List Entry) → AreSleeping ts time asleep
    → option_map (λ t. t.0) (first_where (is_now time) ts) ≡ due time asleep
due-sleeper ts time [] a = ap (option_map (λ t. t.0)) (none-due ts time [] a time (omega arith) (λ e h. absurd (none-some e h)))
due-sleeper ts time (e ∷ es) a = by_time (nat_le e.1 time) refl
  where
    by_time : (b : Bool) → nat_le e.1 time ≡ b → option_map (λ t. t.0) (first_where (is_now time) ts) ≡ (if b then Some e.0 else None)
    by_time true h = ap (option_map (λ t. t.0)) (first-due ts time e es a.each.0.0 a (at_most e.1 time h) a.each.0.2)
      where
        at_most : (m n : ℕ) → nat_le m n ≡ true → m ≤ n
        at_most m n k = grind (arith, nat_tests)
    by_time false h = ap (option_map (λ t. t.0)) (none-due ts time (e ∷ es) a time (omega arith) first_later)
      where
        more : (m n : ℕ) → nat_le m n ≡ false → n < m
        more m n k = grind (arith, nat_tests)

        first_later : (x : Entry) → Some e ≡ Some x → time < x.1
        first_later x k = let later : time < e.1 = more e.1 time h in subst (λ (z : Entry). time < z.1) (same_Some e x k) later

-- a change of one task leaves the entries of others
sleeps-other : (i : ℕ) (f : Task → Task) (ts : List Task) (time : ℕ) (e : Entry) → i ≢ e.0 → SleepsUntil ts time e
    → SleepsUntil (change i f ts) time e
sleeps-other i f ts time e d s = (s.0, s.1, get-other i e.0 f ts (λ k. d (sym k)) ∙ s.2, s.3, s.4)

each-other : (i : ℕ) (f : Task → Task) (ts : List Task) (time : ℕ) (es : List Entry) → IsApart i es → Each (SleepsUntil ts time) es
    → Each (SleepsUntil (change i f ts) time) es
each-other i f ts time es apart all =
    each-map (λ e. (i ≢ e.0) × SleepsUntil ts time e) (SleepsUntil (change i f ts) time) es (λ e h. sleeps-other i f ts time e h.0 h.1)
    (each-both (λ e. i ≢ e.0) (SleepsUntil ts time) es apart all)

-- a task that does not sleep is in no entry
pub apart-awake : (ts : List Task) (time i : ℕ) (t : Task) (es : List Entry) → slice_get ts i ≡ Some t
    → ((until : ℕ) → t.readiness ≡ Asleep until → ⊥) → Each (SleepsUntil ts time) es → IsApart i es
apart-awake ts time i t [] at not all = tt
apart-awake ts time i t (e ∷ es) at not all = (
  λ same. not all.0.1 (ap (λ u. u.readiness) (same_Some t all.0.0 (sym at ∙ ap (slice_get ts) same ∙ all.0.2)) ∙
      all.0.3),
  apart-awake ts time i t es at not all.1,
)

-- a task goes to sleep
pub sleeping-more : (ts : List Task) (time : ℕ) (asleep : List Entry) (i until : ℕ) (t : Task) (f : Task → Task) → AreSleeping ts time asleep
    → slice_get ts i ≡ Some t → ((k : ℕ) → t.readiness ≡ Asleep k → ⊥)
    → (f t).readiness ≡ Asleep until → AreSleeping (change i f ts) time (in_time (i, max until time) asleep)
sleeping-more ts time asleep i until t f a at not is =
    let apart : IsApart i asleep = apart-awake ts time i t asleep at not a.each in
    record {
      each = each-put (SleepsUntil (change i f ts) time) (wakes_before (i, max until time)) (i, max until time) asleep
          (f t, until, get-changed i f ts t at, is, refl) (each-other i f ts time asleep apart a.each);
      all = λ j k u here sleeps'. by_place j k u here sleeps' (cases_eq j i);
      ordered = in_order-time (i, max until time) asleep apart a.ordered;
    }
  where
    by_place : (j k : ℕ) (u : Task) → slice_get (change i f ts) j ≡ Some u → u.readiness ≡ Asleep k → (j ≡ i) ⊎ (j ≢ i)
        → IsIn j (in_time (i, max until time) asleep)
    by_place j k u here sleeps' (inl same) = in-new j (wakes_before (i, max until time)) (i, max until time) asleep same
    by_place j k u here sleeps' (inr d) = in-put j (wakes_before (i, max until time)) (i, max until time) asleep
        (a.all j k u (all-others i f ts j u here d) sleeps')

-- the first one wakes
pub sleeping-fewer : (ts : List Task) (time : ℕ) (e : Entry) (es : List Entry) (f : Task → Task) → AreSleeping ts time (e ∷ es)
    → ((t : Task) (k : ℕ) → (f t).readiness ≡ Asleep k → ⊥) → AreSleeping (change e.0 f ts) time es
sleeping-fewer ts time e es f a awake =
    record {
      each = each-other e.0 f ts time es (apart es a.ordered.0 a.each.1) a.each.1;
      all = λ j k u here sleeps'. by_place j k u here sleeps' (cases_eq j e.0);
      ordered = a.ordered.1;
    }
  where
    apart : (xs : List Entry) → Each (WakesBefore e) xs → Each (SleepsUntil ts time) xs → IsApart e.0 xs
    apart [] w s = tt
    apart (x ∷ xs) w s = (λ same. clash same w.0 (sleeps ts time x e.0 a.each.0.1 a.each.0.0 s.0 same a.each.0.2 a.each.0.3), apart xs w.1 s.1)
      where
        clash : e.0 ≡ x.0 → WakesBefore e x → x.1 ≡ max a.each.0.1 time → ⊥
        clash same (inl p) k = let l : e.1 ≡ max a.each.0.1 time = a.each.0.4 in nope e.1 x.1 p (l ∙ sym k)
          where
            nope : (m n : ℕ) → m < n → m ≡ n → ⊥
            nope m n h h' = omega arith
        clash same (inr p) k = nope e.0 x.0 p.1 same
          where
            nope : (m n : ℕ) → m < n → m ≡ n → ⊥
            nope m n h h' = omega arith

    by_place : (j k : ℕ) (u : Task) → slice_get (change e.0 f ts) j ≡ Some u → u.readiness ≡ Asleep k → (j ≡ e.0) ⊎ (j ≢ e.0) → IsIn j es
    by_place j k u here sleeps' (inl same) =
        absurd (awake a.each.0.0 k (ap (λ v. v.readiness)
        (same_Some (f a.each.0.0) u (sym (get-changed e.0 f ts a.each.0.0 a.each.0.2) ∙ ap (slice_get (change e.0 f ts)) (sym same) ∙ here))
        ∙ sleeps'))
    by_place j k u here sleeps' (inr d) = in-rest j e es d (a.all j k u (all-others e.0 f ts j u here d) sleeps')

-- time passes, up to the first time
pub sleeping-later : (ts : List Task) (time later : ℕ) (asleep : List Entry) → AreSleeping ts time asleep → time ≤ later
    → Each (λ e. later ≤ e.1) asleep → AreSleeping ts later asleep
sleeping-later ts time later asleep a le most = record {
  each = each-map (λ e. SleepsUntil ts time e × (later ≤ e.1)) (SleepsUntil ts later) asleep
      (λ e h. (h.0.0, h.0.1, h.0.2, h.0.3, same e.1 h.0.1 h.0.4 h.1))
      (each-both (SleepsUntil ts time) (λ e. later ≤ e.1) asleep a.each most);
  all = a.all;
  ordered = a.ordered;
}
  where
    same : (k until : ℕ) → k ≡ max until time → later ≤ k → k ≡ max until later
    same k until h l = by_less (nat_le until later) refl
      where
        by_less : (b : Bool) → nat_le until later ≡ b → k ≡ max until later
        by_less true e = let m : until ≤ later = le_of until later e in omega arith
          where
            le_of : (p q : ℕ) → nat_le p q ≡ true → p ≤ q
            le_of p q x = grind (arith, nat_tests)
        by_less false e = let m : later < until = lt_of until later e in omega arith
          where
            lt_of : (p q : ℕ) → nat_le p q ≡ false → q < p
            lt_of p q x = grind (arith, nat_tests)

-- a change of what sleeping does not read
pub sleeping-kept : (ts : List Task) (time : ℕ) (asleep : List Entry) (i : ℕ) (f : Task → Task) → AreSleeping ts time asleep
    → ((t : Task) → (f t).readiness ≡ t.readiness) → AreSleeping (change i f ts) time asleep
sleeping-kept ts time asleep i f a same = record {
  each = each-map (SleepsUntil ts time) (SleepsUntil (change i f ts) time) asleep (λ e s. at e s (cases_eq i e.0)) a.each;
  all = all';
  ordered = a.ordered;
}
  where
    at : (e : Entry) → SleepsUntil ts time e → (i ≡ e.0) ⊎ (i ≢ e.0) → SleepsUntil (change i f ts) time e
    at e s (inl is) = (f s.0, s.1, ap (slice_get (change i f ts)) (sym is) ∙ get-changed i f ts s.0 (ap (slice_get ts) is ∙ s.2), same s.0 ∙ s.3, s.4)
    at e s (inr d) = sleeps-other i f ts time e d s

    all' : (j k : ℕ) (u : Task) → slice_get (change i f ts) j ≡ Some u → u.readiness ≡ Asleep k → IsIn j asleep
    all' j k u here sleeps' = let b : Before i f ts j u = before-change i f ts j u here in a.all j k b.task b.at (was b.task b.is)
      where
        was : (v : Task) → (u ≡ v) ⊎ (u ≡ f v) → v.readiness ≡ Asleep k
        was v (inl e) = ap (λ w. w.readiness) (sym e) ∙ sleeps'
        was v (inr e) = sym (same v) ∙ ap (λ w. w.readiness) (sym e) ∙ sleeps'

-- a change of a task that sleeps neither before nor after it
pub sleeping-awake : (ts : List Task) (time : ℕ) (asleep : List Entry) (i : ℕ) (t : Task) (f : Task → Task) → AreSleeping ts time asleep
    → slice_get ts i ≡ Some t → ((k : ℕ) → t.readiness ≡ Asleep k → ⊥)
    → ((k : ℕ) → (f t).readiness ≡ Asleep k → ⊥) → AreSleeping (change i f ts) time asleep
sleeping-awake ts time asleep i t f a at before after = record {
  each = each-other i f ts time asleep (apart-awake ts time i t asleep at before a.each) a.each;
  all = λ j k u here sleeps'. by_place j k u here sleeps' (cases_eq j i);
  ordered = a.ordered;
}
  where
    by_place : (j k : ℕ) (u : Task) → slice_get (change i f ts) j ≡ Some u → u.readiness ≡ Asleep k → (j ≡ i) ⊎ (j ≢ i) → IsIn j asleep
    by_place j k u here sleeps' (inl same) =
        absurd (after k (ap (λ v. v.readiness) (same_Some (f t) u (sym (get-changed i f ts t at) ∙ ap (slice_get (change i f ts)) (sym same) ∙ here))
        ∙ sleeps'))
    by_place j k u here sleeps' (inr d) = a.all j k u (all-others i f ts j u here d) sleeps'
