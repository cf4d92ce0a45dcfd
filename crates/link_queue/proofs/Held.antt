-- The lists of a table after each call.
use Rattle.std.specs.Prelude.{◌≡◌, ◌≢◌, ◌⊎◌, ℕ, ◌<◌, Bool, List, [], ◌∷◌, drop, length, replicate, set, get_or, Option, Some, None, slice_get, refl}
use Rattle.std.proofs.Common.{sym, ◌∙◌, ap, subst, arith, inl, inr, length-set, Vec, Global}
use Rattle.std.proofs.lemmas.Bool.{cases_eq}
use Rattle.std.specs.Vec.{with_items}
use Rattle.std.proofs.lemmas.List.{get_or-replicate, length-replicate, with_items_is}
use Rattle.link_queue.specs.Queues.{Entry, Queues, AreQueues, Each, IsApart, IsFree, IsOrdered, Differ, RanksNoLower, WakesBefore, HeadIsAtMost}
use Rattle.link_queue.specs.Queues.{at_head, at_tail, empty_queues, in_time, with_level, put_behind, stays_before, outranks, wakes_before}
use Rattle.link_queue.specs.Table.{Leads, IsTable, IsLinked, IsUnlinked, SameOthers, free_slot, level_of, listed, queues_of, time_of}
use Rattle.link_queue.specs.declared.table.Slot.{Slot}
use Rattle.link_queue.specs.declared.table.Place.{Place}
use Rattle.link_queue.specs.declared.table.Place.TheVariants.{Ready, Asleep}
use Rattle.link_queue.specs.declared.table.Rank.TheVariants.{Tail, Head, Wake}
use Rattle.link_queue.proofs.Shared.Lists.{each-map, each-both, each-taken, distinct-put, ranked-tail, ranked-head, in_order-time}
use Rattle.std.proofs.lemmas.Option.{none-some, same_Some, slice_get-get_or, slice_get_within, get_or_from_slice_get}
use Rattle.link_queue.proofs.Linking.{slot, get-set_same, get-set_other, leads-same, apart-by_kind, apart-kinds, table-queues, table-seen}
use Rattle.link_queue.proofs.Linking.{table-sound}

-- a table that holds these lists, and so shows them
pub record Holds (slots : List Slot) (ready asleep : Option ℕ) (q : Queues) : Type 0 where
  pub table : IsTable slots ready asleep (queues_of slots ready asleep)
  pub shows : queues_of slots ready asleep ≡ q

pub holds : (slots : List Slot) (ready asleep : Option ℕ) (q : Queues) → IsTable slots ready asleep q → Holds slots ready asleep q
holds slots ready asleep q t = record { table = table-seen slots ready asleep q t; shows = table-queues slots ready asleep q t }

-- at first
pub holds-none : (slots : List Slot) (n : ℕ) → slots ≡ replicate n free_slot → Holds slots None None (empty_queues n)
holds-none slots n e = holds slots None None (empty_queues n) (record {
  size = sym (ap length e ∙ length-replicate n free_slot);
  leads_ready = refl;
  leads_asleep = refl;
  apart = λ i h r a. empty i (subst (λ (k : ℕ). i < k) (ap length e ∙ length-replicate n free_slot) h);
  ready_once = tt;
  asleep_once = tt;
  by_level = tt;
  by_time = tt;
})
  where
    empty : (i : ℕ) → i < n → slice_get slots i ≡ Some free_slot
    empty i h =
        let within : i < length (replicate n free_slot) = subst (λ (k : ℕ). i < k) (sym (length-replicate n free_slot)) h in
        ap (λ s. slice_get s i) e ∙ slice_get-get_or (replicate n free_slot) i free_slot within ∙ ap Some (get_or-replicate n i free_slot free_slot h)

-- a task that is in neither list is so after another has come to one, or it has left
put-apart : (task key : ℕ) (test : Entry → Bool) (es : List Entry) (slots slots' : List Slot) → SameOthers task es slots slots'
    → (i : ℕ) → IsApart i (put_behind test (task, key) es) → (IsApart i es → slice_get slots i ≡ Some free_slot) → slice_get slots' i ≡ Some free_slot
put-apart task key test es slots slots' others i apart before =
    let taken : (i ≢ task) × IsApart i es = each-taken (λ e. i ≢ e.0) test (task, key) es apart in
    others i taken.0 taken.1 ∙ before taken.1

left-apart : (slots slots' : List Slot) (task key : ℕ) (es others : List Entry) (first' : Option ℕ) → es ≡ (task, key) ∷ others
    → IsUnlinked task slots slots' first'
    → (i : ℕ) → IsApart i others → (IsApart i es → slice_get slots i ≡ Some free_slot) → slice_get slots' i ≡ Some free_slot
left-apart slots slots' task key es others first' whole u i apart before = by_task (cases_eq i task)
  where
    by_task : (i ≡ task) ⊎ (i ≢ task) → slice_get slots' i ≡ Some free_slot
    by_task (inl same) = ap (slice_get slots') same ∙ u.left
    by_task (inr differs) = u.others i differs tt ∙ before (subst (IsApart i) (sym whole) (differs, apart))

-- tasks of one list are apart from those of the other
ready-apart : (slots : List Slot) (ready asleep : Option ℕ) (q : Queues) → IsTable slots ready asleep q → Each (λ e. IsApart e.0 q.ready) q.asleep
ready-apart slots ready asleep q t = apart-kinds Asleep Ready slots asleep ready q.asleep q.ready (λ k k' e. cc) t.leads_asleep t.leads_ready

asleep-apart : (slots : List Slot) (ready asleep : Option ℕ) (q : Queues) → IsTable slots ready asleep q → Each (λ e. IsApart e.0 q.asleep) q.ready
asleep-apart slots ready asleep q t = apart-kinds Ready Asleep slots ready asleep q.ready q.asleep (λ k k' e. cc) t.leads_ready t.leads_asleep

-- a list of which no slot has changed
kept : (kind : ℕ → Place) (task : ℕ) (es fs : List Entry) (slots slots' : List Slot) (from : Option ℕ)
    → SameOthers task es slots slots' → IsApart task fs → Each (λ e. IsApart e.0 es) fs → Leads kind slots from fs → Leads kind slots' from fs
kept kind task es fs slots slots' from others apart both h =
    leads-same kind slots slots' from fs
    (each-map (λ e. (task ≢ e.0) × IsApart e.0 es) (λ e. slice_get slots' e.0 ≡ slice_get slots e.0) fs (λ e d. others e.0 (λ s. d.0 (sym s)) d.1)
    (each-both (λ e. task ≢ e.0) (λ e. IsApart e.0 es) fs apart both)) h

module _ (slots : List Slot) (ready asleep : Option ℕ) (t : IsTable slots ready asleep (queues_of slots ready asleep)) (task : ℕ)
    (free : IsFree (queues_of slots ready asleep) task) where
  holds-ready : (test : Entry → Bool) (level : ℕ) (slots' : List Slot) (ready' : Option ℕ) → length slots' ≡ length slots
      → IsOrdered RanksNoLower (put_behind test (task, level) (listed slots ready))
      → Leads Ready slots' ready' (put_behind test (task, level) (listed slots ready)) → SameOthers task (listed slots ready) slots slots'
      → Holds slots' ready' asleep (record (queues_of slots ready asleep) { ready = put_behind test (task, level) (listed slots ready) })
  holds-ready test level slots' ready' len ranked leads others =
      holds slots' ready' asleep (record (queues_of slots ready asleep) { ready = put_behind test (task, level) (listed slots ready) }) (record {
        size = sym len;
        leads_ready = leads;
        leads_asleep = kept Asleep task (listed slots ready) (listed slots asleep) slots slots' asleep others free.not_asleep (ready-apart slots ready
            asleep (queues_of slots ready asleep) t) t.leads_asleep;
        apart = λ i h r a. put-apart task level test (listed slots ready) slots slots' others i r (λ r'. t.apart i (omega arith) r' a);
        ready_once = distinct-put test (task, level) (listed slots ready) free.not_ready t.ready_once;
        asleep_once = t.asleep_once;
        by_level = ranked;
        by_time = t.by_time;
      })

  pub holds-tail : (level : ℕ) (slots' : List Slot) (ready' : Option ℕ) → length slots' ≡ length slots
      → IsLinked (Tail level) task slots ready slots' ready'
      → Holds slots' ready' asleep (record (queues_of slots ready asleep) { ready = at_tail (task, level) (listed slots ready) })
  holds-tail level slots' ready' len l = holds-ready (stays_before (task, level)) level slots' ready' len
      (ranked-tail (task, level) (listed slots ready) t.by_level) l.leads l.others

  pub holds-head : (level : ℕ) (slots' : List Slot) (ready' : Option ℕ) → length slots' ≡ length slots
      → IsLinked (Head level) task slots ready slots' ready'
      → Holds slots' ready' asleep (record (queues_of slots ready asleep) { ready = at_head (task, level) (listed slots ready) })
  holds-head level slots' ready' len l = holds-ready (outranks (task, level)) level slots' ready' len
      (ranked-head (task, level) (listed slots ready) t.by_level) l.leads l.others

  pub holds-wake : (time : ℕ) (slots' : List Slot) (asleep' : Option ℕ) → length slots' ≡ length slots
      → IsLinked (Wake time) task slots asleep slots' asleep'
      → Holds slots' ready asleep' (record (queues_of slots ready asleep) { asleep = in_time (task, time) (listed slots asleep) })
  holds-wake time slots' asleep' len l
      = holds slots' ready asleep' (record (queues_of slots ready asleep) { asleep = in_time (task, time) (listed slots asleep) }) (record {
        size = sym len;
        leads_ready = kept Ready task (listed slots asleep) (listed slots ready) slots slots' ready l.others free.not_ready (asleep-apart slots ready
            asleep (queues_of slots ready asleep) t) t.leads_ready;
        leads_asleep = l.leads;
        apart = λ i h r a. put-apart task time (wakes_before (task, time)) (listed slots asleep) slots slots' l.others i a (λ a'.
            t.apart i (omega arith) r a');
        ready_once = t.ready_once;
        asleep_once = distinct-put (wakes_before (task, time)) (task, time) (listed slots asleep) free.not_asleep t.asleep_once;
        by_level = t.by_level;
        by_time = in_order-time (task, time) (listed slots asleep) free.not_asleep t.by_time;
      })

-- the first task of a list, with its slot
pub record Begins (kind : ℕ → Place) (slots : List Slot) (es : List Entry) (task : ℕ) : Type 0 where
  pub key : ℕ
  pub next : Option ℕ
  pub others : List Entry
  pub whole : es ≡ (task, key) ∷ others
  pub found : slice_get slots task ≡ Some (slot (kind key) next)
  pub leads : Leads kind slots next others

pub begins : (kind : ℕ → Place) (slots : List Slot) (first : Option ℕ) (es : List Entry) (task : ℕ) → Leads kind slots first es → first ≡ Some task
    → Begins kind slots es task
begins kind slots first [] task h is = absurd (none-some task (sym h ∙ is))
begins kind slots first (e ∷ es) task h is =
    let same : e.0 ≡ task = same_Some e.0 task (sym h.0 ∙ is) in
    record { key = e.1; next = h.1; others = es; whole = ap (λ i. (i, e.1) ∷ es) same; found = ap (slice_get slots) (sym same) ∙ h.2; leads = h.3 }

pub begins-not : (kind : ℕ → Place) (slots : List Slot) (first : Option ℕ) (es : List Entry) → Leads kind slots first es → first ≡ None → es ≡ []
begins-not kind slots first [] h is = refl
begins-not kind slots first (e ∷ es) h is = absurd (none-some e.0 (sym is ∙ h.0))

-- the first task has left
unlinked : (kind : ℕ → Place) (slots slots' : List Slot) (es : List Entry) (task : ℕ) (first' : Option ℕ) → IsOrdered Differ es
    → (b : Begins kind slots es task) → IsUnlinked task slots slots' first' → Leads kind slots' first' b.others
unlinked kind slots slots' es task first' once b u =
    let apart : IsApart task b.others = (subst (IsOrdered Differ) b.whole once).0 in
    let same : Leads kind slots' b.next b.others =
    leads-same kind slots slots' b.next b.others (each-map (λ e. task ≢ e.0) (λ e. slice_get slots' e.0
    ≡ slice_get slots e.0) b.others (λ e d. u.others e.0 (λ s. d (sym s)) tt) apart) b.leads in
    subst (λ (n : Option ℕ). Leads kind slots' n b.others) (sym (u.behind (kind b.key) b.next b.found)) same

unlinked-other : (kind kind' : ℕ → Place) (slots slots' : List Slot) (es fs : List Entry) (from : Option ℕ) (task : ℕ) (first' : Option ℕ)
    → ((k k' : ℕ) → kind' k' ≢ kind k)
    → (b : Begins kind slots es task) → IsUnlinked task slots slots' first' → Leads kind' slots from fs → Leads kind' slots' from fs
unlinked-other kind kind' slots slots' es fs from task first' other b u h =
    let apart : IsApart task fs = apart-by_kind kind' slots from fs task (kind b.key) b.next b.found (λ k. other b.key k) h in
    leads-same kind' slots slots' from fs (each-map (λ e. task ≢ e.0) (λ e. slice_get slots' e.0
    ≡ slice_get slots e.0) fs (λ e d. u.others e.0 (λ s. d (sym s)) tt) apart) h

drop-one : (es others : List Entry) (e : Entry) → es ≡ e ∷ others → others ≡ drop 1 es
drop-one es others e is = ap (drop 1) (sym is)

pub table-pop : (slots slots' : List Slot) (ready asleep : Option ℕ) (q : Queues) (task : ℕ) (ready' : Option ℕ) → IsTable slots ready asleep q
    → ready ≡ Some task → length slots' ≡ length slots
    → IsUnlinked task slots slots' ready' → IsTable slots' ready' asleep (record q { ready = drop 1 q.ready })
table-pop slots slots' ready asleep q task ready' t is len u =
    let b : Begins Ready slots q.ready task = begins Ready slots ready q.ready task t.leads_ready is in
    let rest : b.others ≡ drop 1 q.ready = drop-one q.ready b.others (task, b.key) b.whole in
    record {
      size = t.size ∙ sym len;
      leads_ready = subst (Leads Ready slots' ready') rest (unlinked Ready slots slots' q.ready task ready' t.ready_once b u);
      leads_asleep = unlinked-other Ready Asleep slots slots' q.ready q.asleep asleep task ready' (λ k k' e. cc) b u t.leads_asleep;
      apart = λ i h r a. left-apart slots slots' task b.key q.ready b.others ready' b.whole u i (subst (IsApart i) (sym rest) r) (λ r'.
          t.apart i (omega arith) r' a);
      ready_once = subst (IsOrdered Differ) rest (subst (IsOrdered Differ) b.whole t.ready_once).1;
      asleep_once = t.asleep_once;
      by_level = subst (IsOrdered RanksNoLower) rest (subst (IsOrdered RanksNoLower) b.whole t.by_level).1;
      by_time = t.by_time;
    }

pub table-wake : (slots slots' : List Slot) (ready asleep : Option ℕ) (q : Queues) (task : ℕ) (asleep' : Option ℕ) → IsTable slots ready asleep q
    → asleep ≡ Some task → length slots' ≡ length slots
    → IsUnlinked task slots slots' asleep' → IsTable slots' ready asleep' (record q { asleep = drop 1 q.asleep })
table-wake slots slots' ready asleep q task asleep' t is len u =
    let b : Begins Asleep slots q.asleep task = begins Asleep slots asleep q.asleep task t.leads_asleep is in
    let rest : b.others ≡ drop 1 q.asleep = drop-one q.asleep b.others (task, b.key) b.whole in
    record {
      size = t.size ∙ sym len;
      leads_ready = unlinked-other Asleep Ready slots slots' q.asleep q.ready ready task asleep' (λ k k' e. cc) b u t.leads_ready;
      leads_asleep = subst (Leads Asleep slots' asleep') rest (unlinked Asleep slots slots' q.asleep task asleep' t.asleep_once b u);
      apart = λ i h r a. left-apart slots slots' task b.key q.asleep b.others asleep' b.whole u i (subst (IsApart i) (sym rest) a) (λ a'.
          t.apart i (omega arith) r a');
      ready_once = t.ready_once;
      asleep_once = subst (IsOrdered Differ) rest (subst (IsOrdered Differ) b.whole t.asleep_once).1;
      by_level = t.by_level;
      by_time = subst (IsOrdered WakesBefore) rest (subst (IsOrdered WakesBefore) b.whole t.by_time).1;
    }

-- the first ready task with another level
raised-leads : (slots : List Slot) (ready : Option ℕ) (es : List Entry) (task level : ℕ) (s : Slot) → Leads Ready slots ready es → IsOrdered Differ es
    → ready ≡ Some task → s ≡ get_or slots task s
    → Leads Ready (set slots task (slot (Ready level) s.next)) ready (with_level level es)
raised-leads slots ready [] task level s h once is read = h
raised-leads slots ready (e ∷ es) task level s h once is read =
    let same : e.0 ≡ task = same_Some e.0 task (sym h.0 ∙ is) in
    let found : slice_get slots task ≡ Some (slot (Ready e.1) h.1) = ap (slice_get slots) (sym same) ∙ h.2 in
    let next_is : s.next ≡ h.1 = ap (λ z. z.next) (read ∙ get_or_from_slice_get slots task (slot (Ready e.1) h.1) s found) in
    let new : Slot = slot (Ready level) s.next in
    let at : slice_get (set slots task new) e.0 ≡ Some (slot (Ready level) h.1) =
    ap (slice_get (set slots task new)) same ∙ get-set_same slots task new (slice_get_within slots task (slot (Ready e.1) h.1) found) ∙ ap
    (λ n. Some (slot (Ready level) n)) next_is in (
      h.0,
      h.1,
      at,
      leads-same Ready slots (set slots task new) h.1 es
          (each-map (λ f. e.0 ≢ f.0) (λ f. slice_get (set slots task new) f.0 ≡ slice_get slots f.0) es
          (λ f d. get-set_other slots task f.0 new (λ k. d (same ∙ sym k))) once.0) h.3,
    )

with-level-once : (level : ℕ) (es : List Entry) → IsOrdered Differ es → IsOrdered Differ (with_level level es)
with-level-once level [] once = once
with-level-once level (e ∷ es) once = once

with-level-apart : (level : ℕ) (es : List Entry) (i : ℕ) → IsApart i (with_level level es) → IsApart i es
with-level-apart level [] i apart = apart
with-level-apart level (e ∷ es) i apart = apart

with-level-ranked : (level : ℕ) (es : List Entry) → HeadIsAtMost level es → IsOrdered RanksNoLower es → IsOrdered RanksNoLower (with_level level es)
with-level-ranked level [] most ranked = ranked
with-level-ranked level (e ∷ es) most ranked = (each-map (RanksNoLower e) (RanksNoLower (e.0, level)) es (λ f r. omega arith) ranked.0, ranked.1)

pub table-raise : (slots : List Slot) (ready asleep : Option ℕ) (q : Queues) (task level : ℕ) (s : Slot) → IsTable slots ready asleep q
    → ready ≡ Some task → s ≡ get_or slots task s → HeadIsAtMost level q.ready
    → IsTable (set slots task (slot (Ready level) s.next)) ready asleep (record q { ready = with_level level q.ready })
table-raise slots ready asleep q task level s t is read most =
    let new : Slot = slot (Ready level) s.next in
    let b : Begins Ready slots q.ready task = begins Ready slots ready q.ready task t.leads_ready is in
    let apart : IsApart task q.asleep = apart-by_kind Asleep slots asleep q.asleep task (Ready b.key) b.next b.found (λ k e. cc) t.leads_asleep in
    record {
      size = t.size ∙ sym (length-set slots task new);
      leads_ready = raised-leads slots ready q.ready task level s t.leads_ready t.ready_once is read;
      leads_asleep = leads-same Asleep slots (set slots task new) asleep q.asleep
          (each-map (λ e. task ≢ e.0) (λ e. slice_get (set slots task new) e.0 ≡ slice_get slots e.0) q.asleep
          (λ e d. get-set_other slots task e.0 new (λ k. d (sym k))) apart) t.leads_asleep;
      apart = λ i h r a. raised i (with-level-apart level q.ready i r) a (subst (λ (k : ℕ). i < k) (length-set slots task new) h);
      ready_once = with-level-once level q.ready t.ready_once;
      asleep_once = t.asleep_once;
      by_level = with-level-ranked level q.ready most t.by_level;
      by_time = t.by_time;
    }
  where
    raised : (i : ℕ) → IsApart i q.ready → IsApart i q.asleep → i < length slots
        → slice_get (set slots task (slot (Ready level) s.next)) i ≡ Some free_slot
    raised i r a h =
        let b : Begins Ready slots q.ready task = begins Ready slots ready q.ready task t.leads_ready is in
        get-set_other slots task i (slot (Ready level) s.next) (subst (IsApart i) b.whole r).0 ∙ t.apart i h r a

-- the same for the fields of the struct, whose slots were handed out as a slice
module _ (v : Vec Slot Global) (slots slots' : List Slot) (value : slots ≡ v.items) (len : length slots'
    ≡ length slots) (ready asleep : Option ℕ) (q : Queues)
    (t : IsTable v.items ready asleep (queues_of v.items ready asleep)) (is : queues_of v.items ready asleep ≡ q) where
  table : IsTable slots ready asleep (queues_of slots ready asleep)
  table = subst (λ (s : List Slot). IsTable s ready asleep (queues_of s ready asleep)) (sym value) t

  shown : queues_of slots ready asleep ≡ q
  shown = ap (λ s. queues_of s ready asleep) value ∙ is

  holds_table : IsTable slots ready asleep q
  holds_table = subst (IsTable slots ready asleep) shown table

  items : (with_items v slots').items ≡ slots'
  items = with_items_is v slots' (len ∙ ap length value ∙ sym v.ok.0)

  back : (ready' asleep' : Option ℕ) (q' : Queues) → Holds slots' ready' asleep' q' → Holds (with_items v slots').items ready' asleep' q'
  back ready' asleep' q' h = subst (λ (s : List Slot). Holds s ready' asleep' q') (sym items) h

  pub after-tail : (task level : ℕ) (ready' : Option ℕ) → IsFree q task → IsLinked (Tail level) task slots ready slots' ready'
      → Holds (with_items v slots').items ready' asleep (record q { ready = at_tail (task, level) q.ready })
  after-tail task level ready' free l =
      back ready' asleep (record q { ready = at_tail (task, level) q.ready })
      (subst (λ (p : Queues). Holds slots' ready' asleep (record p { ready = at_tail (task, level) p.ready })) shown
      (holds-tail slots ready asleep table task (subst (λ (p : Queues). IsFree p task) (sym shown) free) level slots' ready' len l))

  pub after-head : (task level : ℕ) (ready' : Option ℕ) → IsFree q task → IsLinked (Head level) task slots ready slots' ready'
      → Holds (with_items v slots').items ready' asleep (record q { ready = at_head (task, level) q.ready })
  after-head task level ready' free l =
      back ready' asleep (record q { ready = at_head (task, level) q.ready })
      (subst (λ (p : Queues). Holds slots' ready' asleep (record p { ready = at_head (task, level) p.ready })) shown
      (holds-head slots ready asleep table task (subst (λ (p : Queues). IsFree p task) (sym shown) free) level slots' ready' len l))

  pub after-sleep : (task time : ℕ) (asleep' : Option ℕ) → IsFree q task → IsLinked (Wake time) task slots asleep slots' asleep'
      → Holds (with_items v slots').items ready asleep' (record q { asleep = in_time (task, time) q.asleep })
  after-sleep task time asleep' free l =
      back ready asleep' (record q { asleep = in_time (task, time) q.asleep })
      (subst (λ (p : Queues). Holds slots' ready asleep' (record p { asleep = in_time (task, time) p.asleep })) shown
      (holds-wake slots ready asleep table task (subst (λ (p : Queues). IsFree p task) (sym shown) free) time slots' asleep' len l))

  pub after-pop : (task : ℕ) (ready' : Option ℕ) → ready ≡ Some task → IsUnlinked task slots slots' ready'
      → Holds (with_items v slots').items ready' asleep (record q { ready = drop 1 q.ready })
  after-pop task ready' first u =
      back ready' asleep (record q { ready = drop 1 q.ready })
      (holds slots' ready' asleep (record q { ready = drop 1 q.ready }) (table-pop slots slots' ready asleep q task ready' holds_table first len u))

  pub after-wake : (task : ℕ) (asleep' : Option ℕ) → asleep ≡ Some task → IsUnlinked task slots slots' asleep'
      → Holds (with_items v slots').items ready asleep' (record q { asleep = drop 1 q.asleep })
  after-wake task asleep' first u =
      back ready asleep' (record q { asleep = drop 1 q.asleep })
      (holds slots' ready asleep' (record q { asleep = drop 1 q.asleep })
      (table-wake slots slots' ready asleep q task asleep' holds_table first len u))

-- what is read of the first task of a list
module _ (slots : List Slot) (ready asleep : Option ℕ) (q : Queues) (t : IsTable slots ready asleep (queues_of slots ready asleep))
    (is : queues_of slots ready asleep ≡ q) where
  held : IsTable slots ready asleep q
  held = subst (IsTable slots ready asleep) is t

  pub sound : AreQueues q
  sound = table-sound slots ready asleep q held

  pub ready-none : ready ≡ None → q.ready ≡ []
  ready-none none = begins-not Ready slots ready q.ready held.leads_ready none

  pub asleep-none : asleep ≡ None → q.asleep ≡ []
  asleep-none none = begins-not Asleep slots asleep q.asleep held.leads_asleep none

  pub ready-first : (task : ℕ) → ready ≡ Some task → Begins Ready slots q.ready task
  ready-first task first = begins Ready slots ready q.ready task held.leads_ready first

  pub asleep-first : (task : ℕ) → asleep ≡ Some task → Begins Asleep slots q.asleep task
  asleep-first task first = begins Asleep slots asleep q.asleep task held.leads_asleep first

  pub ready-known : (task : ℕ) → ready ≡ Some task → task < length slots
  ready-known task first = let b : Begins Ready slots q.ready task = ready-first task first
      in slice_get_within slots task (slot (Ready b.key) b.next) b.found

  pub asleep-known : (task : ℕ) → asleep ≡ Some task → task < length slots
  asleep-known task first = let b : Begins Asleep slots q.asleep task = asleep-first task first
      in slice_get_within slots task (slot (Asleep b.key) b.next) b.found

  pub ready-level : (task : ℕ) (s : Slot) → ready ≡ Some task → s ≡ get_or slots task s → (level : ℕ) × (level_of s.place ≡ Some level)
      × (slice_get q.ready 0 ≡ Some (task, level))
  ready-level task s first read =
      let b : Begins Ready slots q.ready task = ready-first task first in (
        b.key,
        ap (λ z. level_of z.place) (read ∙ get_or_from_slice_get slots task (slot (Ready b.key) b.next) s b.found),
        ap (λ xs.
            slice_get xs 0) b.whole,
      )

  pub asleep-time : (task : ℕ) (s : Slot) → asleep ≡ Some task → s ≡ get_or slots task s → (until : ℕ) × (time_of s.place ≡ Some until)
      × (slice_get q.asleep 0 ≡ Some (task, until))
  asleep-time task s first read =
      let b : Begins Asleep slots q.asleep task = asleep-first task first in (
        b.key,
        ap (λ z. time_of z.place) (read ∙ get_or_from_slice_get slots task (slot (Asleep b.key) b.next) s b.found),
        ap (λ xs.
            slice_get xs 0) b.whole,
      )

  pub after-raise : (task level : ℕ) (s : Slot) → ready ≡ Some task → s ≡ get_or slots task s → HeadIsAtMost level q.ready
      → Holds (set slots task (slot (Ready level) s.next)) ready asleep (record q { ready = with_level level q.ready })
  after-raise task level s first read most =
      holds (set slots task (slot (Ready level) s.next)) ready asleep (record q { ready = with_level level q.ready })
      (table-raise slots ready asleep q task level s held first read most)

-- a task that has left its list is in neither
pub free-popped : (q : Queues) (task key : ℕ) (others : List Entry) → AreQueues q → q.ready ≡ (task, key) ∷ others
    → IsFree (record q { ready = drop 1 q.ready }) task
free-popped q task key others a whole = record {
  known = (subst (Each (λ e. e.0 < q.size)) whole a.known_ready).0;
  not_ready = subst (IsApart task) (drop-one q.ready others (task, key) whole) (subst (IsOrdered Differ) whole a.ready_once).0;
  not_asleep = (subst (Each (λ e. IsApart e.0 q.asleep)) whole a.not_both).0;
}

pub free-woken : (q : Queues) (task key : ℕ) (others : List Entry) → AreQueues q → q.asleep ≡ (task, key) ∷ others
    → IsFree (record q { asleep = drop 1 q.asleep }) task
free-woken q task key others a whole = record {
  known = (subst (Each (λ e. e.0 < q.size)) whole a.known_asleep).0;
  not_ready = apart q.ready (each-map (λ e. IsApart e.0 q.asleep) (λ e. IsApart e.0 ((task, key) ∷ others)) q.ready
      (λ e h. subst (IsApart e.0) whole h) a.not_both);
  not_asleep = subst (IsApart task) (drop-one q.asleep others (task, key) whole) (subst (IsOrdered Differ) whole a.asleep_once).0;
}
  where
    apart : (es : List Entry) → Each (λ e. IsApart e.0 ((task, key) ∷ others)) es → IsApart task es
    apart [] h = tt
    apart (e ∷ es) h = (λ s. h.0.0 (sym s), apart es h.1)
