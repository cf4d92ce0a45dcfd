-- The priorities of the hard part: those of clients are the least, as many as there are clients, and so the rows of the other threads come first.
use Rattle.std.specs.Prelude.{◌≡◌, ℕ, zero, suc, ◌+◌, ◌-◌, ◌≤◌, ◌<◌, ◌==◌, Bool, true, false, ◌&&◌, List, [], ◌∷◌, ◌++◌, map, filter, length}
use Rattle.std.specs.Prelude.{Option, Some, None, slice_get, option_map, option_and_then, position, refl, if◌then◌else◌}
use Rattle.std.specs.List.{cons_option}
use Rattle.std.proofs.Common.{sym, ◌∙◌, ap, subst, arith}
use Rattle.std.proofs.lemmas.Bool.{and_parts, true≢false}
use Rattle.std.proofs.lemmas.Option.{none-some, same_Some, slice_get_within}
use Rattle.seq_tree.specs.Limits.{tick_limit, is_within}
use Rattle.seq_tree.specs.Names.{Name, are_distinct}
use Rattle.seq_tree.specs.Lists.{Each}
use Rattle.ods_tree.specs.Designs.{Object, Design}
use Rattle.ods_tree.specs.Flats.{Timing, Cyclic, Sporadic, Thread, Flat, period_of}
use Rattle.ods_tree.specs.Flattening.{thread_by, flat}
use Rattle.ods_tree.specs.Services.{flat_services}
use Rattle.ods_tree.specs.Sound.{is_in_range, is_timed}
use Rattle.analysis.specs.Sound.{IsSound}
use Rattle.analysis.specs.Priorities.{priorities_of}
use Rattle.analysis.specs.Starts.{can_request}
use Rattle.analysis.specs.Tables.{downwards}
use Rattle.guarantee.specs.ResponseLaw.{Ranked}
use Rattle.law_designs.proofs.Shared.Lists.{from-map, in-filter_map, named-from, named-at, key-eq, all-in}
use Rattle.analysis.proofs.Shared.CostRanges.{within-true}
use Rattle.law_designs.proofs.Shared.PriorityLists.{Entry, entry_by, entries, ranked_entry, in_order, Stands, entries-stand}
use Rattle.law_designs.proofs.Shared.PriorityPlaces.{entry-at}
use Rattle.law_designs.proofs.Shared.TabledPrograms.{long, all-entries}
use Rattle.law_lists.proofs.Shared.Lists.{IsIn, at-in, in-map, filter-in, in-filter, each-in, in-flat}
use Rattle.law_lists.proofs.Shared.Places.{all-at, mapped-at, map-at}
use Rattle.background_designs.specs.Clients.{is_client, clients, is_client_name}
use Rattle.background_designs.specs.HardParts.{hard_object, hard_part}
use Rattle.background_designs.specs.Misfits.{Misfit, A6, is_sporadic, slow_threads, requesting_clients}
use Rattle.background_designs.specs.Programs.{client_count}
use Rattle.law_backgrounds.proofs.Shared.HardObjects.{terminal_objects, threads-hard}
use Rattle.law_backgrounds.proofs.Shared.HardThreads.{OfClient, client-thread, other-thread, thread-source, slow-are-clients}
use Rattle.law_backgrounds.proofs.SlowPriorities.{slow_count, slow-low, fast-high}

-- names that differ still do so in the last part
pub distinct-last : (ms ns : List Name) → are_distinct (ms ++ ns) ≡ true → are_distinct ns ≡ true
distinct-last [] ns h = h
distinct-last (m ∷ ms) ns h = distinct-last ms ns (and_parts _ (are_distinct (ms ++ ns)) h).1

entry-priority : (f : Flat) (ps : List ℕ) (q : ℕ) (e : Entry) → entry_by f ps q ≡ Some e → e.1 ≡ q
entry-priority f ps q e h = by (position (λ x. x == q) ps) h
  where
    thread : (t : Option Thread) → option_map (λ z. let w : Entry = (z, q) in w) t ≡ Some e → e.1 ≡ q
    thread None g = absurd (none-some e g)
    thread (Some t) g = ap (λ z. z.1) (sym (same_Some (t, q) e g))

    by : (o : Option ℕ) → option_and_then (λ at. option_map (λ t. let w : Entry = (t, q) in w) (slice_get f.threads at)) o ≡ Some e → e.1 ≡ q
    by None g = absurd (none-some e g)
    by (Some at) g = thread (slice_get f.threads at) g

length-entries : (f : Flat) (ps qs : List ℕ) → length (entries f ps qs) ≤ length qs
length-entries f ps [] = omega arith
length-entries f ps (q ∷ qs) = by (entry_by f ps q) (length-entries f ps qs)
  where
    by : (o : Option Entry) → length (entries f ps qs) ≤ length qs → length (cons_option o (entries f ps qs)) ≤ suc (length qs)
    by None h = omega (arith, h)
    by (Some e) h = omega (arith, h)

pub length-downwards : (n : ℕ) → length (downwards n) ≡ n
length-downwards zero = refl
length-downwards (suc n) = ap suc (length-downwards n)

one-entry : (es : List Entry) (i j : ℕ) (a b : Entry) → slice_get es i ≡ Some a → i ≡ j → slice_get es j ≡ Some b → a ≡ b
one-entry es i j a b first same second = same_Some a b (sym first ∙ (ap (slice_get es) same ∙ second))

same-priority : (a b : Entry) (n : ℕ) → a ≡ b → a.1 ≡ n → b.1 ≡ n
same-priority a b n same e = ap (λ (z : Entry). z.1) (sym same) ∙ e

-- the place of an entry counts down to its priority
pub entry-place : (f : Flat) (first i : ℕ) (u : Ranked) → slice_get (in_order first f (priorities_of f)) i ≡ Some u
    → (e : Entry) × (ranked_entry first e ≡ u) × (e.1 + i ≡ length f.threads) × (1 ≤ e.1) × Stands f (priorities_of f) e
entry-place f first i u h =
    let ps : List ℕ = priorities_of f in
    let m = mapped-at (ranked_entry first) (entries f ps (downwards (length ps))) i u h in
    let inside : i < length (entries f ps (downwards (length ps))) = slice_get_within (entries f ps (downwards (length ps))) i m.0 m.1 in
    let few = length-entries f ps (downwards (length ps)) in
    let n = length-downwards (length ps) in
    let less : i < length ps = omega (arith, inside, few, n) in
    let some : 1 ≤ length ps - i = omega (arith, less) in
    let most : length ps - i ≤ length ps = omega (arith, less) in
    let a = all-entries f first (length ps - i) some most in
    let there : slice_get (entries f ps (downwards (length ps))) (length ps - (length ps - i)) ≡ Some a.0 =
    entry-at f ps (length ps) (all-entries f first) (length ps - i) a.0 some most a.1 in
    let back : length ps - (length ps - i) ≡ i = omega (arith, less) in
    let same : a.0 ≡ m.0 = one-entry (entries f ps (downwards (length ps))) (length ps - (length ps - i)) i a.0 m.0 there back m.1 in
    let p : m.0.1 ≡ length ps - i = same-priority a.0 m.0 (length ps - i) same (entry-priority f ps (length ps - i) a.0 a.1) in
    let l = long f first in (
      m.0,
      m.2,
      omega (arith, p, l, less),
      omega (arith, p, less),
      all-at (Stands f ps) (entries f ps (downwards (length ps))) i m.0 (entries-stand f ps (downwards (length ps))) m.1,
    )

module _ (x : Design) (quick : slow_threads x ≡ []) (calm : requesting_clients x ≡ []) (sound : IsSound (flat (hard_part x))) where
  abbrev f : Flat
  f = flat (hard_part x)

  abbrev ps : List ℕ
  ps = priorities_of f

  abbrev eager : Name → Bool
  eager = is_client_name x

  thread-names : are_distinct (map (λ (t : Thread). t.name) f.threads) ≡ true
  thread-names = distinct-last (map (λ g. g.name) f.shared) (map (λ t. t.name) f.threads)
      (distinct-last (map (λ l. l.name) f.passive) (map (λ g. g.name) f.shared ++ map (λ t. t.name) f.threads) sound.formed.names)

  -- the thread of a client is there
  pub client-there : (o : Object) → IsIn o (terminal_objects x) → (c : OfClient (hard_part x) o) → IsIn c.thread f.threads
  client-there o h c =
      let P : List Thread → Type 0 = λ zs. IsIn c.thread zs in
      subst P (sym (threads-hard x))
      (in-filter_map (λ o. thread_by (hard_part x) (hard_object o)) (terminal_objects x) o c.thread h c.made)

  slow-client : (t : Thread) → IsIn t f.threads → t.deadline ≡ tick_limit → eager t.name ≡ true
  slow-client t h slow = by (is_client s.0) refl
    where
      s : (o : Object) × IsIn o (terminal_objects x) × (thread_by (hard_part x) (hard_object o) ≡ Some t)
      s = thread-source x quick t h

      by : (b : Bool) → is_client s.0 ≡ b → eager t.name ≡ true
      by false e = absurd ((other-thread x quick s.0 t s.1 e s.2).1 slow)
      by true e =
          let c = client-thread (hard_part x) s.0 e in
          let same : c.thread ≡ t = same_Some c.thread t (sym c.made ∙ s.2) in
          let named : t.name ≡ s.0.name = ap (λ z. z.name) (sym same) ∙ c.named in
          let P : Name → Type 0 = λ n. IsIn n (map (λ (o : Object). o.name) (clients x)) in
          named-from (map (λ (o : Object). o.name) (clients x)) t.name
          (subst P (sym named) (in-map (λ (o : Object). o.name) s.0 (clients x) (filter-in is_client s.0 (terminal_objects x) s.1 e)))

  -- a thread with the name of a client is the client's
  pub client-timing : (t : Thread) → IsIn t f.threads → eager t.name ≡ true → (t.timing ≡ Cyclic tick_limit 0) × (t.deadline ≡ tick_limit)
  client-timing t h e =
      let n = from-map (λ (o : Object). o.name) (clients x) t.name (named-at (map (λ (o : Object). o.name) (clients x)) t.name e) in
      let o = in-filter is_client n.0 (terminal_objects x) n.1 in
      let c = client-thread (hard_part x) n.0 o.1 in
      let same : c.thread ≡ t =
      key-eq (λ (z : Thread). z.name) f.threads thread-names c.thread t (client-there n.0 o.0 c) h (c.named ∙ sym n.2) in
      (ap (λ z. z.timing) (sym same) ∙ c.timing, ap (λ z. z.deadline) (sym same) ∙ c.deadline)

  deadline-most : (t : Thread) → IsIn t f.threads → t.deadline ≤ tick_limit
  deadline-most t h =
      let r = and_parts (is_timed t.timing) (is_within 1 (period_of t.timing) t.deadline) (all-in is_in_range f.threads t sound.formed.ranges h) in
      let d = within-true 1 (period_of t.timing) t.deadline r.1 in
      let p = most-period t.timing r.0 in
      omega (arith, d.1, p)
    where
      most-period : (z : Timing) → is_timed z ≡ true → period_of z ≤ tick_limit
      most-period (Cyclic period offset) g = (within-true 1 tick_limit period (and_parts (is_within 1 tick_limit period) _ g).0).1
      most-period (Sporadic op separation jitter) g = (within-true 1 tick_limit separation (and_parts (is_within 1 tick_limit separation) _ g).0).1

  abbrev deadlines : List ℕ
  deadlines = map (λ (t : Thread). t.deadline) f.threads

  all-low : Each (λ d. d ≤ tick_limit) deadlines
  all-low = each-in (λ d. d ≤ tick_limit) deadlines (λ d h. let t = from-map (λ (t : Thread). t.deadline) f.threads d h in
      let l = deadline-most t.0 t.1 in let e = t.2 in omega (arith, l, e))

  slow-mapped : (ts : List Thread) → slow_count tick_limit (map (λ (t : Thread). t.deadline) ts)
      ≡ length (filter (λ (t : Thread). t.deadline == tick_limit) ts)
  slow-mapped [] = refl
  slow-mapped (t ∷ ts) = by (t.deadline == tick_limit) (slow-mapped ts)
    where
      by : (b : Bool) → slow_count tick_limit (map (λ (t : Thread). t.deadline) ts) ≡ length (filter (λ (t : Thread). t.deadline == tick_limit) ts)
          → length (if b then t.deadline ∷ filter (λ d. d == tick_limit) (map (λ (t : Thread). t.deadline) ts)
          else filter (λ d. d == tick_limit) (map (λ (t : Thread). t.deadline) ts))
          ≡ length (if b then t ∷ filter (λ (t : Thread). t.deadline == tick_limit) ts else filter (λ (t : Thread). t.deadline == tick_limit) ts)
      by true h = ap suc h
      by false h = h

  counted : slow_count tick_limit deadlines ≡ client_count x
  counted = slow-mapped f.threads ∙ slow-are-clients x quick

  -- clients have the least priorities, and the others are above them
  pub client-low : (k q : ℕ) (t : Thread) → slice_get f.threads k ≡ Some t → slice_get ps k ≡ Some q → eager t.name ≡ true → q ≤ client_count x
  client-low k q t at e h =
      let d = (client-timing t (at-in f.threads k t at) h).1 in
      let g : slice_get deadlines k ≡ Some tick_limit = map-at (λ (t : Thread). t.deadline) f.threads k t at ∙ ap Some d in
      let l = slow-low tick_limit deadlines k q all-low g e in
      omega (arith, l, counted)

  pub hard-high : (k q : ℕ) (t : Thread) → slice_get f.threads k ≡ Some t → slice_get ps k ≡ Some q → eager t.name ≡ false → client_count x < q
  hard-high k q t at e h =
      let i = at-in f.threads k t at in
      let most = deadline-most t i in
      let fast : t.deadline < tick_limit = by (t.deadline == tick_limit) refl most in
      let c = fast-high tick_limit deadlines k q t.deadline (map-at (λ (t : Thread). t.deadline) f.threads k t at) fast e in
      omega (arith, c, counted)
    where
      is : (n : ℕ) → (n == tick_limit) ≡ true → n ≡ tick_limit
      is n g = grind arith

      apart : (n : ℕ) → (n == tick_limit) ≡ false → n ≤ tick_limit → n < tick_limit
      apart n g m = grind arith

      by : (b : Bool) → (t.deadline == tick_limit) ≡ b → t.deadline ≤ tick_limit → t.deadline < tick_limit
      by true g m = absurd (true≢false (sym (slow-client t (at-in f.threads k t at) (is t.deadline g)) ∙ h))
      by false g m = apart t.deadline g m

  -- a client requests no sporadic thread
  pub client-calm : (t s : Thread) → IsIn t f.threads → IsIn s f.threads → is_sporadic s.timing ≡ true
      → can_request (flat_services f) s.name t.block ≡ true → eager t.name ≡ false
  client-calm t s h k sporadic can = by (eager t.name) refl
    where
      by : (b : Bool) → eager t.name ≡ b → b ≡ false
      by false e = refl
      by true e =
          let told : IsIn (A6 t.name s.name) (requesting_clients x) =
          in-flat (λ (c : Thread). map (λ (t : Thread). A6 c.name t.name)
          (filter (λ (t : Thread). is_sporadic t.timing && can_request (flat_services f) t.name c.block) f.threads)) t (A6 t.name s.name)
          (filter (λ (t : Thread). eager t.name) f.threads) (filter-in (λ (t : Thread). eager t.name) t f.threads h e)
          (in-map (λ (z : Thread). A6 t.name z.name) s
          (filter (λ (z : Thread). is_sporadic z.timing && can_request (flat_services f) z.name t.block) f.threads)
          (filter-in (λ (z : Thread). is_sporadic z.timing && can_request (flat_services f) z.name t.block) s f.threads k
          (ap (λ b. b && can_request (flat_services f) s.name t.block) sporadic ∙ can))) in
          let P : List Misfit → Type 0 = λ zs. IsIn (A6 t.name s.name) zs in
          absurd (subst P calm told)

  pub clients-few : client_count x ≤ length f.threads
  clients-few =
      let a = filter-few (λ (t : Thread). t.deadline == tick_limit) f.threads in let b = slow-are-clients x quick in omega (arith, a, b)
    where
      filter-few : {A : Type 0} (test : A → Bool) (xs : List A) → length (filter test xs) ≤ length xs
      filter-few test [] = omega arith
      filter-few {A} test (z ∷ zs) = by (test z) (filter-few test zs)
        where
          by : (b : Bool) → length (filter test zs) ≤ length zs → length (if b then z ∷ filter test zs else filter test zs) ≤ suc (length zs)
          by true h = omega (arith, h)
          by false h = omega (arith, h)
