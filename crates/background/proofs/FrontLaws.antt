-- The flat design of a hard part: its slow threads are those of the clients, and so what is made of it is what is made of the design.
use Rattle.std.specs.Prelude.{◌≡◌, ℕ, ◌-◌, ◌==◌, ◌&&◌, Bool, true, false, List, [], ◌∷◌, ◌++◌, map, filter, length}
use Rattle.std.specs.Prelude.{Some, filter_map, flat_map, zip, take, if◌then◌else◌, refl}
use Rattle.std.proofs.Common.{sym, ◌∙◌, ap, subst, arith, inl, inr}
use Rattle.std.proofs.lemmas.Option.{same_Some}
use Rattle.seq_tree.specs.Limits.{tick_limit}
use Rattle.seq_tree.specs.Layout.{layout}
use Rattle.seq_tree.specs.Names.{Name, are_distinct}
use Rattle.ods_tree.specs.Designs.{Object, Design}
use Rattle.ods_tree.specs.Flats.{Cyclic, Thread, Flat}
use Rattle.ods_tree.specs.Flattening.{thread_by, flat}
use Rattle.ods_tree.specs.Services.{flat_services}
use Rattle.ods_tree.specs.Ticks.{first_priority}
use Rattle.ada_tree.specs.Spelling.{program_lines}
use Rattle.analysis.specs.Ceilings.{ranks, written_ranks}
use Rattle.analysis.specs.Sound.{IsSound}
use Rattle.analysis.specs.Starts.{can_request}
use Rattle.analysis.specs.Tables.{table}
use Rattle.guarantee.specs.Programs.{program_for, head}
use Rattle.design_bounds.specs.Rows.{named_at}
use Rattle.law_designs.proofs.Shared.Lists.{from-map, in-filter_map, named-from, named-at, key-eq}
use Rattle.law_lists.proofs.Shared.Lists.{IsIn, in-map, filter-in, in-filter}
use Rattle.background_designs.specs.Clients.{is_client, clients, is_client_name}
use Rattle.background_designs.specs.HardParts.{hard_object, hard_part}
use Rattle.background_designs.specs.Misfits.{A6, is_sporadic, slow_threads, requesting_clients}
use Rattle.background_designs.specs.Programs.{client_count, raised, restless, background_flat, background_ranks, background_text, hard_rows}
use Rattle.background_designs.specs.Programs.{hard_places}
use Rattle.rt_response.specs.declared.rows.Bound.{Bound}
use Rattle.law_backgrounds.proofs.Shared.HardObjects.{terminal_objects, threads-hard}
use Rattle.law_backgrounds.proofs.Shared.HardThreads.{client-thread, other-thread, thread-source, slow-are-clients}
use Rattle.law_backgrounds.proofs.Shared.HardRanks.{distinct-last}
use Rattle.background.specs.Fronts.{is_slow, slow_count, front_rows, front_places, name_at, front_name, slow_requests, at_once, restless_flat}
use Rattle.background.specs.Fronts.{restless_ranks}
use Rattle.background.specs.Fronts.{restless_text, restless_bounds}
use Rattle.background.specs.Rows.{background_bounds, hard_name}

-- tests, and functions, that agree on what is in a list
filter-same : {A : Type 0} (s t : A → Bool) (xs : List A) → ((x : A) → IsIn x xs → s x ≡ t x) → filter s xs ≡ filter t xs
filter-same s t [] h = refl
filter-same s t (x ∷ xs) h =
    ap (λ b. if b then x ∷ filter s xs else filter s xs) (h x (inl refl))
    ∙ ap (λ ys. if t x then x ∷ ys else ys) (filter-same s t xs (λ y i. h y (inr i)))

map-same : {A B : Type 0} (f g : A → B) (xs : List A) → ((x : A) → IsIn x xs → f x ≡ g x) → map f xs ≡ map g xs
map-same f g [] h = refl
map-same f g (x ∷ xs) h = ap (λ y. y ∷ map f xs) (h x (inl refl)) ∙ ap (λ ys. g x ∷ ys) (map-same f g xs (λ y i. h y (inr i)))

module _ (x : Design) (quick : slow_threads x ≡ []) (sound : IsSound (flat (hard_part x))) where
  abbrev f : Flat
  f = flat (hard_part x)

  thread-names : are_distinct (map (λ (t : Thread). t.name) f.threads) ≡ true
  thread-names = distinct-last (map (λ g. g.name) f.shared) (map (λ t. t.name) f.threads)
      (distinct-last (map (λ l. l.name) f.passive) (map (λ g. g.name) f.shared ++ map (λ t. t.name) f.threads) sound.formed.names)

  self : (n : ℕ) → n ≡ tick_limit → (n == tick_limit) ≡ true
  self n e = ap (λ z. z == tick_limit) e

  is : (n : ℕ) → (n == tick_limit) ≡ true → n ≡ tick_limit
  is n e = grind arith

  -- the thread of a client has its name and is slow
  client-is : (o : Object) (t : Thread) → is_client o ≡ true → thread_by (hard_part x) (hard_object o) ≡ Some t
      → (t.name ≡ o.name) × (t.deadline ≡ tick_limit)
  client-is o t e made =
      let c = client-thread (hard_part x) o e in
      let same : c.thread ≡ t = same_Some c.thread t (sym c.made ∙ made) in
      (ap (λ z. z.name) (sym same) ∙ c.named, ap (λ z. z.deadline) (sym same) ∙ c.deadline)

  -- a thread with the name of a client is slow
  named-slow : (t : Thread) → IsIn t f.threads → is_client_name x t.name ≡ true → t.deadline ≡ tick_limit
  named-slow t h e =
      let n = from-map (λ (o : Object). o.name) (clients x) t.name (named-at (map (λ (o : Object). o.name) (clients x)) t.name e) in
      let o = in-filter is_client n.0 (terminal_objects x) n.1 in
      let c = client-thread (hard_part x) n.0 o.1 in
      let P : List Thread → Type 0 = λ zs. IsIn c.thread zs in
      let there : IsIn c.thread f.threads = subst P (sym (threads-hard x))
      (in-filter_map (λ z. thread_by (hard_part x) (hard_object z)) (terminal_objects x) n.0 c.thread o.0 c.made) in
      let same : c.thread ≡ t = key-eq (λ (z : Thread). z.name) f.threads thread-names c.thread t there h (c.named ∙ sym n.2) in
      ap (λ z. z.deadline) (sym same) ∙ c.deadline

  -- slow threads are those of clients
  pub slow-named : (t : Thread) → IsIn t f.threads → is_slow t ≡ is_client_name x t.name
  slow-named t h = by (is_client s.0) refl
    where
      s : (o : Object) × IsIn o (terminal_objects x) × (thread_by (hard_part x) (hard_object o) ≡ Some t)
      s = thread-source x quick t h

      none : (b : Bool) → is_client_name x t.name ≡ b → (t.deadline ≡ tick_limit → ⊥) → is_slow t ≡ b
      none true e far = absurd (far (named-slow t h e))
      none false e far = not-slow (is_slow t) refl
        where
          not-slow : (c : Bool) → is_slow t ≡ c → c ≡ false
          not-slow false g = refl
          not-slow true g = absurd (far (is t.deadline g))

      by : (b : Bool) → is_client s.0 ≡ b → is_slow t ≡ is_client_name x t.name
      by true e =
          let c = client-is s.0 t e s.2 in
          let P : Name → Type 0 = λ n. IsIn n (map (λ (o : Object). o.name) (clients x)) in
          let named : is_client_name x t.name ≡ true = named-from (map (λ (o : Object). o.name) (clients x)) t.name
          (subst P (sym c.0) (in-map (λ (o : Object). o.name) s.0 (clients x) (filter-in is_client s.0 (terminal_objects x) s.1 e))) in
          self t.deadline c.1 ∙ sym named
      by false e = none (is_client_name x t.name) refl (other-thread x quick s.0 t s.1 e s.2).1

  pub counted : slow_count f ≡ client_count x
  counted = slow-are-clients x quick

  pub same-requests : slow_requests f ≡ requesting_clients x
  same-requests =
      ap (flat_map (λ c. map (λ t. A6 c.name t.name) (filter (λ t. is_sporadic t.timing && can_request (flat_services f) t.name c.block) f.threads)))
      (filter-same is_slow (λ (t : Thread). is_client_name x t.name) f.threads slow-named)

  pub same-rows : front_rows f ≡ hard_rows x
  same-rows = ap (λ n. take (length f.threads - n) (table f).rows) counted

  pub same-places : front_places f ≡ hard_places x
  same-places = ap (λ n. take (length f.threads - n) (table f).places) counted

  pub same-names : (row : ℕ) → front_name f row ≡ hard_name x row
  same-names row = ap (λ n. name_at f.threads (take (length f.threads - n) (table f).places) row) counted

  same-flat : restless_flat f ≡ background_flat x
  same-flat = ap (λ ts. record f { threads = ts }) (map-same at_once (restless x) f.threads
      (λ t h. ap (λ b. if b then record t { timing = Cyclic 1 0 } else t) (slow-named t h)))

  pub same-ranks : restless_ranks (first_priority (hard_part x)) f ≡ background_ranks x
  same-ranks = ap (λ n. written_ranks (first_priority x) (raised n (ranks f))) counted

  pub same-text : (v : List Bound) → restless_text (first_priority (hard_part x)) f v ≡ background_text x v
  same-text v =
      ap (λ g. head g (restless_ranks (first_priority x) f) (front_places f) v
      ++ layout (program_lines (program_for g (restless_ranks (first_priority x) f)))) same-flat
      ∙ ap (λ r. head (background_flat x) r (front_places f) v ++ layout (program_lines (program_for (background_flat x) r))) same-ranks
      ∙ ap (λ ps. head (background_flat x) (background_ranks x) ps v
      ++ layout (program_lines (program_for (background_flat x) (background_ranks x)))) same-places

  pub same-bounds : (v : List Bound) → restless_bounds (first_priority (hard_part x)) f v ≡ background_bounds x v
  same-bounds v =
      ap (λ g. filter_map (named_at g (restless_ranks (first_priority x) f).threads) (zip (front_places f) (zip (front_rows f) v))) same-flat
      ∙ ap (λ r. filter_map (named_at (background_flat x) r.threads) (zip (front_places f) (zip (front_rows f) v))) same-ranks
      ∙ ap (λ n. let k = length f.threads - n in filter_map (named_at (background_flat x) (background_ranks x).threads)
      (zip (take k (table f).places) (zip (take k (table f).rows) v))) counted
