-- Which sporadic objects clients can request, in the flat design of the hard part and in its tree: they are the same where the hard part meets the
-- rules.
use Rattle.std.specs.Prelude.{◌≡◌, Bool, true, false, ◌&&◌, List, [], ◌∷◌, ◌++◌, map, filter, filter_map, flat_map, None, refl}
use Rattle.std.specs.Prelude.{option_map, option_and_then, if◌then◌else◌, ⊤}
use Rattle.std.specs.List.{list_any, cons_option}
use Rattle.std.proofs.Common.{sym, ◌∙◌, ap, ap₂, subst, inl, inr}
use Rattle.std.proofs.lemmas.Bool.{false_from_ne_true, both_ways}
use Rattle.seq_tree.specs.Names.{Name, same_name, are_distinct}
use Rattle.ods_tree.specs.Designs.{Object, Design}
use Rattle.ods_tree.specs.Walk.{Standing, terminals}
use Rattle.ods_tree.specs.Flats.{Timing, Thread}
use Rattle.ods_tree.specs.Flattening.{threads, thread_by, timing_by, thread_at, flat}
use Rattle.ods_tree.specs.Services.{Service, flat_services}
use Rattle.ods_tree.specs.declared.design.Kind.{Kind}
use Rattle.ods_tree.specs.declared.design.Kind.TheVariants as kind
use Rattle.analysis.specs.Starts.{can_request}
use Rattle.design_rules.specs.Lookups.{has_thread}
use Rattle.design_rules.specs.Lookups as lookups
use Rattle.design_rules.specs.Rings.{thread_objects, thread_calls, can_start}
use Rattle.design_rules.specs.Rules.{AreMet}
use Rattle.law_designs.proofs.Shared.Lists.{key-eq, named-from, named-at, from-map}
use Rattle.law_designs.proofs.Shared.Flattened.{terminal-object, TimingOf, OfCyclic, OfSporadic, timing-of}
use Rattle.law_designs.proofs.Shared.ObjectRules.{no-clash}
use Rattle.law_designs.proofs.Shared.ObjectNames.{terminal-names}
use Rattle.law_designs.proofs.Shared.Blocks.{thread-needed}
use Rattle.law_designs.proofs.Shared.Starting.{can-same}
use Rattle.law_designs.proofs.Shared.Started.{threaded, service-count}
use Rattle.law_lists.proofs.Shared.Lists.{IsIn, in-map, filter-in, in-filter, flat-same}
use Rattle.background_designs.specs.Clients.{is_client, is_server, clients, is_client_name}
use Rattle.background_designs.specs.HardParts.{soft_object, cyclic_client, protected_server, hard_object, hard_part}
use Rattle.background_designs.specs.Misfits.{Misfit, A6, is_sporadic, requesting_clients}
use Rattle.law_backgrounds.specs.Laws.{client_starts}
use Rattle.law_backgrounds.proofs.Shared.HardObjects.{terminal_objects, terminals-hard}

-- lists

filter-same : {A : Type 0} (p q : A → Bool) (xs : List A) → ((a : A) → IsIn a xs → p a ≡ q a) → filter p xs ≡ filter q xs
filter-same p q [] h = refl
filter-same p q (x ∷ xs) h = ap₂ (λ b ys. if b then x ∷ ys else ys) (h x (inl refl)) (filter-same p q xs (λ a k. h a (inr k)))

filter-map : {A B : Type 0} (f : A → B) (p : B → Bool) (xs : List A) → filter p (map f xs) ≡ map f (filter (λ a. p (f a)) xs)
filter-map f p [] = refl
filter-map {A} {B} f p (x ∷ xs) = by (p (f x)) (filter-map f p xs)
  where
    by : (b : Bool) → filter p (map f xs) ≡ map f (filter (λ a. p (f a)) xs)
        → (if b then f x ∷ filter p (map f xs) else filter p (map f xs))
        ≡ map f (if b then x ∷ filter (λ a. p (f a)) xs else filter (λ a. p (f a)) xs)
    by true e = ap (λ ys. f x ∷ ys) e
    by false e = e

filter-both : {A : Type 0} (p q : A → Bool) (xs : List A) → filter p (filter q xs) ≡ filter (λ a. q a && p a) xs
filter-both p q [] = refl
filter-both {A} p q (x ∷ xs) = by (q x) (p x) refl refl (filter-both p q xs)
  where
    by : (b c : Bool) → q x ≡ b → p x ≡ c → filter p (filter q xs) ≡ filter (λ a. q a && p a) xs
        → filter p (if b then x ∷ filter q xs else filter q xs)
        ≡ (if b && p x then x ∷ filter (λ a. q a && p a) xs else filter (λ a. q a && p a) xs)
    by true c e g rest = ap (λ ys. if p x then x ∷ ys else ys) rest
    by false c e g rest = rest

flat-map : {A B C : Type 0} (f : A → B) (g : B → List C) (xs : List A) → flat_map g (map f xs) ≡ flat_map (λ a. g (f a)) xs
flat-map f g [] = refl
flat-map f g (x ∷ xs) = ap (λ ys. g (f x) ++ ys) (flat-map f g xs)

map-own : {A B : Type 0} (f : A → B) (p : B → Bool) (ss : List A) → map f (filter (λ a. p (f a)) ss) ≡ filter p (map f ss)
map-own f p ss = sym (filter-map f p ss)

module _ (written x : Design) (met : AreMet written (hard_part x)) where
  abbrev y : Design
  y = hard_part x

  abbrev ss : List Service
  ss = flat_services (flat y)

  -- a thread of the flat design and its object
  record IsOf (t : Thread) (o : Object) : Type 0 where
    named : t.name ≡ o.name
    sort : is_sporadic t.timing ≡ lookups.is_sporadic o.kind
    starts : (to : Object) → lookups.is_sporadic to.kind ≡ true → can_request ss to.name t.block ≡ can_start y o to

  -- threads and their objects, in order
  abbrev AreOf : List Thread → List Object → Type 0
  AreOf [] [] = ⊤
  AreOf [] (o ∷ os) = ⊥
  AreOf (t ∷ ts) [] = ⊥
  AreOf (t ∷ ts) (o ∷ os) = IsOf t o × AreOf ts os

  no-timing : (k : Kind) (o : Object) → has_thread k ≡ false → timing_by k o ≡ None
  no-timing kind.Passive o e = refl
  no-timing kind.Active o e = refl
  no-timing kind.Protected o e = refl
  no-timing kind.Cyclic o e = cc
  no-timing kind.Sporadic o e = cc

  sorted : (o : Object) (t : Timing) → TimingOf o t → is_sporadic t ≡ lookups.is_sporadic o.kind
  sorted o t (OfCyclic e q) = ap is_sporadic q ∙ sym (ap lookups.is_sporadic e)
  sorted o t (OfSporadic sig e r q) = ap is_sporadic q ∙ sym (ap lookups.is_sporadic e)

  are-of : (zs : List Standing) → ((s : Standing) → IsIn s zs → IsIn s (terminals y))
      → AreOf (filter_map (λ s. thread_by y s.own) zs) (map (λ s. s.own) (filter (λ s. has_thread s.own.kind) zs))
  are-of [] h = tt
  are-of (s ∷ zs) h = by (has_thread s.own.kind) refl (are-of zs (λ r k. h r (inr k)))
    where
      by : (b : Bool) → has_thread s.own.kind ≡ b
          → AreOf (filter_map (λ s. thread_by y s.own) zs) (map (λ s. s.own) (filter (λ s. has_thread s.own.kind) zs))
          → AreOf (cons_option (thread_by y s.own) (filter_map (λ s. thread_by y s.own) zs))
          (map (λ s. s.own) (if b then s ∷ filter (λ s. has_thread s.own.kind) zs else filter (λ s. has_thread s.own.kind) zs))
      by false e rest =
          let none : thread_by y s.own ≡ None = ap (option_and_then (λ u. option_map (thread_at y s.own u) s.own.thread))
          (no-timing s.own.kind s.own e) in
          subst (λ o. AreOf (cons_option o (filter_map (λ s. thread_by y s.own) zs)) (map (λ s. s.own) (filter (λ s. has_thread s.own.kind) zs)))
          (sym none) rest
      by true e rest =
          let here = h s (inl refl) in
          let t = threaded written y met s here e in
          let o = (terminal-object y s here).0 in
          let one : IsOf (thread_at y s.own t.0 t.1) s.own = record {
            named = refl;
            sort = sorted s.own t.0 (timing-of s.own t.0 t.2);
            starts = λ to sort. can-same written y met s t.1 to (service-count written y met) o t.3 (thread-needed written y met s t.1 o t.3) sort;
          } in
          subst (λ u. AreOf (cons_option u (filter_map (λ s. thread_by y s.own) zs))
          (s.own ∷ map (λ s. s.own) (filter (λ s. has_thread s.own.kind) zs)))
          (sym t.4) (one, rest)

  whole : AreOf (threads y) (thread_objects y)
  whole = are-of (terminals y) (λ s h. h)

  -- what one of them can request
  inner : (t : Thread) (o : Object) → IsOf t o → (ts : List Thread) (os : List Object) → AreOf ts os
      → map (λ u. A6 t.name u.name) (filter (λ u. is_sporadic u.timing && can_request ss u.name t.block) ts)
      ≡ map (λ p. A6 o.name p.name) (filter (λ p. can_start y o p) os)
  inner t o i [] [] h = refl
  inner t o i [] (p ∷ os) h = absurd h
  inner t o i (u ∷ ts) [] h = absurd h
  inner t o i (u ∷ ts) (p ∷ os) h = by (can_start y o p) (same (lookups.is_sporadic p.kind) refl) (inner t o i ts os h.1)
    where
      same : (b : Bool) → lookups.is_sporadic p.kind ≡ b → (is_sporadic u.timing && can_request ss u.name t.block) ≡ can_start y o p
      same true e =
          ap₂ (λ c n. c && can_request ss n t.block) (h.0.sort ∙ e) h.0.named ∙ i.starts p e
      same false e = ap (λ c. c && can_request ss u.name t.block) (h.0.sort ∙ e)
          ∙ sym (ap (λ c. c && list_any (λ z. same_name z.object p.name) (thread_calls y o)) e)

      by : (b : Bool) → (is_sporadic u.timing && can_request ss u.name t.block) ≡ b
          → map (λ u. A6 t.name u.name) (filter (λ u. is_sporadic u.timing && can_request ss u.name t.block) ts)
          ≡ map (λ p. A6 o.name p.name) (filter (λ p. can_start y o p) os)
          → map (λ u. A6 t.name u.name) (filter (λ u. is_sporadic u.timing && can_request ss u.name t.block) (u ∷ ts))
          ≡ map (λ p. A6 o.name p.name) (if b then p ∷ filter (λ p. can_start y o p) os else filter (λ p. can_start y o p) os)
      by b e rest =
          ap (λ c. map (λ u. A6 t.name u.name) (if c then u ∷ filter (λ u. is_sporadic u.timing && can_request ss u.name t.block) ts
          else filter (λ u. is_sporadic u.timing && can_request ss u.name t.block) ts)) e ∙ chosen b
        where
          chosen : (c : Bool) → map (λ u. A6 t.name u.name) (if c then u ∷ filter (λ u. is_sporadic u.timing && can_request ss u.name t.block) ts
              else filter (λ u. is_sporadic u.timing && can_request ss u.name t.block) ts)
              ≡ map (λ p. A6 o.name p.name) (if c then p ∷ filter (λ p. can_start y o p) os else filter (λ p. can_start y o p) os)
          chosen true = ap₂ (λ a z. a ∷ z) (ap₂ A6 i.named h.0.named) rest
          chosen false = rest

  -- the same of a thread and of an object
  abbrev of_thread : Thread → List Misfit
  of_thread t = map (λ u. A6 t.name u.name) (filter (λ u. is_sporadic u.timing && can_request ss u.name t.block) (threads y))

  abbrev of_object : Object → List Misfit
  of_object o = map (λ p. A6 o.name p.name) (filter (λ p. can_start y o p) (thread_objects y))

  -- what those of a name among them can request
  outer : (e : Name → Bool) (ts : List Thread) (os : List Object) → AreOf ts os
      → flat_map of_thread (filter (λ t. e t.name) ts) ≡ flat_map of_object (filter (λ o. e o.name) os)
  outer e [] [] h = refl
  outer e [] (o ∷ os) h = absurd h
  outer e (t ∷ ts) [] h = absurd h
  outer e (t ∷ ts) (o ∷ os) h =
      ap (λ b. flat_map of_thread (if b then t ∷ filter (λ t. e t.name) ts else filter (λ t. e t.name) ts)) (ap e h.0.named)
      ∙ chosen (e o.name) (outer e ts os h.1)
    where
      chosen : (b : Bool) → flat_map of_thread (filter (λ t. e t.name) ts) ≡ flat_map of_object (filter (λ o. e o.name) os)
          → flat_map of_thread (if b then t ∷ filter (λ t. e t.name) ts else filter (λ t. e t.name) ts)
          ≡ flat_map of_object (if b then o ∷ filter (λ o. e o.name) os else filter (λ o. e o.name) os)
      chosen true rest = ap₂ (λ a z. a ++ z) (inner t o h.0 (threads y) (thread_objects y) whole) rest
      chosen false rest = rest

  -- the names of terminal objects
  hard-name : (o : Object) → (hard_object o).name ≡ o.name
  hard-name o = by (is_client o) (is_server o)
    where
      by : (b c : Bool) → (if b then cyclic_client o else (if c then protected_server o else soft_object o)).name ≡ o.name
      by true c = refl
      by false true = refl
      by false false = refl

  names-of : (os : List Object) → map (λ o. (hard_object o).name) os ≡ map (λ o. o.name) os
  names-of [] = refl
  names-of (o ∷ os) = ap₂ (λ a b. a ∷ b) (hard-name o) (names-of os)

  map-map : {A B C : Type 0} (g : B → C) (f : A → B) (xs : List A) → map g (map f xs) ≡ map (λ a. g (f a)) xs
  map-map g f [] = refl
  map-map g f (a ∷ as') = ap (λ zs. g (f a) ∷ zs) (map-map g f as')

  distinct : are_distinct (map (λ o. o.name) (terminal_objects x)) ≡ true
  distinct =
      ap are_distinct (sym (names-of (terminal_objects x)) ∙ sym (map-map (λ (o : Object). o.name) hard_object (terminal_objects x))
      ∙ ap (map (λ (o : Object). o.name)) (sym (terminals-hard x)) ∙ map-map (λ (o : Object). o.name) (λ (s : Standing). s.own) (terminals y))
      ∙ terminal-names y (no-clash written y met)

  -- of terminal objects the clients are those with a thread and a client's name, as hard ones
  clients-are : (o : Object) → IsIn o (terminal_objects x)
      → (has_thread (hard_object o).kind && is_client_name x (hard_object o).name) ≡ is_client o
  clients-are o h = by (is_client o) refl
    where
      by : (b : Bool) → is_client o ≡ b → (has_thread (hard_object o).kind && is_client_name x (hard_object o).name) ≡ b
      by true e =
          let kind' : has_thread (hard_object o).kind ≡ true =
          ap (λ c. has_thread (if c then cyclic_client o else (if is_server o then protected_server o else soft_object o)).kind) e in
          let named : is_client_name x (hard_object o).name ≡ true = ap (is_client_name x) (hard-name o)
          ∙ named-from (map (λ (z : Object). z.name) (clients x)) o.name
          (in-map (λ (z : Object). z.name) o (clients x) (filter-in is_client o (terminal_objects x) h e)) in
          ap₂ (λ a b. a && b) kind' named
      by false e =
          ap (λ c. has_thread (hard_object o).kind && c) (ap (is_client_name x) (hard-name o) ∙ none) ∙ never (has_thread (hard_object o).kind)
        where
          never : (b : Bool) → (b && false) ≡ false
          never true = refl
          never false = refl

          none : is_client_name x o.name ≡ false
          none = false_from_ne_true (is_client_name x o.name) (λ g.
              let n = from-map (λ (z : Object). z.name) (clients x) o.name (named-at (map (λ (z : Object). z.name) (clients x)) o.name g) in
              let c = in-filter is_client n.0 (terminal_objects x) n.1 in
              let same : n.0 ≡ o = key-eq (λ (z : Object). z.name) (terminal_objects x) distinct n.0 o c.0 h (sym n.2) in
              both_ways (is_client o) e (sym (ap is_client same) ∙ c.1))

  hard-clients : filter (λ o. is_client_name x o.name) (thread_objects y) ≡ map hard_object (clients x)
  hard-clients =
      ap (filter (λ (o : Object). is_client_name x o.name)) (map-own (λ (s : Standing). s.own) (λ (o : Object). has_thread o.kind) (terminals y)
      ∙ ap (filter (λ (o : Object). has_thread o.kind)) (terminals-hard x))
      ∙ filter-both (λ (o : Object). is_client_name x o.name) (λ (o : Object). has_thread o.kind) (map hard_object (terminal_objects x))
      ∙ filter-map hard_object (λ (o : Object). has_thread o.kind && is_client_name x o.name) (terminal_objects x)
      ∙ ap (map hard_object) (filter-same _ is_client (terminal_objects x) clients-are)

  pub requests-by-tree : requesting_clients x ≡ client_starts x
  requests-by-tree =
      outer (is_client_name x) (threads y) (thread_objects y) whole
      ∙ ap (flat_map of_object) hard-clients
      ∙ flat-map hard_object of_object (clients x)
      ∙ flat-same _ _ (clients x) (λ o h. ap (λ n. map (λ p. A6 n p.name) (filter (λ p. can_start y (hard_object o) p) (thread_objects y)))
      (hard-name o))
