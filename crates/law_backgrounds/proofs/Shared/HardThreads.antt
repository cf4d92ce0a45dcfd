-- The threads of the hard part: those of clients have the longest deadline, and the others have not, where no hard thread is slow.
use Rattle.std.specs.Prelude.{◌≡◌, ℕ, Bool, true, false, ◌&&◌, ◌==◌, List, [], ◌∷◌, filter, filter_map, find, length, Option, Some, None, refl}
use Rattle.std.specs.Prelude.{option_map, option_and_then, unwrap_or, if◌then◌else◌, suc}
use Rattle.std.specs.List.{cons_option}
use Rattle.std.proofs.Common.{sym, ◌∙◌, ap, subst, inl, inr, arith}
use Rattle.std.proofs.lemmas.Bool.{and_parts, and_from}
use Rattle.std.proofs.lemmas.Option.{none-some, same_Some}
use Rattle.seq_tree.specs.Limits.{tick_limit}
use Rattle.seq_tree.specs.Statements.{Statements}
use Rattle.ods_tree.specs.Designs.{Object, Design}
use Rattle.ods_tree.specs.Walk.{terminals, is_empty}
use Rattle.ods_tree.specs.Attributes.{has_key, attribute, attribute_or}
use Rattle.ods_tree.specs.Flats.{Timing, Cyclic, Sporadic, Thread}
use Rattle.ods_tree.specs.Flattening.{threads, thread_by, timing_by, thread_at, request_op}
use Rattle.seq_tree.specs.Operations.{Signature}
use Rattle.ods_tree.specs.declared.design.Attr.{Attr}
use Rattle.ods_tree.specs.declared.design.AttrKey.TheVariants.{Deadline, Separation, ArrivalJitter}
use Rattle.ods_tree.specs.declared.design.Kind.{Kind}
use Rattle.ods_tree.specs.declared.design.Kind.TheVariants as kind
use Rattle.design_rules.specs.Bodies.{is_active}
use Rattle.design_rules.specs.Clashes.{has_block}
use Rattle.design_rules.specs.Lookups.{has_thread}
use Rattle.design_rules.specs.Rings.{thread_objects}
use Rattle.law_designs.proofs.Shared.Lists.{from-map, none-told}
use Rattle.law_lists.proofs.Shared.Lists.{IsIn, in-map, filter-in, in-made, found-in, any-in}
use Rattle.background_designs.specs.Clients.{is_client, is_server, clients}
use Rattle.background_designs.specs.HardParts.{soft_object, cyclic_client, protected_server, hard_object, hard_part}
use Rattle.background_designs.specs.Misfits.{A5, is_slow, slow_threads}
use Rattle.law_backgrounds.proofs.Shared.HardObjects.{terminal_objects, threads-hard}

-- what a thread has of its object
record OfObject (o : Object) (t : Thread) : Type 0 where
  named : t.name ≡ o.name
  ends : t.deadline ≡ attribute_or 0 Deadline o
  kind' : has_thread o.kind ≡ true

of-object : (y : Design) (o : Object) (t : Thread) → thread_by y o ≡ Some t → OfObject o t
of-object y o t e = by o.kind refl e
  where
    made : (u : Timing) (b : Option Statements) → has_thread o.kind ≡ true → option_map (thread_at y o u) b ≡ Some t → OfObject o t
    made u None k h = absurd (none-some t h)
    made u (Some b) k h =
        let same : thread_at y o u b ≡ t = same_Some (thread_at y o u b) t h in
        record { named = ap (λ z. z.name) (sym same); ends = ap (λ z. z.deadline) (sym same); kind' = k }

    by : (k : Kind) → o.kind ≡ k → option_and_then (λ u. option_map (thread_at y o u) o.thread) (timing_by k o) ≡ Some t → OfObject o t
    by kind.Cyclic q h = made _ o.thread (ap has_thread q) h
    by kind.Sporadic q h = asks (request_op o.provides) h
      where
        asks : (r : Option Signature)
            → option_and_then (λ u. option_map (thread_at y o u) o.thread)
            (option_map (λ op. Sporadic op (attribute_or 0 Separation o) (attribute ArrivalJitter o)) r) ≡ Some t → OfObject o t
        asks None g = absurd (none-some t g)
        asks (Some sig) g = made (Sporadic sig (attribute_or 0 Separation o) (attribute ArrivalJitter o)) o.thread (ap has_thread q) g
    by kind.Passive q h = absurd (none-some t h)
    by kind.Active q h = absurd (none-some t h)
    by kind.Protected q h = absurd (none-some t h)

-- the thread of a client
pub record OfClient (y : Design) (o : Object) : Type 0 where
  pub thread : Thread
  pub made : thread_by y (hard_object o) ≡ Some thread
  pub named : thread.name ≡ o.name
  pub timing : thread.timing ≡ Cyclic tick_limit 0
  pub deadline : thread.deadline ≡ tick_limit

pub client-thread : (y : Design) (o : Object) → is_client o ≡ true → OfClient y o
client-thread y o e = by o.thread refl (and_parts (has_block o.thread) (is_empty o.provides) (and_parts (is_active o.kind) _ e).1).0
  where
    by : (b : Option Statements) → o.thread ≡ b → has_block b ≡ true → OfClient y o
    by None q h = cc
    by (Some b) q h = record {
      thread = thread_at y (cyclic_client o) (Cyclic tick_limit 0) b;
      made = ap (λ c. thread_by y (if c then cyclic_client o else (if is_server o then protected_server o else soft_object o))) e
          ∙ ap (option_map (thread_at y (cyclic_client o) (Cyclic tick_limit 0))) q;
      named = refl;
      timing = refl;
      deadline = refl;
    }

module _ (x : Design) (quick : slow_threads x ≡ []) where
  abbrev y : Design
  y = hard_part x

  abbrev made_of : Object → Option Thread
  made_of o = thread_by y (hard_object o)

  not-slow : (o : Object) → IsIn o (terminal_objects x) → has_thread o.kind ≡ true → is_slow o ≡ false
  not-slow o h k =
      let s = from-map (λ s. s.own) (terminals x) o h in
      let P : Object → Type 0 = λ z. IsIn z (thread_objects x) in
      none-told is_slow (λ z. A5 z.name) (thread_objects x) quick o
      (subst P (sym s.2) (in-map (λ z. z.own) s.0 (filter (λ z. has_thread z.own.kind) (terminals x))
      (filter-in (λ z. has_thread z.own.kind) s.0 (terminals x) s.1 (ap (λ z. has_thread z.kind) (sym s.2) ∙ k))))

  -- the thread of an object that is no client
  pub other-thread : (o : Object) (t : Thread) → IsIn o (terminal_objects x) → is_client o ≡ false → made_of o ≡ Some t
      → (t.name ≡ o.name) × (t.deadline ≡ tick_limit → ⊥)
  other-thread o t h e m = by (is_server o) (ap (λ c. thread_by y (if c then cyclic_client o else (if is_server o then protected_server o
      else soft_object o))) (sym e) ∙ m)
    where
      by : (b : Bool) → thread_by y (if b then protected_server o else soft_object o) ≡ Some t
          → (t.name ≡ o.name) × (t.deadline ≡ tick_limit → ⊥)
      by true k = absurd (none-some t k)
      by false k =
          let f : OfObject (soft_object o) t = of-object y (soft_object o) t k in
          (f.named, λ same. fast (find (has_key Deadline) o.attrs) refl (not-slow o h f.kind') (sym f.ends ∙ same))
        where
          self : (n : ℕ) → n ≡ tick_limit → (n == tick_limit) ≡ true
          self n g = ap (λ z. z == tick_limit) g

          fast : (a : Option Attr) → find (has_key Deadline) o.attrs ≡ a → is_slow o ≡ false
              → unwrap_or (option_map (λ z. z.value) a) 0 ≡ tick_limit → ⊥
          fast None g n q = (let z : (0 == tick_limit) ≡ true = ap (λ n. n == tick_limit) q in let w : false ≡ true = z in cc)
          fast (Some a) g n q =
              let i = found-in (has_key Deadline) o.attrs a g in
              let slow : is_slow o ≡ true =
              any-in (λ z. has_key Deadline z && z.value == tick_limit) a o.attrs i.0
              (and_from (has_key Deadline a) (a.value == tick_limit) i.1 (self a.value q)) in
              let z : true ≡ false = sym slow ∙ n in cc

  -- where a thread of the hard part comes from
  pub thread-source : (t : Thread) → IsIn t (threads y) → (o : Object) × IsIn o (terminal_objects x) × (made_of o ≡ Some t)
  thread-source t h =
      let P : List Thread → Type 0 = λ zs. IsIn t zs in in-made made_of (terminal_objects x) t (subst P (threads-hard x) h)

  abbrev is_slow_thread : Thread → Bool
  is_slow_thread t = t.deadline == tick_limit

  -- as many slow threads as clients
  counting : (os : List Object) → ((o : Object) → IsIn o os → IsIn o (terminal_objects x))
      → length (filter is_slow_thread (filter_map made_of os)) ≡ length (filter is_client os)
  counting [] h = refl
  counting (o ∷ os) h = by (is_client o) refl (counting os (λ z k. h z (inr k)))
    where
      slow : (t : Thread) → t.deadline ≡ tick_limit → is_slow_thread t ≡ true
      slow t e = ap (λ n. n == tick_limit) e

      fast : (t : Thread) → (t.deadline ≡ tick_limit → ⊥) → is_slow_thread t ≡ false
      fast t e = cases (is_slow_thread t) refl
        where
          is : (n : ℕ) → (n == tick_limit) ≡ true → n ≡ tick_limit
          is n g = grind arith

          cases : (b : Bool) → is_slow_thread t ≡ b → is_slow_thread t ≡ false
          cases true g = absurd (e (is t.deadline g))
          cases false g = g

      by : (b : Bool) → is_client o ≡ b → length (filter is_slow_thread (filter_map made_of os)) ≡ length (filter is_client os)
          → length (filter is_slow_thread (cons_option (made_of o) (filter_map made_of os)))
          ≡ length (if b then o ∷ filter is_client os else filter is_client os)
      by true e rest =
          let c : OfClient y o = client-thread y o e in
          ap (λ z. length (filter is_slow_thread (cons_option z (filter_map made_of os)))) c.made
          ∙ ap (λ b. length (if b then c.thread ∷ filter is_slow_thread (filter_map made_of os) else filter is_slow_thread (filter_map made_of os)))
          (slow c.thread c.deadline) ∙ ap suc rest
      by false e rest = other (made_of o) refl
        where
          other : (m : Option Thread) → made_of o ≡ m
              → length (filter is_slow_thread (cons_option m (filter_map made_of os))) ≡ length (filter is_client os)
          other None g = rest
          other (Some t) g =
              let f = other-thread o t (h o (inl refl)) e g in
              ap (λ b. length (if b then t ∷ filter is_slow_thread (filter_map made_of os) else filter is_slow_thread (filter_map made_of os)))
              (fast t f.1) ∙ rest

  pub slow-are-clients : length (filter (λ t. t.deadline == tick_limit) (threads y)) ≡ length (clients x)
  slow-are-clients = ap (λ ts. length (filter is_slow_thread ts)) (threads-hard x) ∙ counting (terminal_objects x) (λ o h. h)
