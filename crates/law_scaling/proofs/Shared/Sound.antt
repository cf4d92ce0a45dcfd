-- A design stays sound with other `work` as long as no body or thread is too dear.
use Rattle.std.proofs.Common.{◌≡◌, ◌≤◌, ℕ, zero, suc, ◌==◌, Bool, true, false, ◌&&◌, List, [], ◌∷◌, ◌++◌, map, flat_map, length, refl, ap, ◌∙◌}
use Rattle.std.proofs.Common.{sym, subst, arith, le_refl, Option, Some, None}
use Rattle.std.specs.Prelude.{nat_le, cond, option_map}
use Rattle.std.specs.List.{list_all, list_any}
use Rattle.std.proofs.lemmas.List.{length-map}
use Rattle.std.proofs.lemmas.List.Folds.{list_all-append}
use Rattle.seq_tree.specs.Names.{Name, same_name, are_distinct}
use Rattle.seq_tree.specs.Statements.{Statements}
use Rattle.seq_tree.specs.Operations.{Signature, Operation}
use Rattle.seq_tree.specs.Calls.{block_calls, same_op}
use Rattle.seq_tree.specs.Dearest.{is_call_of, starts_through, free}
use Rattle.seq_tree.specs.Rings.{LeadsTo}
use Rattle.seq_tree.specs.declared.tree.OpName.{OpName}
use Rattle.ods_tree.specs.Flats.{Library, Guarded, Timing, Cyclic, Sporadic, Thread, Flat, period_of}
use Rattle.ods_tree.specs.Services.{Sort, Plain, Protected, Request, Service, service_named, flat_services}
use Rattle.ods_tree.specs.Sound.{IsWellFormed, entry_names, entry_ops, blocks, Counted, counted_calls, matches, is_answered, is_plain_service}
use Rattle.ods_tree.specs.Sound.{calls_plain}
use Rattle.ods_tree.specs.Sound.{is_in_range}
use Rattle.analysis.specs.Starts.{starters, can_request, starts_by, service_starts, starts_within, start_count}
use Rattle.analysis.specs.Sound.{IsSound, IsSpaced, name_of, Calls, CallsObject, is_started_by, is_started, is_spaced}
use Rattle.law_scaling.specs.Working.{reworked_block, reworked_op, reworked_library, reworked_guarded, reworked_thread, reworked}
use Rattle.law_scaling.specs.Parts.{first_dear}
use Rattle.law_scaling.proofs.Shared.Blocks.{block-calls, block-counted, block-weighs, block-grows}
use Rattle.law_scaling.proofs.Services.{reworked_service, services-same, named-same}
use Rattle.law_scaling.proofs.Shared.Ranks.{map-map, any-map}
use Rattle.law_scaling.proofs.Tables.{request-same}
use Rattle.law_scaling.proofs.Shared.Cheap.{costs-cheap}

pub all-map : {A : Type 0} (p q : A → Bool) (g : A → A) (xs : List A) → ((x : A) → p (g x) ≡ q x) → list_all p (map g xs) ≡ list_all q xs
all-map p q g [] same = refl
all-map p q g (x ∷ xs) same = ap (λ b. b && list_all p (map g xs)) (same x) ∙ ap (λ b. q x && b) (all-map p q g xs same)

all-same : {A : Type 0} (p q : A → Bool) (xs : List A) → ((x : A) → p x ≡ q x) → list_all p xs ≡ list_all q xs
all-same p q [] same = refl
all-same p q (x ∷ xs) same = ap (λ b. b && list_all p xs) (same x) ∙ ap (λ b. q x && b) (all-same p q xs same)

-- tests that operations pass with other `work` exactly where they did
module _ (w : Name → ℕ → ℕ) (p q : List Operation → Bool) (same : (c : ℕ → ℕ) (os : List Operation) → p (map (reworked_op c) os) ≡ q os) where
  library-ops : (ls : List Library) → list_all p (map (λ l. l.ops) (map (reworked_library w) ls)) ≡ list_all q (map (λ l. l.ops) ls)
  library-ops [] = refl
  library-ops (l ∷ ls) = ap (λ b. b && list_all p (map (λ l. l.ops) (map (reworked_library w) ls))) (same (w l.name) l.ops)
      ∙ ap (λ b. q l.ops && b) (library-ops ls)

  guarded-ops : (gs : List Guarded) → list_all p (map (λ g. g.ops) (map (reworked_guarded w) gs)) ≡ list_all q (map (λ g. g.ops) gs)
  guarded-ops [] = refl
  guarded-ops (g ∷ gs) = ap (λ b. b && list_all p (map (λ l. l.ops) (map (reworked_guarded w) gs))) (same (w g.name) g.ops)
      ∙ ap (λ b. q g.ops && b) (guarded-ops gs)

  entries-pass : (f : Flat) → list_all p (entry_ops (reworked w f)) ≡ list_all q (entry_ops f)
  entries-pass f =
      list_all-append p (map (λ l. l.ops) (map (reworked_library w) f.passive)) (map (λ g. g.ops) (map (reworked_guarded w) f.shared))
      ∙ ap (λ b. b && list_all p (map (λ g. g.ops) (map (reworked_guarded w) f.shared))) (library-ops f.passive)
      ∙ ap (λ b. list_all q (map (λ l. l.ops) f.passive) && b) (guarded-ops f.shared)
      ∙ sym (list_all-append q (map (λ l. l.ops) f.passive) (map (λ g. g.ops) f.shared))

-- tests that blocks pass
module _ (w : Name → ℕ → ℕ) (p q : Statements → Bool) (same : (c : ℕ → ℕ) (b : Statements) → p (reworked_block c b) ≡ q b) where
  op-blocks : (c : ℕ → ℕ) (os : List Operation) → list_all p (map (λ o. o.block) (map (reworked_op c) os)) ≡ list_all q (map (λ o. o.block) os)
  op-blocks c [] = refl
  op-blocks c (o ∷ os) = ap (λ b. b && list_all p (map (λ o. o.block) (map (reworked_op c) os))) (same c o.block) ∙ ap (λ b. q o.block && b) (op-blocks c os)

  flat-blocks : (t : Statements → Bool) (xs : List (List Operation))
      → list_all t (flat_map (λ ops. map (λ o. o.block) ops) xs) ≡ list_all (λ ops. list_all t (map (λ o. o.block) ops)) xs
  flat-blocks t [] = refl
  flat-blocks t (x ∷ xs) =
      list_all-append t (map (λ o. o.block) x) (flat_map (λ ops. map (λ o. o.block) ops) xs)
      ∙ ap (λ b. list_all t (map (λ o. o.block) x) && b) (flat-blocks t xs)

  thread-blocks : (ts : List Thread) → list_all p (map (λ t. t.block) (map (reworked_thread w) ts)) ≡ list_all q (map (λ t. t.block) ts)
  thread-blocks [] = refl
  thread-blocks (t ∷ ts) = ap (λ b. b && list_all p (map (λ t. t.block) (map (reworked_thread w) ts))) (same (w t.name) t.block)
      ∙ ap (λ b. q t.block && b) (thread-blocks ts)

  blocks-pass : (f : Flat) → list_all p (blocks (reworked w f)) ≡ list_all q (blocks f)
  blocks-pass f =
      list_all-append p (flat_map (λ ops. map (λ o. o.block) ops) (entry_ops (reworked w f))) (map (λ t. t.block) (map (reworked_thread w) f.threads))
      ∙ ap (λ b. b && list_all p (map (λ t. t.block) (map (reworked_thread w) f.threads)))
      (flat-blocks p (entry_ops (reworked w f))
      ∙ entries-pass w (λ ops. list_all p (map (λ o. o.block) ops)) (λ ops. list_all q (map (λ o. o.block) ops)) op-blocks f
      ∙ sym (flat-blocks q (entry_ops f)))
      ∙ ap (λ b. list_all q (flat_map (λ ops. map (λ o. o.block) ops) (entry_ops f)) && b) (thread-blocks f.threads)
      ∙ sym (list_all-append q (flat_map (λ ops. map (λ o. o.block) ops) (entry_ops f)) (map (λ t. t.block) f.threads))

leads-same : {A : Type 0} (P Q : A → A → Type 0) → ((a b : A) → P a b → Q a b) → (path : List A) (a b : A) → LeadsTo P a path b → LeadsTo Q a path b
leads-same P Q each [] a b h = each a b h
leads-same P Q each (via ∷ path) a b h = (each a via h.0, leads-same P Q each path via b h.1)

module _ (w : Name → ℕ → ℕ) (f : Flat) where
  abbrev ss : List Service
  ss = flat_services f

  abbrev new : List Service
  new = flat_services (reworked w f)

  -- names and calls
  names-same : entry_names (reworked w f) ≡ entry_names f
  names-same =
      ap (λ ns. ns ++ (map (λ g. g.name) (map (reworked_guarded w) f.shared) ++ map (λ t. t.name) (map (reworked_thread w) f.threads)))
      (map-map (λ l. l.name) (reworked_library w) (λ l. l.name) f.passive (λ l. refl))
      ∙ ap (λ ns. map (λ l. l.name) f.passive ++ (ns ++ map (λ t. t.name) (map (reworked_thread w) f.threads)))
      (map-map (λ g. g.name) (reworked_guarded w) (λ g. g.name) f.shared (λ g. refl))
      ∙ ap (λ ns. map (λ l. l.name) f.passive ++ (map (λ g. g.name) f.shared ++ ns))
      (map-map (λ t. t.name) (reworked_thread w) (λ t. t.name) f.threads (λ t. refl))

  op_names-same : (c : ℕ → ℕ) (os : List Operation) → are_distinct (map (λ o. o.sig.name) (map (reworked_op c) os)) ≡ are_distinct (map (λ o. o.sig.name) os)
  op_names-same c os = ap are_distinct (map-map (λ o. o.sig.name) (reworked_op c) (λ o. o.sig.name) os (λ o. refl))

  named : (object op : Name) → service_named new object op ≡ option_map (reworked_service w) (service_named ss object op)
  named object op = ap (λ xs. service_named xs object op) (services-same w f) ∙ named-same w ss object op

  answered-same : (c : Counted) → is_answered new c ≡ is_answered ss c
  answered-same c = ap (λ o. matches o c.count) (named c.object c.op) ∙ by (service_named ss c.object c.op)
    where
      by : (o : Option Service) → matches (option_map (reworked_service w) o) c.count ≡ matches o c.count
      by None = refl
      by (Some s) = refl

  calls-same : (c : ℕ → ℕ) (b : Statements) → list_all (is_answered new) (counted_calls (reworked_block c b)) ≡ list_all (is_answered ss) (counted_calls b)
  calls-same c b = ap (list_all (is_answered new)) (block-counted c b) ∙ all-same (is_answered new) (is_answered ss) (counted_calls b) answered-same

  plain-same : (object op : Name) → is_plain_service (service_named new object op) ≡ is_plain_service (service_named ss object op)
  plain-same object op = ap is_plain_service (named object op) ∙ by (service_named ss object op)
    where
      by : (o : Option Service) → is_plain_service (option_map (reworked_service w) o) ≡ is_plain_service o
      by None = refl
      by (Some s) = refl

  block-plain : (c : ℕ → ℕ) (b : Statements) → calls_plain new (reworked_block c b) ≡ calls_plain ss b
  block-plain c b =
      ap (list_all (λ x. is_plain_service (service_named new x.object x.op))) (block-calls c b)
      ∙ all-same (λ x. is_plain_service (service_named new x.object x.op)) (λ x. is_plain_service (service_named ss x.object x.op)) (block_calls b)
      (λ x. plain-same x.object x.op)

  libraries-plain : list_all (λ l. list_all (λ o. calls_plain new o.block) l.ops) (map (reworked_library w) f.passive)
      ≡ list_all (λ l. list_all (λ o. calls_plain ss o.block) l.ops) f.passive
  libraries-plain =
      all-map (λ l. list_all (λ o. calls_plain new o.block) l.ops) (λ l. list_all (λ o. calls_plain ss o.block) l.ops) (reworked_library w) f.passive
      (λ l. all-map (λ o. calls_plain new o.block) (λ o. calls_plain ss o.block) (reworked_op (w l.name)) l.ops (λ o. block-plain (w l.name) o.block))

  formed : IsWellFormed f → IsWellFormed (reworked w f)
  formed h = record {
    names = ap are_distinct names-same ∙ h.names;
    op_names =
        entries-pass w (λ ops. are_distinct (map (λ o. o.sig.name) ops)) (λ ops. are_distinct (map (λ o. o.sig.name) ops)) op_names-same f ∙ h.op_names;
    thread_count = omega (arith, length-map f.threads (reworked_thread w), h.thread_count);
    entry_count = omega (arith, ap length names-same, h.entry_count);
    costs = h.costs;
    ranges = all-map is_in_range is_in_range (reworked_thread w) f.threads (λ t. refl) ∙ h.ranges;
    calls =
        blocks-pass w (λ b. list_all (is_answered new) (counted_calls b)) (λ b. list_all (is_answered ss) (counted_calls b)) calls-same f ∙ h.calls;
    plain = libraries-plain ∙ h.plain;
  }

  -- rings
  ops-called : (from to : OpName) → Calls new from to → Calls ss from to
  ops-called from to h =
      sym (ap (list_any (λ s. same_op (name_of s) from && list_any (same_op to) (block_calls s.op.block))) (services-same w f)
      ∙ any-map (λ s. same_op (name_of s) from && list_any (same_op to) (block_calls s.op.block))
      (λ s. same_op (name_of s) from && list_any (same_op to) (block_calls s.op.block)) (reworked_service w) ss
      (λ s. ap (λ cs. same_op (name_of s) from && list_any (same_op to) cs) (block-calls (w s.object) s.op.block)))
      ∙ h

  objects-called : (from to : Name) → CallsObject new from to → CallsObject ss from to
  objects-called from to h =
      sym (ap (list_any (λ s. same_name s.object from && list_any (λ c. same_name c.object to) (block_calls s.op.block))) (services-same w f)
      ∙ any-map (λ s. same_name s.object from && list_any (λ c. same_name c.object to) (block_calls s.op.block))
      (λ s. same_name s.object from && list_any (λ c. same_name c.object to) (block_calls s.op.block)) (reworked_service w) ss
      (λ s. ap (λ cs. same_name s.object from && list_any (λ c. same_name c.object to) cs) (block-calls (w s.object) s.op.block)))
      ∙ h

  -- requests
  starters-same : (name : Name) (ts : List Thread) → starters new name (map (reworked_thread w) ts) ≡ map (reworked_thread w) (starters ss name ts)
  starters-same name [] = refl
  starters-same name (t ∷ ts) =
      rw (request-same w f name (w t.name) t.block) (by (can_request ss name t.block) (starters-same name ts))
    where
      by : (b : Bool) → starters new name (map (reworked_thread w) ts) ≡ map (reworked_thread w) (starters ss name ts)
          → cond b (reworked_thread w t ∷ starters new name (map (reworked_thread w) ts)) (starters new name (map (reworked_thread w) ts))
          ≡ map (reworked_thread w) (cond b (t ∷ starters ss name ts) (starters ss name ts))
      by true rest = ap (λ z. reworked_thread w t ∷ z) rest
      by false rest = rest

  through-same : (target : OpName) (c : ℕ → ℕ) (called other : Name → Name → ℕ) (b : Statements) → ((o p : Name) → called o p ≡ other o p)
      → starts_through target called (reworked_block c b) ≡ starts_through target other b
  through-same target c called other b same =
      let one : (Name → Name → ℕ) → Name → Name → ℕ = λ g o p. cond (is_call_of target o p) 1 (g o p) in
      let by : (t : Bool) (m n : ℕ) → m ≡ n → cond t 1 m ≤ cond t 1 n = λ t m n e. subst (λ x. cond t 1 m ≤ cond t 1 x) e (le_refl (cond t 1 m)) in
      let weighs = block-weighs c free (λ ticks. 0) (one called) b in
      let up = block-grows free (λ ticks. 0) (λ ticks. 0) (one called) (one other) (λ n. le_refl 0)
      (λ o p. by (is_call_of target o p) (called o p) (other o p) (same o p)) b in
      let down = block-grows free (λ ticks. 0) (λ ticks. 0) (one other) (one called) (λ n. le_refl 0)
      (λ o p. by (is_call_of target o p) (other o p) (called o p) (sym (same o p))) b in
      omega (arith, weighs, up, down)

  within-starts : (target : OpName) (d : ℕ) (object op : Name) → starts_within d new target object op ≡ starts_within d ss target object op
  within-starts target zero object op = refl
  within-starts target (suc d) object op =
      ap (service_starts (starts_through target (starts_within d new target))) (named object op)
      ∙ by (within-starts target d) (service_named ss object op)
    where
      Same : Type 0
      Same = (o p : Name) → starts_within d new target o p ≡ starts_within d ss target o p

      sorted : Same → (x : Sort) (owner : Name) (o : Operation) → starts_by (starts_through target (starts_within d new target)) x (reworked_op (w owner) o)
          ≡ starts_by (starts_through target (starts_within d ss target)) x o
      sorted h Plain owner o = refl
      sorted h Protected owner o = through-same target (w owner) (starts_within d new target) (starts_within d ss target) o.block h
      sorted h Request owner o = refl

      by : Same → (o : Option Service) → service_starts (starts_through target (starts_within d new target)) (option_map (reworked_service w) o)
          ≡ service_starts (starts_through target (starts_within d ss target)) o
      by h None = refl
      by h (Some s) = sorted h s.sort s.object s.op

  starts-long : length new ≡ length ss
  starts-long = ap length (services-same w f) ∙ length-map ss (reworked_service w)

  count-same : (name : Name) (op : Signature) (t : Thread) → start_count new name op (reworked_thread w t) ≡ start_count ss name op t
  count-same name op t =
      let target : OpName = record { object = name; op = op.name } in
      ap (λ n. starts_through target (starts_within n new target) (reworked_block (w t.name) t.block)) starts-long
      ∙ through-same target (w t.name) (starts_within (length ss) new target) (starts_within (length ss) ss target) t.block
      (within-starts target (length ss))

  started-same : (name : Name) (timing : Timing) → is_started (reworked w f) name timing ≡ is_started f name timing
  started-same name (Cyclic period offset) = refl
  started-same name (Sporadic op separation jitter) =
      ap (is_started_by new jitter name op) (starters-same name f.threads) ∙ by jitter (starters ss name f.threads)
    where
      by : (j : Option ℕ) (ts : List Thread) → is_started_by new j name op (map (reworked_thread w) ts) ≡ is_started_by ss j name op ts
      by None ts =
          ap (λ n. n == 1 && list_all (λ t. nat_le (start_count new name op t) 1) (map (reworked_thread w) ts)) (length-map ts (reworked_thread w))
          ∙ ap (λ b. length ts == 1 && b)
          (all-map (λ t. nat_le (start_count new name op t) 1) (λ t. nat_le (start_count ss name op t) 1) (reworked_thread w) ts
          (λ t. ap (λ n. nat_le n 1) (count-same name op t)))
      by (Some j) ts = ap (λ n. n == 0) (length-map ts (reworked_thread w))

  spaced-same : (name : Name) (timing : Timing) → is_spaced (reworked w f) name timing ≡ is_spaced f name timing
  spaced-same name (Cyclic period offset) = refl
  spaced-same name (Sporadic op separation jitter) =
      ap (list_all (λ t. nat_le separation (period_of t.timing))) (starters-same name f.threads)
      ∙ all-map (λ t. nat_le separation (period_of t.timing)) (λ t. nat_le separation (period_of t.timing)) (reworked_thread w)
      (starters ss name f.threads) (λ t. refl)

  -- a design is as spaced as it was
  pub spaced-still : IsSpaced f → IsSpaced (reworked w f)
  spaced-still h =
      all-map (λ t. is_spaced (reworked w f) t.name t.timing) (λ t. is_spaced f t.name t.timing) (reworked_thread w) f.threads
      (λ t. spaced-same t.name t.timing)
      ∙ h

  -- a cheap design is as sound as it was
  pub sound-still : IsSound f → first_dear (reworked w f) ≡ None → IsSound (reworked w f)
  sound-still h cheap =
      let costs = costs-cheap (reworked w f) cheap in
      record {
        formed = formed h.formed;
        no_ring = λ name (path, leads). h.no_ring name (path, leads-same (Calls new) (Calls ss) ops-called path name name leads);
        no_object_ring =
            λ name is (path, leads). h.no_object_ring name
            (sym (any-map (λ g. same_name g.name name) (λ g. same_name g.name name) (reworked_guarded w) f.shared (λ g. refl)) ∙ is)
            (path, leads-same (CallsObject new) (CallsObject ss) objects-called path name name leads);
        started =
            all-map (λ t. is_started (reworked w f) t.name t.timing) (λ t. is_started f t.name t.timing) (reworked_thread w) f.threads
            (λ t. started-same t.name t.timing)
            ∙ h.started;
        op_costs = costs.0;
        thread_costs = costs.1;
      }
