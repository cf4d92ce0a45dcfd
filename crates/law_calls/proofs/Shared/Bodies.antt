-- What calls lead to by the bodies of operations: without rings no deeper than there are operations, so that what is worked out
-- through so many bodies holds for every call.
use Rattle.std.specs.Prelude.{◌≡◌, ◌<◌, ◌&&◌, ℕ, suc, Bool, true, false, List, [], ◌∷◌, map, flat_map, filter, length, Option, Some, None}
use Rattle.std.specs.Prelude.{if◌then◌else◌, refl}
use Rattle.std.specs.List.{list_any}
use Rattle.std.proofs.Common.{sym, ◌∙◌, ap, subst}
use Rattle.std.proofs.lemmas.List.{length-map}
use Rattle.std.proofs.lemmas.Bool.{and_parts}
use Rattle.std.proofs.lemmas.Option.{none-some, same_Some}
use Rattle.seq_tree.specs.Names.{Name}
use Rattle.seq_tree.specs.Calls.{same_op, block_calls}
use Rattle.seq_tree.specs.Dearest.{free, is_call_of, starts_through}
use Rattle.seq_tree.specs.Rings.{LeadsTo}
use Rattle.seq_tree.specs.declared.tree.Costs.{Costs}
use Rattle.seq_tree.specs.declared.tree.OpName.{OpName}
use Rattle.ods_tree.specs.Services.{Service, Sort, service_named}
use Rattle.ods_tree.specs.Services as sort
use Rattle.analysis.specs.Execution.{body_cost_by, service_cost, cost_within, called_cost}
use Rattle.analysis.specs.Sections.{Section, live_calls, section, sections_by, service_sections, sections_within}
use Rattle.analysis.specs.Starts.{calls_by, service_calls, calls_within, starts_by, service_starts, starts_within, block_starts}
use Rattle.analysis.specs.Sound.{name_of, Calls}
use Rattle.law_calls.specs.CallLaws.{HaveNoRing}
use Rattle.law_lists.proofs.Shared.Lists.{IsIn, in-map, in-flat, in-some, in-filter, filter-in, any-in, any-at, at-in, flat-same}
use Rattle.law_lists.proofs.Shared.Depths.{Step, IsDeep, way-short, deep-all, settles}
use Rattle.law_calls.proofs.Shared.Live.{live-in}
use Rattle.law_calls.proofs.Shared.Services.{named-is}
use Rattle.law_lists.proofs.Shared.Weights.{block-same}
use Rattle.seq_tree.proofs.Shared.Walks.{same_op-eq, same_op-refl}

module _ (ss : List Service) where
  abbrev is_there : OpName → Bool
  is_there c = list_any (same_op c) (map name_of ss)

  -- the calls of the bodies of a name, where there is one
  abbrev calls_of : OpName → List OpName
  calls_of c = flat_map (λ s. block_calls s.op.block) (filter (λ s. same_op (name_of s) c) ss)

  abbrev pub next_by : Bool → OpName → Option (List OpName)
  next_by true c = Some (calls_of c)
  next_by false c = None

  abbrev pub next : OpName → Option (List OpName)
  next c = next_by (is_there c) c

  there : (c : OpName) (s : Service) → IsIn s ss → name_of s ≡ c → is_there c ≡ true
  there c s h is = any-in (same_op c) (name_of s) (map name_of ss) (in-map name_of s ss h) (ap (same_op c) is ∙ same_op-refl c)

  leads-on : (c : OpName) (cs : List OpName) → next c ≡ Some cs → is_there c ≡ true
  leads-on c cs e = by (is_there c) e
    where
      by : (b : Bool) → next_by b c ≡ Some cs → b ≡ true
      by true h = refl
      by false h = absurd (none-some cs h)

  -- steps by what is called are the calls
  pub service-step : (c d : OpName) (s : Service) → IsIn s ss → name_of s ≡ c → IsIn d (block_calls s.op.block) → Step next c d
  service-step c d s h is called = (
    calls_of c,
    ap (λ b. next_by b c) (there c s h is),
    in-flat (λ (x : Service). block_calls x.op.block) s d (filter (λ x. same_op (name_of x) c) ss)
        (filter-in (λ (x : Service). same_op (name_of x) c) s ss h (ap (λ x. same_op x c) is ∙ same_op-refl c)) called,
  )

  calls-step : (c d : OpName) → Calls ss c d → Step next c d
  calls-step c d calls =
      let found = any-at (λ (s : Service). same_op (name_of s) c && list_any (same_op d) (block_calls s.op.block)) ss calls in
      let both = and_parts (same_op (name_of found.1) c) (list_any (same_op d) (block_calls found.1.op.block)) found.3 in
      let call = any-at (same_op d) (block_calls found.1.op.block) both.1 in
      service-step c d found.1 (at-in ss found.0 found.1 found.2) (same_op-eq (name_of found.1) c both.0)
      (subst (λ x. IsIn x (block_calls found.1.op.block)) (sym (same_op-eq d call.1 call.3))
      (at-in (block_calls found.1.op.block) call.0 call.1 call.2))

  pub service-calls : (c d : OpName) (s : Service) → IsIn s ss → name_of s ≡ c → IsIn d (block_calls s.op.block) → Calls ss c d
  service-calls c d s h is called =
      any-in (λ (x : Service). same_op (name_of x) c && list_any (same_op d) (block_calls x.op.block)) s ss h
      (ap (λ b. b && list_any (same_op d) (block_calls s.op.block)) (ap (λ x. same_op x c) is ∙ same_op-refl c) ∙ any-in (same_op d) d
      (block_calls s.op.block) called (same_op-refl d))

  step-calls : (c d : OpName) → Step next c d → Calls ss c d
  step-calls c d step =
      let called : IsIn d (calls_of c) = subst (IsIn d) (sym (is (is_there c) step.1)) step.2 in
      let found = in-some (λ (s : Service). block_calls s.op.block) (filter (λ s. same_op (name_of s) c) ss) d called in
      let one = in-filter (λ (s : Service). same_op (name_of s) c) found.0 ss found.1 in
      service-calls c d found.0 one.0 (same_op-eq (name_of found.0) c one.1) found.2
    where
      is : (b : Bool) → next_by b c ≡ Some step.0 → calls_of c ≡ step.0
      is true h = same_Some (calls_of c) step.0 h
      is false h = absurd (none-some step.0 h)

  way-calls : (path : List OpName) (from to : OpName) → LeadsTo (Step next) from path to → LeadsTo (Calls ss) from path to
  way-calls [] from to way = step-calls from to way
  way-calls (via ∷ path) from to way = (step-calls from via way.0, way-calls path via to way.1)

  calls-way : (path : List OpName) (from to : OpName) → LeadsTo (Calls ss) from path to → LeadsTo (Step next) from path to
  calls-way [] from to way = calls-step from to way
  calls-way (via ∷ path) from to way = (calls-step from via way.0, calls-way path via to way.1)

  module _ (no_ring : HaveNoRing ss) where
    pub deep : (c : OpName) → IsDeep next (length ss) c
    deep c = subst (λ n. IsDeep next n c) (length-map ss name_of)
        (deep-all next same_op same_op-eq same_op-refl (map name_of ss) leads-on (λ d ring. no_ring d (ring.0, way-calls ring.0 d d ring.1)) c)

    -- no way of calls is longer than there are operations
    pub calls-end : (from : OpName) (path : List OpName) (to : OpName) → LeadsTo (Calls ss) from path to → length path < length ss
    calls-end from path to way = way-short next (length ss) path from to (deep from) (calls-way path from to way)

    -- what is worked out of the operation of a call, from the calls of its body
    module _ {X : Type 0} (of : (OpName → X) → OpName → Option Service → X) (within : ℕ → OpName → X)
        (steps : (n : ℕ) (c : OpName) → within (suc n) c ≡ of (within n) c (service_named ss c.object c.op))
        (none : (f : OpName → X) (c : OpName) → of f c None ≡ within 0 c)
        (some : (f g : OpName → X) (c : OpName) (s : Service) → ((d : OpName) → IsIn d (block_calls s.op.block) → f d ≡ g d)
        → of f c (Some s) ≡ of g c (Some s)) where
      local : (f g : OpName → X) (c : OpName) → ((d : OpName) → Step next c d → f d ≡ g d)
          → of f c (service_named ss c.object c.op) ≡ of g c (service_named ss c.object c.op)
      local f g c same = by (service_named ss c.object c.op) refl
        where
          by : (o : Option Service) → service_named ss c.object c.op ≡ o → of f c o ≡ of g c o
          by None is = none f c ∙ sym (none g c)
          by (Some s) is = let found = named-is ss c s is in some f g c s (λ d called. same d (service-step c d s found.0 found.1 called))

      last : (f : OpName → X) (c : OpName) → next c ≡ None → of f c (service_named ss c.object c.op) ≡ within 0 c
      last f c e = by (service_named ss c.object c.op) refl
        where
          by : (o : Option Service) → service_named ss c.object c.op ≡ o → of f c o ≡ within 0 c
          by None is = none f c
          by (Some s) is =
              let found = named-is ss c s is in
              absurd (none-some (calls_of c) (sym e ∙ ap (λ b. next_by b c) (there c s found.0 found.1)))

      pub covers : (c : OpName) → within (length ss) c ≡ of (within (length ss)) c (service_named ss c.object c.op)
      covers c = settles next (λ f d. of f d (service_named ss d.object d.op)) within steps local last (length ss) c (deep c)

    -- costs
    pub costs-cover : (costs : Costs) (object op : Name) → called_cost costs ss object op
        ≡ service_cost costs (called_cost costs ss) (service_named ss object op)
    costs-cover costs object op =
        covers (λ f c o. service_cost costs (λ object' op'. f (record { object = object'; op = op' })) o)
        (λ n c. cost_within n costs ss c.object c.op)
        (λ n c. refl) (λ f c. refl) (λ f g c s same. by f g s s.sort same) (record { object = object; op = op })
      where
        by : (f g : OpName → ℕ) (s : Service) (x : Sort) → ((d : OpName) → IsIn d (block_calls s.op.block) → f d ≡ g d)
            → body_cost_by costs (λ object' op'. f (record { object = object'; op = op' })) x s.op
            ≡ body_cost_by costs (λ object' op'. g (record { object = object'; op = op' })) x s.op
        by f g s sort.Plain same = block-same costs (λ ticks. ticks) _ _ s.op.block same
        by f g s sort.Protected same = block-same costs (λ ticks. ticks) _ _ s.op.block same
        by f g s sort.Request same = refl

    -- what calls lead to
    pub calls-cover : (c : OpName) → calls_within (length ss) ss c ≡ c ∷ service_calls (calls_within (length ss) ss) (service_named ss c.object c.op)
    calls-cover c = covers (λ f d o. d ∷ service_calls f o) (λ n d. calls_within n ss d) (λ n d. refl) (λ f d. refl)
        (λ f g d s same. ap (λ cs. d ∷ cs) (by f g s s.sort same)) c
      where
        by : (f g : OpName → List OpName) (s : Service) (x : Sort) → ((d : OpName) → IsIn d (block_calls s.op.block) → f d ≡ g d)
            → calls_by f x s.op ≡ calls_by g x s.op
        by f g s sort.Plain same = refl
        by f g s sort.Protected same = flat-same f g (block_calls s.op.block) same
        by f g s sort.Request same = refl

    -- requests
    pub starts-cover : (target : OpName) (object op : Name) → starts_within (length ss) ss target object op
        ≡ service_starts (block_starts ss target) (service_named ss object op)
    starts-cover target object op =
        covers (λ f c o. service_starts (starts_through target (λ object' op'. f (record { object = object'; op = op' }))) o)
        (λ n c. starts_within n ss target c.object c.op)
        (λ n c. refl) (λ f c. refl) (λ f g c s same. by f g s s.sort same) (record { object = object; op = op })
      where
        by : (f g : OpName → ℕ) (s : Service) (x : Sort) → ((d : OpName) → IsIn d (block_calls s.op.block) → f d ≡ g d)
            → starts_by (starts_through target (λ object' op'. f (record { object = object'; op = op' }))) x s.op
            ≡ starts_by (starts_through target (λ object' op'. g (record { object = object'; op = op' }))) x s.op
        by f g s sort.Plain same = refl
        by f g s sort.Protected same = block-same free (λ ticks. 0) _ _ s.op.block (λ d h. ap (λ m. let k : ℕ
            = if is_call_of target d.object d.op then 1 else m in k) (same d h))
        by f g s sort.Request same = refl

    -- sections
    pub sections-cover : (costs : Costs) (c : OpName) → sections_within (length ss) costs ss c
        ≡ service_sections (section costs ss c) (sections_within (length ss) costs ss) (service_named ss c.object c.op)
    sections-cover costs c =
        covers (λ f d o. service_sections (section costs ss d) f o) (λ n d. sections_within n costs ss d) (λ n d. refl) (λ f d. refl) (λ f g d s same.
        by f g d s s.sort same) c
      where
        by : (f g : OpName → List Section) (d : OpName) (s : Service) (x : Sort) → ((e : OpName) → IsIn e (block_calls s.op.block) → f e ≡ g e)
            → sections_by (section costs ss d) f x s.op ≡ sections_by (section costs ss d) g x s.op
        by f g d s sort.Plain same = refl
        by f g d s sort.Protected same
            = ap (λ ts. section costs ss d ∷ ts) (flat-same f g (live_calls s.op.block) (λ e h. same e (live-in s.op.block e h)))
        by f g d s sort.Request same = refl
