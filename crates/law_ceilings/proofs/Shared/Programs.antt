-- Every program that meets the rules, under every accepted arrivals, has what exclusion needs.
use Rattle.std.specs.Prelude.{◌≡◌, ℕ, Bool, true, false, ◌&&◌, ◌||◌, List, [], ◌∷◌, map, filter, flat_map, slice_get, Option, Some, None}
use Rattle.std.specs.Prelude.{option_map, unwrap_or, refl}
use Rattle.std.specs.List.{list_any}
use Rattle.std.proofs.Common.{sym, ◌∙◌, ap, subst, inr}
use Rattle.std.proofs.lemmas.Bool.{false≢true, or_right}
use Rattle.seq_tree.specs.Names.{Name, same_name}
use Rattle.seq_tree.specs.Operations.{Operation}
use Rattle.seq_tree.specs.Calls.{block_calls}
use Rattle.seq_tree.specs.Rings.{LeadsTo as RingLeads, IsOnRing}
use Rattle.seq_tree.specs.declared.tree.OpName.{OpName}
use Rattle.ada_tree.specs.Programs.{Unit, Program}
use Rattle.ada_tree.specs.Bodies.{Body, op_body, bodies, scope}
use Rattle.ada_tree.specs.Uses.{shared_ops, ops_of_shared, is_confined, is_shared, is_shared_name, called_units, CallsUnit, shared_named}
use Rattle.ada_tree.specs.Uses.{is_requested}
use Rattle.ada_tree.specs.Rules.{Rings, At, MeetsRules}
use Rattle.arrivals_tree.specs.declared.arrivals.Arrival.{Arrival}
use Rattle.arrivals_tree.specs.Arriving.{Arrivals}
use Rattle.arrivals_tree.specs.Acceptance.{IsAccepted}
use Rattle.machine.specs.Systems.{System, TaskUnit, ProtectedUnit, ReleasePattern, Periodic, Requested, CallTarget, Plain, Protected, Request}
use Rattle.machine.specs.Systems.{system, callee}
use Rattle.machine.specs.Systems as machine
use Rattle.machine.specs.States.{opening}
use Rattle.machine.specs.Meanings.{Meaning, run, start}
use Rattle.trace_tree.specs.declared.event.Event.{Event}
use Rattle.trace_tree.specs.Exclusion.{Exclusive}
use Rattle.law_lists.proofs.Shared.Facts.{same-is, or_second}
use Rattle.law_lists.proofs.Shared.Lists.{IsIn, at-in, in-map, in-flat, any-in, filter-in, each-to}
use Rattle.law_calls.proofs.Shared.Systems.{library-at, object-at, objects-differ, threads-differ, LeadsTo, leads-to, passive-call, is_free, free-is}
use Rattle.law_calls.proofs.Shared.UnitRules.{op-body-in, task-body, call-in, body-kept, call-passive, control-covers}
use Rattle.law_calls.proofs.Shared.Outside.{requested-elsewhere}
use Rattle.law_calls.proofs.Shared.Requests.{requested-on, written-requested}
use Rattle.law_ceilings.specs.Bodies.{BlockFits}
use Rattle.law_ceilings.specs.Premises.{IsElsewhere, IsCovered, MayExclude}
use Rattle.law_ceilings.specs.Laws.{IsFreeStep}
use Rattle.law_ceilings.specs.Holders.{AreSafe}
use Rattle.law_ceilings.proofs.Layers.{LeadsOn, IsPassiveCall, IsInnerCall, StaysInLayers, IsLayered, layered-excludes, layered-made}
use Rattle.law_ceilings.proofs.Texts.{block-fits}
use Rattle.law_ceilings.proofs.Shared.Excluding.{opening-excludes, run-excludes, step-enters-free}
use Rattle.law_ceilings.proofs.Taking.{step-takes-free}
use Rattle.law_ceilings.proofs.Holding.{run-safe}
use Rattle.law_ceilings.proofs.Shared.Turning.{rest-exclusive}
use Rattle.law_calls.proofs.Shared.Accepted.{IsFor, all-for}

module _ (p : Program) (rules : MeetsRules p) where
  -- a body makes calls that may be made, with exits inside loops
  module _ (k : ℕ) (u : Unit) (at : slice_get p.units k ≡ Some u) (b : Body) (among : IsIn b (bodies u.form)) where
    pub body-fits : (May : Name → Name → Type 0) → ((x : OpName) → IsIn x (block_calls b.block) → May x.object x.op) → BlockFits May false b.block
    body-fits May calls = block-fits May (scope p u.form b) b.block (body-kept p rules k u at b among) calls

  module _ (a : Arrivals) where
    abbrev y : System
    y = system p a

    -- calls that lead to nothing protected and to no task, and those that some task can make
    abbrev made : Name → Name → Bool
    made unit op = is_free (callee y unit op) || is_requested p (record { object = unit; op = op })

    abbrev name_at : ℕ → Name
    name_at x = unwrap_or (option_map (λ g. g.name) (slice_get y.objects x)) []

    -- whether an object calls another
    abbrev leads_by : Option ProtectedUnit → ℕ → Bool
    leads_by None z = false
    leads_by (Some g) z = list_any (same_name (name_at z)) (called_units p g.name)

    abbrev leads : ℕ → ℕ → Bool
    leads x z = leads_by (slice_get y.objects x) z

    leads-unit : (x z : ℕ) → leads x z ≡ true → (g : ProtectedUnit) × (slice_get y.objects x ≡ Some g) × CallsUnit p (name_at x) (name_at z)
    leads-unit x z e = by (slice_get y.objects x) refl e
      where
        by : (o : Option ProtectedUnit) → slice_get y.objects x ≡ o → leads_by o z ≡ true
            → (g : ProtectedUnit) × (slice_get y.objects x ≡ Some g) × CallsUnit p (name_at x) (name_at z)
        by None is h = absurd (false≢true h)
        by (Some g) is h = (
          g,
          is,
          subst (λ n. CallsUnit p n (name_at z)) (sym
              (ap (λ o. unwrap_or (option_map (λ (w : ProtectedUnit). w.name) o) []) is)) h,
        )

    units-way : (path : List ℕ) (x z : ℕ) → RingLeads (λ v w. leads v w ≡ true) x path z
        → RingLeads (CallsUnit p) (name_at x) (map name_at path) (name_at z)
    units-way [] x z way = (leads-unit x z way).2
    units-way (via ∷ path) x z way = ((leads-unit x via way.0).2, units-way path via z way.1)

    first-object : (path : List ℕ) (x z : ℕ) → RingLeads (λ v w. leads v w ≡ true) x path z → (g : ProtectedUnit) × (slice_get y.objects x ≡ Some g)
    first-object [] x z way = let found = leads-unit x z way in (found.0, found.1)
    first-object (via ∷ path) x z way = let found = leads-unit x via way.0 in (found.0, found.1)

    no-object-ring : (x : ℕ) → IsOnRing (λ v w. leads v w ≡ true) x → ⊥
    no-object-ring x ring =
        let g = first-object ring.0 x x ring.1 in
        let found = object-at p a x g.0 g.1 in
        let is = found.2 in
        let named : name_at x ≡ found.1.name = ap (λ o. unwrap_or (option_map (λ (w : ProtectedUnit). w.name) o) []) g.1 ∙ sym is.name in
        rules Rings (At found.0) (
          found.1,
          is.stands,
          inr (
            map name_at ring.0,
            subst (λ n. RingLeads (CallsUnit p) n
                (map name_at ring.0) n) named (units-way ring.0 x x ring.1),
          ),
        )

    -- an object that a body enters is one that the body's object calls
    on : (object : ℕ) (g : ProtectedUnit) → slice_get y.objects object ≡ Some g → (unit : Name) → g.name ≡ unit → (o : Operation)
        → IsIn o (ops_of_shared p unit)
        → (x : OpName) → IsIn x (block_calls o.block) → (k : CallTarget) → LeadsTo y x.object x.op k → LeadsOn leads object k
    on object g at unit named o among x called (Plain q) l = tt
    on object g at unit named o among x called (Protected other j h q) l =
        let found = object-at p a other h l.stands in
        let is = found.2 in
        let shared : is_shared_name p x.object ≡ true =
        any-in (λ (u : Unit). is_shared u.form && same_name u.name x.object) found.1 p.units (at-in p.units found.0 found.1 is.stands)
        (ap (λ f. is_shared f && same_name found.1.name x.object) is.form ∙ ap (λ n. same_name n x.object) is.name ∙ l.named) in
        let inner : IsIn x.object (called_units p unit) =
        filter-in (is_shared_name p) x.object
        (map (λ (z : OpName). z.object) (flat_map (λ (w : Operation). block_calls w.block) (ops_of_shared p unit)))
        (in-map (λ (z : OpName). z.object) x (flat_map (λ (w : Operation). block_calls w.block) (ops_of_shared p unit))
        (in-flat (λ (w : Operation). block_calls w.block) o x (ops_of_shared p unit) among called)) shared in
        let mine : name_at other ≡ h.name = ap (λ z. unwrap_or (option_map (λ (w : ProtectedUnit). w.name) z) []) l.stands in
        ap (λ z. leads_by z other) at
        ∙ any-in (same_name (name_at other)) x.object (called_units p g.name) (subst (λ n. IsIn x.object (called_units p n)) (sym named) inner)
        (ap (λ n. same_name n x.object) mine ∙ l.named)
    on object g at unit named o among x called (Request task) l = tt
    on object g at unit named o among x called machine.Unknown l = tt

    covered : (i : ℕ) (t : TaskUnit) → slice_get y.threads i ≡ Some t → IsCovered t.priority t.timing
    covered i t at = by t.timing refl
      where
        by : (x : ReleasePattern) → t.timing ≡ x → IsCovered t.priority x
        by (Periodic offset period) e = tt
        by (Requested op ceiling separation jitter external) e = control-covers p rules a i t at op ceiling separation jitter external e

    stays : (limit : ℕ) → IsAccepted limit p a → (unit op : Name) → made unit op ≡ true → StaysInLayers y a.items made leads (callee y unit op)
    stays limit accepted unit op is-made = by (callee y unit op) refl (leads-to y unit op)
      where
        c : OpName
        c = record { object = unit; op = op }

        asked : is_free (callee y unit op) ≡ false → is_requested p c ≡ true
        asked e = or_second (is_free (callee y unit op)) (is_requested p c) e is-made

        by : (x : CallTarget) → callee y unit op ≡ x → LeadsTo y unit op x → StaysInLayers y a.items made leads x
        by (Plain o) e l =
            let found = library-at p a l.place l.library l.stands in
            let is = found.2 in
            let within = op-body-in found.1.form l.library.ops l.at o (ap bodies is.form) l.holds in
            body-fits found.0 found.1 is.stands (op_body o) within (IsPassiveCall y made)
            (λ x h.
            let free = passive-call p a x (call-passive p rules found.0 found.1 is.stands (op_body o) within (ap is_confined is.form) x h) in
            (ap (λ t. t || is_requested p x) (free-is (callee y x.object x.op) free), free))
        by (Protected object j g o) e l =
            let found = object-at p a object g l.stands in
            let is = found.2 in
            let within = op-body-in found.1.form g.ops j o (ap bodies is.form) l.holds in
            let unit-named : same_name found.1.name unit ≡ true = ap (λ n. same_name n unit) is.name ∙ l.named in
            let among-ops : IsIn o (ops_of_shared p unit) =
            in-flat (λ (u : Unit). shared_ops u.form) found.1 o (filter (λ u. same_name u.name unit) p.units)
            (filter-in (λ (u : Unit). same_name u.name unit) found.1 p.units (at-in p.units found.0 found.1 is.stands) unit-named)
            (subst (λ f. IsIn o (shared_ops f)) (sym is.form) (at-in g.ops j o l.holds)) in
            let among : IsIn o (shared_named p c)
            = filter-in (λ (q : Operation). same_name q.sig.name op) o (ops_of_shared p unit) among-ops l.called in
            body-fits found.0 found.1 is.stands (op_body o) within (IsInnerCall y made leads object)
            (λ x h.
            let next = requested-on p c x (asked (ap is_free e)) (in-flat (λ (q : Operation). block_calls q.block) o x
            (shared_named p c) among h) in (
              or_right (is_free (callee y x.object x.op)) (is_requested p x) next,
              on object g l.stands unit (same-is g.name unit l.named) o among-ops x h (callee y x.object x.op) (leads-to y x.object x.op),
            ))
        by (Request task) e l = each-to (IsFor p) (IsElsewhere y task) a.items (requested-elsewhere p a rules unit op task l (asked (ap is_free e)))
            (all-for limit p a accepted)
        by machine.Unknown e l = tt

  -- a program that meets the rules, under accepted arrivals
  layers-of : (limit : ℕ) (a : Arrivals) → IsAccepted limit p a → IsLayered (system p a) a.items
  layers-of limit a accepted = record {
    made = made a;
    leads = leads a;
    no_ring = no-object-ring a;
    tasks = λ i t at.
        let body' = task-body p a i t at in
        subst (λ b. BlockFits (λ unit op. made a unit op ≡ true) false b) body'.5
        (body-fits body'.0 body'.1 body'.3 body'.2 body'.4 (λ unit op. made a unit op ≡ true)
        (λ x h. or_right (is_free (callee (system p a) x.object x.op)) (is_requested p x)
        ((written-requested p body'.1 (at-in p.units body'.0 body'.1 body'.3) body'.6 x
        (call-in p rules body'.0 body'.1 body'.3 body'.2 body'.4 x h)))));
    calls = stays a limit accepted;
    covered = covered a;
    objects = objects-differ p a;
    units = threads-differ p a;
  }

  pub may-exclude : (limit : ℕ) (a : Arrivals) → IsAccepted limit p a → MayExclude (system p a) a.items
  may-exclude limit a accepted = layered-excludes (system p a) a.items (layers-of limit a accepted)

  layers-made : (limit : ℕ) (a : Arrivals) (accepted : IsAccepted limit p a) (unit op : Name)
      → (layers-of limit a accepted).made unit op ≡ made a unit op
  unfolding layers-of
  layers-made limit a accepted unit op = refl

  -- a request that is made is one that some task can make
  pub made-requested : (limit : ℕ) (a : Arrivals) (accepted : IsAccepted limit p a) (unit op : Name) (j : ℕ)
      → (may-exclude limit a accepted).ranking.made unit op ≡ true
      → callee (system p a) unit op ≡ Request j → is_requested p (record { object = unit; op = op }) ≡ true
  unfolding may-exclude
  made-requested limit a accepted unit op j made' e =
      ap (λ k. is_free k || is_requested p (record { object = unit; op = op })) (sym e)
      ∙ sym (layers-made limit a accepted unit op)
      ∙ sym (layered-made (system p a) a.items (layers-of limit a accepted) unit op) ∙ made'

-- no object of any program is ever inside two operations
pub exclusive : (limit : ℕ) (p : Program) (a : Arrivals) (told : List Event) → MeetsRules p → IsAccepted limit p a → Meaning p a told → Exclusive told
exclusive limit p a told rules accepted meaning = rest-exclusive (system p a) a.items (may-exclude p rules limit a accepted) told meaning

-- a step of any system under the premises of exclusion finds free what it enters, and what it takes from
pub free-step : (y : System) (as' : List Arrival) (ex : MayExclude y as') (n : ℕ) → IsFreeStep y (run y n (opening y as')).0
free-step y as' ex n =
    let kept = run-excludes y as' ex n (opening y as') (opening-excludes y as' ex) in
    (step-enters-free y as' ex (run y n (opening y as')).0 kept, step-takes-free y as' ex (run y n (opening y as')).0 kept)

-- no request finds a control structure held, and no task takes a value from a held one
pub controls : (limit : ℕ) (p : Program) (a : Arrivals) (n : ℕ) → MeetsRules p → IsAccepted limit p a
    → IsFreeStep (system p a) (run (system p a) n (start p a)).0
controls limit p a n rules accepted = free-step (system p a) a.items (may-exclude p rules limit a accepted) n

-- in every state that a program's run reaches the holders are safe
pub holders : (limit : ℕ) (p : Program) (a : Arrivals) (n : ℕ) → MeetsRules p → IsAccepted limit p a
    → AreSafe (system p a) (run (system p a) n (start p a)).0
holders limit p a n rules accepted = run-safe (system p a) a.items (may-exclude p rules limit a accepted) n
