-- What objects are at by places is what they are at by names.
use Rattle.std.proofs.Common.{◌≡◌, ℕ, zero, suc, Bool, true, false, List, [], ◌∷◌, map, Option, Some, None, refl, sym, ap, ◌∙◌}
use Rattle.std.specs.Prelude.{◌==◌, slice_get, option_map, option_and_then, unwrap_or, if◌then◌else◌}
use Rattle.std.proofs.lemmas.Bool.{eqb-true}
use Rattle.seq_tree.specs.Lists.{Each, change}
use Rattle.seq_tree.specs.Names.{Name, same_name}
use Rattle.seq_tree.specs.Variables.{written}
use Rattle.ods_tree.specs.Flats.{Guarded}
use Rattle.ada_tree.specs.Programs.{Program}
use Rattle.ada_tree.specs.Rules.{MeetsRules}
use Rattle.trace_tree.specs.Lines.{unit_name}
use Rattle.trace_tree.specs.Placed.{IsPlaced, IsUnit}
use Rattle.trace_tree.specs.declared.event.Event as machine
use Rattle.trace_tree.specs.declared.event.Event.TheVariants as event
use Rattle.guarantee.specs.Software.{Software, program_software}
use Rattle.guarantee.specs.Events.{named, named_event, op_at}
use Rattle.law_traces.specs.Checks.{object_named}
use Rattle.law_trace_places.specs.Places.{guarded_at, guarded_in}
use Rattle.law_trace_places.proofs.Shared.Units.{item-at, unit-names, what-it-is}
use Rattle.law_traces.specs.Entries.{Entry}
use Rattle.law_traces.specs.Services.{Service, Free, Broken, served_by, served_from, changed_by, charge_for, charge_at, charges_from}
use Rattle.law_traces.specs.PassLaws.{at_first}
use Rattle.law_traces.proofs.Shared.Charged.{found-name}
use Rattle.trace_scripts.specs.Serving.{enter_by, leave_by, charge_by, service_at, objects_with, objects_from, charge_with, charges_by, first_by}
use Rattle.trace_scripts.specs.Serving.{services_first}
use Rattle.trace_scripts.proofs.Entering.{get-changed}

pub map-at : {A B : Type 0} (f : A → B) (xs : List A) (i : ℕ) (x : A) → slice_get xs i ≡ Some x → slice_get (map f xs) i ≡ Some (f x)
map-at f [] i x e = absurd (cc)
map-at f (y ∷ ys) zero x e = ap (option_map f) e
map-at f (y ∷ ys) (suc i) x e = map-at f ys i x e

module _ (p : Program) (meets : MeetsRules p) (depth most : ℕ) where
  abbrev w : Software
  w = program_software p

  own : (u : ℕ) (g : Guarded) → IsUnit p u → guarded_at p u ≡ Some g → object_named w (unit_name p u) ≡ Some g
  own u g k at = (what-it-is p meets u k).object ∙ at

  -- the states of objects, by places and by names
  abbrev Tabled : List Service → (Name → Service) → Type 0
  Tabled ss st = (u : ℕ) (g : Guarded) → IsUnit p u → guarded_at p u ≡ Some g → slice_get ss u ≡ Some (st (unit_name p u))

  abbrev after : machine.Event → Entry → (Name → Service) → Name → Service
  after e x st object = changed_by w depth (named_event p e) x (st object) (object_named w object)

  after-own : (e : machine.Event) (x : Entry) (st : Name → Service) (u : ℕ) (g : Guarded) → IsUnit p u → guarded_at p u ≡ Some g
      → after e x st (unit_name p u) ≡ served_by w depth g (named_event p e) x (st (unit_name p u))
  after-own e x st u g k at = ap (changed_by w depth (named_event p e) x (st (unit_name p u))) (own u g k at)

  -- whether an event is of this object
  of-object : (unit u : ℕ) (g : Guarded) → IsUnit p unit → IsUnit p u → guarded_at p u ≡ Some g → same_name (unit_name p unit) g.name ≡ (unit == u)
  of-object unit u g i k at =
      ap (same_name (unit_name p unit)) (found-name w (unit_name p u) g (own u g k at)) ∙ unit-names p meets unit u i k

  passage : (unit u : ℕ) (g : Guarded) → IsUnit p unit → IsUnit p u → guarded_at p u ≡ Some g → (f : Option Guarded → Service → Service) (ss : List Service)
      (s : Service) → slice_get ss u ≡ Some s
      → slice_get (change unit (f (guarded_at p unit)) ss) u ≡ Some (if same_name (unit_name p unit) g.name then f (Some g) s else s)
  passage unit u g i k at f ss s here =
      get-changed unit u (f (guarded_at p unit)) ss s here ∙ by (unit == u) refl
      ∙ ap (λ b. Some (if b then f (Some g) s else s)) (sym (of-object unit u g i k at))
    where
      by : (b : Bool) → (unit == u) ≡ b → (let r : Service = if b then f (guarded_at p unit) s else s in Some r) ≡ Some (if b then f (Some g) s else s)
      by true e = ap (λ o. Some (f o s)) (ap (guarded_at p) (eqb-true unit u e) ∙ at)
      by false e = refl

  states-event : (e : machine.Event) (x : Entry) (ss : List Service) (st : Name → Service) → IsPlaced p e → Tabled ss st
      → Tabled (objects_with p depth e x ss) (after e x st)
  unfolding objects_with
  states-event (event.Enter time task unit op values) x ss st i h u g k at =
      passage unit u g i.1 k at (enter_by w depth (unit_name p task) (op_at p unit op).op values x) ss (st (unit_name p u)) (h u g k at)
      ∙ ap (λ z. Some z) (sym (after-own (event.Enter time task unit op values) x st u g k at))
  states-event (event.Leave time task unit op values) x ss st i h u g k at =
      passage unit u g i.1 k at (leave_by (unit_name p task) (op_at p unit op).op values) ss (st (unit_name p u)) (h u g k at)
      ∙ ap (λ z. Some z) (sym (after-own (event.Leave time task unit op values) x st u g k at))
  states-event (event.Release time task value) x ss st i h u g k at =
      h u g k at ∙ ap (λ z. Some z) (sym (after-own (event.Release time task value) x st u g k at))
  states-event (event.Arrive time task value) x ss st i h u g k at =
      h u g k at ∙ ap (λ z. Some z) (sym (after-own (event.Arrive time task value) x st u g k at))
  states-event (event.Request time task target value) x ss st i h u g k at =
      h u g k at ∙ ap (λ z. Some z) (sym (after-own (event.Request time task target value) x st u g k at))
  states-event (event.Print time task value) x ss st i h u g k at =
      h u g k at ∙ ap (λ z. Some z) (sym (after-own (event.Print time task value) x st u g k at))
  states-event (event.End time task used) x ss st i h u g k at =
      h u g k at ∙ ap (λ z. Some z) (sym (after-own (event.End time task used) x st u g k at))
  states-event (event.Stop time task unit priority ceiling) x ss st i h u g k at =
      h u g k at ∙ ap (λ z. Some z) (sym (after-own (event.Stop time task unit priority ceiling) x st u g k at))
  states-event (event.Horizon time) x ss st i h u g k at =
      h u g k at ∙ ap (λ z. Some z) (sym (after-own (event.Horizon time) x st u g k at))

  charge-event : (e : machine.Event) (x : Entry) (ss : List Service) (st : Name → Service) → IsPlaced p e → Tabled ss st
      → charge_with p depth most e x ss ≡ charge_at w depth most (named_event p e) x st
  unfolding charge_with
  charge-event (event.Enter time task unit op values) x ss st i h = by (guarded_at p unit) refl
    where
      name : Name
      name = unit_name p unit

      F : Option Guarded → Service → ℕ × ℕ
      F o s = charge_by w depth most (op_at p unit op).op values x o s

      G : Option Guarded → ℕ × ℕ
      G o = charge_for w depth most (op_at p unit op).op values x (st name) o

      by : (o : Option Guarded) → guarded_at p unit ≡ o → F (guarded_at p unit) (service_at unit ss) ≡ G (object_named w name)
      by None e =
          ap (λ o. F o (service_at unit ss)) e ∙ ap G (sym e) ∙ ap G (sym (what-it-is p meets unit i.1).object)
      by (Some g) e =
          ap (λ o. F o (service_at unit ss)) e ∙ ap (λ o. F (Some g) (unwrap_or o Broken)) (h unit g i.1 e) ∙ ap G (sym (own unit g i.1 e))
  charge-event (event.Leave time task unit op values) x ss st i h = refl
  charge-event (event.Release time task value) x ss st i h = refl
  charge-event (event.Arrive time task value) x ss st i h = refl
  charge-event (event.Request time task target value) x ss st i h = refl
  charge-event (event.Print time task value) x ss st i h = refl
  charge-event (event.End time task used) x ss st i h = refl
  charge-event (event.Stop time task unit priority ceiling) x ss st i h = refl
  charge-event (event.Horizon time) x ss st i h = refl

  -- ALL EVENTS
  pub charges-named : (es : List machine.Event) (xs : List Entry) (ss : List Service) (st : Name → Service) → Each (IsPlaced p) es → Tabled ss st
      → charges_by p depth most es xs ss ≡ charges_from w depth most (named p es) xs st
  unfolding charges_by
  charges-named [] xs ss st i h = refl
  charges-named (e ∷ es) [] ss st i h = refl
  charges-named (e ∷ es) (x ∷ xs) ss st i h =
      ap (λ z. z ∷ charges_by p depth most es xs (objects_with p depth e x ss)) (charge-event e x ss st i.0 h)
      ∙ ap (λ z. charge_at w depth most (named_event p e) x st ∷ z)
      (charges-named es xs (objects_with p depth e x ss) (after e x st) i.1 (states-event e x ss st i.0 h))

  pub states-named : (es : List machine.Event) (xs : List Entry) (ss : List Service) (st : Name → Service) → Each (IsPlaced p) es → Tabled ss st
      → (u : ℕ) (g : Guarded) → IsUnit p u → guarded_at p u ≡ Some g
      → slice_get (objects_from p depth es xs ss) u ≡ Some (served_from w depth g (named p es) xs (st (unit_name p u)))
  unfolding objects_from
  states-named [] xs ss st i h u g k at = h u g k at
  states-named (e ∷ es) [] ss st i h u g k at = h u g k at
  states-named (e ∷ es) (x ∷ xs) ss st i h u g k at =
      states-named es xs (objects_with p depth e x ss) (after e x st) i.1 (states-event e x ss st i.0 h) u g k at
      ∙ ap (λ s. Some (served_from w depth g (named p es) xs s)) (after-own e x st u g k at)

  pub first-named : Tabled (services_first p) (at_first w)
  first-named u g k at =
      let v = item-at p.units u k in
      let made : guarded_in v.0 ≡ Some g = sym (ap (option_and_then guarded_in) v.1) ∙ at in
      map-at (λ z. first_by (guarded_in z)) p.units u v.0 v.1 ∙ ap (λ o. Some (first_by o)) made
      ∙ ap (λ o. Some (Free (unwrap_or (option_map (λ (h : Guarded). written h.vars) o) []))) (sym (own u g k at))

  pub first-own : (u : ℕ) (g : Guarded) → IsUnit p u → guarded_at p u ≡ Some g → at_first w (unit_name p u) ≡ Free (written g.vars)
  first-own u g k at = ap (λ o. Free (unwrap_or (option_map (λ (h : Guarded). written h.vars) o) [])) (own u g k at)
