-- What is promised of a trace, each part broken alone: by one design and one trace for each, at the horizon 0. That no run stops can't be broken
-- alone, since a trace in order has no stop.
use Rattle.std.specs.Prelude.{◌≡◌, ℕ, List, [], ◌∷◌, Some, None, codes, refl}
use Rattle.std.proofs.Common.{inr, lit≤, arith}
use Rattle.seq_tree.specs.Names.{Name}
use Rattle.seq_tree.specs.Lists.{Each}
use Rattle.seq_tree.specs.Statements.{Null}
use Rattle.ods_tree.specs.Designs.{Design}
use Rattle.ods_tree.proofs.Shared.Short.{cyc, spo_external, design}
use Rattle.guarantee.specs.Software.{software}
use Rattle.ada_tree.specs.Reading.{Accepts}
use Rattle.arrivals_tree.specs.Arriving as places
use Rattle.trace_tree.specs.declared.event.Event as machine
use Rattle.trace_tree.specs.Exclusion.{Exclusive}
use Rattle.machine.specs.Meanings.{Meaning}
use Rattle.rt_response.specs.declared.rows.Bound.{Bound}
use Rattle.guarantee.specs.Events.{Release, Arrive, Stop, Event, By, Horizon, named}
use Rattle.guarantee.specs.Arrivals.{Arrivals, named_arrivals, KeepsSeparations}
use Rattle.guarantee.specs.Allowed.{DoesAsWritten, IsPeriodic, IsRequested}
use Rattle.guarantee.specs.Bounded.{IsBounded}
use Rattle.guarantee.specs.MachineLaw.{NeverStops}
use Rattle.guarantee.specs.Requests.{AreTold}
use Rattle.background_designs.specs.HardParts.{hard_part}
use Rattle.background_designs.specs.Programs.{background_program, hard_tasks, hard_responses}
use Rattle.background_designs.specs.Turns.{IsRestless}
use Rattle.background_designs.specs.Runs.{PermitsBackground, IsRightInBackground, IsGuaranteedInBackground}
use Rattle.background_designs.proofs.Shared.Examples.{client}

abbrev c : Name
c = codes "c"

-- no requests from outside, up to the horizon 0
abbrev none : Arrivals
none = record { until = 0; work = []; items = [] }

abbrev asked : Arrivals
asked = record { until = 0; work = []; items = record { time = 0; task = c; value = Some 1 } ∷ [] }

-- a design of one client, of one cyclic thread, and of one sporadic thread that is requested from outside
abbrev of_client : Design
of_client = design (client c (Null ∷ []))

abbrev of_cyclic : Design
of_cyclic = design (cyc c 8 8 (Null ∷ []))

abbrev of_sporadic : Design
of_sporadic = design (spo_external c 8 8 0 (Null ∷ []))

-- the run of a client up to 0: it is released
abbrev released : List Event
released = By 0 c (Release None) ∷ Horizon 0 ∷ []

begun : DoesAsWritten (software (hard_part of_client)) 0 released
begun = record {
  order = (lit≤ tt, refl, refl, (lit≤ tt, refl, refl));
  bodies = [];
  threads = ((refl, inr (record { script = []; begins = ([], (_, (0, (_, refl, (_, refl, refl)), refl), refl)); shows = refl }, refl)), tt);
  objects = tt;
}

holds : PermitsBackground of_client [] none released
holds = record { quiet = refl; written = begun; periodic = tt; arrivals = refl; requested = tt; restless = ((refl, refl, tt), tt); bounded = tt }

-- a trace in which nothing is told, up to 0
abbrev silence : List Event
silence = Horizon 0 ∷ []

-- the horizon is told at another time
abbrev beyond : List Event
beyond = By 0 c (Release None) ∷ Horizon 5 ∷ []

not_written : PermitsBackground of_client [] none beyond → ⊥
not_written h = (let e = h.written.order.3.1 in cc)

else_than_written : NeverStops beyond × AreTold 0 [] beyond × IsRestless beyond c
else_than_written = (refl, refl, (refl, refl, tt))

-- a stop, which is out of order too
abbrev stopping : List Event
stopping = By 0 c (Release None) ∷ By 0 c (Stop (codes "q") 2 1) ∷ Horizon 0 ∷ []

not_quiet : PermitsBackground of_client [] none stopping → ⊥
not_quiet h = (let e = h.quiet in cc)

out_of_order : DoesAsWritten (software (hard_part of_client)) 0 stopping → ⊥
out_of_order h = (let e = h.order.3.2 in cc)

-- a cyclic thread isn't released
unreleased : DoesAsWritten (software (hard_part of_cyclic)) 0 silence
unreleased = record { order = (lit≤ tt, refl, refl); bodies = []; threads = ((refl, tt), tt); objects = tt }

not_periodic : (v : List Bound) → PermitsBackground of_cyclic v none silence → ⊥
not_periodic v h = (let late = h.periodic.0 in omega (arith, late))

else_than_periodic : NeverStops silence × AreTold 0 [] silence × Each (λ t. IsRequested silence t.name t.timing) (hard_tasks of_cyclic)
    × IsBounded (hard_responses of_cyclic (record { jitter = 0; response = 8 } ∷ [])) 0 silence
else_than_periodic = (refl, refl, (tt, tt), (tt, tt))

-- a request from outside isn't told
untold : DoesAsWritten (software (hard_part of_sporadic)) 0 silence
untold = record { order = (lit≤ tt, refl, refl); bodies = []; threads = ((refl, tt), tt); objects = tt }

not_told : (v : List Bound) → PermitsBackground of_sporadic v asked silence → ⊥
not_told v h = (let e = h.arrivals in cc)

else_than_told : NeverStops silence × Each (λ t. IsPeriodic 0 silence t.name t.timing) (hard_tasks of_sporadic)
    × Each (λ t. IsRequested silence t.name t.timing) (hard_tasks of_sporadic)
    × IsBounded (hard_responses of_sporadic (record { jitter = 0; response = 8 } ∷ [])) 0 silence
else_than_told = (refl, (tt, tt), (tt, tt), (tt, tt))

-- it is told and not served
abbrev unserved_told : List Event
unserved_told = By 0 c (Arrive (Some 1)) ∷ Horizon 0 ∷ []

unserved : DoesAsWritten (software (hard_part of_sporadic)) 0 unserved_told
unserved = record { order = (lit≤ tt, refl, refl, (lit≤ tt, refl, refl)); bodies = []; threads = ((refl, tt), tt); objects = tt }

not_served : (v : List Bound) → PermitsBackground of_sporadic v asked unserved_told → ⊥
not_served v h = h.requested.0

else_than_served : NeverStops unserved_told × Each (λ t. IsPeriodic 0 unserved_told t.name t.timing) (hard_tasks of_sporadic)
    × AreTold 0 asked.items unserved_told
    × IsBounded (hard_responses of_sporadic (record { jitter = 0; response = 8 } ∷ [])) 0 unserved_told
else_than_served = (refl, (tt, tt), refl, (tt, tt))

-- a client isn't released
left_alone : DoesAsWritten (software (hard_part of_client)) 0 silence
left_alone = record { order = (lit≤ tt, refl, refl); bodies = []; threads = ((refl, tt), tt); objects = tt }

not_restless : PermitsBackground of_client [] none silence → ⊥
not_restless h = h.restless.0

else_than_restless : NeverStops silence × AreTold 0 [] silence × IsBounded (hard_responses of_client []) 0 silence
else_than_restless = (refl, refl, tt)

-- a cyclic thread that has no time at all is released and hasn't ended
slow : DoesAsWritten (software (hard_part of_cyclic)) 0 released
slow = record {
  order = (lit≤ tt, refl, refl, (lit≤ tt, refl, refl));
  bodies = [];
  threads = ((refl, inr (record { script = []; begins = ([], (_, (0, (_, refl, (_, refl, refl)), refl), refl)); shows = refl }, refl)), tt);
  objects = tt;
}

not_bounded : PermitsBackground of_cyclic (record { jitter = 8; response = 0 } ∷ []) none released → ⊥
not_bounded h = h.bounded.0.0 (lit≤ tt)

else_than_bounded : NeverStops released × Each (λ t. IsPeriodic 0 released t.name t.timing) (hard_tasks of_cyclic) × AreTold 0 [] released
    × Each (λ t. IsRequested released t.name t.timing) (hard_tasks of_cyclic)
else_than_bounded = (refl, ((lit≤ tt, refl, refl, lit≤ tt), tt), refl, (tt, tt))

-- clients have no bounds
no_bounds_of_clients : hard_responses of_client [] ≡ []
no_bounds_of_clients = refl

-- a run is right for its meaning, exclusion and what it tells, and not without one of them; and so is a text for its program and its runs
right : (x : Design) (v : List Bound) (r : places.Arrivals) (trace : List machine.Event) → Meaning (background_program x) r trace → Exclusive trace
    → PermitsBackground x v (named_arrivals (background_program x) r) (named (background_program x) trace) → IsRightInBackground x v r
right x v r trace means exclusive permitted = record { trace = trace; means = means; exclusive = exclusive; permitted = permitted }

meaningless : (x : Design) (v : List Bound) (r : places.Arrivals) → ((trace : List machine.Event) → Meaning (background_program x) r trace → ⊥)
    → IsRightInBackground x v r → ⊥
meaningless x v r none h = none h.trace h.means

not_exclusive : (x : Design) (v : List Bound) (r : places.Arrivals) → ((trace : List machine.Event) → Exclusive trace → ⊥)
    → IsRightInBackground x v r → ⊥
not_exclusive x v r none h = none h.trace h.exclusive

not_permitted : (x : Design) (v : List Bound) (r : places.Arrivals)
    → ((trace : List machine.Event) → PermitsBackground x v (named_arrivals (background_program x) r) (named (background_program x) trace) → ⊥)
    → IsRightInBackground x v r → ⊥
not_permitted x v r none h = none h.trace h.permitted

unread : (limit : ℕ) (x : Design) (text : List ℕ) (v : List Bound) → (Accepts text (background_program x) → ⊥)
    → IsGuaranteedInBackground limit x text v → ⊥
unread limit x text v none h = none h.reads

not_right : (limit : ℕ) (x : Design) (text : List ℕ) (v : List Bound) (r : places.Arrivals)
    → KeepsSeparations limit (hard_part x) (named_arrivals (background_program x) r) → (IsRightInBackground x v r → ⊥)
    → IsGuaranteedInBackground limit x text v → ⊥
not_right limit x text v r keeps none h = none (h.runs r keeps)
