-- Examples of requests that are served at once, and of chains: one that holds, and one that breaks each clause.
use Rattle.std.specs.Prelude.{◌≡◌, ◌≤◌, List, [], ◌∷◌, Some, None, codes, refl}
use Rattle.std.proofs.Common.{arith}
use Rattle.std.proofs.lemmas.Option.{none-some}
use Rattle.seq_tree.specs.Names.{Name}
use Rattle.ods_tree.specs.Flats.{Cyclic}
use Rattle.guarantee.specs.Bounded.{Response}
use Rattle.guarantee.specs.Events.{Release, Request, End, Event, By, Horizon}
use Rattle.guarantee.specs.Requests.{Asked, Taken, Done}
use Rattle.law_chains.specs.AtOnce.{AreServedAtOnce, IsServedAtOnce}
use Rattle.law_chains.specs.Chains.{ChainResponds, total}

-- a request at 5 with a value, served then
at_once : AreServedAtOnce None (Asked 5 (Some 1) ∷ Taken 5 (Some 1) ∷ Done 9 ∷ [])
at_once = (refl, refl, tt)

-- served later
late : AreServedAtOnce None (Asked 5 (Some 1) ∷ Taken 6 (Some 1) ∷ Done 9 ∷ []) → ⊥
late h = let same : 6 ≡ 5 = h.0 in omega (arith, same)

-- with another value
other_value : AreServedAtOnce None (Asked 5 (Some 1) ∷ Taken 5 None ∷ Done 9 ∷ []) → ⊥
other_value h = none-some 1 h.1

-- a second request before the first is served
overwritten : AreServedAtOnce None (Asked 5 (Some 1) ∷ Asked 5 (Some 2) ∷ Taken 5 (Some 2) ∷ []) → ⊥
overwritten h = h

-- a request that is lost
lost : AreServedAtOnce None (Asked 5 (Some 1) ∷ []) → ⊥
lost h = h

-- a release that nothing requested
unasked : AreServedAtOnce None (Taken 5 None ∷ []) → ⊥
unasked h = h

-- of a cyclic thread nothing is asked
cyclic : IsServedAtOnce [] (codes "sensor") (Cyclic 80 0)
cyclic = tt

abbrev sensor : Name
sensor = codes "sensor"

abbrev alarm : Name
alarm = codes "alarm"

-- the sensor requests the alarm, which is released at once and ends 28 ticks behind the release of the sensor
abbrev told : List Event
told =
    By 80 sensor (Release None) ∷ By 101 sensor (Request alarm (Some 42)) ∷ By 101 alarm (Release (Some 42)) ∷ By 102 sensor (End 22)
    ∷ By 108 alarm (End 6) ∷ Horizon 200 ∷ []

in_time : ChainResponds 200 told 28 sensor (alarm ∷ [])
in_time = (λ near. (let soon : 108 ≤ 108 = omega arith in soon, tt), (tt, tt))

too_late : ChainResponds 200 told 27 sensor (alarm ∷ []) → ⊥
too_late h = let soon : 108 ≤ 107 = (h.0 (omega arith)).0 in omega (arith, soon)

-- past the horizon nothing is asked
past_horizon : ChainResponds 100 told 27 sensor (alarm ∷ [])
past_horizon = (λ near. absurd (omega (arith, near)), (tt, tt))

-- a request that no release follows
no_release : ChainResponds 200 (By 80 sensor (Release None) ∷ By 101 sensor (Request alarm None) ∷ Horizon 200 ∷ []) 28 sensor (alarm ∷ []) → ⊥
no_release h = (h.0 (omega arith)).0

-- an activation that requests nothing leads nowhere
no_request : ChainResponds 200 (By 80 sensor (Release None) ∷ By 109 sensor (End 29) ∷ Horizon 200 ∷ []) 28 sensor (alarm ∷ [])
no_request = (λ near. tt, tt)

-- a request by another thread, or after the end of the activation, does not belong to the chain
another_request : ChainResponds 200 (By 80 sensor (Release None) ∷ By 90 (codes "valve") (Request alarm None) ∷ By 102 sensor (End 22) ∷ [])
    28 sensor (alarm ∷ [])
another_request = (λ near. (tt, tt), tt)

after_end : ChainResponds 200 (By 80 sensor (Release None) ∷ By 102 sensor (End 22) ∷ By 110 sensor (Request alarm None) ∷ []) 28 sensor (alarm ∷ [])
after_end = (λ near. tt, tt)

-- response times add up along a chain
sum : total ((let r : Response = record { thread = sensor; ticks = 23 } in r) ∷ record { thread = alarm; ticks = 29 } ∷ []) ≡ 52
sum = refl
