-- Examples of requests before ends, of threads that rest, and of the chains of a table: one that holds, and one that breaks each clause.
use Rattle.std.specs.Prelude.{◌≡◌, ◌+◌, ◌≤◌, ◌<◌, List, [], ◌∷◌, None, codes, refl}
use Rattle.std.proofs.Common.{arith}
use Rattle.seq_tree.specs.Names.{Name}
use Rattle.rt_response.specs.declared.rows.Bound.{Bound}
use Rattle.response_terms.specs.Paths.{chain_response}
use Rattle.guarantee.specs.Bounded.{Response}
use Rattle.guarantee.specs.Events.{Release, Request, End, Event, By, Horizon}
use Rattle.law_chain_bounds.specs.Requests.{EndAfter, RequestsComeBeforeEnds}
use Rattle.law_chain_bounds.specs.Levels.{RestWithin}
use Rattle.law_chain_bounds.specs.Printed.{chain_of, OfChain, lowest_row, lowest_response}

abbrev sensor : Name
sensor = codes "sensor"

abbrev alarm : Name
alarm = codes "alarm"

-- the sensor requests the alarm at 5 and ends at 6
before : RequestsComeBeforeEnds (By 0 sensor (Release None) ∷ By 5 sensor (Request alarm None) ∷ By 6 sensor (End 6) ∷ [])
before = ((let later : 5 < 6 = omega arith in later, tt), tt)

-- it requests and ends at one time
at_the_end : RequestsComeBeforeEnds (By 0 sensor (Release None) ∷ By 6 sensor (Request alarm None) ∷ By 6 sensor (End 6) ∷ []) → ⊥
at_the_end h = let later : 6 < 6 = h.0.0 in omega (arith, later)

-- an end that is told before a request may be at its time
another_before : RequestsComeBeforeEnds (By 6 alarm (End 1) ∷ By 6 sensor (Request alarm None) ∷ By 7 sensor (End 7) ∷ [])
another_before = ((let later : 6 < 7 = omega arith in later, tt), tt)

no_end_before : EndAfter 3 (By 5 sensor (End 5) ∷ By 4 alarm (End 1) ∷ [])
no_end_before = ((let later : 3 < 5 = omega arith in later), ((let later : 3 < 4 = omega arith in later), tt))

-- an activation from 0 to 3 rests within 3 ticks from each time on, and not within 2
abbrev told : List Event
told = By 0 sensor (Release None) ∷ By 3 sensor (End 3) ∷ Horizon 8 ∷ []

rests : RestWithin 8 told 3 (sensor ∷ [])
rests from near = (from + 3, omega arith, omega arith, ((λ less. let over : 3 ≤ from + 3 = omega arith in over, tt), tt))

too_soon : RestWithin 8 told 2 (sensor ∷ []) → ⊥
too_soon h =
    let r = h 0 (omega arith) in
    let over : 3 ≤ r.0 = r.3.0.0 r.1 in
    omega (arith, over, r.2)

-- a chain of two rows, of which the first starts the second: the first thread stands first
abbrev times : List Response
times = record { thread = sensor; ticks = 23 } ∷ record { thread = alarm; ticks = 29 } ∷ []

abbrev bounds : List Bound
bounds = record { jitter = 0; response = 23 } ∷ record { jitter = 23; response = 29 } ∷ []

turned : chain_of times (1 ∷ 0 ∷ []) ≡ times
turned = refl

first : OfChain (λ name more. (name ≡ sensor) × (more ≡ alarm ∷ [])) (chain_of times (1 ∷ 0 ∷ []))
first = (refl, refl)

no_row : OfChain (λ name more. name ≡ name) (chain_of times (2 ∷ [])) → ⊥
no_row h = h

-- its sum, and the response time of its lowest row; so with rows the other way round
summed : chain_response bounds (1 ∷ 0 ∷ []) ≡ 52
summed = refl

lowest : (lowest_row (1 ∷ 0 ∷ []) ≡ 1) × (lowest_response bounds (1 ∷ 0 ∷ []) ≡ 29)
lowest = (refl, refl)

upwards : (lowest_row (0 ∷ 1 ∷ []) ≡ 1) × (lowest_response bounds (0 ∷ 1 ∷ []) ≡ 29)
upwards = (refl, refl)
