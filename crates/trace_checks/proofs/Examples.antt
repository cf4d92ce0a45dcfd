-- Examples: traces that break one of the parts each, and what its check says of them.
use Rattle.std.specs.Prelude.{◌≡◌, true, false, List, [], ◌∷◌, ◌++◌, Some, None, codes, refl}
use Rattle.seq_tree.specs.Names.{Name}
use Rattle.seq_tree.specs.Statements.{Work, End, Then}
use Rattle.seq_tree.specs.Operations.{Signature}
use Rattle.seq_tree.specs.declared.tree.Mode.TheVariants.{In}
use Rattle.ods_tree.specs.Flats.{Cyclic, Sporadic}
use Rattle.guarantee.specs.Software.{Task}
use Rattle.guarantee.specs.Events.{Event, By, Horizon, Release, Arrive, Request, Stop}
use Rattle.guarantee.specs.Events as deed
use Rattle.guarantee.specs.Arrivals.{Arrival}
use Rattle.law_traces.specs.Checks.{in_order, is_periodic, are_told, is_requested}

abbrev p : Name
p = codes "p"

abbrev s : Name
s = codes "s"

abbrev start : Signature
start = record { name = codes "start"; params = record { name = codes "v"; mode = In } ∷ [] }

abbrev tasks : List Task
tasks =
    record { name = p; timing = Cyclic 50 0; vars = []; block = Then (Work 4) End }
    ∷ record { name = s; timing = Sporadic start 50 None; vars = []; block = Then (Work 4) End } ∷ []

-- TIMES
in_time : in_order tasks 12 0 (By 3 p (Release None) ∷ By 3 s (Release None) ∷ Horizon 12 ∷ []) ≡ true
in_time = refl

nothing_told : in_order tasks 12 0 [] ≡ false
nothing_told = refl

times_fall : in_order tasks 12 0 (By 3 p (Release None) ∷ By 2 s (Release None) ∷ Horizon 12 ∷ []) ≡ false
times_fall = refl

no_task : in_order tasks 12 0 (By 3 (codes "q") (Release None) ∷ Horizon 12 ∷ []) ≡ false
no_task = refl

a_stop : in_order tasks 12 0 (By 3 p (Stop s 4 3) ∷ Horizon 12 ∷ []) ≡ false
a_stop = refl

early_horizon : in_order tasks 12 0 (Horizon 11 ∷ []) ≡ false
early_horizon = refl

two_horizons : in_order tasks 12 0 (Horizon 12 ∷ Horizon 12 ∷ []) ≡ false
two_horizons = refl

-- CYCLIC threads
at_offset_and_period : is_periodic 52 (By 0 p (Release None) ∷ By 50 p (Release None) ∷ Horizon 52 ∷ []) p (Cyclic 50 0) ≡ true
at_offset_and_period = refl

one_tick_late : is_periodic 52 (By 0 p (Release None) ∷ By 51 p (Release None) ∷ Horizon 52 ∷ []) p (Cyclic 50 0) ≡ false
one_tick_late = refl

one_missing : is_periodic 52 (By 0 p (Release None) ∷ Horizon 52 ∷ []) p (Cyclic 50 0) ≡ false
one_missing = refl

with_a_value : is_periodic 12 (By 0 p (Release (Some 1)) ∷ Horizon 12 ∷ []) p (Cyclic 50 0) ≡ false
with_a_value = refl

-- ARRIVALS
abbrev given : List Arrival
given = record { time = 3; task = s; value = Some 7 } ∷ record { time = 20; task = s; value = Some 8 } ∷ []

up_to_the_horizon : are_told 12 given (By 3 s (Arrive (Some 7)) ∷ Horizon 12 ∷ []) ≡ true
up_to_the_horizon = refl

none_told : are_told 12 given (Horizon 12 ∷ []) ≡ false
none_told = refl

another_value : are_told 12 given (By 3 s (Arrive (Some 8)) ∷ Horizon 12 ∷ []) ≡ false
another_value = refl

-- REQUESTS
abbrev asked : List Event
asked = By 4 p (Request s (Some 7)) ∷ []

served : is_requested (asked ++ By 4 s (Release (Some 7)) ∷ Horizon 12 ∷ []) s (Sporadic start 50 None) ≡ true
served = refl

another_value_released : is_requested (asked ++ By 4 s (Release (Some 8)) ∷ Horizon 12 ∷ []) s (Sporadic start 50 None) ≡ false
another_value_released = refl

released_late : is_requested (asked ++ By 5 s (Release (Some 7)) ∷ Horizon 12 ∷ []) s (Sporadic start 50 None) ≡ false
released_late = refl

never_released : is_requested (asked ++ Horizon 12 ∷ []) s (Sporadic start 50 None) ≡ false
never_released = refl

not_asked : is_requested (By 4 s (Release (Some 7)) ∷ Horizon 12 ∷ []) s (Sporadic start 50 None) ≡ false
not_asked = refl

while_active : is_requested (asked ++ By 4 s (Release (Some 7)) ∷ By 5 p (Request s (Some 8)) ∷ By 9 s (deed.End 5) ∷ By 9 s (Release (Some 8)) ∷ []) s
    (Sporadic start 50 None) ≡ true
while_active = refl
