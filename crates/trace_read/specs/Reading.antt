-- The event that the words of a line tell: a time, what happens, names of units and operations, and numbers.
-- What stands behind the words of an event isn't looked at here, nor zeros in front of a number: a line is compared with that of its event.
use Rattle.std.specs.Prelude.{ℕ, ◌+◌, ◌-◌, ◌*◌, ◌^◌, ◌&&◌, List, [], ◌∷◌, ◌++◌, length, nat_lt, Option, Some, None, option_map, codes, bytes_eq}
use Rattle.std.specs.Prelude.{if◌then◌else◌, option_and_then}
use Rattle.std.specs.Char.{is_ascii_digit}
use Rattle.ada_tree.specs.Programs.{Program}
use Rattle.trace_tree.specs.declared.event.Event.{Event}
use Rattle.trace_tree.specs.declared.event.Event.TheVariants as event
use Rattle.law_traces.specs.Cuts.{cut}
use Rattle.trace_read.specs.Names.{unit_of_name, op_of_name}
use Rattle.trace_read.specs.declared.kind.Kind.{Kind}
use Rattle.trace_read.specs.declared.kind.Kind.TheVariants.{Release, Arrive, Enter, Leave, Request, Print, End, Stop, Horizon}

-- a word
abbrev pub Bytes : Type 0
Bytes = List ℕ

-- what is made of a word and of those behind it
abbrev pub with_word : {A : Type 0} → List Bytes → (Bytes → List Bytes → Option A) → Option A
with_word [] next = None
with_word (w ∷ ws) next = next w ws

-- the number of digits that stand behind digits of this number
abbrev pub number_from : ℕ → Bytes → Option ℕ
number_from n [] = Some n
number_from n (c ∷ cs) = if is_ascii_digit c && nat_lt (10 * n + (c - 48)) (2 ^ 64) then number_from (10 * n + (c - 48)) cs else None

-- the number of digits, where it is less than 2 ^ 64
unfoldable pub number_of : Bytes → Option ℕ
number_of w = number_from 0 w

-- the number of digits, where it is less than 2 ^ 32
unfoldable pub value_of : Bytes → Option ℕ
value_of w = option_and_then (λ n. if nat_lt n (2 ^ 32) then Some n else None) (number_of w)

-- a value, where there is a word
unfoldable pub maybe_value : List Bytes → Option (Option ℕ)
maybe_value [] = Some None
maybe_value (w ∷ ws) = option_map (λ n. Some n) (value_of w)

-- values behind these, up to eight
abbrev pub values_from : List ℕ → List Bytes → Option (List ℕ)
values_from ns [] = Some ns
values_from ns (w ∷ ws) = if nat_lt (length ns) 8 then option_and_then (λ n. values_from (ns ++ n ∷ []) ws) (value_of w) else None

-- up to eight values
unfoldable pub values_of : List Bytes → Option (List ℕ)
values_of ws = values_from [] ws

-- what happens
unfoldable pub kind_of : Bytes → Option Kind
kind_of w =
    if bytes_eq w (codes "release") then Some Release
    else if bytes_eq w (codes "arrive") then Some Arrive
    else if bytes_eq w (codes "enter") then Some Enter
    else if bytes_eq w (codes "leave") then Some Leave
    else if bytes_eq w (codes "request") then Some Request
    else if bytes_eq w (codes "put") then Some Print
    else if bytes_eq w (codes "end") then Some End
    else if bytes_eq w (codes "stop") then Some Stop
    else if bytes_eq w (codes "horizon") then Some Horizon
    else None

-- the places of an operation and of its unit, by their names with a dot between them
unfoldable pub op_of : Program → Bytes → Option (ℕ × ℕ)
op_of p w =
    with_word (cut 46 w) (λ object ws. option_and_then (λ unit.
    with_word ws (λ op _. option_map (λ o. (unit, o)) (op_of_name p unit op))) (unit_of_name p object))

-- the places of an operation and of its unit, and values
unfoldable pub passage_of : Program → List Bytes → Option ((ℕ × ℕ) × List ℕ)
passage_of p ws = with_word ws (λ w more. option_and_then (λ op. option_map (λ values. (op, values)) (values_of more)) (op_of p w))

-- the place of a unit, and a value where there is one
unfoldable pub request_of : Program → List Bytes → Option (ℕ × Option ℕ)
request_of p ws = with_word ws (λ w more. option_and_then (λ unit. option_map (λ v. (unit, v)) (maybe_value more)) (unit_of_name p w))

-- a number of the second word
unfoldable pub used_of : List Bytes → Option ℕ
used_of ws = with_word ws (λ _ more. with_word more (λ w _. number_of w))

-- a value of the second word, and what is behind
unfoldable pub level_of : List Bytes → Option (ℕ × List Bytes)
level_of ws = with_word ws (λ _ more. with_word more (λ w others. option_map (λ n. (n, others)) (value_of w)))

-- the place of a unit, and the levels of a task and of it
unfoldable pub stop_of : Program → List Bytes → Option (ℕ × ℕ × ℕ)
stop_of p ws =
    with_word ws (λ w more. option_and_then (λ unit. option_and_then (λ first.
    option_map (λ second. (unit, first.0, second.0)) (level_of first.1)) (level_of more)) (unit_of_name p w))

-- what a task does at a time, by the words behind its name
unfoldable pub deed_of : Program → ℕ → ℕ → Kind → List Bytes → Option Event
deed_of p time task Release ws = option_map (λ v. event.Release time task v) (maybe_value ws)
deed_of p time task Arrive ws = option_map (λ v. event.Arrive time task v) (maybe_value ws)
deed_of p time task Enter ws = option_map (λ o. event.Enter time task o.0.0 o.0.1 o.1) (passage_of p ws)
deed_of p time task Leave ws = option_map (λ o. event.Leave time task o.0.0 o.0.1 o.1) (passage_of p ws)
deed_of p time task Request ws = option_map (λ r. event.Request time task r.0 r.1) (request_of p ws)
deed_of p time task Print ws = with_word ws (λ w _. option_map (λ n. event.Print time task n) (value_of w))
deed_of p time task End ws = option_map (λ n. event.End time task n) (used_of ws)
deed_of p time task Stop ws = option_map (λ s. event.Stop time task s.0 s.1 s.2) (stop_of p ws)
deed_of p time task Horizon ws = None

-- the event of a time, by what happens and the words behind it
unfoldable pub happens : Program → ℕ → Kind → List Bytes → Option Event
happens p time Horizon ws = Some (event.Horizon time)
happens p time k ws = with_word ws (λ w more. option_and_then (λ task. deed_of p time task k more) (unit_of_name p w))

-- the event that words tell
unfoldable pub event_of : Program → List Bytes → Option Event
event_of p ws =
    with_word ws (λ w more. option_and_then (λ time. with_word more (λ kind others.
    option_and_then (λ k. happens p time k others) (kind_of kind))) (number_of w))
