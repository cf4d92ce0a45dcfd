-- Which item of a text of arrivals is told where something is wrong: the first in the order of the text.
-- Durations stand before requests. A horizon that is too far is no item, and is told before them.
use Rattle.std.specs.Prelude.{ℕ, ◌+◌, List, [], ◌∷◌, ◌++◌, length, Option, Some, None, slice_get, flat_map}
use Rattle.seq_tree.specs.Faults.{or_else}
use Rattle.seq_tree.specs.Names.{Name}
use Rattle.ada_tree.specs.Programs.{Program}
use Rattle.arrivals_tree.specs.declared.arrivals.Arrival.{Arrival}
use Rattle.arrivals_tree.specs.Arriving.{Durations}
use Rattle.arrivals_tree.specs.Acceptance.{ArrivalFault, durations_fault, item_fault}
use Rattle.arrivals_tree.specs.ArrivalTexts.{ArrivalText, WorkText, AtText, work_tokens, request_tokens, work_of, request_of}

-- what is told of an item: what is wrong, the name that stands in the item, and the number of tokens before it
pub record Wrong : Type 0 where
  pub fault : ArrivalFault
  pub name : Name
  pub before : ℕ

-- a fault of an item of this name, which has so many tokens before it
abbrev pub wrong_at : Name → ℕ → Option ArrivalFault → Option Wrong
wrong_at name before None = None
wrong_at name before (Some fault) = Some (record { fault = fault; name = name; before = before })

-- what is wrong with durations
abbrev pub work_fault : Program → Durations → Option ArrivalFault
work_fault p d = durations_fault (slice_get p.units d.task) d.ticks

-- the first of the durations in which something is wrong, where so many tokens stand before them
abbrev pub wrong_work : Program → ℕ → List WorkText → Option Wrong
wrong_work p before [] = None
wrong_work p before (w ∷ ws) =
    or_else (wrong_at w.name before (work_fault p (work_of p w))) (wrong_work p (before + length (work_tokens w)) ws)

-- the first of the requests in which something is wrong, behind the earlier ones and so many tokens
abbrev pub wrong_request : Program → List Arrival → ℕ → List AtText → Option Wrong
wrong_request p earlier before [] = None
wrong_request p earlier before (r ∷ rs) =
    or_else (wrong_at r.name before (item_fault p earlier (request_of p r)))
    (wrong_request p (earlier ++ request_of p r ∷ []) (before + length (request_tokens r)) rs)

-- the first item in which something is wrong; the horizon has three tokens
abbrev pub first_wrong : Program → ArrivalText → Option Wrong
first_wrong p t = or_else (wrong_work p 3 t.works) (wrong_request p [] (3 + length (flat_map work_tokens t.works)) t.requests)
