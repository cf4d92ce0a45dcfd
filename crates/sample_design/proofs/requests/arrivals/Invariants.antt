use Rattle.std.proofs.Common.{◌≡◌, ◌++◌, flat_map}
use Rattle.sample_design.specs.Requests.{request_lines, requests_at, sample_arrivals}
use Rattle.sample_design.specs.Samples.{from_to}
use Rattle.sample_design.proofs.requests.arrivals.Given as goal

-- the requests so far, and those at the times that are left
abbrev pub invariant-times : goal.invariant-times
invariant-times l = l.text.items ++ request_lines (flat_map (requests_at l.n) (from_to l.time 10001)) ≡ sample_arrivals l.n
