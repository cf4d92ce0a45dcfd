use Rattle.std.proofs.Common.{◌≡◌, ◌++◌}
use Rattle.sample_design.specs.Requests.{request_lines, requests_among}
use Rattle.sample_design.specs.Samples.{from_to}
use Rattle.sample_design.proofs.requests.put_requests.Given as goal

-- the requests so far, and those of the threads that are left
abbrev pub invariant-threads : goal.invariant-threads
invariant-threads l =
    l.text.items ++ request_lines (requests_among l.n l.time (from_to l.k l.end))
    ≡ l.initial.text.items ++ request_lines (requests_among l.n l.time (from_to 1 l.end))
