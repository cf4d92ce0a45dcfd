-- The arrivals of a sample: each sporadic thread is requested from outside as often as it allows, at the multiples of its separation.
-- The horizon is 10,000 ticks, and requests stand by time, then by thread. The format is this project's own.
use Rattle.std.specs.Prelude.{ℕ, ◌+◌, ◌/◌, ◌%◌, ◌==◌, ◌&&◌, Bool, List, ◌++◌, map, filter, flat_map, codes, decimal}
use Rattle.sample_design.specs.Samples.{from_to, is_sporadic, thread_name, thread_time}

-- a request of a thread at a time; the value counts the thread's requests from 0
pub record Request : Type 0 where
  pub time : ℕ
  pub thread : ℕ
  pub value : ℕ

-- whether a thread of so many is requested at a time
abbrev pub is_due : ℕ → ℕ → ℕ → Bool
is_due n time k = is_sporadic k && (time % thread_time n k == 0)

-- the request of a thread of so many at a time at which it is requested
abbrev pub request_at : ℕ → ℕ → ℕ → Request
request_at n time k = record { time = time; thread = k; value = time / thread_time n k }

-- the requests of some of so many threads at a time
abbrev pub requests_among : ℕ → ℕ → List ℕ → List Request
requests_among n time threads = map (request_at n time) (filter (is_due n time) threads)

-- the requests of so many threads at a time
abbrev pub requests_at : ℕ → ℕ → List Request
requests_at n time = requests_among n time (from_to 1 (n + 1))

-- all requests of so many threads up to the horizon
abbrev pub requests : ℕ → List Request
requests n = flat_map (requests_at n) (from_to 0 10001)

-- a request as it is written
abbrev pub request_line : Request → List ℕ
request_line r =
    codes "AT " ++ (decimal r.time ++ (codes " " ++ (thread_name r.thread ++ (codes " " ++ (decimal r.value ++ codes ";\n")))))

-- requests as they are written
abbrev pub request_lines : List Request → List ℕ
request_lines rs = flat_map request_line rs

-- the arrivals of so many threads
abbrev pub sample_arrivals : ℕ → List ℕ
sample_arrivals n = codes "UNTIL 10000;\n" ++ request_lines (requests n)
