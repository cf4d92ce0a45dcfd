-- Requests as they are written, one after another.
use Rattle.std.proofs.Common.{◌≡◌, ℕ, ◌+◌, ◌<◌, ◌≤◌, Bool, true, false, List, [], ◌∷◌, ◌++◌, map, filter, flat_map, refl, ap, ◌∙◌}
use Rattle.std.proofs.Common.{append_assoc, append-nil}
use Rattle.std.specs.Prelude.{if◌then◌else◌}
use Rattle.std.proofs.lemmas.Grind.{flat_map-append}
use Rattle.sample_design.specs.Samples.{from_to}
use Rattle.sample_design.specs.Requests.{is_due, request_at, request_line, request_lines, requests_among, requests_at}
use Rattle.sample_design.proofs.Shared.NumberSteps.{from_to-step, from_to-none}

-- the line of a thread's request, where it has one at a time
abbrev pub due_line : ℕ → ℕ → ℕ → List ℕ
due_line n time k = if is_due n time k then request_line (request_at n time k) else []

among-cons : (n time k : ℕ) (ks : List ℕ) → request_lines (requests_among n time (k ∷ ks))
    ≡ due_line n time k ++ request_lines (requests_among n time ks)
among-cons n time k ks = by (is_due n time k)
  where
    by : (due : Bool) → request_lines (map (request_at n time) (if due then k ∷ filter (is_due n time) ks else filter (is_due n time) ks))
        ≡ (if due then request_line (request_at n time k) else []) ++ request_lines (requests_among n time ks)
    by true = refl
    by false = refl

-- the threads from one on: first that one
pub among-step : (n time k end : ℕ) → k < end
    → request_lines (requests_among n time (from_to k end)) ≡ due_line n time k ++ request_lines (requests_among n time (from_to (k + 1) end))
among-step n time k end h =
    ap (λ ks. request_lines (requests_among n time ks)) (from_to-step k end h) ∙ among-cons n time k (from_to (k + 1) end)

pub among-none : (n time k end : ℕ) → end ≤ k → request_lines (requests_among n time (from_to k end)) ≡ []
among-none n time k end h = ap (λ ks. request_lines (requests_among n time ks)) (from_to-none k end h)

-- the times from one on: first that one
pub times-step : (n time end : ℕ) → time < end
    → request_lines (flat_map (requests_at n) (from_to time end)) ≡ request_lines (requests_at n time)
    ++ request_lines (flat_map (requests_at n) (from_to (time + 1) end))
times-step n time end h =
    ap (λ ts. request_lines (flat_map (requests_at n) ts)) (from_to-step time end h)
    ∙ flat_map-append request_line (requests_at n time) (flat_map (requests_at n) (from_to (time + 1) end))

pub times-none : (n time end : ℕ) → end ≤ time → request_lines (flat_map (requests_at n) (from_to time end)) ≡ []
times-none n time end h = ap (λ ts. request_lines (flat_map (requests_at n) ts)) (from_to-none time end h)

pub ruleset line_steps = (append_assoc)

pub ruleset request_steps = (among-step, among-none, times-step, times-none, append_assoc, append-nil)
