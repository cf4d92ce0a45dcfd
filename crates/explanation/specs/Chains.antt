-- The response time and the jitter of a chain of requests, by what is reported of its threads.
-- All activations of a chain lie in one busy period of the level of its thread of lowest priority (Lehoczky 1990), so it takes at most the
-- response time of that thread.
use Rattle.std.specs.Prelude.{ℕ, List, fold, max, Option, Some, None}
use Rattle.explanation.specs.declared.reasons.Reasons.{Reasons}
use Rattle.explanation.specs.declared.values.Value.{Value}
use Rattle.explanation.specs.Values.{value_at}

-- the response time and the jitter of a thread, where they are known
abbrev pub response_in : Option Value → ℕ
response_in None = 0
response_in (Some v) = v.response

abbrev pub jitter_in : Option Value → ℕ
jitter_in None = 0
jitter_in (Some v) = v.jitter

-- the place of lowest priority among these, since threads stand by priority, the greatest first
abbrev pub lowest_place : List ℕ → ℕ
lowest_place chain = fold (λ lowest place. max lowest place) 0 chain

-- the response time of a chain: that of its thread of lowest priority
abbrev pub chain_response : List Reasons → List ℕ → ℕ
chain_response ts chain = response_in (value_at ts (lowest_place chain))

-- its jitter: that of its first thread, which comes last
abbrev pub chain_jitter : List Reasons → List ℕ → ℕ
chain_jitter ts chain = fold (λ jitter place. jitter_in (value_at ts place)) 0 chain
