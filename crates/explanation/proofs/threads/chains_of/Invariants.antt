use Rattle.std.proofs.Common.{◌≡◌, ◌++◌, ◌+◌, ◌≤◌, length, map}
use Rattle.std.specs.List.{enumerate_from}
use Rattle.response_terms.specs.Paths.{chain_up}
use Rattle.explanation.specs.Threads.{chains}
use Rattle.explanation.proofs.threads.chains_of.Given as goal

-- the chains so far, and those of the rows that are left
abbrev pub invariant-rows : goal.invariant-rows
invariant-rows l = record {
  same : map (λ c. c.items) l.found.items ++ map (λ x. chain_up l.table x.0) (enumerate_from l.at l.left) ≡ chains l.table;
  few : l.at + length l.left ≤ 30;
}

abbrev pub decreases-rows : goal.decreases-rows
decreases-rows l = length l.left
