use Rattle.std.proofs.Common.{◌≡◌, ◌++◌, flat_map, length, map}
use Rattle.hrthood_top.specs.Explanations.{chain_line}
use Rattle.hrthood_top.proofs.explain.add_chains.Given as goal

-- the lines so far, and those of the chains that are left
abbrev pub invariant-chains : goal.invariant-chains
invariant-chains l =
    l.text.items ++ flat_map (chain_line l.threads) (map (λ c. c.items) l.left)
    ≡ l.initial.text.items ++ flat_map (chain_line l.threads) (map (λ c. c.items) l.chains)

abbrev pub decreases-chains : goal.decreases-chains
decreases-chains l = length l.left
