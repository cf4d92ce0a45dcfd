use Rattle.std.proofs.Common.{◌≡◌, map, drop}
use Rattle.std.specs.List.{list_any}
use Rattle.ods_tree.specs.Trees.{provided_of}
use Rattle.background_designs.specs.Clients.{is_hser}
use Rattle.background.proofs.clients.any_waits.Given as goal

-- it is up to those that are left
abbrev pub invariant-ops : goal.invariant-ops
invariant-ops l =
    list_any (λ p. is_hser p.constraint) (map provided_of (drop l.provided-index l.provides))
    ≡ list_any (λ p. is_hser p.constraint) (map provided_of l.provides)
