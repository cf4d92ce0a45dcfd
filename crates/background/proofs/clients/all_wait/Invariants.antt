use Rattle.std.proofs.Common.{◌≡◌, map, drop}
use Rattle.std.specs.List.{list_all}
use Rattle.ods_tree.specs.Trees.{provided_of}
use Rattle.background_designs.specs.Clients.{is_hser}
use Rattle.background.proofs.clients.all_wait.Given as goal

-- it is up to those that are left
abbrev pub invariant-ops : goal.invariant-ops
invariant-ops l =
    list_all (λ p. is_hser p.constraint) (map provided_of (drop l.provided-index l.provides))
    ≡ list_all (λ p. is_hser p.constraint) (map provided_of l.provides)
