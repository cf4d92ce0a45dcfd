use Rattle.std.proofs.Common.{◌≡◌, ℕ, ◌&&◌, ◌||◌, ◌==◌, [], map, filter, drop}
use Rattle.seq_tree.specs.Names.{Name, is_named}
use Rattle.ods_tree.specs.Trees.{provided_of}
use Rattle.design_rules.specs.Clashes.{is_request}
use Rattle.ods_names.specs.Keys.{has_key}
use Rattle.ods_index.specs.Walking.{object_of}
use Rattle.ods_names.proofs.taken.add_requests.Given as goal

-- the names so far, and those of the operations that are left
abbrev pub invariant-provides : goal.invariant-provides
invariant-provides l = (p : ℕ) (n : Name) →
    (has_key l.table p 0 [] n || (l.place == p
    && is_named (map (λ q. q.sig.name) (filter (is_request (object_of l.node)) (map provided_of (drop l.provided-index l.provides)))) n))
    ≡ (has_key l.initial.table p 0 [] n
    || (l.place == p && is_named (map (λ q. q.sig.name) (filter (is_request (object_of l.node)) (map provided_of l.provides))) n))
