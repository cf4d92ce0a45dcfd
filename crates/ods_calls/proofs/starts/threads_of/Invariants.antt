use Rattle.std.proofs.Common.{◌≡◌, ◌++◌, filter, map, drop}
use Rattle.ods_tree.specs.Walk.{is_terminal}
use Rattle.design_rules.specs.Lookups.{has_thread}
use Rattle.ods_index.specs.Walking.{object_of, standing_of}
use Rattle.ods_calls.proofs.starts.threads_of.Given as goal

-- the threads so far, and those of the objects that are left
abbrev pub invariant-objects : goal.invariant-objects
invariant-objects l =
    map (λ n. object_of n.now) l.threads.items
    ++ map (λ s. s.own) (filter (λ s. has_thread s.own.kind) (filter is_terminal (map standing_of (drop l.standing-index l.objects))))
    ≡ map (λ s. s.own) (filter (λ s. has_thread s.own.kind) (filter is_terminal (map standing_of l.objects)))
