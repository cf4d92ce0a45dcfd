use Rattle.std.proofs.Common.{◌≡◌, map, drop, flat_map}
use Rattle.std.specs.List.{list_all}
use Rattle.seq_tree.specs.Calls.{block_works}
use Rattle.seq_tree.specs.Limits.{is_within}
use Rattle.ods_tree.specs.Trees.{body_of}
use Rattle.ods_forms.specs.Limits.{most_ticks}
use Rattle.ods_forms.proofs.numbers.do_bodies_fit.Given as goal

-- it is up to those that are left
abbrev pub invariant-bodies : goal.invariant-bodies
invariant-bodies l =
    list_all (is_within 1 most_ticks) (flat_map (λ b. block_works b.block) (map body_of (drop l.body-index l.bodies)))
    ≡ list_all (is_within 1 most_ticks) (flat_map (λ b. block_works b.block) (map body_of l.bodies))
