use Rattle.std.proofs.Common.{◌≡◌, drop, filter_map, map}
use Rattle.ods_tree.specs.Walk.{is_terminal, only_if}
use Rattle.design_rules.specs.Broken.{V05}
use Rattle.design_rules.specs.Fittings.{misfits}
use Rattle.ods_index.specs.Judging.{head_of}
use Rattle.ods_index.specs.Walking.{standing_of}
use Rattle.ods_forms.proofs.fittings.first_bad_fitting.Given as goal

-- the first is among those that are left
abbrev pub invariant-objects : goal.invariant-objects
invariant-objects l =
    head_of (filter_map (λ s. only_if (misfits (is_terminal s) s) (V05 s.own.name)) (map standing_of (drop l.standing-index l.objects)))
    ≡ head_of (filter_map (λ s. only_if (misfits (is_terminal s) s) (V05 s.own.name)) (map standing_of l.objects))
