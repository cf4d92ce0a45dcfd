use Rattle.std.proofs.Common.{◌≡◌, ◌++◌, map, take, drop}
use Rattle.ods_tree.specs.Trees.{provided_of}
use Rattle.background_designs.specs.HardParts.{soft_operation}
use Rattle.background.proofs.hardening.soften_all.Given as goal

-- those so far are protected ones, and those that are left unchanged
abbrev pub invariant-provides : goal.invariant-provides
invariant-provides l =
    (map provided_of l.provides
    ≡ map soft_operation (take l.place (map provided_of l.initial.provides)) ++ drop l.place (map provided_of l.initial.provides))
