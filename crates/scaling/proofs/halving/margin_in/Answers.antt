use Rattle.std.proofs.Common.{Some, ap, option_map, subst, ◌∙◌}
use Rattle.ods_tree.specs.Trees.{flat_of}
use Rattle.scaling.specs.Failures.{IsFailureIn}
use Rattle.scaling.specs.declared.margin.Next.TheVariants.{Cost}
use Rattle.scaling.proofs.MarginLaws.{least-refuted}
use Rattle.scaling.proofs.halving.margin_in.Goals as goal

pub unreachable-requires : goal.unreachable-requires
unreachable-requires c =
    let only = option_map (λ n. n.now) c.args.only in
    let f = flat_of c.args.flat.now in
    let name = c.in-Some-Cost.field-0-0 in
    let part = c.in-Some-Cost.field-0-1 in
    let fails : IsFailureIn only f 1 (Some (Cost name part))
    = subst (IsFailureIn only f 1) (c.in-Some-Cost.is ∙ ap (λ n. Some n) c.in-Some-Cost.field-0-is) c.in_ok-failure.ensures in
    least-refuted only f name part c.requires.sound fails
