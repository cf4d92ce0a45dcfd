use Rattle.std.proofs.Common.{◌∙◌, ap₂, None}
use Rattle.ods_tree.specs.Layout.{design_text}
use Rattle.sample_design.specs.Samples.{costs}
use Rattle.sample_design.proofs.sampling.sample.Goals as goal

pub returns-clause-design : goal.returns-clause-design
returns-clause-design c =
    c.in_ok-format.ensures
    ∙ ap₂ (λ name root. design_text (record { name = name; version = None; costs = costs; root = root })) c.in_ok-folded.ensures c.in_ok-plant.ensures
