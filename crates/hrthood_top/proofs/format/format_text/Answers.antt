use Rattle.ods_tree.specs.Trees.{design_of}
use Rattle.hrthood_top.proofs.FormatLaws.{formatted}
use Rattle.hrthood_top.proofs.format.format_text.Goals as goal

pub returns-in-Ok-print_design : goal.returns-in-Ok-print_design
returns-in-Ok-print_design c = formatted c.args.design.now c.in-Ok-print_design.text.items (design_of c.in-Ok.read) c.in-Ok.ensures.says
    c.in-Ok-print_design.ensures
