use Rattle.ods_tree.specs.Trees.{design_of}
use Rattle.ods_read.proofs.Shared.Counting.{objects-few}
use Rattle.hrthood_top.proofs.BackgroundLaws.{text-read}
use Rattle.hrthood_top.proofs.background_text.make_background.Goals as goal

pub deliver_background-requires : goal.deliver_background-requires
deliver_background-requires c = record {
  proper = c.in-Ok.ensures.says.proper;
  few = objects-few c.args.design.now (design_of c.in-Ok.read) c.in-Ok.ensures.says;
}

pub returns-in-Ok-deliver_background : goal.returns-in-Ok-deliver_background
returns-in-Ok-deliver_background c =
    text-read c.args.design.now (design_of c.in-Ok.read) c.in-Ok-deliver_background.made c.in-Ok.ensures.says
    c.in-Ok-deliver_background.ensures
