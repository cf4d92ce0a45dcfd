use Rattle.std.proofs.Common.{refl, sym}
use Rattle.hrthood_top.specs.Commands.{design_verb}
use Rattle.hrthood_top.specs.Fetches.{texts_of}
use Rattle.hrthood_top.proofs.Ending.{ends-stop, ends-streamed}
use Rattle.hrthood_top.proofs.toolset.do_on_design.Goals as goal

pub returns-in-Ok : goal.returns-in-Ok
returns-in-Ok g c =
    ends-streamed (design_verb c.args.verb c.args.design.now) _ (texts_of c.in-Ok.texts) _ _ c.in-Ok.ensures.0 c.in-Ok.ensures.1
    (c.do_text.ensures c.args.design.now (texts_of c.in-Ok.texts) (sym c.deref.ensures.value))

pub returns-in-Err : goal.returns-in-Err
returns-in-Err g c = ends-stop texts_of (design_verb c.args.verb c.args.design.now) _ _ _ _ c.in-Err.ensures c.tell_stop.ensures refl
