use Rattle.std.proofs.Common.{refl}
use Rattle.hrthood_words.specs.Views.{command_tree}
use Rattle.hrthood_top.proofs.RunsDone.{runs-done, runs-unread}
use Rattle.hrthood_top.proofs.toolset.do_read.Goals as goal

pub returns-in-Ok : goal.returns-in-Ok
returns-in-Ok g c =
    rw c.in-Ok.is (λ asked read. runs-done _ (command_tree c.in-Ok.command) asked _ _ read c.do_command.ensures.ends c.do_command.ensures.summed)

pub returns-in-Err : goal.returns-in-Err
returns-in-Err g c = rw c.in-Err.is (λ asked read. runs-unread c.in-Err.why _ asked _ _ read refl refl c.tell_unread.ensures)
