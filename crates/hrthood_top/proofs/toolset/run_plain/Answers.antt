use Rattle.std.proofs.Common.{sym}
use Rattle.std.specs.Prelude.{map, string_bytes}
use Rattle.hrthood_words.specs.Words.{command_of}
use Rattle.hrthood_top.proofs.toolset.run_plain.Goals as goal

pub returns-in-Some : goal.returns-in-Some
returns-in-Some g c =
    c.do_read.ensures (command_of (map string_bytes c.args.words.now)) (sym (rw c.in-Some.is at c.plain_command.ensures.command))

pub returns-in-None : goal.returns-in-None
returns-in-None g c =
    c.do_read-in-None.ensures (command_of (map string_bytes c.args.words.now)) (sym (rw c.in-None.is at c.plain_command.ensures.command))
