use Rattle.std.specs.Prelude.{map, string_bytes}
use Rattle.hrthood_words.specs.Words.{command_of}
use Rattle.hrthood_top.proofs.toolset.run.Goals as goal

pub returns : goal.returns
returns g c = c.do_read.ensures (command_of (map string_bytes c.args.words.now)) c.read_words.ensures.command
