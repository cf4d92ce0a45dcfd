use Rattle.std.proofs.Common.{◌∙◌, sym}
use Rattle.hrthood_words.proofs.ParserCommands.{found-is}
use Rattle.hrthood_words.proofs.reading.found_command.Goals as goal

pub returns-clause-command : goal.returns-clause-command
returns-clause-command c =
    c.given_command.ensures.command ∙ sym (found-is c.args.matches.now c.in_ok-verb.words.now c.in_ok-verb.verb.now (sym c.in_ok-verb.ensures.name)
    (sym c.in_ok-verb.ensures.rows))
