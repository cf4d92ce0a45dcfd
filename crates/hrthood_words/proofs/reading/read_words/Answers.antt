use Rattle.std.proofs.Common.{rules, ◌≡◌, ◌∙◌, map, string_bytes, true, ap}
use Rattle.hrthood_words.specs.Words.{command_of}
use Rattle.hrthood_words.specs.Parsing.{are_plain, found_command}
use Rattle.hrthood_words.proofs.ParserCommands.{has_kind}
use Rattle.hrthood_words.proofs.ParserLaws.{plain-reads}
use Rattle.hrthood_words.proofs.WordsRead.{read-found}
use Rattle.hrthood_words.proofs.reading.read_words.Goals as goal

pub why_unread-requires : goal.why_unread-requires
why_unread-requires c =
    let plain : are_plain (map string_bytes c.args.words.now) ≡ true = search rules in
    rw c.kind.ensures (has_kind (map string_bytes c.args.words.now) c.in-Err.fault plain c.in-Err.ensures.kinds)

pub returns-then-has_flags-clause-command : goal.returns-then-has_flags-clause-command
returns-then-has_flags-clause-command c =
    read-found (command_of (map string_bytes c.args.words.now)) c.plain_command.result c.ok_or.result c.ok_or.ensures.value
    c.plain_command.ensures.command

pub returns-in-Ok-clause-command : goal.returns-in-Ok-clause-command
returns-in-Ok-clause-command c =
    let plain : are_plain (map string_bytes c.args.words.now) ≡ true = search rules in
    read-found (command_of (map string_bytes c.args.words.now)) c.found_command.result c.ok_or-in-Ok.result c.ok_or-in-Ok.ensures.value
    (c.found_command.ensures.command ∙
    (ap found_command c.in-Ok.ensures.ok ∙ (plain-reads (map string_bytes c.args.words.now) plain).0 c.in-Ok.ensures.kinds))
