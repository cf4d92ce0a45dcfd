use Rattle.std.proofs.Common.{map, string_bytes}
use Rattle.clap.specs.Simple.{app_of}
use Rattle.hrthood_words.proofs.ParserCommands.{parse-kinds, parse-matches}
use Rattle.hrthood_words.proofs.parsing.parse.Goals as goal

pub returns : goal.returns
returns c = record {
  ok = parse-matches (app_of c.in_ok-command_line.field-0) (map string_bytes c.args.words.now) c.try_get_matches_from.result
      c.in_ok-command_line.ensures c.try_get_matches_from.ensures.matches;
  kinds = parse-kinds (app_of c.in_ok-command_line.field-0) (map string_bytes c.args.words.now) c.try_get_matches_from.result
      c.in_ok-command_line.ensures c.try_get_matches_from.ensures.kinds;
}
