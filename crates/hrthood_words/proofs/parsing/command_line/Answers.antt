use Rattle.std.proofs.Common.{◌≡◌, ◌∙◌, ap, codes}
use Rattle.std.proofs.lemmas.Result.{IfOk-weaker}
use Rattle.clap.specs.Simple.{App, app_of}
use Rattle.hrthood_words.specs.Words.{verbs}
use Rattle.hrthood_words.specs.Parsing.{command_line, with_verbs}
use Rattle.hrthood_words.proofs.ParserCommands.{begun, line-begun}
use Rattle.hrthood_words.proofs.parsing.command_line.Goals as goal

pub returns : goal.returns
returns c =
    let bare : app_of c.subcommand_required-line.result ≡ begun (codes "hrthood") =
    line-begun c.new.result c.no_binary_name.result c.subcommand_required-line.result (codes "hrthood") c.new.ensures.app c.no_binary_name.ensures c.subcommand_required-line.ensures in
    IfOk-weaker c.with_verbs.result _ (λ r. app_of r ≡ command_line) (λ r h. h ∙ ap (λ (a : App). with_verbs a verbs) bare) c.with_verbs.ensures
