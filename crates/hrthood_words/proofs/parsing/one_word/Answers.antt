use Rattle.std.proofs.Common.{ap, codes}
use Rattle.std.proofs.lemmas.Result.{IfOk-weaker}
use Rattle.clap.specs.Simple.{App, new_shape}
use Rattle.hrthood_words.specs.Parsing.{IsVerb, needed, one_place, with_places}
use Rattle.hrthood_words.proofs.ParserCommands.{word-added}
use Rattle.hrthood_words.proofs.parsing.one_word.Goals as goal

pub returns : goal.returns
returns c =
    let fresh : IsVerb (new_shape c.args.verb.now) c.new.result = (ap (λ (x : App). x.top) c.new.ensures.app, c.new.ensures.local) in
    IfOk-weaker c.arg.result _ (IsVerb (with_places c.args.verb.now one_place))
    (λ r h. word-added c.new.result c.needed.result r (new_shape c.args.verb.now) (needed (codes "first")) h fresh c.needed.ensures.rule
    c.needed.ensures.local) c.arg.ensures
