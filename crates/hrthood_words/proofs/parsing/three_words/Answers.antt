use Rattle.std.proofs.Common.{ap, codes}
use Rattle.std.proofs.lemmas.Result.{IfOk-weaker}
use Rattle.clap.specs.Simple.{App, new_shape}
use Rattle.hrthood_words.specs.Parsing.{IsVerb, needed, one_place, two_places, three_places, with_places}
use Rattle.hrthood_words.proofs.ParserCommands.{word-added}
use Rattle.hrthood_words.proofs.parsing.three_words.Goals as goal

pub returns : goal.returns
returns c =
    let fresh : IsVerb (new_shape c.args.verb.now) c.new.result = (ap (λ (x : App). x.top) c.new.ensures.app, c.new.ensures.local) in
    let one : IsVerb (with_places c.args.verb.now one_place) c.in_ok-arg.field-0 =
    word-added c.new.result c.needed.result c.in_ok-arg.field-0 (new_shape c.args.verb.now) (needed (codes "first")) c.in_ok-arg.ensures fresh
    c.needed.ensures.rule c.needed.ensures.local in
    let two : IsVerb (with_places c.args.verb.now two_places) c.in_ok-arg-2.field-0 =
    word-added c.in_ok-arg.field-0 c.needed-2.result c.in_ok-arg-2.field-0 (with_places c.args.verb.now one_place) (needed (codes "second"))
    c.in_ok-arg-2.ensures one c.needed-2.ensures.rule c.needed-2.ensures.local in
    IfOk-weaker c.arg-3.result _ (IsVerb (with_places c.args.verb.now three_places))
    (λ r h. word-added c.in_ok-arg-2.field-0 c.needed-3.result r (with_places c.args.verb.now two_places) (needed (codes "third")) h two
    c.needed-3.ensures.rule c.needed-3.ensures.local) c.arg-3.ensures
