use Rattle.hrthood_words.proofs.ParserCommands.{verbs-next}
use Rattle.hrthood_words.proofs.parsing.with_verbs.Goals as goal

pub words-preserved : goal.words-preserved
words-preserved c =
    verbs-next c.words.line c.in_ok-verb_tree.field-0 c.in_ok-line.line c.args.words.now c.words.word-index _ _ c.words-test.true
    c.in_ok-line.ensures c.in_ok-verb_tree.ensures c.words.invariant
