use Rattle.std.proofs.Common.{◌≡◌, map, drop}
use Rattle.clap.specs.Words.{app_of}
use Rattle.hrthood_words.specs.Parsing.{with_verbs}
use Rattle.hrthood_words.specs.Views.{listed}
use Rattle.hrthood_words.proofs.parsing.with_verbs.Given as goal

-- with the verbs that are left it comes to the whole
abbrev pub invariant-words : goal.invariant-words
invariant-words l = with_verbs (app_of l.line) (map listed (drop l.word-index l.words)) ≡ with_verbs (app_of l.fn.line) (map listed l.words)
