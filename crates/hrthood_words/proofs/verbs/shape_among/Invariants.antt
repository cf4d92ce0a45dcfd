use Rattle.std.proofs.Common.{◌≡◌, map, drop}
use Rattle.hrthood_words.specs.Words.{shape_named}
use Rattle.hrthood_words.specs.Views.{listed}
use Rattle.hrthood_words.proofs.verbs.shape_among.Given as goal

-- it is up to the verbs that are left
abbrev pub invariant-words : goal.invariant-words
invariant-words l = shape_named (map listed (drop l.word-index l.words)) l.verb ≡ shape_named (map listed l.words) l.verb
