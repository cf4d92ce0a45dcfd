use Rattle.std.proofs.Common.{◌≡◌, drop, map}
use Rattle.seq_tree.specs.Proper.{is_among}
use Rattle.words.proofs.names.is_among.Given as goal

abbrev pub invariant-words : goal.invariant-words
invariant-words l = is_among (map (λ w. w.now) (drop l.word-index l.words)) l.name ≡ is_among (map (λ w. w.now) l.words) l.name
