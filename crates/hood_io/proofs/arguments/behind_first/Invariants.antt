use Rattle.std.proofs.Common.{◌≡◌, ◌++◌, drop}
use Rattle.std.specs.Vec.Iter.{into_iter_items, into_iter_len}
use Rattle.hood_io.proofs.arguments.behind_first.Given as goal

-- the words so far, and then those that are still to come
abbrev pub invariant-words : goal.invariant-words
invariant-words l = l.words.items ++ into_iter_items l.all ≡ drop 1 (into_iter_items l.fn.all)

abbrev pub decreases-words : goal.decreases-words
decreases-words l = into_iter_len l.all
