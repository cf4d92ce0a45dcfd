-- What is still to come of a list of words, of which none is left.
use Rattle.std.proofs.Common.{◌≡◌, [], sym, ◌∙◌}
use Rattle.std.proofs.lemmas.List.{nil_from_length}
use Rattle.std.specs.Vec.Iter.{into_iter_items, into_iter_len}
use Rattle.std.specs.declared.vec.IntoIter.{IntoIter}

pub none_left : {X Z : Type 0} (s : IntoIter X Z) → into_iter_len s ≡ 0 → into_iter_items s ≡ []
none_left s e = nil_from_length (into_iter_items s) (sym s.rest.ok.0 ∙ e)
