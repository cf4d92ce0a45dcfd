-- Words that begin with a byte, among others: a name that begins so is one of the others exactly where it is one of these.
use Rattle.std.specs.Prelude.{◌≡◌, ℕ, List, ◌∷◌}
use Rattle.seq_tree.specs.Proper.{is_among}

abbrev pub AreWith : List (List ℕ) → List (List ℕ) → ℕ → List ℕ → Type 0
AreWith all words first rest = is_among words (first ∷ rest) ≡ is_among all (first ∷ rest)
