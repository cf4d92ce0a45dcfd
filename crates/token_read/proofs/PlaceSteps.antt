-- The place past some bytes, one byte at a time.
use Rattle.std.proofs.Common.{◌≡◌, ℕ, ◌+◌, ◌<◌, ◌≤◌, List, length, drop, get_or, refl, add-one, drop-cons}
use Rattle.std.proofs.lemmas.List.{drop_all}
use Rattle.seq_tree.specs.declared.token.Place.{Place}
use Rattle.seq_tree.specs.Lexis.{place_after, place_past}

pub place_past-turn : (place : Place) (cs : List ℕ) (i : ℕ) → i < length cs → place_past place (drop i cs)
    ≡ place_past (place_after place (get_or cs i 0)) (drop (i + 1) cs)
place_past-turn place cs i h = rw (drop-cons cs i 0, add-one) refl

pub place_past-end : (place : Place) (cs : List ℕ) (i : ℕ) → length cs ≤ i → place_past place (drop i cs) ≡ place
place_past-end place cs i h = rw (drop_all) refl

pub ruleset place_steps = (place_past-turn, place_past-end)
