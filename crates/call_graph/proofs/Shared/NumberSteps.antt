-- What is left of numbers after a place, and the number there.
use Rattle.std.proofs.Common.{◌≡◌, ℕ, zero, suc, List, [], ◌∷◌, drop, refl}
use Rattle.call_graph.specs.Numbers.{value}

-- what is left after a place, and the number there
pub next-number : (k : ℕ) (all : List ℕ) (n : ℕ) (ns : List ℕ) → drop k all ≡ n ∷ ns → (drop (suc k) all ≡ ns) × (value all k ≡ n)
next-number zero [] n ns h = cc
next-number zero (x ∷ xs) n ns h = (cc, cc)
next-number (suc k) [] n ns h = cc
next-number (suc k) (x ∷ xs) n ns h = next-number k xs n ns h

pub past-number : (k : ℕ) (all : List ℕ) → drop k all ≡ [] → (drop (suc k) all ≡ []) × (value all k ≡ 0)
past-number zero [] h = (refl, refl)
past-number zero (x ∷ xs) h = cc
past-number (suc k) [] h = (refl, refl)
past-number (suc k) (x ∷ xs) h = past-number k xs h
