-- The places of what passes a test.
-- Places count from 0.
use Rattle.std.specs.Prelude.{ℕ, ◌+◌, Bool, true, false, List, [], ◌∷◌, ◌++◌}

-- a place where it counts, and none where it doesn't
abbrev pub place_if : Bool → ℕ → List ℕ
place_if true place = place ∷ []
place_if false place = []

-- the places of the items that pass a test, counted from this number
abbrev pub places_from : {A : Type 0} → (A → Bool) → ℕ → List A → List ℕ
places_from test n [] = []
places_from test n (x ∷ xs) = place_if (test x) n ++ places_from test (n + 1) xs
