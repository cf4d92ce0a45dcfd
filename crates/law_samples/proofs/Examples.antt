-- Examples: the bounds of the samples of one thread, of two and of three.
use Rattle.std.specs.Prelude.{◌≡◌, ℕ, [], ◌∷◌, map, refl}
use Rattle.rt_response.specs.declared.rows.Bound.{Bound}
use Rattle.law_samples.specs.Laws.{sample_bounds}

abbrev bound : ℕ → ℕ → Bound
bound jitter response = record { jitter = jitter; response = response }

first_bounds : map sample_bounds (1 ∷ 2 ∷ 3 ∷ [])
    ≡ (bound 0 12 ∷ []) ∷ (bound 0 13 ∷ bound 2 24 ∷ []) ∷ (bound 0 13 ∷ bound 2 25 ∷ bound 0 36 ∷ []) ∷ []
first_bounds = refl
