-- Numbers by places that are worked out one after another, those of what is called first.
-- They are what is found by following calls deeper and deeper, from some depth on.
use Rattle.std.specs.Prelude.{◌≡◌, ◌≤◌, ◌⊎◌, ℕ, Bool, true, false, List, length, get_or}
use Rattle.call_graph.specs.Numbers.{value}
use Rattle.call_graph.specs.declared.settled.Settled.{Settled}

-- whether a place is worked out
abbrev pub is_done : Settled → ℕ → Bool
is_done s place = get_or s.done.items place false

-- there are so many places
abbrev pub HasPlaces : ℕ → Settled → Type 0
HasPlaces count s = (length s.numbers.items ≡ count) × (length s.done.items ≡ count)

-- the numbers that are worked out are those of a list
abbrev pub Agrees : Settled → List ℕ → Type 0
Agrees s xs = (place : ℕ) → is_done s place ≡ true → value s.numbers.items place ≡ value xs place

-- they are those of each list of a row from one on
abbrev pub AgreesFrom : ℕ → (ℕ → List ℕ) → Settled → Type 0
AgreesFrom from made s = (depth : ℕ) → from ≤ depth → Agrees s (made depth)

-- what is worked out after one place more: that place with its number, and what was worked out before
abbrev pub IsPut : Settled → ℕ → ℕ → Settled → Type 0
IsPut s place number t =
    (p : ℕ) → is_done t p ≡ true
    → ((p ≡ place) × (value t.numbers.items p ≡ number)) ⊎ ((is_done s p ≡ true) × (value t.numbers.items p ≡ value s.numbers.items p))
