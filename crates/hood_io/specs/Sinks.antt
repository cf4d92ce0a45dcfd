-- What a sink was given: a list of bytes that grows at its end, where the sink tells it.
-- A sink that tells nothing has None before and after, and no clause speaks of its bytes.
use Rattle.std.specs.Prelude.{◌≡◌, ℕ, ◌<◌, ◌≤◌, List, [], ◌++◌, length, take, Option, Some, None, Result, Ok, Err}

-- the second list is the first with these bytes at its end, where they are told
abbrev pub Appends : Option (List ℕ) → Option (List ℕ) → List ℕ → Type 0
Appends None now bytes = now ≡ None
Appends (Some before) now bytes = now ≡ Some (before ++ bytes)

-- the part of a piece that a write took
abbrev pub taken_of : {E : Type 0} → List ℕ → Result ℕ E → List ℕ
taken_of piece (Ok n) = take n piece
taken_of piece (Err e) = []

-- a write takes at least one byte of a piece that isn't empty, and only such a piece fails
abbrev pub Takes : {E : Type 0} → List ℕ → Result ℕ E → Type 0
Takes piece (Ok n) = (n ≤ length piece) × (0 < length piece → 0 < n)
Takes piece (Err e) = 0 < length piece

-- all of the text was appended, or after a failure a proper front of it
abbrev pub Puts : {E : Type 0} → Option (List ℕ) → Option (List ℕ) → List ℕ → Result (Unit {0}) E → Type 0
Puts before now text (Ok u) = Appends before now text
Puts before now text (Err e) = (n : ℕ) × (n < length text) × Appends before now (take n text)
