-- Bytes cut at each byte of one kind: the words of a line between its spaces, the lines of a text between its line feeds.
-- There is one piece more than there are such bytes, and a piece may be empty.
use Rattle.std.specs.Prelude.{ℕ, ◌==◌, List, [], ◌∷◌, if◌then◌else◌}

-- a byte put in front of the first piece
abbrev pub push : ℕ → List (List ℕ) → List (List ℕ)
push b [] = (b ∷ []) ∷ []
push b (w ∷ ws) = (b ∷ w) ∷ ws

-- the pieces
abbrev pub cut : ℕ → List ℕ → List (List ℕ)
cut c [] = [] ∷ []
cut c (b ∷ bs) = if b == c then [] ∷ cut c bs else push b (cut c bs)
