-- Examples: tokens without their places, and the places of tokens and of the end of a text.
use Rattle.std.specs.Prelude.{◌≡◌, List, [], ◌∷◌, map, Some, None, codes, refl}
use Rattle.seq_tree.specs.declared.token.Spanned.{Spanned}
use Rattle.seq_tree.specs.declared.token.Token.TheVariants.{Word, Number}
use Rattle.token_read.specs.Words.{bare}
use Rattle.token_read.specs.Places.{place_or}

abbrev second : Spanned
second = record { token = Number 5; place = record { line = 1; column = 3 } }

abbrev found : List Spanned
found = record { token = Word (codes "a"); place = record { line = 1; column = 1 } } ∷ second ∷ []

without_places : bare found ≡ Word (codes "a") ∷ Number 5 ∷ []
without_places = refl

-- a token has its own place
of_a_token : place_or (codes "a 5") (Some second) ≡ record { line = 1; column = 3 }
of_a_token = refl

-- the end of a text stands behind its last byte, and behind a line's end the next line begins
of_the_end : map (λ bytes. place_or bytes None) ([] ∷ codes "a 5" ∷ codes "a\nbc" ∷ codes "a\n" ∷ [])
    ≡ record { line = 1; column = 1 } ∷ record { line = 1; column = 4 } ∷ record { line = 2; column = 3 } ∷ record { line = 2; column = 1 } ∷ []
of_the_end = refl
