-- Which words of a command line are handed on, of those that the kit's library gives.
-- It gives none of them where one is not UTF-8.
use Rattle.std.specs.Prelude.{◌≡◌, List, [], drop, Result, Ok, Err}
use Rattle.std.specs.IoError.{error_kind}
use Rattle.std.specs.declared.io.Error.{Error}
use Rattle.std.specs.declared.io.ErrorKind.TheVariants.{InvalidData}

-- the words behind the first, where the library gives all; none at all where one of them is not UTF-8
abbrev pub AreHanded : {A X : Type 0} → (A → List X) → Result A Error → List X → Type 0
AreHanded all (Ok given) words = words ≡ drop 1 (all given)
AreHanded all (Err e) words = (error_kind e ≡ InvalidData) × (words ≡ [])

-- that memory was wanted is answered for each other error
abbrev pub IsWanted : {A : Type 0} → Result A Error → Type 0
IsWanted (Ok given) = Unit {0}
IsWanted (Err e) = error_kind e ≡ InvalidData → ⊥
