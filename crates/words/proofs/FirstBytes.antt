-- The words that begin with a byte, by the number that the byte is.
use Rattle.std.specs.Prelude.{◌≡◌, ℕ, List}
use Rattle.std.proofs.Common.{sym, subst}
use Rattle.words.specs.Begun.{AreWith}

pub with-byte : (all : List (List ℕ)) {first : ℕ} (byte : ℕ) → first ≡ byte → (words : List (List ℕ))
    → ((rest : List ℕ) → AreWith all words byte rest) → (rest : List ℕ) → AreWith all words first rest
with-byte all byte is words with' rest = subst (λ b. AreWith all words b rest) (sym is) (with' rest)
