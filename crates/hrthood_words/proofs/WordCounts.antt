-- Words that are as many as no command has.
use Rattle.std.proofs.Common.{◌≡◌, ◌∙◌, ◌≤◌, List, [], ◌∷◌, length, map, Option, Some, None, refl, ap, arith}
use Rattle.std.specs.Prelude.{option_and_then}
use Rattle.clap.specs.Walk.{Text}
use Rattle.hrthood_words.specs.declared.verbs.Shape.{Shape}
use Rattle.hrthood_words.specs.declared.verbs.Shape.TheVariants.{Design, AdaArrivals, DesignArrivals, DesignArrivalsTrace, Count}
use Rattle.hrthood_words.specs.Words.{command_of, command_with, shape_named, verb_command, verbs}
use Rattle.hrthood_words.specs.Parsing.{words_found}

-- a verb alone
alone : (shape : Option Shape) → option_and_then (λ s. command_with s []) shape ≡ None
alone None = refl
alone (Some (Design verb)) = refl
alone (Some AdaArrivals) = refl
alone (Some DesignArrivals) = refl
alone (Some DesignArrivalsTrace) = refl
alone (Some Count) = refl

-- a verb with four words or more
crowded : (shape : Option Shape) (a b c d : Text) (more : List Text)
    → option_and_then (λ s. command_with s (a ∷ b ∷ c ∷ d ∷ more)) shape ≡ None
crowded None a b c d more = refl
crowded (Some (Design verb)) a b c d more = refl
crowded (Some AdaArrivals) a b c d more = refl
crowded (Some DesignArrivals) a b c d more = refl
crowded (Some DesignArrivalsTrace) a b c d more = refl
crowded (Some Count) a b c d more = refl

-- no word follows the first
pub alone-none : {X : Type 0} (bytes : X → Text) (words : List X) (verb : X) (behind : List X) → words ≡ verb ∷ behind → length behind ≡ 0
    → command_of (map bytes words) ≡ None
alone-none bytes words verb [] e short = ap (λ z. command_of (map bytes z)) e ∙ alone (shape_named verbs (bytes verb))
alone-none bytes words verb (x ∷ xs) e short = absurd (omega (arith, short))

-- none was found behind it
pub unfound-none : (verb : Text) (a b c : Option Text) → a ≡ None → verb_command verb (words_found a b c) ≡ None
unfound-none verb None b c e = alone (shape_named verbs verb)
unfound-none verb (Some a) b c e = absurd (cc e)

-- four or more follow it
pub crowded-none : {X : Type 0} (bytes : X → Text) (words : List X) (verb a b c : X) (behind after past rest : List X) → words ≡ verb ∷ behind
    → behind ≡ a ∷ after → after ≡ b ∷ past → past ≡ c ∷ rest → 1 ≤ length rest → command_of (map bytes words) ≡ None
crowded-none bytes words verb a b c behind after past [] e f g h long = absurd (omega (arith, long))
crowded-none bytes words verb a b c behind after past (d ∷ more) e f g h long =
    ap (λ z. command_of (map bytes z)) (e ∙ ap (λ z. verb ∷ z) (f ∙ ap (λ z. a ∷ z) (g ∙ ap (λ z. b ∷ z) h)))
    ∙ crowded (shape_named verbs (bytes verb)) (bytes a) (bytes b) (bytes c) (bytes d) (map bytes more)
