-- A tree that is read from all of the tokens.
use Rattle.std.proofs.Common.{◌≡◌, ◌<◌, List, [], ◌∷◌, length, Ok, Err, ap, ◌∙◌, refl, arith}
use Rattle.grammar.specs.Reading.{Read, Syntax, all_of, all_taken}

taken-end : {T A : Type 0} (a : A) (rest : List T) → length rest ≡ 0 → all_taken a rest ≡ Ok a
taken-end a [] h = refl
taken-end a (t ∷ ts) h = absurd (omega arith)

taken-more : {T A : Type 0} (a : A) (rest : List T) → 0 < length rest → all_taken a rest ≡ Err (Syntax (length rest))
taken-more a [] h = absurd (omega arith)
taken-more a (t ∷ ts) h = ap (λ n. Err (Syntax n)) (omega arith)

pub whole-end : {T A : Type 0} (q : Read T A) (a : A) (rest : List T) → q ≡ Ok (a, rest) → length rest ≡ 0 → all_of q ≡ Ok a
whole-end q a rest e h = ap all_of e ∙ taken-end a rest h

pub whole-more : {T A : Type 0} (q : Read T A) (a : A) (rest : List T) → q ≡ Ok (a, rest) → 0 < length rest → all_of q ≡ Err (Syntax (length rest))
whole-more q a rest e h = ap all_of e ∙ taken-more a rest h

pub ruleset whole_steps = (whole-end, whole-more)
