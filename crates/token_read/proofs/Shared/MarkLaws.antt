-- The marks of one byte and of two, and the mark at the front of a text.
use Rattle.std.proofs.Common.{◌≡◌, ℕ, suc, Bool, true, false, ◌&&◌, cond, List, [], ◌∷◌, length, take, Option, Some, None, Ok, is_some, eqb, ltb}
use Rattle.std.proofs.Common.{if◌then◌else◌, refl, ap, ◌∙◌, arith}
use Rattle.std.proofs.lemmas.Bool.{and_right}
use Rattle.std.proofs.lemmas.List.{nil_from_length}
use Rattle.std.proofs.Math.Bool.{and-true}
use Rattle.seq_tree.specs.declared.token.Mark.{Mark}
use Rattle.seq_tree.specs.declared.token.Mark.TheVariants as mark
use Rattle.seq_tree.specs.declared.token.Token.TheVariants.{Sign}
use Rattle.seq_tree.specs.declared.token.Place.{Place}
use Rattle.seq_tree.specs.Marks.{mark_of}
use Rattle.seq_tree.specs.Lexis.{Other, longest, is_mark, front_by, mark_front}
use Rattle.seq_tree.proofs.Shared.Longest.{longest-cons, longest-nil, longest-never}

-- the mark of one byte
unfoldable pub single : ℕ → Option Mark
single c =
    if eqb c 40 then Some mark.LeftParen
    else if eqb c 41 then Some mark.RightParen
    else if eqb c 44 then Some mark.Comma
    else if eqb c 59 then Some mark.Semicolon
    else if eqb c 58 then Some mark.Colon
    else if eqb c 46 then Some mark.Dot
    else if eqb c 61 then Some mark.Equal
    else if eqb c 60 then Some mark.Less
    else if eqb c 62 then Some mark.Greater
    else if eqb c 43 then Some mark.Plus
    else if eqb c 45 then Some mark.Minus
    else if eqb c 42 then Some mark.Star
    else if eqb c 47 then Some mark.Slash
    else None

-- the mark of two bytes
unfoldable pub double : ℕ → ℕ → Option Mark
double c d =
    if eqb c 46 && eqb d 46 then Some mark.DotDot
    else if eqb c 58 && eqb d 61 then Some mark.Becomes
    else if eqb c 47 && eqb d 61 then Some mark.NotEqual
    else if eqb c 60 && eqb d 61 then Some mark.LessEqual
    else if eqb c 62 && eqb d 61 then Some mark.GreaterEqual
    else if eqb c 42 && eqb d 42 then Some mark.StarStar
    else None

eqb-swap : (a b : ℕ) → eqb a b ≡ eqb b a
eqb-swap a b = grind arith

-- nothing more may follow
no_more : (b : Bool) → (b && false) ≡ false
no_more b = and_right b false refl

pub mark_of-single : (c : ℕ) → mark_of (c ∷ []) ≡ single c
unfolding mark_of single
mark_of-single c = rw (
  eqb-swap c 40,
  eqb-swap c 41,
  eqb-swap c 44,
  eqb-swap c 59,
  eqb-swap c 58,
  eqb-swap c 46,
  eqb-swap c 61,
  eqb-swap c
      60,
  eqb-swap c 62,
  eqb-swap c 43,
  eqb-swap c 45,
  eqb-swap c 42,
  eqb-swap c 47,
) (simp (and-true, no_more))

pub mark_of-double : (c d : ℕ) → mark_of (c ∷ d ∷ []) ≡ double c d
unfolding mark_of double
mark_of-double c d = rw (
  eqb-swap c 46,
  eqb-swap d 46,
  eqb-swap c 58,
  eqb-swap d 61,
  eqb-swap c 47,
  eqb-swap c 60,
  eqb-swap c 62,
  eqb-swap c
      42,
  eqb-swap d 42,
) (simp (and-true, no_more))

-- no mark has three bytes
mark_of-long : (c d e : ℕ) (es : List ℕ) → mark_of (c ∷ d ∷ e ∷ es) ≡ None
unfolding mark_of
mark_of-long c d e es = simp (no_more)

pub ruleset one_byte = (mark_of-single)

pub ruleset two_bytes = (mark_of-double)

picks : (two one : Bool) → cond (ltb 0 (cond (ltb 0 0) 1 (cond two 1 0))) (suc (cond (ltb 0 0) 1 (cond two 1 0))) (cond one 1 0)
    ≡ cond two 2 (cond one 1 0)
picks true one = refl
picks false one = refl

-- the longest mark at the front, where there are two bytes and more
longest-marks : (c d : ℕ) (ds : List ℕ) → longest is_mark (c ∷ d ∷ ds)
    ≡ cond (is_some (mark_of (c ∷ d ∷ []))) 2 (cond (is_some (mark_of (c ∷ []))) 1 0)
longest-marks c d ds =
    let none : longest (λ xs. is_mark (c ∷ d ∷ xs)) ds ≡ 0
    = longest-never (λ xs. is_mark (c ∷ d ∷ xs)) (λ e es. ap is_some (mark_of-long c d e es)) ds in
    longest-cons is_mark c (d ∷ ds) ∙ rw (longest-cons (λ xs. is_mark (c ∷ xs)) d ds, none)
    (picks (is_some (mark_of (c ∷ d ∷ []))) (is_some (mark_of (c ∷ []))))

longest-mark : (c : ℕ) → longest is_mark (c ∷ []) ≡ cond (is_some (mark_of (c ∷ []))) 1 0
longest-mark c = longest-cons is_mark c [] ∙ rw (longest-nil (λ xs. is_mark (c ∷ xs))) refl

no_mark : mark_of [] ≡ None
unfolding mark_of
no_mark = refl

-- the mark at the front of a text, by its first byte and the second
pub front-double : (place : Place) (c d : ℕ) (ds : List ℕ) (m : Mark) → Some m ≡ mark_of (c ∷ d ∷ [])
    → front_by Other place (c ∷ d ∷ ds) ≡ Ok (record { token = Some (Sign m); len = 2 })
unfolding front_by
front-double place c d ds m e = rw (longest-marks c d ds, ← e) (rw (← e) refl)

-- the mark of one byte, where there is no longer one
front-one : (place : Place) (c : ℕ) (cs : List ℕ) (o : Option Mark) → mark_of (c ∷ []) ≡ o
    → mark_front (mark_of (take (cond (is_some o) 1 0) (c ∷ cs))) place (cond (is_some o) 1 0) ≡ mark_front o place 1
front-one place c cs None e = rw no_mark refl
front-one place c cs (Some m) e = rw e refl

pub front-single : (place : Place) (c d : ℕ) (ds : List ℕ) → None ≡ mark_of (c ∷ d ∷ [])
    → front_by Other place (c ∷ d ∷ ds) ≡ mark_front (mark_of (c ∷ [])) place 1
unfolding front_by
front-single place c d ds none = rw (longest-marks c d ds, ← none) (front-one place c (d ∷ ds) (mark_of (c ∷ [])) refl)

pub front-last : (place : Place) (c : ℕ) (cs : List ℕ) → length cs ≡ 0 → front_by Other place (c ∷ cs) ≡ mark_front (mark_of (c ∷ [])) place 1
unfolding front_by
front-last place c cs h = rw (nil_from_length cs h, longest-mark c) (front-one place c [] (mark_of (c ∷ [])) refl)

pub ruleset mark_fronts = (front-double, front-single, front-last)
