-- Tokens that a text can hold, in lists and lines: all of a list are where all of its parts are.
use Rattle.std.proofs.Common.{◌≡◌, Bool, true, ◌&&◌, List, [], ◌∷◌, ◌++◌, map, flat_map, refl, sym, ap, ◌∙◌, inl, inr}
use Rattle.std.specs.List.{list_all}
use Rattle.std.proofs.lemmas.Bool.{and_parts, and_from}
use Rattle.std.proofs.lemmas.Grind.{flat_map-append}
use Rattle.std.proofs.lemmas.List.Folds.{list_all-append}
use Rattle.seq_tree.specs.Spelling.{Line, joined}
use Rattle.seq_tree.specs.declared.token.Token.{Token}
use Rattle.seq_print.specs.Readable.{is_readable}
use Rattle.law_lists.proofs.Shared.Lists.{IsIn, in-flat}
use Rattle.law_designs.proofs.Shared.Lists.{all-from, all-in}

-- tokens that a text can hold
abbrev pub AreLegible : List Token → Type 0
AreLegible ts = list_all is_readable ts ≡ true

pub both : (xs ys : List Token) → AreLegible xs → AreLegible ys → AreLegible (xs ++ ys)
both xs ys a b = list_all-append is_readable xs ys ∙ and_from (list_all is_readable xs) (list_all is_readable ys) a b

pub parts : (xs ys : List Token) → AreLegible (xs ++ ys) → AreLegible xs × AreLegible ys
parts xs ys h = and_parts (list_all is_readable xs) (list_all is_readable ys) (sym (list_all-append is_readable xs ys) ∙ h)

-- lines
abbrev pub HasLegible : List Line → Type 0
HasLegible ls = AreLegible (joined ls)

lines-split : (ls ms : List Line) → list_all is_readable (joined (ls ++ ms)) ≡ (list_all is_readable (joined ls) && list_all is_readable (joined ms))
lines-split ls ms = ap (list_all is_readable) (flat_map-append (λ (l : Line). l.tokens) ls ms) ∙ list_all-append is_readable (joined ls) (joined ms)

pub lines-both : (ls ms : List Line) → HasLegible ls → HasLegible ms → HasLegible (ls ++ ms)
lines-both ls ms a b = lines-split ls ms ∙ and_from (list_all is_readable (joined ls)) (list_all is_readable (joined ms)) a b

pub lines-parts : (ls ms : List Line) → HasLegible (ls ++ ms) → HasLegible ls × HasLegible ms
lines-parts ls ms h = and_parts (list_all is_readable (joined ls)) (list_all is_readable (joined ms)) (sym (lines-split ls ms) ∙ h)

-- a line before others
pub line-first : (l : Line) (ls : List Line) → AreLegible l.tokens → HasLegible ls → HasLegible (l ∷ ls)
line-first l ls a b = both l.tokens (joined ls) a b

pub lines-map : {A : Type 0} (f : A → Line) (xs : List A) → ((x : A) → IsIn x xs → AreLegible (f x).tokens) → HasLegible (map f xs)
lines-map f [] h = refl
lines-map f (x ∷ xs) h = line-first (f x) (map f xs) (h x (inl refl)) (lines-map f xs (λ y k. h y (inr k)))

pub lines-flat : {A : Type 0} (f : A → List Line) (xs : List A) → ((x : A) → IsIn x xs → HasLegible (f x)) → HasLegible (flat_map f xs)
lines-flat f [] h = refl
lines-flat f (x ∷ xs) h = lines-both (f x) (flat_map f xs) (h x (inl refl)) (lines-flat f xs (λ y k. h y (inr k)))

-- what stands among tokens that a text can hold
pub among : {A : Type 0} (test : Token → Bool) (f : A → List Token) (xs : List A) (x : A) → list_all test (flat_map f xs) ≡ true → IsIn x xs
    → list_all test (f x) ≡ true
among test f xs x h k = all-from test (f x) (λ t i. all-in test (flat_map f xs) t h (in-flat f x t xs k i))
