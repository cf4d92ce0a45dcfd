-- Loops over items that add the lines of each: what one turn adds.
use Rattle.std.proofs.Common.{◌≡◌, ◌<◌, ℕ, suc, ◌+◌, List, ◌∷◌, ◌++◌, map, flat_map, length, drop, get_or, add-one, drop-cons, sym, ap, ◌∙◌}
use Rattle.std.proofs.Common.{append_assoc}
use Rattle.seq_tree.specs.Layout.{layout, line_text}
use Rattle.seq_tree.specs.Spelling.{Line}
use Rattle.seq_print.proofs.Shared.Depths.{layout-append}

items-next : {A : Type 0} (xs : List A) (i : ℕ) (x : A) → i < length xs → x ≡ get_or xs i x → drop i xs ≡ x ∷ drop (i + 1) xs
items-next xs i x h e = rw (add-one, drop-cons xs i x h) (ap (λ y. y ∷ drop (suc i) xs) (sym e))

-- the line of an item, and those of the items behind it
pub lines-next : {A : Type 0} (g : A → Line) (xs : List A) (i : ℕ) (x : A) → i < length xs → x ≡ get_or xs i x
    → layout (map g (drop i xs)) ≡ line_text (g x) ++ layout (map g (drop (i + 1) xs))
lines-next g xs i x h e = ap (λ ys. layout (map g ys)) (items-next xs i x h e)

-- and of items that are shown by another
pub views-next : {A B : Type 0} (g : B → Line) (view : A → B) (xs : List A) (i : ℕ) (x : A) → i < length xs → x ≡ get_or xs i x
    → layout (map g (map view (drop i xs))) ≡ line_text (g (view x)) ++ layout (map g (map view (drop (i + 1) xs)))
views-next g view xs i x h e = ap (λ ys. layout (map g (map view ys))) (items-next xs i x h e)

-- the lines of an item that has several
pub groups-next : {A B : Type 0} (g : B → List Line) (view : A → B) (xs : List A) (i : ℕ) (x : A) → i < length xs → x ≡ get_or xs i x
    → layout (flat_map g (map view (drop i xs))) ≡ layout (g (view x)) ++ layout (flat_map g (map view (drop (i + 1) xs)))
groups-next g view xs i x h e =
    ap (λ ys. layout (flat_map g (map view ys))) (items-next xs i x h e) ∙ layout-append (g (view x)) (flat_map g (map view (drop (i + 1) xs)))

-- a text more, where a whole is it and a rest
pub one-more : (before after first rest whole text : List ℕ) → after ≡ before ++ first → whole ≡ first ++ rest → before ++ whole ≡ text
    → after ++ rest ≡ text
one-more before after first rest whole text e w all = ap (λ t. t ++ rest) e ∙ append_assoc before first rest ∙ ap (λ t. before ++ t) (sym w) ∙ all
