-- What has been added at the end of a loop over a list.
use Rattle.std.proofs.Common.{◌≡◌, ℕ, ◌≤◌, List, [], ◌++◌, length, drop, sym, ap, ◌∙◌, append-nil}
use Rattle.std.proofs.lemmas.List.{drop_all, map-append}

-- all items have been gone through, so that all has been added
pub added_all : {A B : Type 0} (G : List A → List B) (xs : List A) (i : ℕ) (made all : List B) → length xs ≤ i → G [] ≡ []
    → made ++ G (drop i xs) ≡ all → made ≡ all
added_all G xs i made all ended none was =
    sym (append-nil made) ∙ ap (λ ys. made ++ ys) (sym none) ∙ ap (λ ys. made ++ G ys) (sym (drop_all i xs ended)) ∙ was

-- what is added at once
pub ruleset added_laws = (map-append)
