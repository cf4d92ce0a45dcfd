-- Greatest numbers that are worked out callees first are those of calls that are followed as deep as there were turns, or deeper.
use Rattle.std.proofs.Common.{◌≡◌, ◌≤◌, ◌<◌, ℕ, zero, suc, ◌+◌, true, List, [], ◌∷◌, length, zip, get_or, refl, sym, ◌∙◌, arith}
use Rattle.std.specs.List.{list_all}
use Rattle.std.proofs.lemmas.List.{length-map}
use Rattle.std.proofs.lemmas.Slice.Zip.{length-zip}
use Rattle.call_graph.specs.Numbers.{greatest_of, value}
use Rattle.call_graph.specs.Settled.{AgreesFrom, HasPlaces, IsPut, is_done}
use Rattle.call_graph.specs.declared.settled.Settled.{Settled}
use Rattle.call_graph.proofs.Shared.SettledLaws.{from-later, from-put, greatest-agrees, whole-agrees}
use Rattle.rt_block.specs.Spreads.{deeper, spread}

-- the number at a place, one call deeper
deeper-at : (inner : List (List ℕ)) (own xs : List ℕ) (place : ℕ) → length own ≡ length inner → place < length inner
    → value (deeper inner own xs) place ≡ greatest_of xs (get_or own place 0) (get_or inner place [])
deeper-at [] own xs place many less = absurd (omega (arith, less))
deeper-at (ps ∷ inner) [] xs place many less = absurd (omega (arith, many))
deeper-at (ps ∷ inner) (n ∷ own) xs zero many less = refl
deeper-at (ps ∷ inner) (n ∷ own) xs (suc place) many less = deeper-at inner own xs place (omega (arith, many)) (omega (arith, less))

-- a turn of following calls to the greatest number
pub spread-put : (inner : List (List ℕ)) (own : List ℕ) (place : ℕ) (s t : Settled) → length own ≡ length inner → place < length inner
    → list_all (is_done s) (get_or inner place []) ≡ true
    → IsPut s place (greatest_of s.numbers.items (get_or own place 0) (get_or inner place [])) t
    → (from : ℕ) → AgreesFrom from (λ d. spread d inner own) s → AgreesFrom (from + 1) (λ d. spread d inner own) t
spread-put inner own place s t many less all put from =
    from-put (deeper inner own) (λ d. spread d inner own) (λ d. refl) from place
    (greatest_of s.numbers.items (get_or own place 0) (get_or inner place [])) s t
    (λ xs agrees. greatest-agrees s xs (get_or own place 0) (get_or inner place []) agrees all ∙ sym (deeper-at inner own xs place many less)) put

pub spread-later : (inner : List (List ℕ)) (own : List ℕ) (s : Settled) (from : ℕ) → AgreesFrom from (λ d. spread d inner own) s
    → AgreesFrom (from + 1) (λ d. spread d inner own) s
spread-later inner own s from = from-later (deeper inner own) (λ d. spread d inner own) (λ d. refl) from s

-- there are as many numbers as operations
pub spread-long : (inner : List (List ℕ)) (own : List ℕ) → length own ≡ length inner → length (spread (length own) inner own) ≡ length own
spread-long inner [] h = refl
spread-long inner (n ∷ own) h =
    length-map (zip inner (n ∷ own)) (λ x. greatest_of (spread (length own) inner (n ∷ own)) x.1 x.0)
    ∙ let many = length-zip inner (n ∷ own) in omega (arith, many, h)

pub spread-whole : (inner : List (List ℕ)) (own : List ℕ) (from : ℕ) (s : Settled) → length own ≡ length inner → from ≤ length own
    → HasPlaces (length own) s → list_all (λ b. b) s.done.items ≡ true → AgreesFrom from (λ d. spread d inner own) s
    → s.numbers.items ≡ spread (length own) inner own
spread-whole inner own from s many few places all agrees =
    whole-agrees s (length own) (spread (length own) inner own) places all (spread-long inner own many) (agrees (length own) few)
