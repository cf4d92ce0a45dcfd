-- What a reader has given, of the bytes that it had left up to a limit.
use Rattle.std.proofs.Common.{◌≡◌, ℕ, zero, suc, List, [], ◌∷◌, ◌++◌, length, take, drop, Option, Some, None, IfSome, option_map, refl, subst}
use Rattle.std.specs.Io.KnownBytes.{Consumes}
use Rattle.hood_io.specs.Shelves.{IsFront}

front_of : (n : ℕ) (xs into ys : List ℕ) → take n xs ≡ into ++ ys → into ≡ take (length into) xs
front_of n xs [] ys q = refl
front_of zero xs (i ∷ into) ys q = cc
front_of (suc n) [] (i ∷ into) ys q = cc
front_of (suc n) (x ∷ xs) (i ∷ into) ys q =
    let r : take n xs ≡ into ++ ys = cc in
    let e : into ≡ take (length into) xs = front_of n xs into ys r in cc

given : (left new : Option (List ℕ)) (n : ℕ) (into : List ℕ) → Consumes (option_map (take n) left) new into
    → IfSome left (λ xs. IsFront into (Some xs))
given None new n into h = tt
given (Some xs) None n into h = absurd h
given (Some xs) (Some ys) n into h = front_of n xs into ys h

-- the same of a reader `inner`, which is `from`, and of a list that was empty before
pub given_to_empty : {S : Type 0} (left : S → Option (List ℕ)) (from inner : S) (new : Option (List ℕ)) (n : ℕ) (before into : List ℕ)
    → inner ≡ from → before ≡ [] → Consumes (option_map (take n) (left inner)) new (drop (length before) into)
    → IfSome (left from) (λ xs. IsFront into (Some xs))
given_to_empty {S} left from inner new n before into same empty h =
    let P : S → Type 0 = λ z. Consumes (option_map (take n) (left z)) new (drop (length before) into) in
    let Q : List ℕ → Type 0 = λ z. Consumes (option_map (take n) (left from)) new (drop (length z) into) in
    given (left from) new n into (subst Q empty (subst P same h))
