-- The greatest of a number and those of a list: it is at least each, and at most what each is at most.
use Rattle.std.proofs.Common.{ℕ, ◌≤◌, max, fold, List, [], ◌∷◌, refl, arith, inl, inr}
use Rattle.law_lists.proofs.Shared.Lists.{IsIn}

pub at-least : (b : ℕ) (ns : List ℕ) → b ≤ fold max b ns
at-least b [] = omega arith
at-least b (n ∷ ns) = (let r = at-least (max b n) ns in omega (arith, r))

pub at-most : (b : ℕ) (ns : List ℕ) (n : ℕ) → IsIn n ns → n ≤ fold max b ns
at-most b [] n h = absurd h
at-most b (m ∷ ns) n (inl e) = (let r = at-least (max b m) ns in omega (arith, r, e))
at-most b (m ∷ ns) n (inr h) = at-most (max b m) ns n h

pub fold-most : (b m : ℕ) (ns : List ℕ) → b ≤ m → ((n : ℕ) → IsIn n ns → n ≤ m) → fold max b ns ≤ m
fold-most b m [] h k = h
fold-most b m (n ∷ ns) h k = (let q = k n (inl refl) in fold-most (max b n) m ns (omega (arith, h, q)) (λ o j. k o (inr j)))
