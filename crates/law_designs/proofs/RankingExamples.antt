-- Rankings of two threads: one, and what each clause refuses.
use Rattle.std.proofs.Common.{◌≡◌, ℕ, zero, suc, ◌≤◌, [], ◌∷◌, length, slice_get, Some, refl, arith}
use Rattle.ods_tree.specs.Flats.{Flat}
use Rattle.law_designs.specs.Rankings.{IsRanking}

module _ (f : Flat) (two : length f.threads ≡ 2) where
  ranking : IsRanking f (2 ∷ 1 ∷ [])
  ranking = record { count = sym-two; range = range; once = once }
    where
      sym-two : 2 ≡ length f.threads
      sym-two = omega (arith, two)

      range : (k p : ℕ) → slice_get (2 ∷ 1 ∷ []) k ≡ Some p → (1 ≤ p) × (p ≤ length f.threads)
      range zero p e = let z : 2 ≡ p = cc in (omega (arith, z), omega (arith, z, two))
      range (suc zero) p e = let z : 1 ≡ p = cc in (omega (arith, z), omega (arith, z, two))
      range (suc (suc k)) p e = cc

      once : (i j p : ℕ) → slice_get (2 ∷ 1 ∷ []) i ≡ Some p → slice_get (2 ∷ 1 ∷ []) j ≡ Some p → i ≡ j
      once zero zero p e g = refl
      once (suc zero) (suc zero) p e g = refl
      once zero (suc zero) p e g = let a : 2 ≡ p = cc in let b : 1 ≡ p = cc in absurd (omega (arith, a, b))
      once (suc zero) zero p e g = let a : 2 ≡ p = cc in let b : 1 ≡ p = cc in absurd (omega (arith, a, b))
      once (suc (suc i)) j p e g = cc
      once zero (suc (suc j)) p e g = cc
      once (suc zero) (suc (suc j)) p e g = cc

  one-short : IsRanking f (1 ∷ []) → ⊥
  one-short r = omega (arith, r.count, two)

  from-zero : IsRanking f (1 ∷ 0 ∷ []) → ⊥
  from-zero r = omega (arith, (r.range 1 0 refl).0)

  too-high : IsRanking f (1 ∷ 3 ∷ []) → ⊥
  too-high r = omega (arith, (r.range 1 3 refl).1, two)

  given-twice : IsRanking f (1 ∷ 1 ∷ []) → ⊥
  given-twice r = omega (arith, r.once 0 1 1 refl refl)
