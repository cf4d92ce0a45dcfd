-- Names counted one by one.
use Rattle.std.proofs.Common.{◌≡◌, ℕ, ◌+◌, Bool, true, false, cond, Option, Some, refl, ap, arith}
use Rattle.std.proofs.lemmas.Slice.Eq.{bytes_eq-Decides}
use Rattle.seq_tree.specs.Names.{Name, same_name}
use Rattle.name_sets.specs.Tables.{or_0}

counted_by : (b : Bool) (count : ℕ) (old : Option ℕ) → (b ≡ true → count ≡ or_0 old) → or_0 (cond b (Some (count + 1)) old) ≡ or_0 old + cond b 1 0
counted_by true count old same = ap (λ k. k + 1) (same refl)
counted_by false count old same = omega arith

-- a name counted once more, and the others as before
pub counted_name : (name n : Name) (counts : Name → Option ℕ) →
    or_0 (cond (same_name name n) (Some (or_0 (counts name) + 1)) (counts n)) ≡ or_0 (counts n) + cond (same_name name n) 1 0
counted_name name n counts =
    counted_by (same_name name n) (or_0 (counts name)) (counts n) (λ e. ap (λ m. or_0 (counts m)) ((bytes_eq-Decides name n).0 e))
