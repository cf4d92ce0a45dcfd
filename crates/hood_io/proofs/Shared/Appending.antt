-- Appending one piece after another: what a chain of writes appends, and where it stopped.
use Rattle.std.proofs.Common.{◌≡◌, ℕ, ◌+◌, List, [], ◌++◌, length, take, drop, Option, Some, None, Result, Ok, Err, refl, sym, ap, subst, ◌∙◌}
use Rattle.std.proofs.Common.{arith, append_assoc, append-nil, length-append}
use Rattle.std.proofs.Math.Seq.{take-add, take-append-add}
use Rattle.std.proofs.lemmas.List.{take-append-le}
use Rattle.hood_io.specs.Sinks.{Appends, Puts}

pub appends-none : (a : Option (List ℕ)) → Appends a a []
appends-none None = refl
appends-none (Some xs) = ap Some (sym (append-nil xs))

pub appends-twice : (a b c : Option (List ℕ)) (x y : List ℕ) → Appends a b x → Appends b c y → Appends a c (x ++ y)
appends-twice None b c x y p q = let P : Option (List ℕ) → Type 0 = λ o. Appends o c y in subst P p q
appends-twice (Some xs) b c x y p q =
    let P : Option (List ℕ) → Type 0 = λ o. Appends o c y in
    let r : c ≡ Some ((xs ++ x) ++ y) = subst P p q in
    r ∙ ap Some (append_assoc xs x y)

pub appends-more : (a b c : Option (List ℕ)) (bytes : List ℕ) (n k : ℕ) → Appends a b (take n bytes) → Appends b c (take k (drop n bytes))
    → Appends a c (take (n + k) bytes)
appends-more a b c bytes n k p q =
    let P : List ℕ → Type 0 = λ z. Appends a c z
    in subst P (sym (take-add n k bytes)) (appends-twice a b c (take n bytes) (take k (drop n bytes)) p q)

-- a text that is put behind one that was appended
pub puts-behind : {E : Type 0} (a b c : Option (List ℕ)) (x y : List ℕ) (r : Result (Unit {0}) E) → Appends a b x → Puts b c y r → Puts a c (x ++ y) r
puts-behind a b c x y (Ok u) p q = appends-twice a b c x y p q
puts-behind a b c x y (Err e) p q =
    let P : List ℕ → Type 0 = λ z. Appends a c z in
    (length x + q.0, simp length-append (omega (arith, q.1)), subst P (sym (take-append-add x y q.0)) (appends-twice a b c x (take q.0 y) p q.2))

-- a text that would have been put behind one that failed
pub puts-stopped : {E : Type 0} (a b : Option (List ℕ)) (x y : List ℕ) (e : E) → Puts a b x (Err e) → Puts a b (x ++ y) (Err e)
puts-stopped a b x y e p =
    let P : List ℕ → Type 0 = λ z. Appends a b z in
    (p.0, simp length-append (omega (arith, p.1)), subst P (sym (take-append-le p.0 x y (omega (arith, p.1)))) p.2)
