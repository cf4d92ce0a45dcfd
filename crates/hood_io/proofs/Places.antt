-- The file of a name, by the place of the first file that has it.
use Rattle.std.proofs.Common.{◌≡◌, ℕ, zero, suc, ◌<◌, Bool, true, false, cond, List, [], ◌∷◌, ◌++◌, length, get_or, Some, None, if◌then◌else◌}
use Rattle.std.proofs.Common.{position, refl, sym, ◌∙◌, arith}
use Rattle.std.specs.Str.{bytes_eq}
use Rattle.std.proofs.Math.ListN.{set}
use Rattle.std.proofs.lemmas.Bool.{ltb-false}
use Rattle.std.proofs.lemmas.List.Quantifiers.{position-Some}
use Rattle.std.proofs.lemmas.List.Sums.{fails_before_first}
use Rattle.std.proofs.lemmas.Slice.Eq.{bytes_eq-Decides}
use Rattle.hood_io.specs.declared.mem_shelf.File.{File}
use Rattle.hood_io.specs.MemShelf.{file_of}

abbrev named : List ℕ → File → Bool
named name f = bytes_eq f.name.items name

-- none of the files below this place has the name
abbrev NoneBelow : List File → List ℕ → ℕ → Type 0
NoneBelow fs name i = (k : ℕ) (d : File) → k < i → named name (get_or fs k d) ≡ false

later : (f : File) (fs : List File) (name : List ℕ) (i : ℕ) → NoneBelow (f ∷ fs) name (suc i) → NoneBelow fs name i
later f fs name i before k d lt = before (suc k) d (omega arith)

at : (fs : List File) (name : List ℕ) (i : ℕ) (d : File) → i < length fs → named name (get_or fs i d) ≡ true → NoneBelow fs name i
    → file_of fs name ≡ Some (get_or fs i d).bytes.items
at [] name i d below here before = absurd (omega arith)
at (f ∷ fs) name zero d below here before = rw here refl
at (f ∷ fs) name (suc i) d below here before = rw (before 0 f (omega arith)) (at fs name i d (omega arith) here (later f fs name i before))

absent : (fs : List File) (name : List ℕ) → NoneBelow fs name (length fs) → file_of fs name ≡ None
absent [] name before = refl
absent (f ∷ fs) name before = rw (before 0 f (omega arith)) (absent fs name (later f fs name (length fs) before))

-- two tests in either order, where at most one of them passes
in_turn : {A : Type 0} (a b : Bool) (x y z : A) → (a ≡ true → b ≡ true → ⊥) → (if a then x else (if b then y else z))
    ≡ (if b then y else (if a then x else z))
in_turn true true x y z never = absurd (never refl refl)
in_turn true false x y z never = refl
in_turn false true x y z never = refl
in_turn false false x y z never = refl

-- what a file gets that stands behind one of another name
behind : (f y : File) (name n : List ℕ) (others fs : List File) → named name f ≡ false
    → file_of others n ≡ (if bytes_eq name n then Some y.bytes.items else file_of fs n)
    → file_of (f ∷ others) n ≡ (if bytes_eq name n then Some y.bytes.items else file_of (f ∷ fs) n)
behind f y name n others fs other more =
    let never : bytes_eq f.name.items n ≡ true → bytes_eq name n ≡ true → ⊥ = λ p q. let same : f.name.items ≡ name
    = (bytes_eq-Decides f.name.items n).0 p ∙ sym ((bytes_eq-Decides name n).0 q) in
    let held : named name f ≡ true = (bytes_eq-Decides f.name.items name).1 same in cc in
    rw more (in_turn (bytes_eq f.name.items n) (bytes_eq name n) (Some f.bytes.items) (Some y.bytes.items) (file_of fs n) never)

hides : {A : Type 0} (a : Bool) (x y z : A) → (if a then x else z) ≡ (if a then x else (if a then y else z))
hides true x y z = refl
hides false x y z = refl

set_at : (fs : List File) (name n : List ℕ) (i : ℕ) (y d : File) → i < length fs → y.name.items ≡ name → named name (get_or fs i d) ≡ true
    → NoneBelow fs name i → file_of (set fs i y) n ≡ (if bytes_eq name n then Some y.bytes.items else file_of fs n)
set_at [] name n i y d below new here before = absurd (omega arith)
set_at (f ∷ fs) name n zero y d below new here before =
    let old : f.name.items ≡ name = (bytes_eq-Decides f.name.items name).0 here in
    rw new (rw old (hides (bytes_eq name n) (Some y.bytes.items) (Some f.bytes.items) (file_of fs n)))
set_at (f ∷ fs) name n (suc i) y d below new here before =
    behind f y name n (set fs i y) fs (before 0 f (omega arith)) (set_at fs name n i y d (omega arith) new here (later f fs name i before))

pushed : (fs : List File) (name n : List ℕ) (y : File) → y.name.items ≡ name → NoneBelow fs name (length fs)
    → file_of (fs ++ y ∷ []) n ≡ (if bytes_eq name n then Some y.bytes.items else file_of fs n)
pushed [] name n y new before = rw new refl
pushed (f ∷ fs) name n y new before =
    behind f y name n (fs ++ y ∷ []) fs (before 0 f (omega arith)) (pushed fs name n y new (later f fs name (length fs) before))

past : (b : Bool) (i : ℕ) → cond b (Some i) None ≡ None → b ≡ false
past true i h = cc
past false i h = refl

none_below : (fs : List File) (name : List ℕ) → position (named name) fs ≡ None → NoneBelow fs name (length fs)
none_below fs name found k d lt =
    let end = ltb-false _ _ (past _ _ found) in fails_before_first (named name) fs k d (omega arith)

pub file_of-Some : (fs : List File) (name : List ℕ) (i : ℕ) (d : File) → position (named name) fs ≡ Some i
    → file_of fs name ≡ Some (get_or fs i d).bytes.items
file_of-Some fs name i d found = let h = position-Some (named name) fs i d found
    in at fs name i d h.0 h.1 (λ k e lt. (position-Some (named name) fs i e found).2 k lt)

pub file_of-None : (fs : List File) (name : List ℕ) → position (named name) fs ≡ None → file_of fs name ≡ None
file_of-None fs name found = absent fs name (none_below fs name found)

pub file_of-set : (fs : List File) (name bytes n : List ℕ) (i : ℕ) (y d : File) → position (named name) fs ≡ Some i
    → y.name.items ≡ (get_or fs i d).name.items → y.bytes.items ≡ bytes → file_of (set fs i y) n
    ≡ (if bytes_eq name n then Some bytes else file_of fs n)
file_of-set fs name bytes n i y d found kept new =
    let h = position-Some (named name) fs i d found in
    let old : (get_or fs i d).name.items ≡ name = (bytes_eq-Decides (get_or fs i d).name.items name).0 h.1 in
    rw (sym new) (set_at fs name n i y d h.0 (kept ∙ old) h.1 (λ k e lt. (position-Some (named name) fs i e found).2 k lt))

pub file_of-push : (fs : List File) (name bytes n : List ℕ) (y : File) → position (named name) fs ≡ None → y.name.items ≡ name → y.bytes.items ≡ bytes
    → file_of (fs ++ y ∷ []) n ≡ (if bytes_eq name n then Some bytes else file_of fs n)
file_of-push fs name bytes n y found kept new = rw (sym new) (pushed fs name n y kept (none_below fs name found))
