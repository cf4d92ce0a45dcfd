-- Names that differ either way round, and what is found by a test.
use Rattle.std.proofs.Common.{◌≡◌, Bool, true, false, List, [], ◌∷◌, Option, Some, refl, sym, ap, ◌∙◌}
use Rattle.std.specs.Prelude.{find, if◌then◌else◌}
use Rattle.std.proofs.lemmas.Bool.{true≢false, false_from_ne_true}
use Rattle.std.proofs.lemmas.Option.{same_Some, none-some}
use Rattle.std.proofs.lemmas.Slice.Eq.{bytes_eq-Decides}
use Rattle.seq_tree.specs.Names.{Name, same_name}

pub same-turned : (a b : Name) → same_name a b ≡ false → same_name b a ≡ false
same-turned a b e = false_from_ne_true (same_name b a)
    (λ h. true≢false (sym ((bytes_eq-Decides a b).1 (sym ((bytes_eq-Decides b a).0 h))) ∙ e))

-- what is found passes the test
pub found-passes : {A : Type 0} (test : A → Bool) (xs : List A) (x : A) → find test xs ≡ Some x → test x ≡ true
found-passes test [] x e = absurd (none-some x e)
found-passes {A} test (y ∷ ys) x e = at (test y) refl (found-passes test ys x)
  where
    at : (b : Bool) → test y ≡ b → (find test ys ≡ Some x → test x ≡ true) → test x ≡ true
    at true t more =
        let F : Bool → Option A = λ z. if z then Some y else find test ys in
        ap test (sym (same_Some y x (sym (ap F t) ∙ e))) ∙ t
    at false t more =
        let F : Bool → Option A = λ z. if z then Some y else find test ys in
        more (sym (ap F t) ∙ e)
