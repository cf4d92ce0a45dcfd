-- Durations of a task, joined from the lists that are handed in for it.
use Rattle.std.specs.Prelude.{◌≡◌, ℕ, zero, suc, ◌+◌, ◌<◌, ◌≤◌, Bool, true, false, ◌==◌, ◌++◌, List, [], ◌∷◌, length, drop, get_or, Some}
use Rattle.std.specs.Prelude.{slice_get, refl}
use Rattle.std.proofs.Common.{sym, ◌∙◌, ap, subst, arith, drop-cons, add-one, append_assoc, append-nil}
use Rattle.std.proofs.Math.ListN.{drop_of_length-le}
use Rattle.std.proofs.lemmas.Bool.Decides.{nat_tests}
use Rattle.std.proofs.lemmas.Option.{none-some, same_Some}
use Rattle.std.proofs.lemmas.Bool.{or_parts}
use Rattle.arrivals_tree.specs.Acceptance.{has_nothing}
use Rattle.arrivals_tree.specs.Arriving.{durations}
use Rattle.arrivals_tree.specs.declared.arrivals.WorkList.{WorkList}
use Rattle.task_runtime.specs.Libraries.{handed}

pub other-list : (w : WorkList) (n : ℕ) → (w.task == n) ≡ false → durations (handed (w ∷ [])) n ≡ []
other-list w n other = rw other refl

pub own-list : (w : WorkList) (n : ℕ) → (w.task == n) ≡ true → durations (handed (w ∷ [])) n ≡ w.ticks.items
own-list w n own = rw own (append-nil w.ticks.items)

durations-cons : (w : WorkList) (ws : List WorkList) (n : ℕ) → durations (handed (w ∷ ws)) n
    ≡ durations (handed (w ∷ [])) n ++ durations (handed ws) n
durations-cons w ws n = by_test (w.task == n) refl
  where
    by_test : (b : Bool) → (w.task == n) ≡ b → durations (handed (w ∷ ws)) n ≡ durations (handed (w ∷ [])) n ++ durations (handed ws) n
    by_test true e = rw e (ap (λ xs. xs ++ durations (handed ws) n) (sym (append-nil w.ticks.items)))
    by_test false e = rw e refl

pub joined-more : (ws : List WorkList) (i n : ℕ) (w : WorkList) (ts ts' all : List ℕ) → i < length ws → w ≡ get_or ws i w
    → ts' ≡ ts ++ durations (handed (w ∷ [])) n
    → ts ++ durations (handed (drop i ws)) n ≡ all → ts' ++ durations (handed (drop (i + 1) ws)) n ≡ all
joined-more ws i n w ts ts' all h is more so_far =
    let here : drop i ws ≡ w ∷ drop (i + 1) ws = rw (drop-cons ws i w h, add-one) (ap (λ v. v ∷ drop (suc i) ws) (sym is)) in
    ap (λ xs. xs ++ durations (handed (drop (i + 1) ws)) n) more ∙ append_assoc ts (durations (handed (w ∷ [])) n)
    (durations (handed (drop (i + 1) ws)) n)
    ∙ ap (λ xs. ts ++ xs) (sym (durations-cons w (drop (i + 1) ws) n) ∙ ap (λ vs. durations (handed vs) n) (sym here)) ∙ so_far

pub joined-all : (ws : List WorkList) (i n : ℕ) (ts all : List ℕ) → length ws ≤ i → ts ++ durations (handed (drop i ws)) n ≡ all → ts ≡ all
joined-all ws i n ts all past so_far = sym (append-nil ts) ∙ ap (λ vs. ts ++ durations (handed vs) n) (sym (drop_of_length-le ws past)) ∙ so_far

-- where no duration is of nothing, each is of some ticks
pub long-at : (ds : List ℕ) (i d : ℕ) → has_nothing ds ≡ false → slice_get ds i ≡ Some d → 0 < d
long-at [] i d h at = absurd (none-some d at)
long-at (e ∷ ds) zero d h at = let same : e ≡ d = same_Some e d at in some e d (or_parts (e == 0) (has_nothing ds) h).0 same
  where
    some : (m k : ℕ) → (m == 0) ≡ false → m ≡ k → 0 < k
    some m k t s = subst (λ (z : ℕ). 0 < z) s (positive m t)
      where
        positive : (m : ℕ) → (m == 0) ≡ false → 0 < m
        positive m t = grind (arith, nat_tests)
long-at (e ∷ ds) (suc i) d h at = long-at ds i d (or_parts (e == 0) (has_nothing ds) h).1 at
