-- The first ready task: what holds of each entry holds of it, and how many ticks are within its piece.
use Rattle.std.specs.Prelude.{◌≡◌, ◌⊎◌, ℕ, zero, suc, ◌<◌, ◌≤◌, List, [], ◌∷◌, max, min, Some, None, slice_get}
use Rattle.std.proofs.Common.{sym, ◌∙◌, ap, subst, arith, inl, inr}
use Rattle.std.proofs.lemmas.Option.{same_Some}
use Rattle.link_queue.specs.Queues.{Each, Entry}
use Rattle.ceil_runtime.specs.Processing.{IsWithin}
use Rattle.task_runtime.specs.declared.task.Task.{Task}

pub first-holds : (P : Entry → Type 0) (es : List Entry) (e : Entry) → slice_get es 0 ≡ Some e → Each P es → P e
first-holds P [] e at h = absurd (cc at)
first-holds P (f ∷ fs) e at h = subst P (same_Some f e at) h.0

-- at most the ticks left, or one
few-ticks : (left most : ℕ) → 0 < most → (min most (max left 1) ≡ 1) ⊎ (min most (max left 1) ≤ left)
few-ticks zero most some = inl (omega arith)
few-ticks (suc left) most some = inr (omega arith)

pub within-head : (tasks : List Task) (es : List Entry) (e : Entry) (t : Task) (most left least n : ℕ) → slice_get es 0 ≡ Some e
    → slice_get tasks e.0 ≡ Some t → 0 < most → left ≡ t.left → least ≡ max left 1 → n ≡ min most least → IsWithin tasks es n
within-head tasks [] e t most left least n at here some same longer shorter = tt
within-head tasks (f ∷ fs) e t most left least n at here some same longer shorter =
    λ u there.
    let is : t ≡ u = same_Some t u (sym here ∙ ap (λ (x : Entry). slice_get tasks x.0) (sym (same_Some f e at)) ∙ there) in
    let left_is : left ≡ u.left = same ∙ ap (λ (v : Task). v.left) is in
    subst (λ (k : ℕ). (n ≡ 1) ⊎ (n ≤ k)) left_is (subst (λ (k : ℕ). (k ≡ 1) ⊎ (k ≤ left)) (sym (shorter ∙ ap (min most) longer))
    (few-ticks left most some))

pub within-none : (tasks : List Task) (es : List Entry) (n : ℕ) → slice_get es 0 ≡ None → IsWithin tasks es n
within-none tasks [] n at = tt
within-none tasks (f ∷ fs) n at = absurd (cc at)
