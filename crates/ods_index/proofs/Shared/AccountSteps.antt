-- Steps of the loops that gather what the calls of a block count.
use Rattle.std.proofs.Common.{◌≡◌, Bool, true, false, ◌||◌, List, [], ◌∷◌, Option, Some, refl, ap, ◌∙◌}
use Rattle.std.specs.Prelude.{if◌then◌else◌}
use Rattle.std.specs.List.{list_any}
use Rattle.std.proofs.lemmas.Bool.{or_right, or_left}
use Rattle.seq_tree.specs.Calls.{same_op}
use Rattle.seq_tree.specs.Lists.{Each}
use Rattle.seq_tree.proofs.Shared.Walks.{same_op-eq, same_op-refl}
use Rattle.seq_tree.specs.declared.tree.OpName.{OpName}

-- one more call has its count, where those that are left have theirs
pub account-step : {V : Type 0} (v : OpName → V) (c n : OpName) (left : Bool) (after before : Option V) → after
    ≡ (if same_op c n then Some (v c) else before)
    → (if left then Some (v n) else after) ≡ (if same_op c n || left then Some (v n) else before)
account-step v c n left after before put = by left (same_op c n) refl
  where
    by : (l b : Bool) → same_op c n ≡ b → (if l then Some (v n) else after) ≡ (if b || l then Some (v n) else before)
    by true true e = refl
    by true false e = refl
    by false true e = put ∙ ap (λ z. if z then Some (v c) else before) e ∙ ap (λ z. Some (v z)) (same_op-eq c n e)
    by false false e = put ∙ ap (λ z. if z then Some (v c) else before) e

-- what holds of each name that is among these holds of each of these
pub each-among : (P : OpName → Type 0) (cs : List OpName) → ((n : OpName) → list_any (λ c. same_op c n) cs ≡ true → P n) → Each P cs
each-among P [] all = tt
each-among P (c ∷ cs) all = (
  all c (or_left (same_op c c) (list_any (λ d. same_op d c) cs) (same_op-refl c)),
  each-among P cs
      (λ n h. all n (or_right (same_op c n) (list_any (λ d. same_op d n) cs) h)),
)
