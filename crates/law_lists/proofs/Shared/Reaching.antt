-- What nodes lead to through as many steps as there are nodes is closed: what it leads to is among it.
use Rattle.std.specs.Prelude.{◌≡◌, ◌⊎◌, true, List, [], ◌∷◌, length}
use Rattle.std.proofs.Common.{subst, inl, inr}
use Rattle.seq_tree.specs.Calls.{same_op}
use Rattle.seq_tree.specs.Rings.{LeadsTo}
use Rattle.seq_tree.specs.declared.tree.OpName.{OpName}
use Rattle.seq_tree.proofs.Shared.Walks.{Step, LeadOn, within, within-leads, leads-within, same_op-eq, same_op-refl}
use Rattle.seq_tree.proofs.Shared.Walks as walks
use Rattle.law_lists.proofs.Shared.Lists.{IsIn, any-in, any-at, at-in}

-- one among these, by a test and by itself
pub among-is : (xs : List OpName) (c : OpName) → walks.IsIn xs c → IsIn c xs
among-is xs c h = let found = any-at (same_op c) xs h in subst (λ d. IsIn d xs) (sym' found.1 found.3) (at-in xs found.0 found.1 found.2)
  where
    sym' : (d : OpName) → same_op c d ≡ true → d ≡ c
    sym' d e = let is : c ≡ d = same_op-eq c d e in cc

pub is-among : (xs : List OpName) (c : OpName) → IsIn c xs → walks.IsIn xs c
is-among xs c h = any-in (same_op c) c xs h (same_op-refl c)

module _ (next : OpName → List OpName) (nodes : List OpName) (lead : LeadOn next nodes) where
  -- a way from a node to one, and a step further
  further : (path : List OpName) (a b c : OpName) → LeadsTo (Step next) a path b → Step next b c → (more : List OpName) × LeadsTo (Step next) a more c
  further [] a b c way step = (b ∷ [], (way, step))
  further (via ∷ path) a b c way step = let rest = further path via b c way.1 step in (via ∷ rest.0, (way.0, rest.1))

  pub within-closed : (a b c : OpName) → IsIn b (within (length nodes) next a) → IsIn c (next b) → IsIn c (within (length nodes) next a)
  within-closed a b c h called = by (within-leads (length nodes) next a b (is-among (within (length nodes) next a) b h))
    where
      step : Step next b c
      step = is-among (next b) c called

      at-end : (path : List OpName) → LeadsTo (Step next) a path c → IsIn c (within (length nodes) next a)
      at-end path way = among-is (within (length nodes) next a) c (leads-within next nodes lead a c path way)

      by : (same_op b a ≡ true) ⊎ ((path : List OpName) × LeadsTo (Step next) a path b) → IsIn c (within (length nodes) next a)
      by (inl e) = at-end [] (subst (λ z. Step next z c) (same_op-eq b a e) step)
      by (inr way) = let more = further way.0 a b c way.1 step in at-end more.0 more.1
