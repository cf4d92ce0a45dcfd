-- Edges between places are calls between what stands there.
use Rattle.std.proofs.Common.{◌≡◌, ℕ, ◌==◌, Bool, false, List, [], ◌∷◌, ◌&&◌, ◌||◌, map, filter_map, flat_map, Option, Some, None, refl, ap, sym, ◌∙◌, true}
use Rattle.std.proofs.Math.Bool.{and-false, and-or_distrib_left}
use Rattle.std.proofs.lemmas.Bool.{eqb-true, eq-eqb}
use Rattle.std.proofs.lemmas.List.Folds.{list_any-append}
use Rattle.std.specs.List.{list_any, cons_option}
use Rattle.seq_tree.specs.declared.tree.OpName.{OpName}
use Rattle.call_graph.specs.Edges.{edges_from, edges_to}

-- whether one of these edges leads from one place to another
abbrev pub has_edge : List (ℕ × ℕ) → ℕ → ℕ → Bool
has_edge es p q = list_any (λ e. e.0 == p && e.1 == q) es

-- whether a place is this one
abbrev pub is_at : Option ℕ → ℕ → Bool
is_at None p = false
is_at (Some q) p = q == p

-- a place that is this one
pub is-at : (o : Option ℕ) (p : ℕ) → is_at o p ≡ true → o ≡ Some p
is-at None p h = cc
is-at (Some q) p h = ap Some (eqb-true q p h)

pub at-is : (o : Option ℕ) (p : ℕ) → o ≡ Some p → is_at o p ≡ true
at-is o p e = ap (λ z. is_at z p) e ∙ eq-eqb p p refl

module _ (target : OpName → Option ℕ) (p q : ℕ) where
  -- whether one of these operations stands at the second place
  abbrev leads : List OpName → Bool
  leads ops = list_any (λ c. is_at (target c) q) ops

  -- the edges from a place
  pub edge-any : (from : ℕ) (ops : List OpName) → has_edge (edges_to target from ops) p q ≡ (from == p && leads ops)
  edge-any from [] = sym (and-false (from == p))
  edge-any from (c ∷ ops) = by (target c) (edge-any from ops)
    where
      by : (o : Option ℕ) → has_edge (edges_to target from ops) p q ≡ (from == p && leads ops)
          → has_edge (map (λ t. (from, t)) (cons_option o (filter_map target ops))) p q ≡ (from == p && (is_at o q || leads ops))
      by None e = e
      by (Some t) e = ap (λ b. (from == p && t == q) || b) e ∙ sym (and-or_distrib_left (from == p) (t == q) (leads ops))

  from-any : (from : Option ℕ) (ops : List OpName) → has_edge (edges_from target from ops) p q ≡ (is_at from p && leads ops)
  from-any None ops = refl
  from-any (Some from) ops = edge-any from ops

  -- the edges of callers
  pub edge-between : {B : Type 0} (source : B → Option ℕ) (made : B → List OpName) (bs : List B)
      → has_edge (flat_map (λ b. edges_from target (source b) (made b)) bs) p q ≡ list_any (λ b. is_at (source b) p && leads (made b)) bs
  edge-between source made [] = refl
  edge-between source made (b ∷ bs) =
      list_any-append (λ e. e.0 == p && e.1 == q) (edges_from target (source b) (made b)) (flat_map (λ c. edges_from target (source c) (made c)) bs)
      ∙ ap (λ t. t || has_edge (flat_map (λ c. edges_from target (source c) (made c)) bs) p q) (from-any (source b) (made b))
      ∙ ap (λ t. (is_at (source b) p && leads (made b)) || t) (edge-between source made bs)
