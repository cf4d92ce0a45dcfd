-- Calls of operations are steps between places, by what stands there.
-- Places are those of operations by their names, or of units by the names of their operations.
use Rattle.std.proofs.Common.{◌≡◌, ℕ, ◌<◌, Bool, true, ◌&&◌, List, length, nat_lt, slice_get, Option, Some, sym, ap, ◌∙◌, arith}
use Rattle.std.specs.List.{list_any}
use Rattle.std.proofs.lemmas.Bool.{and_parts, and_from}
use Rattle.std.proofs.lemmas.Option.{slice_get_within}
use Rattle.seq_tree.specs.declared.tree.OpName.{OpName}
use Rattle.call_graph.proofs.Shared.EdgeLaws.{at-is, edge-between, is-at, is_at}
use Rattle.rings.specs.Graphs.{is_step}
use Rattle.ada_rules.specs.Callers.{Caller, caller_edges}
use Rattle.ada_rules.proofs.RingLaws.{any-mono, any-some}

module _ {A : Type 0} (key : OpName → A) (same : A → A → Bool) (same-eq : (a b : A) → same a b ≡ true → a ≡ b)
    (same-refl : (a : A) → same a a ≡ true) (cs : List Caller) (place : A → Option ℕ) (stand : List A)
    (stands : (a : A) (p : ℕ) → place a ≡ Some p → slice_get stand p ≡ Some a) (step : ℕ → ℕ → Bool)
    (stepped : (p q : ℕ) → step p q ≡ is_step (length stand) (caller_edges (λ n. place (key n)) cs) p q)
  where
    -- whether an operation that stands for one of these calls one that stands for the other
    abbrev pub calls_by : A → A → Caller → Bool
    calls_by a b c = same (key c.name) a && list_any (λ k. same b (key k)) c.calls

    abbrev pub CallsBy : A → A → Type 0
    CallsBy a b = list_any (calls_by a b) cs ≡ true

    -- a call is a step
    pub forth : (a b : A) (p q : ℕ) → CallsBy a b → place a ≡ Some p → place b ≡ Some q → step p q ≡ true
    forth a b p q h at to =
        let within : q < length stand = slice_get_within stand q b (stands b q to) in
        stepped p q ∙ and_from (nat_lt q (length stand)) _ (grind (arith, within))
        (edge-between (λ n. place (key n)) p q (λ (c : Caller). place (key c.name)) (λ c. c.calls) cs
        ∙ any-mono (calls_by a b) (λ c. is_at (place (key c.name)) p && list_any (λ k. is_at (place (key k)) q) c.calls) cs each h)
      where
        each : (c : Caller) → calls_by a b c ≡ true → (is_at (place (key c.name)) p && list_any (λ k. is_at (place (key k)) q) c.calls) ≡ true
        each c m =
            let parts = and_parts (same (key c.name) a) (list_any (λ k. same b (key k)) c.calls) m in
            and_from _ _ (at-is (place (key c.name)) p (ap place (same-eq (key c.name) a parts.0) ∙ at))
            (any-mono (λ k. same b (key k)) (λ k. is_at (place (key k)) q) c.calls
            (λ k e. at-is (place (key k)) q (ap place (sym (same-eq b (key k) e)) ∙ to)) parts.1)

    -- a step is a call
    pub back : (p q : ℕ) → step p q ≡ true → (a b : A) × (place a ≡ Some p) × (place b ≡ Some q) × CallsBy a b
    back p q h =
        let there = and_parts (nat_lt q (length stand)) _ (sym (stepped p q) ∙ h) in
        let r = any-some (λ c. is_at (place (key c.name)) p && list_any (λ k. is_at (place (key k)) q) c.calls) cs
        (sym (edge-between (λ n. place (key n)) p q (λ (c : Caller). place (key c.name)) (λ c. c.calls) cs) ∙ there.1) in
        let parts = and_parts (is_at (place (key r.0.name)) p) (list_any (λ k. is_at (place (key k)) q) r.0.calls) r.1 in
        let k = any-some (λ k. is_at (place (key k)) q) r.0.calls parts.1 in (
          key r.0.name,
          key k.0,
          is-at (place (key r.0.name)) p parts.0,
          is-at (place (key k.0)) q k.1,
          r.2 (calls_by (key r.0.name) (key k.0)) (and_from _ _ (same-refl (key r.0.name)) (k.2 (λ o. same (key k.0) (key o)) (same-refl (key k.0)))),
        )
