-- Prices that are worked out callees first, or depth by depth, are those of calls that are followed as deep as there were turns, or deeper.
use Rattle.std.proofs.Common.{◌≡◌, ◌≤◌, ◌<◌, ℕ, ◌+◌, Bool, true, false, ◌&&◌, List, [], ◌∷◌, length, get_or, Option, Some, None}
use Rattle.std.proofs.Common.{refl, sym, ap, ◌∙◌, min}
use Rattle.std.specs.Prelude.{filter_map}
use Rattle.std.specs.List.{cons_option, list_all}
use Rattle.std.proofs.lemmas.List.{length-map}
use Rattle.seq_tree.specs.Lists.{Each}
use Rattle.seq_tree.specs.Statements.{Statements}
use Rattle.seq_tree.specs.Calls.{block_calls}
use Rattle.seq_tree.specs.Dearest.{cost}
use Rattle.seq_tree.specs.declared.tree.Costs.{Costs}
use Rattle.seq_tree.specs.declared.tree.OpName.{OpName}
use Rattle.seq_cost.proofs.Shared.Listed.{block-same}
use Rattle.call_graph.specs.Numbers.{value}
use Rattle.call_graph.specs.Entries.{Entry, Work, Plain, Protected, Asked}
use Rattle.call_graph.specs.Places.{known_by, value_at, work_places}
use Rattle.call_graph.specs.Prices.{cap, deeper_prices, price, prices}
use Rattle.call_graph.specs.Settled.{Agrees, AgreesFrom, HasPlaces, IsPut, is_done}
use Rattle.call_graph.specs.declared.settled.Settled.{Settled}
use Rattle.call_graph.proofs.Shared.DepthLaws.{settled}
use Rattle.call_graph.proofs.Shared.SettledLaws.{from-later, from-put, mapped-at, whole-agrees}

pub prices-settled : (costs : Costs) (place : OpName → Option ℕ) (es : List Entry) (n d : ℕ) (now higher : List ℕ) → d ≤ n → now
    ≡ prices d costs place es
    → higher ≡ deeper_prices costs (known_by place now) es → higher ≡ now → now ≡ prices n costs place es
prices-settled costs place es n d now higher =
    settled (λ known. deeper_prices costs (known_by place known) es) (λ k. prices k costs place es) (λ k. refl) n d now higher

-- there are as many prices as operations
pub prices-long : (costs : Costs) (place : OpName → Option ℕ) (es : List Entry) → length (prices (length es) costs place es) ≡ length es
prices-long costs place [] = refl
prices-long costs place (e ∷ es) = length-map (e ∷ es) (λ x. price costs (known_by place (prices (length es) costs place (e ∷ es))) x.work)

module _ (costs : Costs) (place : OpName → Option ℕ) (s : Settled) (xs : List ℕ) (agrees : Agrees s xs) where
  abbrev Same : OpName → Type 0
  Same c = known_by place s.numbers.items c.object c.op ≡ known_by place xs c.object c.op

  -- calls whose places are worked out count the same
  calls-agree : (cs : List OpName) → list_all (is_done s) (filter_map place cs) ≡ true → Each Same cs
  calls-agree [] all = tt
  calls-agree (c ∷ cs) all = by (place c) refl all (calls-agree cs)
    where
      some : (p : ℕ) (b : Bool) → is_done s p ≡ b → (b && list_all (is_done s) (filter_map place cs)) ≡ true
          → (value s.numbers.items p ≡ value xs p) × (list_all (is_done s) (filter_map place cs) ≡ true)
      some p true e later = (agrees p e, later)
      some p false e later = absurd (cc)

      by : (o : Option ℕ) → place c ≡ o → list_all (is_done s) (cons_option o (filter_map place cs)) ≡ true
          → (list_all (is_done s) (filter_map place cs) ≡ true → Each Same cs) → Each Same (c ∷ cs)
      by None e later others = (ap (value_at s.numbers.items) e ∙ sym (ap (value_at xs) e), others later)
      by (Some p) e later others =
          let both = some p (is_done s p) refl later in
          (ap (value_at s.numbers.items) e ∙ both.0 ∙ sym (ap (value_at xs) e), others both.1)

  -- and so do blocks, and what operations run
  block-agrees : (b : Statements) → list_all (is_done s) (filter_map place (block_calls b)) ≡ true
      → min cap (cost costs (known_by place s.numbers.items) b) ≡ min cap (cost costs (known_by place xs) b)
  block-agrees b all =
      ap (min cap) (block-same costs (λ ticks. ticks) (known_by place s.numbers.items) (known_by place xs) b (calls-agree (block_calls b) all))

  price-agrees : (w : Work) → list_all (is_done s) (work_places place w) ≡ true → price costs (known_by place s.numbers.items) w
      ≡ price costs (known_by place xs) w
  price-agrees (Plain b) all = block-agrees b all
  price-agrees (Protected b) all = block-agrees b all
  price-agrees Asked all = refl

module _ (costs : Costs) (place : OpName → Option ℕ) (es : List Entry) where
  -- a turn of following calls to what they count
  pub prices-put : (p : ℕ) (e : Entry) (s t : Settled) → p < length es → e ≡ get_or es p e → list_all (is_done s) (work_places place e.work) ≡ true
      → IsPut s p (price costs (known_by place s.numbers.items) e.work) t
      → (from : ℕ) → AgreesFrom from (λ d. prices d costs place es) s → AgreesFrom (from + 1) (λ d. prices d costs place es) t
  prices-put p e s t less at all put from =
      from-put (λ known. deeper_prices costs (known_by place known) es) (λ d. prices d costs place es) (λ d. refl) from p
      (price costs (known_by place s.numbers.items) e.work) s t
      (λ xs agrees. price-agrees costs place s xs agrees e.work all
      ∙ sym (mapped-at (λ x. price costs (known_by place xs) x.work) es p e 0 less at)) put

  pub prices-later : (s : Settled) (from : ℕ) → AgreesFrom from (λ d. prices d costs place es) s
      → AgreesFrom (from + 1) (λ d. prices d costs place es) s
  prices-later s from = from-later (λ known. deeper_prices costs (known_by place known) es) (λ d. prices d costs place es) (λ d. refl) from s

  pub prices-whole : (from : ℕ) (s : Settled) → from ≤ length es → HasPlaces (length es) s → list_all (λ b. b) s.done.items ≡ true
      → AgreesFrom from (λ d. prices d costs place es) s
      → s.numbers.items ≡ prices (length es) costs place es
  prices-whole from s few places all agrees =
      whole-agrees s (length es) (prices (length es) costs place es) places all (prices-long costs place es) (agrees (length es) few)
