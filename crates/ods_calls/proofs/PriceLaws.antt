-- Costs of calls by what they mean: prices by the places of operations that are like those of the flat design are what its calls cost.
use Rattle.std.proofs.Common.{◌≡◌, ℕ, zero, suc, ◌+◌, ◌*◌, List, [], Option, Some, None, option_map, length, map, min, refl, ap, sym, ◌∙◌, arith}
use Rattle.seq_tree.specs.Names.{Name}
use Rattle.seq_tree.specs.Operations.{Operation}
use Rattle.seq_tree.specs.Statements.{Statement, Statements, Branches, Null, Assign, If, For, ExitWhen, Call, Work, Put, End, Then}
use Rattle.seq_tree.specs.Statements.{Nothing, Else, When}
use Rattle.seq_tree.specs.Dearest.{Weights, dearest, dearest_statement, dearest_branch, turn_count, cost}
use Rattle.seq_tree.specs.declared.tree.Costs.{Costs}
use Rattle.seq_tree.specs.declared.tree.OpName.{OpName}
use Rattle.ods_tree.specs.Designs.{Design}
use Rattle.ods_tree.specs.Links.{renamed, renamed_statement, renamed_branches, resolve, resolved}
use Rattle.ods_tree.specs.Flattening.{flat}
use Rattle.ods_tree.specs.Services.{Service, Sort, flat_services, service_named}
use Rattle.ods_tree.specs.Services as sort
use Rattle.analysis.specs.Execution.{body_cost_by, cost_within, service_cost}
use Rattle.name_sets.specs.FirstPlaces.{op_place_from}
use Rattle.call_graph.specs.Entries.{Entry, entry_by, entry_of}
use Rattle.call_graph.specs.Entries as works
use Rattle.call_graph.specs.Places.{known_by, value_at}
use Rattle.call_graph.specs.Prices.{cap, price, prices}
use Rattle.call_graph.proofs.Shared.PlaceLaws.{along, along-made, along-none, entry_named, or_none, placed}
use Rattle.call_graph.proofs.Shared.PriceLaws.{cut-block}
use Rattle.ods_calls.specs.Costed.{ArePrices, meant_place, meant_work}
use Rattle.ods_calls.proofs.ServedLaws.{AreAlike}

-- calls by what they mean
module _ (means : OpName → OpName) (costs : Costs) (work : ℕ → ℕ) (f : Name → Name → ℕ) where
  abbrev by_meaning : Name → Name → ℕ
  by_meaning object op = let to = means (record { object = object; op = op }) in f to.object to.op

  abbrev u : Weights
  u = record { costs = costs; work = work; called = f }

  abbrev m : Weights
  m = record { costs = costs; work = work; called = by_meaning }

  mutual
    renamed-statement : (s : Statement) → dearest_statement u (renamed_statement means s) ≡ dearest_statement m s
    renamed-statement Null = refl
    renamed-statement (Assign target e) = refl
    renamed-statement (If branches) = renamed-branches branches
    renamed-statement (For name low high body) = ap (λ n. turn_count low high * (costs.turn + n)) (renamed-dearest body)
    renamed-statement (ExitWhen condition) = refl
    renamed-statement (Call object op actuals) = refl
    renamed-statement (Work ticks) = refl
    renamed-statement (Put e) = refl

    pub renamed-dearest : (b : Statements) → dearest u (renamed means b) ≡ dearest m b
    renamed-dearest End = refl
    renamed-dearest (Then first rest) = rw (renamed-statement first, renamed-dearest rest) refl

    renamed-branches : (b : Branches) → dearest_branch u (renamed_branches means b) ≡ dearest_branch m b
    renamed-branches Nothing = refl
    renamed-branches (Else block) = renamed-dearest block
    renamed-branches (When condition block others) = rw (renamed-dearest block, renamed-branches others) refl

module _ (x : Design) (place : OpName → Option ℕ) where
  meant-cost : (numbers : List ℕ) (b : Statements) → cost x.costs (known_by (meant_place x place) numbers) b
      ≡ cost x.costs (known_by place numbers) (resolved x b)
  meant-cost numbers b = sym (renamed-dearest (resolve x) x.costs (λ ticks. ticks) (known_by place numbers) b)

  meant-price : (numbers : List ℕ) (w : works.Work) → price x.costs (known_by (meant_place x place) numbers) w
      ≡ price x.costs (known_by place numbers) (meant_work x w)
  meant-price numbers (works.Plain b) = ap (min cap) (meant-cost numbers b)
  meant-price numbers (works.Protected b) = ap (min cap) (meant-cost numbers b)
  meant-price numbers works.Asked = refl

-- prices by the places of operations that are like those of the flat design are the costs of their calls, cut
module _ (x : Design) (es : List Entry) (alike : AreAlike x es (flat_services (flat x))) (place : OpName → Option ℕ)
    (places : (n : OpName) → place n ≡ op_place_from 0 (map (λ e. e.name) es) n) where
  abbrev ss : List Service
  ss = flat_services (flat x)

  abbrev made : ℕ → List ℕ
  made d = prices d x.costs (meant_place x place) es

  abbrev called : ℕ → Name → Name → ℕ
  called d = known_by place (made d)

  by-name : (numbers : List ℕ) (n : OpName) → value_at numbers (place n) ≡ along es numbers n
  by-name numbers n = ap (value_at numbers) (places n) ∙ placed 0 es numbers numbers n refl

  priced : (d : ℕ) (n : OpName) → value_at (made d) (place n) ≡ min cap (cost_within d x.costs ss n.object n.op)
  priced zero n = by-name [] n ∙ along-none es n ∙ omega arith
  priced (suc d) n =
      let paid : Entry → ℕ = λ e. price x.costs (known_by (meant_place x place) (made d)) e.work in
      by-name (map paid es) n ∙ along-made paid es n ∙ meant (entry_named es n) ∙ ap worth (alike.found n)
      ∙ costs (priced d) (service_named ss n.object n.op)
    where
      worth : Option works.Work → ℕ
      worth None = 0
      worth (Some w) = price x.costs (called d) w

      meant : (o : Option Entry) → or_none (λ e. price x.costs (known_by (meant_place x place) (made d)) e.work) o
          ≡ worth (option_map (λ e. meant_work x e.work) o)
      meant None = refl
      meant (Some e) = meant-price x place (made d) e.work

      sorted : ((m : OpName) → value_at (made d) (place m) ≡ min cap (cost_within d x.costs ss m.object m.op)) → (object : Name) (s : Sort)
          (p : Operation) → price x.costs (called d) (entry_by object s p).work ≡ min cap (body_cost_by x.costs (cost_within d x.costs ss) s p)
      sorted same object sort.Plain p = cut-block x.costs (called d) (cost_within d x.costs ss) p.block same
      sorted same object sort.Protected p = cut-block x.costs (called d) (cost_within d x.costs ss) p.block same
      sorted same object sort.Request p = refl

      costs : ((m : OpName) → value_at (made d) (place m) ≡ min cap (cost_within d x.costs ss m.object m.op)) → (o : Option Service)
          → worth (option_map (λ s. (entry_of s).work) o) ≡ min cap (service_cost x.costs (cost_within d x.costs ss) o)
      costs same None = omega arith
      costs same (Some s) = sorted same s.object s.sort s.op

  -- the prices of all operations that may be called are what calls count
  pub prices-are : (numbers : List ℕ) → numbers ≡ made (length es) → ArePrices x place numbers
  prices-are numbers is b =
      let many : numbers ≡ made (length ss) = is ∙ ap made alike.long in
      ap (min cap) (meant-cost x place numbers b ∙ ap (λ ns. cost x.costs (known_by place ns) (resolved x b)) many)
      ∙ cut-block x.costs (called (length ss)) (cost_within (length ss) x.costs ss) (resolved x b) (priced (length ss))
