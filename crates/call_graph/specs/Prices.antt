-- What calls count besides themselves, by places, as calls are followed deeper and deeper.
-- Numbers are cut at one tick over the greatest cost.
use Rattle.std.specs.Prelude.{ℕ, zero, suc, ◌*◌, min, List, [], map, Option}
use Rattle.seq_tree.specs.Names.{Name}
use Rattle.seq_tree.specs.Dearest.{cost}
use Rattle.seq_tree.specs.declared.tree.Costs.{Costs}
use Rattle.seq_tree.specs.declared.tree.OpName.{OpName}
use Rattle.call_graph.specs.Entries.{Work, Plain, Protected, Asked, Entry}
use Rattle.call_graph.specs.Places.{known_by}

-- one tick over the greatest cost
abbrev pub cap : ℕ
cap = 1000000001

-- what a call counts, where the calls inside it count so much
abbrev pub price : Costs → (Name → Name → ℕ) → Work → ℕ
price costs called (Plain b) = min cap (cost costs called b)
price costs called (Protected b) = min cap (cost costs called b)
price costs called Asked = min cap (2 * costs.assign)

-- what calls count where the calls inside them count so much
abbrev pub deeper_prices : Costs → (Name → Name → ℕ) → List Entry → List ℕ
deeper_prices costs called es = map (λ e. price costs called e.work) es

-- what calls count that are followed so deep
abbrev pub prices : ℕ → Costs → (OpName → Option ℕ) → List Entry → List ℕ
prices zero costs place es = []
prices (suc depth) costs place es = deeper_prices costs (known_by place (prices depth costs place es)) es
