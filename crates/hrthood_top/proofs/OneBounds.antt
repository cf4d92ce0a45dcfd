-- There is one value over its limit for which bytes of a design have no bounds, and it is that of one thread.
use Rattle.std.proofs.Common.{◌≡◌, ℕ, List, Some, subst, sym, ap, ◌∙◌}
use Rattle.seq_tree.specs.Names.{Name}
use Rattle.ods_tree.specs.Designs.{Design}
use Rattle.ods_tree.specs.Flattening.{flat}
use Rattle.ods_tree.specs.Ticks.{in_ticks}
use Rattle.rt_response.specs.declared.rows.Miss as rows
use Rattle.analysis.specs.Tables.{table}
use Rattle.design_bounds.specs.Analyses.{IsMissed}
use Rattle.design_bounds.specs.Rows.{name_of_row}
use Rattle.bridge.specs.Delivers.{HasNoBounds}
use Rattle.hrthood_top.proofs.OneDesign.{one-design}
use Rattle.law_backgrounds.proofs.Shared.FirstFaults.{one-at}
use Rattle.hrthood_top.proofs.OneRule.{one-miss}

pub one-bounds : (bytes : List ℕ) (thread other : Name) (m n : rows.Miss) → HasNoBounds bytes thread m → HasNoBounds bytes other n
    → (thread ≡ other) × (m ≡ n)
one-bounds bytes thread other m n h k =
    let M : Design → Type 0 = λ z. IsMissed (flat (in_ticks z)) thread m in
    let here : IsMissed (flat (in_ticks k.design)) thread m = subst M (one-design bytes h.design k.design h.reads k.reads) h.missed in
    let miss : m ≡ n = one-miss (table (flat (in_ticks k.design))).rows m n here.first k.missed.first in
    let called : name_of_row (flat (in_ticks k.design)) n.index ≡ Some thread
    = ap (λ z. name_of_row (flat (in_ticks k.design)) z.index) (sym miss) ∙ here.called in
    (one-at _ thread other called k.missed.called, miss)
