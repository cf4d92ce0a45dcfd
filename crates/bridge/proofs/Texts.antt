-- The text that is made of a flat design is the one of its own priorities, table and bounds.
use Rattle.std.proofs.Common.{◌≡◌, ℕ, ◌++◌, List, ap, ◌∙◌}
use Rattle.seq_tree.specs.Layout.{layout}
use Rattle.ods_tree.specs.Flats.{Flat}
use Rattle.ada_tree.specs.Programs.{Program}
use Rattle.ada_tree.specs.Spelling.{program_lines}
use Rattle.rt_response.specs.declared.rows.Bound.{Bound}
use Rattle.analysis.specs.Ceilings.{Ranks, ranks, written_ranks}
use Rattle.analysis.specs.Tables.{ThreadTable, table}
use Rattle.guarantee.specs.Programs.{head, program_for}
use Rattle.bridge.specs.Makes.{flat_text}

-- the text for these priorities, this table and these bounds
abbrev text-by : ℕ → Flat → Ranks → ThreadTable → List Bound → List ℕ
text-by first f r t v = head f (written_ranks first r) t.places v ++ layout (program_lines (program_for f (written_ranks first r)))

pub made-text : (first : ℕ) (f : Flat) (r : Ranks) (t : ThreadTable) (v w : List Bound) (p : Program) (before behind : List ℕ) → r ≡ ranks f
    → t ≡ table f → w ≡ v
    → before ≡ head f (written_ranks first r) t.places w → p ≡ program_for f (written_ranks first r) → behind ≡ before ++ layout (program_lines p)
    → behind ≡ flat_text first f v
made-text first f r t v w p before behind ranked tabled bounds headed made printed =
    printed ∙ ap (λ q. before ++ layout (program_lines q)) made
    ∙ ap (λ b. b ++ layout (program_lines (program_for f (written_ranks first r)))) headed
    ∙ ap (λ q. text-by first f q t w) ranked ∙ ap (λ s. text-by first f (ranks f) s w) tabled ∙ ap (text-by first f (ranks f) (table f)) bounds
