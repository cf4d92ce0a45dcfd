-- The text that is made of a design by any ranking of its threads: that of every design that was read, meets the rules and has bounds by it.
-- It reads back as the design's program by that ranking, in ticks, so that what is promised of the program's runs is promised of the text.
use Rattle.std.specs.Prelude.{◌≡◌, ℕ, ◌≤◌, List, ◌++◌, length, Ok}
use Rattle.seq_tree.specs.Layout.{layout}
use Rattle.seq_tree.specs.Limits.{ada_limit}
use Rattle.seq_tree.specs.Lexis.{tokens, plain}
use Rattle.ods_tree.specs.Designs.{Design}
use Rattle.ods_tree.specs.Flattening.{flat}
use Rattle.ods_tree.specs.Reading.{Reads}
use Rattle.ods_tree.specs.Ticks.{in_ticks}
use Rattle.design_rules.specs.Rules.{MeetsRules}
use Rattle.ada_tree.specs.Reading.{Accepts}
use Rattle.ada_tree.specs.Spelling.{program_lines, program_tokens}
use Rattle.rt_response.specs.declared.rows.Bound.{Bound}
use Rattle.rt_response.specs.Response.{Fits}
use Rattle.analysis.specs.Tables.{table_for}
use Rattle.guarantee.specs.Programs.{head}
use Rattle.law_designs.specs.Rankings.{IsRanking, stated_by, program_by}
use Rattle.law_runs.specs.Ranked.{GuaranteedBy}

-- the text of a design in ticks by these priorities, with these bounds in its head
abbrev pub text_by : Design → List ℕ → List Bound → List ℕ
text_by x ps v = head (flat x) (stated_by x ps) (table_for (flat x) ps).places v ++ layout (program_lines (program_by x ps))

-- the text has the tokens of the program
abbrev pub RankedTextsReadBack : Type 0
RankedTextsReadBack =
    (x : Design) (bytes : List ℕ) (ps : List ℕ) (v : List Bound) → Reads bytes x → MeetsRules x → IsRanking (flat (in_ticks x)) ps
    → Fits (table_for (flat (in_ticks x)) ps).rows v
    → plain (tokens (text_by (in_ticks x) ps v)) ≡ Ok (program_tokens (program_by (in_ticks x) ps))

-- a text within the limit of bytes is accepted as the program
abbrev pub RankedTextsAreAccepted : Type 0
RankedTextsAreAccepted =
    (x : Design) (bytes : List ℕ) (ps : List ℕ) (v : List Bound) → Reads bytes x → MeetsRules x → IsRanking (flat (in_ticks x)) ps
    → Fits (table_for (flat (in_ticks x)) ps).rows v
    → length (text_by (in_ticks x) ps v) ≤ ada_limit → Accepts (text_by (in_ticks x) ps v) (program_by (in_ticks x) ps)

-- a text within the limit of bytes is guaranteed for the design and those bounds
abbrev pub RankedTextsAreGuaranteed : ℕ → Type 0
RankedTextsAreGuaranteed limit =
    (x : Design) (bytes : List ℕ) (ps : List ℕ) (v : List Bound) → Reads bytes x → MeetsRules x → IsRanking (flat (in_ticks x)) ps
    → Fits (table_for (flat (in_ticks x)) ps).rows v
    → length (text_by (in_ticks x) ps v) ≤ ada_limit → GuaranteedBy limit (in_ticks x) ps (text_by (in_ticks x) ps v) v
