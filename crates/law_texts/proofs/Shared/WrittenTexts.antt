-- The text of a design that was read from a text: its tokens are those of the design's program, and so it is guaranteed for the design:
-- deadline-monotonic priorities are a ranking.
use Rattle.std.specs.Prelude.{◌≡◌, ℕ, ◌≤◌, List, length, Ok}
use Rattle.seq_tree.specs.Limits.{ada_limit}
use Rattle.seq_tree.specs.Lexis.{tokens, plain}
use Rattle.ods_tree.specs.Designs.{Design}
use Rattle.ods_tree.specs.Flattening.{flat}
use Rattle.ods_tree.specs.Reading.{Reads}
use Rattle.ods_tree.specs.Ticks.{in_ticks}
use Rattle.ada_tree.specs.Reading.{Accepts}
use Rattle.ada_tree.specs.Spelling.{program_tokens}
use Rattle.rt_response.specs.declared.rows.Bound.{Bound}
use Rattle.rt_response.specs.Response.{Fits}
use Rattle.analysis.specs.Priorities.{priorities_of}
use Rattle.analysis.specs.Tables.{table}
use Rattle.guarantee.specs.Guaranteed.{Guaranteed}
use Rattle.guarantee.specs.Programs.{program, text}
use Rattle.design_rules.specs.Rules.{MeetsRules}
use Rattle.law_designs.proofs.Shared.PriorityPlaces.{deadline-ranking}
use Rattle.law_runs.proofs.Shared.DesignLaw.{guaranteed-by-deadlines}
use Rattle.law_texts.proofs.Shared.RankedTexts.{ranked-spelled, ranked-guaranteed, ranked-accepted}

module _ (x : Design) (bytes : List ℕ) (reads : Reads bytes x) (met : MeetsRules x) (v : List Bound) (fits : Fits (table (flat (in_ticks x))).rows v)
  where
    abbrev y : Design
    y = in_ticks x

    abbrev ps : List ℕ
    ps = priorities_of (flat (in_ticks x))

    pub text-spelled : plain (tokens (text y v)) ≡ Ok (program_tokens (program y))
    text-spelled = ranked-spelled x bytes reads met ps (deadline-ranking (flat y)) v fits

    pub text-guaranteed : (limit : ℕ) → length (text y v) ≤ ada_limit → Guaranteed limit y (text y v) v
    text-guaranteed limit short =
        guaranteed-by-deadlines limit y (text y v) v (ranked-guaranteed x bytes reads met ps (deadline-ranking (flat y)) v fits limit short)

    pub text-accepted : length (text y v) ≤ ada_limit → Accepts (text y v) (program y)
    text-accepted short = ranked-accepted x bytes reads met ps (deadline-ranking (flat y)) v fits short
