-- What explains the bounds of a flat design, or why it has none.
use Rattle.std.specs.Prelude.{◌≡◌, ℕ, List, map}
use Rattle.ods_tree.specs.Flats.{Flat}
use Rattle.analysis.specs.Tables.{table}
use Rattle.design_bounds.specs.Rows.{ceiling_rows}
use Rattle.late_response.specs.declared.reach.Reach.{Reach}
use Rattle.late_response.specs.Utilisation.{utilisation, IsPerMille}
use Rattle.explanation.specs.declared.reasons.Explanation.{Explanation}
use Rattle.explanation.specs.Findings.{IsFound}
use Rattle.explanation.specs.Threads.{chains, reasons_of}

-- an explanation of a flat design whose least priority is written as this number
pub record IsExplanation (first : ℕ) (f : Flat) (e : Explanation) : Type 0 where
  pub found : List Reach
  pub is_found : IsFound f found e.late
  pub threads : e.threads.items ≡ reasons_of first f found
  pub chains : map (λ c. c.items) e.chains.items ≡ chains (table f).rows
  pub ceilings : e.ceilings.items ≡ ceiling_rows first f
  pub per_mille : IsPerMille (utilisation (table f).rows) e.utilisation
