-- Whether a flat design holds with other `work`, as scaled by so many per mille: no body or thread is too dear, and there are bounds within the
-- limits. Priorities are deadline-monotonic; they and the ceilings are those of the design itself, since no deadline and no call is changed.
use Rattle.std.specs.Prelude.{◌≡◌, ◌≤◌, ◌<◌, ℕ, List, Option, None}
use Rattle.seq_tree.specs.Names.{Name}
use Rattle.ods_tree.specs.Flats.{Flat}
use Rattle.rt_response.specs.declared.rows.ThreadRow.{ThreadRow}
use Rattle.rt_response.specs.declared.rows.Bound.{Bound}
use Rattle.rt_response.specs.Response.{Fits}
use Rattle.analysis.specs.Tables.{table}
use Rattle.law_scaling.specs.Working.{reworked}
use Rattle.law_scaling.specs.Scaling.{scaled, scaled_ticks, work_of, most_per_mille}
use Rattle.law_scaling.specs.Parts.{first_dear}

-- the rows of the scaled design
abbrev pub scaled_rows : Flat → ℕ → List ThreadRow
scaled_rows f k = (table (scaled k f)).rows

-- a flat design that holds with its `work` so changed
pub record HoldsWith (f : Flat) (w : Name → ℕ → ℕ) : Type 0 where
  pub cheap : first_dear (reworked w f) ≡ None
  pub bounds : List Bound
  pub fits : Fits (table (reworked w f)).rows bounds

-- a flat design that holds with all its `work` at so many per mille
abbrev pub Holds : Flat → ℕ → Type 0
Holds f k = HoldsWith f (λ name. scaled_ticks k)

-- one that holds with all its `work`, or that of one object alone, at so many per mille
abbrev pub HoldsIn : Option Name → Flat → ℕ → Type 0
HoldsIn only f k = HoldsWith f (work_of only k)

-- the greatest per mille at which it so holds
pub record IsGreatestIn (only : Option Name) (f : Flat) (k : ℕ) : Type 0 where
  pub within : (1 ≤ k) × (k ≤ most_per_mille)
  pub holds : HoldsIn only f k
  pub above : (n : ℕ) → k < n → n ≤ most_per_mille → HoldsIn only f n → ⊥

-- the greatest per mille at which it holds with all its `work`
abbrev pub IsGreatest : Flat → ℕ → Type 0
IsGreatest f k = IsGreatestIn None f k
