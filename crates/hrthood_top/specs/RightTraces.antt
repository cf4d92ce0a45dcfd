-- What is right about the trace of a text that was made of a design: the design's machine allows it, within the least bounds; no request is lost,
-- and chains and costs are within what is printed of them.
-- It is the promise of the project, said of bytes.
use Rattle.std.specs.Prelude.{◌≡◌, ℕ, List}
use Rattle.ods_tree.specs.Designs.{Design}
use Rattle.ods_tree.specs.Flattening.{flat}
use Rattle.ods_tree.specs.Ticks.{in_ticks}
use Rattle.ods_tree.specs.Reading.{Reads}
use Rattle.design_rules.specs.Rules.{MeetsRules}
use Rattle.rt_response.specs.Response.{IsLeastVector}
use Rattle.rt_response.specs.declared.rows.Bound.{Bound}
use Rattle.analysis.specs.Tables.{table}
use Rattle.ada_tree.specs.Programs.{Program}
use Rattle.ada_tree.specs.Reading.{Accepts}
use Rattle.arrivals_tree.specs.Arriving.{Arrivals}
use Rattle.arrivals_tree.specs.Arrived.{Arrives, horizon_limit}
use Rattle.trace_tree.specs.declared.event.Event.{Event}
use Rattle.trace_tree.specs.Exclusion.{Exclusive}
use Rattle.trace_tree.specs.Lines.{lines}
use Rattle.machine.specs.Meanings.{Meaning}
use Rattle.guarantee.specs.Events.{named}
use Rattle.guarantee.specs.Arrivals.{named_arrivals}
use Rattle.guarantee.specs.Allowed.{Allows}
use Rattle.guarantee.specs.Bounded.{IsBounded}
use Rattle.guarantee.specs.Programs.{responses}
use Rattle.law_chain_bounds.specs.Served.{Serves, ServesBy}
use Rattle.law_designs.specs.Rankings.{responses_by}
use Rattle.law_orders.specs.Orders.{priorities_by}
use Rattle.arranging.specs.Arrangements.{IsArranged}
use Rattle.background_designs.specs.Refusals.{IsBackgroundDesign}
use Rattle.background_designs.specs.Programs.{hard_rows}
use Rattle.background_designs.specs.Runs.{PermitsBackground}

-- lines are the trace of the one program that an Ada text says, a run that a design allows, within its least bounds, under the arrivals of
-- a text
pub record IsRightTrace (design text arrivals written : List ℕ) : Type 0 where
  pub of : Design
  pub reads : Reads design of
  pub meets : MeetsRules of
  pub bounds : List Bound
  pub least : IsLeastVector (table (flat (in_ticks of))).rows bounds
  pub program : Program
  pub accepts : Accepts text program
  pub under : Arrivals
  pub arrives : Arrives horizon_limit arrivals program under
  pub told : List Event
  pub means : Meaning program under told
  pub whole : written ≡ lines program told
  pub exclusive : Exclusive told
  pub allowed : Allows (in_ticks of) (named_arrivals program under) (named program told)
  pub bounded : IsBounded (responses (flat (in_ticks of)) bounds) under.until (named program told)
  pub serves : Serves (in_ticks of) bounds under.until (named program told)

-- the same of the text of a design with background objects: a run that the design permits, within the least bounds of its hard threads
pub record IsRightBackgroundTrace (design text arrivals written : List ℕ) : Type 0 where
  pub of : Design
  pub reads : Reads design of
  pub passes : IsBackgroundDesign of
  pub bounds : List Bound
  pub least : IsLeastVector (hard_rows (in_ticks of)) bounds
  pub program : Program
  pub accepts : Accepts text program
  pub under : Arrivals
  pub arrives : Arrives horizon_limit arrivals program under
  pub told : List Event
  pub means : Meaning program under told
  pub whole : written ≡ lines program told
  pub exclusive : Exclusive told
  pub permitted : PermitsBackground (in_ticks of) bounds (named_arrivals program under) (named program told)

-- the same of the text of a design by an order of its threads: a run that the design allows, within the least bounds by this order
pub record IsRightArrangedTrace (design text arrivals written : List ℕ) : Type 0 where
  pub of : Design
  pub reads : Reads design of
  pub meets : MeetsRules of
  pub order : List ℕ
  pub bounds : List Bound
  pub arranged : IsArranged (flat (in_ticks of)) order bounds
  pub program : Program
  pub accepts : Accepts text program
  pub under : Arrivals
  pub arrives : Arrives horizon_limit arrivals program under
  pub told : List Event
  pub means : Meaning program under told
  pub whole : written ≡ lines program told
  pub exclusive : Exclusive told
  pub allowed : Allows (in_ticks of) (named_arrivals program under) (named program told)
  pub bounded : IsBounded (responses_by (flat (in_ticks of)) (priorities_by (flat (in_ticks of)) order) bounds) under.until (named program told)
  pub serves : ServesBy (in_ticks of) (priorities_by (flat (in_ticks of)) order) bounds under.until (named program told)
