-- Software whose blocks can be walked, and whose names tell what they name.
-- Every design that meets the rules is such software.
use Rattle.std.specs.Prelude.{◌≡◌, ℕ, Bool, true, false, ◌&&◌, map, find, option_map, unwrap_or}
use Rattle.seq_tree.specs.Lists.{Each}
use Rattle.seq_tree.specs.Names.{Name, same_name, are_distinct}
use Rattle.seq_tree.specs.Runs.{Asked}
use Rattle.ods_tree.specs.Services.{Sort, Plain, Protected, Request}
use Rattle.guarantee.specs.Software.{Software, all_services, leads_to}
use Rattle.law_walks.specs.Fit.{MayRun}

-- whether an operation is a request
abbrev pub is_request : Sort → Bool
is_request Plain = false
is_request Protected = false
is_request Request = true

-- the operation by which a task is requested; where there is none the task's own name stands there, by which nothing is requested
abbrev pub asked_op : Software → Name → Name
asked_op w target =
    unwrap_or (option_map (λ s. s.op.sig.name) (find (λ s. same_name s.object target && is_request s.sort) (all_services w))) target

-- software that can be followed
pub record IsClear (w : Software) : Type 0 where
  pub depth : ℕ
  pub threads : Each (λ t. MayRun (leads_to w) depth t.block) w.tasks
  pub bodies : Each (λ g. Each (λ o. MayRun (leads_to w) depth o.block) g.ops) w.shared
  -- a request is of the one operation by which its task is requested
  pub asked : (object op : Name) → leads_to w object op ≡ Asked → asked_op w object ≡ op
  -- protected objects have names of their own
  pub objects : are_distinct (map (λ g. g.name) w.shared) ≡ true
