-- The threads that reach objects, by the names of these.
-- A thread reaches an object of which it calls an operation, itself or through protected operations.
use Rattle.std.specs.Prelude.{◌≡◌, ◌<◌, ◌≤◌, ℕ, true, false, Some, filter, flat_map, fold, get_or, length, map, max}
use Rattle.std.specs.Borrow.{Bor}
use Rattle.std.specs.List.{list_any}
use Rattle.seq_tree.specs.Names.{Name}
use Rattle.seq_tree.specs.declared.tree.OpName.{OpName}
use Rattle.ods_tree.specs.Designs.{Object}
use Rattle.ods_tree.specs.Trees.{design_of}
use Rattle.ods_tree.specs.declared.design.Node.{Node}
use Rattle.design_rules.specs.Rings.{terminal_ops, thread_objects}
use Rattle.design_rules.specs.Sources.{requests_by}
use Rattle.ods_calls.specs.Requested.{bodies_at, held_named}
use Rattle.ods_calls.specs.Held.{held_bodies}
use Rattle.ods_calls.specs.Requesters.{HasCallers}
use Rattle.ods_calls.specs.Singles.{is_once}
use Rattle.ods_calls.specs.Spotted.{spot_in}
use Rattle.ods_calls.specs.Spreading.{reaches}
use Rattle.ods_calls.specs.Starting.{Thread, all_held, spots_of, turned}
use Rattle.ods_index.specs.Calling.{design_calls}
use Rattle.rings.specs.Graphs.{is_step}
use Rattle.rings.specs.Reached.{leads}
use Rattle.ods_index.specs.Walking.{object_of}
use Rattle.ods_calls.specs.declared.reacher.Reacher.{Reacher}
use Rattle.ods_calls.specs.declared.sources.Requests.{Requests}
use Rattle.ods_calls.specs.declared.sources.Shown.{Shown}

-- the object of a thread
abbrev pub thread_of : Bor Node → Object
thread_of n = object_of n.now

abbrev pub reacher_of : Reacher → Object
reacher_of r = object_of r.thread.now

-- what shows at once is that of its design
pub record AreShown (s : Shown) : Type 0 where
  pub threads : map thread_of s.threads.items ≡ thread_objects (design_of s.starts.links.now.design.now)
  pub reached : (n : Name) (p : ℕ) → spot_in s.starts.spots (Thread n) ≡ Some p → get_or s.reached.items p false
      ≡ list_any (λ o. reaches (design_of s.starts.links.now.design.now) o n) (thread_objects (design_of s.starts.links.now.design.now))
  pub once : (n : Name) → is_once s.once n ≡ true
      → fold max 0 (map (requests_by (design_of s.starts.links.now.design.now) n) (thread_objects (design_of s.starts.links.now.design.now))) ≤ 1
  pub alone : (n : Name) → is_once s.once n ≡ true
      → length (filter (λ o. reaches (design_of s.starts.links.now.design.now) o n) (thread_objects (design_of s.starts.links.now.design.now))) ≤ 1
  pub few : length (thread_objects (design_of s.starts.links.now.design.now)) < 4294967295

-- what requests are counted by is that of its design
pub record AreRight (r : Requests) : Type 0 where
  pub shown : AreShown r.shown
  pub named : (n : OpName) → bodies_at r.bodies n ≡ flat_map (held_named n) (held_bodies (design_of r.shown.starts.links.now.design.now))
  pub called : HasCallers (design_of r.shown.starts.links.now.design.now) r.callers
  pub deep : r.depth ≡ length (terminal_ops (design_of r.shown.starts.links.now.design.now))
  pub counted : r.back.count ≡ length (spots_of (design_of r.shown.starts.links.now.design.now))
  pub stepped : (a b : ℕ) → leads r.back a b ≡ is_step (length (spots_of (design_of r.shown.starts.links.now.design.now)))
      (map turned (all_held (spot_in r.shown.starts.spots) (design_calls (design_of r.shown.starts.links.now.design.now)))) a b
