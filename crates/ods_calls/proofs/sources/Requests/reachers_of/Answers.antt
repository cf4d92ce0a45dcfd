use Rattle.std.proofs.Common.{◌≡◌, ◌∙◌, ◌++◌, ◌||◌, [], Bool, Bor, List, ℕ, filter, length, map, ap, sym, append-nil}
use Rattle.std.proofs.lemmas.Result.{IfOk-weaker}
use Rattle.seq_tree.specs.Names.{same_name}
use Rattle.seq_tree.specs.declared.tree.OpName.{OpName}
use Rattle.ods_tree.specs.Designs.{Object}
use Rattle.ods_tree.specs.Trees.{design_of}
use Rattle.ods_tree.specs.declared.design.Node.{Node}
use Rattle.design_rules.specs.Rings.{thread_objects}
use Rattle.ods_index.specs.Calling.{design_calls}
use Rattle.ods_calls.specs.Reaching.{reacher_of, thread_of}
use Rattle.ods_calls.specs.Spreading.{reaches}
use Rattle.ods_calls.specs.Sourced.{reaches_by}
use Rattle.ods_calls.specs.Spotted.{marked, spot_in}
use Rattle.ods_calls.specs.Starting.{Op, all_held, spots_of, turned}
use Rattle.ods_calls.proofs.StartGraph.{leads-on}
use Rattle.ods_calls.proofs.StartReach.{marked-led, reachers-same}
use Rattle.ods_calls.proofs.sources.Requests.reachers_of.Goals as goal
use Rattle.rings.specs.Graphs.{is_step}
use Rattle.rings.specs.Reached.{leads}

pub returns : goal.returns
returns c =
    let self = c.args.self.now in
    let x = design_of self.shown.starts.links.now.design.now in
    let name = c.args.name.now in
    let place = spot_in self.shown.starts.spots in
    let leading : OpName → Bool = λ m. marked c.as_slice.result.now (place (Op m)) in
    let stepped : (a b : ℕ) → leads self.back a b ≡ is_step (length (spots_of x)) (map turned (all_held place (design_calls x) ++ [])) a b =
    λ a b. c.requires.right.stepped a b
    ∙ ap (λ (es : List (ℕ × ℕ)). is_step (length (spots_of x)) (map turned es) a b) (sym (append-nil (all_held place (design_calls x)))) in
    let led = marked-led x (leads-on x self.shown.starts.fits) place self.shown.starts.placed self.back stepped c.requires.right.counted
    name c.args.place c.in_ok-leading.leading.items c.requires.at c.in_ok-leading.ensures.sound c.in_ok-leading.ensures.complete in
    let threads : map thread_of c.as_slice-2.result.now ≡ thread_objects x =
    ap (λ (ts : List (Bor Node)). map thread_of ts) c.as_slice-2.ensures.value ∙ c.requires.right.shown.threads in
    IfOk-weaker c.reachers_by.result (λ v. map reacher_of v.items ≡ filter (reaches_by x name leading) (map thread_of c.as_slice-2.result.now))
    (λ v. map reacher_of v.items ≡ filter (λ o. reaches x o name) (thread_objects x))
    (λ v is. is ∙ ap (λ (os : List Object). filter (reaches_by x name leading) os) threads
    ∙ reachers-same x name leading (thread_objects x)
    (λ m. ap (λ (ms : List Bool). same_name m.object name || marked ms (place (Op m))) c.as_slice.ensures.value ∙ led m))
    c.reachers_by.ensures
