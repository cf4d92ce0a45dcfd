use Rattle.std.proofs.Common.{rules, ◌≡◌, [], ◌∷◌, ◌++◌, List, Option, map, false, refl, subst}
use Rattle.std.specs.Prelude.{IfSome}
use Rattle.std.specs.List.{list_any}
use Rattle.call_graph.specs.Once.{CallerTree, caller_of, misfits}
use Rattle.call_graph.specs.declared.ways.Ways.{Ways}
use Rattle.ods_tree.specs.Trees.{design_of}
use Rattle.ods_calls.specs.Reaching.{thread_of}
use Rattle.ods_calls.specs.Held.{held_bodies}
use Rattle.ods_calls.specs.Keys.{held_caller}
use Rattle.ods_calls.specs.Singles.{threads_caller}
use Rattle.ods_calls.proofs.OnceCalls.{once-alone}
use Rattle.ods_calls.proofs.once.Once.new.Goals as goal

pub returns-clause-starts : goal.returns-clause-starts
returns-clause-starts c n h =
    let x = design_of c.args.links.now.design.now in
    let t = c.in_ok-targets.targets in
    let os = map thread_of c.args.threads.now in
    let all : map caller_of c.as_slice.result.now ≡ map (held_caller t x) (held_bodies x) ++ threads_caller t x os ∷ [] = search rules in
    (once-alone x _ c.in_ok-ways.ways os refl
    (λ v is. subst (λ (cs : List CallerTree). list_any (misfits v) cs ≡ false) all
    (subst (λ (o : Option Ways). IfSome o (λ w. list_any (misfits w) (map caller_of c.as_slice.result.now) ≡ false)) is c.in_ok-ways.ensures)) n h).0

pub returns-clause-sources : goal.returns-clause-sources
returns-clause-sources c n h =
    let x = design_of c.args.links.now.design.now in
    let t = c.in_ok-targets.targets in
    let os = map thread_of c.args.threads.now in
    let all : map caller_of c.as_slice.result.now ≡ map (held_caller t x) (held_bodies x) ++ threads_caller t x os ∷ [] = search rules in
    (once-alone x _ c.in_ok-ways.ways os refl
    (λ v is. subst (λ (cs : List CallerTree). list_any (misfits v) cs ≡ false) all
    (subst (λ (o : Option Ways). IfSome o (λ w. list_any (misfits w) (map caller_of c.as_slice.result.now) ≡ false)) is c.in_ok-ways.ensures)) n h).1
