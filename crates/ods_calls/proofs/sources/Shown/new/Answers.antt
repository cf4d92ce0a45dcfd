use Rattle.std.proofs.Common.{◌≡◌, ◌<◌, ◌≤◌, Bor, fold, List, filter, length, map, ap, sym, subst, ◌∙◌}
use Rattle.std.specs.List.{list_any}
use Rattle.std.specs.Prelude.{max}
use Rattle.ods_tree.specs.Designs.{Object}
use Rattle.ods_tree.specs.Trees.{design_of}
use Rattle.ods_tree.specs.declared.design.Design as code
use Rattle.ods_tree.specs.declared.design.Node.{Node}
use Rattle.design_rules.specs.Rings.{thread_objects}
use Rattle.design_rules.specs.Sources.{requests_by}
use Rattle.ods_index.specs.Calling.{calls_of, design_calls}
use Rattle.ods_index.specs.declared.calls.OpCalls.{OpCalls}
use Rattle.ods_calls.specs.Spreading.{reaches}
use Rattle.ods_calls.specs.Reaching.{thread_of}
use Rattle.ods_calls.proofs.SourceLaws.{few-threads}
use Rattle.ods_calls.proofs.sources.Shown.new.Goals as goal

pub returns-clause-right : goal.returns-clause-right
returns-clause-right c =
    let x = design_of c.in_ok-starts.starts.links.now.design.now in
    let threads : map thread_of c.args.threads.items ≡ thread_objects x =
    c.requires.threads ∙ ap (λ (d : code.Design). thread_objects (design_of d)) (sym c.in_ok-starts.ensures) in
    record {
      threads = threads;
      reached =
          λ n p at. c.in_ok-reached.ensures n p at
          ∙ ap (λ (ts : List (Bor Node)). list_any (λ o. reaches x o n) (map thread_of ts)) c.as_slice-2.ensures.value
          ∙ ap (λ (os : List Object). list_any (λ o. reaches x o n) os) threads;
      once =
          λ n h. subst (λ (os : List Object). fold max 0 (map (requests_by x n) os) ≤ 1)
          (ap (λ (ts : List (Bor Node)). map thread_of ts) c.as_slice-3.ensures.value ∙ threads) (c.in_ok-once.ensures.starts n h);
      alone =
          λ n h. subst (λ (os : List Object). length (filter (λ o. reaches x o n) os) ≤ 1)
          (ap (λ (ts : List (Bor Node)). map thread_of ts) c.as_slice-3.ensures.value ∙ threads) (c.in_ok-once.ensures.sources n h);
      few =
          subst (λ (d : code.Design). length (thread_objects (design_of d)) < 4294967295) (sym c.in_ok-starts.ensures)
          (few-threads (design_of c.args.index.now.design.now) c.requires.few);
    }

pub new-requires-2 : goal.new-requires-2
new-requires-2 c =
    ap (λ (bs : List OpCalls). map calls_of bs) c.as_slice-calls.ensures.value ∙ c.requires.indexed.called
    ∙ ap (λ (d : code.Design). design_calls (design_of d)) (sym c.in_ok-starts.ensures)
