use Rattle.std.proofs.Common.{rules, ◌≡◌, ◌++◌, ◌∷◌, [], true, map, ap, ◌∙◌}
use Rattle.std.proofs.lemmas.Result.{on_ok_weaker}
use Rattle.seq_tree.specs.Calls.{same_op}
use Rattle.name_sets.specs.Tables.{at, listed}
use Rattle.ods_index.specs.Calling.{calls_of}
use Rattle.ods_calls.specs.Held.{is_held}
use Rattle.ods_calls.specs.Requested.{bodies_at, held_named, held_of}
use Rattle.ods_calls.proofs.KeptCalls.{added}
use Rattle.ods_calls.proofs.LoopSteps.{one_passes}
use Rattle.ods_calls.proofs.bodies.add_body.Goals as goal

pub returns : goal.returns
unfolding bodies_at
returns c =
    let own = calls_of c.args.calls.now in
    let yes : is_held own ≡ true = search rules in
    on_ok_weaker c.extend.result
    (λ h n. added held_of (same_op own.name n) (listed (at c.extend.new.self n)) (listed (at c.args.table.now n))
    c.in_ok-more.more.items (own ∷ []) (h n) (ap (map held_of) c.in_ok-more.ensures.items)
    ∙ ap (λ hs. map held_of (listed (at c.args.table.now n)) ++ hs) (one_passes (held_named n) is_held own yes))
    c.extend.ensures.added
