use Rattle.std.proofs.Common.{◌≡◌, ◌∙◌, List, filter, flat_map, length, map, arith, ap, sym}
use Rattle.std.proofs.lemmas.List.{length-map}
use Rattle.seq_tree.specs.declared.tree.OpName.{OpName}
use Rattle.ods_tree.specs.Trees.{design_of}
use Rattle.ods_tree.specs.Walk.{objects}
use Rattle.ods_tree.specs.declared.design.Design as code
use Rattle.design_rules.specs.Rings.{terminal_ops}
use Rattle.ods_index.specs.Calling.{calls_of, design_calls}
use Rattle.ods_index.specs.Walking.{standing_of}
use Rattle.ods_calls.specs.Held.{is_held}
use Rattle.ods_calls.specs.Requested.{held_named, object_callers, op_callers}
use Rattle.ods_calls.proofs.CallRings.{ops-same}
use Rattle.ods_calls.proofs.sources.Requests.new.Goals as goal
use Rattle.seq_cost.specs.Different.{call_of}

pub turned-requires : goal.turned-requires
turned-requires c =
    ap (map calls_of) c.as_slice-calls.ensures.value ∙ c.requires.indexed.called
    ∙ ap (λ (d : code.Design). design_calls (design_of d)) (sym c.requires.same)

pub returns-clause-right : goal.returns-clause-right
returns-clause-right c =
    let x = design_of c.args.index.now.design.now in
    let called : map calls_of c.as_slice-calls.result.now ≡ design_calls (design_of c.args.shown.starts.links.now.design.now) =
    ap (map calls_of) c.as_slice-calls.ensures.value ∙ c.requires.indexed.called
    ∙ ap (λ (d : code.Design). design_calls (design_of d)) (sym c.requires.same) in
    let seen : map standing_of c.as_slice.result.now ≡ objects x = ap (map standing_of) c.as_slice.ensures.value ∙ c.requires.indexed.walked in
    let ops : map call_of c.in_ok-ops.ops.items ≡ terminal_ops x =
    ops-same x c.in_ok-ops.ops.items (map standing_of c.as_slice.result.now) c.in_ok-ops.ensures seen in
    let long : c.len-depth.result ≡ length c.in_ok-ops.ops.items = omega (arith, c.len-depth.ensures, c.in_ok-ops.ops.ok.0) in
    record {
      shown = c.requires.shown;
      named = λ n. c.in_ok-bodies.ensures n ∙ ap (λ cs. flat_map (held_named n) (filter is_held cs)) called;
      called = record {
        ops = λ n. c.in_ok-callers.ensures.ops n ∙ ap (λ cs. flat_map (op_callers n) (filter is_held cs)) called;
        objects = λ n. c.in_ok-callers.ensures.objects n ∙ ap (λ cs. flat_map (object_callers n) (filter is_held cs)) called;
      };
      deep =
          long ∙ sym (length-map c.in_ok-ops.ops.items call_of) ∙ ap (λ (ks : List OpName). length ks) ops
          ∙ ap (λ (d : code.Design). length (terminal_ops (design_of d))) (sym c.requires.same);
      counted = c.in_ok-back.ensures.count;
      stepped = c.in_ok-back.ensures.edges;
    }
