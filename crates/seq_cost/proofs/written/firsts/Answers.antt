use Rattle.std.proofs.Common.{◌≡◌, [], map, drop, ap, sym, ◌∙◌}
use Rattle.std.proofs.lemmas.List.{drop_all}
use Rattle.seq_cost.specs.Different.{call_of}
use Rattle.seq_cost.proofs.Gathering.{all-different, with_calls}
use Rattle.seq_cost.proofs.written.firsts.Goals as goal

pub returns : goal.returns
returns c =
    let left : drop c.calls.call-index c.args.calls.now ≡ [] = drop_all c.calls.call-index c.args.calls.now c.calls-test.false in
    ap (λ xs. with_calls c.calls.found.items (map call_of xs)) (sym left) ∙ c.calls.invariant.0 ∙ all-different (map call_of c.args.calls.now)
