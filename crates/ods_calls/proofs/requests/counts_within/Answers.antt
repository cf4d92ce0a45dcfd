use Rattle.std.proofs.Common.{rules, ◌≡◌, ◌≤◌, ℕ, suc, [], List, Some, None, true, false, filter, flat_map, length, map, min, vec_len, add-one, arith}
use Rattle.std.proofs.Common.{ap, sym, subst, ◌∙◌}
use Rattle.std.proofs.lemmas.List.{nil_from_length}
use Rattle.std.specs.Prelude.{if◌then◌else◌}
use Rattle.std.specs.List.{list_any}
use Rattle.seq_tree.specs.Calls.{same_op}
use Rattle.seq_tree.specs.declared.tree.OpName.{OpName}
use Rattle.name_sets.specs.Tables.{or_0}
use Rattle.ods_tree.specs.Trees.{design_of}
use Rattle.design_rules.specs.Sources.{starts_within}
use Rattle.ods_calls.specs.Requested.{AreDue, Knows, bodies_at, changes, greatest_count, known_in}
use Rattle.ods_calls.specs.Requesters.{by_object, by_op}
use Rattle.ods_calls.specs.Spreading.{found_all}
use Rattle.ods_calls.proofs.RequestLaws.{deeper-count, first-due, next-due, next-known, none-due, none-left, same-unless}
use Rattle.ods_calls.proofs.requests.counts_within.Goals as goal
use Rattle.seq_cost.specs.Different.{call_of}
use Rattle.seq_cost.specs.declared.written.Call.{Call}

pub levels-init : goal.levels-init
levels-init c =
    let x = design_of c.args.links.now.design.now in
    let target = c.args.target.now in (
      λ n. ap or_0 (c.new-known.ensures n),
      subst (AreDue x target 0) (sym c.in_ok-due.ensures)
          (first-due x target (by_object c.args.callers.now.objects target) (c.requires.called.objects target)),
    )

pub levels-preserved : goal.levels-preserved
levels-preserved c =
    let x = design_of c.args.links.now.design.now in
    let target = c.args.target.now in
    let depth = c.levels.counter in
    let due = map call_of c.levels.due.items in
    let known = known_in c.levels.known in
    let counts = known_in c.in_ok-counts.counts in
    let inner = starts_within depth x target in
    let new = filter (changes c.levels.known c.in_ok-counts.counts) due in
    let ops : map call_of c.as_slice.result.now ≡ due = ap (λ (os : List Call). map call_of os) c.as_slice.ensures.value in
    let count : (n : OpName) → list_any (λ d. same_op d n) due ≡ true → counts n ≡ min 2 (starts_within (suc depth) x target n) =
    λ n h. ap or_0 (c.in_ok-counts.ensures inner c.levels.invariant.0 n
    ∙ ap (λ (os : List OpName). if list_any (λ d. same_op d n) os
    then Some (min 2 (greatest_count x target inner (bodies_at c.args.bodies.now n))) else None) ops
    ∙ ap (λ b. if b then Some (min 2 (greatest_count x target inner (bodies_at c.args.bodies.now n))) else None) h)
    ∙ ap (λ hs. min 2 (greatest_count x target inner hs)) (c.requires.named n) ∙ ap (min 2) (sym (deeper-count x target depth n)) in
    let changed : map call_of c.in_ok-changed.changed.items ≡ new =
    c.in_ok-changed.ensures ∙ ap
    (λ (os : List Call). filter (changes c.levels.known c.in_ok-counts.counts) (map call_of os)) c.as_slice-in-levels.ensures.value in
    let put : map call_of c.as_slice-in-levels-2.result.now ≡ new = ap (λ (os : List Call). map call_of os) c.as_slice-in-levels-2.ensures.value
    ∙ changed in
    let callers : map call_of c.as_slice-in-levels-3.result.now
    ≡ new = ap (λ (os : List Call). map call_of os) c.as_slice-in-levels-3.ensures.value ∙ changed in
    let next = c.put_counts.new.known in
    let is : (n : OpName) → known_in next n ≡ (if list_any (λ d. same_op d n) new then counts n else known n) =
    λ n. c.in_ok-put_counts.ensures n ∙ ap (λ (os : List OpName). if list_any (λ d. same_op d n) os then counts n else known n) put in
    let same : (n : OpName) → list_any (λ d. same_op d n) new ≡ false → min 2 (starts_within depth x target n)
    ≡ min 2 (starts_within (suc depth) x target n) =
    same-unless x target depth due known counts c.levels.invariant.0 c.levels.invariant.1 count in
    let found = map call_of c.in_ok-due-2.due.items in
    let later : found ≡ found_all [] (flat_map (by_op c.args.callers.now.ops) new) =
    c.in_ok-due-2.ensures ∙ ap (λ os. found_all [] (flat_map (by_op c.args.callers.now.ops) os)) callers in
    let P : ℕ → Type 0 = λ d. Knows next (starts_within d x target) × AreDue x target d found in
    subst P (sym (add-one depth)) (
      next-known x target depth due known counts (known_in next) c.levels.invariant.0 c.levels.invariant.1 count is,
      subst (AreDue x target (suc depth)) (sym later) (next-due x target depth (by_op c.args.callers.now.ops) new c.requires.called.ops same),
    )

pub returns-then-is_empty : goal.returns-then-is_empty
returns-then-is_empty c =
    let due = c.levels.due.items in
    let empty : c.is_empty.result ≡ true = search rules in
    let zero = none-left c.is_empty.result (vec_len c.levels.due) c.is_empty.ensures empty in
    let size : length due ≡ 0 = omega (arith, zero, c.levels.due.ok.0) in
    let deep : c.levels.counter ≤ c.args.depth = omega (arith, c.levels-test.true) in
    λ n. c.levels.invariant.0 n
    ∙ none-due (design_of c.args.links.now.design.now) c.args.target.now c.levels.counter c.args.depth (map call_of due)
    (ap (λ (os : List Call). map call_of os) (nil_from_length due size)) c.levels.invariant.1 deep n
