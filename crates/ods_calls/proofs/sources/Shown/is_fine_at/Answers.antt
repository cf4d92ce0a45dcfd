use Rattle.std.proofs.Common.{rules, ◌≡◌, ◌∙◌, ◌+◌, ◌≤◌, Bool, List, true, false, filter, fold, get_or, length, map, arith, ap, sym}
use Rattle.std.proofs.lemmas.Bool.{eqb-true, and_parts}
use Rattle.std.specs.Prelude.{max, ◌==◌}
use Rattle.std.specs.List.{list_any}
use Rattle.ods_tree.specs.Trees.{design_of}
use Rattle.design_rules.specs.Rings.{thread_objects}
use Rattle.design_rules.specs.Sources.{requests_by}
use Rattle.ods_calls.specs.Singles.{is_once}
use Rattle.ods_calls.specs.Spreading.{reaches}
use Rattle.ods_index.specs.Walking.{object_of}
use Rattle.ods_calls.proofs.SourceLaws.{fine-fault, none-reached, some-reached}
use Rattle.ods_calls.proofs.sources.Shown.is_fine_at.Goals as goal

pub returns : goal.returns
returns c shown =
    let self = c.args.self.now in
    let x = design_of self.starts.links.now.design.now in
    let o = object_of c.args.node.now in
    let out = c.outside_count-outside.result in
    let no : c.is_marked.result ≡ false = search rules in
    let none : list_any (λ f. reaches x f o.name) (thread_objects x) ≡ false =
    sym (c.requires.shown.reached o.name c.args.place c.requires.at)
    ∙ ap (λ (ms : List Bool). get_or ms c.args.place false) (sym c.as_slice.ensures.value) ∙ sym c.is_marked.ensures ∙ no in
    let nothing = none-reached x o.name (thread_objects x) none in
    let one : out ≡ 1 = eqb-true out 1 shown in
    let sources : length (filter (λ f. reaches x f o.name) (thread_objects x)) + out ≡ 1 = omega (arith, nothing.0, one) in
    let starts : fold max 0 (map (requests_by x o.name) (thread_objects x)) ≤ 1 = omega (arith, nothing.1) in
    fine-fault x o out c.outside_count-outside.ensures.count sources starts

pub returns-then-is_marked : goal.returns-then-is_marked
returns-then-is_marked c shown =
    let self = c.args.self.now in
    let x = design_of self.starts.links.now.design.now in
    let o = object_of c.args.node.now in
    let out = c.outside_count-outside.result in
    let yes : c.is_marked.result ≡ true = search rules in
    let some : list_any (λ f. reaches x f o.name) (thread_objects x) ≡ true =
    sym (c.requires.shown.reached o.name c.args.place c.requires.at)
    ∙ ap (λ (ms : List Bool). get_or ms c.args.place false) (sym c.as_slice.ensures.value) ∙ sym c.is_marked.ensures ∙ yes in
    let parts = and_parts (out == 0) (is_once self.once o.name) (sym c.is_alone.ensures ∙ shown) in
    let none : out ≡ 0 = eqb-true out 0 parts.0 in
    let least = some-reached x o.name (thread_objects x) some in
    let most = c.requires.shown.alone o.name parts.1 in
    let sources : length (filter (λ f. reaches x f o.name) (thread_objects x)) + out ≡ 1 = omega (arith, none, least, most) in
    fine-fault x o out c.outside_count-outside.ensures.count sources (c.requires.shown.once o.name parts.1)
