use Rattle.std.proofs.Common.{rules, Option, ◌≡◌, map, ◌∙◌}
use Rattle.std.specs.Prelude.{option_map, IfOk}
use Rattle.std.proofs.lemmas.Result.{IfOk-weaker}
use Rattle.seq_tree.specs.Names.{Name}
use Rattle.seq_tree.specs.Trees.{operation_of}
use Rattle.name_sets.specs.Tables.{at}
use Rattle.ods_tree.specs.Designs.{Body}
use Rattle.ods_tree.specs.Flattening.{body_named, operations}
use Rattle.ods_tree.specs.Trees.{body_of, design_of}
use Rattle.ods_tree.specs.declared.design.Node.{the_lemmas}
use Rattle.ods_index.specs.Nodes.{node_object}
use Rattle.ods_flat.specs.Terminals.{operations_among}
use Rattle.ods_flat.proofs.TerminalLaws.{operations-same}
use Rattle.ods_flat.proofs.entries.operations.Goals as goal

pub returns : goal.returns
returns c =
    let x = design_of c.args.links.now.design.now in
    let o = node_object c.args.node in
    let look : Name → Option Body = λ op. option_map (λ b. body_of b.now) (at c.in_ok-bodies.bodies (record { object = o.name; op = op })) in
    let looks : (op : Name) → look op ≡ body_named op o.bodies = λ op. search (rules, the_lemmas, c.in_ok-bodies.ensures op) in
    let given : IfOk c.operations_by.result (λ v. map operation_of v.items ≡ operations_among x look o.provides) = search (rules, the_lemmas) in
    IfOk-weaker c.operations_by.result (λ v. map operation_of v.items ≡ operations_among x look o.provides)
    (λ v. map operation_of v.items ≡ operations x o)
    (λ v is. is ∙ operations-same x look (λ op. body_named op o.bodies) o.provides looks) given
