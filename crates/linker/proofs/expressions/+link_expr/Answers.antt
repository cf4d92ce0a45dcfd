use Rattle.std.proofs.Common.{◌≡◌, rules}
use Rattle.seq_tree.specs.Expressions.{Binary}
use Rattle.seq_tree.specs.Trees.{expression_of}
use Rattle.seq_tree.specs.declared.tree.Expr.{the_lemmas}
use Rattle.linker.proofs.Shared.Growths.{binary_ok, grows_twice, linked_grown}
use Rattle.linker.proofs.expressions.+link_expr.Goals as goal

pub returns-in_ok-right-in-Binary-clause-grows : goal.returns-in_ok-right-in-Binary-clause-grows
returns-in_ok-right-in-Binary-clause-grows g t c =
    grows_twice c.args.nodes.now.items c.link_expr-in-Binary-2.new.nodes.items c.link_binary.new.nodes.items
    (grows_twice c.args.nodes.now.items c.link_expr-in-Binary.new.nodes.items c.link_expr-in-Binary-2.new.nodes.items
    c.link_expr-in-Binary.ensures.grows
    c.link_expr-in-Binary-2.ensures.grows) c.link_binary.ensures.grows

pub returns-in_ok-right-in-Binary-clause-linked : goal.returns-in_ok-right-in-Binary-clause-linked
returns-in_ok-right-in-Binary-clause-linked g t c =
    let l = linked_grown c.link_expr-in-Binary.new.nodes.items c.link_expr-in-Binary-2.new.nodes.items (g.L.Lookup.meaning c.args.scope.now)
    c.in_ok-left-in-Binary.left _ c.link_expr-in-Binary-2.ensures.grows c.in_ok-left-in-Binary.ensures.linked in
    let whole : expression_of c.args.expr.now
    ≡ Binary c.in-Binary.op (expression_of c.deref-in-Binary.result.now) (expression_of c.deref-in-Binary-2.result.now) = search
    (rules, the_lemmas) in
    binary_ok c.link_binary.result c.link_expr-in-Binary-2.new.nodes.items c.link_binary.new.nodes.items c.in-Binary.op c.in_ok-left-in-Binary.left
    c.in_ok-right-in-Binary.right (g.L.Lookup.meaning c.args.scope.now) (expression_of c.deref-in-Binary.result.now)
    (expression_of c.deref-in-Binary-2.result.now) (expression_of c.args.expr.now) whole l c.in_ok-right-in-Binary.ensures.linked
    c.link_binary.ensures.linked
