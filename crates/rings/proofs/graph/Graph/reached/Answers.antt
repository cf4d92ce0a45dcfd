use Rattle.std.proofs.Common.{◌≡◌, [], arith, ap, ◌∙◌, ◌&&◌, false, get_or, nat_lt}
use Rattle.rings.specs.Graphs.{has_number}
use Rattle.rings.specs.Reached.{leads}
use Rattle.rings.proofs.Shared.Reaching.{taken, complete, has-last, marks-grow}
use Rattle.rings.proofs.RingLaws.{no-items}
use Rattle.rings.proofs.graph.Graph.reached.Goals as goal

pub nodes-preserved : goal.nodes-preserved
nodes-preserved c = (
  c.in_ok-mark_all-2.ensures.len ∙ c.nodes.invariant.0,
  taken (leads c.args.self.now) (λ s. has_number c.args.starts.now s && nat_lt s c.args.self.now.count) (λ n. get_or c.nodes.marks.items n false)
      (has_number c.nodes.todo.items)
      (λ n. get_or c.mark_all-in-Some.new.marks.items n false) (has_number c.pop.new.self.items)
      (has_number c.mark_all-in-Some.new.todo.items) c.in-Some.node c.nodes.invariant.1
      (has-last c.nodes.todo.items c.pop.new.self.items c.in-Some.node c.in-Some.ensures.items)
      (marks-grow c.args.self.now c.in-Some.node c.get.result.now c.nodes.marks.items c.mark_all-in-Some.new.marks.items c.get.ensures
      c.nodes.invariant.0 c.in_ok-mark_all-2.ensures.marks)
      c.in_ok-mark_all-2.ensures.todo,
)

pub returns-clause-complete : goal.returns-clause-complete
returns-clause-complete c =
    complete (leads c.args.self.now) (λ s. has_number c.args.starts.now s && nat_lt s c.args.self.now.count) (λ n. get_or c.nodes.marks.items n false)
    (has_number c.nodes.todo.items)
    c.nodes.invariant.1 (λ n. let e : c.nodes.todo.items ≡ [] = no-items c.nodes.todo.items (let v = c.in_default.ensures.variant in grind (arith, v))
    in ap (λ xs. has_number xs n) e)
