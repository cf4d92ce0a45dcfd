use Rattle.std.proofs.Common.{sym, arith}
use Rattle.rings.specs.Graphs.{is_step}
use Rattle.rings.specs.Reached.{leads}
use Rattle.rings.proofs.RingLaws.{same-ring, told-ring, told-none, no-more, ring-inside}
use Rattle.rings.proofs.firsts.first_by_search.Goals as goal

pub returns-then-branch : goal.returns-then-branch
returns-then-branch c = (
  same-ring (leads c.in_ok-graph.graph) (is_step c.args.count c.args.edges.now) c.in_ok-graph.ensures.edges c.nodes.node
      (told-ring (leads c.in_ok-graph.graph) c.nodes.node c.in_ok-is_on_ring.field-0 c.in_ok-is_on_ring.ensures c.if-branch.true),
  (λ n below ring. c.nodes.invariant n below (same-ring (is_step c.args.count c.args.edges.now) (leads c.in_ok-graph.graph)
      (λ a b. sym (c.in_ok-graph.ensures.edges a b)) n ring)),
)

pub nodes-preserved : goal.nodes-preserved
nodes-preserved c =
    no-more (leads c.in_ok-graph.graph) c.nodes.node c.nodes.invariant
    (told-none (leads c.in_ok-graph.graph) c.nodes.node c.in_ok-is_on_ring.field-0 c.in_ok-is_on_ring.ensures c.if-branch.false)

pub returns : goal.returns
returns c = λ n ring.
    let inside = ring-inside c.args.count c.args.edges.now n ring in
    let end = c.nodes-test.false in
    c.nodes.invariant n (grind (arith, inside, end)) (same-ring (is_step c.args.count c.args.edges.now) (leads c.in_ok-graph.graph)
    (λ a b. sym (c.in_ok-graph.ensures.edges a b)) n ring)
