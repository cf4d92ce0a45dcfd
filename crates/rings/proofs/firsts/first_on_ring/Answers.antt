use Rattle.std.proofs.Common.{◌≡◌, ℕ, List, false, ap, sym, ◌∙◌, arith}
use Rattle.std.specs.List.{list_any}
use Rattle.rings.specs.Graphs.{is_step}
use Rattle.rings.specs.Ranks.{falls, is_before}
use Rattle.rings.specs.Reached.{leads}
use Rattle.rings.proofs.RingLaws.{none-before, same-ring, told-ring}
use Rattle.rings.proofs.firsts.first_on_ring.Goals as goal

pub returns-in-None : goal.returns-in-None
returns-in-None c = λ n ring.
    let none : list_any (falls c.args.count c.as_slice-2.result.now) c.args.edges.now ≡ false =
    ap (λ (rs : List ℕ). list_any (falls c.args.count rs) c.args.edges.now) (c.as_slice-2.ensures.value ∙ sym c.as_slice.ensures.value) ∙ sym
    c.any_falls.ensures ∙ c.if-any_falls.false in
    none-before c.args.count c.as_slice-2.result.now c.args.edges.now none c.first_level.result c.first_level.ensures n
    (ap (is_before n) c.in-None.is) ring

pub returns-then-branch : goal.returns-then-branch
returns-then-branch c =
    let none : list_any (falls c.args.count c.as_slice-2.result.now) c.args.edges.now ≡ false =
    ap (λ (rs : List ℕ). list_any (falls c.args.count rs) c.args.edges.now) (c.as_slice-2.ensures.value ∙ sym c.as_slice.ensures.value) ∙ sym
    c.any_falls.ensures ∙ c.if-any_falls.false in (
      same-ring (leads c.in_ok-graph.graph) (is_step c.args.count c.args.edges.now) c.in_ok-graph.ensures.edges c.in-Some.node
          (told-ring (leads c.in_ok-graph.graph) c.in-Some.node c.in_ok-is_on_ring-in-Some.field-0 c.in_ok-is_on_ring-in-Some.ensures
          c.if-branch.true),
      (λ n below ring. none-before c.args.count c.as_slice-2.result.now c.args.edges.now none c.first_level.result c.first_level.ensures n
          (ap (is_before n) c.in-Some.is ∙ grind (arith, below)) ring),
    )
