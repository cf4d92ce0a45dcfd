-- On the processor what a call costs covers what it leads to, also where protected bodies call further: it is enough that no operation
-- leads to itself.
use Rattle.std.specs.Prelude.{◌≡◌, ◌≤◌, ◌*◌, List, ⊤}
use Rattle.std.proofs.Common.{◌∙◌, ap, arith}
use Rattle.seq_tree.specs.Operations.{Operation}
use Rattle.seq_tree.specs.Dearest.{cost}
use Rattle.seq_tree.specs.declared.tree.OpName.{OpName}
use Rattle.ada_tree.specs.Programs.{Program}
use Rattle.arrivals_tree.specs.Arriving.{Arrivals}
use Rattle.ods_tree.specs.Services.{Service, Sort}
use Rattle.ods_tree.specs.Services as sort
use Rattle.analysis.specs.Execution.{body_cost_by, service_cost, called_cost}
use Rattle.guarantee.specs.ResponseLaw.{program_services}
use Rattle.machine.specs.Systems.{CallTarget, Plain, Protected, Request, Unknown, system, callee}
use Rattle.law_calls.specs.CallLaws.{HaveNoRing}
use Rattle.law_calls.proofs.Shared.UnitNames.{AreApart}
use Rattle.law_calls.proofs.Shared.Named.{IsServed, ServedAs, served-as}
use Rattle.law_calls.proofs.Shared.Bodies.{costs-cover}

-- what a call costs covers what it leads to
abbrev pub PaysCall : Program → OpName → CallTarget → Type 0
PaysCall p c (Plain o) = cost p.costs (called_cost p.costs (program_services p)) o.block ≤ called_cost p.costs (program_services p) c.object c.op
PaysCall p c (Protected object j g o) = cost p.costs (called_cost p.costs (program_services p)) o.block
    ≤ called_cost p.costs (program_services p) c.object c.op
PaysCall p c (Request task) = 2 * p.costs.assign ≤ called_cost p.costs (program_services p) c.object c.op
PaysCall p c Unknown = ⊤

module _ (p : Program) (a : Arrivals) (apart : AreApart p.units) (no_ring : HaveNoRing (program_services p)) where
  abbrev ss : List Service
  ss = program_services p

  pub pays-call : (c : OpName) → PaysCall p c (callee (system p a) c.object c.op)
  pays-call c = by (callee (system p a) c.object c.op) (served-as p a apart c.object c.op)
    where
      body : (x : Sort) (o : Operation) → IsServed p c.object c.op x o → called_cost p.costs ss c.object c.op
          ≡ body_cost_by p.costs (called_cost p.costs ss) x o
      body x o s =
          costs-cover ss no_ring p.costs c.object c.op ∙ ap (service_cost p.costs (called_cost p.costs ss)) s.found
          ∙ ap (λ z. body_cost_by p.costs (called_cost p.costs ss) z s.service.op) s.sorts ∙ ap
          (body_cost_by p.costs (called_cost p.costs ss) x) s.does

      by : (k : CallTarget) → ServedAs p (system p a) c.object c.op k → PaysCall p c k
      by (Plain o) s = let is = body sort.Plain o s in omega (arith, is)
      by (Protected object j g o) s = let is = body sort.Protected o s.0 in omega (arith, is)
      by (Request task) s =
          let is : called_cost p.costs ss c.object c.op ≡ 2 * p.costs.assign =
          costs-cover ss no_ring p.costs c.object c.op ∙ ap (service_cost p.costs (called_cost p.costs ss)) (s.0).found
          ∙ ap (λ z. body_cost_by p.costs (called_cost p.costs ss) z (s.0).service.op) (s.0).sorts in
          omega (arith, is)
      by Unknown s = tt
