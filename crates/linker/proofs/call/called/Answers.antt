use Rattle.std.proofs.Common.{Some, map, refl, ap, sym, subst}
use Rattle.seq_tree.specs.Trees.{expression_of}
use Rattle.seq_tree.specs.Variables.{targets}
use Rattle.linker.specs.Standing.{TargetsStand, lists_of, values_in}
use Rattle.linker.specs.declared.code.Ins.TheVariants as ins
use Rattle.linker.proofs.Handing.{values_grown}
use Rattle.linker.proofs.Keeping.{added_none, added_twice}
use Rattle.linker.proofs.call.called.Goals as goal

pub returns-in_ok-outs-in-Body-clause-added : goal.returns-in_ok-outs-in-Body-clause-added
returns-in_ok-outs-in-Body-clause-added c =
    added_twice (lists_of c.args.code.now) (lists_of c.add_values.new.code) (lists_of c.add_targets.new.code) c.in_ok-first-in-Body.ensures.added
    c.in_ok-outs-in-Body.ensures.added

pub returns-in_ok-outs-in-Body-clause-stands : goal.returns-in_ok-outs-in-Body-clause-stands
returns-in_ok-outs-in-Body-clause-stands c =
    let es = map expression_of c.args.actuals.now in
    let params = c.in-Body.params.now in
    let scope = c.args.scope.now in
    let new = lists_of c.add_targets.new.code in
    let first = c.in_ok-first-in-Body.first in
    let added = c.in_ok-outs-in-Body.ensures.added in
    rw c.in-Body.is (
      first,
      ap (λ n. Some (ins.Call c.in-Body.place first n)) c.in_ok-outs-in-Body.ensures.count,
      values_grown (lists_of c.add_values.new.code) new scope first (values_in params es) added.nodes added.actuals
          c.in_ok-first-in-Body.ensures.stand,
      subst (λ at. TargetsStand new scope at (targets params es)) (sym c.in_ok-first-in-Body.ensures.long) c.in_ok-outs-in-Body.ensures.stand,
    )

pub returns-in_ok-value-in-Request-clause-stands : goal.returns-in_ok-value-in-Request-clause-stands
returns-in_ok-value-in-Request-clause-stands c = rw c.in-Request.is (c.in_ok-value-in-Request.ensures.stands c.in-Request.task)

pub returns-in-Nowhere-clause-added : goal.returns-in-Nowhere-clause-added
returns-in-Nowhere-clause-added c = added_none (lists_of c.args.code.now)

pub returns-in-Nowhere-clause-stands : goal.returns-in-Nowhere-clause-stands
returns-in-Nowhere-clause-stands c = rw c.in-Nowhere.is refl
