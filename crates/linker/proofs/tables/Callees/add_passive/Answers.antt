use Rattle.std.proofs.Common.{◌∷◌, suc, map, subst}
use Rattle.std.proofs.lemmas.Result.{on_ok_weaker}
use Rattle.seq_tree.specs.Trees.{operation_of}
use Rattle.machine.specs.Systems.{op_named, plain_by, libraries_from}
use Rattle.linker.specs.Callees.{AreEntered, body_of, target_among}
use Rattle.linker.proofs.Entering.{plain_led}
use Rattle.linker.proofs.Units.{as_cyclic, as_passive, as_shared, as_sporadic, library_here}
use Rattle.linker.proofs.tables.Callees.add_passive.Goals as goal

pub returns-in-Passive : goal.returns-in-Passive
returns-in-Passive c =
    let u = c.args.unit.now in
    let ops = c.in-Passive.ops in
    let os = map operation_of ops.items in
    on_ok_weaker c.enter_ops.result
    (λ entered y us n i m k gs ts h. (
      suc n,
      entered y (λ op. plain_by (op_named op os)) _ _ (plain_led os) (library_here u.name os n i m k us gs ts)
          (subst (λ v. AreEntered y c.args.self.now.units (map body_of c.args.self.now.bodies.items)
          (target_among n (libraries_from i (v ∷ us)) m gs k ts))
          (as_passive u ops c.in-Passive.is) h),
    ))
    (rw c.deref.ensures.value at c.enter_ops.ensures)

pub returns-in-Shared : goal.returns-in-Shared
returns-in-Shared c = λ y us n i m k gs ts h.
    let s = c.in-Shared in (
      n,
      subst (λ v. AreEntered y c.args.self.now.units (map body_of c.args.self.now.bodies.items)
          (target_among n (libraries_from i (v ∷ us)) m gs k ts))
          (as_shared c.args.unit.now s.ceiling s.vars s.ops s.is) h,
    )

pub returns-in-Cyclic : goal.returns-in-Cyclic
returns-in-Cyclic c = λ y us n i m k gs ts h.
    let s = c.in-Cyclic in (
      n,
      subst (λ v. AreEntered y c.args.self.now.units (map body_of c.args.self.now.bodies.items)
          (target_among n (libraries_from i (v ∷ us)) m gs k ts))
          (as_cyclic c.args.unit.now s.priority s.offset s.period s.vars s.block s.is) h,
    )

pub returns-in-Sporadic : goal.returns-in-Sporadic
returns-in-Sporadic c = λ y us n i m k gs ts h.
    let s = c.in-Sporadic in (
      n,
      subst (λ v. AreEntered y c.args.self.now.units (map body_of c.args.self.now.bodies.items)
          (target_among n (libraries_from i (v ∷ us)) m gs k ts))
          (as_sporadic c.args.unit.now s.priority s.ceiling s.op s.separation s.jitter s.external s.vars s.block s.is) h,
    )
