use Rattle.std.proofs.Common.{sym}
use Rattle.ods_names.proofs.TakenSteps.{local_added}
use Rattle.ods_names.proofs.taken.Taken.add_local.Goals as goal

pub returns : goal.returns
returns c = λ requests earlier open' h. local_added requests c.args.self.now c.add.new.self c.add-2.new.self earlier c.args.place c.args.body
    c.args.op.now c.args.name.now open' c.in_ok-add.ensures.added (rw (sym c.bytes.ensures.bytes) c.in_ok-add-2.ensures) h
