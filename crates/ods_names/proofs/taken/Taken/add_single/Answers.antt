use Rattle.ods_names.proofs.TakenSteps.{single_added}
use Rattle.ods_names.proofs.taken.Taken.add_single.Goals as goal

pub returns : goal.returns
returns c = λ requests earlier open' h. single_added requests c.args.self.now c.add.new.self c.add-2.new.self earlier c.args.name.now open'
    c.in_ok-add.ensures.added c.in_ok-add-2.ensures.added h
