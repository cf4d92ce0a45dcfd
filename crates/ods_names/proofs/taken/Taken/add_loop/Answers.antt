use Rattle.ods_names.proofs.TakenSteps.{loop_added}
use Rattle.ods_names.proofs.taken.Taken.add_loop.Goals as goal

pub returns : goal.returns
returns c = λ requests earlier open' place body ops h. loop_added requests c.args.self.now c.add.new.self earlier place body ops c.args.name.now open'
    c.in_ok-add.ensures.added h
