use Rattle.ods_names.proofs.TakenSteps.{whole_added}
use Rattle.ods_names.proofs.taken.Taken.add_whole.Goals as goal

pub returns : goal.returns
returns c = λ requests earlier open' h. whole_added requests c.args.self.now c.add.new.self earlier c.args.name.now open' c.in_ok-add.ensures.added h
