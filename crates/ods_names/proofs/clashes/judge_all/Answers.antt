use Rattle.ods_names.specs.Mentions.{requests_in}
use Rattle.ods_names.proofs.clashes.judge_all.Goals as goal

pub returns : goal.returns
returns c = c.judge_each.ensures (requests_in c.args.index.now) c.in_ok-taken.ensures
