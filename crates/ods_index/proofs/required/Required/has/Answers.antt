use Rattle.std.proofs.Common.{◌∙◌}
use Rattle.seq_cost.specs.Different.{call_of}
use Rattle.ods_index.proofs.RequiredSteps.{any_sides}
use Rattle.ods_index.proofs.required.Required.has.Goals as goal

pub returns : goal.returns
returns c = c.has.ensures ∙ c.args.self.now.held (call_of c.args.call.now) ∙ any_sides (call_of c.args.call.now) c.args.self.now.ops.now
