use Rattle.std.proofs.Common.{sym, ap, ◌∙◌}
use Rattle.std.proofs.lemmas.List.{nil_from_length}
use Rattle.token_read.specs.Behind.{behind}
use Rattle.token_read.proofs.Shared.BehindSteps.{behind-nil}
use Rattle.token_read.proofs.tokens_left.next_of.Goals as goal

pub returns : goal.returns
returns c = sym c.fronts.invariant.same ∙ ap behind (nil_from_length c.fronts.left.now c.in_default.ensures.cases) ∙ behind-nil
