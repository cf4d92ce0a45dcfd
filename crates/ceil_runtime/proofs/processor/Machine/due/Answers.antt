use Rattle.std.proofs.Common.{length, refl}
use Rattle.std.proofs.lemmas.Option.{slice_get_read}
use Rattle.ceil_runtime.proofs.Idles.{due-else, due-then}
use Rattle.ceil_runtime.proofs.processor.Machine.due.Goals as goal

pub returns-then-active-eq0 : goal.returns-then-active-eq0
returns-then-active-eq0 c =
    let ts = c.args.self.now.tasks.items in
    let t = c.index-active.result.now in
    due-then c.args.self.now.code ts c.requires.at_work c.args.task t (slice_get_read ts (length ts) c.args.task t refl c.requires.known
    c.index-active.ensures) c.if-active-eq0.true

pub returns-else-active-eq0 : goal.returns-else-active-eq0
returns-else-active-eq0 c =
    let ts = c.args.self.now.tasks.items in
    let t = c.index-active.result.now in
    due-else c.args.self.now.code ts c.requires.at_work c.args.task t (slice_get_read ts (length ts) c.args.task t refl c.requires.known
    c.index-active.ensures) c.if-active-eq0.false
