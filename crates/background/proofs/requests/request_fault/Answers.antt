use Rattle.std.proofs.Common.{None, Some, ap, sym, ◌∙◌}
use Rattle.ods_tree.specs.Trees.{flat_of, thread_of}
use Rattle.background.proofs.RequestLaws.{told-row}
use Rattle.background.proofs.requests.request_fault.Goals as goal

pub returns-in-None : goal.returns-in-None
returns-in-None c =
    sym (told-row (flat_of c.args.flat.now) c.args.place c.row_of-row.result (thread_of c.args.thread.now) c.requires.stands c.row_of-row.ensures
    c.requires.sound (sym c.if-not-is_slow.ensures) None c.in-None.ensures)

pub returns-in_ok-told-in-Some : goal.returns-in_ok-told-in-Some
returns-in_ok-told-in-Some c =
    ap Some c.in_ok-told-in-Some.ensures
    ∙ sym (told-row (flat_of c.args.flat.now) c.args.place c.row_of-row.result (thread_of c.args.thread.now) c.requires.stands c.row_of-row.ensures
    c.requires.sound (sym c.if-not-is_slow.ensures) (Some (thread_of c.in-Some.target.now)) c.in-Some.ensures)
