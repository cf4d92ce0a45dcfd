use Rattle.std.proofs.Common.{◌<◌, length, ap, ◌∙◌, arith}
use Rattle.law_traces.specs.Cuts.{cut}
use Rattle.trace_read.specs.Telling.{events_in, told_by}
use Rattle.trace_read.specs.Texts.{table_program}
use Rattle.trace_read.proofs.Telling.{tells-where}
use Rattle.trace_read.proofs.reads.read_at.Goals as goal

pub split_at-requires : goal.split_at-requires
split_at-requires c = c.requires.within c.args.at (omega arith)

pub returns-clause-read : goal.returns-clause-read
returns-clause-read c =
    let less : c.args.at < length c.args.starts.now = omega arith in
    tells-where (events_in (table_program c.args.table.now) c.args.text.now) (told_by (table_program c.args.table.now) c.new-lines.result)
    (told_by (table_program c.args.table.now) c.next_in.new.lines) c.args.at c.next_in.result
    (ap (told_by (table_program c.args.table.now)) (c.new-lines.ensures ∙ ap (cut 10) c.split_at.ensures.back) ∙ c.requires.start c.args.at less)
    c.next_in.ensures.next
