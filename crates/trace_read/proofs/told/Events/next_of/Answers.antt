use Rattle.std.proofs.Common.{List, drop, suc}
use Rattle.ada_tree.specs.Trees.{program_of}
use Rattle.trace_tree.specs.declared.event.Event.{Event}
use Rattle.trace_read.specs.Deeds.{from_own}
use Rattle.trace_read.specs.Deeds.{Reaches}
use Rattle.trace_read.specs.Telling.{events_in}
use Rattle.trace_read.proofs.Shared.Deeds.{own-fewer, own-first}
use Rattle.trace_read.proofs.Telling.{reached-own, step-fewer, step-stands}
use Rattle.trace_read.proofs.told.Events.next_of.Goals as goal

pub returns-clause-reached : goal.returns-clause-reached
returns-clause-reached c =
    let view : List Event = events_in (program_of c.self.inside.table.now.program.now) c.self.inside.text.now in
    let links = c.self.invariant.links in
    c.reach.ensures (from_own c.args.task (drop (suc c.args.last.now) c.args.self.now))
    (step-stands from_own own-fewer view c.args.self.now c.self.view_is
    c.self.inside.links.nexts.items links.nexts_long links.nexts c.args.task c.args.last.now c.requires.own c.index-index.result.now c.index-index.ensures)
    (step-fewer from_own own-fewer view c.args.self.now c.self.view_is
    c.self.inside.links.nexts.items links.nexts_long links.nexts c.args.task c.args.last.now c.requires.own)

pub returns-clause-own : goal.returns-clause-own
returns-clause-own c =
    let these : List Event = from_own c.args.task (drop (suc c.args.last.now) c.args.self.now) in
    let reached : Reaches c.args.self.now these c.args.last.now c.reach.new.last c.reach.result = returns-clause-reached c in
    reached-own c.args.self.now these c.args.task c.args.last.now c.reach.new.last c.reach.result c.requires.own
    (own-first c.args.task (drop (suc c.args.last.now) c.args.self.now)) reached
