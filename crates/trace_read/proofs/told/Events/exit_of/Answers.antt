use Rattle.std.proofs.Common.{List, drop, suc}
use Rattle.ada_tree.specs.Trees.{program_of}
use Rattle.trace_tree.specs.declared.event.Event.{Event}
use Rattle.trace_read.specs.Chains.{from_out}
use Rattle.trace_read.specs.Deeds.{Reaches}
use Rattle.trace_read.specs.Telling.{events_in}
use Rattle.trace_read.proofs.Shared.Deeds.{exit-fewer, exit-first}
use Rattle.trace_read.proofs.Telling.{reached-own, step-fewer, step-stands}
use Rattle.trace_read.proofs.told.Events.exit_of.Goals as goal

pub returns-clause-reached : goal.returns-clause-reached
returns-clause-reached c =
    let view : List Event = events_in (program_of c.self.inside.table.now.program.now) c.self.inside.text.now in
    let links = c.self.invariant.links in
    c.reach.ensures (from_out c.args.task (drop (suc c.args.last.now) c.args.self.now))
    (step-stands from_out (λ task es. exit-fewer task es 0) view c.args.self.now c.self.view_is
    c.self.inside.links.exits.items links.exits_long links.exits c.args.task c.args.last.now c.requires.own c.index-index.result.now c.index-index.ensures)
    (step-fewer from_out (λ task es. exit-fewer task es 0) view c.args.self.now c.self.view_is
    c.self.inside.links.exits.items links.exits_long links.exits c.args.task c.args.last.now c.requires.own)

pub returns-clause-own : goal.returns-clause-own
returns-clause-own c =
    let these : List Event = from_out c.args.task (drop (suc c.args.last.now) c.args.self.now) in
    let reached : Reaches c.args.self.now these c.args.last.now c.reach.new.last c.reach.result = returns-clause-reached c in
    reached-own c.args.self.now these c.args.task c.args.last.now c.reach.new.last c.reach.result c.requires.own
    (exit-first c.args.task (drop (suc c.args.last.now) c.args.self.now) 0) reached
