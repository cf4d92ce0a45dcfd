use Rattle.std.proofs.Common.{Option, Some, None, IfNone, arith}
use Rattle.std.proofs.lemmas.Option.{IfSome_then}
use Rattle.ods_tree.specs.Trees.{flat_of}
use Rattle.rt_response.specs.declared.rows.ThreadRow.{ThreadRow}
use Rattle.analysis.specs.Trees.{table_of}
use Rattle.priority_search.proofs.Shared.NextSteps.{order-few, rows-enough, first-each, first-few, block-small, next-found, next-none}
use Rattle.priority_search.proofs.filling.next.Goals as goal

IfNone_then : {X : Type 0} (o : Option X) {P Q : Type 0} → IfNone o P → (P → Q) → IfNone o Q
IfNone_then None h f = f h
IfNone_then (Some x) h f = tt

-- what stands for a row that isn't there
abbrev d : ThreadRow
d = record { period = 0; deadline = 0; jitter = 0; cost = 0; block = 0; starter = None }

pub table_by-requires-clause-few : goal.table_by-requires-clause-few
table_by-requires-clause-few c = order-few (flat_of c.args.basis.now.flat.now) c.requires.sound c.args.order.now c.requires.order

pub split_at-requires : goal.split_at-requires
split_at-requires c =
    rw c.as_slice.ensures.value (omega (
      arith,
      rows-enough (flat_of c.args.basis.now.flat.now) c.args.order.now c.requires.order (table_of c.in_ok-table.table) c.in_ok-table.ensures,
      c.requires.free,
    ))

pub last_row-requires-clause-rows : goal.last_row-requires-clause-rows
last_row-requires-clause-rows c =
    first-each (flat_of c.args.basis.now.flat.now) c.requires.sound c.requires.external c.args.order.now c.requires.order
    (table_of c.in_ok-table.table)
    c.in_ok-table.ensures c.args.free c.requires.some c.requires.free c.split_at.result.0.now
    (rw c.as_slice.ensures.value at c.split_at.ensures.front) d

pub last_row-requires-clause-few : goal.last_row-requires-clause-few
last_row-requires-clause-few c =
    first-few (flat_of c.args.basis.now.flat.now) c.requires.sound c.requires.external c.args.order.now c.requires.order
    (table_of c.in_ok-table.table)
    c.in_ok-table.ensures c.args.free c.requires.some c.requires.free c.split_at.result.0.now
    (rw c.as_slice.ensures.value at c.split_at.ensures.front) d

pub last_row-requires-clause-block : goal.last_row-requires-clause-block
last_row-requires-clause-block c =
    block-small (flat_of c.args.basis.now.flat.now) c.requires.sound c.requires.external c.args.order.now c.requires.order
    (table_of c.in_ok-table.table)
    c.in_ok-table.ensures c.args.free c.requires.some c.requires.free c.split_at.result.0.now
    (rw c.as_slice.ensures.value at c.split_at.ensures.front) d

pub returns-clause-found : goal.returns-clause-found
returns-clause-found c =
    IfSome_then c.last_row.result c.last_row.ensures.found
    (next-found (flat_of c.args.basis.now.flat.now) c.requires.sound c.requires.external c.args.order.now c.requires.order
    (table_of c.in_ok-table.table)
    c.in_ok-table.ensures c.args.free c.requires.some c.requires.free c.split_at.result.0.now
    (rw c.as_slice.ensures.value at c.split_at.ensures.front) d)

pub returns-clause-none : goal.returns-clause-none
returns-clause-none c =
    IfNone_then c.last_row.result c.last_row.ensures.none
    (next-none (flat_of c.args.basis.now.flat.now) c.requires.sound c.requires.external c.args.order.now c.requires.order
    (table_of c.in_ok-table.table)
    c.in_ok-table.ensures c.args.free c.requires.some c.requires.free c.split_at.result.0.now
    (rw c.as_slice.ensures.value at c.split_at.ensures.front) d)
