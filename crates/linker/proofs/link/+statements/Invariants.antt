use Rattle.std.proofs.Common.{◌≡◌, ◌≤◌, length, map, drop}
use Rattle.seq_tree.specs.Statements.{Branches}
use Rattle.seq_tree.specs.Trees.{arm_of, branches_of, statement_of, statements_of}
use Rattle.linker.specs.Linking.{LinksBlock, LinksBranches}
use Rattle.linker.specs.Standing.{Lists, lists_of}
use Rattle.linker.proofs.link.+statements.Given as goal

-- the arms from here on are linked
abbrev pub invariant-link_arms-arms : goal.invariant-link_arms-arms
invariant-link_arms-arms g l = record {
  within : l.at ≤ length l.arms;
  same : l.scope ≡ l.initial.scope;
  links : (from : Lists) (bs : Branches)
      → LinksBranches (g.C.Calls.leads l.calls) l.initial.scope l.out l.end from (lists_of l.initial.code) l.others bs
      → LinksBranches (g.C.Calls.leads l.calls) l.initial.scope l.out l.end from (lists_of l.code) l.start
      (branches_of (map arm_of (drop l.at l.arms)) bs);
}

-- the statements from here on are linked
abbrev pub invariant-link_block-stmts : goal.invariant-link_block-stmts
invariant-link_block-stmts g l = record {
  within : l.at ≤ length l.block.stmts.items;
  same : l.scope ≡ l.initial.scope;
  links : LinksBlock (g.C.Calls.leads l.calls) l.initial.scope l.out l.end (lists_of l.initial.code) (lists_of l.code) l.start
      (statements_of (map statement_of (drop l.at l.block.stmts.items)));
}

abbrev pub decreases-link_arms-arms : goal.decreases-link_arms-arms
decreases-link_arms-arms g l = l.at

abbrev pub decreases-link_block-stmts : goal.decreases-link_block-stmts
decreases-link_block-stmts g l = l.at
