-- Statements that are linked one before another.
use Rattle.std.proofs.Common.{◌≡◌, inl, inr, ℕ, suc, ◌+◌, Some, cond, refl, ap, sym, subst, ◌∙◌, arith}
use Rattle.std.specs.Prelude.{slice_get, nat_le}
use Rattle.seq_tree.specs.Names.{Name}
use Rattle.seq_tree.specs.Expressions.{Expression}
use Rattle.seq_tree.specs.Statements.{Statement, Statements, Branches, If, For, End, Then, Nothing, Else, When}
use Rattle.seq_tree.specs.Variables.{Variables}
use Rattle.linker.specs.Nodes.{Grows}
use Rattle.linker.specs.declared.nodes.Operand.{Operand}
use Rattle.linker.proofs.Shared.Growths.{grows_twice}
use Rattle.law_flat_code.specs.Codes.{Stands, BlockStands, BranchesStand, size, block_size, branch_size, in_turn, next_slot}
use Rattle.linker.specs.Leads.{Leads}
use Rattle.linker.specs.Linking.{Added, Filled, Fills, LinksBlock, LinksBranches, LinksStatement, Longer}
use Rattle.linker.specs.Standing.{Has, Lists, Reads}
use Rattle.linker.specs.declared.code.Ins.{Ins}
use Rattle.linker.specs.declared.code.Ins.TheVariants as ins
use Rattle.linker.proofs.Keeping.{filled_added, filled_none, filled_then, keeps_filled, keeps_narrow, kept_there, longer_twice, reads_grown}

module _ (leads : Name → Name → Leads) (scope : Variables) (out : ℕ) where
  -- a statement of one instruction
  pub one_instruction : (at end : ℕ) (i : Ins) (c d e : Lists) (s : Statement) → Added c d → Fills at i d e → suc at ≡ end → size s ≡ 1
      → ((later : Lists) → slice_get later.ins at ≡ Some i → Grows d.nodes later.nodes → Longer d.actuals later.actuals
      → Stands (Has leads later) scope out at s) → LinksStatement leads scope out end c e at s
  one_instruction at end i c d e s added fills ends one stands = record {
    long = omega (arith, one, ends);
    filled = filled_then at end at (suc at) at end c d e (filled_added at end c d added) fills.filled (omega arith) (omega arith) (omega arith)
        (omega (arith, ends));
    stands = λ later k. stands later (kept_there at at end i d e later fills (omega arith) (omega (arith, ends)) k)
        (grows_twice d.nodes e.nodes later.nodes fills.filled.nodes k.nodes)
        (longer_twice d.actuals e.actuals later.actuals fills.filled.actuals k.actuals);
  }

  -- a block of no statement
  pub links_end : (end : ℕ) (c : Lists) → LinksBlock leads scope out end c c end End
  links_end end c = record { long = omega arith; filled = filled_none end end c; stands = λ later k. tt }

  -- a statement before the rest of a block
  pub links_then : (end m start : ℕ) (c d e : Lists) (s : Statement) (rest : Statements) → LinksBlock leads scope out end c d m rest
      → LinksStatement leads scope out m d e start s → LinksBlock leads scope out end c e start (Then s rest)
  links_then end m start c d e s rest later' first =
      let there : m ≡ start + size s = sym first.long in record {
        long = omega (arith, first.long, later'.long);
        filled = filled_then m end start m start end c d e later'.filled first.filled (omega (arith, there)) (omega arith) (omega arith)
            (omega (arith, later'.long));
        stands = λ later k. (
          first.stands later (keeps_narrow start m start end e later (omega arith) (omega (arith, later'.long)) k),
          subst (λ z. BlockStands (Has leads later) scope out z rest) there
              (later'.stands later (keeps_filled start m m end d e later first.filled (inr (omega arith))
              (keeps_narrow m end start end e later (omega (arith, there)) (omega arith) k))),
        );
      }

  -- an `if` without an `else`
  pub links_nothing : (end : ℕ) (c : Lists) → LinksBranches leads scope out end c c end Nothing
  links_nothing end c = record { long = omega arith; filled = filled_none end end c; stands = λ later k. refl }

  -- an `else`
  pub links_else : (end start : ℕ) (c d : Lists) (b : Statements) → LinksBlock leads scope out end c d start b
      → LinksBranches leads scope out end c d start (Else b)
  links_else end start c d b h = record { long = h.long; filled = h.filled; stands = λ later k. (h.stands later k, h.long) }

  -- a condition with its block before the other branches
  pub links_when : (end others jump block at : ℕ) (o : Operand) (z c d e f g : Lists) (cond' : Expression) (b : Statements) (bs : Branches)
      → LinksBranches leads scope out end z c others bs → suc jump ≡ others → Fills jump (ins.Jump end) c d
      → LinksBlock leads scope out jump d e block b → Added e f → Reads f scope o cond' → suc at ≡ block → Fills at (ins.Test o others) f g
      → LinksBranches leads scope out end z g at (When cond' b bs)
  links_when end others jump block at o z c d e f g cond' b bs rest j jumps body added reads t tests =
      let k = block_size b in
      let here : jump ≡ suc at + k = omega (arith, t, body.long) in
      let there : others ≡ suc (suc at + k) = omega (arith, here, j) in
      let long : at + suc (suc (k + branch_size bs)) ≡ end = omega (arith, there, rest.long) in
      let f2 : Filled jump others c d = subst (λ n. Filled jump n c d) j jumps.filled in
      let f4 : Filled at block e g = filled_then at block at block at block e f g (filled_added at block e f added)
      (subst (λ n. Filled at n f g) t tests.filled) (omega arith) (omega arith) (omega arith) (omega arith) in
      let f34 : Filled at jump d g = filled_then block jump at block at jump d e g body.filled f4 (omega (arith, t)) (omega arith) (omega arith)
      (omega (arith, body.long)) in
      let f234 : Filled at others c g = filled_then jump others at jump at others c d g f2 f34 (omega (arith, here)) (omega arith) (omega arith)
      (omega (arith, j)) in
      record {
        long = long;
        filled = filled_then others end at others at end z c g rest.filled f234 (omega (arith, there)) (omega arith) (omega arith)
            (omega (arith, rest.long));
        stands = λ later keep. (
          (
            o,
            kept_there at at end (ins.Test o others) f g later tests (omega arith) (omega (arith, long)) keep
                ∙ ap (λ n. Some (ins.Test o n)) there,
            reads_grown f later scope o cond' (grows_twice f.nodes g.nodes later.nodes tests.filled.nodes keep.nodes) reads,
          ),
          subst (λ n. BlockStands (Has leads later) scope out n b) (sym t)
              (body.stands later (keeps_filled at block block jump e g later f4 (inr (omega arith))
              (keeps_narrow block jump at end g later (omega (arith, t)) (omega (arith, here, long)) keep))),
          subst (λ n. slice_get later.ins n ≡ Some (ins.Jump end)) here
              (kept_there jump jump others (ins.Jump end) c d later jumps (omega arith) (omega (arith, j))
              (keeps_filled at jump jump others d g later f34 (inr (omega arith))
              (keeps_narrow jump others at end g later (omega (arith, here)) (omega (arith, there, long)) keep))),
          subst (λ n. BranchesStand (Has leads later) scope out end n bs) there
              (rest.stands later (keeps_filled at others others end c g later f234 (inr (omega arith))
              (keeps_narrow others end at end g later (omega (arith, there)) (omega arith) keep))),
        );
      }

  -- an `if`, by its branches
  pub links_if : (end start : ℕ) (c d : Lists) (bs : Branches) → LinksBranches leads scope out end c d start bs
      → LinksStatement leads scope out end c d start (If bs)
  links_if end start c d bs h = record {
    long = h.long;
    filled = h.filled;
    stands = λ later k. subst (λ n. BranchesStand (Has leads later) scope out n start bs) (sym h.long) (h.stands later k);
  }

  -- a loop around its body
  pub links_for : (end next start at low high : ℕ) (c d e f : Lists) (name : Name) (body : Statements)
      → LinksBlock leads (in_turn name scope) end next c d start body → suc next ≡ end → Fills next (ins.Next (next_slot scope) high start) d e
      → suc at ≡ start → Fills at (cond (nat_le low high) (ins.Begin (next_slot scope) low) (ins.Jump end)) e f
      → LinksStatement leads scope out end c f at (For name low high body)
  links_for end next start at low high c d e f name body h n ends t begins =
      let k = block_size body in
      let here : next ≡ suc at + k = omega (arith, t, h.long) in
      let behind : end ≡ suc (suc at + k) = omega (arith, here, n) in
      let f2 : Filled next end d e = subst (λ z. Filled next z d e) n ends.filled in
      let f3 : Filled at start e f = subst (λ z. Filled at z e f) t begins.filled in
      let f23 : Filled at end d f = filled_then next end at start at end d e f f2 f3 (omega (arith, here)) (omega arith) (omega arith)
      (omega (arith, t, behind)) in
      record {
        long = omega (arith, behind);
        filled = filled_then start next at end at end c d f h.filled f23 (omega (arith, t)) (omega (arith, n)) (omega arith) (omega arith);
        stands = λ later keep. (
          kept_there at at end (cond (nat_le low high) (ins.Begin (next_slot scope) low) (ins.Jump end)) e f later begins (omega arith)
              (omega (arith, behind)) keep
              ∙ ap (λ z. Some (cond (nat_le low high) (ins.Begin (next_slot scope) low) (ins.Jump z))) behind,
          subst (λ z. BlockStands (Has leads later) (in_turn name scope) z (suc at) body) behind
              (subst (λ z. BlockStands (Has leads later) (in_turn name scope) end z body) (sym t)
              (h.stands later (keeps_filled next end start next d e later f2 (inl (omega arith))
              (keeps_filled at start start next e f later f3 (inr (omega arith))
              (keeps_narrow start next at end f later (omega (arith, t)) (omega (arith, n)) keep))))),
          subst (λ z. slice_get later.ins (suc at + k) ≡ Some (ins.Next (next_slot scope) high z)) (sym t)
              (subst (λ z. slice_get later.ins z ≡ Some (ins.Next (next_slot scope) high start)) here
              (kept_there next next end (ins.Next (next_slot scope) high start) d e later ends (omega arith) (omega (arith, n))
              (keeps_filled at start next end e f later f3 (inr (omega (arith, h.long)))
              (keeps_narrow next end at end f later (omega (arith, here)) (omega arith) keep)))),
        );
      }
