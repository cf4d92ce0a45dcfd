-- A body that is linked behind the code that was there.
use Rattle.std.proofs.Common.{◌≡◌, inl, inr, ℕ, suc, ◌+◌, List, [], ◌∷◌, ◌++◌, Some, length, refl, ap, sym, subst, ◌∙◌, arith}
use Rattle.std.proofs.Common.{length-append, append_assoc, append-nil}
use Rattle.std.specs.Prelude.{slice_get}
use Rattle.seq_tree.specs.Names.{Name}
use Rattle.seq_tree.specs.Statements.{Statements}
use Rattle.seq_tree.specs.Variables.{Variables}
use Rattle.linker.proofs.Shared.Growths.{grows_none, grows_twice}
use Rattle.law_flat_code.specs.Codes.{block_size}
use Rattle.linker.specs.Bodies.{LinksBody, Roomed}
use Rattle.linker.specs.Leads.{Leads}
use Rattle.linker.specs.Linking.{Fills, LinksBlock}
use Rattle.linker.specs.Standing.{Lists}
use Rattle.linker.specs.declared.code.Ins.{Ins}
use Rattle.linker.proofs.Keeping.{get_before, keeps_narrow, longer_none, longer_twice}

pub roomed_none : (c d : Lists) (n : ℕ) → n ≡ 0 → d.ins ≡ c.ins → d.nodes ≡ c.nodes → d.actuals ≡ c.actuals → Roomed n c d
roomed_none c d n e is nodes actuals = record { more = []; is = is ∙ sym (append-nil c.ins); long = sym e; nodes = nodes; actuals = actuals }

pub roomed_one : (n m : ℕ) (i : Ins) (c d e : Lists) → Roomed n c d → e.ins ≡ d.ins ++ i ∷ [] → e.nodes ≡ d.nodes → e.actuals ≡ d.actuals → m ≡ suc n
    → Roomed m c e
roomed_one n m i c d e r is nodes actuals counted = record {
  more = r.more ++ i ∷ [];
  is = is ∙ ap (λ z. z ++ i ∷ []) r.is ∙ append_assoc c.ins r.more (i ∷ []);
  long = omega (arith, length-append r.more (i ∷ []), r.long, counted);
  nodes = nodes ∙ r.nodes;
  actuals = actuals ∙ r.actuals;
}

pub links_body : (leads : Name → Name → Leads) (scope : Variables) (count end at start : ℕ) (c d e f : Lists) (last : Ins) (b : Statements)
    → count ≡ block_size b + 1 → Roomed count c d → end ≡ length c.ins + count → suc at ≡ end → Fills at last d e
    → LinksBlock leads scope 0 at e f start b → LinksBody leads scope c f start last b
links_body leads scope count end at start c d e f last b counted room ends before fills block =
    let starts : start ≡ length c.ins = omega (arith, counted, ends, before, block.long) in
    let long' : length d.ins ≡ length c.ins + count = ap length room.is ∙ whole c.ins room.more count room.long in
    let long : length f.ins ≡ start + suc (block_size b) = omega (arith, block.filled.long, fills.filled.long, long', starts, counted) in
    record {
      starts = starts;
      long = long;
      kept = record {
        same = λ k ge lt. block.filled.others k (inl lt) ∙ fills.filled.others k (inl (omega (arith, lt, block.long)))
            ∙ ap (λ z. slice_get z k) room.is ∙ get_before c.ins room.more k (omega (arith, lt, starts));
        nodes = grows_twice c.nodes d.nodes f.nodes (grows_none c.nodes d.nodes room.nodes)
            (grows_twice d.nodes e.nodes f.nodes fills.filled.nodes block.filled.nodes);
        actuals = longer_twice c.actuals d.actuals f.actuals (longer_none c.actuals d.actuals room.actuals)
            (longer_twice d.actuals e.actuals f.actuals fills.filled.actuals block.filled.actuals);
      };
      ends = λ later keep. subst (λ z. slice_get later.ins z ≡ Some last) (sym block.long)
          (keep.same at (omega (arith, block.long)) (omega (arith, long, block.long)) ∙ block.filled.others at (inr (omega arith)) ∙ fills.there);
      stands = λ later keep. block.stands later (keeps_narrow start at start (length f.ins) f later (omega arith)
          (omega (arith, long, block.long)) keep);
    }
  where
    whole : (xs ys : List Ins) (n : ℕ) → length ys ≡ n → length (xs ++ ys) ≡ length xs + n
    whole xs ys n e = omega (arith, length-append xs ys, e)
