-- Parts of a program that are linked one after another.
use Rattle.std.proofs.Common.{◌≡◌, ◌<◌, ◌≤◌, ℕ, ◌+◌, List, [], ◌∷◌, ◌++◌, length, refl, ap, sym, subst, ◌∙◌}
use Rattle.std.proofs.Common.{map, drop, get_or, arith, append-nil, append_assoc}
use Rattle.std.proofs.lemmas.List.{drop_all}
use Rattle.std.proofs.lemmas.Option.{slice_get_within}
use Rattle.seq_tree.proofs.Shared.LoopSteps.{drop_step}
use Rattle.seq_tree.specs.Names.{Name}
use Rattle.linker.specs.Nodes.{AreOrdered, Grows}
use Rattle.linker.proofs.Shared.Growths.{grows_none, grows_twice}
use Rattle.linker.specs.Bodies.{LinksBody}
use Rattle.linker.specs.Callees.{body_of}
use Rattle.linker.specs.Leads.{Leads}
use Rattle.linker.specs.Linking.{Keeps}
use Rattle.linker.specs.Parts.{EndStands, PartsLeft}
use Rattle.linker.specs.Programs.{AllStand, Part, op_part}
use Rattle.linker.specs.Scopes.{slots_of}
use Rattle.linker.specs.Standing.{Lists}
use Rattle.linker.specs.declared.code.Ins.{Ins}
use Rattle.linker.specs.declared.tables.OpBody as code
use Rattle.linker.proofs.Keeping.{keeps_narrow, longer_none, longer_twice}

pub keeps_none : (a b : ℕ) (c : Lists) → Keeps a b c c
keeps_none a b c = record { same = λ k ge lt. refl; nodes = grows_none c.nodes c.nodes refl; actuals = longer_none c.actuals c.actuals refl }

-- what was kept twice
pub keeps_twice : (a b : ℕ) (c d e : Lists) → Keeps a b c d → Keeps a b d e → Keeps a b c e
keeps_twice a b c d e k l = record {
  same = λ i ge lt. l.same i ge lt ∙ k.same i ge lt;
  nodes = grows_twice c.nodes d.nodes e.nodes k.nodes l.nodes;
  actuals = longer_twice c.actuals d.actuals e.actuals k.actuals l.actuals;
}

-- nodes that were added to none have their operands before them
pub nodes_ordered : (c d : Lists) → c.nodes ≡ [] → Grows c.nodes d.nodes → AreOrdered d.nodes
nodes_ordered c d none g = g.ordered (subst AreOrdered (sym none) nothing)
  where
    nothing : AreOrdered []
    nothing k n at = absurd (let lt = slice_get_within [] k n at in omega (arith, lt))

module _ (leads : Name → Name → Leads) (last : Ins) where
  -- all parts are left
  pub parts_all : (c : Lists) (whole : List Part) → PartsLeft leads last c c whole whole []
  parts_all c whole = record { longer = omega arith; kept = keeps_none 0 (length c.ins) c; stand = λ later k others h. h }

  -- one part more was linked
  pub parts_on : (c d e : Lists) (whole ps : List Part) (p : Part) (starts starts' : List ℕ) (start : ℕ)
      → PartsLeft leads last c d whole (p ∷ ps) starts → LinksBody leads (slots_of p.names) d e start last p.block → starts' ≡ starts ++ start ∷ []
      → PartsLeft leads last c e whole ps starts'
  parts_on c d e whole ps p starts starts' start h body is =
      let more : length d.ins ≤ length e.ins = omega (arith, body.starts, body.long) in
      let kept : Keeps 0 (length d.ins) d e = subst (λ n. Keeps 0 n d e) body.starts body.kept in
      record {
        longer = omega (arith, h.longer, more);
        kept = keeps_twice 0 (length c.ins) c d e h.kept (keeps_narrow 0 (length c.ins) 0 (length d.ins) d e (omega arith) h.longer kept);
        stand = λ later keep others all.
            let own : Keeps start (length e.ins) e later =
            keeps_narrow start (length e.ins) 0 (length e.ins) e later (omega arith) (omega arith) keep in
            let before : Keeps 0 (length d.ins) d later =
            keeps_twice 0 (length d.ins) d e later kept (keeps_narrow 0 (length d.ins) 0 (length e.ins) e later (omega arith) more keep) in
            subst (AllStand (EndStands leads later last) whole) (sym (append_assoc starts (start ∷ []) others) ∙ ap (λ z. z ++ others) (sym is))
            (h.stand later before (start ∷ others) ((body.stands later own, body.ends later own), all));
      }

  -- none is left
  pub parts_done : (c d later : Lists) (whole : List Part) (starts : List ℕ) → PartsLeft leads last c d whole [] starts
      → Keeps 0 (length d.ins) d later → AllStand (EndStands leads later last) whole starts
  parts_done c d later whole starts h keep =
      subst (AllStand (EndStands leads later last) whole) (append-nil starts) (h.stand later keep [] tt)

  -- the same of bodies that are linked by their places
  pub parts_next : (c d e : Lists) (bodies : List code.OpBody) (at : ℕ) (b : code.OpBody) (starts starts' : List ℕ) (start : ℕ)
      → at < length bodies → b ≡ get_or bodies at b
      → PartsLeft leads last c d (map op_part (map body_of bodies)) (map op_part (map body_of (drop at bodies))) starts
      → LinksBody leads (slots_of ((op_part (body_of b)).names)) d e start last (op_part (body_of b)).block → starts' ≡ starts ++ start ∷ []
      → PartsLeft leads last c e (map op_part (map body_of bodies)) (map op_part (map body_of (drop (at + 1) bodies))) starts'
  parts_next c d e bodies at b starts starts' start lt is h body grown =
      parts_on c d e (map op_part (map body_of bodies)) (map op_part (map body_of (drop (at + 1) bodies))) (op_part (body_of b)) starts starts' start
      (subst (λ bs. PartsLeft leads last c d (map op_part (map body_of bodies)) (map op_part (map body_of bs)) starts)
      (drop_step bodies at b lt is) h)
      body grown

  pub parts_end : (c d : Lists) (bodies : List code.OpBody) (at : ℕ) (starts : List ℕ) → length bodies ≤ at
      → PartsLeft leads last c d (map op_part (map body_of bodies)) (map op_part (map body_of (drop at bodies))) starts
      → PartsLeft leads last c d (map op_part (map body_of bodies)) [] starts
  parts_end c d bodies at starts most h =
      subst (λ bs. PartsLeft leads last c d (map op_part (map body_of bodies)) (map op_part (map body_of bs)) starts) (drop_all at bodies most) h
