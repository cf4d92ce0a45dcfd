-- The program of a design that meets the rules can stand in a text where the names and numbers of its objects can.
use Rattle.std.proofs.Common.{◌≡◌, ℕ, ◌≤◌, true, false, List, [], ◌∷◌, zip, nat_le, Option, Some}
use Rattle.std.proofs.Common.{None, unwrap_or, refl, sym, ap, subst, ◌∙◌, inl, inr, arith}
use Rattle.std.specs.List.{list_all}
use Rattle.std.proofs.lemmas.Bool.{and_parts, leb-true}
use Rattle.seq_tree.specs.Limits.{tick_limit, is_within}
use Rattle.seq_tree.specs.Names.{same_name}
use Rattle.seq_tree.specs.Statements.{Statements}
use Rattle.seq_tree.specs.Operations.{Signature, Operation}
use Rattle.seq_tree.specs.Calls.{block_calls}
use Rattle.seq_tree.specs.Spelling.{block_lines}
use Rattle.seq_tree.specs.declared.tree.Costs.{Costs}
use Rattle.seq_tree.specs.declared.tree.OpName.{OpName}
use Rattle.ods_tree.specs.Designs.{Provided, Object, Design}
use Rattle.ods_tree.specs.Walk.{Standing, objects, terminals}
use Rattle.ods_tree.specs.Links.{resolve, resolved}
use Rattle.ods_tree.specs.Flats.{Library, Guarded, Timing, Cyclic, Sporadic, Thread}
use Rattle.ods_tree.specs.Flattening.{operations, request_op, guarded, threads, flat}
use Rattle.ods_tree.specs.Sound.{is_below, is_timed, is_in_range, costs_of}
use Rattle.ada_tree.specs.Programs.{Unit}
use Rattle.ada_tree.specs.Ranges.{is_outside}
use Rattle.ada_print.specs.Writable.{is_word, is_number, is_writable}
use Rattle.analysis.specs.Ceilings.{Ranks}
use Rattle.analysis.specs.Sound.{IsSound}
use Rattle.guarantee.specs.Programs.{thread_form, program_for}
use Rattle.design_rules.specs.Rules.{AreMet}
use Rattle.law_designs.proofs.Shared.Lists.{all-in}
use Rattle.analysis.proofs.Shared.CostRanges.{within-true}
use Rattle.law_designs.proofs.Shared.Flattened.{library-from, guarded-from, operation-from, ThreadFrom, thread-from, terminal-object, TimingOf}
use Rattle.law_designs.proofs.Shared.Flattened.{OfCyclic, OfSporadic, timing-of}
use Rattle.law_designs.proofs.Shared.Served.{Meant, meant}
use Rattle.law_designs.proofs.Shared.Blocks.{Needed, AreNeeded, needed-call, body-needed, thread-needed, kept}
use Rattle.law_designs.proofs.Shared.ProgramRanges.{AreRanked}
use Rattle.law_designs.proofs.Shared.Units.{UnitFrom, OfLibrary, OfGuarded, OfThread, unit-from, from-zip}
use Rattle.law_lists.proofs.Shared.Facts.{same-is}
use Rattle.law_lists.proofs.Shared.Lists.{IsIn, found-in}
use Rattle.law_texts.proofs.Tokens.{HasLegible}
use Rattle.law_texts.proofs.LegibleBlocks.{legible-block}
use Rattle.law_texts.proofs.Shared.LegibleObjects.{IsLegibleObject}
use Rattle.law_texts.proofs.Shared.LegibleUnits.{AreLegibleParams, AreLegibleData, IsLegibleBlock, IsLegibleOperation, AreLegibleOperations}
use Rattle.law_texts.proofs.Shared.LegibleUnits.{IsLegibleForm, IsLegibleUnit, AreLegibleCosts, program-legible}

-- numbers in a range can be read
pub number_below : (n : ℕ) → n ≤ tick_limit → is_number n ≡ true
number_below n h = grind arith

pub number_inside : (n : ℕ) → is_outside 1 60 n ≡ false → is_number n ≡ true
number_inside n h = grind arith

jitter_below : (jitter : Option ℕ) (separation : ℕ) → separation ≤ tick_limit → is_below jitter separation ≡ true
    → is_number (unwrap_or jitter 0) ≡ true
jitter_below None separation h e = refl
jitter_below (Some jitter) separation h e = grind arith

cost-read : (c : Costs) (n : ℕ) → list_all (is_within 1 1000) (costs_of c) ≡ true → IsIn n (costs_of c) → is_number n ≡ true
cost-read c n h i = let r = within-true 1 1000 n (all-in (is_within 1 1000) (costs_of c) n h i) in number_below n (omega (arith, r.1))

pub costs-read : (c : Costs) → list_all (is_within 1 1000) (costs_of c) ≡ true → AreLegibleCosts c
costs-read c h = record {
  assign = cost-read c c.assign h (inl refl);
  test = cost-read c c.test h (inr (inl refl));
  turn = cost-read c c.turn h (inr (inr (inl refl)));
  call = cost-read c c.call h (inr (inr (inr (inl refl))));
  nothing = cost-read c c.nothing h (inr (inr (inr (inr (inl refl)))));
  put = cost-read c c.put h (inr (inr (inr (inr (inr (inl refl))))));
  finish = cost-read c c.finish h (inr (inr (inr (inr (inr (inr (inl refl)))))));
}

-- the request is one of the operations that are provided
pub request-in : (ps : List Provided) (sig : Signature) → request_op ps ≡ Some sig → (p : Provided) × IsIn p ps × (p.sig ≡ sig)
request-in [] sig e = absurd (let z : None ≡ Some sig = e in cc)
request-in (p ∷ ps) sig e = (p, inl refl, (let z : Some p.sig ≡ Some sig = e in cc))

module _ (written x : Design) (met : AreMet written x) (legible : (s : Standing) → IsIn s (objects x) → IsLegibleObject s.own) where
  -- the names of what is called
  meant-names : (o : Object) (b : Statements) → AreNeeded x o b → (c : OpName) → IsIn c (block_calls b)
      → (is_word (resolve x c).object ≡ true) × (is_word (resolve x c).op ≡ true)
  meant-names o b needed c h =
      let n : Needed x o c = needed-call x o b needed c h in
      let m : Meant x c n.provided = meant x (kept written x met) c n.provided n.there in
      let l : IsLegibleObject m.standing.own = legible m.standing (terminal-object x m.standing m.stands).0 in
      let at = found-in (λ p. same_name p.sig.name (resolve x c).op) m.standing.own.provides m.provided m.provides in (
        ap is_word m.object ∙ l.name,
        ap is_word (sym (same-is m.provided.sig.name (resolve x c).op at.1)) ∙ l.ops m.provided at.0,
      )

  block-read : (o : Object) (b : Statements) → AreNeeded x o b → (level : ℕ) → HasLegible (block_lines level b) → IsLegibleBlock (resolved x b)
  block-read o b needed level h m = legible-block (resolve x) level m b (meant-names o b needed) h

  operation-read : (s : Standing) (e : Operation) → IsIn s (terminals x) → IsIn e (operations x s.own) → IsLegibleOperation e
  operation-read s e h j =
      let f = operation-from x s.own e j in
      let o = (terminal-object x s h).0 in
      let l : IsLegibleObject s.own = legible s o in
      let at = found-in (λ b. same_name b.name f.provided.sig.name) s.own.bodies f.body f.named in
      let block = l.blocks f.body at.0 in
      subst IsLegibleOperation (sym f.made) (record {
        name = l.ops f.provided f.provides;
        params = λ q i. l.params f.provided q f.provides i;
        locals = λ d i. l.locals f.body d at.0 i;
        block = block-read s.own f.body.block (body-needed written x met s f.body o at.0) block.0 block.1;
      })

  operations-read : (s : Standing) → IsIn s (terminals x) → AreLegibleOperations (operations x s.own)
  operations-read s h = λ e j. operation-read s e h j

  vars-read : (s : Standing) → IsIn s (terminals x) → AreLegibleData s.own.vars
  vars-read s h = λ d j. (legible s (terminal-object x s h).0).vars d j

  name-read : (s : Standing) → IsIn s (terminals x) → is_word s.own.name ≡ true
  name-read s h = (legible s (terminal-object x s h).0).name

  thread-read : (s : Standing) (b : Statements) → IsIn s (terminals x) → s.own.thread ≡ Some b → IsLegibleBlock (resolved x b)
  thread-read s b h e =
      let o = (terminal-object x s h).0 in
      let l = (legible s o).thread b e in
      block-read s.own b (thread-needed written x met s b o e) l.0 l.1

  request-read : (s : Standing) (sig : Signature) → IsIn s (terminals x) → request_op s.own.provides ≡ Some sig
      → (is_word sig.name ≡ true) × AreLegibleParams sig.params
  request-read s sig h e =
      let r = request-in s.own.provides sig e in
      let l : IsLegibleObject s.own = legible s (terminal-object x s h).0 in
      let P : Signature → Type 0 = λ z. (is_word z.name ≡ true) × AreLegibleParams z.params in
      subst P r.2 (l.ops r.0 r.1, λ q i. l.params r.0 q r.1 i)

  pub thread-named : (t : Thread) → IsIn t (threads x) → is_word t.name ≡ true
  thread-named t h =
      let f = thread-from x t h in
      let P : Thread → Type 0 = λ u. is_word u.name ≡ true in
      subst P (sym f.made) (name-read f.standing f.stands)

  module _ (sound : IsSound (flat x)) (r : Ranks) (ranked : AreRanked (flat x) r) where
    range : (t : Thread) → IsIn t (threads x) → is_in_range t ≡ true
    range t h = all-in is_in_range (threads x) t sound.formed.ranges h

    -- what the unit of a thread is
    abbrev Reads : ℕ × ℕ → Thread → Timing → Type 0
    Reads n t u = IsLegibleForm (thread_form n.0 n.1 u t)

    cyclic-read : (n : ℕ × ℕ) (t : Thread) (period offset : ℕ) → is_outside 1 60 n.0 ≡ false → is_timed (Cyclic period offset) ≡ true
        → AreLegibleData t.vars → IsLegibleBlock t.block → Reads n t (Cyclic period offset)
    cyclic-read n t period offset p timed vars block =
        let a = and_parts (is_within 1 tick_limit period) (nat_le offset tick_limit) timed in (
          number_inside n.0 p,
          number_below offset (leb-true offset tick_limit a.1),
          number_below period (within-true 1 tick_limit period
              a.0).1,
          vars,
          block,
        )

    sporadic-read : (n : ℕ × ℕ) (t : Thread) (op : Signature) (separation : ℕ) (jitter : Option ℕ) → is_outside 1 60 n.0 ≡ false
        → is_outside 1 60 n.1 ≡ false
        → is_timed (Sporadic op separation jitter) ≡ true → is_word op.name ≡ true → AreLegibleParams op.params → AreLegibleData t.vars
        → IsLegibleBlock t.block
        → Reads n t (Sporadic op separation jitter)
    sporadic-read n t op separation jitter p c timed name params vars block =
        let a = and_parts (is_within 1 tick_limit separation) (is_below jitter separation) timed in
        let most : separation ≤ tick_limit = (within-true 1 tick_limit separation a.0).1 in
        (number_inside n.0 p, number_inside n.1 c, number_below separation most, jitter_below jitter separation most a.1, name, params, vars, block)

    thread-form : (n : ℕ × ℕ) (t : Thread) → IsIn (t, n) (zip (threads x) (zip r.threads r.obcs)) → Reads n t t.timing
    thread-form n t i = by (thread-from x t j)
      where
        j : IsIn t (threads x)
        j = (from-zip (threads x) (zip r.threads r.obcs) (t, n) i).0

        timed : (u : Timing) → t.timing ≡ u → is_timed u ≡ true
        timed u e = ap is_timed (sym e) ∙ (and_parts (is_timed t.timing) _ (range t j)).0

        by : ThreadFrom x t → Reads n t t.timing
        by f = kinds (timing-of f.standing.own f.timing f.timed)
          where
            P : Timing → Type 0
            P u = Reads n t u

            vars : AreLegibleData t.vars
            vars = (let Q : Thread → Type 0 = λ u. AreLegibleData u.vars in subst Q (sym f.made) (vars-read f.standing f.stands))

            block : IsLegibleBlock t.block
            block = (let Q : Thread → Type 0 = λ u. IsLegibleBlock u.block in subst Q (sym f.made) (thread-read f.standing f.block f.stands f.runs))

            timing : (u : Timing) → f.timing ≡ u → t.timing ≡ u
            timing u e = ap (λ (z : Thread). z.timing) f.made ∙ e

            kinds : TimingOf f.standing.own f.timing → Reads n t t.timing
            kinds (OfCyclic e s) = subst P (sym (timing _ s)) (cyclic-read n t _ _ (ranked.threads t n i) (timed _ (timing _ s)) vars block)
            kinds (OfSporadic sig e g s) =
                let q = request-read f.standing sig f.stands g in
                subst P (sym (timing _ s))
                (sporadic-read n t sig _ _ (ranked.threads t n i) (ranked.obcs t n sig _ _ i (timing _ s)).0
                (timed _ (timing _ s)) q.0 q.1 vars block)

    pub unit-read : (u : Unit) → UnitFrom (flat x) r u → IsLegibleUnit u
    unit-read u (OfLibrary l j e) =
        let s = library-from x l j in
        let P : Library → Type 0 = λ k. (is_word k.name ≡ true) × AreLegibleOperations k.ops in
        let q : P l = subst P (sym s.3) (name-read s.0 s.1, operations-read s.0 s.1) in
        subst IsLegibleUnit (sym e) (record { name = q.0; form = q.1 })
    unit-read u (OfGuarded g ceiling j e) =
        let s = guarded-from x g (from-zip (guarded x) r.shared (g, ceiling) j).0 in
        let P : Guarded → Type 0 = λ k. (is_word k.name ≡ true) × AreLegibleData k.vars × AreLegibleOperations k.ops in
        let q : P g = subst P (sym s.3) (name-read s.0 s.1, vars-read s.0 s.1, operations-read s.0 s.1) in
        subst IsLegibleUnit (sym e) (record { name = q.0; form = (number_inside ceiling (ranked.shared g ceiling j), q.1, q.2) })
    unit-read u (OfThread t n j e) =
        subst IsLegibleUnit (sym e) (record {
          name = thread-named t (from-zip (threads x) (zip r.threads r.obcs) (t, n) j).0;
          form = thread-form n t j;
        })

    -- the program, whatever the ranks
    pub program-written : is_word x.name ≡ true → is_writable (program_for (flat x) r) ≡ true
    program-written name =
        program-legible (program_for (flat x) r) name (costs-read x.costs sound.formed.costs) (λ u h. unit-read u (unit-from (flat x) r u h))
