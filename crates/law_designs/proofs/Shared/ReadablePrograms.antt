-- The program of a proper design that meets the rules can be read.
use Rattle.std.proofs.Common.{◌≡◌, ◌≤◌, ℕ, Bool, true, false, List, [], ◌++◌, map, filter, zip, length, Some, None, sym, ap, ◌∙◌, arith}
use Rattle.std.proofs.lemmas.Bool.{or_from, le-ltb}
use Rattle.std.proofs.lemmas.List.{length-append, length-map}
use Rattle.std.proofs.lemmas.List.Elements.{filter-append}
use Rattle.seq_tree.specs.Proper.{within_limits}
use Rattle.ods_tree.specs.Designs.{Design}
use Rattle.ods_tree.specs.Words.{is_design_name}
use Rattle.ods_tree.specs.Ticks.{in_ticks}
use Rattle.ods_tree.proofs.Shared.TickLaws.{ticks-version}
use Rattle.ods_tree.specs.Proper.{IsProperDesign}
use Rattle.ods_tree.specs.Flats.{Library, Guarded, Thread}
use Rattle.ods_tree.specs.Flattening.{libraries, guarded, threads, flat}
use Rattle.design_rules.specs.Rules as ods
use Rattle.ada_tree.specs.Programs.{Unit, Program, is_task}
use Rattle.ada_tree.specs.Ranges.{whole_breaks}
use Rattle.ada_tree.specs.Rules.{Rule, Naming, Uses, Rings, Bodies, Ranges, Externals, Whole, At, UnitBreaks, WholeBreaks, MeetsRules}
use Rattle.analysis.specs.Priorities.{priorities_of}
use Rattle.analysis.specs.Ceilings.{Ranks}
use Rattle.guarantee.specs.Programs.{passive_unit, shared_unit, thread_unit, program_for, program}
use Rattle.guarantee.specs.MachineLaw.{IsReadable}
use Rattle.law_designs.proofs.Shared.Lists.{from-map}
use Rattle.law_designs.proofs.Shared.Starting.{filter-none}
use Rattle.law_designs.proofs.Numbers.{filter-at-most}
use Rattle.law_designs.proofs.WellFormed.{few-threads, few-entries}
use Rattle.law_designs.proofs.Shared.Offers.{Fitting}
use Rattle.law_designs.proofs.Shared.Units.{ranked-fit, bodies-right}
use Rattle.law_designs.proofs.Shared.ProperProgram.{program-proper}
use Rattle.law_designs.proofs.Shared.ProperTicks.{proper-in-ticks}
use Rattle.law_designs.proofs.ProgramUses.{uses-right, rings-right}
use Rattle.law_designs.proofs.Externals.{externals-right}
use Rattle.law_designs.proofs.NamesRight.{names-right}
use Rattle.law_designs.proofs.Shared.ProgramRanges.{AreRanked, ranges-right, costs-fit}
use Rattle.law_designs.proofs.Shared.RankRanges.{ranked-stated}
use Rattle.law_designs.proofs.Shared.PriorityPlaces.{deadline-ranking}
use Rattle.law_designs.specs.Rankings.{IsRanking, stated_by, program_by}
use Rattle.law_lists.proofs.Shared.Lists.{at-in, IsIn}
use Rattle.std.proofs.lemmas.Slice.Zip.{length-zip}

zip-most : {A B : Type 0} (xs : List A) (ys : List B) → length (zip xs ys) ≤ length xs
zip-most xs ys = omega (arith, length-zip xs ys)

module _ (written x : Design) (met : ods.AreMet written x) (r : Ranks) where
  abbrev p : Program
  p = program_for (flat x) r

  abbrev us : List Unit
  us = map passive_unit (libraries x)

  abbrev vs : List Unit
  vs = map shared_unit (zip (guarded x) r.shared)

  abbrev ws : List Unit
  ws = map thread_unit (zip (threads x) (zip r.threads r.obcs))

  few-tasks : length (filter (λ (u : Unit). is_task u.form) p.units) ≤ 30
  few-tasks =
      let task : Unit → Bool = λ u. is_task u.form in
      let none-us : filter (λ (u : Unit). is_task u.form) us ≡ []
      = filter-none (λ (u : Unit). is_task u.form) us (λ u h. ap (λ (w : Unit). is_task w.form) (from-map passive_unit (libraries x) u h).2) in
      let none-vs : filter (λ (u : Unit). is_task u.form) vs ≡ []
      = filter-none (λ (u : Unit). is_task u.form) vs (λ u h. ap (λ (w : Unit). is_task w.form)
      (from-map shared_unit (zip (guarded x) r.shared) u h).2) in
      let split : filter (λ (u : Unit). is_task u.form) p.units ≡ filter (λ (u : Unit). is_task u.form) ws =
      filter-append (λ (u : Unit). is_task u.form) us (vs ++ ws) ∙ ap (λ z. z ++ filter (λ (u : Unit). is_task u.form) (vs ++ ws)) none-us
      ∙ filter-append (λ (u : Unit). is_task u.form) vs ws ∙ ap (λ z. z ++ filter (λ (u : Unit). is_task u.form) ws) none-vs in
      let a : length (filter (λ (u : Unit). is_task u.form) p.units) ≡ length (filter (λ (u : Unit). is_task u.form) ws) = ap length split in
      let b = filter-at-most (λ (u : Unit). is_task u.form) ws in
      let c : length ws ≡ length (zip (threads x) (zip r.threads r.obcs)) = length-map (zip (threads x) (zip r.threads r.obcs)) thread_unit in
      let d = zip-most (threads x) (zip r.threads r.obcs) in
      let e = few-threads written x met in
      omega (arith, a, b, c, d, e)

  few-units : length p.units ≤ 500
  few-units =
      let a = length-append us (vs ++ ws) in
      let b = length-append vs ws in
      let c = length-map (libraries x) passive_unit in
      let d = length-map (zip (guarded x) r.shared) shared_unit in
      let e = length-map (zip (threads x) (zip r.threads r.obcs)) thread_unit in
      let f = zip-most (guarded x) r.shared in
      let g = zip-most (threads x) (zip r.threads r.obcs) in
      let h = few-entries written x met in
      let i = length-append (map (λ (l : Library). l.name) (libraries x)) (map (λ (g : Guarded). g.name) (guarded x)
      ++ map (λ (t : Thread). t.name) (threads x)) in
      let j = length-append (map (λ (g : Guarded). g.name) (guarded x)) (map (λ (t : Thread). t.name) (threads x)) in
      let k = length-map (libraries x) (λ (l : Library). l.name) in
      let l = length-map (guarded x) (λ (g : Guarded). g.name) in
      let m = length-map (threads x) (λ (t : Thread). t.name) in
      omega (arith, a, b, c, d, e, f, g, h, i, j, k, l, m)

  pub whole-right : (fit : Fitting (flat x) r) → AreRanked (flat x) r → whole_breaks p ≡ false
  whole-right fit ranked =
      or_from _ _ (or_from _ _ (costs-fit written x met r fit ranked) (le-ltb 30 _ few-tasks)) (le-ltb 500 _ few-units)

  -- all rules of a program
  pub rules-met : Fitting (flat x) r → AreRanked (flat x) r → MeetsRules p
  rules-met fit ranked rule Whole h = whole rule h
    where
      whole : (rule : Rule) → WholeBreaks p rule → ⊥
      whole Ranges h = let z : true ≡ false = sym h ∙ whole-right fit ranked in cc
      whole Naming h = h
      whole Uses h = h
      whole Rings h = h
      whole Bodies h = h
      whole Externals h = h
  rules-met fit ranked rule (At place) (u, at, h) = unit rule h
    where
      among : IsIn u p.units
      among = at-in p.units place u at

      unit : (rule : Rule) → UnitBreaks p rule place u → ⊥
      unit Naming h = let z : true ≡ false = sym h ∙ names-right written x met r fit place u at in cc
      unit Uses h = let z : true ≡ false = sym h ∙ uses-right written x met r u among in cc
      unit Rings h = rings-right written x met r u h
      unit Bodies (fault, h) = let z : Some fault ≡ None = sym h ∙ bodies-right written x met r fit u among in cc
      unit Ranges h = let z : true ≡ false = sym h ∙ ranges-right written x met r fit ranked u among in cc
      unit Externals h = let z : true ≡ false = sym h ∙ externals-right written x met r fit u among in cc

-- a design's program by a ranking can be read
pub ranked-readable : (x : Design) (ps : List ℕ) → IsProperDesign (within_limits is_design_name) x → ods.MeetsRules x
    → IsRanking (flat (in_ticks x)) ps → IsReadable (program_by (in_ticks x) ps)
ranked-readable x ps proper met ranking = (
  program-proper x (in_ticks x) met (proper-in-ticks x proper) (stated_by (in_ticks x) ps),
  rules-met x (in_ticks x) met (stated_by (in_ticks x) ps) (ranked-fit (in_ticks x) ps ranking)
      (ranked-stated x (in_ticks x) met (sym (ticks-version x)) ps ranking),
)

-- and so can its program
pub program-readable : (x : Design) → IsProperDesign (within_limits is_design_name) x → ods.MeetsRules x → IsReadable (program (in_ticks x))
program-readable x proper met =
    ranked-readable x (priorities_of (flat (in_ticks x))) proper met (deadline-ranking (flat (in_ticks x)))
