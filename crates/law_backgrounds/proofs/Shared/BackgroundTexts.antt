-- The text of a proper design with background objects that a text can hold: its tokens are those of the design's program, so it is guaranteed.
use Rattle.std.proofs.Common.{◌≡◌, ℕ, ◌+◌, ◌-◌, ◌≤◌, Bool, true, false, List, zip, length, max, Ok}
use Rattle.std.proofs.Common.{refl, sym, ap, subst, ◌∙◌, arith, le_trans, if◌then◌else◌}
use Rattle.std.specs.List.{list_all}
use Rattle.std.proofs.lemmas.Bool.{and_parts, and_from}
use Rattle.seq_tree.specs.Limits.{ada_limit}
use Rattle.seq_tree.specs.Lexis.{tokens, plain}
use Rattle.seq_tree.specs.Proper.{within_limits}
use Rattle.seq_print.specs.Readable.{is_readable}
use Rattle.ods_tree.specs.Designs.{Design}
use Rattle.ods_tree.specs.Walk.{Standing, objects}
use Rattle.ods_tree.specs.Proper.{IsProperDesign}
use Rattle.ods_tree.specs.Spelling.{design_tokens}
use Rattle.ods_tree.specs.Ticks.{in_ticks, first_priority}
use Rattle.ods_tree.specs.Words.{is_design_name}
use Rattle.ods_tree.specs.Flats.{Cyclic, Thread, period_of}
use Rattle.ods_tree.specs.Flattening.{threads, flat}
use Rattle.ods_tree.specs.Sound.{is_timed, is_in_range}
use Rattle.ods_tree.proofs.Shared.TickLaws.{ticks-version}
use Rattle.ods_print.specs.Writable as design
use Rattle.ada_tree.specs.Spelling.{program_tokens}
use Rattle.ada_print.specs.Writable.{is_word, is_number, is_writable}
use Rattle.rt_response.specs.declared.rows.Bound.{Bound}
use Rattle.rt_response.specs.Response.{Fits}
use Rattle.analysis.specs.Sound.{IsSound}
use Rattle.analysis.specs.Ceilings.{ranks}
use Rattle.guarantee.specs.Programs.{program, stated_ranks}
use Rattle.design_rules.specs.Rules.{AreMet}
use Rattle.law_designs.proofs.Shared.Lists.{all-from, all-in, from-map}
use Rattle.analysis.proofs.Shared.CostRanges.{within-true}
use Rattle.law_designs.proofs.Shared.ProgramRanges.{AreRanked}
use Rattle.law_designs.proofs.Shared.RankRanges.{stated-ranked, room, priority-range}
use Rattle.law_designs.proofs.Shared.SoundDesigns.{flat-sound}
use Rattle.law_designs.proofs.Shared.Units.{unit-from, from-zip}
use Rattle.law_designs.proofs.Shared.ProperTicks.{proper-in-ticks}
use Rattle.law_lists.proofs.Shared.Lists.{IsIn}
use Rattle.ada_gen.specs.Heads.{is_thread_writable, is_head_writable}
use Rattle.ada_gen.proofs.Shared.HeadLaws.{text-back}
use Rattle.law_texts.proofs.Shared.LegibleObjects.{IsLegibleObject, objects-legible, name-legible}
use Rattle.law_texts.proofs.Shared.LegibleTicks.{legible-in-ticks}
use Rattle.law_texts.proofs.Shared.LegibleDesigns.{number_below, costs-read, thread-named, unit-read}
use Rattle.law_texts.proofs.Shared.LegibleUnits.{IsLegibleUnit, program-legible}
use Rattle.law_texts.proofs.Shared.RankedTexts.{bounds-read, ticked-name, period-in}
use Rattle.background_designs.specs.Clients.{is_client_name}
use Rattle.background_designs.specs.HardParts.{hard_part}
use Rattle.background_designs.specs.Refusals.{IsBackgroundDesign, Hard, Requests}
use Rattle.background_designs.specs.Programs.{client_count, at_least, restless, background_flat, background_ranks, background_program}
use Rattle.background_designs.specs.Programs.{background_text}
use Rattle.background_designs.specs.Programs.{hard_rows, hard_places}
use Rattle.background_designs.specs.Runs.{IsGuaranteedInBackground}
use Rattle.law_backgrounds.proofs.Shared.Lifts.{lift_unit, lifted}
use Rattle.law_backgrounds.proofs.Shared.HardRanks.{clients-few}
use Rattle.law_backgrounds.proofs.Shared.ProperHard.{hard-are-proper}
use Rattle.law_backgrounds.proofs.Shared.BackgroundPrograms.{program-raised}
use Rattle.law_backgrounds.proofs.Shared.BackgroundRuns.{quick, guaranteed, hard-table}
use Rattle.law_backgrounds.proofs.LegibleHard.{hard-are-legible, lift-legible}

module _ (written : Design) (proper : IsProperDesign (within_limits is_design_name) written) (writable : design.is_writable written ≡ true)
    (passes : IsBackgroundDesign written) where
  abbrev x : Design
  x = in_ticks written

  abbrev y : Design
  y = hard_part x

  met : AreMet written y
  met = passes Hard

  all-tokens : list_all is_readable (design_tokens written) ≡ true
  all-tokens = writable

  legible : (s : Standing) → IsIn s (objects y) → IsLegibleObject s.own
  legible = hard-are-legible x (legible-in-ticks written (objects-legible written all-tokens))

  named : is_word y.name ≡ true
  named = ap is_word (ticked-name written.version written) ∙ name-legible written all-tokens

  sound : IsSound (flat y)
  sound = flat-sound written y met

  ranked : AreRanked (flat y) (stated_ranks y)
  ranked = stated-ranked written y met (sym (ticks-version written))

  abbrev least : ℕ
  least = client_count x + (first_priority y - 1)

  within : max 1 (length (threads y)) + (first_priority y - 1) ≤ 60
  within = room written y met (sym (ticks-version written))

  few : client_count x ≤ length (threads y)
  few = clients-few x (quick 0 written proper passes) (passes Requests) sound

  low : least ≤ 60
  low = let a = within in let b = few in omega (arith, a, b)

  is-raised : background_program x ≡ lifted least (is_client_name x) (program y)
  is-raised = program-raised written x met (sym (ticks-version written)) (hard-are-proper x (proper-in-ticks written proper))
      (quick 0 written proper passes) (passes Requests)

  program-read : is_writable (background_program x) ≡ true
  program-read = subst (λ p. is_writable p ≡ true) (sym is-raised)
      (program-legible (lifted least (is_client_name x) (program y)) named (costs-read y.costs sound.formed.costs) (λ u h.
      let m = from-map (lift_unit least (is_client_name x)) (program y).units u h in
      subst IsLegibleUnit (sym m.2) (lift-legible least (is_client_name x) m.0 low
      (unit-read written y met legible sound (stated_ranks y) ranked m.0 (unit-from (flat y) (stated_ranks y) m.0 m.1)))))

  -- the threads of the head
  number_within : (n : ℕ) → n ≤ 60 → is_number n ≡ true
  number_within n h = number_below n (omega (arith, h))

  thread-read : (t : Thread) (n : ℕ) → IsIn (t, n) (zip (background_flat x).threads (background_ranks x).threads) → is_thread_writable (t, n) ≡ true
  thread-read t n h =
      let z = from-zip (background_flat x).threads (background_ranks x).threads (t, n) h in
      let s = from-map (restless x) (threads y) t z.0 in
      let a = from-map (λ n. n + (first_priority y - 1)) (at_least (client_count x) (ranks (flat y)).threads) n z.1 in
      let b = from-map (max (client_count x)) (ranks (flat y)).threads a.0 a.1 in
      let r = priority-range (flat y) b.0 b.1 in
      let i = and_parts (is_timed s.0.timing) _ (all-in is_in_range (threads y) s.0 sound.formed.ranges s.1) in
      let d = within-true 1 (period_of s.0.timing) s.0.deadline i.1 in
      let p = b.2 in
      let q = a.2 in
      let w = within in
      let f = few in
      let same = kept-names s.0 in
      and_from _ _ (ap (λ (z : Thread). is_word z.name) s.2 ∙ ap is_word same.0 ∙ thread-named written y met legible s.0 s.1)
      (and_from _ _ (ap (λ (z : Thread). is_number z.deadline) s.2 ∙ ap is_number same.1
      ∙ number_below s.0.deadline (le_trans d.1 (period-in s.0.timing i.0)))
      (number_within n (omega (arith, r.1, p, q, w, f))))
    where
      kept-names : (t : Thread) → ((restless x t).name ≡ t.name) × ((restless x t).deadline ≡ t.deadline)
      kept-names t = by (is_client_name x t.name)
        where
          by : (b : Bool) → ((if b then record t { timing = Cyclic 1 0 } else t).name ≡ t.name)
              × ((if b then record t { timing = Cyclic 1 0 } else t).deadline ≡ t.deadline)
          by true = (refl, refl)
          by false = (refl, refl)

  module _ (v : List Bound) (fits : Fits (hard_rows x) v) where
    head-read : is_head_writable (background_flat x) (background_ranks x) v ≡ true
    head-read =
        and_from _ _ named (and_from _ _
        (all-from is_thread_writable (zip (background_flat x).threads (background_ranks x).threads) (λ p h. thread-read p.0 p.1 h))
        (bounds-read _ (hard_rows x) v (hard-table written proper passes).each fits.1))

    pub text-spelled : plain (tokens (background_text x v)) ≡ Ok (program_tokens (background_program x))
    text-spelled = text-back (background_flat x) (background_ranks x) (hard_places x) v program-read head-read

    pub text-guaranteed : (limit : ℕ) → length (background_text x v) ≤ ada_limit → IsGuaranteedInBackground limit x (background_text x v) v
    text-guaranteed limit short = guaranteed limit written proper passes v fits (background_text x v) short text-spelled
