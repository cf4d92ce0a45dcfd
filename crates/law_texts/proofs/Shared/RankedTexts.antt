-- The text of a design that was read from a text, by any ranking: its tokens are those of the design's program by it, and so it is guaranteed.
use Rattle.std.proofs.Common.{◌≡◌, ℕ, suc, ◌+◌, ◌≤◌, true, List, [], ◌∷◌, zip, length, Option, Some, None, Ok}
use Rattle.std.proofs.Common.{refl, sym, ap, ◌∙◌, inl, inr, arith, le_trans}
use Rattle.std.specs.List.{list_all, AllZip}
use Rattle.std.proofs.lemmas.Bool.{and_parts, and_from}
use Rattle.seq_tree.specs.Limits.{ada_limit, tick_limit, is_within}
use Rattle.seq_tree.specs.Lexis.{tokens, plain}
use Rattle.seq_print.specs.Readable.{is_readable}
use Rattle.seq_print.proofs.Shared.TokenForms.{tokens-readable}
use Rattle.ods_tree.specs.Designs.{Design}
use Rattle.ods_tree.specs.Walk.{Standing, objects}
use Rattle.ods_tree.specs.Reading.{Reads}
use Rattle.ods_tree.specs.Spelling.{design_tokens}
use Rattle.ods_tree.specs.Ticks.{ticked, in_ticks}
use Rattle.ods_tree.specs.Flats.{Timing, Cyclic, Sporadic, Thread, period_of}
use Rattle.ods_tree.specs.Flattening.{threads, flat}
use Rattle.ods_tree.specs.Sound.{is_timed, is_in_range}
use Rattle.ods_tree.specs.declared.design.VersionTwo.{VersionTwo}
use Rattle.ods_tree.proofs.Shared.TickLaws.{ticks-version}
use Rattle.ada_tree.specs.Spelling.{program_tokens}
use Rattle.ada_tree.specs.Reading.{Accepts}
use Rattle.ada_print.specs.Writable.{is_word}
use Rattle.rt_response.specs.declared.rows.ThreadRow.{ThreadRow}
use Rattle.rt_response.specs.declared.rows.Bound.{Bound}
use Rattle.rt_response.specs.Response.{Fits}
use Rattle.rt_response.specs.Tables as rows
use Rattle.analysis.specs.Sound.{IsSound}
use Rattle.analysis.specs.Tables.{table_for}
use Rattle.guarantee.specs.MachineLaw.{IsReadable}
use Rattle.design_rules.specs.Rules.{MeetsRules}
use Rattle.law_designs.specs.Rankings.{IsRanking, stated_by, program_by}
use Rattle.law_designs.proofs.Shared.Lists.{all-from, all-in}
use Rattle.analysis.proofs.Shared.CostRanges.{within-true}
use Rattle.law_designs.proofs.Shared.Offers.{Fitting}
use Rattle.law_designs.proofs.Shared.ProgramRanges.{AreRanked}
use Rattle.law_designs.proofs.Shared.RankRanges.{ranked-stated}
use Rattle.law_designs.proofs.Shared.ReadablePrograms.{ranked-readable}
use Rattle.law_designs.proofs.Shared.SoundDesigns.{flat-sound}
use Rattle.law_designs.proofs.Shared.TableRanges.{ranked-table}
use Rattle.law_designs.proofs.Shared.Units.{ranked-fit, from-zip}
use Rattle.law_lists.proofs.Shared.Lists.{IsIn}
use Rattle.law_runs.specs.Ranked.{GuaranteedBy}
use Rattle.law_runs.proofs.Shared.RankedRuns.{ranked-texts-are-guaranteed}
use Rattle.ada_gen.specs.Heads.{is_thread_writable, is_bound_writable, is_head_writable}
use Rattle.ada_gen.proofs.Shared.HeadLaws.{text-back}
use Rattle.law_texts.specs.Ranked.{text_by}
use Rattle.law_texts.proofs.Shared.LegibleObjects.{IsLegibleObject, objects-legible, name-legible}
use Rattle.law_texts.proofs.Shared.LegibleTicks.{legible-in-ticks}
use Rattle.law_texts.proofs.Shared.LegibleDesigns.{number_below, thread-named, program-written, number_inside}

-- a pair stands among triples of lists that are as long
third : {A : Type 0} (xs : List A) (ys zs : List ℕ) (x : A) (y : ℕ) → length zs ≡ length ys → IsIn (x, y) (zip xs ys)
    → (z : ℕ) × IsIn (x, (y, z)) (zip xs (zip ys zs))
third [] ys zs x y e h = absurd h
third (a ∷ xs) [] zs x y e h = absurd h
third (a ∷ xs) (b ∷ ys) [] x y e h = absurd (let z : 0 ≡ suc (length ys) = e in cc)
third (a ∷ xs) (b ∷ ys) (c ∷ zs) x y e (inl h) = (c, inl (ap (λ p. (p.0, (p.1, c))) h))
third (a ∷ xs) (b ∷ ys) (c ∷ zs) x y e (inr h) = (let r = third xs ys zs x y (let z : suc (length zs) ≡ suc (length ys) = e in cc) h
    in (r.0, inr r.1))

-- periods and separations that are in their range
pub period-in : (u : Timing) → is_timed u ≡ true → period_of u ≤ tick_limit
period-in (Cyclic period offset) e = (within-true 1 tick_limit period (and_parts (is_within 1 tick_limit period) _ e).0).1
period-in (Sporadic op separation jitter) e = (within-true 1 tick_limit separation (and_parts (is_within 1 tick_limit separation) _ e).0).1

-- bounds that fit can be read
pub bounds-read : (n : ℕ) (rs : List ThreadRow) (v : List Bound) → rows.Each (rows.IsRow n) rs
    → AllZip (λ (row : ThreadRow) (b : Bound). (b.response ≤ row.deadline) × (b.jitter + b.response ≤ row.period)) rs v
    → list_all is_bound_writable v ≡ true
bounds-read n [] [] h k = refl
bounds-read n [] (b ∷ v) h k = absurd k
bounds-read n (r ∷ rs) [] h k = absurd k
bounds-read n (r ∷ rs) (b ∷ v) h k =
    let period : r.period ≤ tick_limit = h.0.period in
    let sum : b.jitter + b.response ≤ r.period = k.0.1 in
    and_from _ _ (and_from _ _ (number_below b.jitter (omega (arith, period, sum))) (number_below b.response (omega (arith, period, sum))))
    (bounds-read n rs v h.1 k.1)

pub ticked-name : (v : Option VersionTwo) (x : Design) → (ticked v x).name ≡ x.name
ticked-name None x = refl
ticked-name (Some v) x = refl

module _ (x : Design) (bytes : List ℕ) (reads : Reads bytes x) (met : MeetsRules x) (ps : List ℕ)
    (ranking : IsRanking (flat (in_ticks x)) ps) where
  abbrev y : Design
  y = in_ticks x

  all-tokens : list_all is_readable (design_tokens x) ≡ true
  all-tokens = tokens-readable bytes (design_tokens x) reads.spelled

  legible : (s : Standing) → IsIn s (objects y) → IsLegibleObject s.own
  legible = legible-in-ticks x (objects-legible x all-tokens)

  named : is_word y.name ≡ true
  named = ap is_word (ticked-name x.version x) ∙ name-legible x all-tokens

  sound : IsSound (flat y)
  sound = flat-sound x y met

  ranked : AreRanked (flat y) (stated_by y ps)
  ranked = ranked-stated x y met (sym (ticks-version x)) ps ranking

  fit : Fitting (flat y) (stated_by y ps)
  fit = ranked-fit y ps ranking

  thread-read : (t : Thread) (n : ℕ) → IsIn (t, n) (zip (threads y) (stated_by y ps).threads) → is_thread_writable (t, n) ≡ true
  thread-read t n h =
      let i : IsIn t (threads y) = (from-zip (threads y) (stated_by y ps).threads (t, n) h).0 in
      let m = third (threads y) (stated_by y ps).threads (stated_by y ps).obcs t n (fit.obcs ∙ sym fit.threads) h in
      let a = and_parts (is_timed t.timing) _ (all-in is_in_range (threads y) t sound.formed.ranges i) in
      let b = within-true 1 (period_of t.timing) t.deadline a.1 in
      and_from _ _ (thread-named x y met legible t i) (and_from _ _ (number_below t.deadline (le_trans b.1 (period-in t.timing a.0)))
      (number_inside n (ranked.threads t (n, m.0) m.1)))

  module _ (v : List Bound) (fits : Fits (table_for (flat y) ps).rows v) where
    head-read : is_head_writable (flat y) (stated_by y ps) v ≡ true
    head-read =
        and_from _ _ named (and_from _ _
        (all-from is_thread_writable (zip (threads y) (stated_by y ps).threads) (λ p h. thread-read p.0 p.1 h))
        (bounds-read _ (table_for (flat y) ps).rows v (ranked-table (flat y) sound ps ranking).each fits.1))

    pub ranked-spelled : plain (tokens (text_by y ps v)) ≡ Ok (program_tokens (program_by y ps))
    ranked-spelled = text-back (flat y) (stated_by y ps) (table_for (flat y) ps).places v
        (program-written x y met legible sound (stated_by y ps) ranked named) head-read

    pub ranked-guaranteed : (limit : ℕ) → length (text_by y ps v) ≤ ada_limit → GuaranteedBy limit y ps (text_by y ps v) v
    ranked-guaranteed limit short =
        ranked-texts-are-guaranteed limit x ps (text_by y ps v) v reads.proper met ranking fits short ranked-spelled

    pub ranked-accepted : length (text_by y ps v) ≤ ada_limit → Accepts (text_by y ps v) (program_by y ps)
    ranked-accepted short =
        let readable : IsReadable (program_by y ps) = ranked-readable x ps reads.proper met ranking in
        record { reads = record { within = short; proper = readable.0; spelled = ranked-spelled }; meets = readable.1 }
