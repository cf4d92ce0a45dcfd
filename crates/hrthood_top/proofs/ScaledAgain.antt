-- That what `scale` tells of a design leads back to `generate`, however a run of that ends over a scaled design.
use Rattle.std.proofs.Common.{◌≡◌, ◌≤◌, ◌<◌, ℕ, suc, List, length, Option, Some, None, refl, sym, subst, ap, arith, inl, inr}
use Rattle.std.specs.Prelude.{IfSome}
use Rattle.hood_io.specs.Shelves.{Told}
use Rattle.hood_io.specs.Sinks.{Appends}
use Rattle.seq_tree.specs.Names.{Name}
use Rattle.ods_tree.specs.Designs as designs
use Rattle.ods_tree.specs.Flats.{Flat}
use Rattle.ods_tree.specs.Flattening.{flat}
use Rattle.ods_tree.specs.Reading.{Reads}
use Rattle.ods_tree.specs.Ticks.{in_ticks}
use Rattle.rt_response.specs.declared.rows.Bound.{Bound}
use Rattle.rt_response.specs.declared.rows.Miss as rows
use Rattle.rt_response.specs.Response.{Fits}
use Rattle.analysis.specs.Tables.{table}
use Rattle.design_rules.specs.Broken.{Broken, V15Cost}
use Rattle.design_rules.specs.Rules.{MeetsRules}
use Rattle.ods_index.specs.Told.{told_of}
use Rattle.design_bounds.specs.Analyses.{IsMissed}
use Rattle.bridge.specs.Delivers.{IsTextFor, HasLongText, HasNoBounds}
use Rattle.bridge.specs.Taking.{IsBroken}
use Rattle.bridge.specs.declared.taking.Untaken.TheVariants.{Text, Rule}
use Rattle.law_scaling.specs.Scaling.{scaled}
use Rattle.law_scaling.specs.Designs.{scaled_design}
use Rattle.law_scaled_designs.specs.Laws.{IsBoundedDesign, IsDearDesign}
use Rattle.law_scaled_designs.proofs.Shared.ScaledRules.{scaled-bounded, scaled-dear, scaled-flat, scaled-meets}
use Rattle.scaling.specs.Failures.{Fails}
use Rattle.scaling.specs.Margins.{IsNext}
use Rattle.scaling.specs.declared.margin.Next.{Next}
use Rattle.scaling.specs.declared.margin.Next.TheVariants as next
use Rattle.hrthood_words.specs.declared.verbs.DesignVerb.TheVariants.{Generate, Scale}
use Rattle.hrthood_words.specs.Words.{Command, OnDesign, command_of}
use Rattle.hrthood_top.specs.declared.file_kind.FileKind.TheVariants.{Design}
use Rattle.hrthood_top.specs.declared.generate.GenerateRefusal.{GenerateRefusal}
use Rattle.hrthood_top.specs.declared.generate.GenerateRefusal.TheVariants.{Untaken, Miss, Long}
use Rattle.hrthood_top.specs.declared.status.Status.{Status}
use Rattle.hrthood_top.specs.declared.status.Status.TheVariants as status
use Rattle.hrthood_top.specs.Ends.{Outside, Writes, WritesAtMost, Cause, TooLong, Refusal, Stopped, Refuses, Ends, EndsVerb, TellsMessage, cause_line}
use Rattle.hrthood_top.specs.Files.{limit_of}
use Rattle.hrthood_top.specs.Generates.{RefusesDesign, generate_line, generates}
use Rattle.hrthood_top.specs.Scales.{IsScaled}
use Rattle.hrthood_top.specs.ScaledRuns.{EndsWithText, EndsWithMiss, EndsWithCost, LeadsBack}
use Rattle.hrthood_top.specs.TwoRuns.{IsDone}
use Rattle.hrthood_top.proofs.GenerateLaws.{one_refusal}
use Rattle.hrthood_top.proofs.OneDesign.{one-design, no-fault, not-untaken}
use Rattle.hrthood_top.proofs.Replaying.{what_is_written}
use Rattle.hrthood_top.proofs.VerbLaws.{one_file, not-over}
use Rattle.hrthood_top.proofs.VerifiedAccepted.{ends-verb}

-- a run of `generate` over a file that holds these bytes, within the limit of its files
module _ (more d : List ℕ) (s : Told) (held : s.files d ≡ Some more) (short : length more ≤ limit_of Design) where
  made-of : (text : List ℕ) → Writes s (generates d) text → IsTextFor more text
  made-of text h = subst (λ z. IsTextFor z text) (one_file s d (h.0 Design) more h.1.0.0 held) h.2

  -- what it writes is made of them, and nothing is written up to a stop
  most-of : (text : List ℕ) → WritesAtMost s (generates d) text → IsTextFor more text
  most-of text (inl h) = made-of text h
  most-of text (inr h) = absurd h.0

  -- its file is not too long, so that it is refused for what the bytes are
  refusal-of : (cause : Cause (generates d)) → Refuses s (generates d) cause → (r : GenerateRefusal) × RefusesDesign more r × (cause ≡ Refusal r)
  refusal-of (Refusal r) h = (r, subst (λ z. RefusesDesign z r) (one_file s d (h.0 Design) more h.1.0.0 held) h.2, refl)
  refusal-of (TooLong front file) h = absurd (not-over s (generates d) front file (λ kind. more) h ((held, short), tt))
  refusal-of (Stopped stop) h = absurd stop

-- the bytes are a design with bounds within its limits
module _ (x : designs.Design) (more : List ℕ) (reads : Reads more x) (w : IsBoundedDesign x) where
  fits-here : (y : designs.Design) → y ≡ x → Fits (table (flat (in_ticks y))).rows w.bounds
  fits-here y e = subst (λ z. Fits (table (flat (in_ticks z))).rows w.bounds) (sym e) w.fits

  -- they are refused for the length of the text alone
  long-only : (r : GenerateRefusal) → RefusesDesign more r → (r ≡ Long) × HasLongText more
  long-only (Untaken r) h = absurd (not-untaken more x r reads w.meets h)
  long-only (Miss thread miss) h = absurd (h.missed.none w.bounds (fits-here h.design (one-design more h.design x h.reads reads)))
  long-only Long h = (refl, h)

  bounded-end : (d : List ℕ) (u v : Outside) (s : Told) (ended : Status) → s.files d ≡ Some more → length more ≤ limit_of Design
      → u.told ≡ Some s → EndsVerb ended (generates d) u v → EndsWithText more ended u v
  bounded-end d u v s status.Done held short told e =
      let W : Option Told → Type 0 = λ o. IfSome o (λ t. Writes t (generates d) e.0) in
      (e.0, e.1, made-of more d s held short e.0 (subst W told e.2))
  bounded-end d u v s status.Refused held short told e =
      let R : Option Told → Type 0 = λ o. IfSome o (λ t. Refuses t (generates d) e.0) in
      let which = refusal-of more d s held short e.0 (subst R told e.1) in
      let long = long-only which.0 which.1 in
      let T : Cause (generates d) → Type 0 = λ c. TellsMessage u v (cause_line (generates d) c) in
      let T' : GenerateRefusal → Type 0 = λ r. TellsMessage u v (generate_line r) in
      (long.1, subst T' long.0 (subst T which.2 e.4))
  bounded-end d u v s status.Usage held short told e = e
  bounded-end d u v s status.ReadFault held short told e = e.6
  bounded-end d u v s status.WriteFault held short told e = e.5
  bounded-end d u v s status.NoMemory held short told e = tt

-- the bytes are a design of which a value is over its limit first
module _ (x : designs.Design) (more : List ℕ) (reads : Reads more x) (thread : Name) (miss : rows.Miss) (h : HasNoBounds more thread miss) where
  none-made : (text : List ℕ) → IsTextFor more text → ⊥
  none-made text w =
      let same : w.design ≡ h.design = one-design more w.design h.design w.reads h.reads in
      h.missed.none w.bounds (subst (λ z. Fits (table (flat (in_ticks z))).rows w.bounds) same w.least.fits)

  late-end : (d : List ℕ) (u v : Outside) (s : Told) (ended : Status) → s.files d ≡ Some more → length more ≤ limit_of Design
      → u.told ≡ Some s → EndsVerb ended (generates d) u v → EndsWithMiss thread miss ended u v
  late-end d u v s status.Done held short told e =
      let W : Option Told → Type 0 = λ o. IfSome o (λ t. Writes t (generates d) e.0) in
      none-made e.0 (made-of more d s held short e.0 (subst W told e.2))
  late-end d u v s status.Refused held short told e =
      let R : Option Told → Type 0 = λ o. IfSome o (λ t. Refuses t (generates d) e.0) in
      let which = refusal-of more d s held short e.0 (subst R told e.1) in
      let one : which.0 ≡ Miss thread miss = one_refusal more which.0 (Miss thread miss) which.1 h in
      let T : Cause (generates d) → Type 0 = λ c. TellsMessage u v (cause_line (generates d) c) in
      let T' : GenerateRefusal → Type 0 = λ r. TellsMessage u v (generate_line r) in
      subst T' one (subst T which.2 e.4)
  late-end d u v s status.Usage held short told e = e
  late-end d u v s status.ReadFault held short told e = e.6
  late-end d u v s status.WriteFault held short told e =
      let W : Option Told → Type 0 = λ o. IfSome o (λ t. WritesAtMost t (generates d) e.0) in
      none-made e.0 (most-of more d s held short e.0 (subst W told e.4))
  late-end d u v s status.NoMemory held short told e = tt

-- the bytes are a design of which a body or a thread costs too much
module _ (x : designs.Design) (more : List ℕ) (reads : Reads more x) (w : IsDearDesign x) where
  not-met : (y : designs.Design) → Reads more y → MeetsRules y → ⊥
  not-met y h meets = w.breaks (subst MeetsRules (one-design more y x h reads) meets)

  dear-told : (told : Option Broken) → IsBroken x told → (object : Name) × (op : Option Name) × (told ≡ Some (V15Cost object op))
  dear-told None h = absurd h
  dear-told (Some told) h = (let which = w.told told h in (which.0, which.1, ap Some which.2))

  -- they are refused for that
  dear-line : (u v : Outside) (r : GenerateRefusal) → RefusesDesign more r → TellsMessage u v (generate_line r) → EndsWithCost status.Refused u v
  dear-line u v (Untaken (Text found)) h tells = absurd (no-fault more x found reads h)
  dear-line u v (Untaken (Rule broken)) h tells =
      let B : designs.Design → Type 0 = λ z. IsBroken z (told_of broken) in
      let which = dear-told (told_of broken) (subst B (one-design more h.design x h.reads reads) h.broken) in
      (broken, which.0, which.1, which.2, tells)
  dear-line u v (Miss thread miss) h tells = absurd (not-met h.design h.reads h.meets)
  dear-line u v Long h tells = absurd (not-met h.design h.reads h.meets)

  dear-end : (d : List ℕ) (u v : Outside) (s : Told) (ended : Status) → s.files d ≡ Some more → length more ≤ limit_of Design
      → u.told ≡ Some s → EndsVerb ended (generates d) u v → EndsWithCost ended u v
  dear-end d u v s status.Done held short told e =
      let W : Option Told → Type 0 = λ o. IfSome o (λ t. Writes t (generates d) e.0) in
      let made = made-of more d s held short e.0 (subst W told e.2) in
      not-met made.design made.reads made.meets
  dear-end d u v s status.Refused held short told e =
      let R : Option Told → Type 0 = λ o. IfSome o (λ t. Refuses t (generates d) e.0) in
      let which = refusal-of more d s held short e.0 (subst R told e.1) in
      let T : Cause (generates d) → Type 0 = λ c. TellsMessage u v (cause_line (generates d) c) in
      dear-line u v which.0 which.1 (subst T which.2 e.4)
  dear-end d u v s status.Usage held short told e = e
  dear-end d u v s status.ReadFault held short told e = e.6
  dear-end d u v s status.WriteFault held short told e =
      let W : Option Told → Type 0 = λ o. IfSome o (λ t. WritesAtMost t (generates d) e.0) in
      let made = most-of more d s held short e.0 (subst W told e.4) in
      not-met made.design made.reads made.meets
  dear-end d u v s status.NoMemory held short told e = tt

-- a value that is over its limit at the next per mille leaves the scaled design without bounds
next-late : (x : designs.Design) (k : ℕ) (thread : Name) (miss : rows.Miss) (more : List ℕ) → MeetsRules x
    → Fails (flat (in_ticks x)) (suc k) (next.Miss thread miss) → Reads more (scaled_design (suc k) x) → HasNoBounds more thread miss
next-late x k thread miss more meets fails reads =
    let M : Flat → Type 0 = λ f. IsMissed f thread miss in
    record {
      design = scaled_design (suc k) x;
      reads = reads;
      meets = scaled-meets x (suc k) (omega arith) meets fails.0;
      missed = subst M (sym (scaled-flat x (suc k))) fails.1;
    }

pub scaled-again : (words : List (List ℕ)) (d written : List ℕ) (x y : Outside) (t : Told) → IsDone words (OnDesign Scale d) x y t written
    → LeadsBack t d written
scaled-again words d written x y t done =
    let h = what_is_written words (OnDesign Scale d) x y t written done in
    let w : IsScaled (h.0 Design) written = h.2 in
    record {
      bytes = h.0 Design;
      design_file = h.1.0.0;
      design = w.design;
      reads = w.reads;
      margin = w.margin;
      told = w.told;
      within = λ k more some less reads others e u v s ended command ends told held short.
          let E : Option Command → Type 0 = λ o. Ends ended o u v in
          bounded-end (scaled_design k w.design) more reads
          (scaled-bounded w.design k w.margin.per_mille some less w.meets w.right.greatest.holds) e u v s ended held short told
          (ends-verb ended (OnDesign Generate e) u v (subst E command ends));
      beyond = λ thread miss more over reads others e u v s ended command ends told held short.
          let E : Option Command → Type 0 = λ o. Ends ended o u v in
          let N : Next → Type 0 = λ n. IsNext None (flat (in_ticks w.design)) w.margin.per_mille n in
          let fails = subst N over w.right.next in
          late-end (scaled_design (suc w.margin.per_mille) w.design) more reads thread miss
          (next-late w.design w.margin.per_mille thread miss more w.meets fails.1 reads) e u v s ended held short told
          (ends-verb ended (OnDesign Generate e) u v (subst E command ends));
      dear = λ name part more over reads others e u v s ended command ends told held short.
          let E : Option Command → Type 0 = λ o. Ends ended o u v in
          let N : Next → Type 0 = λ n. IsNext None (flat (in_ticks w.design)) w.margin.per_mille n in
          let fails = subst N over w.right.next in
          dear-end (scaled_design (suc w.margin.per_mille) w.design) more reads
          (scaled-dear w.design (suc w.margin.per_mille) (record { object = name; op = part; ticks = fails.1.0 }) (omega arith) w.meets fails.1.1)
          e u v s ended held short told (ends-verb ended (OnDesign Generate e) u v (subst E command ends));
    }
