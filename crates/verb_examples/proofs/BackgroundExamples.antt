-- Examples: what `background` makes of a design, why it refuses one, and replays of its texts that are right. Each definition holds of all its
-- parts, and without one of them it doesn't.
use Rattle.std.specs.Prelude.{◌≡◌, ℕ, ◌≤◌, ◌<◌, List, [], ◌∷◌, length, map, codes, refl}
use Rattle.std.proofs.Common.{arith}
use Rattle.seq_tree.specs.Names.{Name}
use Rattle.seq_tree.specs.declared.text_fault.TextFault.{TextFault}
use Rattle.seq_tree.specs.declared.tree.OpName.{OpName}
use Rattle.ods_tree.specs.Designs.{Design}
use Rattle.ods_tree.specs.Reading.{Reads}
use Rattle.ods_tree.specs.Ticks.{in_ticks}
use Rattle.ods_read.specs.Answers.{Faults}
use Rattle.design_rules.specs.Broken.{V17Tick}
use Rattle.ods_index.specs.declared.broken.Broken.TheVariants as told
use Rattle.rt_response.specs.Response.{IsLeastVector}
use Rattle.rt_response.specs.declared.rows.Bound.{Bound}
use Rattle.rt_response.specs.declared.rows.Miss as rows
use Rattle.ada_tree.specs.Programs.{Program}
use Rattle.ada_tree.specs.Reading.{Accepts}
use Rattle.arrivals_tree.specs.Arriving.{Arrivals}
use Rattle.arrivals_tree.specs.Arrived.{Arrives, horizon_limit}
use Rattle.trace_tree.specs.declared.event.Event.{Event}
use Rattle.trace_tree.specs.Exclusion.{Exclusive}
use Rattle.trace_tree.specs.Lines.{lines}
use Rattle.machine.specs.Meanings.{Meaning}
use Rattle.guarantee.specs.Events.{named}
use Rattle.guarantee.specs.Arrivals.{named_arrivals}
use Rattle.background_designs.specs.Misfits as misfits
use Rattle.background_designs.specs.Refusals.{Breaks, Misfits, IsBackgroundDesign, IsFirstFault}
use Rattle.background_designs.specs.Programs.{background_text, hard_rows}
use Rattle.background_designs.specs.Runs.{IsGuaranteedInBackground, PermitsBackground}
use Rattle.background.specs.Delivers.{IsMissedInBackground, IsLongInBackground}
use Rattle.background.specs.declared.delivery.BackgroundRefusal as delivery
use Rattle.background.specs.declared.delivery.BackgroundRule.TheVariants as rule
use Rattle.hrthood_top.specs.declared.file_kind.FileKind.TheVariants as kind
use Rattle.hrthood_top.specs.declared.background_text.BackgroundRefusal.TheVariants as background
use Rattle.hrthood_top.specs.Files.{Texts}
use Rattle.hrthood_top.specs.Messages.{misfit_line, miss_line, rule_line, text_line}
use Rattle.hrthood_top.specs.Backgrounds.{CanBackground, IsBackgroundTextFor, RefusesRead, backgrounds}
use Rattle.hrthood_top.specs.RightTraces.{IsRightBackgroundTrace}
use Rattle.hrthood_top.specs.TwoRuns.{IsRightBackgroundReplay}
use Rattle.verb_examples.proofs.EmptyExamples.{empty, no_design}
use Rattle.verb_examples.proofs.EndExamples.{shelf, bare}

-- THE VERB
files : (backgrounds (codes "d")).files ≡ record { kind = kind.Design; name = codes "d" } ∷ []
files = refl

-- THE TEXT
module _ (bytes made : List ℕ) where
  text_for : (x : Design) (v : List Bound) → Reads bytes x → IsBackgroundDesign x → IsLeastVector (hard_rows (in_ticks x)) v
      → made ≡ background_text (in_ticks x) v → length made ≤ 16777216 → IsGuaranteedInBackground horizon_limit (in_ticks x) made v
      → IsBackgroundTextFor bytes made
  text_for x v r p l e s g = record { design = x; reads = r; passes = p; bounds = v; least = l; made = e; short = s; guaranteed = g }

  unread : ((x : Design) → Reads bytes x → ⊥) → IsBackgroundTextFor bytes made → ⊥
  unread never h = never h.design h.reads

  of_misfits : ((x : Design) → Reads bytes x → IsBackgroundDesign x → ⊥) → IsBackgroundTextFor bytes made → ⊥
  of_misfits never h = never h.design h.reads h.passes

  -- of the least bounds of the hard threads, in ticks, and not of others
  without_bounds : ((x : Design) (v : List Bound) → Reads bytes x → IsLeastVector (hard_rows (in_ticks x)) v → ⊥) → IsBackgroundTextFor bytes made → ⊥
  without_bounds never h = never h.design h.bounds h.reads h.least

  other_text : ((x : Design) (v : List Bound) → Reads bytes x → IsLeastVector (hard_rows (in_ticks x)) v → made ≡ background_text (in_ticks x) v → ⊥)
      → IsBackgroundTextFor bytes made → ⊥
  other_text never h = never h.design h.bounds h.reads h.least h.made

  long_text : 16777216 < length made → IsBackgroundTextFor bytes made → ⊥
  long_text over h = omega (arith, over, h.short)

  not_guaranteed : ((x : Design) (v : List Bound) → Reads bytes x → IsGuaranteedInBackground horizon_limit (in_ticks x) made v → ⊥)
      → IsBackgroundTextFor bytes made → ⊥
  not_guaranteed never h = never h.design h.bounds h.reads h.guaranteed

-- what it can be made of
module _ (bytes : List ℕ) where
  can : (x : Design) (v : List Bound) → Reads bytes x → IsBackgroundDesign x → IsLeastVector (hard_rows (in_ticks x)) v
      → length (background_text (in_ticks x) v) ≤ 16777216 → CanBackground bytes
  can x v r p l s = record { design = x; reads = r; passes = p; bounds = v; least = l; short = s }

  cannot_read : ((x : Design) → Reads bytes x → ⊥) → CanBackground bytes → ⊥
  cannot_read never h = never h.design h.reads

  cannot_pass : ((x : Design) → Reads bytes x → IsBackgroundDesign x → ⊥) → CanBackground bytes → ⊥
  cannot_pass never h = never h.design h.reads h.passes

  cannot_bound : ((x : Design) (v : List Bound) → Reads bytes x → IsLeastVector (hard_rows (in_ticks x)) v → ⊥) → CanBackground bytes → ⊥
  cannot_bound never h = never h.design h.bounds h.reads h.least

  cannot_write : ((x : Design) (v : List Bound) → Reads bytes x → 16777216 < length (background_text (in_ticks x) v)) → CanBackground bytes → ⊥
  cannot_write over h = omega (arith, h.short, over h.design h.bounds h.reads)

-- WHY THERE IS NONE
module _ (texts : Texts) where
  text : (f : TextFault) → Faults (texts kind.Design) f → (backgrounds (codes "d")).Refuses texts (background.Text f)
  text f h = h

  no_text : (f : TextFault) → ¬ Faults (texts kind.Design) f → (backgrounds (codes "d")).Refuses texts (background.Text f) → ⊥
  no_text f never h = never h

  -- the misfit that is told is the first fault
  misfit : (x : Design) → Reads (texts kind.Design) x → IsFirstFault x (Misfits (misfits.A1 (codes "a")))
      → (backgrounds (codes "d")).Refuses texts (background.Rule (rule.A1 (codes "a")))
  misfit x r f = record { design = x; reads = r; refused = f }

  no_misfit : ((x : Design) → Reads (texts kind.Design) x → IsFirstFault x (Misfits (misfits.A1 (codes "a"))) → ⊥)
      → (backgrounds (codes "d")).Refuses texts (background.Rule (rule.A1 (codes "a"))) → ⊥
  no_misfit never h = never h.design h.reads h.refused

  broken : (x : Design) → Reads (texts kind.Design) x → IsFirstFault x (Breaks V17Tick)
      → (backgrounds (codes "d")).Refuses texts (background.Broken told.V17Tick)
  broken x r f = record { design = x; reads = r; refused = f }

  not_broken : ((x : Design) → Reads (texts kind.Design) x → IsFirstFault x (Breaks V17Tick) → ⊥)
      → (backgrounds (codes "d")).Refuses texts (background.Broken told.V17Tick) → ⊥
  not_broken never h = never h.design h.reads h.refused

  -- want of memory is no rule
  memory_broken : (backgrounds (codes "d")).Refuses texts (background.Broken told.NoMemory) → ⊥
  memory_broken h = h.refused

  missed : (x : Design) (thread : Name) (m : rows.Miss) → Reads (texts kind.Design) x → IsMissedInBackground x thread m
      → (backgrounds (codes "d")).Refuses texts (background.Miss thread m)
  missed x thread m r h = record { design = x; reads = r; refused = h }

  not_missed : (thread : Name) (m : rows.Miss) → ((x : Design) → Reads (texts kind.Design) x → IsMissedInBackground x thread m → ⊥)
      → (backgrounds (codes "d")).Refuses texts (background.Miss thread m) → ⊥
  not_missed thread m never h = never h.design h.reads h.refused

  too_long : (x : Design) → Reads (texts kind.Design) x → IsLongInBackground x → (backgrounds (codes "d")).Refuses texts background.Long
  too_long x r h = record { design = x; reads = r; refused = h }

  not_long : ((x : Design) → Reads (texts kind.Design) x → IsLongInBackground x → ⊥) → (backgrounds (codes "d")).Refuses texts background.Long → ⊥
  not_long never h = never h.design h.reads h.refused

  -- it never stops
  no_stop : (made : List ℕ) (stop : (backgrounds (codes "d")).Stop) → (backgrounds (codes "d")).Stops texts made stop → ⊥
  no_stop made stop h = h

-- bytes that no design reads as are refused for their text alone
refused_unread : (bytes : List ℕ) (r : delivery.BackgroundRefusal) → ((x : Design) → Reads bytes x → ⊥) → RefusesRead bytes r → ⊥
refused_unread bytes r never h = never h.design h.reads

-- THE LINES
abbrev op : OpName
op = record { object = codes "b"; op = codes "c" }

misfit_lines : map misfit_line (rule.A1 (codes "a") ∷ rule.A2 (codes "a") op ∷ rule.A3 (codes "a") ∷ rule.A4 (codes "a") op ∷ rule.A5 (codes "a")
    ∷ rule.A6 (codes "a") (codes "s") ∷ [])
    ≡ codes "refused A1 a\n" ∷ codes "refused A2 a b.c\n" ∷ codes "refused A3 a\n" ∷ codes "refused A4 a b.c\n" ∷ codes "refused A5 a\n"
    ∷ codes "refused A6 a s\n" ∷ []
misfit_lines = refl

text_told : (f : TextFault) → (backgrounds (codes "d")).line (background.Text f) ≡ text_line kind.Design f
text_told f = refl

misfit_told : (backgrounds (codes "d")).line (background.Rule (rule.A3 (codes "a"))) ≡ misfit_line (rule.A3 (codes "a"))
misfit_told = refl

rule_told : (backgrounds (codes "d")).line (background.Broken told.V17Tick) ≡ rule_line told.V17Tick
rule_told = refl

miss_told : (thread : Name) (m : rows.Miss) → (backgrounds (codes "d")).line (background.Miss thread m) ≡ miss_line thread m
miss_told thread m = refl

long_told : (backgrounds (codes "d")).line background.Long ≡ codes "refused S3 text\n"
long_told = refl

-- A FILE WITHOUT A BYTE
not_made : (made : List ℕ) → (backgrounds (codes "d")).Makes empty made → ⊥
not_made made h = no_design h.design h.reads

cannot : (backgrounds (codes "d")).CanDo empty → ⊥
cannot h = no_design h.design h.reads

-- A RIGHT TRACE
module _ (design text arrivals written : List ℕ) where
  right_trace : (x : Design) (v : List Bound) (p : Program) (r : Arrivals) (told : List Event) → Reads design x → IsBackgroundDesign x
      → IsLeastVector (hard_rows (in_ticks x)) v → Accepts text p → Arrives horizon_limit arrivals p r → Meaning p r told → written ≡ lines p told
      → Exclusive told → PermitsBackground (in_ticks x) v (named_arrivals p r) (named p told) → IsRightBackgroundTrace design text arrivals written
  right_trace x v p r told a b c d e f g h i = record {
    of = x;
    reads = a;
    passes = b;
    bounds = v;
    least = c;
    program = p;
    accepts = d;
    under = r;
    arrives = e;
    told = told;
    means = f;
    whole = g;
    exclusive = h;
    permitted = i;
  }

  of_no_design : ((x : Design) → Reads design x → ⊥) → IsRightBackgroundTrace design text arrivals written → ⊥
  of_no_design never h = never h.of h.reads

  trace_of_misfits : ((x : Design) → Reads design x → IsBackgroundDesign x → ⊥) → IsRightBackgroundTrace design text arrivals written → ⊥
  trace_of_misfits never h = never h.of h.reads h.passes

  within_others : ((x : Design) (v : List Bound) → Reads design x → IsLeastVector (hard_rows (in_ticks x)) v → ⊥)
      → IsRightBackgroundTrace design text arrivals written → ⊥
  within_others never h = never h.of h.bounds h.reads h.least

  of_no_program : ((p : Program) → Accepts text p → ⊥) → IsRightBackgroundTrace design text arrivals written → ⊥
  of_no_program never h = never h.program h.accepts

  of_no_arrivals : ((p : Program) (r : Arrivals) → Accepts text p → Arrives horizon_limit arrivals p r → ⊥)
      → IsRightBackgroundTrace design text arrivals written → ⊥
  of_no_arrivals never h = never h.program h.under h.accepts h.arrives

  not_meant : ((p : Program) (r : Arrivals) (told : List Event) → Accepts text p → Arrives horizon_limit arrivals p r → Meaning p r told
      → written ≡ lines p told → ⊥) → IsRightBackgroundTrace design text arrivals written → ⊥
  not_meant never h = never h.program h.under h.told h.accepts h.arrives h.means h.whole

  shared : ((p : Program) (told : List Event) → Accepts text p → written ≡ lines p told → Exclusive told → ⊥)
      → IsRightBackgroundTrace design text arrivals written → ⊥
  shared never h = never h.program h.told h.accepts h.whole h.exclusive

  not_permitted : ((x : Design) (v : List Bound) (p : Program) (r : Arrivals) (told : List Event) → Reads design x
      → PermitsBackground (in_ticks x) v (named_arrivals p r) (named p told) → ⊥) → IsRightBackgroundTrace design text arrivals written → ⊥
  not_permitted never h = never h.of h.bounds h.program h.under h.told h.reads h.permitted

-- A RIGHT REPLAY
right : (text written : List ℕ) → IsRightBackgroundTrace (codes "ab") text (codes "c") written
    → IsRightBackgroundReplay (shelf (codes "ab") [] []) (shelf [] (codes "c") []) (codes "d") (codes "rr") text written
right text written r = record { design = codes "ab"; arrivals = codes "c"; design_file = refl; arrivals_file = refl; right = r }

no_design_file : (d r text written : List ℕ) → IsRightBackgroundReplay (bare []) (shelf [] (codes "c") []) d r text written → ⊥
no_design_file d r text written h = absurd (cc h.design_file)

no_arrivals_file : (d r text written : List ℕ) → IsRightBackgroundReplay (shelf [] (codes "c") []) (bare []) d r text written → ⊥
no_arrivals_file d r text written h = absurd (cc h.arrivals_file)

not_right : (d r text written : List ℕ) → ((design arrivals : List ℕ) → IsRightBackgroundTrace design text arrivals written → ⊥)
    → IsRightBackgroundReplay (shelf (codes "ab") [] []) (shelf [] (codes "c") []) d r text written → ⊥
not_right d r text written never h = never h.design h.arrivals h.right
