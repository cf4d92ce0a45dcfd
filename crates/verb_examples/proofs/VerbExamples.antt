-- Examples: what `check`, `analyse`, `format` and `generate` make of a design, and why they refuse it. Each definition holds of all its parts,
-- and without one of them it doesn't.
use Rattle.std.specs.Prelude.{◌≡◌, ℕ, ◌≤◌, ◌<◌, List, [], ◌∷◌, ◌++◌, length, Some, codes, decimal, refl}
use Rattle.std.proofs.Common.{arith}
use Rattle.seq_tree.specs.Names.{Name}
use Rattle.seq_tree.specs.declared.text_fault.TextFault.{TextFault}
use Rattle.ods_tree.specs.Designs.{Design}
use Rattle.ods_tree.specs.Flattening.{flat}
use Rattle.ods_tree.specs.Layout.{design_text}
use Rattle.ods_tree.specs.Ticks.{in_ticks, first_priority}
use Rattle.ods_tree.specs.Reading.{Reads}
use Rattle.ods_tree.proofs.Shared.Short.{design, group}
use Rattle.ods_read.specs.Answers.{Faults}
use Rattle.design_rules.specs.Rules.{MeetsRules, IsFirstBroken}
use Rattle.design_rules.specs.Broken.{V17Tick}
use Rattle.ods_index.specs.declared.broken.Broken.TheVariants as told
use Rattle.rt_response.specs.Response.{IsLeastVector}
use Rattle.rt_response.specs.declared.rows.Bound.{Bound}
use Rattle.rt_response.specs.declared.rows.Miss as rows
use Rattle.analysis.specs.Tables.{table}
use Rattle.guarantee.specs.Programs.{text}
use Rattle.trace_text.specs.declared.bound.NamedBound.{NamedBound}
use Rattle.design_bounds.specs.Rows.{named_bounds, ceiling_rows}
use Rattle.design_bounds.specs.declared.rows.CeilingRow.{CeilingRow}
use Rattle.bridge.specs.Delivers.{IsTextFor, HasNoBounds, HasLongText}
use Rattle.bridge.specs.Taking.{BreaksRule}
use Rattle.hrthood_top.specs.declared.file_kind.FileKind.TheVariants as kind
use Rattle.bridge.specs.declared.taking.Untaken.TheVariants as check
use Rattle.hrthood_top.specs.declared.format.FormatRefusal.TheVariants as format
use Rattle.hrthood_top.specs.declared.generate.GenerateRefusal.TheVariants as generate
use Rattle.hrthood_top.specs.Files.{File, Texts}
use Rattle.hrthood_top.specs.Messages.{text_line, rule_line, miss_line}
use Rattle.hrthood_top.specs.Checks.{taken_line, checks}
use Rattle.hrthood_top.specs.Analyses.{bound_line, ceiling_line, report, analyses}
use Rattle.hrthood_top.specs.Formats.{formats}
use Rattle.hrthood_top.specs.Generates.{generates}

-- one file, with a design
abbrev design_file : File
design_file = record { kind = kind.Design; name = codes "d" }

module _ (texts : Texts) where
  -- CHECK
  check_files : (checks (codes "d")).files ≡ design_file ∷ []
  check_files = refl

  -- two objects inside an active one, and no thread
  check_line : taken_line (design (group (codes "r") (group (codes "a") [] ∷ group (codes "b") [] ∷ [])))
      ≡ codes "ok " ++ ((design (group (codes "r") [])).name
      ++ (codes " objects " ++ (decimal 3 ++ (codes " threads " ++ (decimal 0 ++ codes "\n")))))
  check_line = refl

  taken : (x : Design) (line : List ℕ) → Reads (texts kind.Design) x → MeetsRules x → line ≡ taken_line (in_ticks x)
      → (checks (codes "d")).Makes texts line
  taken x line r m e = record { design = x; reads = r; meets = m; line_is = e }

  unread_taken : (line : List ℕ) → ((x : Design) → Reads (texts kind.Design) x → ⊥) → (checks (codes "d")).Makes texts line → ⊥
  unread_taken line never h = never h.design h.reads

  broken_taken : (line : List ℕ) → ((x : Design) → Reads (texts kind.Design) x → MeetsRules x → ⊥) → (checks (codes "d")).Makes texts line → ⊥
  broken_taken line never h = never h.design h.reads h.meets

  -- another line
  line_taken : (line : List ℕ) → ((x : Design) → Reads (texts kind.Design) x → line ≡ taken_line (in_ticks x) → ⊥)
      → (checks (codes "d")).Makes texts line → ⊥
  line_taken line never h = never h.design h.reads h.line_is

  check_text : (f : TextFault) → Faults (texts kind.Design) f → (checks (codes "d")).Refuses texts (check.Text f)
  check_text f h = h

  no_check_text : (f : TextFault) → ¬ Faults (texts kind.Design) f → (checks (codes "d")).Refuses texts (check.Text f) → ⊥
  no_check_text f never h = never h

  check_rule : (x : Design) → Reads (texts kind.Design) x → IsFirstBroken x V17Tick → (checks (codes "d")).Refuses texts (check.Rule told.V17Tick)
  check_rule x r b = record { design = x; reads = r; broken = b }

  no_check_rule : ¬ BreaksRule (texts kind.Design) (Some V17Tick) → (checks (codes "d")).Refuses texts (check.Rule told.V17Tick) → ⊥
  no_check_rule never h = never h

  check_text_line : (f : TextFault) → (checks (codes "d")).line (check.Text f) ≡ text_line kind.Design f
  check_text_line f = refl

  check_rule_line : (checks (codes "d")).line (check.Rule told.V17Tick) ≡ rule_line told.V17Tick
  check_rule_line = refl

  can_check : (x : Design) → Reads (texts kind.Design) x → MeetsRules x → (checks (codes "d")).CanDo texts
  can_check x r m = record { design = x; reads = r; meets = m }

  unread_check : ((x : Design) → Reads (texts kind.Design) x → ⊥) → (checks (codes "d")).CanDo texts → ⊥
  unread_check never h = never h.design h.reads

  broken_check : ((x : Design) → Reads (texts kind.Design) x → MeetsRules x → ⊥) → (checks (codes "d")).CanDo texts → ⊥
  broken_check never h = never h.design h.reads h.meets

  check_stop : (made : List ℕ) (stop : (checks (codes "d")).Stop) → ⊥
  check_stop made stop = stop

  -- ANALYSE
  analyse_files : (analyses (codes "d")).files ≡ design_file ∷ []
  analyse_files = refl

  analysed : (t : List ℕ) (made : IsTextFor (texts kind.Design) t) (lines : List ℕ)
      → lines ≡ report (named_bounds (first_priority made.design) (flat (in_ticks made.design)) made.bounds)
      (ceiling_rows (first_priority made.design) (flat (in_ticks made.design)))
      → (analyses (codes "d")).Makes texts lines
  analysed t made lines e = record { text = t; made = made; told = e }

  without_text : (lines : List ℕ) → ((t : List ℕ) → IsTextFor (texts kind.Design) t → ⊥) → (analyses (codes "d")).Makes texts lines → ⊥
  without_text lines never h = never h.text h.made

  other_report : (lines : List ℕ) → ((t : List ℕ) (made : IsTextFor (texts kind.Design) t)
      → lines ≡ report (named_bounds (first_priority made.design) (flat (in_ticks made.design)) made.bounds)
      (ceiling_rows (first_priority made.design) (flat (in_ticks made.design))) → ⊥)
      → (analyses (codes "d")).Makes texts lines → ⊥
  other_report lines never h = never h.text h.made h.told

  -- it is refused, and can be done, as `generate`
  analyse_refuses : (r : generate.the_data) → (analyses (codes "d")).Refuses texts r ≡ (generates (codes "d")).Refuses texts r
  analyse_refuses r = refl

  analyse_line : (r : generate.the_data) → (analyses (codes "d")).line r ≡ (generates (codes "d")).line r
  analyse_line r = refl

  analyse_can : (analyses (codes "d")).CanDo texts ≡ (generates (codes "d")).CanDo texts
  analyse_can = refl

  analyse_stop : (stop : (analyses (codes "d")).Stop) → ⊥
  analyse_stop stop = stop

  -- FORMAT
  format_files : (formats (codes "d")).files ≡ design_file ∷ []
  format_files = refl

  formatted : (x : Design) (made : List ℕ) → Reads (texts kind.Design) x → made ≡ design_text x → (length made ≤ 1048576 → Reads made x)
      → (formats (codes "d")).Makes texts made
  formatted x made r e a = record { design = x; reads = r; text_is = e; again = a }

  unread_formatted : (made : List ℕ) → ((x : Design) → Reads (texts kind.Design) x → ⊥) → (formats (codes "d")).Makes texts made → ⊥
  unread_formatted made never h = never h.design h.reads

  other_formatted : (made : List ℕ) → ((x : Design) → Reads (texts kind.Design) x → made ≡ design_text x → ⊥)
      → (formats (codes "d")).Makes texts made → ⊥
  other_formatted made never h = never h.design h.reads h.text_is

  -- a text within the limit that doesn't read as the same design
  not_again : (made : List ℕ) → length made ≤ 1048576 → ((x : Design) → Reads (texts kind.Design) x → Reads made x → ⊥)
      → (formats (codes "d")).Makes texts made → ⊥
  not_again made short never h = never h.design h.reads (h.again short)

  format_text : (f : TextFault) → Faults (texts kind.Design) f → (formats (codes "d")).Refuses texts (format.Text f)
  format_text f h = h

  no_format_text : (f : TextFault) → ¬ Faults (texts kind.Design) f → (formats (codes "d")).Refuses texts (format.Text f) → ⊥
  no_format_text f never h = never h

  format_line : (f : TextFault) → (formats (codes "d")).line (format.Text f) ≡ text_line kind.Design f
  format_line f = refl

  can_format : (x : Design) → Reads (texts kind.Design) x → (formats (codes "d")).CanDo texts
  can_format x r = (x, r)

  unread_format : ((x : Design) → Reads (texts kind.Design) x → ⊥) → (formats (codes "d")).CanDo texts → ⊥
  unread_format never h = never h.0 h.1

  format_stop : (stop : (formats (codes "d")).Stop) → ⊥
  format_stop stop = stop

  -- GENERATE
  generate_files : (generates (codes "d")).files ≡ design_file ∷ []
  generate_files = refl

  generated : (t : List ℕ) → IsTextFor (texts kind.Design) t → (generates (codes "d")).Makes texts t
  generated t h = h

  not_generated : (t : List ℕ) → ¬ IsTextFor (texts kind.Design) t → (generates (codes "d")).Makes texts t → ⊥
  not_generated t never h = never h

  generate_text : (f : TextFault) → Faults (texts kind.Design) f → (generates (codes "d")).Refuses texts (generate.Untaken (check.Text f))
  generate_text f h = h

  no_generate_text : (f : TextFault) → ¬ Faults (texts kind.Design) f → (generates (codes "d")).Refuses texts (generate.Untaken (check.Text f)) → ⊥
  no_generate_text f never h = never h

  generate_rule : (x : Design) → Reads (texts kind.Design) x → IsFirstBroken x V17Tick
      → (generates (codes "d")).Refuses texts (generate.Untaken (check.Rule told.V17Tick))
  generate_rule x r b = record { design = x; reads = r; broken = b }

  no_generate_rule : ¬ BreaksRule (texts kind.Design) (Some V17Tick) → (generates (codes "d")).Refuses texts (generate.Untaken (check.Rule told.V17Tick)) → ⊥
  no_generate_rule never h = never h

  generate_miss : (thread : Name) (m : rows.Miss) → HasNoBounds (texts kind.Design) thread m
      → (generates (codes "d")).Refuses texts (generate.Miss thread m)
  generate_miss thread m h = h

  no_generate_miss : (thread : Name) (m : rows.Miss) → ¬ HasNoBounds (texts kind.Design) thread m
      → (generates (codes "d")).Refuses texts (generate.Miss thread m) → ⊥
  no_generate_miss thread m never h = never h

  generate_long : HasLongText (texts kind.Design) → (generates (codes "d")).Refuses texts generate.Long
  generate_long h = h

  no_generate_long : ¬ HasLongText (texts kind.Design) → (generates (codes "d")).Refuses texts generate.Long → ⊥
  no_generate_long never h = never h

  generate_text_line : (f : TextFault) → (generates (codes "d")).line (generate.Untaken (check.Text f)) ≡ text_line kind.Design f
  generate_text_line f = refl

  generate_rule_line : (generates (codes "d")).line (generate.Untaken (check.Rule told.V17Tick)) ≡ rule_line told.V17Tick
  generate_rule_line = refl

  generate_miss_line : (thread : Name) (m : rows.Miss) → (generates (codes "d")).line (generate.Miss thread m) ≡ miss_line thread m
  generate_miss_line thread m = refl

  generate_long_line : (generates (codes "d")).line generate.Long ≡ codes "refused S3 text\n"
  generate_long_line = refl

  can_generate : (x : Design) (v : List Bound) → Reads (texts kind.Design) x → MeetsRules x → IsLeastVector (table (flat (in_ticks x))).rows v
      → length (text (in_ticks x) v) ≤ 16777216 → (generates (codes "d")).CanDo texts
  can_generate x v r m l s = record { design = x; reads = r; meets = m; bounds = v; least = l; short = s }

  unread_generate : ((x : Design) → Reads (texts kind.Design) x → ⊥) → (generates (codes "d")).CanDo texts → ⊥
  unread_generate never h = never h.design h.reads

  broken_generate : ((x : Design) → Reads (texts kind.Design) x → MeetsRules x → ⊥) → (generates (codes "d")).CanDo texts → ⊥
  broken_generate never h = never h.design h.reads h.meets

  boundless_generate : ((x : Design) (v : List Bound) → Reads (texts kind.Design) x → IsLeastVector (table (flat (in_ticks x))).rows v → ⊥)
      → (generates (codes "d")).CanDo texts → ⊥
  boundless_generate never h = never h.design h.bounds h.reads h.least

  long_generate : ((x : Design) (v : List Bound) → Reads (texts kind.Design) x → 16777216 < length (text (in_ticks x) v))
      → (generates (codes "d")).CanDo texts → ⊥
  long_generate long h = omega (arith, h.short, long h.design h.bounds h.reads)

  generate_stop : (stop : (generates (codes "d")).Stop) → ⊥
  generate_stop stop = stop

-- THE LINES OF A REPORT
abbrev bound : NamedBound
bound = record { name = codes "a"; priority = 1; period = 2; deadline = 3; jitter = 4; cost = 5; block = 6; response = 7 }

abbrev ceiling : CeilingRow
ceiling = record { name = codes "q"; ceiling = 8 }

told_bound : bound_line bound
    ≡ codes "thread " ++ (codes "a"
    ++ (((codes " priority " ++ decimal 1) ++ ((codes " period " ++ decimal 2) ++ (codes " deadline " ++ decimal 3)))
    ++ (((codes " jitter " ++ decimal 4)
    ++ ((codes " cost " ++ decimal 5) ++ ((codes " blocking " ++ decimal 6) ++ (codes " response " ++ decimal 7))))
    ++ codes "\n")))
told_bound = refl

told_ceiling : ceiling_line ceiling ≡ codes "ceiling " ++ (codes "q" ++ ((codes " " ++ decimal 8) ++ codes "\n"))
told_ceiling = refl

-- bounds, and then ceilings, one behind the other
told_all : report (bound ∷ bound ∷ []) (ceiling ∷ [])
    ≡ (bound_line bound ++ (bound_line bound ++ [])) ++ (ceiling_line ceiling ++ [])
told_all = refl
