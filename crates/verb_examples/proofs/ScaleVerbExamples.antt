-- Examples: `scale` as a verb: what it makes of a design, when it can be done, why it is refused, and the lines of both. Each definition holds of
-- all its parts, and without one of them it doesn't.
use Rattle.std.specs.Prelude.{◌≡◌, ℕ, List, [], ◌∷◌, ◌++◌, decimal, Some, None, codes, refl}
use Rattle.seq_tree.specs.Names.{Name}
use Rattle.ods_tree.specs.Designs.{Design}
use Rattle.ods_tree.specs.Flattening.{flat}
use Rattle.ods_tree.specs.Reading.{Reads}
use Rattle.ods_tree.specs.Ticks.{in_ticks}
use Rattle.design_rules.specs.Rules.{MeetsRules}
use Rattle.rt_response.specs.declared.rows.Miss as rows
use Rattle.bridge.specs.Taking.{RefusesTaking}
use Rattle.bridge.specs.declared.taking.Untaken.{Untaken}
use Rattle.law_scaling.specs.Holding.{Holds}
use Rattle.scaling.specs.Margins.{IsMargin, HasNoMargin}
use Rattle.scaling.specs.declared.margin.Margin.{Margin}
use Rattle.scaling.specs.declared.margin.Next.TheVariants as next
use Rattle.hrthood_top.specs.declared.file_kind.FileKind.TheVariants as kind
use Rattle.hrthood_top.specs.declared.scale.ScaleRefusal.TheVariants as refusal
use Rattle.hrthood_top.specs.Checks.{check_line}
use Rattle.hrthood_top.specs.Files.{Texts}
use Rattle.hrthood_top.specs.Messages.{miss_line, miss_text}
use Rattle.hrthood_top.specs.Scales.{next_line, margin_lines, IsScaled, HoldsNowhere, RefusesScale, scale_line, CanScale, scales}
use Rattle.verb_examples.proofs.EmptyExamples.{empty, no_design}

-- THE VERB
files : (scales (codes "d")).files ≡ record { kind = kind.Design; name = codes "d" } ∷ []
files = refl

-- A MARGIN
module _ (bytes lines : List ℕ) where
  scaled : (x : Design) (m : Margin) → Reads bytes x → MeetsRules x → IsMargin (flat (in_ticks x)) m → Holds (flat (in_ticks x)) 1
      → lines ≡ margin_lines m → IsScaled bytes lines
  scaled x m r k i h t = record { design = x; reads = r; meets = k; margin = m; right = i; holds = h; told = t }

  unread : ((x : Design) → Reads bytes x → ⊥) → IsScaled bytes lines → ⊥
  unread never h = never h.design h.reads

  against_a_rule : ((x : Design) → Reads bytes x → MeetsRules x → ⊥) → IsScaled bytes lines → ⊥
  against_a_rule never h = never h.design h.reads h.meets

  other_margin : ((x : Design) (m : Margin) → Reads bytes x → IsMargin (flat (in_ticks x)) m → ⊥) → IsScaled bytes lines → ⊥
  other_margin never h = never h.design h.margin h.reads h.right

  holds_nowhere : ((x : Design) → Reads bytes x → Holds (flat (in_ticks x)) 1 → ⊥) → IsScaled bytes lines → ⊥
  holds_nowhere never h = never h.design h.reads h.holds

  other_lines : ((x : Design) (m : Margin) → Reads bytes x → IsMargin (flat (in_ticks x)) m → lines ≡ margin_lines m → ⊥) → IsScaled bytes lines → ⊥
  other_lines never h = never h.design h.margin h.reads h.right h.told

module _ (bytes : List ℕ) where
  can : (x : Design) → Reads bytes x → MeetsRules x → Holds (flat (in_ticks x)) 1 → CanScale bytes
  can x r k h = record { design = x; reads = r; meets = k; holds = h }

  cannot_read : ((x : Design) → Reads bytes x → ⊥) → CanScale bytes → ⊥
  cannot_read never h = never h.design h.reads

  cannot_meet : ((x : Design) → Reads bytes x → MeetsRules x → ⊥) → CanScale bytes → ⊥
  cannot_meet never h = never h.design h.reads h.meets

  cannot_hold : ((x : Design) → Reads bytes x → Holds (flat (in_ticks x)) 1 → ⊥) → CanScale bytes → ⊥
  cannot_hold never h = never h.design h.reads h.holds

-- WHY THERE IS NONE
module _ (texts : Texts) (n : Name) (m : rows.Miss) where
  untaken : (c : Untaken) → RefusesTaking (texts kind.Design) c → (scales (codes "d")).Refuses texts (refusal.Untaken c)
  untaken c h = h

  taken : (c : Untaken) → ¬ RefusesTaking (texts kind.Design) c → (scales (codes "d")).Refuses texts (refusal.Untaken c) → ⊥
  taken c never h = never h

  missed : (x : Design) → Reads (texts kind.Design) x → MeetsRules x → HasNoMargin (flat (in_ticks x)) (next.Miss n m)
      → (scales (codes "d")).Refuses texts (refusal.Miss n m)
  missed x r k w = record { design = x; reads = r; meets = k; without = w }

  missed_unread : ((x : Design) → Reads (texts kind.Design) x → ⊥) → (scales (codes "d")).Refuses texts (refusal.Miss n m) → ⊥
  missed_unread never h = never h.design h.reads

  missed_rule : ((x : Design) → Reads (texts kind.Design) x → MeetsRules x → ⊥) → (scales (codes "d")).Refuses texts (refusal.Miss n m) → ⊥
  missed_rule never h = never h.design h.reads h.meets

  some_margin : ((x : Design) → Reads (texts kind.Design) x → HasNoMargin (flat (in_ticks x)) (next.Miss n m) → ⊥)
      → (scales (codes "d")).Refuses texts (refusal.Miss n m) → ⊥
  some_margin never h = never h.design h.reads h.without

-- THE LINES
limit_line : next_line next.Limit ≡ codes "next limit\n"
limit_line = refl

body_line : next_line (next.Cost (codes "p") (Some (codes "f"))) ≡ codes "next cost p f\n"
body_line = refl

thread_line : next_line (next.Cost (codes "a") None) ≡ codes "next cost a thread\n"
thread_line = refl

lines_told : (k : ℕ) → margin_lines (record { per_mille = k; next = next.Limit }) ≡ codes "scale " ++ (decimal k ++ codes "\nnext limit\n")
lines_told k = refl

module _ (n : Name) (m : rows.Miss) where
  miss_next : next_line (next.Miss n m) ≡ codes "next " ++ miss_text n m
  miss_next = refl

  miss_told : scale_line (refusal.Miss n m) ≡ miss_line n m
  miss_told = refl

check_told : (c : Untaken) → (scales (codes "d")).line (refusal.Untaken c) ≡ check_line c
check_told c = refl

-- A FILE WITHOUT A BYTE
not_made : (lines : List ℕ) → (scales (codes "d")).Makes empty lines → ⊥
not_made lines h = no_design h.design h.reads

cannot : (scales (codes "d")).CanDo empty → ⊥
cannot h = no_design h.design h.reads
