-- That the verb `format` refuses a text for one reason, and none that reads as a design.
use Rattle.std.proofs.Common.{◌≡◌, ℕ, ◌≤◌, List, length, subst, sym, ap, ◌∙◌}
use Rattle.seq_tree.specs.Limits.{text_limit}
use Rattle.ods_tree.specs.Designs as designs
use Rattle.ods_tree.specs.Layout.{design_text}
use Rattle.ods_tree.specs.Reading.{Reads}
use Rattle.ods_print.proofs.Shared.Again.{reads-again}
use Rattle.hrthood_top.specs.declared.format.FormatRefusal.{FormatRefusal}
use Rattle.hrthood_top.specs.declared.format.FormatRefusal.TheVariants.{Text}
use Rattle.hrthood_top.specs.Formats.{IsFormatted, RefusesFormat, of_format}
use Rattle.hrthood_top.proofs.OneDesign.{one-design, no-fault, one-fault}
use Rattle.hrthood_top.proofs.VerbLaws.{IsExactOf}

-- what is printed of a design that was read
pub formatted : (bytes text : List ℕ) (x : designs.Design) → Reads bytes x → text ≡ design_text x → IsFormatted bytes text
formatted bytes text x reads e = record {
  design = x;
  reads = reads;
  text_is = e;
  again = λ within. subst (λ z. Reads z x) (sym e) (reads-again bytes x reads (subst (λ z. length z ≤ text_limit) e within));
}

can_or_refuses : (bytes : List ℕ) (x : designs.Design) → Reads bytes x → (r : FormatRefusal) → RefusesFormat bytes r → ⊥
can_or_refuses bytes x reads (Text found) h = no-fault bytes x found reads h

one_refusal : (bytes : List ℕ) (r q : FormatRefusal) → RefusesFormat bytes r → RefusesFormat bytes q → r ≡ q
one_refusal bytes (Text f) (Text g) h k = ap Text (one-fault bytes f g h k)

pub formats-exact : IsExactOf of_format
formats-exact = record {
  able = λ bytes w r h. can_or_refuses bytes w.0 w.1 r h;
  one = one_refusal;
  made = λ bytes text w. (w.design, w.reads);
  text = λ bytes x y w k. w.text_is ∙ ap design_text (one-design bytes w.design k.design w.reads k.reads) ∙ sym k.text_is;
}
