-- That the verb `analyse` refuses a design for the reasons of `generate`, and none of which an Ada text can be made.
use Rattle.std.proofs.Common.{◌≡◌, ℕ, List, sym, ap, ◌∙◌}
use Rattle.ods_tree.specs.Designs as designs
use Rattle.ods_tree.specs.Flattening.{flat}
use Rattle.ods_tree.specs.Ticks.{in_ticks, first_priority}
use Rattle.bridge.specs.Delivers.{IsDelivered}
use Rattle.bridge.specs.declared.delivery.Delivery.{Delivery}
use Rattle.rt_response.specs.declared.rows.Bound.{Bound}
use Rattle.design_bounds.specs.Rows.{named_bounds, ceiling_rows}
use Rattle.hrthood_top.specs.Analyses.{IsAnalysed, of_analyse, report}
use Rattle.hrthood_top.proofs.GenerateLaws.{can_make, can_or_refuses, one_refusal, same-text}
use Rattle.hrthood_top.proofs.VerbLaws.{IsExactOf}

-- the lines of what was delivered
pub analysed_as : (bytes lines : List ℕ) (d : Delivery) → IsDelivered bytes d → lines ≡ report d.bounds.items d.ceilings.items
    → IsAnalysed bytes lines
analysed_as bytes lines d w e =
    let x = w.whole.design in
    record {
      text = d.text.items;
      made = w.whole;
      told = e ∙ ap (λ ns. report ns d.ceilings.items) w.named
          ∙ ap (report (named_bounds (first_priority x) (flat (in_ticks x)) w.whole.bounds)) w.ceilings;
    }

-- the lines of a design with bounds
abbrev lines_of : designs.Design → List Bound → List ℕ
lines_of x v = report (named_bounds (first_priority x) (flat (in_ticks x)) v) (ceiling_rows (first_priority x) (flat (in_ticks x)))

one_report : (bytes x y : List ℕ) → IsAnalysed bytes x → IsAnalysed bytes y → x ≡ y
one_report bytes x y w k =
    let same = same-text bytes w.text k.text w.made k.made in
    w.told ∙ ap (λ z. lines_of z w.made.bounds) same.designs ∙ ap (lines_of k.made.design) same.bounds ∙ sym k.told

pub analyses-exact : IsExactOf of_analyse
analyses-exact = record {
  able = can_or_refuses;
  one = one_refusal;
  made = λ bytes lines w. can_make bytes w.text w.made;
  text = one_report;
}
