-- That the verb `check` refuses a design for one reason, and none that meets the rules.
use Rattle.std.proofs.Common.{◌≡◌, ℕ, List, ap, sym, ◌∙◌}
use Rattle.ods_tree.specs.Designs as designs
use Rattle.ods_tree.specs.Ticks.{in_ticks}
use Rattle.hrthood_top.specs.Checks.{IsTaken, CanCheck, of_check, taken_line}
use Rattle.bridge.specs.Taking.{IsTakenAs}
use Rattle.hrthood_top.proofs.OneDesign.{one-design, not-untaken, one-untaken}
use Rattle.hrthood_top.proofs.VerbLaws.{IsExactOf}

-- a design that is taken is read and meets the rules
pub taken-as : (bytes line : List ℕ) (x : designs.Design) → IsTakenAs bytes x → line ≡ taken_line x → IsTaken bytes line
taken-as bytes line x w e = record { design = w.design; reads = w.reads; meets = w.meets; line_is = e ∙ ap taken_line w.ticked }

can_make : (bytes made : List ℕ) → IsTaken bytes made → CanCheck bytes
can_make bytes made w = record { design = w.design; reads = w.reads; meets = w.meets }

one_line : (bytes x y : List ℕ) → IsTaken bytes x → IsTaken bytes y → x ≡ y
one_line bytes x y w k = w.line_is ∙ ap (λ z. taken_line (in_ticks z)) (one-design bytes w.design k.design w.reads k.reads) ∙ sym k.line_is

pub checks-exact : IsExactOf of_check
checks-exact = record {
  able = λ bytes w r h. not-untaken bytes w.design r w.reads w.meets h;
  one = one-untaken;
  made = can_make;
  text = one_line;
}

pub ruleset check_laws = (taken-as)
