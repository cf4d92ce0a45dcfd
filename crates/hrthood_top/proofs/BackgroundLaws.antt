-- That the verb `background` refuses a design for one reason, and none that it can be done of.
use Rattle.std.proofs.Common.{◌≡◌, ℕ, ◌≤◌, List, length, Option, Some, None, refl, ap, subst, sym, ◌∙◌, arith}
use Rattle.ods_tree.specs.Designs as designs
use Rattle.ods_tree.specs.Reading.{Reads}
use Rattle.ods_tree.specs.Spelling.{design_tokens}
use Rattle.seq_print.proofs.Shared.TokenForms.{tokens-readable}
use Rattle.ods_tree.specs.Ticks.{in_ticks}
use Rattle.ods_index.specs.Told.{told_of}
use Rattle.ods_index.specs.declared.broken.Broken as code
use Rattle.design_rules.specs.Broken as rules
use Rattle.rt_response.specs.declared.rows.Bound.{Bound}
use Rattle.rt_response.specs.declared.rows.Miss as rows
use Rattle.rt_response.specs.Response.{IsLeastVector}
use Rattle.seq_tree.specs.Limits.{ada_limit}
use Rattle.seq_tree.specs.Names.{Name}
use Rattle.background_designs.specs.Misfits as misfits
use Rattle.background_designs.specs.Programs.{background_text, hard_rows}
use Rattle.background_designs.specs.Refusals.{Breaks, Misfits, IsBackgroundDesign, IsFirstFault}
use Rattle.law_backgrounds.proofs.Shared.FirstFaults.{one_fault, no_fault}
use Rattle.background.specs.Told.{misfit_of}
use Rattle.background.specs.Rows.{hard_name}
use Rattle.background.specs.Delivers.{IsBackgroundOf, IsToldFirst, IsMissedInBackground, IsLongInBackground, IsRefusedInBackground}
use Rattle.background.specs.declared.delivery.Background.{Background}
use Rattle.background.specs.declared.delivery.BackgroundRefusal as delivery
use Rattle.background.specs.declared.delivery.BackgroundRefusal.TheVariants as delivered
use Rattle.background.specs.declared.delivery.BackgroundRule.{BackgroundRule}
use Rattle.background.specs.declared.delivery.BackgroundRule.TheVariants as rule
use Rattle.hrthood_top.specs.declared.background_text.BackgroundRefusal.{BackgroundRefusal}
use Rattle.hrthood_top.specs.declared.background_text.BackgroundRefusal.TheVariants.{Text, Rule, Broken, Miss, Long}
use Rattle.hrthood_top.specs.Backgrounds.{IsBackgroundTextFor, RefusesRead, RefusesBackground, CanBackground, of_background}
use Rattle.hrthood_top.proofs.OneDesign.{one-design, no-fault, one-fault}
use Rattle.law_backgrounds.proofs.Shared.FirstFaults.{one-at}
use Rattle.hrthood_top.proofs.OneRule.{one-miss, same-rule}
use Rattle.hrthood_top.proofs.GenerateLaws.{one_least}
use Rattle.hrthood_top.proofs.VerbLaws.{IsExactOf}

-- WHAT IS MADE

-- the text of a design that was read
pub text-read : (bytes : List ℕ) (x : designs.Design) (d : Background) → Reads bytes x → IsBackgroundOf x d → IsBackgroundTextFor bytes d.text.items
text-read bytes x d reads w = record {
  design = x;
  reads = reads;
  passes = w.passes;
  bounds = w.bounds;
  least = w.least;
  made = w.made;
  short = w.short;
  guaranteed = w.guaranteed (tokens-readable bytes (design_tokens x) reads.spelled);
}

-- the refusal of a design that was read
pub refusal-read : (bytes : List ℕ) (x : designs.Design) (r : delivery.BackgroundRefusal) → Reads bytes x → IsRefusedInBackground x r
    → RefusesRead bytes r
refusal-read bytes x r reads h = record { design = x; reads = reads; refused = h }

pub ruleset background_made = (text-read, refusal-read)

-- ONE CAUSE

-- the misfit of the code that is told so
abbrev rule_of : misfits.Misfit → BackgroundRule
rule_of (misfits.A1 object) = rule.A1 object
rule_of (misfits.A2 object target) = rule.A2 object target
rule_of (misfits.A3 object) = rule.A3 object
rule_of (misfits.A4 object target) = rule.A4 object target
rule_of (misfits.A5 object) = rule.A5 object
rule_of (misfits.A6 object target) = rule.A6 object target

rule_of-told : (r : BackgroundRule) → rule_of (misfit_of r) ≡ r
rule_of-told (rule.A1 object) = refl
rule_of-told (rule.A2 object target) = refl
rule_of-told (rule.A3 object) = refl
rule_of-told (rule.A4 object target) = refl
rule_of-told (rule.A5 object) = refl
rule_of-told (rule.A6 object target) = refl

misfits-same : (a b : misfits.Misfit) → Misfits a ≡ Misfits b → a ≡ b
misfits-same a b e = cc

breaks-same : (a b : rules.Broken) → Breaks a ≡ Breaks b → a ≡ b
breaks-same a b e = cc

not-both : (a : misfits.Misfit) (b : rules.Broken) → Misfits a ≡ Breaks b → ⊥
not-both a b e = cc

one-rule : (x : designs.Design) (a b : BackgroundRule) → IsFirstFault x (Misfits (misfit_of a)) → IsFirstFault x (Misfits (misfit_of b)) → a ≡ b
one-rule x a b h k =
    let same = misfits-same (misfit_of a) (misfit_of b) (one_fault x (Misfits (misfit_of a)) (Misfits (misfit_of b)) h k) in
    sym (rule_of-told a) ∙ (ap rule_of same ∙ rule_of-told b)

-- what is told first of the rules of designs
told-first : (x : designs.Design) (o : Option rules.Broken) → IsToldFirst x o → (t : rules.Broken) × (o ≡ Some t) × IsFirstFault x (Breaks t)
told-first x None h = absurd h
told-first x (Some t) h = (t, refl, h)

one-broken : (x : designs.Design) (a b : code.Broken) → IsToldFirst x (told_of a) → IsToldFirst x (told_of b) → a ≡ b
one-broken x a b h k =
    let t = told-first x (told_of a) h in
    let u = told-first x (told_of b) k in
    same-rule a b t.0 u.0 t.1 u.1 (breaks-same t.0 u.0 (one_fault x (Breaks t.0) (Breaks u.0) t.2 u.2))

rule-or-broken : (x : designs.Design) (a : BackgroundRule) (b : code.Broken) → IsFirstFault x (Misfits (misfit_of a)) → IsToldFirst x (told_of b) → ⊥
rule-or-broken x a b h k =
    let u = told-first x (told_of b) k in not-both (misfit_of a) u.0 (one_fault x (Misfits (misfit_of a)) (Breaks u.0) h u.2)

broken-or-passes : (x : designs.Design) (b : code.Broken) → IsToldFirst x (told_of b) → IsBackgroundDesign x → ⊥
broken-or-passes x b h passes = let u = told-first x (told_of b) h in no_fault x (Breaks u.0) u.2 passes

one-over : (x : designs.Design) (thread other : Name) (m n : rows.Miss) → IsMissedInBackground x thread m → IsMissedInBackground x other n
    → ◌≡◌ {A = BackgroundRefusal} (Miss thread m) (Miss other n)
one-over x thread other m n h k =
    let miss : m ≡ n = one-miss (hard_rows (in_ticks x)) m n h.first k.first in
    let called : hard_name (in_ticks x) n.index ≡ Some thread = ap (λ z. hard_name (in_ticks x) z.index) (sym miss) ∙ h.called in
    let name : thread ≡ other = one-at _ thread other called k.called in
    ap (λ z. Miss z m) name ∙ ap (λ z. Miss other z) miss

-- what refuses bytes refuses the design that they are
here : (bytes : List ℕ) (r q : delivery.BackgroundRefusal) (h : RefusesRead bytes r) (k : RefusesRead bytes q) → IsRefusedInBackground k.design r
here bytes r q h k =
    let P : designs.Design → Type 0 = λ z. IsRefusedInBackground z r in
    subst P (one-design bytes h.design k.design h.reads k.reads) h.refused

-- a design is refused for one reason
same-refusal : (bytes : List ℕ) (r q : BackgroundRefusal) → RefusesBackground bytes r → RefusesBackground bytes q → r ≡ q
same-refusal bytes (Text f) (Text g) h k = ap Text (one-fault bytes f g h k)
same-refusal bytes (Text f) (Rule a) h k = absurd (no-fault bytes k.design f k.reads h)
same-refusal bytes (Text f) (Broken a) h k = absurd (no-fault bytes k.design f k.reads h)
same-refusal bytes (Text f) (Miss thread miss) h k = absurd (no-fault bytes k.design f k.reads h)
same-refusal bytes (Text f) Long h k = absurd (no-fault bytes k.design f k.reads h)
same-refusal bytes (Rule a) (Text f) h k = absurd (no-fault bytes h.design f h.reads k)
same-refusal bytes (Broken a) (Text f) h k = absurd (no-fault bytes h.design f h.reads k)
same-refusal bytes (Miss thread miss) (Text f) h k = absurd (no-fault bytes h.design f h.reads k)
same-refusal bytes Long (Text f) h k = absurd (no-fault bytes h.design f h.reads k)
same-refusal bytes (Rule a) (Rule b) h k = ap Rule (one-rule k.design a b (here bytes (delivered.Rule a) (delivered.Rule b) h k) k.refused)
same-refusal bytes (Rule a) (Broken b) h k =
    absurd (rule-or-broken k.design a b (here bytes (delivered.Rule a) (delivered.Broken b) h k) k.refused)
same-refusal bytes (Broken a) (Rule b) h k =
    absurd (rule-or-broken k.design b a k.refused (here bytes (delivered.Broken a) (delivered.Rule b) h k))
same-refusal bytes (Rule a) (Miss thread miss) h k =
    absurd (no_fault k.design _ (here bytes (delivered.Rule a) (delivered.Miss thread miss) h k) k.refused.passes)
same-refusal bytes (Miss thread miss) (Rule b) h k =
    absurd (no_fault k.design _ k.refused (here bytes (delivered.Miss thread miss) (delivered.Rule b) h k).passes)
same-refusal bytes (Rule a) Long h k = absurd (no_fault k.design _ (here bytes (delivered.Rule a) delivered.Long h k) k.refused.passes)
same-refusal bytes Long (Rule b) h k = absurd (no_fault k.design _ k.refused (here bytes delivered.Long (delivered.Rule b) h k).passes)
same-refusal bytes (Broken a) (Broken b) h k =
    ap Broken (one-broken k.design a b (here bytes (delivered.Broken a) (delivered.Broken b) h k) k.refused)
same-refusal bytes (Broken a) (Miss thread miss) h k =
    absurd (broken-or-passes k.design a (here bytes (delivered.Broken a) (delivered.Miss thread miss) h k) k.refused.passes)
same-refusal bytes (Miss thread miss) (Broken b) h k =
    absurd (broken-or-passes k.design b k.refused (here bytes (delivered.Miss thread miss) (delivered.Broken b) h k).passes)
same-refusal bytes (Broken a) Long h k =
    absurd (broken-or-passes k.design a (here bytes (delivered.Broken a) delivered.Long h k) k.refused.passes)
same-refusal bytes Long (Broken b) h k =
    absurd (broken-or-passes k.design b k.refused (here bytes delivered.Long (delivered.Broken b) h k).passes)
same-refusal bytes (Miss thread miss) (Miss other more) h k =
    one-over k.design thread other miss more (here bytes (delivered.Miss thread miss) (delivered.Miss other more) h k) k.refused
same-refusal bytes (Miss thread miss) Long h k =
    let missed = here bytes (delivered.Miss thread miss) delivered.Long h k in absurd (missed.none k.refused.bounds k.refused.least.fits)
same-refusal bytes Long (Miss thread miss) h k =
    let long = here bytes delivered.Long (delivered.Miss thread miss) h k in absurd (k.refused.none long.bounds long.least.fits)
same-refusal bytes Long Long h k = refl

-- WHAT CAN BE DONE

-- nothing is refused that can be done
refused-read : (bytes : List ℕ) (w : CanBackground bytes) (r : delivery.BackgroundRefusal) → RefusesRead bytes r → IsRefusedInBackground w.design r
refused-read bytes w r h =
    let P : designs.Design → Type 0 = λ z. IsRefusedInBackground z r in
    subst P (one-design bytes h.design w.design h.reads w.reads) h.refused

not-long : (x : designs.Design) (v : List Bound) → IsLeastVector (hard_rows (in_ticks x)) v → length (background_text (in_ticks x) v) ≤ ada_limit
    → IsLongInBackground x → ⊥
not-long x v least short h =
    let bounds : h.bounds ≡ v = one_least (hard_rows (in_ticks x)) h.bounds v h.least least in
    let equal : length (background_text (in_ticks x) h.bounds) ≡ length (background_text (in_ticks x) v)
    = ap (λ z. length (background_text (in_ticks x) z)) bounds in
    let long = h.long in omega (arith, equal, long, short)

not-refused : (bytes : List ℕ) → CanBackground bytes → (r : BackgroundRefusal) → RefusesBackground bytes r → ⊥
not-refused bytes w (Text found) h = no-fault bytes w.design found w.reads h
not-refused bytes w (Rule a) h = no_fault w.design (Misfits (misfit_of a)) (refused-read bytes w (delivered.Rule a) h) w.passes
not-refused bytes w (Broken a) h = broken-or-passes w.design a (refused-read bytes w (delivered.Broken a) h) w.passes
not-refused bytes w (Miss thread miss) h =
    let missed = refused-read bytes w (delivered.Miss thread miss) h in missed.none w.bounds w.least.fits
not-refused bytes w Long h = not-long w.design w.bounds w.least w.short (refused-read bytes w delivered.Long h)

can-make : (bytes made : List ℕ) → IsBackgroundTextFor bytes made → CanBackground bytes
can-make bytes made w = record {
  design = w.design;
  reads = w.reads;
  passes = w.passes;
  bounds = w.bounds;
  least = w.least;
  short = (let short = w.short in rw w.made at short);
}

one-made : (bytes x y : List ℕ) → IsBackgroundTextFor bytes x → IsBackgroundTextFor bytes y → x ≡ y
one-made bytes x y h k =
    let one : h.design ≡ k.design = one-design bytes h.design k.design h.reads k.reads in
    let P : designs.Design → Type 0 = λ z. IsLeastVector (hard_rows (in_ticks z)) h.bounds in
    let bounds : h.bounds ≡ k.bounds = one_least (hard_rows (in_ticks k.design)) h.bounds k.bounds (subst P one h.least) k.least in
    h.made ∙ ap (λ z. background_text (in_ticks z) h.bounds) one ∙ ap (background_text (in_ticks k.design)) bounds ∙ sym k.made

pub backgrounds-exact : IsExactOf of_background
backgrounds-exact = record {
  able = not-refused;
  one = same-refusal;
  made = can-make;
  text = one-made;
}
