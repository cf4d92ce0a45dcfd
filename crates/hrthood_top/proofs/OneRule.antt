-- That one rule is broken first, of a design and of a program, and one value is the first over its limit.
use Rattle.std.proofs.Common.{◌≡◌, ℕ, zero, suc, ◌<◌, List, [], ◌∷◌, Option, Some, None, refl, sym, ap, subst, ◌∙◌}
use Rattle.seq_tree.specs.Faults as faults
use Rattle.seq_tree.specs.Names.{Name}
use Rattle.seq_check.specs.declared.fault.BodyFault.{BodyFault}
use Rattle.seq_check.specs.declared.fault.BodyFault.TheVariants as body
use Rattle.ods_tree.specs.Designs.{Design}
use Rattle.ods_tree.specs.Ticks.{in_ticks}
use Rattle.design_rules.specs.Broken.{Broken, V01, V02, V03, V04, V05, V06, V07, V08, V09Calls, V09Objects, V09Starts, V10, V11, V12, V14}
use Rattle.design_rules.specs.Broken.{V15Threads, V15Objects, V15Cost, V16, V17Tick, V17Priorities, V17, V13}
use Rattle.seq_check.specs.Answers.{told_as}
use Rattle.design_rules.specs.Rules as design
use Rattle.ods_index.specs.Told.{told_of}
use Rattle.ods_index.specs.declared.broken.Broken as code
use Rattle.ods_index.specs.declared.broken.Broken.TheVariants as variant
use Rattle.bridge.specs.Taking.{IsBroken}
use Rattle.ada_tree.specs.Programs.{Program}
use Rattle.ada_tree.specs.Bodies.{unit_fault}
use Rattle.ada_tree.specs.Rules as ada
use Rattle.ada_rules.specs.FaultsTold.{IsToldAs}
use Rattle.ada_rules.specs.Verdicts.{rule_of, name_at, IsFaultAt}
use Rattle.ada_rules.specs.declared.verdict.AdaRule.{AdaRule}
use Rattle.ada_rules.specs.declared.verdict.AdaRule.TheVariants as rule
use Rattle.rt_response.specs.declared.rows.ThreadRow.{ThreadRow}
use Rattle.rt_response.specs.declared.rows.Miss.{Miss}
use Rattle.rt_response.specs.declared.excess.Excess.{Excess}
use Rattle.rt_response.specs.Rounds.{IsMiss, first_excess, round}
use Rattle.law_backgrounds.proofs.Shared.FirstFaults.{item_at, no-less, one-at, one-first}

pub some-same : {A : Type 0} (a b : A) → ◌≡◌ {A = Option A} (Some a) (Some b) → a ≡ b
some-same a b e = cc

-- THE RULES OF DESIGNS
one_broken : (x : Design) (a b : Broken) → design.IsFirstBroken x a → design.IsFirstBroken x b → a ≡ b
one_broken x a b f g = one-first x (in_ticks x) a b f g

-- the value of the code that tells this
abbrev code_of : Broken → code.Broken
code_of (V01 name) = variant.V01 name
code_of (V02 name) = variant.V02 name
code_of (V03 object) = variant.V03 object
code_of (V04 object) = variant.V04 object
code_of (V05 object) = variant.V05 object
code_of (V06 object target) = variant.V06 object target
code_of (V07 object target) = variant.V07 object target
code_of (V08 object target) = variant.V08 object target
code_of (V09Calls name) = variant.V09Calls name
code_of (V09Objects object) = variant.V09Objects object
code_of (V09Starts thread) = variant.V09Starts thread
code_of (V10 object sources starts) = variant.V10 object sources starts
code_of (V11 object) = variant.V11 object
code_of (V12 object) = variant.V12 object
code_of (V14 thread cost budget) = variant.V14 thread cost budget
code_of (V15Threads count) = variant.V15Threads count
code_of (V15Objects count) = variant.V15Objects count
code_of (V15Cost object part) = variant.V15Cost object part
code_of (V16 starter period target separation) = variant.V16 starter period target separation
code_of V17Tick = variant.V17Tick
code_of V17Priorities = variant.V17Priorities
code_of (V17 object) = variant.V17 object
code_of (V13 object part fault) = variant.V13 object part (told_as fault)

from_body : (object : Name) (part : Option Name) (f : BodyFault) (t : Broken) → told_of (variant.V13 object part f) ≡ Some t
    → variant.V13 object part f ≡ code_of t
from_body object part body.Unknown t e = ap code_of (some-same (V13 object part faults.Unknown) t e)
from_body object part body.Sort t e = ap code_of (some-same (V13 object part faults.Missorted) t e)
from_body object part body.Divisor t e = ap code_of (some-same (V13 object part faults.Divisor) t e)
from_body object part body.Exit t e = ap code_of (some-same (V13 object part faults.Exit) t e)
from_body object part body.Assigned t e = ap code_of (some-same (V13 object part faults.Assigned) t e)
from_body object part body.Actual t e = ap code_of (some-same (V13 object part faults.Actual) t e)
from_body object part body.Count t e = ap code_of (some-same (V13 object part faults.Count) t e)
from_body object part body.NoMemory t e = absurd cc

from_told : (c : code.Broken) (t : Broken) → told_of c ≡ Some t → c ≡ code_of t
from_told (variant.V01 name) t e = ap code_of (some-same (V01 name) t e)
from_told (variant.V02 name) t e = ap code_of (some-same (V02 name) t e)
from_told (variant.V03 object) t e = ap code_of (some-same (V03 object) t e)
from_told (variant.V04 object) t e = ap code_of (some-same (V04 object) t e)
from_told (variant.V05 object) t e = ap code_of (some-same (V05 object) t e)
from_told (variant.V06 object target) t e = ap code_of (some-same (V06 object target) t e)
from_told (variant.V07 object target) t e = ap code_of (some-same (V07 object target) t e)
from_told (variant.V08 object target) t e = ap code_of (some-same (V08 object target) t e)
from_told (variant.V09Calls name) t e = ap code_of (some-same (V09Calls name) t e)
from_told (variant.V09Objects object) t e = ap code_of (some-same (V09Objects object) t e)
from_told (variant.V09Starts thread) t e = ap code_of (some-same (V09Starts thread) t e)
from_told (variant.V10 object sources starts) t e = ap code_of (some-same (V10 object sources starts) t e)
from_told (variant.V11 object) t e = ap code_of (some-same (V11 object) t e)
from_told (variant.V12 object) t e = ap code_of (some-same (V12 object) t e)
from_told (variant.V14 thread cost budget) t e = ap code_of (some-same (V14 thread cost budget) t e)
from_told (variant.V15Threads count) t e = ap code_of (some-same (V15Threads count) t e)
from_told (variant.V15Objects count) t e = ap code_of (some-same (V15Objects count) t e)
from_told (variant.V15Cost object part) t e = ap code_of (some-same (V15Cost object part) t e)
from_told (variant.V16 starter period target separation) t e = ap code_of (some-same (V16 starter period target separation) t e)
from_told variant.V17Tick t e = ap code_of (some-same V17Tick t e)
from_told variant.V17Priorities t e = ap code_of (some-same V17Priorities t e)
from_told (variant.V17 object) t e = ap code_of (some-same (V17 object) t e)
from_told (variant.V13 object part fault) t e = from_body object part fault t e
from_told variant.NoMemory t e = absurd cc

is_told : (x : Design) (o : Option Broken) → IsBroken x o → (t : Broken) × (o ≡ Some t) × design.IsFirstBroken x t
is_told x None h = absurd h
is_told x (Some t) h = (t, refl, h)

-- two rules of the code that are told as one are one
pub same-rule : (a b : code.Broken) (t u : Broken) → told_of a ≡ Some t → told_of b ≡ Some u → t ≡ u → a ≡ b
same-rule a b t u e f same = from_told a t e ∙ ap code_of same ∙ sym (from_told b u f)

pub one-broken : (x : Design) (a b : code.Broken) → IsBroken x (told_of a) → IsBroken x (told_of b) → a ≡ b
one-broken x a b h k =
    let t = is_told x (told_of a) h in
    let u = is_told x (told_of b) k in
    from_told a t.0 t.1 ∙ ap code_of (one_broken x t.0 u.0 t.2 u.2) ∙ sym (from_told b u.0 u.1)

-- VALUES OVER THEIR LIMITS
abbrev excess_of : Miss → Excess
excess_of m = record { index = m.index; which = m.which; value = m.value; limit = m.limit }

not-sooner : (rows : List ThreadRow) (m n : Miss) → IsMiss rows m → IsMiss rows n → m.round < n.round → ⊥
not-sooner rows m n h k l = let no : None ≡ Some (excess_of m) = sym (k.earlier m.round l) ∙ h.over in cc

pub one-miss : (rows : List ThreadRow) (m n : Miss) → IsMiss rows m → IsMiss rows n → m ≡ n
one-miss rows m n h k =
    let turn = no-less m.round n.round (not-sooner rows m n h k) (not-sooner rows n m k h) in
    let P : ℕ → Type 0 = λ r. first_excess 0 rows (round rows r) ≡ Some (excess_of m) in
    let same : excess_of m ≡ excess_of n = one-at _ (excess_of m) (excess_of n) (subst P turn h.over) k.over in
    let index : m.index ≡ n.index = ap (λ e. e.index) same in
    let which : m.which ≡ n.which = ap (λ e. e.which) same in
    let value : m.value ≡ n.value = ap (λ e. e.value) same in
    let limit : m.limit ≡ n.limit = ap (λ e. e.limit) same in
    rw (index, which, value, limit, turn) refl

-- THE RULES OF PROGRAMS
abbrev ada_rule : ℕ → ada.Rule
ada_rule n = item_at ada.Externals (ada.Naming ∷ ada.Naming ∷ ada.Uses ∷ ada.Rings ∷ ada.Bodies ∷ ada.Ranges ∷ []) n

ada_rule-is : (r : ada.Rule) → ada_rule (ada.number_of r) ≡ r
ada_rule-is ada.Naming = refl
ada_rule-is ada.Uses = refl
ada_rule-is ada.Rings = refl
ada_rule-is ada.Bodies = refl
ada_rule-is ada.Ranges = refl
ada_rule-is ada.Externals = refl

one_site : (s t : ada.Site) → (ada.IsBefore s t → ⊥) → (ada.IsBefore t s → ⊥) → s ≡ t
one_site ada.Whole ada.Whole p q = refl
one_site ada.Whole (ada.At n) p q = absurd (p tt)
one_site (ada.At m) ada.Whole p q = absurd (q tt)
one_site (ada.At m) (ada.At n) p q = ap ada.At (no-less m n p q)

one_first : (p : Program) (r q : ada.Rule) (s t : ada.Site) → ada.IsFirstBroken p r s → ada.IsFirstBroken p q t → (r ≡ q) × (s ≡ t)
one_first p r q s t f g =
    let number = no-less (ada.number_of r) (ada.number_of q) (λ l. g.none_lower r s l f.broken) (λ l. f.none_lower q t l g.broken) in
    let same : r ≡ q = sym (ada_rule-is r) ∙ ap ada_rule number ∙ ada_rule-is q in
    let F : ada.Rule → Type 0 = λ z. ada.Breaks p z s in
    let G : ada.Rule → Type 0 = λ z. ada.Breaks p z t in
    (same, one_site s t (λ l. g.none_earlier s l (subst F same f.broken)) (λ l. f.none_earlier t l (subst G (sym same) g.broken)))

-- the fault of the code that is told so
abbrev code_fault : faults.BodyFault → BodyFault
code_fault faults.Unknown = body.Unknown
code_fault faults.Missorted = body.Sort
code_fault faults.Divisor = body.Divisor
code_fault faults.Exit = body.Exit
code_fault faults.Assigned = body.Assigned
code_fault faults.Actual = body.Actual
code_fault faults.Count = body.Count

fault_told : (f : BodyFault) (o : Option faults.BodyFault) → IsToldAs f o → (t : faults.BodyFault) × (o ≡ Some t) × (f ≡ code_fault t)
fault_told body.Unknown o e = (faults.Unknown, e, refl)
fault_told body.Sort o e = (faults.Missorted, e, refl)
fault_told body.Divisor o e = (faults.Divisor, e, refl)
fault_told body.Exit o e = (faults.Exit, e, refl)
fault_told body.Assigned o e = (faults.Assigned, e, refl)
fault_told body.Actual o e = (faults.Actual, e, refl)
fault_told body.Count o e = (faults.Count, e, refl)
fault_told body.NoMemory o e = absurd e

one_fault_at : (p : Program) (f g : BodyFault) (s : ada.Site) → IsFaultAt p (rule.G4 f) s → IsFaultAt p (rule.G4 g) s → f ≡ g
one_fault_at p f g ada.Whole h k = absurd h
one_fault_at p f g (ada.At n) h k =
    let unit = one-at _ h.0 k.0 h.1 k.1 in
    let a = fault_told f (unit_fault p h.0) h.2 in
    let b = fault_told g (unit_fault p k.0) k.2 in
    let same : a.0 ≡ b.0 = one-at (unit_fault p h.0) a.0 b.0 a.1 (ap (unit_fault p) unit ∙ b.1) in
    a.2 ∙ ap code_fault same ∙ sym b.2

same_fault : (p : Program) (r q : AdaRule) (s : ada.Site) → rule_of r ≡ rule_of q → IsFaultAt p r s → IsFaultAt p q s → r ≡ q
same_fault p (rule.G4 f) (rule.G4 g) s e h k = ap rule.G4 (one_fault_at p f g s h k)
same_fault p rule.G1 rule.G1 s e h k = refl
same_fault p rule.G1 rule.G2 s e h k = absurd cc
same_fault p rule.G1 rule.G3 s e h k = absurd cc
same_fault p rule.G1 rule.G5 s e h k = absurd cc
same_fault p rule.G1 rule.G6 s e h k = absurd cc
same_fault p rule.G1 (rule.G4 g) s e h k = absurd cc
same_fault p (rule.G4 f) rule.G1 s e h k = absurd cc
same_fault p rule.G2 rule.G1 s e h k = absurd cc
same_fault p rule.G2 rule.G2 s e h k = refl
same_fault p rule.G2 rule.G3 s e h k = absurd cc
same_fault p rule.G2 rule.G5 s e h k = absurd cc
same_fault p rule.G2 rule.G6 s e h k = absurd cc
same_fault p rule.G2 (rule.G4 g) s e h k = absurd cc
same_fault p (rule.G4 f) rule.G2 s e h k = absurd cc
same_fault p rule.G3 rule.G1 s e h k = absurd cc
same_fault p rule.G3 rule.G2 s e h k = absurd cc
same_fault p rule.G3 rule.G3 s e h k = refl
same_fault p rule.G3 rule.G5 s e h k = absurd cc
same_fault p rule.G3 rule.G6 s e h k = absurd cc
same_fault p rule.G3 (rule.G4 g) s e h k = absurd cc
same_fault p (rule.G4 f) rule.G3 s e h k = absurd cc
same_fault p rule.G5 rule.G1 s e h k = absurd cc
same_fault p rule.G5 rule.G2 s e h k = absurd cc
same_fault p rule.G5 rule.G3 s e h k = absurd cc
same_fault p rule.G5 rule.G5 s e h k = refl
same_fault p rule.G5 rule.G6 s e h k = absurd cc
same_fault p rule.G5 (rule.G4 g) s e h k = absurd cc
same_fault p (rule.G4 f) rule.G5 s e h k = absurd cc
same_fault p rule.G6 rule.G1 s e h k = absurd cc
same_fault p rule.G6 rule.G2 s e h k = absurd cc
same_fault p rule.G6 rule.G3 s e h k = absurd cc
same_fault p rule.G6 rule.G5 s e h k = absurd cc
same_fault p rule.G6 rule.G6 s e h k = refl
same_fault p rule.G6 (rule.G4 g) s e h k = absurd cc
same_fault p (rule.G4 f) rule.G6 s e h k = absurd cc

pub one-verdict : (p : Program) (r q : AdaRule) (u v : Option Name) (s t : ada.Site) → ada.IsFirstBroken p (rule_of r) s
    → ada.IsFirstBroken p (rule_of q) t → u ≡ name_at p s → v ≡ name_at p t →
    IsFaultAt p r s → IsFaultAt p q t → (r ≡ q) × (u ≡ v)
one-verdict p r q u v s t f g a b h k =
    let same = one_first p (rule_of r) (rule_of q) s t f g in
    let F : ada.Site → Type 0 = λ z. IsFaultAt p q z in
    (same_fault p r q s same.0 h (subst F (sym same.1) k), a ∙ ap (name_at p) same.1 ∙ sym b)
