-- That the verb `replay` refuses texts for one reason, and none that it can be done of, and that it stops in one way.
use Rattle.std.proofs.Common.{◌≡◌, ℕ, ◌≤◌, false, List, length, Option, Err, sym, ap, subst, ◌∙◌, arith}
use Rattle.std.specs.Prelude.{nat_lt}
use Rattle.std.proofs.lemmas.Bool.{false_from_ne_true, or_parts}
use Rattle.seq_tree.specs.Names.{Name}
use Rattle.ada_tree.specs.Programs.{Program}
use Rattle.ada_tree.specs.Ranges.{whole_breaks}
use Rattle.ada_tree.specs.Reading.{Accepts}
use Rattle.ada_tree.specs.Rules.{Ranges, Whole, MeetsRules}
use Rattle.ada_rules.specs.Verdicts as verdicts
use Rattle.ada_rules.specs.declared.verdict.AdaRule.{AdaRule}
use Rattle.ada_rules.specs.declared.verdict.RuleBreak.TheVariants as told
use Rattle.ada_read.specs.Answers.{Breaks}
use Rattle.ada_read.proofs.Shared.ReadingLaws.{reads-unfaulty, accepts-unbroken}
use Rattle.arrivals_tree.specs.Arriving.{Arrivals}
use Rattle.arrivals_tree.specs.Arrived.{Arrives, horizon_limit}
use Rattle.arrivals_read.specs.Answers as arriving
use Rattle.arrivals_read.specs.declared.fault.ArrivalFault.{ArrivalFault}
use Rattle.arrivals_read.proofs.Shared.Refusals.{refused-nothing, one-refusal}
use Rattle.trace_tree.specs.declared.event.Event.{Event}
use Rattle.trace_tree.specs.Lines.{lines}
use Rattle.machine.specs.Meanings.{Meaning, start}
use Rattle.machine.specs.Systems.{system}
use Rattle.machine.proofs.Shared.RunLaws.{Rest-unique}
use Rattle.hrthood_top.specs.declared.file_kind.FileKind.TheVariants as kind
use Rattle.hrthood_top.specs.declared.replay.ReplayRefusal.{ReplayRefusal}
use Rattle.hrthood_top.specs.declared.replay.ReplayRefusal.TheVariants as refusal
use Rattle.hrthood_top.specs.Replays.{Replays, StopsAt, Traces, CanReplay, IsAdaAlone, RefusesReplay, replays}
use Rattle.hrthood_top.specs.Violations.{EndsAt, Violation}
use Rattle.hrthood_top.proofs.OneText.{one-ada-fault}
use Rattle.hrthood_top.proofs.OneRule.{one-verdict}
use Rattle.hrthood_top.proofs.RunEnds.{runs-out-unstopped, one-violation}
use Rattle.hrthood_top.proofs.VerbLaws.{IsExact, StopsExactly}

-- a program that meets the rules has few units
pub few-units : (p : Program) → MeetsRules p → length p.units ≤ 500
few-units p meets =
    let kept : whole_breaks p ≡ false = false_from_ne_true (whole_breaks p) (λ breaks. meets Ranges Whole breaks) in
    let few : nat_lt 500 (length p.units) ≡ false = (or_parts _ _ kept).1 in
    grind arith

-- texts that say a program and arrivals are not refused
said_or_refuses : (ada arrivals : List ℕ) (p : Program) (a : Arrivals) → Accepts ada p → Arrives horizon_limit arrivals p a → (r : ReplayRefusal)
    → RefusesReplay ada arrivals r → ⊥
said_or_refuses ada arrivals p a accepts arrives (refusal.Text found) h = reads-unfaulty ada p found accepts.reads h
said_or_refuses ada arrivals p a accepts arrives (refusal.Unit rule unit) h = accepts-unbroken ada p rule unit accepts h
said_or_refuses ada arrivals p a accepts arrives (refusal.Arrivals found) h =
    let P : Program → Type 0 = λ q. arriving.Refuses arrivals q found in
    refused-nothing arrivals p found (subst P (sym (h.says.alone p accepts)) h.none) a arrives

can_or_refuses : (ada arrivals : List ℕ) → CanReplay ada arrivals → (r : ReplayRefusal) → RefusesReplay ada arrivals r → ⊥
can_or_refuses ada arrivals w r h = said_or_refuses ada arrivals w.program w.under w.accepts w.arrives r h

can_make : (ada arrivals written : List ℕ) → Replays ada arrivals written → CanReplay ada arrivals
can_make ada arrivals written w = record {
  program = w.traces.program;
  under = w.traces.under;
  accepts = w.traces.says.accepts;
  arrives = w.traces.arriving.arrives;
  told = w.told;
  means = w.traces.trace.means;
  runs_out = w.runs_out;
}

one_unit : (ada : List ℕ) (rule rule' : AdaRule) (unit unit' : Option Name) → Breaks ada rule unit → Breaks ada rule' unit'
    → ◌≡◌ {A = ReplayRefusal} (refusal.Unit rule unit) (refusal.Unit rule' unit')
one_unit ada rule rule' unit unit' h k =
    let program : h.program ≡ k.program = k.alone h.program h.reads in
    let S : Program → Type 0 = λ p. verdicts.Says p (Err (told.Rule rule unit)) in
    let first = subst S program h.broken in
    let same = one-verdict k.program rule rule' unit unit' first.0 k.broken.0 first.1 k.broken.1 first.2 k.broken.2 first.3 k.broken.3 in
    ap (λ z. refusal.Unit z unit) same.0 ∙ ap (λ z. refusal.Unit rule' z) same.1

pub one_arrivals : (ada arrivals : List ℕ) (f g : ArrivalFault) → IsAdaAlone ada arrivals f → IsAdaAlone ada arrivals g → f ≡ g
one_arrivals ada arrivals f g h k =
    let program : h.program ≡ k.program = k.says.alone h.program h.says.accepts in
    let P : Program → Type 0 = λ p. arriving.Refuses arrivals p f in
    one-refusal arrivals k.program f g (subst P program h.none) k.none

one_refusal : (ada arrivals : List ℕ) (r q : ReplayRefusal) → RefusesReplay ada arrivals r → RefusesReplay ada arrivals q → r ≡ q
one_refusal ada arrivals (refusal.Text f) (refusal.Text g) h k = ap refusal.Text (one-ada-fault ada f g h k)
one_refusal ada arrivals (refusal.Text f) (refusal.Unit rule unit) h k = absurd (reads-unfaulty ada k.program f k.reads h)
one_refusal ada arrivals (refusal.Text f) (refusal.Arrivals g) h k = absurd (reads-unfaulty ada k.program f k.says.accepts.reads h)
one_refusal ada arrivals (refusal.Unit rule unit) (refusal.Text g) h k = absurd (reads-unfaulty ada h.program g h.reads k)
one_refusal ada arrivals (refusal.Unit rule unit) (refusal.Unit rule' unit') h k = one_unit ada rule rule' unit unit' h k
one_refusal ada arrivals (refusal.Unit rule unit) (refusal.Arrivals g) h k = absurd (accepts-unbroken ada k.program rule unit k.says.accepts h)
one_refusal ada arrivals (refusal.Arrivals f) (refusal.Text g) h k = absurd (reads-unfaulty ada h.program g h.says.accepts.reads k)
one_refusal ada arrivals (refusal.Arrivals f) (refusal.Unit rule unit) h k = absurd (accepts-unbroken ada h.program rule unit h.says.accepts k)
one_refusal ada arrivals (refusal.Arrivals f) (refusal.Arrivals g) h k = ap refusal.Arrivals (one_arrivals ada arrivals f g h k)

-- texts say one program and arrivals, which mean one thing
pub record IsSame (ada arrivals : List ℕ) (p : Program) (told told' : List Event) (text : List ℕ) (t : Traces ada arrivals told' text) : Type 0 where
  pub programs : p ≡ t.program
  pub meanings : told ≡ told'

pub one_meaning : (ada arrivals : List ℕ) (p : Program) (a : Arrivals) (told told' : List Event) (text : List ℕ) → Accepts ada p
    → Arrives horizon_limit arrivals p a → Meaning p a told
    → (t : Traces ada arrivals told' text) → IsSame ada arrivals p told told' text t
one_meaning ada arrivals p a told told' text accepts arrives means t =
    let programs : p ≡ t.program = t.says.alone p accepts in
    let A : Program → Type 0 = λ q. Arrives horizon_limit arrivals q a in
    let unders : a ≡ t.under = t.arriving.alone a (subst A programs arrives) in
    let M : Program → Type 0 = λ q. Meaning q a told in
    let N : Arrivals → Type 0 = λ b. Meaning t.program b told in
    record {
      programs = programs;
      meanings = Rest-unique (system t.program t.under) (start t.program t.under) told told' (subst N unders (subst M programs means)) t.trace.means;
    }

-- what can be replayed does not stop
can_or_stops : (ada arrivals text : List ℕ) (v : Violation) → CanReplay ada arrivals → StopsAt ada arrivals text v → ⊥
can_or_stops ada arrivals text v w h =
    let same = one_meaning ada arrivals w.program w.under w.told h.told text w.accepts w.arrives w.means h.traces in
    let E : List Event → Type 0 = λ es. EndsAt h.traces.program es v in
    runs-out-unstopped h.traces.program w.told v w.runs_out (subst E (sym same.meanings) h.ends)

refuses_or_stops : (ada arrivals text : List ℕ) (r : ReplayRefusal) (v : Violation) → RefusesReplay ada arrivals r → StopsAt ada arrivals text v → ⊥
refuses_or_stops ada arrivals text r v h k
    = said_or_refuses ada arrivals k.traces.program k.traces.under k.traces.says.accepts k.traces.arriving.arrives r h

one_stop : (ada arrivals x y : List ℕ) (v w : Violation) → StopsAt ada arrivals x v → StopsAt ada arrivals y w → v ≡ w
one_stop ada arrivals x y v w h k =
    let same = one_meaning ada arrivals h.traces.program h.traces.under h.told k.told y h.traces.says.accepts h.traces.arriving.arrives
    h.traces.trace.means k.traces in
    let E : List Event → Type 0 = λ es. EndsAt h.traces.program es v in
    let P : Program → Type 0 = λ p. EndsAt p k.told v in
    one-violation k.traces.program k.told v w (subst P same.programs (subst E same.meanings h.ends)) k.ends

-- what is written of what was told
same_lines : (ada arrivals x y : List ℕ) (told other : List Event) (h : Traces ada arrivals told x) → Traces ada arrivals other y → x ≡ y
same_lines ada arrivals x y told other h k =
    let same = one_meaning ada arrivals h.program h.under told other y h.says.accepts h.arriving.arrives h.trace.means k in
    h.trace.whole ∙ ap (λ p. lines p told) same.programs ∙ ap (lines k.program) same.meanings ∙ sym k.trace.whole

-- texts replay to one trace
pub one-replay : (ada arrivals x y : List ℕ) → Replays ada arrivals x → Replays ada arrivals y → x ≡ y
one-replay ada arrivals x y h k = same_lines ada arrivals x y h.told k.told h.traces k.traces

one_stop_text : (ada arrivals x y : List ℕ) (v w : Violation) → StopsAt ada arrivals x v → StopsAt ada arrivals y w → x ≡ y
one_stop_text ada arrivals x y v w h k = same_lines ada arrivals x y h.told k.told h.traces k.traces

replays-stop : (ada arrivals : List ℕ) → StopsExactly (replays ada arrivals)
replays-stop ada arrivals = record {
  able = λ a b same w v text h. can_or_stops (b kind.Ada) (b kind.Arrivals) text v (rw (← same.0, ← same.1.0) w) h;
  apart = λ a b same r h v text k. refuses_or_stops (b kind.Ada) (b kind.Arrivals) text r v (rw (← same.0, ← same.1.0) h) k;
  one = λ a b same v w x y h k. one_stop (b kind.Ada) (b kind.Arrivals) x y v w (rw (← same.0, ← same.1.0) h) k;
  text = λ a b same v w x y h k. one_stop_text (b kind.Ada) (b kind.Arrivals) x y v w (rw (← same.0, ← same.1.0) h) k;
}

pub replays-exact : (ada arrivals : List ℕ) → IsExact (replays ada arrivals)
replays-exact ada arrivals = record {
  one = λ a b same r q h k. one_refusal (b kind.Ada) (b kind.Arrivals) r q (rw (← same.0, ← same.1.0) h) k;
  able = λ a b same w r h. can_or_refuses (b kind.Ada) (b kind.Arrivals) (rw (← same.0, ← same.1.0) w) r h;
  made = λ a written w. can_make (a kind.Ada) (a kind.Arrivals) written w;
  text = λ a b same x y h k. one-replay (b kind.Ada) (b kind.Arrivals) x y (rw (← same.0, ← same.1.0) h) k;
  stops = replays-stop ada arrivals;
}
