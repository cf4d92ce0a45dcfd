-- That the verb `accepts` refuses a design, arrivals and a trace for one reason, and none that it can be done of.
use Rattle.std.proofs.Common.{◌≡◌, ℕ, List, refl, sym, ap, subst, ◌∙◌}
use Rattle.ods_tree.specs.Designs as designs
use Rattle.ada_tree.specs.Rules.{MeetsRules}
use Rattle.arrivals_tree.specs.Arriving as arrived
use Rattle.arrivals_read.specs.Answers as arriving
use Rattle.arrivals_read.proofs.Shared.Refusals.{one-arrivals, one-refusal, refused-nothing}
use Rattle.guarantee.specs.Arrivals.{named_arrivals}
use Rattle.guarantee.specs.Programs.{program}
use Rattle.guarantee.specs.Software.{software}
use Rattle.guarantee.proofs.Shared.Same.{program-software}
use Rattle.law_designs.proofs.Shared.ReadablePrograms.{program-readable}
use Rattle.law_clear_programs.proofs.Shared.Clear.{clear}
use Rattle.law_event_lines.proofs.Shared.Names.{design-plain}
use Rattle.law_traces.specs.Told.{HasPlainNames}
use Rattle.law_traces.specs.Clear.{IsClear}
use Rattle.law_traces.proofs.Shared.Judging.{one-verdict}
use Rattle.law_traces.specs.Verdicts as verdict
use Rattle.law_traces.specs.Verdicts.{Verdict, IsVerdict}
use Rattle.design_accepts.specs.Answers.{refusal_verdict}
use Rattle.design_accepts.specs.declared.unaccepted.Unaccepted.{Unaccepted}
use Rattle.design_accepts.specs.declared.unaccepted.Unaccepted.TheVariants as why
use Rattle.hrthood_top.specs.declared.accepts.AcceptsRefusal.{AcceptsRefusal}
use Rattle.hrthood_top.specs.declared.accepts.AcceptsRefusal.TheVariants as refusal
use Rattle.hrthood_top.specs.declared.file_kind.FileKind.TheVariants.{Design, Arrivals, Trace}
use Rattle.bridge.specs.Taking.{IsTakenAs}
use Rattle.hrthood_top.specs.Acceptances.{IsJudgedSo, IsJudged, IsYes, IsAcceptedSo, RefusesAccepts, CanAccept, acceptances, yes_line}
use Rattle.hrthood_top.proofs.OneDesign.{one-untaken}
use Rattle.hrthood_top.proofs.Taken.{along, taken-not}
use Rattle.hrthood_top.proofs.VerbLaws.{IsExact, never-stops}

-- the cause that a verdict is; of one that accepts there is none, and any stands there
abbrev why_of : Verdict → Unaccepted
why_of (verdict.Accepted lines) = why.NoMemory
why_of (verdict.Line line) = why.Line line
why_of verdict.Times = why.Times
why_of (verdict.Cyclic thread) = why.Cyclic thread
why_of verdict.Untold = why.Arrivals
why_of (verdict.Requests thread) = why.Requests thread
why_of (verdict.Script thread) = why.Script thread
why_of (verdict.Shared object) = why.Shared object

-- a cause that is told is a verdict, and that verdict is this cause and accepts nothing
record IsTold (x : designs.Design) (arrivals trace : List ℕ) (u : Unaccepted) : Type 0 where
  is : Verdict
  so : IsJudgedSo x arrivals trace is
  back : why_of is ≡ u
  none : (n : ℕ) → is ≡ verdict.Accepted n → ⊥

told-so : (x : designs.Design) (arrivals trace : List ℕ) (u : Unaccepted) → IsJudged x arrivals trace (refusal_verdict u) → IsTold x arrivals trace u
told-so x arrivals trace (why.Line line) h = record { is = _; so = h; back = refl; none = λ n e. absurd (cc e) }
told-so x arrivals trace why.Times h = record { is = _; so = h; back = refl; none = λ n e. absurd (cc e) }
told-so x arrivals trace (why.Cyclic thread) h = record { is = _; so = h; back = refl; none = λ n e. absurd (cc e) }
told-so x arrivals trace why.Arrivals h = record { is = _; so = h; back = refl; none = λ n e. absurd (cc e) }
told-so x arrivals trace (why.Requests thread) h = record { is = _; so = h; back = refl; none = λ n e. absurd (cc e) }
told-so x arrivals trace (why.Script thread) h = record { is = _; so = h; back = refl; none = λ n e. absurd (cc e) }
told-so x arrivals trace (why.Shared object) h = record { is = _; so = h; back = refl; none = λ n e. absurd (cc e) }
told-so x arrivals trace why.NoMemory h = absurd h

-- the program of a design that is taken meets the rules of programs, and its names are plain
pub taken-meets : (design : List ℕ) (x : designs.Design) → IsTakenAs design x → MeetsRules (program x)
taken-meets design x w =
    let P : designs.Design → Type 0 = λ z. MeetsRules (program z) in
    subst P (sym w.ticked) (program-readable w.design w.reads.proper w.meets).1

pub taken-plain : (design : List ℕ) (x : designs.Design) → IsTakenAs design x → HasPlainNames (program x)
taken-plain design x w =
    let P : designs.Design → Type 0 = λ z. HasPlainNames (program z) in
    subst P (sym w.ticked) (design-plain w.design design w.reads w.meets)

-- its software is clear
taken-clear : (design : List ℕ) (x : designs.Design) → IsTakenAs design x → IsClear (software x)
taken-clear design x w = subst IsClear (program-software x) (clear (program x) (taken-meets design x w))

-- a text has one verdict, under whatever arrivals the same bytes say
one-judged : (design : List ℕ) (x : designs.Design) (arrivals trace : List ℕ) (u v : Verdict) → IsTakenAs design x
    → IsJudgedSo x arrivals trace u → IsJudgedSo x arrivals trace v → u ≡ v
one-judged design x arrivals trace u v taken h k =
    let under : h.under ≡ k.under = one-arrivals arrivals (program x) h.under k.under h.arrives k.arrives in
    let V : arrived.Arrivals → Type 0 = λ r. IsVerdict (software x) (program x) (named_arrivals (program x) r) trace u in
    one-verdict (software x) (taken-clear design x taken) (program x) (taken-plain design x taken) (named_arrivals (program x) k.under) trace u v
    (subst V under h.verdict) k.verdict

accepted-same : (n m : ℕ) → verdict.Accepted n ≡ verdict.Accepted m → n ≡ m
accepted-same n m e = cc

-- a trace that is accepted has one line that tells it
pub one-accepted : (design arrivals trace a b : List ℕ) → IsAcceptedSo design arrivals trace a → IsAcceptedSo design arrivals trace b → a ≡ b
one-accepted design arrivals trace a b h k =
    let Y : designs.Design → Type 0 = λ x. IsYes x arrivals trace a in
    let y = along Y design h.0 k.0 h.1 k.1 h.2 in
    let v = one-judged design k.0 arrivals trace (verdict.Accepted y.0) (verdict.Accepted k.2.0) k.1 y.1 k.2.1 in
    y.2 ∙ ap yes_line (accepted-same y.0 k.2.0 v) ∙ sym k.2.2

not_refused : (design arrivals trace : List ℕ) → CanAccept design arrivals trace → (r : AcceptsRefusal) → RefusesAccepts design arrivals trace r → ⊥
not_refused design arrivals trace w (refusal.Untaken found) h = taken-not design w.taken_as w.taken found h
not_refused design arrivals trace w (refusal.Arrivals found) h =
    let P : designs.Design → Type 0 = λ x. arriving.Refuses arrivals (program x) found in
    refused-nothing arrivals (program w.taken_as) found (along P design h.0 w.taken_as h.1 w.taken h.2) w.judged.under w.judged.arrives
not_refused design arrivals trace w (refusal.Trace u) h =
    let P : designs.Design → Type 0 = λ x. IsJudged x arrivals trace (refusal_verdict u) in
    let t = told-so w.taken_as arrivals trace u (along P design h.0 w.taken_as h.1 w.taken h.2) in
    t.none w.lines (one-judged design w.taken_as arrivals trace t.is (verdict.Accepted w.lines) w.taken t.so w.judged)

one_refusal : (design arrivals trace : List ℕ) (r q : AcceptsRefusal) → RefusesAccepts design arrivals trace r → RefusesAccepts design arrivals trace q
    → r ≡ q
one_refusal design arrivals trace (refusal.Untaken f) (refusal.Untaken g) h k = ap refusal.Untaken (one-untaken design f g h k)
one_refusal design arrivals trace (refusal.Untaken f) (refusal.Arrivals g) h k = absurd (taken-not design k.0 k.1 f h)
one_refusal design arrivals trace (refusal.Untaken f) (refusal.Trace v) h k = absurd (taken-not design k.0 k.1 f h)
one_refusal design arrivals trace (refusal.Arrivals f) (refusal.Untaken g) h k = absurd (taken-not design h.0 h.1 g k)
one_refusal design arrivals trace (refusal.Arrivals f) (refusal.Arrivals g) h k =
    let P : designs.Design → Type 0 = λ x. arriving.Refuses arrivals (program x) f in
    ap refusal.Arrivals (one-refusal arrivals (program k.0) f g (along P design h.0 k.0 h.1 k.1 h.2) k.2)
one_refusal design arrivals trace (refusal.Arrivals f) (refusal.Trace v) h k =
    let P : designs.Design → Type 0 = λ x. arriving.Refuses arrivals (program x) f in
    let t = told-so k.0 arrivals trace v k.2 in
    absurd (refused-nothing arrivals (program k.0) f (along P design h.0 k.0 h.1 k.1 h.2) t.so.under t.so.arrives)
one_refusal design arrivals trace (refusal.Trace u) (refusal.Untaken g) h k = absurd (taken-not design h.0 h.1 g k)
one_refusal design arrivals trace (refusal.Trace u) (refusal.Arrivals g) h k =
    let P : designs.Design → Type 0 = λ x. arriving.Refuses arrivals (program x) g in
    let t = told-so h.0 arrivals trace u h.2 in
    absurd (refused-nothing arrivals (program h.0) g (along P design k.0 h.0 k.1 h.1 k.2) t.so.under t.so.arrives)
one_refusal design arrivals trace (refusal.Trace u) (refusal.Trace v) h k =
    let P : designs.Design → Type 0 = λ x. IsJudged x arrivals trace (refusal_verdict u) in
    let s = told-so k.0 arrivals trace u (along P design h.0 k.0 h.1 k.1 h.2) in
    let t = told-so k.0 arrivals trace v k.2 in
    ap refusal.Trace (sym s.back ∙ ap why_of (one-judged design k.0 arrivals trace s.is t.is k.1 s.so t.so) ∙ t.back)

pub acceptances-exact : (design arrivals trace : List ℕ) → IsExact (acceptances design arrivals trace)
acceptances-exact design arrivals trace = record {
  one = λ a b same r q h k. one_refusal (b Design) (b Arrivals) (b Trace) r q (rw (← same.0, ← same.1.0, ← same.1.1.0) h) k;
  able = λ a b same w r h. not_refused (b Design) (b Arrivals) (b Trace) (rw (← same.0, ← same.1.0, ← same.1.1.0) w) r h;
  made = λ a written w. record { taken_as = w.0; taken = w.1; lines = w.2.0; judged = w.2.1 };
  text = λ a b same x y h k. one-accepted (b Design) (b Arrivals) (b Trace) x y (rw (← same.0, ← same.1.0, ← same.1.1.0) h) k;
  stops = never-stops (acceptances design arrivals trace) (λ texts text stop h. h);
}
