-- That the verb `verify` refuses a design and an arrivals text for one reason, and none that it can be done of.
use Rattle.std.proofs.Common.{◌≡◌, ℕ, List, ◌++◌, sym, ap, ap₂, subst, ◌∙◌}
use Rattle.ods_tree.specs.Designs as designs
use Rattle.ods_tree.specs.Ticks.{in_ticks}
use Rattle.ada_tree.specs.Programs.{Program}
use Rattle.ada_tree.specs.Reading.{Accepts}
use Rattle.arrivals_tree.specs.Arrived.{Arrives, horizon_limit}
use Rattle.arrivals_read.specs.Answers as arriving
use Rattle.arrivals_read.proofs.Shared.Refusals.{refused-nothing}
use Rattle.guarantee.specs.Programs.{program}
use Rattle.hrthood_top.specs.declared.file_kind.FileKind.TheVariants as kind
use Rattle.hrthood_top.specs.declared.verify.VerifyRefusal.{VerifyRefusal}
use Rattle.hrthood_top.specs.declared.verify.VerifyRefusal.TheVariants.{Design, Arrivals}
use Rattle.hrthood_top.specs.Replays.{IsAdaAlone, Replays}
use Rattle.hrthood_top.specs.Verifies.{CanVerify, IsVerified, RefusesVerify, trace_mark, verifies}
use Rattle.hrthood_top.proofs.GenerateLaws as generating
use Rattle.hrthood_top.proofs.OneDesign.{one-design}
use Rattle.hrthood_top.proofs.Replaying.{accepted_text}
use Rattle.hrthood_top.proofs.ReplayLaws.{one_arrivals, one-replay}
use Rattle.hrthood_top.proofs.VerbLaws.{IsExact, never-stops}

can_or_refuses : (design arrivals : List ℕ) → CanVerify design arrivals → (r : VerifyRefusal) → RefusesVerify design arrivals r → ⊥
can_or_refuses design arrivals w (Design refusal) h = generating.can_or_refuses design w.can refusal h
can_or_refuses design arrivals w (Arrivals found) h =
    let one : h.made.design ≡ w.can.design = one-design design h.made.design w.can.design h.made.reads w.can.reads in
    let A : designs.Design → Type 0 = λ x. Accepts h.text (program (in_ticks x)) in
    let own : Accepts h.text (program (in_ticks w.can.design)) = subst A one (accepted_text design h.text h.made) in
    let R : Program → Type 0 = λ p. arriving.Refuses arrivals p found in
    refused-nothing arrivals (program (in_ticks w.can.design)) found
    (subst R (sym (h.alone.says.alone (program (in_ticks w.can.design)) own)) h.alone.none) w.under w.arrives

can_make : (design arrivals written : List ℕ) → IsVerified design arrivals written → CanVerify design arrivals
can_make design arrivals written w =
    let t = w.replays.traces in
    let A : Program → Type 0 = λ p. Arrives horizon_limit arrivals p t.under in
    record {
      can = generating.can_make design w.text w.made;
      under = t.under;
      arrives = subst A (sym (t.says.alone (program (in_ticks w.made.design)) (accepted_text design w.text w.made))) t.arriving.arrives;
    }

one_refusal : (design arrivals : List ℕ) (r q : VerifyRefusal) → RefusesVerify design arrivals r → RefusesVerify design arrivals q → r ≡ q
one_refusal design arrivals (Design a) (Design b) h k = ap Design (generating.one_refusal design a b h k)
one_refusal design arrivals (Design a) (Arrivals f) h k
    = absurd (generating.can_or_refuses design (generating.can_make design k.text k.made) a h)
one_refusal design arrivals (Arrivals f) (Design b) h k
    = absurd (generating.can_or_refuses design (generating.can_make design h.text h.made) b k)
one_refusal design arrivals (Arrivals f) (Arrivals g) h k =
    let T : List ℕ → Type 0 = λ t. IsAdaAlone t arrivals f in
    ap Arrivals (one_arrivals k.text arrivals f g (subst T (generating.one-made design h.text k.text h.made k.made) h.alone) k.alone)

one_text : (design arrivals x y : List ℕ) → IsVerified design arrivals x → IsVerified design arrivals y → x ≡ y
one_text design arrivals x y h k =
    let text : h.text ≡ k.text = generating.one-made design h.text k.text h.made k.made in
    let R : List ℕ → Type 0 = λ t. Replays t arrivals h.trace in
    let trace : h.trace ≡ k.trace = one-replay k.text arrivals h.trace k.trace (subst R text h.replays) k.replays in
    h.whole ∙ ap₂ (λ t u. t ++ (trace_mark ++ u)) text trace ∙ sym k.whole

pub verifies-exact : (design arrivals : List ℕ) → IsExact (verifies design arrivals)
verifies-exact design arrivals = record {
  one = λ a b same r q h k. one_refusal (b kind.Design) (b kind.Arrivals) r q (rw (← same.0, ← same.1.0) h) k;
  able = λ a b same w r h. can_or_refuses (b kind.Design) (b kind.Arrivals) (rw (← same.0, ← same.1.0) w) r h;
  made = λ a written w. can_make (a kind.Design) (a kind.Arrivals) written w;
  text = λ a b same x y h k. one_text (b kind.Design) (b kind.Arrivals) x y (rw (← same.0, ← same.1.0) h) k;
  stops = never-stops (verifies design arrivals) (λ texts text stop h. h);
}
