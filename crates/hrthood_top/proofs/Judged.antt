-- What the verdict on a trace under the arrivals that were read tells of a design.
use Rattle.std.proofs.Common.{◌≡◌, ℕ, ◌<◌, List, length, IfSome, Err, sym, subst, arith}
use Rattle.ods_tree.specs.Designs as designs
use Rattle.ada_tree.specs.Programs.{Program}
use Rattle.ada_tree.specs.Rules.{MeetsRules}
use Rattle.arrivals_tree.specs.Arriving as arrived
use Rattle.arrivals_tree.specs.Arrived.{Arrives, horizon_limit}
use Rattle.guarantee.specs.Arrivals.{named_arrivals}
use Rattle.guarantee.specs.Programs.{program}
use Rattle.guarantee.specs.Software.{software}
use Rattle.law_traces.specs.Verdicts.{Verdict, Accepted, IsVerdict}
use Rattle.design_accepts.specs.Answers.{refusal_verdict}
use Rattle.design_accepts.specs.declared.unaccepted.Unaccepted.{Unaccepted}
use Rattle.design_accepts.specs.declared.unaccepted.Unaccepted.TheVariants as why
use Rattle.hrthood_top.specs.Acceptances.{IsJudgedSo, IsYes, RefusesTrace, halted_trace, yes_line}
use Rattle.hrthood_top.specs.Writing.{IsMade}
use Rattle.hrthood_top.proofs.ReplayLaws.{few-units}

-- a program that meets the rules has few units
pub few : (p q : Program) → q ≡ p → MeetsRules p → length q.units < 4294967296
few p q same meets =
    let P : Program → Type 0 = λ z. length z.units < 4294967296 in
    subst P (sym same) (let n = few-units p meets in omega (arith, n))

module _ (x : designs.Design) (arrivals trace : List ℕ) (p : Program) (a : arrived.Arrivals) (same : p ≡ program x)
    (arrives : Arrives horizon_limit arrivals p a) where
  abbrev By : Verdict → Type 0
  By v = IsVerdict (software x) p (named_arrivals p a) trace v

  by_verdict : (v : Verdict) → By v → IsJudgedSo x arrivals trace v
  by_verdict v h =
      let A : Program → Type 0 = λ q. Arrives horizon_limit arrivals q a in
      let V : Program → Type 0 = λ q. IsVerdict (software x) q (named_arrivals q a) trace v in
      record { under = a; arrives = subst A same arrives; verdict = subst V same h }

  pub judged-yes : (n : ℕ) (written : List ℕ) → By (Accepted n) → written ≡ yes_line n → IsYes x arrivals trace written
  judged-yes n written h e = (n, by_verdict (Accepted n) h, e)

  pub judged-halted : {X : Type 0} (view : X → List ℕ) (Makes : List ℕ → Type 0) (found : Unaccepted) → IfSome (refusal_verdict found) By
      → IsMade view Makes (RefusesTrace x arrivals trace) (Err (halted_trace found))
  judged-halted view Makes (why.Line line) h = by_verdict _ h
  judged-halted view Makes why.Times h = by_verdict _ h
  judged-halted view Makes (why.Cyclic thread) h = by_verdict _ h
  judged-halted view Makes why.Arrivals h = by_verdict _ h
  judged-halted view Makes (why.Requests thread) h = by_verdict _ h
  judged-halted view Makes (why.Script thread) h = by_verdict _ h
  judged-halted view Makes (why.Shared object) h = by_verdict _ h
  judged-halted view Makes why.NoMemory h = tt
