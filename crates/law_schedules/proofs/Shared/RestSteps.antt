-- A level rests within its response time, and with it a chain of its activations.
use Rattle.std.specs.Prelude.{◌≡◌, ℕ, zero, suc, ◌+◌, ◌≤◌, ◌<◌, Bool, true, false, List, [], ◌∷◌, Option, nat_lt, refl}
use Rattle.std.proofs.Common.{sym, ◌∙◌, arith, zero-le}
use Rattle.law_schedules.specs.Schedules.{Activation, Schedule, horizon, is_over, IsOverBy, IsStart}
use Rattle.law_schedules.proofs.Counts.{each-get, each-from, IsReady}
use Rattle.law_schedules.proofs.Windows.{over-later}
use Rattle.law_schedules.proofs.Shared.Law.{IsNext, on-time, response-some, start-after}
use Rattle.law_schedules.specs.Rests.{LevelsRest, IsLinked, AreOver, ChainsRest}

pub levels-rest : LevelsRest
levels-rest rows v s i row b from table fits schedule asks gets near = go (horizon s) refl
  where
    least : 1 ≤ b.response
    least = response-some rows v i row b table fits asks gets

    go : (h : ℕ) → horizon s ≡ h → (time : ℕ) × (from < time) × (time ≤ from + b.response) × IsStart s i time
    go zero e = absurd (omega (arith, near, least, e))
    go (suc t) e =
        let inside : t ≤ horizon s = omega (arith, e) in
        let ready : IsReady rows v s t = record { schedule = schedule; near = omega (arith, e); on_time = on-time rows v s table fits schedule t inside } in
        let first : IsStart s i 0 = each-from (IsOverBy i 0) s.activations (λ j c stands low before. absurd (omega (arith, before))) in
        let next : IsNext s i from (from + b.response) = start-after rows v s t i row b from table fits ready asks gets least (omega (arith, near, e))
        from 0 first zero-le (omega arith) in
        (next.time, next.after, next.by, next.start)

-- what is over at one time and not at another
before-over : (end : Option ℕ) (early late : ℕ) → is_over end late ≡ true → is_over end early ≡ false → early < late
before-over end early late over open' = by (nat_lt early late) refl
  where
    no : true ≡ false → ⊥
    no e = cc

    by : (b : Bool) → nat_lt early late ≡ b → early < late
    by true e = grind arith
    by false e =
        let less : late ≤ early = grind arith in absurd (no (sym (over-later end late early less over) ∙ open'))

linked-over : (s : Schedule) (i time : ℕ) → IsStart s i time → (a : Activation) (more : List Activation) → is_over a.end time ≡ true → IsLinked s i a more
    → AreOver time a more
linked-over s i time start a [] over linked = over
linked-over s i time start a (next ∷ more) over linked =
    let soon : next.release < time = before-over a.end next.release time over linked.2 in
    let next_over : is_over next.end time ≡ true
    = each-get (IsOverBy i time) s.activations linked.0.0 next start linked.0.1 linked.1 soon in
    (over, linked-over s i time start next more next_over linked.3)

all-later : (early late : ℕ) → early ≤ late → (a : Activation) (more : List Activation) → AreOver early a more → AreOver late a more
all-later early late h a [] over = over-later a.end early late h over
all-later early late h a (next ∷ more) over = (over-later a.end early late h over.0, all-later early late h next more over.1)

pub chains-rest : ChainsRest
chains-rest rows v s i row b k first more table fits schedule asks gets stands of_level near linked =
    let rest = levels-rest rows v s i row b first.release table fits schedule asks gets near in
    let over : is_over first.end rest.0 ≡ true = each-get (IsOverBy i rest.0) s.activations k first rest.3 stands of_level rest.1 in
    all-later rest.0 (first.release + b.response) rest.2 first more (linked-over s i rest.0 rest.3 first more over linked)
