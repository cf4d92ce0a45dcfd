-- Every run keeps its holders safe.
use Rattle.std.specs.Prelude.{◌≡◌, ◌≤◌, ◌<◌, ◌==◌, nat_lt, ℕ, Bool, true, false, List, [], ◌∷◌, ℤ, ◌<ℤ◌, refl}
use Rattle.std.proofs.Common.{sym, ◌∙◌, ap, subst, arith, inl, inr}
use Rattle.std.proofs.lemmas.Int.{ints}
use Rattle.std.proofs.lemmas.Option.{same_Some}
use Rattle.arrivals_tree.specs.declared.arrivals.Arrival.{Arrival}
use Rattle.machine.specs.Systems.{System}
use Rattle.machine.specs.States.{State, Task, Readiness, Asleep, Waiting, Ready, Resource, Held, opening}
use Rattle.machine.specs.Meanings.{run}
use Rattle.law_ceilings.specs.Sections.{Stands, IsNumbered, AreStacked, sections}
use Rattle.law_ceilings.proofs.Shared.Kept.{IsAtRest, GoesBefore}
use Rattle.law_ceilings.specs.Premises.{MayExclude}
use Rattle.law_ceilings.proofs.Shared.Excludes.{AreHeld, Excludes}
use Rattle.law_ceilings.specs.Holders.{StandsBefore, AreOnce, AreSafe}
use Rattle.law_ceilings.proofs.Shared.Moves.{stacked-base}
use Rattle.law_ceilings.proofs.Shared.Excluding.{opening-excludes, run-excludes}
use Rattle.law_ceilings.proofs.Numbers.{Differ, opening-differs, run-differs}

held-once : (y : System) (as' : List Arrival) (ss : List Resource) → AreHeld y as' ss → AreOnce ss
held-once y as' [] h = tt
held-once y as' (s ∷ ss) h = (h.0, held-once y as' ss h.2)

at-rest : (t : Task) → IsAtRest t.readiness t → (t.readiness ≡ Ready → ⊥) → t.inside ≡ []
at-rest t rests not = by t.readiness refl rests
  where
    by : (r : Readiness) → t.readiness ≡ r → IsAtRest r t → t.inside ≡ []
    by Ready e h = absurd (not e)
    by Waiting e h = h.0
    by (Asleep until) e h = h.0

module _ (y : System) (as' : List Arrival) (ex : MayExclude y as') where
  safe : (s : State) → Excludes y as' ex.ranking s → Differ s.tasks s.orders → AreSafe y s
  safe s x differ = record {
    before = λ i j t u o p h hs at bt an bn ready inside first.
        by i j t u o p h hs at bt an bn ready inside first (i == j) refl (nat_lt u.active t.thread.priority) refl;
    each = λ i t at.
        let sound = x.keeps.sound i t at in
        record {
          stacked = sound.stacked;
          above = stacked-base y t.thread.priority t.active t.inside sound.stacked;
          plain = λ nothing. subst (AreStacked y t.thread.priority t.active) nothing sound.stacked;
          once = held-once y as' (sections t) (x.held i t at);
          rests = at-rest t sound.rests;
        };
    alone = x.keeps.alone;
    differ = differ;
  }
    where
      by : (i j : ℕ) (t u : Task) (o p : ℤ) (h : Held) (hs : List Held) → Stands s.tasks i t → Stands s.tasks j u → IsNumbered s.orders i o
          → IsNumbered s.orders j p
          → t.readiness ≡ Ready → u.inside ≡ h ∷ hs → StandsBefore t.active o u.active p
          → (b : Bool) → (i == j) ≡ b → (c : Bool) → nat_lt u.active t.thread.priority ≡ c → u.active < t.thread.priority
      by i j t u o p h hs at bt an bn ready inside first b e true f = grind arith
      by i j t u o p h hs at bt an bn ready inside first true e false f = absurd (itself first)
        where
          here : i ≡ j
          here = grind arith

          same : u ≡ t
          same = same_Some u t (sym (subst (λ k. Stands s.tasks k u) (sym here) bt) ∙ at)

          number : o ≡ p
          number = same_Some o p (sym an ∙ subst (λ k. IsNumbered s.orders k p) (sym here) bn)

          itself : StandsBefore t.active o u.active p → ⊥
          itself (inl less) = let is : u.active ≡ t.active = ap (λ z. z.active) same in omega arith
          itself (inr level) = let is : o ≡ p = number in let less : o <ℤ p = level.1 in let never : p <ℤ p = subst (λ z. z <ℤ p) is less
              in omega (arith, ints)
      by i j t u o p h hs at bt an bn ready inside first false e false f = absurd (clash first)
        where
          other : i ≡ j → ⊥
          other k = grind arith

          leads : GoesBefore u.active p t.active o
          leads = x.keeps.leads i j t u o p h hs at bt an bn other ready inside (let low : t.thread.priority ≤ u.active = grind arith in low)

          clash : StandsBefore t.active o u.active p → ⊥
          clash (inl less) = let most : t.active ≤ u.active = leads.0 in omega arith
          clash (inr level) = let back : p <ℤ o = leads.1 level.0 in let forth : o <ℤ p = level.1 in omega (arith, ints)

  -- every state that a run reaches has safe holders
  pub run-safe : (n : ℕ) → AreSafe y (run y n (opening y as')).0
  run-safe n =
      safe (run y n (opening y as')).0 (run-excludes y as' ex n (opening y as') (opening-excludes y as' ex))
      (run-differs y n (opening y as') (opening-differs y as'))
