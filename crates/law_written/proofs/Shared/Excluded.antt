-- What exclusion keeps of the tasks of each state of a run, as the law of a whole run asks for it.
use Rattle.std.specs.Prelude.{◌≡◌, ℕ, zero, suc, List, [], ◌∷◌, slice_get, Some, refl}
use Rattle.std.proofs.Common.{sym, ◌∙◌, ap, subst, inl, inr}
use Rattle.arrivals_tree.specs.declared.arrivals.Arrival.{Arrival}
use Rattle.machine.specs.Systems.{System}
use Rattle.machine.specs.States.{State, Task, Resource, Object, Control, Ready, Readiness, Waiting, Asleep, opening}
use Rattle.machine.specs.Meanings.{run}
use Rattle.law_ceilings.specs.Sections.{IsAmong, sections}
use Rattle.law_ceilings.proofs.Shared.Kept.{IsAtRest}
use Rattle.law_ceilings.specs.Premises.{Ranking, MayExclude}
use Rattle.law_ceilings.proofs.Shared.Excludes.{AreHeld, Excludes}
use Rattle.law_ceilings.proofs.Shared.Excluding.{opening-excludes, run-excludes}
use Rattle.law_written.proofs.Shared.Claims.{Holds}
use Rattle.law_written.proofs.Shared.StepsBack.{IsKept}

-- an object that is held is among the sections
among_held : (j d : ℕ) (cs : List Resource) → Holds j d cs → IsAmong (Object j) cs
among_held j d [] h = absurd h
among_held j d (Control k ∷ cs) h = inr (among_held j d cs h)
among_held j zero (Object k ∷ cs) h = inl (ap Object h)
among_held j (suc d) (Object k ∷ cs) h = inr (among_held j d cs h)

-- it is held at one depth
one_depth : (y : System) (as' : List Arrival) (j d d' : ℕ) (cs : List Resource) → AreHeld y as' cs → Holds j d cs → Holds j d' cs → d ≡ d'
one_depth y as' j d d' [] held h h' = absurd h
one_depth y as' j d d' (Control k ∷ cs) held h h' = one_depth y as' j d d' cs held.2 h h'
one_depth y as' j zero zero (Object k ∷ cs) held h h' = refl
one_depth y as' j zero (suc d') (Object k ∷ cs) held h h' =
    absurd (held.0 (let A : ℕ → Type 0 = λ n. IsAmong (Object n) cs in subst A (sym h) (among_held j d' cs h')))
one_depth y as' j (suc d) zero (Object k ∷ cs) held h h' =
    absurd (held.0 (let A : ℕ → Type 0 = λ n. IsAmong (Object n) cs in subst A (sym h') (among_held j d cs h)))
one_depth y as' j (suc d) (suc d') (Object k ∷ cs) held h h' = ap suc (one_depth y as' j d d' cs held.2 h h')

-- a task that is not ready has nothing left
at_rest : (r : Readiness) (t : Task) → IsAtRest r t → (r ≡ Ready → ⊥) → t.pieces ≡ []
at_rest Ready t rests not_ready = absurd (not_ready refl)
at_rest Waiting t rests not_ready = rests.1
at_rest (Asleep until) t rests not_ready = rests.1

kept_of : (y : System) (as' : List Arrival) (r : Ranking) (s : State) → Excludes y as' r s → IsKept s.tasks
kept_of y as' r s x = record {
  idles = λ k t at not_ready. at_rest t.readiness t (x.keeps.sound k t at).rests not_ready;
  closed = λ k t at. (x.keeps.sound k t at).closes;
  alone = λ j k k' d d' u u' at at' h h'.
      let same : k ≡ k' = x.keeps.alone k k' u u' (Object j) at at' (among_held j d (sections u) h) (among_held j d' (sections u') h') in
      let one : u ≡ u' = some_same u u' (sym at ∙ ap (slice_get s.tasks) same ∙ at') in
      let H : Task → Type 0 = λ z. Holds j d' (sections z) in
      (same, one_depth y as' j d d' (sections u) (x.held k u at) h (subst H (sym one) h'));
}
  where
    some_same : (a b : Task) → Some a ≡ Some b → a ≡ b
    some_same a b e = cc

pub run_kept : (y : System) (as' : List Arrival) → MayExclude y as' → (m : ℕ) → IsKept (run y m (opening y as')).0.tasks
run_kept y as' ex m = kept_of y as' ex.ranking (run y m (opening y as')).0 (run-excludes y as' ex m (opening y as') (opening-excludes y as' ex))
