-- In each state of a run data are at home, and a task that enters an object finds them.
use Rattle.std.specs.Prelude.{◌≡◌, ℕ, zero, suc, List, ◌∷◌}
use Rattle.std.proofs.Common.{sym, ◌∙◌, ap, subst}
use Rattle.ada_tree.specs.Programs.{Program}
use Rattle.ada_tree.specs.Rules.{MeetsRules}
use Rattle.arrivals_tree.specs.declared.arrivals.Arrival.{Arrival}
use Rattle.arrivals_tree.specs.Arriving.{Arrivals}
use Rattle.arrivals_tree.specs.Acceptance.{IsAccepted}
use Rattle.machine.specs.Systems.{System, system}
use Rattle.machine.specs.Deeds.{Act, Enter, done}
use Rattle.machine.specs.States.{State, Object, opening}
use Rattle.machine.specs.Steps.{step}
use Rattle.machine.specs.Meanings.{run, start}
use Rattle.law_ceilings.specs.Premises.{MayExclude}
use Rattle.law_ceilings.specs.Sections.{sections}
use Rattle.law_ceilings.proofs.Shared.Pieces.{closers, AreFit}
use Rattle.law_ceilings.proofs.Shared.Permissions.{Falls, AllFall}
use Rattle.law_ceilings.proofs.Shared.Fitting.{ActFits, IsEntered, done-fits}
use Rattle.law_ceilings.proofs.Shared.Excludes.{Excludes}
use Rattle.law_ceilings.proofs.Shared.Excluding.{falls-text, falls-bars, entry-free, step-excludes, opening-excludes}
use Rattle.law_ceilings.proofs.Shared.Programs.{may-exclude}
use Rattle.law_ceilings.specs.Homes.{AreHome, EntersHome}
use Rattle.law_ceilings.proofs.Shared.Lending.{Lends, step-lends, opening-lends}

module _ (y : System) (as' : List Arrival) (ex : MayExclude y as') where
  -- what is kept of a state: sections are held once, and data are at home
  pub record KeepsHome (s : State) : Type 0 where
    pub excludes : Excludes y as' ex.ranking s
    pub lends : Lends y s

  pub opening-keeps-home : KeepsHome (opening y as')
  opening-keeps-home = record { excludes = opening-excludes y as' ex; lends = opening-lends y as' }

  -- each step keeps it
  pub step-keeps-home : (s : State) → KeepsHome s → KeepsHome (step y s).0
  step-keeps-home s k = record {
    excludes = step-excludes y as' ex s k.excludes;
    lends = step-lends y (AllFall ex.ranking) (falls-text y as' ex) s k.excludes.keeps k.lends;
  }

  pub run-keeps-home : (n : ℕ) (s : State) → KeepsHome s → KeepsHome (run y n s).0
  run-keeps-home zero s k = k
  run-keeps-home (suc n) s k = run-keeps-home n (step y s).0 (step-keeps-home s k)

  -- a task that enters an object finds it open
  pub keeps-home-enters : (s : State) → KeepsHome s → EntersHome y s
  keeps-home-enters s k i j op values t p ps effects ran here is enters low =
      let sound = k.excludes.keeps.sound i t here in
      let fits = done-fits y (Falls ex.ranking) ((falls-text y as' ex).closed i) p t.vars ps (subst (AreFit (Falls ex.ranking)) is sound.fits) in
      let acts : ActFits y (Falls ex.ranking) (closers (p ∷ ps)) (Enter j op values) (done y p t.vars ps).pieces =
      subst (λ (a : Act). ActFits y (Falls ex.ranking) (closers (p ∷ ps)) a (done y p t.vars ps).pieces) enters fits.1 in
      let entered : IsEntered y (Falls ex.ranking) (Object j) (sections t) =
      subst (IsEntered y (Falls ex.ranking) (Object j)) (sym (ap closers is) ∙ sound.closes) acts.0 in
      let free = entry-free y as' ex s k.excludes i t (Object j)
      (record { effects = effects; ran = ran; stands = here; low = low; entered = entered }) in
      let there = (falls-bars y as' ex (Object j) (sections t) entered).1 in
      (free, there.0, there.1, k.lends.home j there.0 there.1 free)

  -- so it is in every state that a run reaches
  pub run-home : (n : ℕ) → AreHome y (run y n (opening y as')).0 × EntersHome y (run y n (opening y as')).0
  run-home n =
      let k = run-keeps-home n (opening y as') opening-keeps-home in
      (k.lends.home, keeps-home-enters (run y n (opening y as')).0 k)

-- order numbers say nothing of where data are
pub home-renumbered : (y : System) (s t : State) → t ≡ record s { orders = t.orders } → AreHome y s × EntersHome y s → AreHome y t × EntersHome y t
home-renumbered y s t same h = (let P : State → Type 0 = λ z. AreHome y z × EntersHome y z in subst P (sym same) h)

-- the same of programs
pub program-home : (limit : ℕ) (p : Program) (a : Arrivals) (n : ℕ) → MeetsRules p → IsAccepted limit p a
    → AreHome (system p a) (run (system p a) n (start p a)).0 × EntersHome (system p a) (run (system p a) n (start p a)).0
program-home limit p a n rules accepted = run-home (system p a) a.items (may-exclude p rules limit a accepted) n
