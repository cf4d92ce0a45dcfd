-- A chain of threads that rest within so many ticks takes no longer: each of its activations is released before a time by which they all rest.
use Rattle.std.specs.Prelude.{◌≡◌, ℕ, ◌+◌, ◌≤◌, ◌<◌, ◌&&◌, Bool, true, false, List, [], ◌∷◌, Option, Some, None, ⊤, refl}
use Rattle.std.specs.List.{cons_option}
use Rattle.std.proofs.Common.{subst, arith}
use Rattle.seq_tree.specs.Lists.{Each}
use Rattle.seq_tree.specs.Names.{Name, same_name}
use Rattle.ods_tree.specs.Walk.{only_if}
use Rattle.guarantee.specs.Events.{Release, Arrive, Enter, Leave, Request, Print, End, Stop, Event, By, Horizon}
use Rattle.guarantee.specs.Requests.{Asked, Taken, Done, Pending, notices}
use Rattle.guarantee.specs.Bounded.{Either, EndsBy}
use Rattle.law_lists.proofs.Shared.Lists.{each-to}
use Rattle.law_chains.specs.AtOnce.{AreServedAtOnce}
use Rattle.law_chains.specs.Chains.{Leads, Starts, ChainResponds}
use Rattle.law_chains.proofs.Shared.ChainSteps.{either_map, ends-later, served-if, asked}
use Rattle.law_responses.specs.Resting.{RestsBy}
use Rattle.law_chain_bounds.specs.Requests.{EndAfter, RequestsComeBeforeEnds}
use Rattle.law_chain_bounds.specs.Levels.{RestWithin, ChainsOfLevelsRespond}

-- an end by a time, and ends after another
between : (early late : ℕ) (thread : Name) (told : List Event) → EndAfter early told → EndsBy thread late told → early < late
between early late thread [] after e = absurd e
between early late thread (By at task (End used) ∷ told) after e = by (same_name task thread) e (between early late thread told after.1)
  where
    by : (b : Bool) → Either b (at ≤ late) (EndsBy thread late told) → (EndsBy thread late told → early < late) → early < late
    by true soon later = omega (arith, after.0, soon)
    by false h later = later h
between early late thread (By at task (Release value) ∷ told) after e = between early late thread told after e
between early late thread (By at task (Arrive value) ∷ told) after e = between early late thread told after e
between early late thread (By at task (Enter op values) ∷ told) after e = between early late thread told after e
between early late thread (By at task (Leave op values) ∷ told) after e = between early late thread told after e
between early late thread (By at task (Request target value) ∷ told) after e = between early late thread told after e
between early late thread (By at task (Print value) ∷ told) after e = between early late thread told after e
between early late thread (By at task (Stop object priority ceiling) ∷ told) after e = between early late thread told after e
between early late thread (Horizon at ∷ told) after e = between early late thread told after e

-- what is asked of the threads of a chain is asked behind each event
rests-behind : (time : ℕ) (e : Event) (told : List Event) (thread : Name) → RestsBy time (e ∷ told) thread → RestsBy time told thread
rests-behind time (By at task (Release value)) told thread h = h.1
rests-behind time (By at task (Arrive value)) told thread h = h
rests-behind time (By at task (Enter op values)) told thread h = h
rests-behind time (By at task (Leave op values)) told thread h = h
rests-behind time (By at task (Request target value)) told thread h = h
rests-behind time (By at task (Print value)) told thread h = h
rests-behind time (By at task (End used)) told thread h = h
rests-behind time (By at task (Stop object priority ceiling)) told thread h = h
rests-behind time (Horizon at) told thread h = h

asks-behind : (e : Event) (told : List Event) → RequestsComeBeforeEnds (e ∷ told) → RequestsComeBeforeEnds told
asks-behind (By at task (Release value)) told h = h
asks-behind (By at task (Arrive value)) told h = h
asks-behind (By at task (Enter op values)) told h = h
asks-behind (By at task (Leave op values)) told h = h
asks-behind (By at task (Request target value)) told h = h.1
asks-behind (By at task (Print value)) told h = h
asks-behind (By at task (End used)) told h = h
asks-behind (By at task (Stop object priority ceiling)) told h = h
asks-behind (Horizon at) told h = h

-- a thread whose requests are served at once, from somewhere in a trace on
abbrev IsServed : List Event → Name → Type 0
IsServed told thread = (o : Option Pending) × AreServedAtOnce o (notices thread told)

served-behind : (e : Event) (told : List Event) (thread : Name) → IsServed (e ∷ told) thread → IsServed told thread
served-behind (By at task (Release value)) told thread h = served-if (same_name task thread) h.0 (Taken at value) (notices thread told) h.1
served-behind (By at task (Arrive value)) told thread h = served-if (same_name task thread) h.0 (Asked at value) (notices thread told) h.1
served-behind (By at task (Enter op values)) told thread h = h
served-behind (By at task (Leave op values)) told thread h = h
served-behind (By at task (Request target value)) told thread h = served-if (same_name target thread) h.0 (Asked at value) (notices thread told) h.1
served-behind (By at task (Print value)) told thread h = h
served-behind (By at task (End used)) told thread h = served-if (same_name task thread) h.0 (Done at) (notices thread told) h.1
served-behind (By at task (Stop object priority ceiling)) told thread h = h
served-behind (Horizon at) told thread h = h

record AreGood (time : ℕ) (threads : List Name) (told : List Event) : Type 0 where
  rests : Each (RestsBy time told) threads
  served : Each (IsServed told) threads
  asks : RequestsComeBeforeEnds told

good-behind : (time : ℕ) (threads : List Name) (e : Event) (told : List Event) → AreGood time threads (e ∷ told) → AreGood time threads told
good-behind time threads e told g = record {
  rests = each-to (RestsBy time (e ∷ told)) (RestsBy time told) threads (rests-behind time e told) g.rests;
  served = each-to (IsServed (e ∷ told)) (IsServed told) threads (served-behind e told) g.served;
  asks = asks-behind e told g.asks;
}

-- the others of a chain
good-others : (time : ℕ) (next : Name) (more : List Name) (told : List Event) → AreGood time (next ∷ more) told → AreGood time more told
good-others time next more told g = record { rests = g.rests.1; served = g.served.1; asks = g.asks }

module _ (time latest : ℕ) (next : Name) (more : List Name)
    (lead : (told : List Event) → EndsBy next time told → AreGood time more told → Leads latest next more told) where
  -- the thread that is requested is released at the time of the request, and leads on
  starts : (first : Pending) → first.time < time → (told : List Event) → AreServedAtOnce (Some first) (notices next told)
      → AreGood time (next ∷ more) told → Starts latest next more told
  starts first soon [] served g = absurd served
  starts first soon (By at task (Release value) ∷ told) served g =
      by (same_name task next) served g.rests.0.0 (λ s. starts first soon told s behind)
    where
      behind : AreGood time (next ∷ more) told
      behind = good-behind time (next ∷ more) (By at task (Release value)) told g

      by : (b : Bool) → AreServedAtOnce (Some first) (cons_option (only_if b (Taken at value)) (notices next told))
          → Either b (at < time → EndsBy next time told) ⊤ → (AreServedAtOnce (Some first) (notices next told) → Starts latest next more told)
          → Either b (Leads latest next more told) (Starts latest next more told)
      by true s ends later = lead told (ends (omega (arith, s.0, soon))) (good-others time next more told behind)
      by false s ends later = later s
  starts first soon (By at task (Arrive value) ∷ told) served g =
      by (same_name task next) served (λ s. starts first soon told s (good-behind time (next ∷ more) (By at task (Arrive value)) told g))
    where
      by : (b : Bool) → AreServedAtOnce (Some first) (cons_option (only_if b (Asked at value)) (notices next told))
          → (AreServedAtOnce (Some first) (notices next told) → Starts latest next more told) → Starts latest next more told
      by true s later = absurd s
      by false s later = later s
  starts first soon (By at task (Request target value) ∷ told) served g =
      by (same_name target next) served
      (λ s. starts first soon told s (good-behind time (next ∷ more) (By at task (Request target value)) told g))
    where
      by : (b : Bool) → AreServedAtOnce (Some first) (cons_option (only_if b (Asked at value)) (notices next told))
          → (AreServedAtOnce (Some first) (notices next told) → Starts latest next more told) → Starts latest next more told
      by true s later = absurd s
      by false s later = later s
  starts first soon (By at task (End used) ∷ told) served g =
      by (same_name task next) served (λ s. starts first soon told s (good-behind time (next ∷ more) (By at task (End used)) told g))
    where
      by : (b : Bool) → AreServedAtOnce (Some first) (cons_option (only_if b (Done at)) (notices next told))
          → (AreServedAtOnce (Some first) (notices next told) → Starts latest next more told) → Starts latest next more told
      by true s later = later s
      by false s later = later s
  starts first soon (By at task (Enter op values) ∷ told) served g
      = starts first soon told served (good-behind time (next ∷ more) (By at task (Enter op values)) told g)
  starts first soon (By at task (Leave op values) ∷ told) served g
      = starts first soon told served (good-behind time (next ∷ more) (By at task (Leave op values)) told g)
  starts first soon (By at task (Print value) ∷ told) served g
      = starts first soon told served (good-behind time (next ∷ more) (By at task (Print value)) told g)
  starts first soon (By at task (Stop object priority ceiling) ∷ told) served g
      = starts first soon told served (good-behind time (next ∷ more) (By at task (Stop object priority ceiling)) told g)
  starts first soon (Horizon at ∷ told) served g = starts first soon told served (good-behind time (next ∷ more) (Horizon at) told g)

  -- within an activation that ends by the time, requests lead on
  leads-on : (thread : Name) (told : List Event) → EndsBy thread time told → AreGood time (next ∷ more) told → Leads latest thread (next ∷ more) told
  leads-on thread [] e g = tt
  leads-on thread (By at task (End used) ∷ told) e g =
      either_map (same_name task thread) (at ≤ time) (EndsBy thread time told) ⊤ (Leads latest thread (next ∷ more) told) (λ k. tt)
      (λ k. leads-on thread told k (good-behind time (next ∷ more) (By at task (End used)) told g)) e
  leads-on thread (By at task (Request target value) ∷ told) e g = (
    by (same_name task thread) (same_name target next) g.served.0.1,
    leads-on thread told e behind,
  )
    where
      behind : AreGood time (next ∷ more) told
      behind = good-behind time (next ∷ more) (By at task (Request target value)) told g

      by : (a b : Bool) → AreServedAtOnce g.served.0.0 (cons_option (only_if b (Asked at value)) (notices next told))
          → Either (a && b) (Starts latest next more told) ⊤
      by true true s =
          starts (record { time = at; value = value }) (between at time thread told g.asks.0 e) told
          (asked true g.served.0.0 at value (notices next told) refl s) behind
      by true false s = tt
      by false true s = tt
      by false false s = tt
  leads-on thread (By at task (Release value) ∷ told) e g
      = leads-on thread told e (good-behind time (next ∷ more) (By at task (Release value)) told g)
  leads-on thread (By at task (Arrive value) ∷ told) e g
      = leads-on thread told e (good-behind time (next ∷ more) (By at task (Arrive value)) told g)
  leads-on thread (By at task (Enter op values) ∷ told) e g
      = leads-on thread told e (good-behind time (next ∷ more) (By at task (Enter op values)) told g)
  leads-on thread (By at task (Leave op values) ∷ told) e g
      = leads-on thread told e (good-behind time (next ∷ more) (By at task (Leave op values)) told g)
  leads-on thread (By at task (Print value) ∷ told) e g
      = leads-on thread told e (good-behind time (next ∷ more) (By at task (Print value)) told g)
  leads-on thread (By at task (Stop object priority ceiling) ∷ told) e g
      = leads-on thread told e (good-behind time (next ∷ more) (By at task (Stop object priority ceiling)) told g)
  leads-on thread (Horizon at ∷ told) e g = leads-on thread told e (good-behind time (next ∷ more) (Horizon at) told g)

-- within an activation that ends by a time by which all rest, a chain leads to an end by then
leads-by : (time latest : ℕ) → time ≤ latest → (more : List Name) (thread : Name) (told : List Event) → EndsBy thread time told
    → AreGood time more told → Leads latest thread more told
leads-by time latest low [] thread told e g = ends-later thread time latest low told e
leads-by time latest low (next ∷ more) thread told e g =
    leads-on time latest next more (λ told' e' g'. leads-by time latest low more next told' e' g') thread told e g

module _ (until ticks : ℕ) (first : Name) (more : List Name) where
  -- what is asked of a trace, from somewhere in it on
  record IsReady (told : List Event) : Type 0 where
    rest : RestWithin until told ticks (first ∷ more)
    served : Each (IsServed told) more
    asks : RequestsComeBeforeEnds told

  ready-behind : (e : Event) (told : List Event) → IsReady (e ∷ told) → IsReady told
  ready-behind e told h = record {
    rest = λ from near.
        let r = h.rest from near in
        (r.0, r.1, r.2, each-to (RestsBy r.0 (e ∷ told)) (RestsBy r.0 told) (first ∷ more) (rests-behind r.0 e told) r.3);
    served = each-to (IsServed (e ∷ told)) (IsServed told) more (served-behind e told) h.served;
    asks = asks-behind e told h.asks;
  }

  chain : (told : List Event) → IsReady told → ChainResponds until told ticks first more
  chain [] h = tt
  chain (By at task (Release value) ∷ told) h = (by (same_name task first) refl, chain told behind)
    where
      behind : IsReady told
      behind = ready-behind (By at task (Release value)) told h

      by : (b : Bool) → same_name task first ≡ b → Either b (at + ticks ≤ until → Leads (at + ticks) first more told) ⊤
      by false is = tt
      by true is = λ near.
          let r = h.rest at near in
          let others = behind.rest at near in
          leads-by r.0 (at + ticks) r.2 more first told (ends is r.3.0 r.1)
          (record {
            rests = each-to (RestsBy r.0 (By at task (Release value) ∷ told)) (RestsBy r.0 told) more
                (rests-behind r.0 (By at task (Release value)) told) r.3.1;
            served = behind.served;
            asks = behind.asks;
          })
        where
          ends : same_name task first ≡ true → {time : ℕ} → RestsBy time (By at task (Release value) ∷ told) first → at < time → EndsBy first time told
          ends is {time} g less = subst (λ b. Either b (at < time → EndsBy first time told) ⊤) is g.0 less
  chain (By at task (Arrive value) ∷ told) h = chain told (ready-behind (By at task (Arrive value)) told h)
  chain (By at task (Enter op values) ∷ told) h = chain told (ready-behind (By at task (Enter op values)) told h)
  chain (By at task (Leave op values) ∷ told) h = chain told (ready-behind (By at task (Leave op values)) told h)
  chain (By at task (Request target value) ∷ told) h = chain told (ready-behind (By at task (Request target value)) told h)
  chain (By at task (Print value) ∷ told) h = chain told (ready-behind (By at task (Print value)) told h)
  chain (By at task (End used) ∷ told) h = chain told (ready-behind (By at task (End used)) told h)
  chain (By at task (Stop object priority ceiling) ∷ told) h = chain told (ready-behind (By at task (Stop object priority ceiling)) told h)
  chain (Horizon at ∷ told) h = chain told (ready-behind (Horizon at) told h)

pub chains-of-levels-respond : ChainsOfLevelsRespond
chains-of-levels-respond until ticks told first more rest asks served =
    chain until ticks first more told (record {
      rest = rest;
      served = each-to (λ n. AreServedAtOnce None (notices n told)) (IsServed told) more (λ n h. (None, h)) served;
      asks = asks;
    })
