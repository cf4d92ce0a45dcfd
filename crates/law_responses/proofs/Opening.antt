-- At the opening the log is empty.
use Rattle.std.specs.Prelude.{◌≡◌, ℕ, zero, suc, ◌+◌, ◌≤◌, Bool, true, false, List, [], ◌∷◌, map, slice_get, Option, Some, None, refl}
use Rattle.std.proofs.Common.{◌∙◌, ap, subst, inl, zero-le}
use Rattle.arrivals_tree.specs.declared.arrivals.Arrival.{Arrival}
use Rattle.rt_response.specs.declared.rows.ThreadRow.{ThreadRow}
use Rattle.machine.specs.Systems.{TaskUnit, ReleasePattern, Periodic, Requested}
use Rattle.machine.specs.States.{Effects, Ready, first_wait, first_time, first_task, opening}
use Rattle.law_responses.proofs.Logs.{Made, Log}
use Rattle.law_responses.proofs.Views.{Core, core, view, now_of}
use Rattle.law_responses.proofs.Frames.{Frame, AreKeptApart, Notes}
use Rattle.law_responses.proofs.Asking.{Came, Asked, Asks}
use Rattle.law_responses.proofs.Moves.{Along, AreUsers, AreTold}

abbrev pub empty : Log
empty = record { acts = []; ticks = [] }

abbrev pub nothing_noted : Notes
nothing_noted = record { current = λ j. 0; kept = λ j. None; taken = [] }

-- a task at the opening
first-core : (ts : List TaskUnit) (j : ℕ) (c : Core) → slice_get (map core (map first_task ts)) j ≡ Some c
    → (t : TaskUnit) × (slice_get ts j ≡ Some t) × (core (first_task t) ≡ c)
first-core [] j c e = cc
first-core (t ∷ ts) zero c e = let is : core (first_task t) ≡ c = cc in (t, refl, is)
first-core (t ∷ ts) (suc j) c e = first-core ts j c e

first-threads : (ts : List TaskUnit) → map (λ (c : Core). c.thread) (map core (map first_task ts)) ≡ ts
first-threads [] = refl
first-threads (t ∷ ts) = ap (λ us. t ∷ us) (first-threads ts)

not-ready : (t : ReleasePattern) → first_wait t ≡ Ready → ⊥
not-ready (Periodic offset period) e = cc
not-ready (Requested op ceiling separation jitter external) e = cc

first-asked : (f : Frame) (r : ℕ) (row : ThreadRow) (t : TaskUnit) (timing : ReleasePattern)
    → Asked f Effects 0 [] [] None r (record { next = first_time timing; readiness = first_wait timing; open' = false; unit = t.unit }) row timing
first-asked f r row t (Periodic offset period) = (λ k m e same. none k m e, (refl, inl zero-le))
  where
    none : (k : ℕ) (m : Made) → slice_get [] k ≡ Some m → m.nominal + row.period ≤ f.shift + offset
    none k m e = cc
first-asked f r row t (Requested op ceiling separation jitter external) = ((λ k m e same. none k m e, refl), came external, tt)
  where
    none : (k : ℕ) (m : Made) → slice_get [] k ≡ Some m → ⊥
    none k m e = cc

    came : (x : Bool) → Came f [] [] row t.unit x separation jitter None
    came true = refl
    came false = tt

pub opening-along : (f : Frame) (as' : List Arrival) → AreKeptApart f.system.threads [] as'
    → Along f (view (opening f.system as')) empty nothing_noted
opening-along f as' apart = record {
  base = record {
    clock = refl;
    logged = record { each = λ k m e. absurd (no_item k m e); fresh = λ k far. refl };
    written = record { same = first-threads f.system.threads };
    runs = λ j c e r has ready. absurd (idle j c e ready);
    made = λ k m e. absurd (no_item k m e);
  };
  asking = record {
    timed = record { each = λ k m e. absurd (no_item k m e); apart = λ j k m n row less e g same asks. absurd (no_item j m e) };
    of = λ j c e. let t = first-core f.system.threads j c e
        in subst (Asks f (now_of (view (opening f.system as'))) [] nothing_noted j) t.2 (first j t.0);
    apart = apart;
  };
}
  where
    no_item : (k : ℕ) (m : Made) → slice_get [] k ≡ Some m → ⊥
    no_item k m e = cc

    first : (j : ℕ) (t : TaskUnit) → Asks f (now_of (view (opening f.system as'))) [] nothing_noted j (core (first_task t))
    first j t = record {
      tidy = tt;
      few = λ k s has. zero-le;
      mid = λ k s has ends. absurd ends;
      fresh = λ r has ready. absurd (not-ready t.timing ready);
      asked = λ r row has asks. first-asked f r row t t.timing;
    }

    idle : (j : ℕ) (c : Core) → slice_get (map core (map first_task f.system.threads)) j ≡ Some c → c.readiness ≡ Ready → ⊥
    idle j c e ready = let t = first-core f.system.threads j c e in not-ready t.0.timing (ap (λ x. x.readiness) t.2 ∙ ready)

pub none-told : (f : Frame) → AreTold f [] []
none-told f j r t has at = refl

pub none-used : (f : Frame) → AreUsers f empty []
none-used f = record { count = refl; each = λ t o user e g. absurd (no_item t o e) }
  where
    no_item : (t : ℕ) (o : Option ℕ) → slice_get [] t ≡ Some o → ⊥
    no_item t o e = cc
