-- A whole run with its logs: one at each of its states, all growing into the last.
use Rattle.std.specs.Prelude.{◌≡◌, ℕ, zero, suc, ◌+◌, ◌≤◌, ◌<◌, []}
use Rattle.std.proofs.Common.{arith, le_refl}
use Rattle.machine.specs.States.{State}
use Rattle.machine.specs.Steps.{step}
use Rattle.machine.specs.Meanings.{run}
use Rattle.law_responses.proofs.Logs.{Log}
use Rattle.law_responses.proofs.Views.{view}
use Rattle.law_responses.proofs.Frames.{Frame, IsFramed, Notes}
use Rattle.law_responses.proofs.Moves.{Along, Grown, Moved, since, grown-still, grown-then, quiet-none}
use Rattle.law_responses.proofs.Effecting.{IsFit}
use Rattle.law_responses.proofs.Stepping.{step_users, run_users, step-moves}

-- the log at a state of a run, which has grown from the first and grows into the last
pub record LogAt (f : Frame) (m q : ℕ) (s : State) (first last : Log) : Type 0 where
  pub log : Log
  pub notes : Notes
  pub along : Along f (view (run f.system q s).0) log notes
  pub from : Grown f (view s) (view (run f.system q s).0) first log (run f.system q s).1 (run_users f.system q s)
  pub more : ℕ
  pub count : q + more ≡ m
  pub to : Grown f (view (run f.system q s).0) (view (run f.system m s).0) log last (run f.system more (run f.system q s).0).1
      (run_users f.system more (run f.system q s).0)

pub record History (f : Frame) (m : ℕ) (s : State) (first : Log) : Type 0 where
  pub log : Log
  pub notes : Notes
  pub along : Along f (view (run f.system m s).0) log notes
  pub grown : Grown f (view s) (view (run f.system m s).0) first log (run f.system m s).1 (run_users f.system m s)
  pub at : (q : ℕ) → q ≤ m → LogAt f m q s first log

pub history : (f : Frame) (m : ℕ) (s : State) (l : Log) (n : Notes) → IsFramed f → Along f (view s) l n
    → ((k : ℕ) → k < m → IsFit (run f.system k s).0) → History f m s l
history f zero s l n framed along fit = record {
  log = l;
  notes = n;
  along = along;
  grown = still;
  at = λ q less. at q less;
}
  where
    still : Grown f (view s) (view s) l l [] []
    still = grown-still f (view s) (view s) l [] (le_refl (since (view s))) (quiet-none f)

    at : (q : ℕ) → q ≤ 0 → LogAt f 0 q s l l
    at zero less = record { log = l; notes = n; along = along; from = still; more = 0; count = omega arith; to = still }
    at (suc q) less = absurd (omega (arith, less))
history f (suc m) s l n framed along fit = build (step-moves f s l n framed along (fit 0 (omega arith)))
    (λ log notes on. history f m (step f.system s).0 log notes framed on (λ k less. fit (suc k) (omega (arith, less))))
  where
    build : (first : Moved f (view s) (view (step f.system s).0) l (step f.system s).1 (step_users s))
        → ((log : Log) (notes : Notes) → Along f (view (step f.system s).0) log notes → History f m (step f.system s).0 log) → History f (suc m) s l
    build first later = record { log = rest.log; notes = rest.notes; along = rest.along; grown = whole; at = λ q less. at q less }
      where
        rest : History f m (step f.system s).0 first.log
        rest = later first.log first.notes first.along

        whole : Grown f (view s) (view (run f.system (suc m) s).0) l rest.log (run f.system (suc m) s).1 (run_users f.system (suc m) s)
        whole = grown-then f (view s) (view (step f.system s).0) (view (run f.system (suc m) s).0) l first.log rest.log (step f.system s).1
            (run f.system m (step f.system s).0).1
            (step_users s) (run_users f.system m (step f.system s).0) first.grown rest.grown

        at : (q : ℕ) → q ≤ suc m → LogAt f (suc m) q s l rest.log
        at zero less = record {
          log = l;
          notes = n;
          along = along;
          from = grown-still f (view s) (view s) l [] (le_refl (since (view s))) (quiet-none f);
          more = suc m;
          count = omega arith;
          to = whole;
        }
        at (suc q) less =
            let a = rest.at q (omega (arith, less)) in
            let c : q + a.more ≡ m = a.count in
            record {
              log = a.log;
              notes = a.notes;
              along = a.along;
              from = grown-then f (view s) (view (step f.system s).0) (view (run f.system q (step f.system s).0).0) l first.log a.log
                  (step f.system s).1 (run f.system q (step f.system s).0).1
                  (step_users s) (run_users f.system q (step f.system s).0) first.grown a.from;
              more = a.more;
              count = omega (arith, c);
              to = a.to;
            }
