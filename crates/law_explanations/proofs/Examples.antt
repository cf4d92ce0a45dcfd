-- What the definitions of the laws say of small cases, and what breaks each of their clauses.
use Rattle.std.proofs.Common.{◌≡◌, ℕ, ◌+◌, ◌-◌, ◌<◌, ◌≤◌, true, List, [], ◌∷◌, Some, None, inl, inr, refl, arith}
use Rattle.std.specs.Prelude.{codes, slice_get}
use Rattle.std.specs.List.{list_any}
use Rattle.seq_tree.specs.Calls.{same_op}
use Rattle.seq_tree.specs.Names.{Name}
use Rattle.seq_tree.specs.declared.tree.OpName.{OpName}
use Rattle.ods_tree.specs.Flats.{Flat, Thread}
use Rattle.ods_tree.specs.Services.{flat_services}
use Rattle.rt_response.specs.declared.rows.ThreadRow.{ThreadRow}
use Rattle.rt_response.specs.declared.rows.Bound.{Bound}
use Rattle.analysis.specs.Ceilings.{ceiling}
use Rattle.analysis.specs.Priorities.{priorities_of}
use Rattle.block_causes.specs.Entered.{entered}
use Rattle.late_response.specs.declared.reach.Reach.TheVariants.{Solved, Beyond, Behind}
use Rattle.explanation.specs.declared.reasons.Blocker.{Blocker}
use Rattle.explanation.specs.declared.reasons.Reasons.{Reasons}
use Rattle.law_explanations.specs.Blockers.{IsBlocked, IsLongest, KeepsWaiting, op_of, section_ticks}
use Rattle.law_explanations.specs.LateThreads.{IsAtLeast, IsOverLimit, IsToldLate}
use Rattle.law_explanations.specs.Laws.{IsKept}
use Rattle.law_explanations.specs.Responding.{OfNames, names_along}

-- LATE THREADS
abbrev limits : ThreadRow
limits = record { period = 20; deadline = 10; jitter = 0; cost = 3; block = 0; starter = None }

abbrev bound : ℕ → ℕ → Bound
bound jitter response = record { jitter = jitter; response = response }

-- at both limits, a tick over the deadline, and a tick over the period
at_limits : IsOverLimit limits (bound 10 10) → ⊥
at_limits (inl h) = omega (arith, h)
at_limits (inr h) = omega (arith, h)

over_deadline : IsOverLimit limits (bound 0 11)
over_deadline = inl (omega arith)

over_period : IsOverLimit limits (bound 11 10)
over_period = inr (omega arith)

kept : IsKept limits (Solved 10 10)
kept = (omega arith, omega arith)

not_kept_by_deadline : IsKept limits (Solved 0 11) → ⊥
not_kept_by_deadline h = omega (arith, h.0)

not_kept_by_period : IsKept limits (Solved 11 10) → ⊥
not_kept_by_period h = omega (arith, h.1)

given_up_is_not_kept : (IsKept limits (Beyond 3 0 101) → ⊥) × (IsKept limits (Behind 1) → ⊥)
given_up_is_not_kept = (λ h. h, λ h. h)

-- a thread over a limit and one that is given up are reported late; one that needs another's bound is not
told_late : IsToldLate limits (Solved 0 11) × IsToldLate limits (Beyond 3 0 101)
told_late = (inl (omega arith), tt)

not_told_late : IsToldLate limits (Solved 10 10) → ⊥
not_told_late h = at_limits h

behind_is_not_late : IsToldLate limits (Behind 1) → ⊥
behind_is_not_late h = h

-- at least what is reported, in both numbers; over ten times a limit where it is given up
at_least : IsAtLeast (Solved 2 8) limits (bound 2 8) × IsAtLeast (Beyond 3 0 101) limits (bound 0 101) × IsAtLeast (Behind 1) limits (bound 0 0)
at_least = ((omega arith, omega arith), inl (omega arith), tt)

less_jitter : IsAtLeast (Solved 2 8) limits (bound 1 8) → ⊥
less_jitter h = omega (arith, h.0)

less_response : IsAtLeast (Solved 2 8) limits (bound 2 7) → ⊥
less_response h = omega (arith, h.1)

not_far : IsAtLeast (Beyond 3 0 101) limits (bound 100 100) → ⊥
not_far (inl h) = omega (arith, h)
not_far (inr h) = omega (arith, h)

-- WHAT BLOCKS A THREAD
module _ (f : Flat) (level ticks : ℕ) where
  nothing_blocks : IsBlocked f level 0 None
  nothing_blocks = refl

  something_blocks : IsBlocked f level 1 None → ⊥
  something_blocks h = omega (arith, h)

  section_blocks : (b : Blocker) (u : Thread) → u.name ≡ b.thread → KeepsWaiting f level u (op_of b) → section_ticks f (op_of b) ≡ ticks
      → IsBlocked f level ticks (Some b)
  section_blocks b u named keeps long = (u, named, keeps, long)

  other_name : (b : Blocker) → ((u : Thread) → u.name ≡ b.thread → ⊥) → IsBlocked f level ticks (Some b) → ⊥
  other_name b never h = never h.0 h.1

  waits_not : (b : Blocker) → ((u : Thread) → KeepsWaiting f level u (op_of b) → ⊥) → IsBlocked f level ticks (Some b) → ⊥
  waits_not b never h = never h.0 h.2

  other_ticks : (b : Blocker) → (section_ticks f (op_of b) ≡ ticks → ⊥) → IsBlocked f level ticks (Some b) → ⊥
  other_ticks b never h = never h.3

  module _ (u : Thread) (c : OpName) where
    keeps : (k p : ℕ) → slice_get f.threads k ≡ Some u → slice_get (priorities_of f) k ≡ Some p → p < level
        → list_any (same_op c) (entered (flat_services f) u.block) ≡ true → level ≤ ceiling f (priorities_of f) c.object → KeepsWaiting f level u c
    keeps k p at has low enters reaches = record {
      place = k;
      priority = p;
      stands = at;
      has = has;
      lower = low;
      enters = enters;
      reaches = reaches;
    }

    no_thread : ((k : ℕ) → slice_get f.threads k ≡ Some u → ⊥) → KeepsWaiting f level u c → ⊥
    no_thread never h = never h.place h.stands

    not_lower : ((k p : ℕ) → slice_get f.threads k ≡ Some u → slice_get (priorities_of f) k ≡ Some p → p < level → ⊥) → KeepsWaiting f level u c → ⊥
    not_lower never h = never h.place h.priority h.stands h.has h.lower

    not_entered : ¬ (list_any (same_op c) (entered (flat_services f) u.block) ≡ true) → KeepsWaiting f level u c → ⊥
    not_entered never h = never h.enters

    not_reaching : ¬ (level ≤ ceiling f (priorities_of f) c.object) → KeepsWaiting f level u c → ⊥
    not_reaching never h = never h.reaches

-- of a thread: its name and its priority, the one that is written, and no longer section
module _ (first : ℕ) (f : Flat) (t : Reasons) where
  unknown : ((u : Thread) (k level : ℕ) → slice_get f.threads k ≡ Some u → slice_get (priorities_of f) k ≡ Some level → t.name ≡ u.name → ⊥)
      → IsLongest first f t → ⊥
  unknown never h = never h.thread h.place h.level h.stands h.has h.named

  other_priority : ((level : ℕ) → t.priority ≡ level + (first - 1) → ⊥) → IsLongest first f t → ⊥
  other_priority never h = never h.level h.written

  not_blocked : ((level : ℕ) → IsBlocked f level t.row.block t.blocker → ⊥) → IsLongest first f t → ⊥
  not_blocked never h = never h.level h.blocked

  longer : ((level : ℕ) → ((u : Thread) (c : OpName) → KeepsWaiting f level u c → section_ticks f c ≤ t.row.block) → ⊥) → IsLongest first f t → ⊥
  longer never h = never h.level h.longest

-- CHAINS
abbrev thread : List ℕ → Reasons
thread name = record { name = name; priority = 1; row = limits; reach = Solved 0 3; blocker = None }

-- the first thread of a chain comes last in its places; a place without a thread has no name
along : names_along (thread (codes "a") ∷ thread (codes "b") ∷ []) (1 ∷ 0 ∷ []) ≡ codes "a" ∷ codes "b" ∷ []
along = refl

along_none : names_along (thread (codes "a") ∷ []) (1 ∷ 0 ∷ []) ≡ codes "a" ∷ []
along_none = refl

no_names : (P : Name → List Name → Type 0) → OfNames P [] → ⊥
no_names P h = h

of_first : (P : Name → List Name → Type 0) → P (codes "a") (codes "b" ∷ []) → OfNames P (codes "a" ∷ codes "b" ∷ [])
of_first P h = h
