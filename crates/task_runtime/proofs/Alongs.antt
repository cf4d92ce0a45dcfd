-- A task that goes on alone: one turn, what is kept over all of them, and the number that falls.
use Rattle.std.proofs.Common.{◌≡◌, inl, inr, ◌<◌, ◌≤◌, ℕ, zero, suc, ◌+◌, ◌-◌, ◌*◌, ◌^◌, Bool, true, false, ◌||◌, List, [], ◌∷◌, Option, Some, None}
use Rattle.std.proofs.Common.{refl, ap, sym, subst, ◌∙◌, arith}
use Rattle.std.specs.Prelude.{min, if◌then◌else◌, ◌==◌, slice_get, vec_capacity}
use Rattle.std.proofs.Math.Bool.{Bool-set}
use Rattle.std.proofs.lemmas.Bool.Decides.{nat_tests}
use Rattle.std.specs.Coded.{Coded-set, coded_list, coded_ℕ, le_prop}
use Rattle.seq_tree.specs.Variables.{Variables}
use Rattle.seq_tree.specs.declared.tree.Costs.{Costs}
use Rattle.arrivals_tree.specs.Acceptance.{has_nothing}
use Rattle.ada_tree.specs.Ranges.{costs_break}
use Rattle.machine.specs.Deeds as deeds
use Rattle.machine.specs.Pieces.{Piece}
use Rattle.machine.specs.Releases.{going}
use Rattle.machine.specs.States as states
use Rattle.linker.specs.declared.code.Ins.TheVariants as ins
use Rattle.linker.specs.declared.program.LinkedUnits.{LinkedUnits}
use Rattle.task_runtime.specs.Effort.{IsLong, effort, first_ticks, first_works, sections_among}
use Rattle.task_runtime.specs.Progressed.{is_idle}
use Rattle.task_runtime.specs.Readies.{is_ready, rests_as}
use Rattle.task_runtime.specs.Works.{Acts, StaysInside}
use Rattle.task_runtime.specs.Written.{durations_of, reserve, system_of}
use Rattle.task_runtime.specs.declared.effects.Act.TheVariants.{Silent}
use Rattle.task_runtime.specs.Alongs.{GoesAlong, HasDone, MayAct, MayGo, MayUse}
use Rattle.task_runtime.specs.Doings.{HasNoOwner, owner_at}
use Rattle.task_runtime.specs.Goings.{Goes, HasCalled, HasReturned}
use Rattle.task_runtime.specs.Lefts.{pieces_left, vars_left}
use Rattle.task_runtime.specs.Sounds.{IsAtWork}
use Rattle.task_runtime.specs.Tasks.{task_of}
use Rattle.task_runtime.specs.declared.piece.Piece as piece
use Rattle.task_runtime.specs.declared.piece.Piece.TheVariants as is
use Rattle.task_runtime.specs.declared.progress.Progress.{Progress}
use Rattle.task_runtime.specs.declared.task.Task.{Task}
use Rattle.task_runtime.proofs.After.{acted, goes_on, stands_as}
use Rattle.task_runtime.proofs.Doing.{falls_on, stays_inside}
use Rattle.task_runtime.proofs.Dones.{called_outside, returned_outside}
use Rattle.task_runtime.proofs.Firsts.{StandsFor, none_at}
use Rattle.task_runtime.proofs.Reaching.{return_bare}
use Rattle.task_runtime.proofs.Shared.TasksAtWork.{effort-few, piece-ready}

-- the call of an operation that no protected object has, and the end of its body
pub call_goes : (c : LinkedUnits) (p p' : Progress) (place : ℕ) (values : List ℕ) → HasCalled c p place [] values p' → HasNoOwner (owner_at c place)
    → Goes c p deeds.Silent p'
call_goes c p p' place values h none =
    record { at_work = h.at_work; thread = h.thread; room = h.room; does = called_outside c p p' place values h none }

pub return_goes : (c : LinkedUnits) (p p' : Progress) (values : List ℕ) → IsAtWork c p → p.piece ≡ Some (is.Here ins.Return)
    → HasReturned c p values p' → Goes c p deeds.Silent p'
return_goes c p p' values h e r =
    record { at_work = r.at_work; thread = r.thread; room = r.room; does = returned_outside c p p' values r (return_bare c p h e) }

-- a piece that is nothing to others has been done, and the next one starts
module _ (code : LinkedUnits) (costs : Costs) (m : Task) (h : IsAtWork code m.progress) (breaks : costs_break costs ≡ false) (q : Progress)
    (g : Goes code m.progress deeds.Silent q) where
  no_first : (p : Piece) (ps : List Piece) → [] ≡ p ∷ ps → ⊥
  no_first p ps e = cc

  started : (x : piece.Piece) × (m.progress.piece ≡ Some x)
  started = by m.progress.piece refl
    where
      by : (o : Option piece.Piece) → m.progress.piece ≡ o → (x : piece.Piece) × (m.progress.piece ≡ Some x)
      by None e = absurd (no_first g.does.piece g.does.rest (sym (none_at code m.progress h e) ∙ g.does.first))
      by (Some x) e = (x, e)

  -- the task is ready
  pub still_asleep : (is_ready m.readiness || is_idle (pieces_left q)) ≡ true
  still_asleep = ap (λ b. b || is_idle (pieces_left q)) (piece-ready code m h started.0 started.1)

  stands : StandsFor code m.progress.stack started.0 g.does.piece g.does.rest
  stands = stands_as code m.progress h started.0 started.1 g.does.piece g.does.rest g.does.first

  pub silent_inside : StaysInside deeds.Silent (sections_among (pieces_left m.progress)) (sections_among (pieces_left q))
  silent_inside = stays_inside code m.progress.stack (vars_left m.progress) started.0 g.does.piece g.does.rest (pieces_left m.progress) deeds.Silent
      (vars_left q) (pieces_left q) stands g.does.first g.does.does

  module _ (duration : Option ℕ) (handed : duration ≡ slice_get (durations_of m.progress.stack.thread) m.works) (long : IsLong duration)
      (ticks more : ℕ) (starts : ticks ≡ first_ticks costs duration (pieces_left q)) (works : more ≡ first_works (pieces_left q)) where
    pub silent_acts : Acts (system_of m.progress.stack.thread) costs (task_of m) Silent (acted m q q.stack.thread ticks (m.works + more))
    silent_acts = record {
      piece = g.does.piece;
      rest = g.does.rest;
      vars = vars_left q;
      pieces = pieces_left q;
      first = g.does.first;
      does = g.does.does;
      after = goes_on m q costs duration (vars_left q) ticks more g.thread handed refl starts works;
    }

    pub silent_falls : (most : ℕ) → reserve m.progress.stack.thread ≤ most → (0 < effort most (pieces_left m.progress))
        × (ticks ≡ 0 → effort most (pieces_left q) < effort most (pieces_left m.progress))
    silent_falls = falls_on code m.progress q g.at_work g.thread costs duration breaks long g.does.piece (vars_left m.progress) (vars_left q)
        g.does.rest deeds.Silent g.does.first g.does.does ticks starts

-- a task whose progress is the same is the same: what is known of it has one proof
module _ (m : Task) where
  abbrev IsSame : Progress → Type 0
  IsSame q = (asleep : (is_ready m.readiness || is_idle (pieces_left q)) ≡ true) (rests : rests_as m.readiness q.stack.thread.timing ≡ true)
      (handed : m.durations.items ≡ durations_of q.stack.thread) (long : has_nothing m.durations.items ≡ false)
      (room : q.stack.frames.room ≤ vec_capacity m.inside)
      → ◌≡◌ {A = Task} (record m { progress = q; asleep = asleep; rests = rests; handed = handed; long = long; room = room }) m

  same_facts : IsSame m.progress
  same_facts asleep rests handed long room =
      ap (λ (x : (is_ready m.readiness || is_idle (pieces_left m.progress)) ≡ true). record m {
        asleep = x;
        rests = rests;
        handed = handed;
        long = long;
        room = room;
      }) (Bool-set (is_ready m.readiness || is_idle (pieces_left m.progress)) true asleep m.asleep)
      ∙ ap (λ (x : rests_as m.readiness m.progress.stack.thread.timing ≡ true). record m { rests = x; handed = handed; long = long; room = room })
      (Bool-set (rests_as m.readiness m.progress.stack.thread.timing) true rests m.rests)
      ∙ ap (λ (x : m.durations.items ≡ durations_of m.progress.stack.thread). record m { handed = x; long = long; room = room })
      (Coded-set (coded_list coded_ℕ) m.durations.items (durations_of m.progress.stack.thread) handed m.handed)
      ∙ ap (λ (x : has_nothing m.durations.items ≡ false). record m { long = x; room = room })
      (Bool-set (has_nothing m.durations.items) false long m.long)
      ∙ ap (λ (x : m.progress.stack.frames.room ≤ vec_capacity m.inside). record m { room = x }) (le_prop room m.room)

  pub same_progress : (q : Progress) → q ≡ m.progress → IsSame q
  same_progress q same = subst IsSame (sym same) same_facts

-- by what is said of it
pub has_gone : (b : Bool) (code : LinkedUnits) (p q : Progress) → MayGo b code p q → b ≡ true → Goes code p deeds.Silent q
has_gone b code p q h e = subst (λ c. MayGo c code p q) e h

pub not_gone : (b : Bool) (code : LinkedUnits) (p q : Progress) → MayGo b code p q → b ≡ false → q ≡ p
not_gone b code p q h e = subst (λ c. MayGo c code p q) e h

pub has_acted : (b : Bool) (code : LinkedUnits) (costs : Costs) (t t' : Task) → MayAct b code costs t t' → b ≡ true
    → (t.left ≡ 0) × HasDone code costs Silent t t'
has_acted b code costs t t' h e = subst (λ c. MayAct c code costs t t') e h

pub has_stayed : (b : Bool) (code : LinkedUnits) (costs : Costs) (t t' : Task) → MayAct b code costs t t' → b ≡ false → t' ≡ t
has_stayed b code costs t t' h e = subst (λ c. MayAct c code costs t t') e h

-- what is kept of a task that goes on alone
pub record Keeps (code : LinkedUnits) (costs : Costs) (limit from : ℕ) (first : Task) (time : ℕ) (t : Task) : Type 0 where
  pub goes : GoesAlong code costs limit from first time t
  pub at_work : IsAtWork code t.progress
  pub later : time ≤ limit
  pub used : t.used ≤ time
  pub works : t.works ≤ time + min t.left 1
  pub thread : t.progress.stack.thread ≡ first.progress.stack.thread

going_used : (costs : Costs) (vars : Variables) (ps : List Piece) (t : states.Task) → (going costs vars ps t).used ≡ t.used
going_used costs vars [] t = refl
going_used costs vars (p ∷ ps) t = refl

min_some : (n : ℕ) → 0 < n → min n 1 ≡ 1
min_some n some = grind (arith, nat_tests)

-- the number that falls: the time that is left, and the effects that may follow at this time
abbrev pub effort_now : ℕ → Task → ℕ
effort_now most t = if t.left == 0 then effort most (pieces_left t.progress) else 0

abbrev pub alone_left : ℕ → ℕ → ℕ → Task → ℕ
alone_left most limit time t = (limit - time) * (most + 1) + effort_now most t

effort_used : (most : ℕ) (t : Task) → t.left ≡ 0 → effort_now most t ≡ effort most (pieces_left t.progress)
effort_used most t none = ap (λ n. if n == 0 then effort most (pieces_left t.progress) else 0) none

effort_some : (most n e : ℕ) → (n ≡ 0 → e < most) → 0 < most → (if n == 0 then e else 0) < most
effort_some most n e less some = by_test (n == 0) refl
  where
    is_none : (n == 0) ≡ true → n ≡ 0
    is_none h = grind (arith, nat_tests)

    by_test : (b : Bool) → (n == 0) ≡ b → (if n == 0 then e else 0) < most
    by_test true h = subst (λ b. (if b then e else 0) < most) (sym h) (less (is_none h))
    by_test false h = subst (λ b. (if b then e else 0) < most) (sym h) some

less_time : (most a b ticks : ℕ) → b + ticks ≡ a → 0 < ticks → b * (most + 1) + (most + 1) ≤ a * (most + 1)
less_time most a b ticks sum some = by ticks sum some
  where
    by : (k : ℕ) → b + k ≡ a → 0 < k → b * (most + 1) + (most + 1) ≤ a * (most + 1)
    by zero e h = absurd (omega (arith, h))
    by (suc k) e h = subst (λ x. b * (most + 1) + (most + 1) ≤ x * (most + 1)) e (omega arith)

pub keeps_none : (code : LinkedUnits) (costs : Costs) (limit from : ℕ) (t : Task) → IsAtWork code t.progress → from ≤ limit → t.used ≤ from
    → t.works ≤ from + min t.left 1 → Keeps code costs limit from t from t
keeps_none code costs limit from t h later used works =
    record { goes = (0, (refl, refl)); at_work = h; later = later; used = used; works = works; thread = refl }

module _ (code : LinkedUnits) (costs : Costs) (limit from : ℕ) (first : Task) (time : ℕ) (t : Task)
    (k : Keeps code costs limit from first time t) where
  -- ticks that may be used
  pub keeps_used : (time' : ℕ) (t' : Task) → MayUse limit time t time' t' → Keeps code costs limit from first time' t'
  keeps_used time' t' (inl (now, same)) =
      subst (λ n. Keeps code costs limit from first n t') (sym now) (subst (Keeps code costs limit from first time) (sym same) k)
  keeps_used time' t' (inr u) =
      let left = ap (λ (x : states.Task). x.left) u.task in
      let used = ap (λ (x : states.Task). x.used) u.task in
      let works = ap (λ (x : states.Task). x.works) u.task in
      record {
        goes = (suc k.goes.0, (time, t, k.goes.1, inl u));
        at_work = subst (IsAtWork code) (sym u.progress) k.at_work;
        later = u.fits;
        used = omega (arith, used, k.used, u.after);
        works = omega (arith, works, k.works, u.after, u.some, min_some t.left u.some);
        thread = u.thread ∙ k.thread;
      }

  -- a piece that is nothing to others
  pub keeps_done : (t' : Task) → t.left ≡ 0 → HasDone code costs Silent t t' → Keeps code costs limit from first time t'
  keeps_done t' due d =
      let used = ap (λ (x : states.Task). x.used) d.acts.after ∙ going_used costs d.acts.vars d.acts.pieces (task_of t) in
      record {
        goes = (suc k.goes.0, (time, t, k.goes.1, inr (refl, due, d)));
        at_work = d.at_work;
        later = k.later;
        used = omega (arith, used, k.used);
        works = omega (arith, d.works, k.works, due);
        thread = d.thread ∙ k.thread;
      }

  pub few_works : limit < 2 ^ 32 → t.works < 2 ^ 63
  few_works near = omega (arith, near, k.works, k.later)

  pub few_used : limit < 2 ^ 32 → t.used < 2 ^ 63
  few_used near = omega (arith, near, k.used, k.later)

  -- both of one turn: the number falls
  pub falls_both : (time' : ℕ) (u t' : Task) → MayUse limit time t time' u → u.left ≡ 0 → HasDone code costs Silent u t'
      → alone_left (reserve first.progress.stack.thread) limit time' t' < alone_left (reserve first.progress.stack.thread) limit time t
  falls_both time' u t' uses due d = by uses
    where
      most : ℕ
      most = reserve first.progress.stack.thread

      kept : Keeps code costs limit from first time' u
      kept = keeps_used time' u uses

      enough : reserve u.progress.stack.thread ≤ most
      enough = let e = ap reserve kept.thread in omega (arith, e)

      less : effort_now most t' < effort most (pieces_left u.progress)
      less = let f = d.falls most enough in effort_some (effort most (pieces_left u.progress)) t'.left (effort most (pieces_left t'.progress)) f.1 f.0

      few : effort most (pieces_left u.progress) ≤ most
      few = effort-few code most u kept.at_work enough

      by : MayUse limit time t time' u → alone_left most limit time' t' < alone_left most limit time t
      by (inl (now, same)) =
          let e : effort most (pieces_left u.progress) ≡ effort_now most t =
          sym (effort_used most u due) ∙ ap (effort_now most) same in
          let f = ap (λ n. (limit - n) * (most + 1)) now in
          omega (arith, e, f, less)
      by (inr v) =
          let more = less_time most (limit - time) (limit - time') t.left (omega (arith, v.after, v.fits)) v.some in
          omega (arith, more, less, few)
