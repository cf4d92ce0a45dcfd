-- Effects: what the first piece of a task does to the log.
use Rattle.std.specs.Prelude.{◌≡◌, ◌≢◌, ◌⊎◌, ℕ, ◌≤◌, ◌&&◌, Bool, true, false, List, [], ◌∷◌, length, slice_get, Option, Some, None}
use Rattle.std.specs.Prelude.{if◌then◌else◌, refl}
use Rattle.std.proofs.Common.{sym, ◌∙◌, ap, subst, arith, inl, inr, le_refl, zero-le}
use Rattle.seq_tree.specs.Lists.{change}
use Rattle.seq_tree.specs.Variables.{Variables}
use Rattle.trace_tree.specs.declared.event.Event.TheVariants as event
use Rattle.machine.specs.Pieces.{Piece, Opening, Finishing, pieces}
use Rattle.machine.specs.Pieces as piece
use Rattle.machine.specs.Deeds.{done}
use Rattle.machine.specs.States.{State, Task, Effects, Readiness, Asleep, Waiting, Ready}
use Rattle.machine.specs.Releases.{Next, release, release_task, is_waiting, serve, serve_task}
use Rattle.machine.specs.Effects.{takes_effect, go, exit, open_gate, ended, task_unit}
use Rattle.law_responses.proofs.Logs.{Log, finished, over_at, EndedAt}
use Rattle.law_calls.proofs.Shared.Remaining.{rest, rest-done, rest-block}
use Rattle.law_responses.proofs.Views.{Core, View, now_of, core, view, on_with, released_core, ended_core, opened_core, changed}
use Rattle.law_responses.proofs.Frames.{Frame, ticks_measure, requests_measure, HasRow, no-row, one-here, one-apart, quota_by, quota, IsFramed}
use Rattle.law_responses.proofs.Frames.{Kept, Notes, EndsRequest, HasEnd}
use Rattle.law_responses.proofs.Endings.{FirstFits, done-end}
use Rattle.law_responses.proofs.Carrying.{IsNotEnd}
use Rattle.law_responses.proofs.Tidy.{Tidy, NoEnds, EndsOf, IsNoBarrier, tidy-from, no-ends, done-tidy, block-tidy, barrier-tidy, barrier-ends}
use Rattle.law_responses.proofs.Base.{Busy, Base, written-at, base-goes, base-opens, base-outside}
use Rattle.law_responses.proofs.BaseMoves.{base-ended, ended-at}
use Rattle.law_responses.proofs.Asking.{IsMid}
use Rattle.law_responses.proofs.AskingMoves.{asking-goes, asking-outside, asking-open-else}
use Rattle.law_responses.proofs.AskingEnds.{asking-ended}
use Rattle.law_responses.proofs.AskingRequests.{asking-opens}
use Rattle.std.proofs.lemmas.Bool.{cases_eq}
use Rattle.law_responses.proofs.Told.{other-release, other-end}
use Rattle.law_responses.proofs.Moves.{Along, Moved, since_by, since, quiet-none, quiet-one, quiet-far, grown-still, moved-still, moved-then}
use Rattle.law_responses.proofs.Moves.{grown-finished}
use Rattle.law_responses.proofs.Releasing.{release-requested}
use Rattle.law_responses.proofs.Seen.{see, view-goes, view-exit, view-open, view-ended, view-released, Goes, acted-goes, IsQuietPiece, done-quiet}
use Rattle.law_lists.proofs.Shared.Places.{same-item}

-- what the machine keeps of pieces: exits stand in loops, and a task that isn't ready has nothing left to do
pub record IsFit (s : State) : Type 0 where
  pub exits : (i : ℕ) (t : Task) (p : Piece) (ps : List Piece) → slice_get s.tasks i ≡ Some t → t.pieces ≡ p ∷ ps → FirstFits p ps
  pub ready : (i : ℕ) (t : Task) (p : Piece) (ps : List Piece) → slice_get s.tasks i ≡ Some t → t.pieces ≡ p ∷ ps → t.readiness ≡ Ready

quiet-goes_on : (p : Piece) → IsQuietPiece p → IsNotEnd p × IsNoBarrier p
quiet-goes_on Finishing q = absurd q
quiet-goes_on (Opening task) q = absurd q
quiet-goes_on (piece.Requested task value) q = absurd q
quiet-goes_on _ q = (tt, tt)

-- a task goes on after the effect of a piece that is no barrier and no end of the activation
goes-along : (f : Frame) (v : View) (l : Log) (n : Notes) (i : ℕ) (c : Core) (p : Piece) (ps : List Piece) (vars : Variables) → IsFramed f
    → Along f v l n → slice_get v.cores i ≡ Some c
    → c.pieces ≡ p ∷ ps → c.left ≡ 0 → FirstFits p ps → IsNotEnd p → IsNoBarrier p
    → Along f (changed i (on_with f.system.costs ((done f.system p vars ps).pieces)) v) l n
goes-along f v l n i c p ps vars framed along here is none fit no_end no_barrier = record {
  base = base-goes f v l n.current i c p ps ((done f.system p vars ps).pieces) along.base here is none
      (rest-done f.system (ticks_measure f) framed.ticks p vars ps)
      (λ ends. done-end f.system p vars ps fit no_end (subst HasEnd is ends));
  asking = asking-goes f v l n i c ((done f.system p vars ps).pieces) along.asking here (tidy-from ((done f.system p vars ps).pieces) clean)
      (λ k s has e. no-ends k ((done f.system p vars ps).pieces) clean e) less;
}
  where
    clean : NoEnds ((done f.system p vars ps).pieces)
    clean = done-tidy f.system p vars ps no_barrier (subst Tidy is ((along.asking.of i c here).tidy))

    less : (k s : ℕ) → HasRow f k s → rest (requests_measure f k) ((done f.system p vars ps).pieces) ≤ rest (requests_measure f k) c.pieces
    less k s has =
        subst (λ qs. rest (requests_measure f k) ((done f.system p vars ps).pieces) ≤ rest (requests_measure f k) qs) (sym is)
        (omega (arith, rest-done f.system (requests_measure f k) (framed.starts k) p vars ps))

pub begun-effects : (s : State) → s.phase ≡ Effects → since (view s) ≤ s.time
begun-effects s e = subst (λ p. since_by p s.time ≤ s.time) (sym e) (le_refl s.time)

-- the effect of a piece that is neither a barrier, nor the end of a request or of the activation
quiet-moves : (f : Frame) (s : State) (l : Log) (n : Notes) (i : ℕ) (t : Task) (p : Piece) (ps : List Piece) → IsFramed f → Along f (view s) l n
    → slice_get s.tasks i ≡ Some t
    → t.pieces ≡ p ∷ ps → t.left ≡ 0 → FirstFits p ps → IsQuietPiece p
    → Moved f (view s) (view ((takes_effect f.system i t (done f.system p t.vars ps) s).0)) l
    ((takes_effect f.system i t (done f.system p t.vars ps) s).1) []
quiet-moves f s l n i t p ps framed along here is none fit quiet = by goes.view'
  where
    next : Next
    next = takes_effect f.system i t (done f.system p t.vars ps) s

    goes : Goes f i ((done f.system p t.vars ps).pieces) s (takes_effect f.system i t (done f.system p t.vars ps) s)
    goes = acted-goes f i t ((done f.system p t.vars ps).act) ((done f.system p t.vars ps).vars) ((done f.system p t.vars ps).pieces) s
        (done-quiet f.system p t.vars ps quiet)

    by : (view ((takes_effect f.system i t (done f.system p t.vars ps) s).0)
        ≡ changed i (on_with f.system.costs ((done f.system p t.vars ps).pieces)) (view s))
        ⊎ (view ((takes_effect f.system i t (done f.system p t.vars ps) s).0) ≡ view s)
        → Moved f (view s) (view ((takes_effect f.system i t (done f.system p t.vars ps) s).0)) l
        ((takes_effect f.system i t (done f.system p t.vars ps) s).1) []
    by (inl e) =
        let on : Along f (changed i (on_with f.system.costs ((done f.system p t.vars ps).pieces)) (view s)) l n =
        goes-along f (view s) l n i (core t) p ps t.vars framed along (see s.tasks i t here) is none fit (quiet-goes_on p quiet).0
        (quiet-goes_on p quiet).1 in
        moved-still f (view s) _ l n _ (subst (λ v. Along f v l n) (sym e) on)
        (subst (λ v. since (view s) ≤ since v) (sym e) (le_refl (since (view s)))) goes.quiet
    by (inr e) = moved-still f (view s) _ l n _ (subst (λ v. Along f v l n) (sym e) along)
        (subst (λ v. since (view s) ≤ since v) (sym e) (le_refl (since (view s)))) goes.quiet

-- a task that may request another is its starter
starter-of : (o : Option ℕ) (i : ℕ) → 1 ≤ quota_by o i → o ≡ Some i
starter-of None i some = absurd (omega (arith, some))
starter-of (Some x) i some = by (cases_eq x i)
  where
    by : (x ≡ i) ⊎ (x ≢ i) → Some x ≡ Some i
    by (inl same) = ap Some same
    by (inr differ) = absurd (omega (arith, some, one-apart x i differ))

-- the effect of a barrier
opens-along : (f : Frame) (v : View) (l : Log) (n : Notes) (i k : ℕ) (c : Core) (ps : List Piece) (vars : Variables) → IsFramed f → Along f v l n
    → slice_get v.cores i ≡ Some c
    → c.readiness ≡ Ready → c.pieces ≡ Opening k ∷ ps → c.left ≡ 0 → v.phase ≡ Effects → v.ran ≡ Some i
    → (n' : Notes) × Along f (changed k opened_core (changed i (on_with f.system.costs ps) v)) l n'
opens-along f v l n i k c ps vars framed along here ready is none effects ran = by (f.row_of k) refl
  where
    base : Base f (changed k opened_core (changed i (on_with f.system.costs ps) v)) l n.current
    base =
        base-opens f (changed i (on_with f.system.costs ps) v) l n.current k
        (base-goes f v l n.current i c (Opening k) ps ps along.base here is none
        (rest-done f.system (ticks_measure f) framed.ticks (Opening k) vars ps) (λ ends. subst HasEnd is ends))

    ends : EndsOf k ps
    ends = subst Tidy is ((along.asking.of i c here).tidy)

    by : (o : Option ℕ) → f.row_of k ≡ o → (n' : Notes) × Along f (changed k opened_core (changed i (on_with f.system.costs ps) v)) l n'
    by None e = (
      n,
      record {
        base = base;
        asking = asking-open-else f (changed i (on_with f.system.costs ps) v) l n k e
            (asking-goes f v l n i c ps along.asking here (barrier-tidy k ps ends)
            (λ z s has begins. no-row f k s e (subst (λ x. f.row_of x ≡ Some s) (barrier-ends k z ps ends begins) has))
            (λ z s has. subst (λ qs. rest (requests_measure f z) ps ≤ rest (requests_measure f z) qs) (sym is) (omega arith)));
      },
    )
    by (Some s) e =
        let few : rest (requests_measure f k) (Opening k ∷ ps) ≤ quota f k i =
        subst (λ qs. rest (requests_measure f k) qs ≤ quota f k i) is ((along.asking.of i c here).few k s e) in
        let some : 1 ≤ quota f k i = omega (arith, few, one-here k) in
        let starts : f.starter_of k ≡ Some i = starter-of (f.starter_of k) i some in
        let row = framed.starters k s i e starts in
        let busy : Busy f (now_of v) l (n.current i) i row.0 c = along.base.runs i c here row.0 row.1 ready in (
          _,
          record {
            base = base;
            asking = asking-opens f v l n i row.0 k s c busy.own.made ps framed along.base along.asking row.1 e starts here ready is ends effects ran
                busy.own.stands;
          },
        )

opening-moves : (f : Frame) (s : State) (l : Log) (n : Notes) (i k : ℕ) (t : Task) (ps : List Piece) → IsFramed f → Along f (view s) l n → IsFit s
    → slice_get s.tasks i ≡ Some t
    → t.pieces ≡ Opening k ∷ ps → t.left ≡ 0 → s.phase ≡ Effects → s.ran ≡ Some i
    → Moved f (view s) (view (open_gate k (go f.system i t.vars ps s))) l [] []
opening-moves f s l n i k t ps framed along fit here is none effects ran =
    let opens = opens-along f (view s) l n i k (core t) ps t.vars framed along (see s.tasks i t here)
    (fit.ready i t (Opening k) ps here is) is none effects ran in
    let e : view (open_gate k (go f.system i t.vars ps s)) ≡ changed k opened_core (changed i (on_with f.system.costs ps) (view s)) =
    view-open k (go f.system i t.vars ps s) ∙ ap (changed k opened_core) (view-goes f.system i t.vars ps s) in
    moved-still f (view s) (view (open_gate k (go f.system i t.vars ps s))) l opens.0 [] (subst (λ v. Along f v l opens.0) (sym e) opens.1)
    (le_refl (since (view s))) (quiet-none f)

-- the release of a task without a row
pub release-outside : (f : Frame) (v : View) (l : Log) (n : Notes) (i : ℕ) (c : Core) (value : Option ℕ) → IsFramed f → Along f v l n
    → f.row_of i ≡ None → slice_get v.cores i ≡ Some c
    → Moved f v (changed i (released_core f.system.costs) v) l (event.Release v.time c.thread.unit value ∷ []) []
release-outside f v l n i c value framed along none here =
    moved-still f v (changed i (released_core f.system.costs) v) l n (event.Release v.time c.thread.unit value ∷ [])
    (record {
      base = base-outside f v l n.current i (released_core f.system.costs) none (λ x. refl) along.base;
      asking = asking-outside f v l n i (released_core f.system.costs) none along.asking clean;
    })
    (le_refl (since v))
    (quiet-far f i c.thread (event.Release v.time c.thread.unit value) framed none (written-at along.base.written i c here)
    (λ u differ. other-release u v.time c.thread.unit value differ) (i, c.thread, written-at along.base.written i c here, refl))
  where
    clean : (x : Core) → slice_get v.cores i ≡ Some x
        → NoEnds (released_core f.system.costs x).pieces × ((k s : ℕ) → HasRow f k s
        → rest (requests_measure f k) (released_core f.system.costs x).pieces ≤ quota f k i)
    clean x e = (
      block-tidy x.thread.block (Finishing ∷ []) tt,
      λ k s has. omega (
        arith,
        framed.few k s i x.thread has (written-at along.base.written i x e),
        rest-block (requests_measure f
            k) x.thread.block (Finishing ∷ []),
      ),
    )

-- the release of a task that waits and whose control structure is open
abbrev pub IsServed : Frame → View → Log → Notes → ℕ → Type 0
IsServed f v l n k = (r : ℕ) (q : Kept) → HasRow f k r → n.kept k ≡ Some q → (v.time ≡ q.asked) ⊎ EndedAt l.acts r v.time

waiting-is : (r : Readiness) (b : Bool) → (is_waiting r && b) ≡ true → (r ≡ Waiting) × (b ≡ true)
waiting-is Waiting true e = (refl, refl)
waiting-is Waiting false e = cc
waiting-is Ready b e = cc
waiting-is (Asleep until) b e = cc

pub serve-moves : (f : Frame) (s : State) (l : Log) (n : Notes) (k : ℕ) → IsFramed f → Along f (view s) l n → IsServed f (view s) l n k
    → since (view s) ≤ s.time
    → Moved f (view s) (view ((serve f.system k s).0)) l ((serve f.system k s).1) []
serve-moves f s l n k framed along late begun = by (slice_get s.tasks k) refl
  where
    by : (o : Option Task) → slice_get s.tasks k ≡ o → Moved f (view s) (view ((serve_task f.system k o s).0)) l ((serve_task f.system k o s).1) []
    by None e = moved-still f (view s) (view s) l n [] along (le_refl (since (view s))) (quiet-none f)
    by (Some t) e = if_waiting (is_waiting t.readiness && t.gate.open') refl
      where
        released_moves : t.readiness ≡ Waiting → t.gate.open' ≡ true
            → Moved f (view s) (view ((release_task f.system k (Some t) s).0)) l ((release_task f.system k (Some t) s).1) []
        released_moves waits opens =
            let seen_as : view ((release_task f.system k (Some t) s).0) ≡ changed k (released_core f.system.costs) (view s)
            = view-released f.system k s in
            subst (λ v. Moved f (view s) v l (event.Release s.time t.thread.unit t.gate.value ∷ []) []) (sym seen_as) (row (f.row_of k) refl)
          where
            row : (o : Option ℕ) → f.row_of k ≡ o
                → Moved f (view s) (changed k (released_core f.system.costs) (view s)) l (event.Release s.time t.thread.unit t.gate.value ∷ []) []
            row None none = release-outside f (view s) l n k (core t) t.gate.value framed along none (see s.tasks k t e)
            row (Some r) has = release-requested f (view s) l n k r (core t) framed along has (see s.tasks k t e) waits opens
                (λ q is. late r q has is) begun t.gate.value

        if_waiting : (b : Bool) → (is_waiting t.readiness && t.gate.open') ≡ b
            → Moved f (view s) (view ((if b then release f.system k s else (s, [])).0)) l ((if b then release f.system k s else (s, [])).1) []
        if_waiting false h = moved-still f (view s) (view s) l n [] along (le_refl (since (view s))) (quiet-none f)
        if_waiting true h =
            let w = waiting-is t.readiness t.gate.open' h in
            subst (λ o. Moved f (view s) (view ((release_task f.system k o s).0)) l ((release_task f.system k o s).1) []) (sym e)
            (released_moves w.0 w.1)

-- the effect of the end of a request
requested-moves : (f : Frame) (s : State) (l : Log) (n : Notes) (i k : ℕ) (t : Task) (value : Option ℕ) (ps : List Piece) → IsFramed f
    → Along f (view s) l n → slice_get s.tasks i ≡ Some t
    → t.pieces ≡ piece.Requested k value ∷ ps → t.left ≡ 0 → since (view s) ≤ s.time
    → Moved f (view s) (view ((takes_effect f.system i t (done f.system (piece.Requested k value) t.vars ps) s).0)) l
    ((takes_effect f.system i t (done f.system (piece.Requested k value) t.vars ps) s).1) []
requested-moves f s l n i k t value ps framed along here is none begun =
    moved-then f (view s) (view s1) _ l l _ _ [] []
    (grown-still f (view s) (view s1) l (event.Request s.time t.thread.unit (task_unit f.system k) value ∷ []) (le_refl (since (view s)))
    (quiet-one f (event.Request s.time t.thread.unit (task_unit f.system k) value) (λ u. (refl, refl)) tt))
    (serve-moves f s1 l n k framed (subst (λ v. Along f v l n) (sym (view-exit f.system i t.vars ps s)) on) late begun)
  where
    s1 : State
    s1 = exit f.system i t.vars ps s

    on : Along f (changed i (on_with f.system.costs ps) (view s)) l n
    on = goes-along f (view s) l n i (core t) (piece.Requested k value) ps t.vars framed along (see s.tasks i t here) is none tt tt tt

    late : IsServed f (view (exit f.system i t.vars ps s)) l n k
    late r q has kept =
        let mid : IsMid (now_of (view s)) (n.kept k) i t.left
        = (along.asking.of i (core t) (see s.tasks i t here)).mid k r has (subst (EndsRequest k) (sym is) refl) in
        let same : mid.request ≡ q = same-item (n.kept k) mid.request q mid.is kept in
        inl (sym mid.at ∙ ap (λ x. x.asked) same)

-- the effect of the end of an activation
finishing-moves : (f : Frame) (s : State) (l : Log) (n : Notes) (i : ℕ) (t : Task) (ps : List Piece) → IsFramed f → Along f (view s) l n → IsFit s
    → slice_get s.tasks i ≡ Some t
    → t.pieces ≡ Finishing ∷ ps → t.left ≡ 0 → s.phase ≡ Effects
    → Moved f (view s) (view ((takes_effect f.system i t (done f.system Finishing t.vars ps) s).0)) l
    ((takes_effect f.system i t (done f.system Finishing t.vars ps) s).1) []
finishing-moves f s l n i t ps framed along fit here is none effects = row (f.row_of i) refl
  where
    s1 : State
    s1 = record s { tasks = change i (ended t.vars) s.tasks }

    seen_as : view (record s { tasks = change i (ended t.vars) s.tasks }) ≡ changed i ended_core (view s)
    seen_as = view-ended i t.vars s

    ready : t.readiness ≡ Ready
    ready = fit.ready i t Finishing ps here is

    begun_at : s.phase ≡ Effects → since (view s) ≤ s.time
    begun_at e = begun-effects s e

    row : (o : Option ℕ) → f.row_of i ≡ o
        → Moved f (view s) (view ((takes_effect f.system i t (done f.system Finishing t.vars ps) s).0)) l
        ((takes_effect f.system i t (done f.system Finishing t.vars ps) s).1) []
    row None none' =
        let ended_along : Along f (changed i ended_core (view s)) l n = record {
          base = base-outside f (view s) l n.current i ended_core none' (λ x. refl) along.base;
          asking = asking-outside f (view s) l n i ended_core none' along.asking (λ x e. (tt, λ k z has. zero-le));
        } in
        moved-then f (view s) (view s1) _ l l _ _ [] []
        (grown-still f (view s) (view s1) l (event.End s.time t.thread.unit t.used ∷ []) (le_refl (since (view s)))
        (quiet-far f i t.thread (event.End s.time t.thread.unit t.used) framed none' (written-at along.base.written i (core t) (see s.tasks i t here))
        (λ u differ. other-end u s.time t.thread.unit t.used differ)
        (i, t.thread, written-at along.base.written i (core t) (see s.tasks i t here), refl)))
        (serve-moves f s1 l n i framed (subst (λ v. Along f v l n) (sym seen_as) ended_along) (λ r q has kept. absurd (no-row f i r none' has))
        (begun_at effects))
    row (Some r) has =
        let busy : Busy f (now_of (view s)) l (n.current i) i r (core t) = along.base.runs i (core t) (see s.tasks i t here) r has ready in
        let ended_along : Along f (changed i ended_core (view s)) (finished (n.current i) l) n = record {
          base = base-ended f (view s) l n.current i r (core t) along.base has (see s.tasks i t here) ready (busy.left none).2;
          asking = asking-ended f (view s) l n i r (core t) along.base along.asking has (see s.tasks i t here) ready effects;
        } in
        moved-then f (view s) (view s1) _ l (finished (n.current i) l) _ _ [] []
        (grown-finished f (view s) (view s1) l n i r (core t) t.used framed along.base (le_refl (since (view s))) has (see s.tasks i t here) ready)
        (serve-moves f s1 (finished (n.current i) l) n i framed (subst (λ v. Along f v (finished (n.current i) l) n) (sym seen_as) ended_along)
        (λ z q has' kept. inr (subst (λ x. EndedAt (change (n.current i) (over_at (length l.ticks)) l.acts) x s.time)
        (same-item (f.row_of i) r z has has')
        (ended-at f (view s) l n.current i r (core t) along.base busy))) (begun_at effects))

-- the effect of a piece
pub effect-moves : (f : Frame) (s : State) (l : Log) (n : Notes) (i : ℕ) (t : Task) (p : Piece) (ps : List Piece) → IsFramed f → Along f (view s) l n
    → IsFit s → slice_get s.tasks i ≡ Some t
    → t.pieces ≡ p ∷ ps → t.left ≡ 0 → s.phase ≡ Effects → s.ran ≡ Some i
    → Moved f (view s) (view ((takes_effect f.system i t (done f.system p t.vars ps) s).0)) l
    ((takes_effect f.system i t (done f.system p t.vars ps) s).1) []
effect-moves f s l n i t (Opening k) ps framed along fit here is none effects ran
    = opening-moves f s l n i k t ps framed along fit here is none effects ran
effect-moves f s l n i t (piece.Requested k value) ps framed along fit here is none effects ran
    = requested-moves f s l n i k t value ps framed along here is none (begun-effects s effects)
effect-moves f s l n i t Finishing ps framed along fit here is none effects ran = finishing-moves f s l n i t ps framed along fit here is none effects
effect-moves f s l n i t (piece.Leaving condition) ps framed along fit here is none effects ran =
    quiet-moves f s l n i t (piece.Leaving condition) ps framed along here is none (fit.exits i t (piece.Leaving condition) ps here is) tt
effect-moves f s l n i t p ps framed along fit here is none effects ran = quiet-moves f s l n i t p ps framed along here is none tt tt
