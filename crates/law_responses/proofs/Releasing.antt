-- The releases of a task with a row: of a cyclic one at its time, of any other by the request that is kept.
use Rattle.std.specs.Prelude.{◌≡◌, ◌⊎◌, ℕ, ◌+◌, ◌≤◌, Bool, true, false, List, [], ◌∷◌, ◌++◌, length, slice_get, Option, Some, None, refl}
use Rattle.std.proofs.Common.{sym, ◌∙◌, ap, subst, arith, inl, inr, le_refl}
use Rattle.std.proofs.lemmas.Option.{slice_get_within}
use Rattle.std.proofs.lemmas.Bool.{false≢true, both_ways}
use Rattle.seq_tree.specs.Operations.{Signature}
use Rattle.rt_response.specs.declared.rows.ThreadRow.{ThreadRow}
use Rattle.machine.specs.Systems.{ReleasePattern, Periodic, Requested}
use Rattle.machine.specs.Releases.{next_time}
use Rattle.machine.specs.States.{Delays, Readiness, Asleep, Waiting, Ready}
use Rattle.law_responses.proofs.Logs.{Made, Log, Follows, Cause, IsTimely, started, OfRow, EndedAt}
use Rattle.law_responses.proofs.Views.{Core, View, released_core, changed}
use Rattle.law_responses.proofs.Frames.{Frame, HasRow, IsAsked, IsTabled, IsFramed, Kept, Notes}
use Rattle.law_responses.proofs.Base.{written-at, put}
use Rattle.law_responses.proofs.BaseMoves.{base-released}
use Rattle.law_responses.proofs.Asking.{Sleeps, Came, AwaitsAfter, IsAwake, Wait, wait_of, Asked}
use Rattle.law_responses.proofs.AskingLater.{came-later}
use Rattle.law_responses.proofs.AskingReleases.{asking-released}
use Rattle.law_responses.proofs.Later.{still-grown}
use Rattle.law_responses.proofs.Moves.{Along, Moved, since, grown-started}
use Rattle.trace_tree.specs.declared.event.Event.TheVariants as event
use Rattle.law_lists.proofs.Shared.Places.{same-item, each-grown}

follows-of : (acts : List Made) (r time : ℕ) (m : Made) → m.row ≡ r → m.release ≡ time → EndedAt acts r time → Follows acts (length acts) m
follows-of acts r time m of_row now h = record {
  place = h.0;
  made = h.1;
  earlier = slice_get_within acts h.0 h.1 h.2;
  stands = h.2;
  same = h.3 ∙ sym of_row;
  ended = h.4 ∙ ap Some (sym now);
}

-- how a task waits as it is released
abbrev wakes : ReleasePattern → Wait → Wait
wakes t w = record w { readiness = Ready; next = next_time t w.next; open' = false }

-- how a task with a row is released
abbrev Wakes : Frame → View → Log → Notes → ℕ → ℕ → Core → ThreadRow → Made → Type 0
Wakes f v l n i r c row m =
    IsTimely f.rows f.shift l.acts (length l.acts) m × OfRow l.acts r (λ x. x.nominal + row.period ≤ m.nominal)
    × Asked f v.phase v.time (l.acts ++ m ∷ []) n.taken (n.kept i) r (wakes c.thread.timing (wait_of c)) row c.thread.timing

of-row-with : (acts : List Made) (x : Made) (r : ℕ) (P : Made → Type 0) → OfRow acts r P → P x → OfRow (acts ++ x ∷ []) r P
of-row-with acts x r P all here = each-grown (λ k m. m.row ≡ r → P m) acts x all (λ same. here)

-- the activation of a cyclic task at its next nominal time
abbrev pub cyclic_made : ℕ → ℕ → ℕ → ℕ → ℕ → Made
cyclic_made shift i r next time = record { task = i; row = r; nominal = shift + next; asked = next; release = time; over = None }

-- the activation that a request is for
abbrev pub asked_made : ℕ → ℕ → Kept → ℕ → Made
asked_made i r q time = record { task = i; row = r; nominal = q.nominal; asked = q.asked; release = time; over = None }

released-along : (f : Frame) (v : View) (l : Log) (n : Notes) (i r : ℕ) (c : Core) (m : Made) (row : ThreadRow) → IsFramed f → Along f v l n
    → HasRow f i r → slice_get v.cores i ≡ Some c → (c.readiness ≡ Ready → ⊥) → slice_get f.rows r ≡ Some row
    → m.task ≡ i → m.row ≡ r → m.over ≡ None → m.release ≡ v.time → Wakes f v l n i r c row m
    → since v ≤ v.time → (value : Option ℕ)
    → Moved f v (changed i (released_core f.system.costs) v) l (event.Release v.time c.thread.unit value ∷ []) []
released-along f v l n i r c m row framed along has here idle line task of_row unended now woken begun value =
    let after : Along f (changed i (released_core f.system.costs) v) (started m l) (record n { current = put i (length l.acts) n.current }) = record {
      base = base-released f v l n.current i r c m framed along.base has here idle task of_row unended now;
      asking = asking-released f v l n i r c m row framed along.base along.asking has here line of_row woken.0 woken.1 woken.2;
    } in
    record {
      log = started m l;
      notes = record n { current = put i (length l.acts) n.current };
      along = after;
      grown = grown-started f v (changed i (released_core f.system.costs) v) l i r c.thread m value framed (le_refl
          (since v)) has (written-at along.base.written i c here) of_row unended now begun;
    }

-- a cyclic task is due: it sleeps until its next nominal time, which is now, or its activation ended now
wakes-cyclic : (f : Frame) (v : View) (l : Log) (n : Notes) (i r until : ℕ) (w : Wait) (row : ThreadRow) (offset period : ℕ)
    → v.phase ≡ Delays → w.readiness ≡ Asleep until → until ≤ v.time → row.period ≤ period
    → Asked f v.phase v.time l.acts n.taken (n.kept i) r w row (Periodic offset period)
    → IsTimely f.rows f.shift l.acts (length l.acts) (cyclic_made f.shift i r w.next v.time)
    × OfRow l.acts r (λ x. x.nominal + row.period ≤ f.shift + w.next)
    × Asked f v.phase v.time (l.acts ++ cyclic_made f.shift i r w.next v.time ∷ []) n.taken (n.kept i) r (wakes (Periodic offset period) w) row
    (Periodic offset period)
wakes-cyclic f v l n i r until w row offset period phase asleep due less asked = (
  record {
    asked = le_refl (f.shift + w.next);
    waited = omega (arith, sleeps.0, due);
    late = late sleeps.1;
    cause = λ line asks. inl (le_refl (f.shift + w.next));
  },
  asked.0,
  (
    of-row-with l.acts (cyclic_made f.shift i r w.next v.time) r (λ m. m.nominal + row.period ≤ f.shift + (w.next + period))
        (λ k m e same. let before : m.nominal + row.period ≤ f.shift + w.next = asked.0 k m e same in omega (arith, before)) (omega (arith, less)),
    tt,
  ),
)
  where
    sleeps : Sleeps Delays v.time l.acts r w.next (Asleep until)
    sleeps = subst (λ s. Sleeps Delays v.time l.acts r w.next s) asleep (subst (λ p. Sleeps p v.time l.acts r w.next w.readiness) phase asked.1)

    late : (v.time ≤ until) ⊎ EndedAt l.acts r v.time → (v.time ≡ w.next) ⊎ Follows l.acts (length l.acts) (cyclic_made f.shift i r w.next v.time)
    late (inl near) = inl (omega (arith, near, due, sleeps.0))
    late (inr ended) = inr (follows-of l.acts r v.time (cyclic_made f.shift i r w.next v.time) refl refl ended)

-- a task that is requested is released for the request that is kept, as it comes or as the activation before ends
cause-of : (f : Frame) (l : Log) (n : Notes) (i r : ℕ) (row : ThreadRow) (unit : ℕ) (op : Signature) (ceiling separation jitter : ℕ) (external : Bool)
    (q : Kept) (time : ℕ)
    → IsAsked f i row (Requested op ceiling separation jitter external) → Came f l.acts n.taken row unit external separation jitter (Some q)
    → Cause f.shift l.acts row (length l.acts) (asked_made i r q time)
cause-of f l n i r row unit op ceiling separation jitter true q time asks came =
    let near : f.shift + q.asked ≤ q.nominal + jitter = came.near in
    inr (inl (asks.0, omega (arith, near, asks.2)))
cause-of f l n i r row unit op ceiling separation jitter false q time asks came = inr (inr (record {
  place = came.place;
  made = came.made;
  earlier = slice_get_within l.acts came.place came.made came.stands;
  stands = came.stands;
  starter = came.starter;
  nominal = came.same;
  after = came.after;
  during = came.during;
}))

wakes-requested : (f : Frame) (v : View) (l : Log) (n : Notes) (i r : ℕ) (w : Wait) (row : ThreadRow) (op : Signature) (ceiling separation jitter : ℕ)
    (external : Bool) (q : Kept)
    → slice_get f.rows r ≡ Some row → IsAsked f i row (Requested op ceiling separation jitter external) → w.open' ≡ true
    → (v.time ≡ q.asked) ⊎ EndedAt l.acts r v.time
    → Asked f v.phase v.time l.acts n.taken (Some q) r w row (Requested op ceiling separation jitter external)
    → IsTimely f.rows f.shift l.acts (length l.acts) (asked_made i r q v.time) × OfRow l.acts r (λ x. x.nominal + row.period ≤ q.nominal)
    × Asked f v.phase v.time (l.acts ++ asked_made i r q v.time ∷ []) n.taken (Some q) r (wakes (Requested op ceiling separation jitter external) w)
    row (Requested op ceiling separation jitter external)
wakes-requested f v l n i r w row op ceiling separation jitter external q line asks opens late asked =
    let awaits : AwaitsAfter f v.time l.acts r w.open' row q = asked.0 in (
      record {
        asked = awaits.asked;
        waited = awaits.past;
        late = elim late [ inl same ↦ inl same | inr ended ↦ inr (follows-of l.acts r v.time (asked_made i r q v.time) refl refl ended) ];
        cause = λ other at.
            subst (λ x. Cause f.shift l.acts x (length l.acts) (asked_made i r q v.time)) (same-item (slice_get f.rows r) row other line at)
            (cause-of f l n i r row w.unit op ceiling separation jitter external q v.time asks asked.1);
      },
      awaits.apart opens,
      (
        record {
          asked = awaits.asked;
          past = awaits.past;
          before = of-row-with l.acts (asked_made i r q v.time) r (λ m. m.nominal ≤ q.nominal) awaits.before (le_refl q.nominal);
          apart = λ e. absurd (false≢true e);
        },
        came-later f l.acts (l.acts ++ asked_made i r q v.time ∷ []) v.time n.taken row w.unit external separation jitter q (still-grown l.acts
            (asked_made i r q v.time) v.time) awaits.past asked.1,
        tt,
      ),
    )

-- a cyclic task is released
pub release-cyclic : (f : Frame) (v : View) (l : Log) (n : Notes) (i r until : ℕ) (c : Core) → IsFramed f → Along f v l n → HasRow f i r
    → slice_get v.cores i ≡ Some c
    → v.phase ≡ Delays → c.readiness ≡ Asleep until → until ≤ v.time → since v ≤ v.time → (value : Option ℕ)
    → Moved f v (changed i (released_core f.system.costs) v) l (event.Release v.time c.thread.unit value ∷ []) []
release-cyclic f v l n i r until c framed along has here phase asleep due begun value =
    go c.thread.timing refl tabled.asked ((along.asking.of i c here).asked r tabled.row has tabled.asks)
  where
    tabled : IsTabled f i r c.thread
    tabled = framed.tabled i r c.thread has (written-at along.base.written i c here)

    idle : c.readiness ≡ Ready → ⊥
    idle e = clash c.readiness asleep e
      where
        clash : (x : Readiness) → x ≡ Asleep until → x ≡ Ready → ⊥
        clash x a b = cc

    go : (t : ReleasePattern) → c.thread.timing ≡ t → IsAsked f i tabled.row t
        → Asked f v.phase v.time l.acts n.taken (n.kept i) r (wait_of c) tabled.row t
        → Moved f v (changed i (released_core f.system.costs) v) l (event.Release v.time c.thread.unit value ∷ []) []
    go (Periodic offset period) is asks asked =
        let m : Made = cyclic_made f.shift i r c.next v.time in
        let woken = wakes-cyclic f v l n i r until (wait_of c) tabled.row offset period phase asleep due asks.0 asked in
        released-along f v l n i r c m tabled.row framed along has here idle tabled.asks refl refl refl refl (
          woken.0,
          woken.1,
          subst (λ t. Asked f v.phase v.time (l.acts ++ m ∷ []) n.taken (n.kept i) r
              (wakes t (wait_of c)) tabled.row t) (sym is) woken.2,
        ) begun value
    go (Requested op ceiling separation jitter external) is asks asked = absurd (subst IsAwake asleep asked.2)

-- a task that is requested and waits is released
pub release-requested : (f : Frame) (v : View) (l : Log) (n : Notes) (i r : ℕ) (c : Core) → IsFramed f → Along f v l n → HasRow f i r
    → slice_get v.cores i ≡ Some c
    → c.readiness ≡ Waiting → c.open' ≡ true → ((q : Kept) → n.kept i ≡ Some q → (v.time ≡ q.asked) ⊎ EndedAt l.acts r v.time)
    → since v ≤ v.time → (value : Option ℕ)
    → Moved f v (changed i (released_core f.system.costs) v) l (event.Release v.time c.thread.unit value ∷ []) []
release-requested f v l n i r c framed along has here waits opens late begun value =
    go c.thread.timing refl tabled.asked (n.kept i) refl ((along.asking.of i c here).asked r tabled.row has tabled.asks)
  where
    tabled : IsTabled f i r c.thread
    tabled = framed.tabled i r c.thread has (written-at along.base.written i c here)

    idle : c.readiness ≡ Ready → ⊥
    idle e = clash c.readiness waits e
      where
        clash : (x : Readiness) → x ≡ Waiting → x ≡ Ready → ⊥
        clash x a b = cc

    go : (t : ReleasePattern) → c.thread.timing ≡ t → IsAsked f i tabled.row t → (o : Option Kept) → n.kept i ≡ o
        → Asked f v.phase v.time l.acts n.taken o r (wait_of c) tabled.row t
        → Moved f v (changed i (released_core f.system.costs) v) l (event.Release v.time c.thread.unit value ∷ []) []
    go (Periodic offset period) is asks o kept asked = absurd (subst (Sleeps v.phase v.time l.acts r c.next) waits asked.1)
    go (Requested op ceiling separation jitter external) is asks None kept asked = absurd (both_ways c.open' asked.0.1 opens)
    go (Requested op ceiling separation jitter external) is asks (Some q) kept asked =
        let m : Made = asked_made i r q v.time in
        let woken = wakes-requested f v l n i r (wait_of c) tabled.row op ceiling separation jitter external q tabled.asks asks opens
        (late q kept) asked in
        released-along f v l n i r c m tabled.row framed along has here idle tabled.asks refl refl refl refl (
          woken.0,
          woken.1,
          subst (λ o. Asked f v.phase v.time (l.acts ++ m ∷ []) n.taken o r (wakes c.thread.timing (wait_of c)) tabled.row c.thread.timing) (sym kept)
              (subst (λ t. Asked f v.phase v.time (l.acts ++ m ∷ []) n.taken (Some q) r (wakes t (wait_of c)) tabled.row t) (sym is) woken.2),
        ) begun value
