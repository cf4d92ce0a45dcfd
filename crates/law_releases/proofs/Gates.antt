-- How a task stands to its requests after its control structure has changed: a value is kept, the barrier opens, and the task is released or waits.
use Rattle.std.specs.Prelude.{◌≡◌, ◌⊎◌, ℕ, ◌≤◌, true, false, List, [], ◌∷◌, slice_get, Option, Some, None, refl}
use Rattle.std.proofs.Common.{sym, ◌∙◌, ap, subst, arith, inl, inr}
use Rattle.seq_tree.specs.Lists.{change}
use Rattle.seq_tree.specs.declared.tree.Costs.{Costs}
use Rattle.machine.specs.Systems.{TaskUnit}
use Rattle.machine.specs.Pieces.{Piece, Opening, Requested, Finishing}
use Rattle.machine.specs.States.{Task, Gate, Waiting, Ready, shut}
use Rattle.machine.specs.Releases.{released, next_time}
use Rattle.guarantee.specs.Requests.{Pending}
use Rattle.law_releases.proofs.RequestPieces.{is_free, asks, Heads, keeps, opened, KeptBy, not_kept, opened_keeps, keeps_asks, free_block}
use Rattle.law_releases.proofs.RequestPieces.{free_heads, free_keeps}
use Rattle.law_releases.proofs.RequestStanding.{Idles, Someone, Queue, Stands, IsAsBefore}
use Rattle.std.proofs.lemmas.Bool.{true≢false, eq-eqb, false_from_ne_true}
use Rattle.std.proofs.lemmas.Option.{same_Some}
use Rattle.law_lists.proofs.Shared.Places.{change-at, changed, change-else}
use Rattle.law_written.proofs.Shared.Back.{places}
use Rattle.law_calls.proofs.Shared.Tasks.{released-thread, released-readiness, released-gate, released-pieces}

-- a released task
abbrev begun : Task → Task
begun t = record t { readiness = Ready; next = next_time t.thread.timing t.next; used = 0; gate = shut }

pub released-free : (costs : Costs) (t : Task) → is_free (released costs t).pieces ≡ true
released-free costs t = ap is_free (released-pieces costs t) ∙ free_block t.thread.block (Finishing ∷ [])

-- nobody has kept a value for a task
abbrev pub NoKeeper : ℕ → List Task → Type 0
NoKeeper j ts = (i : ℕ) (u : Task) → slice_get ts i ≡ Some u → keeps j u.pieces ≡ false

abbrev pub HaveHeads : List Task → Type 0
HaveHeads ts = (i : ℕ) (u : Task) → slice_get ts i ≡ Some u → Heads u.pieces

no_keeper-released : (costs : Costs) (j i : ℕ) (ts : List Task) → NoKeeper j ts → NoKeeper j (change i (released costs) ts)
no_keeper-released costs j i ts none k u at =
    changed i k (released costs) ts u at (λ x e there same. ap (λ z. keeps j z.pieces) same ∙ free_keeps j (released costs x).pieces
    (released-free costs x)) (λ apart there. none k u there)

heads-released : (costs : Costs) (i : ℕ) (ts : List Task) → HaveHeads ts → HaveHeads (change i (released costs) ts)
heads-released costs i ts heads k u at =
    changed i k (released costs) ts u at (λ x e there same. subst (λ z. Heads z.pieces) (sym same)
    (free_heads (released costs x).pieces (released-free costs x))) (λ apart there. heads k u there)

-- a task that is released
pub stands-released : (costs : Costs) (th : TaskUnit) (j now : ℕ) (ts : List Task) (t : Task) → slice_get ts j ≡ Some t → t.thread ≡ th → HaveHeads ts
    → NoKeeper j ts
    → Stands th j now (change j (released costs) ts) [] None
stands-released costs th j now ts t at thread heads none = record {
  t = released costs t;
  at = change-at j (released costs) ts t at;
  written = released-thread costs t ∙ thread;
  idles = subst (λ r. Idles r now None) (sym (released-readiness costs t)) refl;
  heads = heads-released costs j ts heads;
  kept = λ i u there. not_kept j (released costs t).gate u.pieces (no_keeper-released costs j j ts none i u there);
  queue = λ opens. absurd (true≢false (sym opens ∙ ap (λ g. g.open') (released-gate costs t)));
}

-- a request that waits
pub stands-waits : (th : TaskUnit) (j now : ℕ) (ts : List Task) (t : Task) → slice_get ts j ≡ Some t → t.thread ≡ th → HaveHeads ts → NoKeeper j ts
    → t.readiness ≡ Ready → t.gate.open' ≡ true
    → Stands th j now ts (record { time = now; value = t.gate.value } ∷ []) None
stands-waits th j now ts t at thread heads none ready opens = record {
  t = t;
  at = at;
  written = thread;
  idles = subst (λ r. Idles r now None) (sym ready) refl;
  heads = heads;
  kept = λ i u there. not_kept j t.gate u.pieces (none i u there);
  queue = (opens, ready, omega arith, inl refl);
}

-- a task that waits
pub stands-idle : (th : TaskUnit) (j now since : ℕ) (ts : List Task) (t : Task) → slice_get ts j ≡ Some t → t.thread ≡ th → HaveHeads ts
    → NoKeeper j ts → t.readiness ≡ Waiting → since ≤ now
    → t.gate.open' ≡ false → Stands th j now ts [] (Some since)
stands-idle th j now since ts t at thread heads none waits le closed = record {
  t = t;
  at = at;
  written = thread;
  idles = subst (λ r. Idles r now (Some since)) (sym waits) (since, refl, le);
  heads = heads;
  kept = λ i u there. not_kept j t.gate u.pieces (none i u there);
  queue = λ opens. absurd (true≢false (sym opens ∙ closed));
}

-- the task itself after a change of any task that keeps what it is to requests
pub stays-at : (j i : ℕ) (f : Task → Task) (ts : List Task) (t : Task) → slice_get ts j ≡ Some t
    → ((u : Task) → IsAsBefore u (f u))
    → (t' : Task) × (slice_get (change i f ts) j ≡ Some t') × IsAsBefore t t'
stays-at j i f ts t at keeps' = places j i here (λ apart. (t, change-else i j f ts apart ∙ at, (refl, refl, refl)))
  where
    here : j ≡ i → (t' : Task) × (slice_get (change i f ts) j ≡ Some t') × IsAsBefore t t'
    here e =
        (f t, ap (slice_get (change i f ts)) e ∙ change-at i f ts t (ap (slice_get ts) (sym e) ∙ at), keeps' t)

-- someone who asks, and who alone does
abbrev pub AsksAlone : ℕ → ℕ → List Task → Type 0
AsksAlone j i ts = (k : ℕ) (u : Task) → slice_get ts k ≡ Some u → asks j u.pieces ≡ true → k ≡ i

-- the pieces after one task has got new ones, and a control structure has changed
abbrev Either' : ℕ → List Piece → List Task → ℕ → Task → Type 0
Either' i ps ts k z = ((k ≡ i) × (z.pieces ≡ ps)) ⊎ ((k ≡ i → ⊥) × (x : Task) × (slice_get ts k ≡ Some x) × (z.pieces ≡ x.pieces))

two-changes : (i j : ℕ) (f : Task → Task) (g : Task → Task) (ps : List Piece) (ts : List Task) → ((u : Task) → (f u).pieces ≡ ps)
    → ((u : Task) → (g u).pieces ≡ u.pieces)
    → (k : ℕ) (z : Task) → slice_get (change j g (change i f ts)) k ≡ Some z → Either' i ps ts k z
two-changes i j f g ps ts fs gs k z at =
    changed j k g (change i f ts) z at (λ x e there same. one x (ap (slice_get (change i f ts)) e ∙ there) (ap (λ w. w.pieces) same ∙ gs x))
    (λ apart there. one z there refl)
  where
    one : (x : Task) → slice_get (change i f ts) k ≡ Some x → z.pieces ≡ x.pieces → Either' i ps ts k z
    one x there same = changed i k f ts x there (λ w e was is. inl (e, same ∙ ap (λ v. v.pieces) is ∙ fs w)) (λ apart was. inr (apart, x, was, same))

module _ (th : TaskUnit) (j now : ℕ) (ts : List Task) (q : List Pending) (idle : Option ℕ) (h : Stands th j now ts q idle) (i : ℕ) (u : Task)
    (there : slice_get ts i ≡ Some u) (alone : AsksAlone j i ts)
    (f : Task → Task) (keeps' : (u : Task) → IsAsBefore u (f u)) where
  -- others have kept nothing
  other_none : (k : ℕ) (x : Task) → (k ≡ i → ⊥) → slice_get ts k ≡ Some x → keeps j x.pieces ≡ false
  other_none k x apart at = false_from_ne_true _ (λ e. apart (alone k x at (keeps_asks j x.pieces (h.heads k x at) e)))

  -- a value is kept
  pub stands-keeps : (v : Option ℕ) (rest : List Piece) → is_free rest ≡ true → keeps j u.pieces ≡ false
      → ((u : Task) → (f u).pieces ≡ Opening j ∷ Requested j v ∷ rest)
      → Stands th j now (change j (λ w. record w { gate = record w.gate { value = v } }) (change i f ts)) q idle
  stands-keeps v rest free fresh fs =
      let ps : List Piece = Opening j ∷ Requested j v ∷ rest in
      let g : Task → Task = λ w. record w { gate = record w.gate { value = v } } in
      let t1 = stays-at j i f ts h.t h.at keeps' in
      record {
        t = g t1.0;
        at = change-at j g (change i f ts) t1.0 t1.1;
        written = t1.2.0 ∙ h.written;
        idles = subst (λ r. Idles r now idle) (sym t1.2.2) h.idles;
        heads = λ k z at. heads' k z (two-changes i j f g ps ts fs (λ w. refl) k z at);
        kept = λ k z at. kept' (g t1.0).gate refl k z (two-changes i j f g ps ts fs (λ w. refl) k z at);
        queue = queue' q (g t1.0) (ap (λ z. z.open') t1.2.1) t1.2.2 (found g (λ w. refl)) h.queue;
      }
    where
      heads' : (k : ℕ) (z : Task) → Either' i (Opening j ∷ Requested j v ∷ rest) ts k z → Heads z.pieces
      heads' k z (inl e) = subst Heads (sym e.1) (refl, free)
      heads' k z (inr e) = subst Heads (sym e.3) (h.heads k e.1 e.2)

      kept' : (g : Gate) → g.value ≡ v → (k : ℕ) (z : Task) → Either' i (Opening j ∷ Requested j v ∷ rest) ts k z → KeptBy j g z.pieces
      kept' g same k z (inl e) = subst (KeptBy j g) (sym e.1) (λ is. same)
      kept' g same k z (inr e) = subst (KeptBy j g) (sym e.3) (not_kept j g e.1.pieces (other_none k e.1 e.0 e.2))

      found : (g : Task → Task) → ((w : Task) → (g w).pieces ≡ w.pieces) → Someone (keeps j) (change j g (change i f ts))
      found g gs = places j i (λ e. (
        i,
        g (f u),
        subst (λ n. slice_get (change j g (change i f ts)) n
            ≡ Some (g (f u))) e (change-at j g (change i f ts) (f u) (ap (slice_get (change i f ts)) e ∙ change-at i f ts u there)),
        ap (keeps j) (gs (f u) ∙ fs u) ∙ eq-eqb j j refl,
      ))
          (λ apart. (
            i,
            f u,
            change-else j i g (change i f ts) (λ e. apart (sym e)) ∙ change-at i f ts u there,
            ap (keeps j) (fs
                u) ∙ eq-eqb j j refl,
          ))

      queue' : (q : List Pending) (t' : Task) → t'.gate.open' ≡ h.t.gate.open' → t'.readiness ≡ h.t.readiness
          → Someone (keeps j) (change j (λ w. record w { gate = record w.gate { value = v } }) (change i f ts))
          → Queue j now ts h.t.readiness h.t.gate q
          → Queue j now (change j (λ w. record w { gate = record w.gate { value = v } }) (change i f ts)) t'.readiness t'.gate q
      queue' [] t' opens readiness some old = λ e.
          let s = old (sym opens ∙ e) in
          let asking : asks j s.1.pieces ≡ true = keeps_asks j s.1.pieces (h.heads s.0 s.1 s.2) (opened_keeps j s.1.pieces s.3) in
          let place : s.0 ≡ i = alone s.0 s.1 s.2 asking in
          let one : s.1 ≡ u = same_Some s.1 u (sym s.2 ∙ ap (slice_get ts) place ∙ there) in
          absurd (true≢false (sym (ap (λ w. keeps j w.pieces) (sym one) ∙ opened_keeps j s.1.pieces s.3) ∙ fresh))
      queue' (r ∷ []) t' opens readiness some old = (opens ∙ old.0, readiness ∙ old.1, old.2, inr some)
      queue' (r ∷ r' ∷ q) t' opens readiness some old = old

  -- the barrier opens
  pub stands-opens : (v : Option ℕ) (rest : List Piece) → is_free rest ≡ true → u.pieces ≡ Opening j ∷ Requested j v ∷ rest
      → ((u : Task) → (f u).pieces ≡ Requested j v ∷ rest)
      → Stands th j now (change j (λ w. record w { gate = record w.gate { open' = true } }) (change i f ts)) q idle
  stands-opens v rest free has fs =
      let ps : List Piece = Requested j v ∷ rest in
      let g : Task → Task = λ w. record w { gate = record w.gate { open' = true } } in
      let t1 = stays-at j i f ts h.t h.at keeps' in
      let value : h.t.gate.value ≡ v = subst (KeptBy j h.t.gate) has (h.kept i u there) refl in
      record {
        t = g t1.0;
        at = change-at j g (change i f ts) t1.0 t1.1;
        written = t1.2.0 ∙ h.written;
        idles = subst (λ r. Idles r now idle) (sym t1.2.2) h.idles;
        heads = λ k z at. heads' k z (two-changes i j f g ps ts fs (λ w. refl) k z at);
        kept = λ k z at. kept' (g t1.0).gate (ap (λ z. z.value) t1.2.1 ∙ value) refl k z (two-changes i j f g ps ts fs (λ w. refl) k z at);
        queue = queue' q (g t1.0) refl t1.2.2 (ap (λ z. z.value) t1.2.1) found h.queue;
      }
    where
      heads' : (k : ℕ) (z : Task) → Either' i (Requested j v ∷ rest) ts k z → Heads z.pieces
      heads' k z (inl e) = subst Heads (sym e.1) free
      heads' k z (inr e) = subst Heads (sym e.3) (h.heads k e.1 e.2)

      kept' : (g : Gate) → g.value ≡ v → g.open' ≡ true → (k : ℕ) (z : Task) → Either' i (Requested j v ∷ rest) ts k z → KeptBy j g z.pieces
      kept' g same opens k z (inl e) = subst (KeptBy j g) (sym e.1) (λ is. (same, opens))
      kept' g same opens k z (inr e) = subst (KeptBy j g) (sym e.3) (not_kept j g e.1.pieces (other_none k e.1 e.0 e.2))

      found : Someone (opened j) (change j (λ w. record w { gate = record w.gate { open' = true } }) (change i f ts))
      found =
          let g : Task → Task = λ w. record w { gate = record w.gate { open' = true } } in
          places j i (λ e. (
            i,
            g (f u),
            subst (λ n. slice_get (change j g (change i f ts)) n
                ≡ Some (g (f u))) e (change-at j g (change i f ts) (f u) (ap (slice_get (change i f ts)) e ∙ change-at i f ts u there)),
            ap (opened j) (fs u) ∙ eq-eqb j j refl,
          ))
          (λ apart. (
            i,
            f u,
            change-else j i g (change i f ts) (λ e. apart (sym e)) ∙ change-at i f ts u there,
            ap (opened j) (fs
                u) ∙ eq-eqb j j refl,
          ))

      queue' : (q : List Pending) (t' : Task) → t'.gate.open' ≡ true → t'.readiness ≡ h.t.readiness → t'.gate.value ≡ h.t.gate.value
          → Someone (opened j) (change j (λ w. record w { gate = record w.gate { open' = true } }) (change i f ts))
          → Queue j now ts h.t.readiness h.t.gate q
          → Queue j now (change j (λ w. record w { gate = record w.gate { open' = true } }) (change i f ts)) t'.readiness t'.gate q
      queue' [] t' opens readiness value some old = λ e. some
      queue' (r ∷ []) t' opens readiness value some old
          = (opens, readiness ∙ old.1, old.2, inr (some.0, some.1, some.2, opened_keeps j some.1.pieces some.3))
      queue' (r ∷ r' ∷ q) t' opens readiness value some old = old

  -- a request has been made: nobody has kept a value any more
  pub record Made (v : Option ℕ) : Type 0 where
    pub t : Task
    pub at : slice_get (change i f ts) j ≡ Some t
    pub written : t.thread ≡ th
    pub value : t.gate.value ≡ v
    pub opens : t.gate.open' ≡ true
    pub readiness : t.readiness ≡ h.t.readiness
    pub heads : HaveHeads (change i f ts)
    pub none : NoKeeper j (change i f ts)

  pub stands-made : (v : Option ℕ) (rest : List Piece) → is_free rest ≡ true → u.pieces ≡ Requested j v ∷ rest
      → ((u : Task) → (f u).pieces ≡ rest) → Made v
  stands-made v rest free has fs =
      let t1 = stays-at j i f ts h.t h.at keeps' in
      let kept' : (h.t.gate.value ≡ v) × (h.t.gate.open' ≡ true) = subst (KeptBy j h.t.gate) has (h.kept i u there) refl in
      record {
        t = t1.0;
        at = t1.1;
        written = t1.2.0 ∙ h.written;
        value = ap (λ g. g.value) t1.2.1 ∙ kept'.0;
        opens = ap (λ g. g.open') t1.2.1 ∙ kept'.1;
        readiness = t1.2.2;
        heads = λ k z at. changed i k f ts z at (λ x e was same. subst (λ w. Heads w.pieces) (sym same)
            (subst Heads (sym (fs x)) (free_heads rest free))) (λ apart was. h.heads k z was);
        none = λ k z at. changed i k f ts z at (λ x e was same. ap (λ w. keeps j w.pieces) same ∙ ap (keeps j)
            (fs x) ∙ free_keeps j rest free) (λ apart was. other_none k z apart was);
      }
