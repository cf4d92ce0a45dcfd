-- How a task that is released at requests stands: the requests told and not yet served, against its control structure and the requests that go on.
use Rattle.std.specs.Prelude.{◌≡◌, ◌⊎◌, ℕ, ◌≤◌, Bool, true, false, List, [], ◌∷◌, slice_get, Option, Some, None, refl}
use Rattle.std.proofs.Common.{sym, ◌∙◌, ap, subst, arith, inl, inr}
use Rattle.seq_tree.specs.Lists.{change}
use Rattle.machine.specs.Systems.{TaskUnit}
use Rattle.machine.specs.Pieces.{Piece}
use Rattle.machine.specs.States.{Task, Gate, Readiness, Asleep, Waiting, Ready}
use Rattle.guarantee.specs.Requests.{Pending}
use Rattle.law_releases.proofs.RequestPieces.{Heads, keeps, opened, KeptBy, not_kept, opened_keeps}
use Rattle.std.proofs.lemmas.Bool.{true≢false}
use Rattle.law_lists.proofs.Shared.Places.{change-at, changed, change-else}
use Rattle.law_written.proofs.Shared.Back.{places}

-- how long a task has been waiting for a request
abbrev pub Idles : Readiness → ℕ → Option ℕ → Type 0
Idles (Asleep until) now idle = ⊥
Idles Waiting now idle = (since : ℕ) × (idle ≡ Some since) × (since ≤ now)
Idles Ready now idle = idle ≡ None

-- a task that is to requests what it was
abbrev pub IsAsBefore : Task → Task → Type 0
IsAsBefore t t' = (t'.thread ≡ t.thread) × (t'.gate ≡ t.gate) × (t'.readiness ≡ t.readiness)

-- someone who has kept a value for a task, and someone who has opened its barrier
abbrev pub Someone : (List Piece → Bool) → List Task → Type 0
Someone test ts = (i : ℕ) × (u : Task) × (slice_get ts i ≡ Some u) × (test u.pieces ≡ true)

-- the requests that are told and not yet served: one at most, and the task is then in an activation
abbrev pub Queue : ℕ → ℕ → List Task → Readiness → Gate → List Pending → Type 0
Queue j now ts readiness g [] = g.open' ≡ true → Someone (opened j) ts
Queue j now ts readiness g (r ∷ []) = (g.open' ≡ true) × (readiness ≡ Ready) × (r.time ≤ now) × ((r.value ≡ g.value) ⊎ Someone (keeps j) ts)
Queue j now ts readiness g (r ∷ r' ∷ q) = ⊥

pub record Stands (th : TaskUnit) (j now : ℕ) (ts : List Task) (q : List Pending) (idle : Option ℕ) : Type 0 where
  pub t : Task
  pub at : slice_get ts j ≡ Some t
  pub written : t.thread ≡ th
  pub idles : Idles t.readiness now idle
  pub heads : (i : ℕ) (u : Task) → slice_get ts i ≡ Some u → Heads u.pieces
  pub kept : (i : ℕ) (u : Task) → slice_get ts i ≡ Some u → KeptBy j t.gate u.pieces
  pub queue : Queue j now ts t.readiness t.gate q

idles_later : (r : Readiness) (now later : ℕ) (idle : Option ℕ) → now ≤ later → Idles r now idle → Idles r later idle
idles_later (Asleep until) now later idle le h = h
idles_later Waiting now later idle le h = (h.0, h.1, omega (arith, h.2, le))
idles_later Ready now later idle le h = h

-- tasks of which all stay who have kept a value
abbrev pub Stay : ℕ → List Task → List Task → Type 0
Stay j ts ts' = (i : ℕ) (u : Task) → slice_get ts i ≡ Some u → keeps j u.pieces ≡ true → (u' : Task) × (slice_get ts' i ≡ Some u')
    × (u'.pieces ≡ u.pieces)

queue_on : (j now later : ℕ) (ts ts' : List Task) (r : Readiness) (g : Gate) (q : List Pending) → now ≤ later → Stay j ts ts' → Queue j now ts r g q
    → Queue j later ts' r g q
queue_on j now later ts ts' r g [] le stay h = λ e.
    let s : Someone (opened j) ts = h e in
    let u = stay s.0 s.1 s.2 (opened_keeps j s.1.pieces s.3) in
    (s.0, u.0, u.1, ap (opened j) u.2 ∙ s.3)
queue_on j now later ts ts' r g (p ∷ []) le stay h = (h.0, h.1, omega (arith, h.2, le), by h.3)
  where
    by : (p.value ≡ g.value) ⊎ Someone (keeps j) ts → (p.value ≡ g.value) ⊎ Someone (keeps j) ts'
    by (inl e) = inl e
    by (inr s) = let u = stay s.0 s.1 s.2 s.3 in inr (s.0, u.0, u.1, ap (keeps j) u.2 ∙ s.3)
queue_on j now later ts ts' r g (p ∷ p' ∷ q) le stay h = h

-- the task itself stays as it is to requests
pub transfer : (th : TaskUnit) (j now later : ℕ) (ts ts' : List Task) (q : List Pending) (idle : Option ℕ) (h : Stands th j now ts q idle)
    → now ≤ later
    → (t' : Task) → slice_get ts' j ≡ Some t' → t'.thread ≡ h.t.thread → t'.gate ≡ h.t.gate → t'.readiness ≡ h.t.readiness
    → ((i : ℕ) (u : Task) → slice_get ts' i ≡ Some u → Heads u.pieces) → ((i : ℕ) (u : Task) → slice_get ts' i ≡ Some u → KeptBy j h.t.gate u.pieces)
    → Stay j ts ts'
    → Stands th j later ts' q idle
transfer th j now later ts ts' q idle h le t' at' thread gate readiness heads' kept' stay = record {
  t = t';
  at = at';
  written = thread ∙ h.written;
  idles = subst (λ r. Idles r later idle) (sym readiness) (idles_later h.t.readiness now later idle le h.idles);
  heads = heads';
  kept = λ i u at. subst (λ g. KeptBy j g u.pieces) (sym gate) (kept' i u at);
  queue = subst (λ r. Queue j later ts' r t'.gate q) (sym readiness) (subst (λ g. Queue j later ts' h.t.readiness g q) (sym gate)
      (queue_on j now later ts ts' h.t.readiness h.t.gate q le stay h.queue));
}

-- later, with the same tasks
pub later_on : (th : TaskUnit) (j now later : ℕ) (ts : List Task) (q : List Pending) (idle : Option ℕ) → Stands th j now ts q idle → now ≤ later
    → Stands th j later ts q idle
later_on th j now later ts q idle h le = transfer th j now later ts ts q idle h le h.t h.at refl refl refl h.heads h.kept (λ i u at e. (u, at, refl))

-- a change of one task that has kept no value before and after it, or keeps its pieces; if it is the task itself, it stays as it is to requests
abbrev pub IsStill : ℕ → (Task → Task) → Task → Type 0
IsStill j f u = ((keeps j u.pieces ≡ false) × Heads (f u).pieces × (keeps j (f u).pieces ≡ false)) ⊎ ((f u).pieces ≡ u.pieces)

pub moved : (th : TaskUnit) (j now : ℕ) (ts : List Task) (q : List Pending) (idle : Option ℕ) (i : ℕ) (f : Task
    → Task) (h : Stands th j now ts q idle)
    → ((u : Task) → slice_get ts i ≡ Some u → IsStill j f u)
    → (i ≡ j → IsAsBefore h.t (f h.t)) → Stands th j now (change i f ts) q idle
moved th j now ts q idle i f h still own = places j i here elsewhere
  where
    ts' : List Task
    ts' = change i f ts

    heads' : (k : ℕ) (u : Task) → slice_get ts' k ≡ Some u → Heads u.pieces
    heads' k u at = changed i k f ts u at (λ x e there same. subst (λ z. Heads z.pieces) (sym same) (of_still x there (still x there)))
        (λ apart there. h.heads k u there)
      where
        of_still : (x : Task) → slice_get ts i ≡ Some x → IsStill j f x → Heads (f x).pieces
        of_still x there (inl s) = s.1
        of_still x there (inr same) = subst Heads (sym same) (h.heads i x there)

    kept' : (k : ℕ) (u : Task) → slice_get ts' k ≡ Some u → KeptBy j h.t.gate u.pieces
    kept' k u at = changed i k f ts u at (λ x e there same. subst (λ z. KeptBy j h.t.gate z.pieces) (sym same) (of_still x there (still x there)))
        (λ apart there. h.kept k u there)
      where
        of_still : (x : Task) → slice_get ts i ≡ Some x → IsStill j f x → KeptBy j h.t.gate (f x).pieces
        of_still x there (inl s) = not_kept j h.t.gate (f x).pieces s.2
        of_still x there (inr same) = subst (KeptBy j h.t.gate) (sym same) (h.kept i x there)

    stay : Stay j ts ts'
    stay k u at keeps' = places k i same (λ apart. (u, change-else i k f ts apart ∙ at, refl))
      where
        of_still : k ≡ i → IsStill j f u → (u' : Task) × (slice_get ts' k ≡ Some u') × (u'.pieces ≡ u.pieces)
        of_still e (inl s) = absurd (true≢false (sym keeps' ∙ s.0))
        of_still e (inr p) = (f u, ap (slice_get (change i f ts)) e ∙ change-at i f ts u (ap (slice_get ts) (sym e) ∙ at), p)

        same : k ≡ i → (u' : Task) × (slice_get ts' k ≡ Some u') × (u'.pieces ≡ u.pieces)
        same e = of_still e (still u (ap (slice_get ts) (sym e) ∙ at))

    here : j ≡ i → Stands th j now ts' q idle
    here e =
        let o = own (sym e) in
        transfer th j now now ts ts' q idle h (omega arith) (f h.t)
        (ap (slice_get (change i f ts)) e ∙ change-at i f ts h.t (ap (slice_get ts) (sym e) ∙ h.at)) o.0 o.1 o.2 heads' kept' stay

    elsewhere : (j ≡ i → ⊥) → Stands th j now ts' q idle
    elsewhere apart = transfer th j now now ts ts' q idle h (omega arith) h.t (change-else i j f ts apart ∙ h.at) refl refl refl heads' kept' stay
