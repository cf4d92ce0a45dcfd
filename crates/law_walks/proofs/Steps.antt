-- Walks as readers: one way after another, a loop, one action, a call.
use Rattle.std.proofs.Common.{◌≡◌, ℕ, zero, suc, Bool, true, false, List, [], ◌∷◌, ◌++◌, drop, Option, refl, sym, ap, ◌∙◌}
use Rattle.std.proofs.Common.{append-nil}
use Rattle.std.proofs.lemmas.List.{append_cancel_left}
use Rattle.grammar.specs.Reading.{Reads, Joined, then_at, pure_at, token_at}
use Rattle.grammar.proofs.Shared.Laws.{reads-then, reads-pure, reads-token, reads-same, reads-map, IsOnly, IsToken}
use Rattle.seq_tree.specs.Names.{Name}
use Rattle.seq_tree.specs.Variables.{Variables}
use Rattle.seq_tree.specs.Runs.{Action, Path, silent, joined, turned, Followed, Turns, Chosen}
use Rattle.law_walks.specs.Walks.{Walk, after_at, turns_at, chosen_at}

-- a way that is one of these, and its actions
abbrev pub Does : (Path → Type 0) → Path → List Action → Type 0
Does R p text = R p × (text ≡ p.script)

-- what comes behind a way never matters to it
abbrev pub Any : Path → Option Action → Type 0
Any p o = Unit {0}

-- a walk that takes the actions of these ways
abbrev pub Walks : (Path → Type 0) → Walk → Type 0
Walks R w = Reads (Does R) Any w

-- a way that is given, without actions
pub walks-given : (p : Path) → p.script ≡ [] → Walks (λ q. q ≡ p) (pure_at p)
walks-given p quiet =
    reads-same (IsOnly p) (Does (λ q. q ≡ p)) Any (pure_at p)
    (λ q text h. (h.0, h.1 ∙ sym (ap (λ r. r.script) h.0 ∙ quiet))) (λ q text h. (h.0, h.1 ∙ ap (λ r. r.script) h.0 ∙ quiet))
    (reads-pure Any p (λ o. tt))

-- what follows a way, with the actions behind those of the way
abbrev pub Behind : Bool → Path → (Path → Type 0) → Path → List Action → Type 0
Behind b p Next q text = Followed b p Next q × (q.script ≡ p.script ++ text)

-- nothing was added
none_added : (xs ys : List Action) → xs ≡ xs ++ ys → ys ≡ []
none_added xs ys e = append_cancel_left xs ys [] (sym e ∙ sym (append-nil xs))

pub walks-after : (b : Bool) (p : Path) (Next : Path → Type 0) (next : Walk) → Walks Next next → Reads (Behind b p Next) Any (after_at b p next)
walks-after true p Next next one =
    reads-same (IsOnly p) (Behind true p Next) Any (pure_at p)
    (λ q text h. (h.0, ap (λ r. r.script) h.0 ∙ sym (append-nil p.script) ∙ ap (λ t. p.script ++ t) (sym h.1)))
    (λ q text h. (h.0, none_added p.script text (sym (ap (λ r. r.script) h.0) ∙ h.1)))
    (reads-pure Any p (λ o. tt))
walks-after false p Next next one =
    reads-map (Does Next) (Behind false p Next) Any Any next (joined p) one
    (λ q text h. ((q, h.0, refl), ap (λ t. p.script ++ t) (sym h.1)))
    (λ q text h. (h.0.0, (h.0.1, append_cancel_left p.script text h.0.0.script (sym h.1 ∙ ap (λ r. r.script) h.0.2)), sym h.0.2))
    (λ q o h. tt) (λ q o h. tt)

-- a way begins with the first of two
pub begins_with : (l : Bool) (first : Path) (Next : Path → Type 0) (p : Path) → Followed l first Next p
    → (es : List Action) × (p.script ≡ first.script ++ es)
begins_with true first Next p h = ([], ap (λ q. q.script) h ∙ sym (append-nil first.script))
begins_with false first Next p h = (h.0.script, ap (λ q. q.script) h.2)

-- one way, and what follows it; the way may be changed in all but its script
pub walks-then : (shape : Path → Path) (same : (x : Path) → (shape x).script ≡ x.script) (First : Path → Type 0) (first : Walk)
    (Next : Path → Path → Type 0) (next : Path → Walk)
    → Walks First first → ((q : Path) → Walks (Next q) (next q))
    → Walks (λ p. (q : Path) × First q × Followed q.left (shape q) (Next q) p) (then_at first (λ q. after_at q.left (shape q) (next q)))
walks-then shape same First first Next next one two =
    reads-same (Joined (Does First) (λ q. Behind q.left (shape q) (Next q))) (Does Whole) Any (then_at first (λ q. after_at q.left (shape q) (next q)))
    to back
    (reads-then (Does First) (λ q. Behind q.left (shape q) (Next q)) Any Any first (λ q. after_at q.left (shape q) (next q)) one
    (λ q. walks-after q.left (shape q) (Next q) (next q) (two q)) (λ q p b rest h stop. tt))
  where
    Whole : Path → Type 0
    Whole p = (q : Path) × First q × Followed q.left (shape q) (Next q) p

    to : (p : Path) (text : List Action) → Joined (Does First) (λ q. Behind q.left (shape q) (Next q)) p text → Does Whole p text
    to p text j = (
      (j.a, j.before.0, j.after.0),
      j.whole ∙ ap (λ t. t ++ j.back) (j.before.1 ∙ sym (same j.a)) ∙ sym j.after.1,
    )

    back : (p : Path) (text : List Action) → Does Whole p text → Joined (Does First) (λ q. Behind q.left (shape q) (Next q)) p text
    back p text h =
        let q : Path = h.0.0 in
        let more = begins_with q.left (shape q) (Next q) p h.0.2 in
        record {
          a = q;
          front = q.script;
          back = more.0;
          before = (h.0.1, refl);
          after = (h.0.2, more.1);
          whole = h.1 ∙ more.1 ∙ ap (λ t. t ++ more.0) (same q);
        }

-- turns
pub walks-turns : (n at turn : ℕ) (name : Name) (Body : Variables → Path → Type 0) (body : Variables → Walk)
    → ((vars : Variables) → Walks (Body vars) (body vars))
    → (vars : Variables) → Walks (Turns n at turn name Body vars) (turns_at n at turn name body vars)
walks-turns zero at turn name Body body one vars = walks-given (silent 0 vars) refl
walks-turns (suc n) at turn name Body body one vars =
    walks-then (turned turn) (λ x. refl) (Body ((name, at) ∷ vars)) (body ((name, at) ∷ vars))
    (λ b. Turns n (suc at) turn name Body (drop 1 b.vars)) (λ b. turns_at n (suc at) turn name body (drop 1 b.vars))
    (one ((name, at) ∷ vars)) (λ b. walks-turns n (suc at) turn name Body body one (drop 1 b.vars))

-- one of two
pub walks-chosen : (b : Bool) (First Second : Path → Type 0) (first second : Walk) → Walks First first → Walks Second second
    → Walks (Chosen b First Second) (chosen_at b first second)
walks-chosen true First Second first second one two = one
walks-chosen false First Second first second one two = two

-- one action
pub walks-action : (sees : Action → Option Action) (a : Action) (p : Path) → p.script ≡ a ∷ []
    → ((x y : Action) → sees x ≡ Option.Some y → (x ≡ a) × (y ≡ a)) → sees a ≡ Option.Some a
    → Walks (λ q. q ≡ p) (then_at (token_at sees) (λ b. pure_at p))
walks-action sees a p tells one self =
    reads-map (IsToken sees) (Does (λ q. q ≡ p)) (λ b o. Unit {0}) Any (token_at sees) (λ b. p) (reads-token sees a a self)
    (λ b text h. (refl, h.whole ∙ ap (λ x. x ∷ []) (one h.token b h.seen).0 ∙ sym tells))
    (λ q text h. (a, record { token = a; seen = self; whole = h.1 ∙ ap (λ r. r.script) h.0 ∙ tells }, sym h.0))
    (λ b o h. tt) (λ b o h. tt)
