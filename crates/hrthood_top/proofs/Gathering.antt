-- Pieces of a text that a page gathers, one after another, and what is written of the whole.
use Rattle.std.proofs.Common.{◌≡◌, ℕ, zero, suc, ◌+◌, ◌<◌, ◌≤◌, List, [], ◌∷◌, ◌++◌, length, drop, get_or, Option, Result, Ok, Err, refl, sym}
use Rattle.std.proofs.Common.{ap, subst, ◌∙◌, append_assoc, append-nil, arith, drop-cons, add-one}
use Rattle.std.proofs.lemmas.List.{drop_all}
use Rattle.seq_tree.specs.Lists.{Each}
use Rattle.hood_io.specs.Causes.{HasCause}
use Rattle.hood_io.proofs.Shared.Appending.{appends-none, appends-twice, puts-behind, puts-stopped}
use Rattle.ada_tree.specs.Programs.{Program}
use Rattle.trace_tree.specs.declared.event.Event.{Event}
use Rattle.trace_tree.specs.Lines.{line, lines}
use Rattle.hrthood_top.specs.Streaming.{IsCut, IsGathered}

-- what holds of each of a list holds of the one at a place
pub each-at : {A : Type 0} (P : A → Type 0) (xs : List A) (i : ℕ) (d : A) → i < length xs → Each P xs → P (get_or xs i d)
each-at P [] i d h e = absurd (omega arith)
each-at P (x ∷ xs) zero d h e = e.0
each-at P (x ∷ xs) (suc i) d h e = each-at P xs i d (let less : i < length xs = omega arith in less) e.1

-- one more line
pub lines-next : (p : Program) (es : List Event) (i : ℕ) (d : Event) (text text' front : List ℕ) → i < length es
    → text ++ lines p (drop i es) ≡ front →
    text' ≡ text ++ line p (get_or es i d) → text' ++ lines p (drop (i + 1) es) ≡ front
lines-next p es i d text text' front h whole more =
    ap (λ z. z ++ lines p (drop (i + 1) es)) more ∙ append_assoc text (line p (get_or es i d)) (lines p (drop (i + 1) es))
    ∙ ap (λ z. text ++ z) (rw (drop-cons es i d, add-one) refl) ∙ whole

-- nothing is gathered
pub gathered-none : (held : List ℕ) (a : Option (List ℕ)) → IsGathered held [] held a a
gathered-none held a = ([], appends-none a, sym (append-nil held))

-- one piece and then another
behind : (held x y front held' : List ℕ) → front ++ held' ≡ held ++ x → front ++ (held' ++ y) ≡ held ++ (x ++ y)
behind held x y front held' e = sym (append_assoc front held' y) ∙ ap (λ z. z ++ y) e ∙ append_assoc held x y

pub gathered-then : (held x y held' held'' : List ℕ) (a b c : Option (List ℕ)) → IsGathered held x held' a b → IsGathered held' y held'' b c
    → IsGathered held (x ++ y) held'' a c
gathered-then held x y held' held'' a b c g h =
    (g.0 ++ h.0, appends-twice a b c g.0 h.0 g.1 h.1, append_assoc g.0 h.0 held'' ∙ ap (λ z. g.0 ++ z) h.2 ∙ behind held x y g.0 held' g.2)

-- one piece, and then one that is not gathered
pub gathered-failed : (held x y held' : List ℕ) (a b c : Option (List ℕ)) → IsGathered held x held' a b → IsCut (held' ++ y) b c
    → IsCut (held ++ (x ++ y)) a c
gathered-failed held x y held' a b c g p =
    subst (λ z. IsCut z a c) (behind held x y g.0 held' g.2) (puts-behind {E = Unit {0}} a b c g.0 (held' ++ y) (Err tt) g.1 p)

-- what would have come behind one that is not gathered
pub cut-more : (x y : List ℕ) (a b : Option (List ℕ)) → IsCut x a b → IsCut (x ++ y) a b
cut-more x y a b p = puts-stopped {E = Unit {0}} a b x y tt p

-- the lines of events, of which those up to one are gathered
pub record AreGathered (p : Program) (es : List Event) (i : ℕ) (held held' : List ℕ) (a b : Option (List ℕ)) : Type 0 where
  pub front : List ℕ
  pub gathered : IsGathered held front held' a b
  pub whole : front ++ lines p (drop i es) ≡ lines p es

pub none_gathered : (p : Program) (es : List Event) (held : List ℕ) (a : Option (List ℕ)) → AreGathered p es 0 held held a a
none_gathered p es held a = record { front = []; gathered = gathered-none held a; whole = refl }

-- one more line
pub line_gathered : (p : Program) (es : List Event) (i : ℕ) (e : Event) (piece held held' held'' : List ℕ) (a b c : Option (List ℕ)) → i < length es
    → e ≡ get_or es i e → piece ≡ line p e
    → AreGathered p es i held held' a b → IsGathered held' piece held'' b c → AreGathered p es (i + 1) held held'' a c
line_gathered p es i e piece held held' held'' a b c h at is w g = record {
  front = w.front ++ piece;
  gathered = gathered-then held w.front piece held' held'' a b c w.gathered g;
  whole = lines-next p es i e w.front (w.front ++ piece) (lines p es) h w.whole (ap (λ z. w.front ++ z) (is ∙ ap (line p) at));
}

-- a line that is not gathered
pub line_failed : (p : Program) (es : List Event) (i : ℕ) (e : Event) (piece held held' : List ℕ) (a b c : Option (List ℕ)) → i < length es
    → e ≡ get_or es i e → piece ≡ line p e
    → AreGathered p es i held held' a b → IsCut (held' ++ piece) b c → IsCut (held ++ lines p es) a c
line_failed p es i e piece held held' a b c h at is w g =
    let more : List ℕ = lines p (drop (i + 1) es) in
    let whole : (w.front ++ piece) ++ more ≡ lines p es =
    lines-next p es i e w.front (w.front ++ piece) (lines p es) h w.whole (ap (λ z. w.front ++ z) (is ∙ ap (line p) at)) in
    subst (λ z. IsCut z a c) (append_assoc held (w.front ++ piece) more ∙ ap (λ z. held ++ z) whole)
    (cut-more (held ++ (w.front ++ piece)) more a c (gathered-failed held w.front piece held' a b c w.gathered g))

-- all lines
pub lines_gathered : (p : Program) (es : List Event) (i : ℕ) (held held' : List ℕ) (a b : Option (List ℕ)) → length es ≤ i
    → AreGathered p es i held held' a b → IsGathered held (lines p es) held' a b
lines_gathered p es i held held' a b h w =
    let end : w.front ≡ lines p es = sym (append-nil w.front) ∙ ap (λ z. w.front ++ lines p z) (sym (drop_all i es h)) ∙ w.whole in
    (w.gathered.0, w.gathered.1, w.gathered.2 ∙ ap (λ z. held ++ z) end)

-- a failure of what comes later has its cause
pub cause-later : {T E : Type 0} (a b c : ℕ) (r : Result T E) → a ≤ b → HasCause b c r → HasCause a c r
cause-later a b c (Ok v) h k = record { later = omega (arith, h, k.later); failed = k.failed }
cause-later a b c (Err e) h k = record { later = omega (arith, h, k.later); failed = (let rose = k.failed in omega (arith, h, rose)) }
