-- What is kept by each thing that happens to one task: it goes on, enters a section, leaves one, ends, is released, or begins to run.
use Rattle.std.specs.Prelude.{◌≡◌, ◌≢◌, ◌⊎◌, ◌≤◌, ◌<◌, ℕ, zero, suc, Bool, true, false, nat_lt, List, [], ◌∷◌, map, length, slice_get, Option}
use Rattle.std.specs.Prelude.{Some, None, ℤ, refl}
use Rattle.std.proofs.Common.{sym, ◌∙◌, ap, subst, arith, le_trans, inl, inr}
use Rattle.std.proofs.lemmas.Option.{none-some, same_Some, slice_get_within}
use Rattle.seq_tree.specs.Lists.{change}
use Rattle.seq_tree.specs.Variables.{Variables}
use Rattle.machine.specs.Systems.{System}
use Rattle.machine.specs.Pieces.{Piece}
use Rattle.machine.specs.States.{Task, Readiness, Asleep, Waiting, Ready, Resource, Held}
use Rattle.machine.specs.Effects.{ceiling_of}
use Rattle.machine.specs.Dispatch.{put_last, put_first}
use Rattle.law_ceilings.proofs.Shared.Pieces.{Permission, closers, AreFit}
use Rattle.law_ceilings.specs.Sections.{Stands, IsNumbered, AreStacked, sections, IsAmong}
use Rattle.law_ceilings.proofs.Shared.Kept.{IsAtRest, IsSound, GoesBefore, IsKept}
use Rattle.law_ceilings.proofs.OrderNumbers.{last-above, last-else, length-last, first-below, first-else, length-first}
use Rattle.law_lists.proofs.Shared.Places.{length-change, changed}

-- no base priority is above the active one
pub stacked-base : (y : System) (base active : ℕ) (hs : List Held) → AreStacked y base active hs → base ≤ active
stacked-base y base active [] s = omega arith
stacked-base y base active (h ∷ hs) s = le_trans (stacked-base y base h.before hs s.2) s.1

-- the ceiling of a section that a task is inside is at most its active priority
pub stacked-ceiling : (y : System) (base active : ℕ) (hs : List Held) (section : Resource) → AreStacked y base active hs
    → IsAmong section (map (λ h. h.section) hs) → ceiling_of y section ≤ active
stacked-ceiling y base active [] section s a = absurd a
stacked-ceiling y base active (h ∷ hs) section s a = by (λ later. stacked-ceiling y base h.before hs section s.2 later) a
  where
    by : (IsAmong section (map (λ x. x.section) hs) → ceiling_of y section ≤ h.before) → (h.section ≡ section)
        ⊎ IsAmong section (map (λ x. x.section) hs) → ceiling_of y section ≤ active
    by inner (inl is) = let same : ceiling_of y h.section ≡ ceiling_of y section = ap (ceiling_of y) is
        in let top : active ≡ ceiling_of y h.section = s.0 in omega arith
    by inner (inr later) = le_trans (inner later) s.1

-- the active priority is the base one, or the task is inside something
pub active-or-inside : (y : System) (base active : ℕ) (hs : List Held) → AreStacked y base active hs
    → (active ≡ base) ⊎ ((h : Held) × (hs' : List Held) × (hs ≡ h ∷ hs'))
active-or-inside y base active [] s = inl s
active-or-inside y base active (h ∷ hs) s = inr (h, hs, refl)

-- a task that is inside a section is inside something
pub among-inside : (section : Resource) (hs : List Held) → IsAmong section (map (λ h. h.section) hs) → (h : Held) × (hs' : List Held) × (hs ≡ h ∷ hs')
among-inside section [] a = absurd a
among-inside section (h ∷ hs) a = (h, hs, refl)

pub empty : {A : Type 0} (x : A) (xs : List A) → [] ≡ x ∷ xs → ⊥
empty x xs e = cc

tail-same : {A : Type 0} (x : A) (xs ys : List A) → x ∷ xs ≡ x ∷ ys → xs ≡ ys
tail-same x xs ys e = cc

-- a task inside something is ready
pub holder-ready : (t : Task) (h : Held) (hs : List Held) → IsAtRest t.readiness t → t.inside ≡ h ∷ hs → t.readiness ≡ Ready
holder-ready t h hs rests inside = by t.readiness refl rests
  where
    by : (x : Readiness) → t.readiness ≡ x → IsAtRest x t → t.readiness ≡ Ready
    by Ready e r = e
    by Waiting e r = absurd (empty h hs (sym r.0 ∙ inside))
    by (Asleep until) e r = absurd (empty h hs (sym r.0 ∙ inside))

pub numbered-at : (os : List ℤ) (i : ℕ) → i < length os → (o : ℤ) × (slice_get os i ≡ Some o)
numbered-at [] i h = absurd (omega arith)
numbered-at (o ∷ os) zero h = (o, refl)
numbered-at (o ∷ os) (suc i) h = numbered-at os i (omega arith)

module _ (y : System) (May : ℕ → Permission) where
  -- how a changed task stands to the others
  pub record IsApart (r : Option ℕ) (ts : List Task) (os os' : List ℤ) (i : ℕ) (t : Task) : Type 0 where
    pub ahead : (j : ℕ) (u : Task) (o p : ℤ) (h : Held) (hs : List Held) → j ≢ i → Stands ts j u → IsNumbered os' i o → IsNumbered os j p
        → t.readiness ≡ Ready → u.inside ≡ h ∷ hs → t.thread.priority ≤ u.active → GoesBefore u.active p t.active o
    pub behind : (j : ℕ) (u : Task) (o p : ℤ) (h : Held) (hs : List Held) → j ≢ i → Stands ts j u → IsNumbered os' i o → IsNumbered os j p
        → u.readiness ≡ Ready → t.inside ≡ h ∷ hs → u.thread.priority ≤ t.active → GoesBefore t.active o u.active p
    pub chased : (k : ℕ) (v : Task) (h : Held) (hs : List Held) → r ≡ Some k → k ≢ i → Stands ts k v → t.inside ≡ h ∷ hs
        → t.active < v.thread.priority
    pub apart : (j : ℕ) (u : Task) (section : Resource) → j ≢ i → Stands ts j u → IsAmong section (sections u) → IsAmong section (sections t) → ⊥

  pub replaced : (r : Option ℕ) (ts : List Task) (os os' : List ℤ) (i : ℕ) (f : Task → Task) (t t' : Task)
      → IsKept y May r ts os → Stands ts i t → f t ≡ t' → t'.thread ≡ t.thread
      → length os' ≡ length os → ((j : ℕ) → j ≢ i → slice_get os' j ≡ slice_get os j)
      → IsSound y (May i) i t' → IsApart r ts os os' i t' → IsKept y May r (change i f ts) os'
  replaced r ts os os' i f t t' kept stands gives written lengths others sound m = record {
    numbered = lengths ∙ kept.numbered ∙ sym (length-change i f ts);
    sound = λ a ta sa. at a ta sa (λ is same. subst (λ k. IsSound y (May k) k ta) (sym is) (subst (IsSound y (May i) i) (sym same) sound)) (λ not sa'.
        kept.sound a ta sa');
    leads = λ a b ta tb oa pb h hs sa sb na nb other ready inside low.
        at a ta sa
        (λ is same. at b tb sb (λ is' same'. absurd (other (is ∙ sym is')))
        (λ not sb'. subst (λ x. x.readiness ≡ Ready → x.thread.priority ≤ tb.active → GoesBefore tb.active pb x.active oa) (sym same)
        (λ ready' low'. m.ahead b tb oa pb h hs not sb' (subst (λ k. IsNumbered os' k oa) is na) (sym (others b not) ∙ nb) ready' inside low')
        ready low))
        (λ not sa'. at b tb sb
        (λ is' same'. subst (λ x. x.inside ≡ h ∷ hs → ta.thread.priority ≤ x.active → GoesBefore x.active pb ta.active oa) (sym same')
        (λ inside' low'. m.behind a ta pb oa h hs not sa' (subst (λ k. IsNumbered os' k pb) is' nb) (sym (others a not) ∙ na) ready inside' low')
        inside low)
        (λ not' sb'. kept.leads a b ta tb oa pb h hs sa' sb' (sym (others a not) ∙ na) (sym (others b not') ∙ nb) other ready inside low));
    runs = λ a b ta tb h hs run sa sb other inside.
        at a ta sa
        (λ is same. at b tb sb (λ is' same'. absurd (other (is ∙ sym is')))
        (λ not sb'.
        let low : tb.active < t.thread.priority = kept.runs i b t tb h hs (run ∙ ap Some is) stands sb' (λ e. not (sym e)) inside in
        subst (λ th. tb.active < th.priority) (sym (ap (λ x. x.thread) same ∙ written)) low))
        (λ not sa'. at b tb sb
        (λ is' same'. subst (λ x. x.inside ≡ h ∷ hs → x.active < ta.thread.priority) (sym same')
        (λ inside'. m.chased a ta h hs run not sa' inside') inside)
        (λ not' sb'. kept.runs a b ta tb h hs run sa' sb' other inside));
    alone = λ a b ta tb section sa sb among among'.
        at a ta sa
        (λ is same. at b tb sb (λ is' same'. is ∙ sym is')
        (λ not sb'. absurd (m.apart b tb section not sb' among' (subst (λ x. IsAmong section (sections x)) same among))))
        (λ not sa'. at b tb sb (λ is' same'. absurd (m.apart a ta section not sa' among (subst (λ x. IsAmong section (sections x)) same' among')))
        (λ not' sb'. kept.alone a b ta tb section sa' sb' among among'));
  }
    where
      at : {P : Type 0} (j : ℕ) (u : Task) → Stands (change i f ts) j u → (j ≡ i → u ≡ t' → P) → (j ≢ i → Stands ts j u → P) → P
      at j u e here there = changed i j f ts u e (λ x is stands' same. here is (same ∙ ap f (same_Some x t (sym stands' ∙ stands)) ∙ gives)) there

  -- a task that goes on as it is to others
  pub record IsQuiet (t t' : Task) : Type 0 where
    pub thread : t'.thread ≡ t.thread
    pub readiness : t'.readiness ≡ t.readiness
    pub active : t'.active ≡ t.active
    pub inside : t'.inside ≡ t.inside

  pub gone_on : (r : Option ℕ) (ts : List Task) (os : List ℤ) (i : ℕ) (f : Task → Task) (t t' : Task)
      → IsKept y May r ts os → Stands ts i t → f t ≡ t' → IsQuiet t t' → IsSound y (May i) i t' → IsKept y May r (change i f ts) os
  gone_on r ts os i f t t' kept stands gives q sound = replaced r ts os os i f t t' kept stands gives q.thread refl (λ j not. refl) sound (record {
    ahead = λ j u o p h hs not su no nu ready inside low.
        let before : GoesBefore u.active p t.active o =
        kept.leads i j t u o p h hs stands su no nu (λ e. not (sym e)) (sym q.readiness ∙ ready) inside
        (subst (λ th. th.priority ≤ u.active) q.thread low) in
        subst (λ a. GoesBefore u.active p a o) (sym q.active) before;
    behind = λ j u o p h hs not su no nu ready inside low.
        let before : GoesBefore t.active o u.active p =
        kept.leads j i u t p o h hs su stands nu no not ready (sym q.inside ∙ inside) (subst (λ a. u.thread.priority ≤ a) q.active low) in
        subst (λ a. GoesBefore a o u.active p) (sym q.active) before;
    chased = λ k v h hs run not sv inside.
        subst (λ a. a < v.thread.priority) (sym q.active) (kept.runs k i v t h hs run sv stands not (sym q.inside ∙ inside));
    apart = λ j u section not su among among'. not (kept.alone j i u t section su stands among
        (subst (λ hs. IsAmong section (map (λ x. x.section) hs)) q.inside among'));
  })

  module _ (r : Option ℕ) (ts : List Task) (os : List ℤ) (i : ℕ) (t : Task) (kept : IsKept y May r ts os) (run : r
      ≡ Some i) (stands : Stands ts i t) where
    -- a task whose base priority is at most a number at least the runner's base priority has its active priority at most that number
    low-others : (j : ℕ) (u : Task) (c : ℕ) → j ≢ i → Stands ts j u → t.thread.priority ≤ c → u.thread.priority ≤ c → u.active ≤ c
    low-others j u c not su high low = by (active-or-inside y u.thread.priority u.active u.inside (kept.sound j u su).stacked)
      where
        by : (u.active ≡ u.thread.priority) ⊎ ((h : Held) × (hs : List Held) × (u.inside ≡ h ∷ hs)) → u.active ≤ c
        by (inl e) = omega arith
        by (inr held) =
            let below : u.active < t.thread.priority = kept.runs i j t u held.0 held.1 run stands su (λ e. not (sym e)) held.2 in
            omega arith

    -- the runner as it goes before all others, at a priority at least its base priority
    runner-apart : (t' : Task) → t'.thread ≡ t.thread → t.thread.priority ≤ t'.active
        → ((j : ℕ) (u : Task) (section : Resource) → j ≢ i → Stands ts j u → IsAmong section (sections u) → IsAmong section (sections t') → ⊥)
        → IsApart r ts os (put_first i os) i t'
    runner-apart t' written high apart' = record {
      ahead = λ j u o p h hs not su no nu ready inside low.
          let below : u.active < t.thread.priority = kept.runs i j t u h hs run stands su (λ e. not (sym e)) inside in
          let low' : t.thread.priority ≤ u.active = subst (λ th. th.priority ≤ u.active) written low in
          absurd (omega arith);
      behind = λ j u o p h hs not su no nu ready inside low. (low-others j u t'.active not su high low, λ e. first-below i j os p o nu no);
      chased = λ k v h hs run' not sv inside. absurd (not (same_Some k i (sym run' ∙ run)));
      apart = apart';
    }

    -- it enters a section
    pub entered : (section : Resource) (f : Task → Task) (vars' : Variables) (ps : List Piece) (left' works' : ℕ)
        → f t ≡ record t {
          active = ceiling_of y section;
          inside = record { section = section; before = t.active } ∷ t.inside;
          vars = vars';
          pieces = ps;
          left = left';
          works = works';
        }
        → t.readiness ≡ Ready → t.active ≤ ceiling_of y section → closers ps ≡ section ∷ closers t.pieces → AreFit (May i) ps
        → IsKept y May r (change i f ts) (put_first i os)
    entered section f vars' ps left' works' gives ready low closes fits =
        let h : Held = record { section = section; before = t.active } in
        let t' : Task = record t { active = ceiling_of y section; inside = h ∷ t.inside; vars = vars'; pieces = ps; left = left'; works = works' } in
        let sound = kept.sound i t stands in
        let base : t.thread.priority ≤ t.active = stacked-base y t.thread.priority t.active t.inside sound.stacked in
        replaced r ts os (put_first i os) i f t t' kept stands gives refl (length-first i os) (λ j not. first-else i j os not)
        (record {
          written = sound.written;
          rests = subst (λ x. IsAtRest x t') (sym ready) tt;
          stacked = (refl, low, sound.stacked);
          closes = closes ∙ ap (λ ss. section ∷ ss) sound.closes;
          fits = fits;
        })
        (runner-apart t' refl (le_trans base low) (λ j u other not su among among'. apart' j u other not su among among'))
      where
        apart' : (j : ℕ) (u : Task) (other : Resource) → j ≢ i → Stands ts j u → IsAmong other (sections u)
            → (section ≡ other) ⊎ IsAmong other (sections t) → ⊥
        apart' j u other not su among (inl is) =
            let inside = among-inside other u.inside among in
            let below : u.active < t.thread.priority = kept.runs i j t u inside.0 inside.1 run stands su (λ e. not (sym e)) inside.2 in
            let held : ceiling_of y other ≤ u.active
            = stacked-ceiling y u.thread.priority u.active u.inside other (kept.sound j u su).stacked among in
            let same : ceiling_of y section ≡ ceiling_of y other = ap (ceiling_of y) is in
            let base : t.thread.priority ≤ t.active = stacked-base y t.thread.priority t.active t.inside (kept.sound i t stands).stacked in
            omega arith
        apart' j u other not su among (inr later) = not (kept.alone j i u t other su stands among later)

    -- it leaves the innermost section
    pub left-section : (h : Held) (hs : List Held) (f : Task → Task) (vars' : Variables) (ps : List Piece) (left' works' : ℕ)
        → t.inside ≡ h ∷ hs → f t ≡ record t { active = h.before; inside = hs; vars = vars'; pieces = ps; left = left'; works = works' }
        → t.readiness ≡ Ready → closers t.pieces ≡ h.section ∷ closers ps → AreFit (May i) ps
        → IsKept y May r (change i f ts) (put_first i os)
    left-section h hs f vars' ps left' works' inside gives ready closes fits =
        let t' : Task = record t { active = h.before; inside = hs; vars = vars'; pieces = ps; left = left'; works = works' } in
        let sound = kept.sound i t stands in
        let stacked : AreStacked y t.thread.priority t.active (h ∷ hs) = subst (AreStacked y t.thread.priority t.active) inside sound.stacked in
        replaced r ts os (put_first i os) i f t t' kept stands gives refl (length-first i os) (λ j not. first-else i j os not)
        (record {
          written = sound.written;
          rests = subst (λ x. IsAtRest x t') (sym ready) tt;
          stacked = stacked.2;
          closes = tail-same h.section (closers ps) (map (λ x. x.section) hs) (sym closes ∙ sound.closes ∙ ap (map (λ x. x.section)) inside);
          fits = fits;
        })
        (runner-apart t' refl (stacked-base y t.thread.priority h.before hs stacked.2)
        (λ j u other not su among among'. not (kept.alone j i u t other su stands among
        (subst (λ xs. IsAmong other (map (λ x. x.section) xs)) (sym inside) (inr among')))))

  -- a task that ends its activation
  pub ended-one : (r : Option ℕ) (ts : List Task) (os : List ℤ) (i : ℕ) (f : Task → Task) (t t' : Task)
      → IsKept y May r ts os → Stands ts i t → f t ≡ t' → t'.thread ≡ t.thread → IsAtRest t'.readiness t' → (t'.readiness ≡ Ready → ⊥)
      → t'.inside ≡ [] → t'.pieces ≡ [] → t'.active ≡ t.active → t.inside ≡ []
      → IsKept y May r (change i f ts) os
  ended-one r ts os i f t t' kept stands gives written rests asleep inside pieces active before =
      let sound = kept.sound i t stands in
      let base : t.active ≡ t.thread.priority = subst (AreStacked y t.thread.priority t.active) before sound.stacked in
      replaced r ts os os i f t t' kept stands gives written refl (λ j not. refl)
      (record {
        written = sound.written ∙ ap Some (sym written);
        rests = rests;
        stacked = subst (AreStacked y t'.thread.priority t'.active) (sym inside) (active ∙ base ∙ ap (λ th. th.priority) (sym written));
        closes = ap closers pieces ∙ sym (ap (map (λ x. x.section)) inside);
        fits = subst (AreFit (May i)) (sym pieces) tt;
      })
      (record {
        ahead = λ j u o p h hs not su no nu ready inside' low. absurd (asleep ready);
        behind = λ j u o p h hs not su no nu ready inside' low. absurd (empty h hs (sym inside ∙ inside'));
        chased = λ k v h hs run not sv inside'. absurd (empty h hs (sym inside ∙ inside'));
        apart = λ j u section not su among among'. subst (λ hs. IsAmong section (map (λ x. x.section) hs)) inside among';
      })

  -- a task that is released: it was inside nothing
  pub released-one : (r : Option ℕ) (ts : List Task) (os : List ℤ) (i : ℕ) (f : Task → Task) (t t' : Task)
      → IsKept y May r ts os → Stands ts i t → f t ≡ t' → t'.thread ≡ t.thread → t'.readiness ≡ Ready
      → t'.inside ≡ [] → t'.active ≡ t.active → t.inside ≡ [] → closers t'.pieces ≡ [] → AreFit (May i) t'.pieces
      → IsKept y May r (change i f ts) (put_last i os)
  released-one r ts os i f t t' kept stands gives written ready inside active before closes fits =
      let sound = kept.sound i t stands in
      let base : t.active ≡ t.thread.priority = subst (AreStacked y t.thread.priority t.active) before sound.stacked in
      let now : t'.active ≡ t'.thread.priority = active ∙ base ∙ ap (λ th. th.priority) (sym written) in
      replaced r ts os (put_last i os) i f t t' kept stands gives written (length-last i os) (λ j not. last-else i j os not)
      (record {
        written = sound.written ∙ ap Some (sym written);
        rests = subst (λ x. IsAtRest x t') (sym ready) tt;
        stacked = subst (AreStacked y t'.thread.priority t'.active) (sym inside) now;
        closes = closes ∙ sym (ap (map (λ x. x.section)) inside);
        fits = fits;
      })
      (record {
        ahead = λ j u o p h hs not su no nu ready' inside' low. (
          (let high : t'.thread.priority ≤ u.active = low
              in omega arith),
          λ e. last-above i j os p o nu no,
        );
        behind = λ j u o p h hs not su no nu ready' inside' low. absurd (empty h hs (sym inside ∙ inside'));
        chased = λ k v h hs run not sv inside'. absurd (empty h hs (sym inside ∙ inside'));
        apart = λ j u section not su among among'. subst (λ hs. IsAmong section (map (λ x. x.section) hs)) inside among';
      })

  -- nobody's pieces take effect
  pub halted : (r : Option ℕ) (ts : List Task) (os : List ℤ) → IsKept y May r ts os → IsKept y May None ts os
  halted r ts os kept = record {
    numbered = kept.numbered;
    sound = kept.sound;
    leads = kept.leads;
    runs = λ i j t u h hs run. absurd (none-some i run);
    alone = kept.alone;
  }

  -- a task that no holder goes before begins to run
  pub begun : (ts : List Task) (os : List ℤ) (i : ℕ) (t : Task) → IsKept y May None ts os → Stands ts i t → t.readiness ≡ Ready
      → ((j : ℕ) (u : Task) (o p : ℤ) → j ≢ i → Stands ts j u → u.readiness ≡ Ready → IsNumbered os i o → IsNumbered os j p
      → GoesBefore u.active p t.active o → ⊥)
      → IsKept y May (Some i) ts os
  begun ts os i t kept stands ready first = record {
    numbered = kept.numbered;
    sound = kept.sound;
    leads = kept.leads;
    runs = λ a j ta u h hs run sa su other inside.
        let is : i ≡ a = same_Some i a run in
        let same : ta ≡ t = same_Some ta t (sym sa ∙ subst (λ k. Stands ts k t) is stands) in
        subst (λ x. u.active < x.thread.priority) (sym same) (runs' j u h hs (λ e. other (sym is ∙ sym e)) su inside);
    alone = kept.alone;
  }
    where
      runs' : (j : ℕ) (u : Task) (h : Held) (hs : List Held) → j ≢ i → Stands ts j u → u.inside ≡ h ∷ hs → u.active < t.thread.priority
      runs' j u h hs not su inside =
          by (nat_lt u.active t.thread.priority) refl
        where
          by : (b : Bool) → nat_lt u.active t.thread.priority ≡ b → u.active < t.thread.priority
          by true e = grind arith
          by false e =
              let no = numbered-at os i (subst (λ n. i < n) (sym kept.numbered) (slice_get_within ts i t stands)) in
              let nu = numbered-at os j (subst (λ n. j < n) (sym kept.numbered) (slice_get_within ts j u su)) in
              let low : t.thread.priority ≤ u.active = grind arith in
              absurd (first j u no.0 nu.0 not su (holder-ready u h hs (kept.sound j u su).rests inside) no.1 nu.1
              (kept.leads i j t u no.0 nu.0 h hs stands su no.1 nu.1 (λ e'. not (sym e')) ready inside low))
