-- What is to be shown of each verb, and what follows for its commands: a cause of refusal excludes others, and that the command can be done.
use Rattle.std.proofs.Common.{◌≡◌, ℕ, List, [], ◌∷◌, ◌++◌, length, Some, refl, sym, ap, subst, ◌∙◌, arith}
use Rattle.seq_tree.specs.Lists.{Each}
use Rattle.hood_io.specs.Shelves.{Told}
use Rattle.hrthood_top.specs.declared.file_kind.FileKind.TheVariants.{Design}
use Rattle.hrthood_top.specs.Files.{File, Texts, Holds, HoldsAll, IsTooLong}
use Rattle.hrthood_top.specs.Verbs.{OfDesign, Verb, on_design}
use Rattle.hrthood_top.specs.Ends.{Writes, WritesUpTo, Cause, TooLong, Refusal, Stopped, Refuses, CanDo}
use Rattle.hrthood_top.specs.Exact.{WritesOneText}

-- texts that are the same for these files
abbrev pub Agree : List File → Texts → Texts → Type 0
Agree files a b = Each (λ file. a file.kind ≡ b file.kind) files

-- what is to be shown of a verb that may stop
pub record StopsExactly (v : Verb) : Type 0 where
  -- what it can be done of it does not stop at
  pub able : (a b : Texts) → Agree v.files a b → v.CanDo a → (stop : v.Stop) (text : List ℕ) → v.Stops b text stop → ⊥
  -- nor does it stop at what it refuses
  pub apart : (a b : Texts) → Agree v.files a b → (r : v.Refusal) → v.Refuses a r → (stop : v.Stop) (text : List ℕ) → v.Stops b text stop → ⊥
  -- it stops in one way
  pub one : (a b : Texts) → Agree v.files a b → (s q : v.Stop) (x y : List ℕ) → v.Stops a x s → v.Stops b y q → s ≡ q
  -- behind one text
  pub text : (a b : Texts) → Agree v.files a b → (s q : v.Stop) (x y : List ℕ) → v.Stops a x s → v.Stops b y q → x ≡ y

-- a verb that never stops
pub never-stops : (v : Verb) → ((texts : Texts) (text : List ℕ) (stop : v.Stop) → v.Stops texts text stop → ⊥) → StopsExactly v
never-stops v never = record {
  able = λ a b same w stop text h. never b text stop h;
  apart = λ a b same r h stop text k. never b text stop k;
  one = λ a b same s q x y h k. absurd (never a x s h);
  text = λ a b same s q x y h k. absurd (never a x s h);
}

-- what is to be shown of a verb
pub record IsExact (v : Verb) : Type 0 where
  -- what it can be done of is not refused
  pub able : (a b : Texts) → Agree v.files a b → v.CanDo a → (r : v.Refusal) → v.Refuses b r → ⊥
  -- it refuses texts for one reason
  pub one : (a b : Texts) → Agree v.files a b → (r q : v.Refusal) → v.Refuses a r → v.Refuses b q → r ≡ q
  -- what it makes something of, it can be done of
  pub made : (a : Texts) (text : List ℕ) → v.Makes a text → v.CanDo a
  -- what it makes is one text
  pub text : (a b : Texts) → Agree v.files a b → (x y : List ℕ) → v.Makes a x → v.Makes b y → x ≡ y
  pub stops : StopsExactly v

-- what is to be shown of what is made of a design alone
pub record IsExactOf (of : OfDesign) : Type 0 where
  pub able : (bytes : List ℕ) → of.CanDo bytes → (r : of.Refusal) → of.Refuses bytes r → ⊥
  pub one : (bytes : List ℕ) (r q : of.Refusal) → of.Refuses bytes r → of.Refuses bytes q → r ≡ q
  pub made : (bytes text : List ℕ) → of.Makes bytes text → of.CanDo bytes
  pub text : (bytes x y : List ℕ) → of.Makes bytes x → of.Makes bytes y → x ≡ y

pub design-exact : (of : OfDesign) (name : List ℕ) → IsExactOf of → IsExact (on_design of name)
design-exact of name h = record {
  able = λ a b same w r refused. h.able (b Design) (subst of.CanDo same.0 w) r refused;
  one = λ a b same r q refused k. h.one (b Design) r q (subst (λ z. of.Refuses z r) same.0 refused) k;
  made = λ a text w. h.made (a Design) text w;
  text = λ a b same x y w k. h.text (b Design) x y (subst (λ z. of.Makes z x) same.0 w) k;
  stops = never-stops (on_design of name) (λ texts text stop stops. stops);
}

-- a shelf has one file of a name
pub one_file : (t : Told) (name a b : List ℕ) → t.files name ≡ Some a → t.files name ≡ Some b → a ≡ b
one_file t name a b e f = let h : Some a ≡ Some b = sym e ∙ f in cc

held-agree : (t : Told) (files : List File) (a b : Texts) → HoldsAll t files a → HoldsAll t files b → Agree files a b
held-agree t [] a b h k = tt
held-agree t (f ∷ files) a b h k = (one_file t f.name (a f.kind) (b f.kind) h.0.0 k.0.0, held-agree t files a b h.1 k.1)

not-too-long : (t : Told) (file : File) (text : List ℕ) → Holds t file text → IsTooLong t file → ⊥
not-too-long t file text h k =
    let same : k.0 ≡ text = one_file t file.name k.0 text k.1 h.0 in
    let long = k.2 in let short = h.1 in omega (arith, ap length same, long, short)

none-too-long : (t : Told) (front : List File) (file : File) (back : List File) (texts : Texts) → HoldsAll t (front ++ file ∷ back) texts
    → IsTooLong t file → ⊥
none-too-long t [] file back texts h k = not-too-long t file (texts file.kind) h.0 k
none-too-long t (f ∷ front) file back texts h k = none-too-long t front file back texts h.1 k

-- files that are held, of a list that has one too long
pub not-over : (t : Told) (v : Verb) (front : List File) (file : File) (texts : Texts) → Refuses t v (TooLong front file) → HoldsAll t v.files texts → ⊥
not-over t v front file texts h k =
    let H : List File → Type 0 = λ fs. HoldsAll t fs texts in none-too-long t front file h.0 texts (subst H h.1 k) h.4

-- a command that can be done has no cause
pub not-refused : (t : Told) (v : Verb) (cause : Cause v) → IsExact v → CanDo t v → Refuses t v cause → ⊥
not-refused t v (TooLong front file) exact w h = not-over t v front file w.0 h w.1
not-refused t v (Refusal refusal) exact w h = exact.able w.0 h.0 (held-agree t v.files w.0 h.0 w.1 h.1) w.2 refusal h.2
not-refused t v (Stopped stop) exact w h = exact.stops.able w.0 h.1.0 (held-agree t v.files w.0 h.1.0 w.1 h.1.1) w.2 stop h.0 h.1.2

-- nor has one that writes something
pub not-written : (t : Told) (v : Verb) (cause : Cause v) (text : List ℕ) → IsExact v → Refuses t v cause → Writes t v text → ⊥
not-written t v cause text exact h w = not-refused t v cause exact (w.0, w.1, exact.made w.0 text w.2) h

-- one file of a list is the first that is too long
record IsSame (front front' : List File) (file file' : File) : Type 0 where
  pub fronts : front ≡ front'
  pub files : file ≡ file'

cons_first : {A : Type 0} (x y : A) (xs ys : List A) → x ∷ xs ≡ y ∷ ys → x ≡ y
cons_first x y xs ys e = cc

cons_rest : {A : Type 0} (x y : A) (xs ys : List A) → x ∷ xs ≡ y ∷ ys → xs ≡ ys
cons_rest x y xs ys e = cc

one-too-long : (t : Told) (front front' back back' : List File) (file file' : File) (a b : Texts) → front ++ file ∷ back ≡ front' ++ file' ∷ back'
    → HoldsAll t front a → HoldsAll t front' b →
    IsTooLong t file → IsTooLong t file' → IsSame front front' file file'
one-too-long t [] [] back back' file file' a b e h k x y = record { fronts = refl; files = cons_first file file' back back' e }
one-too-long t [] (f ∷ front') back back' file file' a b e h k x y =
    absurd (not-too-long t f (b f.kind) k.0 (subst (IsTooLong t) (cons_first file f back (front' ++ file' ∷ back') e) x))
one-too-long t (f ∷ front) [] back back' file file' a b e h k x y =
    absurd (not-too-long t f (a f.kind) h.0 (subst (IsTooLong t) (sym (cons_first f file' (front ++ file ∷ back) back' e)) y))
one-too-long t (f ∷ front) (g ∷ front') back back' file file' a b e h k x y =
    let rest = one-too-long t front front' back back' file file' a b (cons_rest f g (front ++ file ∷ back) (front' ++ file' ∷ back') e) h.1 k.1 x y in
    let first : f ≡ g = cons_first f g (front ++ file ∷ back) (front' ++ file' ∷ back') e in
    record { fronts = ap (λ z. z ∷ front) first ∙ ap (λ z. g ∷ z) rest.fronts; files = rest.files }

-- a command has one cause
pub one-cause : (t : Told) (v : Verb) (p q : Cause v) → IsExact v → Refuses t v p → Refuses t v q → p ≡ q
one-cause t v (TooLong front file) (TooLong front' file') exact h k =
    let same = one-too-long t front front' h.0 k.0 file file' h.2 k.2 (sym h.1 ∙ k.1) h.3 k.3 h.4 k.4 in
    ap (λ z. TooLong z file) same.fronts ∙ ap (λ z. TooLong front' z) same.files
one-cause t v (TooLong front file) (Refusal refusal) exact h k = absurd (not-over t v front file k.0 h k.1)
one-cause t v (Refusal refusal) (TooLong front file) exact h k = absurd (not-over t v front file h.0 k h.1)
one-cause t v (TooLong front file) (Stopped stop) exact h k = absurd (not-over t v front file k.1.0 h k.1.1)
one-cause t v (Stopped stop) (TooLong front file) exact h k = absurd (not-over t v front file h.1.0 k h.1.1)
one-cause t v (Refusal refusal) (Stopped stop) exact h k =
    absurd (exact.stops.apart h.0 k.1.0 (held-agree t v.files h.0 k.1.0 h.1 k.1.1) refusal h.2 stop k.0 k.1.2)
one-cause t v (Stopped stop) (Refusal refusal) exact h k =
    absurd (exact.stops.apart k.0 h.1.0 (held-agree t v.files k.0 h.1.0 k.1 h.1.1) refusal k.2 stop h.0 h.1.2)
one-cause t v (Stopped stop) (Stopped other) exact h k =
    ap (λ z. Stopped z) (exact.stops.one h.1.0 k.1.0 (held-agree t v.files h.1.0 k.1.0 h.1.1 k.1.1) stop other h.0 k.0 h.1.2 k.1.2)
one-cause t v (Refusal refusal) (Refusal other) exact h k
    = ap (λ z. Refusal z) (exact.one h.0 k.0 (held-agree t v.files h.0 k.0 h.1 k.1) refusal other h.2 k.2)

-- and writes one text
pub one-text : (t : Told) (v : Verb) → IsExact v → WritesOneText t v
one-text t v exact = record {
  done = λ text other h k. exact.text h.0 k.0 (held-agree t v.files h.0 k.0 h.1 k.1) text other h.2 k.2;
  stopped = λ stop halt text other h k. exact.stops.text h.0 k.0 (held-agree t v.files h.0 k.0 h.1 k.1) stop halt text other h.2 k.2;
}
