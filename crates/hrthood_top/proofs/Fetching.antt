-- Fetching one file after another.
use Rattle.std.proofs.Common.{◌≡◌, ℕ, zero, suc, false, ◌+◌, ◌<◌, ◌≤◌, List, [], ◌∷◌, ◌++◌, length, take, map, get_or, Option, Some, None, refl}
use Rattle.std.proofs.Common.{sym, ap, subst, ◌∙◌, arith, append_assoc, append-nil, add-one, Vec, Global}
use Rattle.std.specs.Prelude.{IfSome, Ok, Err}
use Rattle.seq_tree.specs.Lists.{Each}
use Rattle.hood_io.specs.Causes.{Rose}
use Rattle.hood_io.specs.Shelves.{Told, Entry}
use Rattle.hrthood_top.specs.declared.file_kind.FileKind.{FileKind}
use Rattle.hrthood_top.specs.declared.fetch.Stop.{Stop}
use Rattle.hrthood_top.specs.declared.fetch.Stop.TheVariants.{TooLong, ReadFault, NoMemory}
use Rattle.hrthood_top.specs.declared.fetch.File as code
use Rattle.hrthood_top.specs.Files.{File, Texts, Holds, HoldsAll, AreHeld, IsTooLong, fetched, failed, grown}
use Rattle.hrthood_top.specs.Fetches.{file_tree, AreApart, Fetches, FetchesAll}

grown-grown : (told : Option Told) (es fs : List Entry) → grown (grown told es) fs ≡ grown told (es ++ fs)
grown-grown None es fs = refl
grown-grown (Some t) es fs = ap (λ l. Some (record t { log = l })) (append_assoc t.log es fs)

-- the log after two steps
grown-after : (told told' told'' : Option Told) (es fs : List Entry) → told' ≡ grown told es → told'' ≡ grown told' fs
    → told'' ≡ grown told (es ++ fs)
grown-after told told' told'' es fs e f = f ∙ ap (λ z. grown z fs) e ∙ grown-grown told es fs

fetched-append : (files more : List File) → fetched (files ++ more) ≡ fetched files ++ fetched more
fetched-append [] more = refl
fetched-append (f ∷ files) more = ap (λ z. record { name = f.name; failed = false } ∷ z) (fetched-append files more)

-- what holds of the files of a shelf held before its log grew
if_told-before : (told told' : Option Told) (es : List Entry) (P : (List ℕ → Option (List ℕ)) → Type 0) → told' ≡ grown told es
    → IfSome told' (λ t. P t.files) → IfSome told (λ t. P t.files)
if_told-before None told' es P e h = tt
if_told-before (Some t) told' es P e h = let Q : Option Told → Type 0 = λ o. IfSome o (λ u. P u.files) in subst Q e h

-- what holds of a shelf that tells its files
pub if_some-both : (told : Option Told) (P Q R : Told → Type 0) → IfSome told P → IfSome told Q → ((t : Told) → P t → Q t → R t) → IfSome told R
if_some-both None P Q R p q f = tt
if_some-both (Some t) P Q R p q f = f t p q

pub if_some-map : (told : Option Told) (P Q : Told → Type 0) → IfSome told P → ((t : Told) → P t → Q t) → IfSome told Q
if_some-map None P Q p f = tt
if_some-map (Some t) P Q p f = f t p

-- files that are there with these texts are held
pub are-held : (told : Option Told) (files : List File) (texts : Texts) → IfSome told (λ t. HoldsAll t files texts) → AreHeld told files
are-held told files texts held = if_some-map told (λ t. HoldsAll t files texts) (λ t. (ts : Texts) × HoldsAll t files ts) held (λ t h. (texts, h))

-- no files are held
pub held-none : (told : Option Told) (texts : Texts) → IfSome told (λ t. HoldsAll t [] texts)
held-none None texts = tt
held-none (Some t) texts = tt

-- FILES BEFORE ONE OF A LIST
record IsCut (files : List File) (i : ℕ) (file : File) : Type 0 where
  pub back : List File
  pub place : files ≡ take i files ++ file ∷ back
  pub more : take (suc i) files ≡ take i files ++ file ∷ []

cut-at : (files : List code.File) (i : ℕ) (d : code.File) → i < length files → IsCut (map file_tree files) i (file_tree (get_or files i d))
cut-at [] i d h = absurd (omega (arith, h))
cut-at (f ∷ files) zero d h = record { back = map file_tree files; place = refl; more = refl }
cut-at (f ∷ files) (suc i) d h =
    let c = cut-at files i d (let less : i < length files = omega (arith, h) in less) in
    record { back = c.back; place = ap (λ z. file_tree f ∷ z) c.place; more = ap (λ z. file_tree f ∷ z) c.more }

all-taken : (files : List code.File) (i : ℕ) → length files ≤ i → take i (map file_tree files) ≡ map file_tree files
all-taken [] zero h = refl
all-taken [] (suc i) h = refl
all-taken (f ∷ files) zero h = absurd (omega (arith, h))
all-taken (f ∷ files) (suc i) h = ap (λ z. file_tree f ∷ z) (all-taken files i (let less : length files ≤ i = omega (arith, h) in less))

-- what holds of each of a list holds of one of it
each-of : {A : Type 0} (P : A → Type 0) (front : List A) (x : A) (back : List A) → Each P (front ++ x ∷ back) → P x
each-of P [] x back h = h.0
each-of P (y ∷ front) x back h = each-of P front x back h.1

apart-before : (front : List File) (file : File) (back : List File) → AreApart (front ++ file ∷ back)
    → Each (λ other. other.kind ≡ file.kind → ⊥) front
apart-before [] file back h = tt
apart-before (f ∷ front) file back h =
    (λ e. each-of (λ other. other.kind ≡ f.kind → ⊥) front file back h.0 (sym e), apart-before front file back h.1)

-- files stay where the text of another kind is taken
held-still : (t : Told) (files : List File) (kind : FileKind) (old new : Texts) → Each (λ other. other.kind ≡ kind → ⊥) files
    → ((other : FileKind) → (other ≡ kind → ⊥) → new other ≡ old other) →
    HoldsAll t files old → HoldsAll t files new
held-still t [] kind old new apart others h = tt
held-still t (f ∷ files) kind old new apart others h =
    (subst (Holds t f) (sym (others f.kind apart.0)) h.0, held-still t files kind old new apart.1 others h.1)

held-more : (t : Told) (files : List File) (file : File) (texts : Texts) → HoldsAll t files texts → Holds t file (texts file.kind)
    → HoldsAll t (files ++ file ∷ []) texts
held-more t [] file texts h one = (one, tt)
held-more t (f ∷ files) file texts h one = (h.0, held-more t files file texts h.1 one)

-- the files so far
pub record AreSoFar (files : List File) (i : ℕ) (texts : Texts) (told told' : Option Told) : Type 0 where
  pub held : IfSome told (λ t. HoldsAll t (take i files) texts)
  pub log : told' ≡ grown told (fetched (take i files))

pub grown-nothing : (told : Option Told) → told ≡ grown told []
grown-nothing None = refl
grown-nothing (Some t) = ap (λ l. Some (record t { log = l })) (sym (append-nil t.log))

pub none-so-far : (files : List File) (texts : Texts) (told : Option Told) → AreSoFar files 0 texts told told
none-so-far files texts None = record { held = tt; log = refl }
none-so-far files texts (Some t) = record { held = tt; log = grown-nothing (Some t) }

log-more : (files : List File) (i : ℕ) (file : File) (told told' told'' : Option Told) → told' ≡ grown told (fetched (take i files))
    → told'' ≡ grown told' (fetched (file ∷ [])) →
    told'' ≡ grown told (fetched (take i files ++ file ∷ []))
log-more files i file told told' told'' e f =
    grown-after told told' told'' (fetched (take i files)) (fetched (file ∷ [])) e f ∙ ap (grown told)
    (sym (fetched-append (take i files) (file ∷ [])))

-- one more file is there
pub one-more : (files : List code.File) (i : ℕ) (d : code.File) (old new : Texts) (x : Vec ℕ Global) (told told' told'' : Option Told)
    (faults faults' : ℕ) → i < length files → AreApart (map file_tree files) →
    AreSoFar (map file_tree files) i old told told'
    → Fetches (λ (v : Vec ℕ Global). v.items) (Ok x) (file_tree (get_or files i d)) told' told'' faults faults' →
    new (get_or files i d).kind ≡ x.items → ((other : FileKind) → (other ≡ (get_or files i d).kind → ⊥) → new other ≡ old other) →
    AreSoFar (map file_tree files) (i + 1) new told told''
one-more files i d old new x told told' told'' faults faults' h apart s f taken others =
    let all = map file_tree files in
    let file = file_tree (get_or files i d) in
    let c = cut-at files i d h in
    let before = apart-before (take i all) file c.back (subst AreApart c.place apart) in
    let one : IfSome told (λ t. Holds t file x.items) = if_told-before told told' (fetched (take i all)) (λ files'. (files' file.name ≡ Some x.items)
    × (length x.items ≤ _)) s.log f.0 in
    let held : IfSome told (λ t. HoldsAll t (take i all ++ file ∷ []) new) =
    if_some-both told (λ t. HoldsAll t (take i all) old) (λ t. Holds t file x.items) (λ t. HoldsAll t (take i all ++ file ∷ []) new) s.held one
    (λ t p q. held-more t (take i all) file new (held-still t (take i all) file.kind old new before others p) (subst (Holds t file) (sym taken) q)) in
    let whole : take (i + 1) all ≡ take i all ++ file ∷ [] = ap (λ n. take n all) (add-one i) ∙ c.more in
    let H : List File → Type 0 = λ fs. IfSome told (λ t. HoldsAll t fs new) in
    let L : List File → Type 0 = λ fs. told'' ≡ grown told (fetched fs) in
    record { held = subst H (sym whole) held; log = subst L (sym whole) (log-more all i file told told' told'' s.log f.1) }

rose-later : (a b c : ℕ) → a ≤ b → Rose b c → Rose a c
rose-later a b c h r = omega arith

-- a fetch that stops, behind those that were done
pub stops-here : {X : Type 0} (view : X → Texts) (stop : Stop) (files : List code.File) (i : ℕ) (d : code.File) (texts : Texts)
    (told told' told'' : Option Told) (faults faults' faults'' : ℕ) → i < length files →
    AreSoFar (map file_tree files) i texts told told' → faults ≤ faults'
    → Fetches (λ (v : Vec ℕ Global). v.items) (Err stop) (file_tree (get_or files i d)) told' told'' faults' faults'' →
    FetchesAll view (Err stop) (map file_tree files) told told'' faults faults''
stops-here view (TooLong kind) files i d texts told told' told'' faults faults' faults'' h s later f =
    let all = map file_tree files in
    let file = file_tree (get_or files i d) in
    let c = cut-at files i d h in
    let over : IfSome told (λ t. IsTooLong t file) = if_told-before told told' (fetched (take i all)) (λ files'. (text : List ℕ)
    × (files' file.name ≡ Some text) × (_ < length text)) s.log f.1 in
    record {
      front = take i all;
      file = file;
      back = c.back;
      place = c.place;
      of = f.0;
      held = if_some-both told (λ t. HoldsAll t (take i all) texts) (λ t. IsTooLong t file) (λ t. (ts : Texts) × HoldsAll t (take i all) ts
          × IsTooLong t file) s.held over (λ t p q. (texts, p, q));
      log = log-more all i file told told' told'' s.log f.2;
    }
stops-here view (ReadFault name) files i d texts told told' told'' faults faults' faults'' h s later f =
    let all = map file_tree files in
    let file = file_tree (get_or files i d) in
    let c = cut-at files i d h in (
      record {
        front = take i all;
        file = file;
        back = c.back;
        place = c.place;
        called = f.0;
        held = are-held told (take i all) texts s.held;
        log = grown-after told told' told'' (fetched (take i all)) (failed file.name ∷ []) s.log f.2;
      },
      rose-later faults faults' faults'' later f.1,
    )
stops-here view NoMemory files i d texts told told' told'' faults faults' faults'' h s later f =
    (i, are-held told (take i (map file_tree files)) texts s.held, f ∙ sym (grown-nothing told') ∙ s.log)

-- all files are there
pub all-there : {X : Type 0} (view : X → Texts) (x : X) (files : List code.File) (i : ℕ) (told told' : Option Told) (faults faults' : ℕ)
    → length files ≤ i → AreSoFar (map file_tree files) i (view x) told told' →
    FetchesAll view (Ok x) (map file_tree files) told told' faults faults'
all-there view x files i told told' faults faults' h s =
    let whole = all-taken files i h in
    let H : List File → Type 0 = λ fs. IfSome told (λ t. HoldsAll t fs (view x)) in
    let L : List File → Type 0 = λ fs. told' ≡ grown told (fetched fs) in (subst H whole s.held, subst L whole s.log)
