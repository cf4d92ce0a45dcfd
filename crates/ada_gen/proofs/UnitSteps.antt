-- One more unit of a program, and one more comment on a thread.
use Rattle.std.proofs.Common.{◌≡◌, ℕ, suc, ◌+◌, ◌<◌, ◌≤◌, List, [], ◌∷◌, ◌++◌, length, map, drop, get_or, flat_map, slice_get, option_map}
use Rattle.std.proofs.Common.{unwrap_or, refl, sym, ap, subst, ◌∙◌, append_assoc, add-one, drop-cons, append-nil, codes, decimal, arith}
use Rattle.std.specs.List.{zip}
use Rattle.std.proofs.lemmas.List.{map-append, get_or_default, get_or-map, length-append, length-map}
use Rattle.std.proofs.lemmas.Option.{slice_get-get_or}
use Rattle.std.proofs.lemmas.Slice.Zip.{get_or-zip, length-zip}
use Rattle.seq_print.specs.Printing.{AddsFront}
use Rattle.seq_print.proofs.Shared.Chains.{front-onward}
use Rattle.ods_tree.specs.Flats.{Thread}
use Rattle.rt_response.specs.declared.rows.Bound.{Bound}
use Rattle.guarantee.specs.Programs.{thread_comment}

-- the items from a place on: the one there, and those behind it
drop-next : {A : Type 0} (xs : List A) (i : ℕ) (x d : A) → i < length xs → x ≡ get_or xs i d → drop i xs ≡ x ∷ drop (i + 1) xs
drop-next xs i x d h e = rw (add-one, drop-cons xs i d h) (ap (λ y. y ∷ drop (suc i) xs) (sym e))

-- one more item, under a view
item-step : {U W : Type 0} (see : U → W) (units more : List U) (u : U) (w : W) (rest total : List W) → see u ≡ w → more ≡ units ++ (u ∷ [])
    → map see units ++ (w ∷ rest) ≡ total → map see more ++ rest ≡ total
item-step see units more u w rest total same e h =
    rw (e, map-append see units (u ∷ []), append_assoc (map see units) (see u ∷ []) rest, same) h

-- one more unit, made of an item and of another beside it
pub pair-step : {X Y V U W : Type 0} (view : X → V) (make : V × Y → W) (see : U → W) (xs : List X) (ys : List Y) (i : ℕ) (x : X) (y : Y)
    (units more : List U) (u : U) (total : List W)
    → i < length xs → i < length ys → x ≡ get_or xs i x → y ≡ get_or ys i y → see u ≡ make (view x, y) → more ≡ units ++ (u ∷ [])
    → map see units ++ map make (zip (map view (drop i xs)) (drop i ys)) ≡ total
    → map see more ++ map make (zip (map view (drop (i + 1) xs)) (drop (i + 1) ys)) ≡ total
pair-step view make see xs ys i x y units more u total h k e f same added inv =
    item-step see units more u (make (view x, y)) (map make (zip (map view (drop (i + 1) xs)) (drop (i + 1) ys))) total same added
    (rw (drop-next xs i x x h e, drop-next ys i y y k f) at inv)

-- two numbers beside each other
pub beside : (ps cs : List ℕ) (i p c : ℕ) → i < length ps → i < length cs → p ≡ get_or ps i p → c ≡ get_or cs i c → (p, c)
    ≡ get_or (zip ps cs) i (p, c)
beside ps cs i p c h k e f = sym (get_or-zip ps cs i (p, c) h k ∙ (ap (λ a. (a, get_or cs i c)) (sym e) ∙ ap (λ b. (p, b)) (sym f)))

pub beside-length : (ps cs : List ℕ) (i : ℕ) → i < length ps → i < length cs → i < length (zip ps cs)
beside-length ps cs i h k = rw (length-zip ps cs) (grind arith)

-- a place that a list holds is below what bounds each of them
pub place-below : (places : List ℕ) (i place n : ℕ) → i < length places → place ≡ get_or places i place
    → ((k : ℕ) → k < length places → get_or places k 0 < n) → place < n
place-below places i place n h e below =
    let P : ℕ → Type 0 = λ k. k < n in
    subst P (sym (e ∙ get_or_default places i place 0 h)) (below i h)

-- the comment on the thread at a place
pub comment-at : {X V : Type 0} (view : X → V) (say : V × ℕ → List ℕ) (xs : List X) (ps : List ℕ) (i : ℕ) (x : X) (p : ℕ) → i < length xs
    → i < length ps → x ≡ get_or xs i x → p ≡ get_or ps i p
    → unwrap_or (option_map say (slice_get (zip (map view xs) ps) i)) [] ≡ say (view x, p)
comment-at view say xs ps i x p h k e f =
    let h' : i < length (map view xs) = rw (length-map xs view) h in
    let short : i < length (zip (map view xs) ps) = rw (length-zip (map view xs) ps) (grind arith) in
    let first : get_or (map view xs) i (view x) ≡ view x = get_or-map view xs i x (view x) h ∙ ap view (sym e) in
    let pair : get_or (zip (map view xs) ps) i (view x, p) ≡ (view x, p) = get_or-zip (map view xs) ps i (view x, p) h' k
    ∙ (ap (λ a. (a, get_or ps i p)) first ∙ ap (λ b. (view x, b)) (sym f)) in
    rw (slice_get-get_or (zip (map view xs) ps) i (view x, p) short, pair) refl

-- the comments from a place on: the one there, and those behind it
rows-left : {B : Type 0} (say : ℕ × B → List ℕ) (places : List ℕ) (bounds : List B) (i place : ℕ) (b d : B) (text : List ℕ)
    → i < length places → i < length bounds → place ≡ get_or places i place → b ≡ get_or bounds i d → say (place, b) ≡ text
    → text ++ flat_map say (zip (drop (i + 1) places) (drop (i + 1) bounds)) ≡ flat_map say (zip (drop i places) (drop i bounds))
rows-left say places bounds i place b d text h k e f same = rw (drop-next places i place place h e, drop-next bounds i b d k f, same) refl

-- one more comment
pub row-step : {B : Type 0} (say : ℕ × B → List ℕ) (places : List ℕ) (bounds : List B) (i place : ℕ) (b d : B)
    (start before after text total : List ℕ)
    → i < length places → i < length bounds → place ≡ get_or places i place → b ≡ get_or bounds i d → say (place, b) ≡ text → after ≡ before ++ text
    → (length start ≤ length before) × (before ++ flat_map say (zip (drop i places) (drop i bounds)) ≡ total)
    → (length start ≤ length after) × (after ++ flat_map say (zip (drop (i + 1) places) (drop (i + 1) bounds)) ≡ total)
row-step say places bounds i place b d start before after text total h k e f same added (kept, all) =
    let behind = flat_map say (zip (drop (i + 1) places) (drop (i + 1) bounds)) in
    let whole = ap (λ t. t ++ behind) added ∙ append_assoc before text behind
    ∙ ap (λ t. before ++ t) (rows-left say places bounds i place b d text h k e f same) ∙ all in
    (omega (arith, kept, ap length added ∙ length-append before text), whole)

-- a front of the next comment, where memory was wanted
pub row-front : {B : Type 0} (say : ℕ × B → List ℕ) (places : List ℕ) (bounds : List B) (i place : ℕ) (b d : B)
    (start before after text whole : List ℕ)
    → i < length places → i < length bounds → place ≡ get_or places i place → b ≡ get_or bounds i d → say (place, b) ≡ text
    → AddsFront before after text
    → (length start ≤ length before) × (before ++ flat_map say (zip (drop i places) (drop i bounds)) ≡ start ++ whole)
    → AddsFront start after whole
row-front say places bounds i place b d start before after text whole h k e f same added (kept, all) =
    front-onward start before after text (flat_map say (zip (drop (i + 1) places) (drop (i + 1) bounds))) whole kept
    (ap (λ t. before ++ t) (rows-left say places bounds i place b d text h k e f same) ∙ all) added

-- the words of the comment on a thread
pub thread-text : (t : Thread) (priority : ℕ) (b : Bound)
    → (codes "-- thread " ++ (t.name ++ [])) ++ ((codes " priority " ++ (decimal priority ++ [])) ++ ((codes " jitter " ++ (decimal b.jitter ++ []))
    ++ ((codes " response " ++ (decimal b.response ++ [])) ++ (codes " deadline " ++ (decimal t.deadline ++ codes "\n")))))
    ≡ thread_comment (t, priority) b
thread-text t priority b = simp (append_assoc, append-nil)
