-- A text is refused for one reason, and none is that says arrivals.
use Rattle.std.specs.Prelude.{IfOk}
use Rattle.std.proofs.Common.{◌≡◌, ℕ, ◌+◌, ◌<◌, ◌≤◌, nat_lt, List, [], ◌∷◌, ◌++◌, length, map, flat_map, slice_get, if◌then◌else◌, Option, Some}
use Rattle.std.proofs.Common.{None, option_map, Result, Ok, Err, refl, sym, ap, subst, ◌∙◌}
use Rattle.std.proofs.lemmas.Bool.{lt-ltb, le-ltb}
use Rattle.seq_tree.specs.Limits.{text_limit}
use Rattle.seq_tree.specs.Faults.{or_else}
use Rattle.seq_tree.specs.Names.{Name}
use Rattle.seq_tree.specs.Lexis.{tokens, plain}
use Rattle.seq_tree.specs.declared.text_fault.TextFault.{TextFault}
use Rattle.seq_tree.specs.declared.token.Token.{Token}
use Rattle.seq_tree.specs.declared.token.Spanned.{Spanned}
use Rattle.token_read.specs.Words.{bare}
use Rattle.seq_read.proofs.Shared.TextFaultLaws.{one-text-fault, no-text-fault}
use Rattle.ada_tree.specs.Programs.{Program}
use Rattle.arrivals_tree.specs.declared.arrivals.Arrival.{Arrival}
use Rattle.arrivals_tree.specs.declared.arrivals.Arrivals as values
use Rattle.arrivals_tree.specs.Arriving.{Arrivals, arrivals_of}
use Rattle.arrivals_tree.specs.Acceptance as acceptance
use Rattle.arrivals_tree.specs.Acceptance.{Falling, Unknown, Unfit, Early, Far, works_fault, requests_fault, item_fault, first_fault}
use Rattle.arrivals_tree.specs.Arrived.{Arrives, horizon_limit}
use Rattle.arrivals_tree.specs.ArrivalTexts.{ArrivalText, WorkText, AtText, work_tokens, request_tokens, arrival_tokens, work_of, request_of, said}
use Rattle.arrivals_tree.specs.FirstWrong.{Wrong, wrong_at, work_fault, wrong_work, wrong_request, first_wrong}
use Rattle.arrivals_read.specs.declared.fault.ArrivalFault.{ArrivalFault}
use Rattle.arrivals_read.specs.declared.fault.ArrivalFault.TheVariants as told
use Rattle.arrivals_read.specs.Answers.{AnyArrivals, Faults, IsText, IsFar, IsWrong, Refuses, Says}
use Rattle.arrivals_read.proofs.Reaching.{one-tree}

-- THE FIRST FAULT OF ARRIVALS IS THAT OF THE ITEM THAT IS TOLD
abbrev pub cause : Option Wrong → Option acceptance.ArrivalFault
cause o = option_map (λ w. w.fault) o

cause_or : (name : Name) (before : ℕ) (here : Option acceptance.ArrivalFault) (rest : Option Wrong)
    → or_else here (cause rest) ≡ cause (or_else (wrong_at name before here) rest)
cause_or name before None rest = refl
cause_or name before (Some f) rest = refl

cause_both : (a b : Option Wrong) → or_else (cause a) (cause b) ≡ cause (or_else a b)
cause_both None b = refl
cause_both (Some w) b = refl

works_cause : (p : Program) (before : ℕ) (ws : List WorkText) → works_fault p (map (work_of p) ws) ≡ cause (wrong_work p before ws)
works_cause p before [] = refl
works_cause p before (w ∷ ws) =
    let here = work_fault p (work_of p w) in
    ap (or_else here) (works_cause p (before + length (work_tokens w)) ws) ∙ cause_or w.name before here
    (wrong_work p (before + length (work_tokens w)) ws)

requests_cause : (p : Program) (earlier : List Arrival) (before : ℕ) (rs : List AtText)
    → requests_fault p earlier (map (request_of p) rs) ≡ cause (wrong_request p earlier before rs)
requests_cause p earlier before [] = refl
requests_cause p earlier before (r ∷ rs) =
    let here = item_fault p earlier (request_of p r) in
    let next = earlier ++ request_of p r ∷ [] in
    ap (or_else here) (requests_cause p next (before + length (request_tokens r)) rs) ∙ cause_or r.name before here
    (wrong_request p next (before + length (request_tokens r)) rs)

-- the faults of items, those of durations first
items_cause : (p : Program) (t : ArrivalText)
    → or_else (works_fault p (map (work_of p) t.works)) (requests_fault p [] (map (request_of p) t.requests)) ≡ cause (first_wrong p t)
items_cause p t =
    ap (λ o. or_else o (requests_fault p [] (map (request_of p) t.requests))) (works_cause p 3 t.works)
    ∙ ap (or_else (cause (wrong_work p 3 t.works))) (requests_cause p [] (3 + length (flat_map work_tokens t.works)) t.requests)
    ∙ cause_both (wrong_work p 3 t.works) (wrong_request p [] (3 + length (flat_map work_tokens t.works)) t.requests)

pub fault-far : (p : Program) (t : ArrivalText) → horizon_limit < t.until → first_fault horizon_limit p (said p t) ≡ Some Far
fault-far p t far = rw (lt-ltb horizon_limit t.until far) refl

pub fault-near : (p : Program) (t : ArrivalText) → t.until ≤ horizon_limit → first_fault horizon_limit p (said p t) ≡ cause (first_wrong p t)
fault-near p t near = rw (le-ltb horizon_limit t.until near) (items_cause p t)

-- A TEXT THAT SAYS ARRIVALS
-- bytes have one list of tokens
one_list : (bytes : List ℕ) (a b : List Spanned) → tokens bytes ≡ Ok a → tokens bytes ≡ Ok b → a ≡ b
one_list bytes a b e f = let same : Ok a ≡ Ok b = sym e ∙ f in cc

spelled_as : (bytes : List ℕ) (found : List Spanned) (ts : List Token) → tokens bytes ≡ Ok found → plain (tokens bytes) ≡ Ok ts → bare found ≡ ts
spelled_as bytes found ts e h = let same : Ok (bare found) ≡ Ok ts = ap plain (sym e) ∙ h in cc

tree_same : (bytes : List ℕ) (found : List Spanned) (t u : ArrivalText) → IsText bytes found t → plain (tokens bytes) ≡ Ok (arrival_tokens u) → t ≡ u
tree_same bytes found t u x h = one-tree (bare found) t u x.spelled (spelled_as bytes found (arrival_tokens u) x.read h)

wrong_refused : (bytes : List ℕ) (p : Program) (fault : acceptance.ArrivalFault) (line : ℕ) (name : Name) → IsWrong bytes p fault line name
    → (a : Arrivals) → Arrives horizon_limit bytes p a → ⊥
wrong_refused bytes p fault line name h a r =
    let same : h.tree ≡ r.tree = tree_same bytes h.found h.tree r.tree h.text r.spelled in
    let fine : first_fault horizon_limit p (said p h.tree) ≡ None
    = ap (λ t. first_fault horizon_limit p (said p t)) same ∙ ap (first_fault horizon_limit p) (sym r.says) ∙ r.accepted in
    let both : None ≡ Some fault = sym fine ∙ fault-near p h.tree h.near ∙ ap cause h.wrong in
    cc

far_refused : (bytes : List ℕ) (p : Program) (value : ℕ) → IsFar bytes value → (a : Arrivals) → Arrives horizon_limit bytes p a → ⊥
far_refused bytes p value h a r =
    let same : h.tree ≡ r.tree = tree_same bytes h.found h.tree r.tree h.text r.spelled in
    let fine : first_fault horizon_limit p (said p h.tree) ≡ None
    = ap (λ t. first_fault horizon_limit p (said p t)) same ∙ ap (first_fault horizon_limit p) (sym r.says) ∙ r.accepted in
    let P : ℕ → Type 0 = λ n. horizon_limit < n in
    let both : None ≡ Some Far = sym fine ∙ fault-far p h.tree (subst P h.until h.far) in
    cc

pub refused-nothing : (bytes : List ℕ) (p : Program) (f : ArrivalFault) → Refuses bytes p f → (a : Arrivals) → Arrives horizon_limit bytes p a → ⊥
refused-nothing bytes p (told.Text f) h a r = no-text-fault AnyArrivals AnyArrivals text_limit bytes (arrival_tokens r.tree) f r.within r.spelled
    (r.tree, refl) (r.tree, refl) h
refused-nothing bytes p (told.Q1 line) h a r = wrong_refused bytes p Falling line h.0 h.1 a r
refused-nothing bytes p (told.Q2 line name) h a r = wrong_refused bytes p Unknown line name h a r
refused-nothing bytes p (told.Q3 line name) h a r = wrong_refused bytes p Early line name h a r
refused-nothing bytes p (told.Q4 value limit) h a r = far_refused bytes p value h.0 a r
refused-nothing bytes p (told.Q5 line) h a r = wrong_refused bytes p Unfit line h.0 h.1 a r
refused-nothing bytes p told.NoMemory h a r = h

pub one-arrivals : (bytes : List ℕ) (p : Program) (a b : Arrivals) → Arrives horizon_limit bytes p a → Arrives horizon_limit bytes p b → a ≡ b
one-arrivals bytes p a b r q =
    let tokens_same : Ok (arrival_tokens r.tree) ≡ Ok (arrival_tokens q.tree) = sym r.spelled ∙ q.spelled in
    let spelled : arrival_tokens r.tree ≡ arrival_tokens q.tree = cc in
    r.says ∙ ap (said p) (one-tree (arrival_tokens r.tree) r.tree q.tree refl spelled) ∙ sym q.says

-- what an answer says leaves no other arrivals
pub says-only : (bytes : List ℕ) (p : Program) (result : Result values.Arrivals ArrivalFault) → Says bytes p result → (a : Arrivals)
    → Arrives horizon_limit bytes p a → IfOk result (λ b. arrivals_of b ≡ a)
says-only bytes p (Ok b) h a r = one-arrivals bytes p (arrivals_of b) a h r
says-only bytes p (Err f) h a r = tt

-- ONE REFUSAL
-- what is told of a text, by what is wrong with its first item
abbrev told_by : acceptance.ArrivalFault → ℕ → Name → ArrivalFault
told_by Falling line name = told.Q1 line
told_by Unknown line name = told.Q2 line name
told_by Unfit line name = told.Q5 line
told_by Early line name = told.Q3 line name
told_by Far line name = told.NoMemory

-- the line of a token
abbrev line_at : Option Spanned → ℕ
line_at None = 0
line_at (Some s) = s.place.line

abbrev told_wrong : List Spanned → Option Wrong → ArrivalFault
told_wrong found None = told.NoMemory
told_wrong found (Some w) = told_by w.fault (line_at (slice_get found w.before)) w.name

abbrev told_of : Program → List Spanned → ArrivalText → ArrivalFault
told_of p found t = if nat_lt horizon_limit t.until then told.Q4 t.until horizon_limit else told_wrong found (first_wrong p t)

-- a refusal of the items, or of the horizon
record IsTold (bytes : List ℕ) (p : Program) (f : ArrivalFault) : Type 0 where
  pub found : List Spanned
  pub tree : ArrivalText
  pub text : IsText bytes found tree
  pub is : f ≡ told_of p found tree

told_of_wrong : (bytes : List ℕ) (p : Program) (fault : acceptance.ArrivalFault) (line : ℕ) (name : Name) (f : ArrivalFault)
    → IsWrong bytes p fault line name → f ≡ told_by fault line name → IsTold bytes p f
told_of_wrong bytes p fault line name f h e = record {
  found = h.found;
  tree = h.tree;
  text = h.text;
  is = e ∙ sym (rw (le-ltb horizon_limit h.tree.until h.near, h.wrong, h.begins, h.here) refl);
}

told_of_far : (bytes : List ℕ) (p : Program) (value limit : ℕ) → IsFar bytes value → limit ≡ horizon_limit → IsTold bytes p (told.Q4 value limit)
told_of_far bytes p value limit h e =
    let P : ℕ → Type 0 = λ n. horizon_limit < n in
    record {
      found = h.found;
      tree = h.tree;
      text = h.text;
      is = ap (λ v. told.Q4 v limit) h.until ∙ ap (told.Q4 h.tree.until) e ∙ sym (rw
          (lt-ltb horizon_limit h.tree.until (subst P h.until h.far)) refl);
    }

one_told : (bytes : List ℕ) (p : Program) (f g : ArrivalFault) → IsTold bytes p f → IsTold bytes p g → f ≡ g
one_told bytes p f g h k =
    let found : h.found ≡ k.found = one_list bytes h.found k.found h.text.read k.text.read in
    let tree : h.tree ≡ k.tree = one-tree (bare h.found) h.tree k.tree h.text.spelled (ap bare found ∙ k.text.spelled) in
    h.is ∙ ap (λ x. told_of p x h.tree) found ∙ ap (told_of p k.found) tree ∙ sym k.is

text_or_told : (bytes : List ℕ) (p : Program) (f : TextFault) (g : ArrivalFault) → Faults bytes f → IsTold bytes p g → ⊥
text_or_told bytes p f g h k =
    no-text-fault AnyArrivals AnyArrivals text_limit bytes (arrival_tokens k.tree) f k.text.within (ap plain k.text.read ∙ ap Ok k.text.spelled)
    (k.tree, refl) (k.tree, refl) h

-- a refusal is one of the text, or is told
data IsOneOf (bytes : List ℕ) (p : Program) (f : ArrivalFault) : Type 0 where
  OfText : (found : TextFault) → f ≡ told.Text found → Faults bytes found → IsOneOf bytes p f
  OfItems : IsTold bytes p f → IsOneOf bytes p f

one_of : (bytes : List ℕ) (p : Program) (f : ArrivalFault) → Refuses bytes p f → IsOneOf bytes p f
one_of bytes p (told.Text found) h = OfText found refl h
one_of bytes p (told.Q1 line) h = OfItems (told_of_wrong bytes p Falling line h.0 (told.Q1 line) h.1 refl)
one_of bytes p (told.Q2 line name) h = OfItems (told_of_wrong bytes p Unknown line name (told.Q2 line name) h refl)
one_of bytes p (told.Q3 line name) h = OfItems (told_of_wrong bytes p Early line name (told.Q3 line name) h refl)
one_of bytes p (told.Q4 value limit) h = OfItems (told_of_far bytes p value limit h.0 h.1)
one_of bytes p (told.Q5 line) h = OfItems (told_of_wrong bytes p Unfit line h.0 (told.Q5 line) h.1 refl)
one_of bytes p told.NoMemory h = absurd h

one_by : (bytes : List ℕ) (p : Program) (f g : ArrivalFault) → IsOneOf bytes p f → IsOneOf bytes p g → f ≡ g
one_by bytes p f g (OfText a e h) (OfText b d k) = e ∙ ap told.Text (one-text-fault AnyArrivals AnyArrivals text_limit bytes a b h k) ∙ sym d
one_by bytes p f g (OfText a e h) (OfItems k) = absurd (text_or_told bytes p a g h k)
one_by bytes p f g (OfItems h) (OfText b d k) = absurd (text_or_told bytes p b f k h)
one_by bytes p f g (OfItems h) (OfItems k) = one_told bytes p f g h k

pub one-refusal : (bytes : List ℕ) (p : Program) (f g : ArrivalFault) → Refuses bytes p f → Refuses bytes p g → f ≡ g
one-refusal bytes p f g h k = one_by bytes p f g (one_of bytes p f h) (one_of bytes p g k)
