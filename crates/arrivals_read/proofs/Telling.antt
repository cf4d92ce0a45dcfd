-- What is answered of a text that was read says so.
use Rattle.std.proofs.Common.{◌≡◌, ℕ, zero, suc, ◌+◌, ◌<◌, ◌≤◌, List, [], ◌∷◌, ◌++◌, length, flat_map, slice_get, Option, Some, None, Ok, Err}
use Rattle.std.proofs.Common.{refl, sym, ap, subst, ◌∙◌, arith, length-append}
use Rattle.std.proofs.lemmas.List.{length-map}
use Rattle.seq_tree.specs.Limits.{text_limit}
use Rattle.seq_tree.specs.Faults.{or_else}
use Rattle.seq_tree.specs.Names.{Name}
use Rattle.seq_tree.specs.Lexis.{tokens, plain}
use Rattle.seq_tree.specs.declared.token.Spanned.{Spanned}
use Rattle.token_read.specs.Places.{place_or}
use Rattle.token_read.specs.Words.{bare}
use Rattle.ada_tree.specs.Programs.{Program}
use Rattle.arrivals_tree.specs.declared.arrivals.Arrival.{Arrival}
use Rattle.arrivals_tree.specs.Arriving.{Arrivals}
use Rattle.arrivals_tree.specs.Acceptance as acceptance
use Rattle.arrivals_tree.specs.Acceptance.{first_fault, item_fault}
use Rattle.arrivals_tree.specs.Arrived.{Arrives, horizon_limit}
use Rattle.arrivals_tree.specs.ArrivalTexts.{ArrivalText, WorkText, AtText, work_tokens, request_tokens, arrival_tokens, work_of, request_of, said}
use Rattle.arrivals_tree.specs.FirstWrong.{Wrong, wrong_at, work_fault, wrong_work, wrong_request, first_wrong}
use Rattle.arrivals_read.specs.declared.checks.Cause.{Cause}
use Rattle.arrivals_read.specs.declared.fault.ArrivalFault.{ArrivalFault}
use Rattle.arrivals_read.specs.declared.fault.ArrivalFault.TheVariants as told
use Rattle.arrivals_read.specs.Answers.{IsText, IsWrong, Says}
use Rattle.arrivals_read.specs.Checked.{fault_named}
use Rattle.arrivals_read.specs.Found.{Tells}
use Rattle.arrivals_read.proofs.Shared.Refusals.{cause, fault-near}

-- THE PLACE OF AN ITEM is that of a token
first_or_rest : (name : Name) (before most : ℕ) (here : Option acceptance.ArrivalFault) (rest : Option Wrong) (w : Wrong) → before < most
    → (rest ≡ Some w → w.before < most) →
    or_else (wrong_at name before here) rest ≡ Some w → w.before < most
first_or_rest name before most None rest w here_in rest_in e = rest_in e
first_or_rest name before most (Some fault) rest w here_in rest_in e =
    let same : record { fault = fault; name = name; before = before } ≡ w
    = (let h : ◌≡◌ {A = Option Wrong} (Some (record { fault = fault; name = name; before = before })) (Some w) = e in cc) in
    let P : Wrong → Type 0 = λ v. v.before < most in subst P same here_in

work_within : (p : Program) (before : ℕ) (ws : List WorkText) (w : Wrong) → wrong_work p before ws ≡ Some w
    → w.before < before + length (flat_map work_tokens ws)
work_within p before [] w e = absurd (cc)
work_within p before (v ∷ vs) w e =
    let most = before + length (flat_map work_tokens (v ∷ vs)) in
    let long : length (flat_map work_tokens (v ∷ vs)) ≡ length (work_tokens v) + length (flat_map work_tokens vs)
    = length-append (work_tokens v) (flat_map work_tokens vs) in
    first_or_rest v.name before most (work_fault p (work_of p v)) (wrong_work p (before + length (work_tokens v)) vs) w (omega arith)
    (λ h. let more = work_within p (before + length (work_tokens v)) vs w h in omega (arith, long, more)) e

request_within : (p : Program) (earlier : List Arrival) (before : ℕ) (rs : List AtText) (w : Wrong) → wrong_request p earlier before rs ≡ Some w
    → w.before < before + length (flat_map request_tokens rs)
request_within p earlier before [] w e = absurd (cc)
request_within p earlier before (r ∷ rs) w e =
    let most = before + length (flat_map request_tokens (r ∷ rs)) in
    let long : length (flat_map request_tokens (r ∷ rs)) ≡ length (request_tokens r) + length (flat_map request_tokens rs)
    = length-append (request_tokens r) (flat_map request_tokens rs) in
    first_or_rest r.name before most (item_fault p earlier (request_of p r))
    (wrong_request p (earlier ++ request_of p r ∷ []) (before + length (request_tokens r)) rs) w (omega arith)
    (λ h. let more = request_within p (earlier ++ request_of p r ∷ []) (before + length (request_tokens r)) rs w h in omega (arith, long, more)) e

either : (most : ℕ) (a b : Option Wrong) (w : Wrong) → (a ≡ Some w → w.before < most) → (b ≡ Some w → w.before < most) → or_else a b ≡ Some w
    → w.before < most
either most None b w of_a of_b e = of_b e
either most (Some v) b w of_a of_b e = of_a e

pub wrong-within : (p : Program) (t : ArrivalText) (w : Wrong) → first_wrong p t ≡ Some w → w.before < length (arrival_tokens t)
wrong-within p t w e =
    let works = flat_map work_tokens t.works in
    let requests = flat_map request_tokens t.requests in
    let long : length (works ++ requests) ≡ length works + length requests = length-append works requests in
    either (length (arrival_tokens t)) (wrong_work p 3 t.works) (wrong_request p [] (3 + length works) t.requests) w
    (λ h. let more = work_within p 3 t.works w h in omega (arith, long, more))
    (λ h. let more = request_within p [] (3 + length works) t.requests w h in omega (arith, long, more)) e

-- WHAT IS ANSWERED
pub text-of : (bytes : List ℕ) (found : List Spanned) (t : ArrivalText) → length bytes ≤ text_limit → tokens bytes ≡ Ok found
    → bare found ≡ arrival_tokens t → IsText bytes found t
text-of bytes found t short read spelled = record { within = short; read = read; spelled = spelled }

pub far-says : (bytes : List ℕ) (p : Program) (found : List Spanned) (t : ArrivalText) (value limit : ℕ) → IsText bytes found t → value ≡ t.until
    → horizon_limit < value → limit ≡ horizon_limit → Says bytes p (Err (told.Q4 value limit))
far-says bytes p found t value limit text until far is = (record { found = found; tree = t; text = text; until = until; far = far }, is)

pub fine-arrives : (bytes : List ℕ) (p : Program) (found : List Spanned) (t : ArrivalText) (a : Arrivals) → IsText bytes found t
    → t.until ≤ horizon_limit → first_wrong p t ≡ None → a ≡ said p t → Arrives horizon_limit bytes p a
fine-arrives bytes p found t a text near fine says = record {
  within = text.within;
  tree = t;
  spelled = ap plain text.read ∙ ap Ok text.spelled;
  says = says;
  accepted = ap (first_fault horizon_limit p) says ∙ fault-near p t near ∙ ap cause fine;
}

-- the token at a place
record IsThere (found : List Spanned) (before : ℕ) : Type 0 where
  pub token : Spanned
  pub is : slice_get found before ≡ Some token

there : (found : List Spanned) (before : ℕ) → before < length found → IsThere found before
there [] before h = absurd (omega arith)
there (s ∷ ss) zero h = record { token = s; is = refl }
there (s ∷ ss) (suc before) h = let t = there ss before (omega arith) in record { token = t.token; is = t.is }

pub token-within : (p : Program) (found : List Spanned) (t : ArrivalText) (w : Wrong) → bare found ≡ arrival_tokens t → first_wrong p t ≡ Some w
    → w.before < length found
token-within p found t w spelled wrong = let h = wrong-within p t w wrong
    in omega (arith, h, ap length spelled, length-map found (λ (s : Spanned). s.token))

-- something is wrong, as it was found
pub wrong-found : (bytes : List ℕ) (p : Program) (found : List Spanned) (t : ArrivalText) (fault : acceptance.ArrivalFault) (name : Name)
    (before line : ℕ) → IsText bytes found t → t.until ≤ horizon_limit →
    first_wrong p t ≡ Some (record { fault = fault; name = name; before = before }) → line ≡ (place_or bytes (slice_get found before)).line
    → IsWrong bytes p fault line name
wrong-found bytes p found t fault name before line text near wrong here =
    let token = there found before (token-within p found t (record { fault = fault; name = name; before = before }) text.spelled wrong) in
    record {
      found = found;
      tree = t;
      text = text;
      near = near;
      before = before;
      wrong = wrong;
      token = token.token;
      begins = token.is;
      here = here ∙ ap (λ o. (place_or bytes o).line) token.is;
    }

module _ (bytes : List ℕ) (p : Program) where
  as_named : (a b : acceptance.ArrivalFault) (l m : ℕ) (n o : Name) → a ≡ b → m ≡ l → o ≡ n → IsWrong bytes p a l n → IsWrong bytes p b m o
  as_named a b l m n o e f g h =
      let P : acceptance.ArrivalFault → Type 0 = λ x. IsWrong bytes p x m o in
      let Q : ℕ → Type 0 = λ x. IsWrong bytes p a x o in
      let R : Name → Type 0 = λ x. IsWrong bytes p a l x in
      subst P e (subst Q (sym f) (subst R (sym g) h))

  pub wrong-says : (cause : Cause) (line : ℕ) (name : Name) (f : ArrivalFault) → IsWrong bytes p (fault_named cause) line name
      → Tells cause line name f → Says bytes p (Err f)
  wrong-says cause line name (told.Text fault) h t = absurd t
  wrong-says cause line name (told.Q1 at) h t = (name, as_named (fault_named cause) acceptance.Falling line at name name t.0 t.1 refl h)
  wrong-says cause line name (told.Q2 at of) h t = as_named (fault_named cause) acceptance.Unknown line at name of t.0 t.1 t.2 h
  wrong-says cause line name (told.Q3 at of) h t = as_named (fault_named cause) acceptance.Early line at name of t.0 t.1 t.2 h
  wrong-says cause line name (told.Q4 value limit) h t = absurd t
  wrong-says cause line name (told.Q5 at) h t = (name, as_named (fault_named cause) acceptance.Unfit line at name name t.0 t.1 refl h)
  wrong-says cause line name told.NoMemory h t = tt
