-- The head of a text gives no tokens: each of its lines is a comment.
use Rattle.std.proofs.Common.{◌≡◌, ℕ, zero, suc, Bool, true, false, not, ◌&&◌, List, [], ◌∷◌, ◌++◌, codes, decimal, Option, Some, None, Ok}
use Rattle.std.proofs.Common.{slice_get, option_map, unwrap_or, refl, sym, ap, subst, ◌∙◌, append_assoc}
use Rattle.std.specs.Char.{is_ascii_alphabetic, is_ascii_alphanumeric, is_ascii_digit}
use Rattle.std.specs.List.{join_with_byte, list_all, zip}
use Rattle.std.specs.Str.{all_ascii_digits}
use Rattle.std.proofs.lemmas.Bool.{and_from, and_parts, ne_eqb}
use Rattle.std.proofs.lemmas.List.Folds.{list_all-append}
use Rattle.seq_tree.specs.Layout.{layout}
use Rattle.seq_tree.specs.Lexis.{goes_on, is_name, is_not_line_feed, is_underscore, plain, tokens}
use Rattle.seq_tree.specs.declared.token.Token.{Token}
use Rattle.seq_print.specs.Readable.{is_comment}
use Rattle.seq_print.proofs.Shared.BackLaws.{Gives, gives-comment, gives-layout, read-whole}
use Rattle.seq_print.proofs.Shared.Fronts.{written}
use Rattle.ods_tree.specs.Flats.{Thread, Flat}
use Rattle.rt_response.specs.declared.rows.Bound.{Bound}
use Rattle.analysis.specs.Ceilings.{Ranks}
use Rattle.ada_tree.specs.Spelling.{program_lines, program_tokens}
use Rattle.ada_print.specs.Writable.{is_number, is_word, is_writable}
use Rattle.ada_print.proofs.Shared.ApartLines.{program-ok}
use Rattle.guarantee.specs.Programs.{comment, head, program_for, thread_comment}
use Rattle.ada_gen.specs.Heads.{is_bound_writable, is_head_writable, is_thread_writable}
use Rattle.ada_gen.specs.Rows.{row, rows}

-- a part of a name is no line feed
part-no_feed : (c : ℕ) → is_ascii_alphanumeric c ≡ true → is_not_line_feed c ≡ true
part-no_feed c e = ap not (ne_eqb c 10 (λ h. let e' = rw h at e in cc))

under-no_feed : (c : ℕ) → is_underscore c ≡ true → is_not_line_feed c ≡ true
under-no_feed c e = ap not (ne_eqb c 10 (λ h. let e' = rw h at e in cc))

digit-no_feed : (c : ℕ) → is_ascii_digit c ≡ true → is_not_line_feed c ≡ true
digit-no_feed c e = ap not (ne_eqb c 10 (λ h. let e' = rw h at e in cc))

letter-no_feed : (c : ℕ) → is_ascii_alphabetic c ≡ true → is_not_line_feed c ≡ true
letter-no_feed c e = ap not (ne_eqb c 10 (λ h. let e' = rw h at e in cc))

step-no_feed : (under : Bool) (c : ℕ) (cs : List ℕ) (b : Bool) → is_ascii_alphanumeric c ≡ b → goes_on is_ascii_alphanumeric under (c ∷ cs) ≡ true
    → (goes_on is_ascii_alphanumeric false cs ≡ true → is_comment cs ≡ true) → (goes_on is_ascii_alphanumeric true cs ≡ true → is_comment cs ≡ true)
    → is_comment (c ∷ cs) ≡ true
step-no_feed under c cs true e g one two = and_from _ _ (part-no_feed c e) (one (rw e at g))
step-no_feed under c cs false e g one two =
    let g' = rw e at g in
    let h = and_parts (is_underscore c && not under) (goes_on is_ascii_alphanumeric true cs) g' in
    and_from _ _ (under-no_feed c (and_parts (is_underscore c) (not under) h.0).0) (two h.1)

run-no_feed : (under : Bool) (cs : List ℕ) → goes_on is_ascii_alphanumeric under cs ≡ true → is_comment cs ≡ true
run-no_feed under [] g = refl
run-no_feed under (c ∷ cs) g = step-no_feed under c cs (is_ascii_alphanumeric c) refl g (run-no_feed false cs) (run-no_feed true cs)

-- a name holds no line feed
word-no_feed : (name : List ℕ) → is_word name ≡ true → is_comment name ≡ true
word-no_feed [] w = cc
word-no_feed (c ∷ cs) w =
    let n = and_parts (is_name (c ∷ cs)) _ w in
    let p = and_parts (is_ascii_alphabetic c) (goes_on is_ascii_alphanumeric false cs) n.0 in
    and_from _ _ (letter-no_feed c p.0) (run-no_feed false cs p.1)

digits-no_feed : (ds : List ℕ) → all_ascii_digits ds ≡ true → is_comment ds ≡ true
digits-no_feed [] e = refl
digits-no_feed (d ∷ ds) e = let p = and_parts (is_ascii_digit d) _ e in and_from _ _ (digit-no_feed d p.0) (digits-no_feed ds p.1)

-- a number holds no line feed
number-no_feed : (n : ℕ) → is_number n ≡ true → is_comment (decimal n) ≡ true
number-no_feed n e = digits-no_feed (decimal n) (written n e).digits

join-no_feed : (w : List ℕ) (ws : List (List ℕ)) → list_all is_comment (w ∷ ws) ≡ true → is_comment (join_with_byte 32 (w ∷ ws)) ≡ true
join-no_feed w [] e = (and_parts (is_comment w) true e).0
join-no_feed w (v ∷ vs) e =
    let p = and_parts (is_comment w) _ e in
    list_all-append is_not_line_feed w (32 ∷ join_with_byte 32 (v ∷ vs)) ∙ and_from _ _ p.0 (join-no_feed v vs p.1)

-- a comment of words
gives-words : (w : List ℕ) (ws : List (List ℕ)) (rest : List ℕ) (ts : List Token) → list_all is_comment (w ∷ ws) ≡ true → Gives rest ts
    → Gives (comment (w ∷ ws) ++ rest) ts
gives-words w ws rest ts e g =
    let body = 32 ∷ join_with_byte 32 (w ∷ ws) in
    let P : List ℕ → Type 0 = λ x. Gives (45 ∷ 45 ∷ x) ts in
    subst P (sym (append_assoc body (codes "\n") rest)) (gives-comment body rest ts (join-no_feed w ws e) g)

gives-design : (name rest : List ℕ) (ts : List Token) → is_word name ≡ true → Gives rest ts → Gives (comment (codes "design" ∷ name ∷ []) ++ rest) ts
gives-design name rest ts w g =
    let n : is_comment name ≡ true = word-no_feed name w in
    gives-words (codes "design") (name ∷ []) rest ts (and_from (is_comment name) true n refl) g

gives-thread : (t : Thread × ℕ) (b : Bound) (rest : List ℕ) (ts : List Token) → is_thread_writable t ≡ true → is_bound_writable b ≡ true
    → Gives rest ts → Gives (thread_comment t b ++ rest) ts
gives-thread t b rest ts w k g =
    let p = and_parts (is_word t.0.name) _ w in
    let q = and_parts (is_number t.0.deadline) (is_number t.1) p.1 in
    let m = and_parts (is_number b.jitter) (is_number b.response) k in
    gives-words (codes "thread")
    (t.0.name ∷ codes "priority" ∷ decimal t.1 ∷ codes "jitter" ∷ decimal b.jitter ∷ codes "response" ∷ decimal b.response ∷ codes "deadline"
    ∷ decimal t.0.deadline ∷ []) rest ts
    (and_from _ _ (word-no_feed t.0.name p.0)
    (and_from _ _ (number-no_feed t.1 q.1)
    (and_from _ _ (number-no_feed b.jitter m.0)
    (and_from _ _ (number-no_feed b.response m.1) (and_from _ true (number-no_feed t.0.deadline q.0) refl)))))
    g

all-at : {A : Type 0} (test : A → Bool) (xs : List A) (i : ℕ) (x : A) → list_all test xs ≡ true → slice_get xs i ≡ Some x → test x ≡ true
all-at test [] i x e h = cc
all-at test (y ∷ ys) zero x e h =
    let same : y ≡ x = cc in
    let P : _ → Type 0 = λ z. test z ≡ true in
    subst P same (and_parts (test y) _ e).0
all-at test (y ∷ ys) (suc i) x e h = all-at test ys i x (and_parts (test y) _ e).1 h

gives-row : (o : Option (Thread × ℕ)) (b : Bound) (rest : List ℕ) (ts : List Token)
    → ((t : Thread × ℕ) → o ≡ Some t → is_thread_writable t ≡ true) → is_bound_writable b ≡ true → Gives rest ts
    → Gives (unwrap_or (option_map (λ t. thread_comment t b) o) [] ++ rest) ts
gives-row None b rest ts w k g = g
gives-row (Some t) b rest ts w k g = gives-thread t b rest ts (w t refl) k g

gives-rows : (f : Flat) (r : Ranks) (places : List ℕ) (v : List Bound) (rest : List ℕ) (ts : List Token)
    → list_all is_thread_writable (zip f.threads r.threads) ≡ true → list_all is_bound_writable v ≡ true
    → Gives rest ts → Gives (rows f r (zip places v) ++ rest) ts
gives-rows f r [] v rest ts w k g = g
gives-rows f r (p ∷ ps) [] rest ts w k g = g
gives-rows f r (p ∷ ps) (b ∷ bs) rest ts w k g =
    let m = and_parts (is_bound_writable b) _ k in
    let P : List ℕ → Type 0 = λ x. Gives x ts in
    subst P (sym (append_assoc (row f r (p, b)) (rows f r (zip ps bs)) rest))
    (gives-row (slice_get (zip f.threads r.threads) p) b (rows f r (zip ps bs) ++ rest) ts
    (λ t e. all-at is_thread_writable (zip f.threads r.threads) p t w e) m.0
    (gives-rows f r ps bs rest ts w m.1 g))

gives-head : (f : Flat) (r : Ranks) (places : List ℕ) (v : List Bound) (rest : List ℕ) (ts : List Token) → is_head_writable f r v ≡ true
    → Gives rest ts → Gives (head f r places v ++ rest) ts
gives-head f r places v rest ts w g =
    let n = and_parts (is_word f.name) _ w in
    let m = and_parts (list_all is_thread_writable (zip f.threads r.threads)) _ n.1 in
    let P : List ℕ → Type 0 = λ x. Gives x ts in
    subst P (sym (append_assoc (comment (codes "design" ∷ f.name ∷ [])) (rows f r (zip places v)) rest))
    (gives-design f.name (rows f r (zip places v) ++ rest) ts n.0 (gives-rows f r places v rest ts m.0 m.1 g))

-- the text of a program behind its head
pub text-back : (f : Flat) (r : Ranks) (places : List ℕ) (v : List Bound) → is_writable (program_for f r) ≡ true → is_head_writable f r v ≡ true
    → plain (tokens (head f r places v ++ layout (program_lines (program_for f r)))) ≡ Ok (program_tokens (program_for f r))
text-back f r places v ok w =
    read-whole _ _ (gives-head f r places v _ _ w (gives-layout (program_lines (program_for f r)) (program-ok (program_for f r) ok)))
