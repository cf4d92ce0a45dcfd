-- The arrivals of a sample are spelled as a tree: the horizon, and each request on a line of its own.
use Rattle.std.proofs.Common.{◌≡◌, ℕ, ◌≤◌, true, List, [], ◌∷◌, ◌++◌, map, flat_map, refl, ap, subst, ◌∙◌, arith, append_assoc, Ok}
use Rattle.std.specs.Prelude.{Some, nat_lt, codes}
use Rattle.std.specs.Fmt.{digits}
use Rattle.std.specs.List.{list_all}
use Rattle.std.proofs.lemmas.Bool.{and_from, lt-ltb}
use Rattle.seq_tree.specs.Lexis.{longest, tokens, plain}
use Rattle.seq_tree.specs.Lists.{Each}
use Rattle.seq_tree.specs.declared.token.Token.TheVariants.{Word, Number, Sign}
use Rattle.seq_tree.specs.declared.token.Mark.TheVariants.{Semicolon}
use Rattle.seq_print.specs.Readable.{is_readable}
use Rattle.seq_print.proofs.Shared.BackLaws.{read-whole}
use Rattle.ods_tree.specs.Layout.{design_line_text}
use Rattle.ods_tree.specs.Spelling.{Capital, Plain, DesignLine, line, part_token}
use Rattle.ods_print.specs.Parts.{lines_text}
use Rattle.ods_print.proofs.Shared.PartLaws.{gives-lines, is_ready_line, line_tokens}
use Rattle.arrivals_tree.specs.ArrivalTexts.{AtText, ArrivalText, arrival_tokens, request_tokens}
use Rattle.sample_design.specs.Requests.{Request, request_line, request_lines, requests, sample_arrivals}
use Rattle.sample_design.specs.Samples.{from_on, thread_name}
use Rattle.law_samples.proofs.Numbers.{checked}
use Rattle.law_samples.proofs.Requests.{IsRight, requests-right}

-- a request as it stands in a tree
abbrev pub at_text : Request → AtText
at_text r = record { time = r.time; name = thread_name r.thread; value = Some r.value }

-- the tree
abbrev pub arrival_tree : ℕ → ArrivalText
arrival_tree n = record { until = 10000; works = []; requests = map at_text (requests n) }

-- the lines
abbrev until_line : DesignLine
until_line = line 0 (Capital (codes "until") ∷ Plain (Number 10000) ∷ Plain (Sign Semicolon) ∷ [])

abbrev at_line : Request → DesignLine
at_line r = line 0 (Capital (codes "at") ∷ Plain (Number r.time) ∷ Plain (Word (thread_name r.thread)) ∷ Plain (Number r.value)
    ∷ Plain (Sign Semicolon) ∷ [])

until-text : design_line_text until_line ≡ codes "UNTIL 10000;\n"
unfolding digits
until-text = refl

at-text : (r : Request) → design_line_text (at_line r) ≡ request_line r
at-text r = simp append_assoc refl

at_texts : (rs : List Request) → lines_text (map at_line rs) ≡ request_lines rs
at_texts [] = refl
at_texts (r ∷ rs) = ap (λ t. t ++ lines_text (map at_line rs)) (at-text r) ∙ ap (λ t. request_line r ++ t) (at_texts rs)

at-tokens : (rs : List Request) → line_tokens (map at_line rs) ≡ flat_map request_tokens (map at_text rs)
at-tokens [] = refl
at-tokens (r ∷ rs) = ap (λ ts. request_tokens (at_text r) ++ ts) (at-tokens rs)

-- each line can be read
all_named : list_all (λ k. is_readable (Word (thread_name k))) (from_on 1 30) ≡ true
unfolding longest
all_named = refl

until-ready : is_ready_line until_line.parts ≡ true
unfolding longest
until-ready = refl

at-ready : (n : ℕ) (r : Request) → n ≤ 30 → IsRight 10000 n r → is_ready_line (at_line r).parts ≡ true
unfolding longest
at-ready n r within h =
    let time : nat_lt r.time 4294967296 ≡ true = lt-ltb r.time 4294967296 (omega (arith, h.time)) in
    let value : nat_lt r.value 4294967296 ≡ true = lt-ltb r.value 4294967296 (omega (arith, h.time, h.value)) in
    let name : is_readable (Word (thread_name r.thread)) ≡ true
    = checked (λ k. is_readable (Word (thread_name k))) 1 30 r.thread all_named h.first (omega (arith, h.last, within)) in
    and_from _ _ refl (and_from _ _ refl (and_from _ _ time (and_from _ _ refl (and_from _ _ name (and_from _ _ refl (and_from _ _ value refl))))))

all_ready : (n : ℕ) (rs : List Request) → n ≤ 30 → Each (IsRight 10000 n) rs → list_all (λ l. is_ready_line l.parts) (map at_line rs) ≡ true
all_ready n [] within h = refl
all_ready n (r ∷ rs) within h = and_from _ _ (at-ready n r within h.0) (all_ready n rs within h.1)

pub arrivals-spelled : (n : ℕ) → n ≤ 30 → plain (tokens (sample_arrivals n)) ≡ Ok (arrival_tokens (arrival_tree n))
arrivals-spelled n within =
    let lines : List DesignLine = until_line ∷ map at_line (requests n) in
    let ready : list_all (λ l. is_ready_line l.parts) lines ≡ true
    = and_from _ _ until-ready (all_ready n (requests n) within (requests-right 10000 n)) in
    let same : lines_text lines ≡ sample_arrivals n
    = ap (λ t. t ++ lines_text (map at_line (requests n))) until-text ∙ ap (λ t. codes "UNTIL 10000;\n" ++ t) (at_texts (requests n)) in
    let told : line_tokens lines ≡ arrival_tokens (arrival_tree n) = ap (λ ts. map part_token until_line.parts ++ ts) (at-tokens (requests n)) in
    subst (λ t. plain (tokens t) ≡ Ok (arrival_tokens (arrival_tree n))) same
    (subst (λ ts. plain (tokens (lines_text lines)) ≡ Ok ts) told (read-whole (lines_text lines) (line_tokens lines) (gives-lines lines ready)))
