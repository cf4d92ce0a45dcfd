-- The lines of parts of a program, one after another, and the bytes that are printed for them.
use Rattle.std.proofs.Common.{◌≡◌, ℕ, Bool, false, List, [], ◌∷◌, ◌++◌, map, drop, codes, decimal, flat_map, refl, sym, ap, ◌∙◌, append_assoc}
use Rattle.std.specs.Fmt.{digits}
use Rattle.seq_tree.specs.Layout.{layout, line_text, token_text}
use Rattle.seq_tree.specs.Operations.{Signature, Operation}
use Rattle.seq_tree.specs.Spelling.{Line, line, block_lines}
use Rattle.seq_tree.specs.Statements.{Statements, End}
use Rattle.seq_tree.specs.declared.tree.Costs.{Costs}
use Rattle.seq_tree.specs.declared.tree.Datum.{Datum}
use Rattle.seq_tree.specs.declared.tree.Param.{Param}
use Rattle.seq_tree.specs.Names.{Name}
use Rattle.seq_tree.specs.declared.token.Token.TheVariants.{Word, Number, Sign}
use Rattle.seq_tree.specs.declared.token.Mark.TheVariants.{LeftParen, RightParen, Semicolon, Colon, Comma, Becomes, Dot, StarStar}
use Rattle.ada_tree.specs.Programs.{Unit, Program, Shared, Cyclic, Sporadic}
use Rattle.ada_tree.specs.Spelling.{body_lines, constant_line, datum_line, declaration_line, end_line, head_tokens, hrt_lines, inner_body}
use Rattle.ada_tree.specs.Spelling.{inner_specification, kept_token, priority_line, program_lines, renaming_line, request_token}
use Rattle.ada_tree.specs.Spelling.{specification_lines, task_lines, unit_body_lines}
use Rattle.ada_print.specs.Parts.{closing_lines, head_text, opening_lines, package_lines}
use Rattle.ada_print.specs.Parts as parts
use Rattle.ada_print.specs.Requests.{constant_lines, external_line, object_lines, waiting_lines}
use Rattle.ada_print.proofs.HeadTexts.{is-text, end-text, joined-two, one-line}
use Rattle.seq_print.proofs.Shared.Depths.{layout-append}

-- a cost
pub cost-text : (name : List ℕ) (n : ℕ) → codes "   " ++ (name ++ (codes " : constant := " ++ (decimal n ++ codes ";\n")))
    ≡ line_text (constant_line 1 name n)
cost-text name n = simp append_assoc

-- what package `hrt` says of words
type_line : Line
type_line = line 1 (Word (codes "type") ∷ Word (codes "word") ∷ Word (codes "is") ∷ Word (codes "mod") ∷ Number 2 ∷ Sign StarStar ∷ Number 32
    ∷ Sign Semicolon ∷ [])

type-text : codes "   type word is mod 2 ** 32;\n" ≡ line_text type_line
unfolding digits type_line
type-text = refl

-- package `hrt`
pub hrt-text : (c : Costs) → codes "package hrt is\n   type word is mod 2 ** 32;\n   subtype moment is ada.real_time.time;\n"
    ++ layout (drop 3 (hrt_lines c)) ≡ layout (hrt_lines c)
unfolding type_line
hrt-text c = ap (λ t. codes "package hrt is\n"
    ++ (t ++ (codes "   subtype moment is ada.real_time.time;\n" ++ layout (drop 3 (hrt_lines c))))) type-text

-- TASKS
-- the declaration of a task
pub task-text : (n : ℕ) → codes "      task hrt_thread is\n         pragma priority (" ++ (decimal n ++ codes ");\n      end hrt_thread;\n")
    ≡ layout (task_lines n)
task-text n = simp append_assoc

-- the body of a cyclic task up to its first statement
cyclic_first : ℕ → List Line
cyclic_first offset =
    line 2 (Word (codes "task") ∷ Word (codes "body") ∷ Word (codes "hrt_thread") ∷ Word (codes "is") ∷ [])
    ∷ line 3 (Word (codes "hrt_next") ∷ Sign Colon ∷ Word (codes "hrt") ∷ Sign Dot ∷ Word (codes "moment") ∷ Sign Becomes ∷ Word (codes "hrt")
    ∷ Sign Dot ∷ Word (codes "after") ∷ Sign LeftParen
    ∷ Word (codes "hrt") ∷ Sign Dot ∷ Word (codes "epoch") ∷ Sign Comma ∷ Number offset ∷ Sign RightParen ∷ Sign Semicolon ∷ [])
    ∷ line 2 (Word (codes "begin") ∷ []) ∷ line 3 (Word (codes "loop") ∷ [])
    ∷ line 4 (Word (codes "delay") ∷ Word (codes "until") ∷ Word (codes "hrt_next") ∷ Sign Semicolon ∷ []) ∷ []

first-text : (offset : ℕ) → codes "      task body hrt_thread is\n         hrt_next : hrt.moment := hrt.after (hrt.epoch, "
    ++ (decimal offset ++ codes ");\n      begin\n         loop\n            delay until hrt_next;\n") ≡ layout (cyclic_first offset)
unfolding cyclic_first
first-text offset = simp append_assoc

-- the line with its period
cyclic_next : ℕ → List Line
cyclic_next period =
    line 4 (Word (codes "hrt_next") ∷ Sign Becomes ∷ Word (codes "hrt") ∷ Sign Dot ∷ Word (codes "after") ∷ Sign LeftParen ∷ Word (codes "hrt_next")
    ∷ Sign Comma ∷ Number period ∷ Sign RightParen ∷ Sign Semicolon ∷ []) ∷ []

next-text : (period : ℕ) → codes "            hrt_next := hrt.after (hrt_next, " ++ (decimal period ++ codes ");\n") ≡ layout (cyclic_next period)
unfolding cyclic_next
next-text period = simp append_assoc

-- and what is behind the last statement of a task
loop_last : List Line
loop_last = line 4 (Word (codes "activation_end") ∷ Sign Semicolon ∷ []) ∷ line 3 (Word (codes "end") ∷ Word (codes "loop") ∷ Sign Semicolon ∷ [])
    ∷ end_line 2 (codes "hrt_thread") ∷ []

last-text : codes "            activation_end;\n         end loop;\n      end hrt_thread;\n" ≡ layout loop_last
unfolding loop_last
last-text = refl

-- the body of a cyclic unit
pub cyclic-text : (offset period : ℕ) (vars : List Datum) (block : Statements)
    → layout (map (datum_line 2) vars)
    ++ ((codes "      task body hrt_thread is\n         hrt_next : hrt.moment := hrt.after (hrt.epoch, "
    ++ (decimal offset ++ codes ");\n      begin\n         loop\n            delay until hrt_next;\n"))
    ++ ((codes "            hrt_next := hrt.after (hrt_next, " ++ (decimal period ++ codes ");\n"))
    ++ (layout (block_lines 4 block) ++ codes "            activation_end;\n         end loop;\n      end hrt_thread;\n")))
    ≡ layout (inner_body (Cyclic 0 offset period vars block))
unfolding cyclic_first cyclic_next loop_last
cyclic-text offset period vars block =
    joined-two (map (datum_line 2) vars) (cyclic_first offset ++ (cyclic_next period ++ (block_lines 4 block ++ loop_last))) _ _ refl
    (joined-two (cyclic_first offset) (cyclic_next period ++ (block_lines 4 block ++ loop_last)) _ _ (first-text offset)
    (joined-two (cyclic_next period) (block_lines 4 block ++ loop_last) _ _ (next-text period)
    (joined-two (block_lines 4 block) loop_last _ _ refl last-text)))

-- PROTECTED UNITS
ceiling_lines : List ℕ → ℕ → List Line
ceiling_lines object n = line 2 (Word (codes "protected") ∷ Word object ∷ Word (codes "is") ∷ []) ∷ priority_line 3 n ∷ []

shared-ceiling : (n : ℕ) → codes "      protected hrt_object is\n         pragma priority (" ++ (decimal n ++ codes ");\n")
    ≡ layout (ceiling_lines (codes "hrt_object") n)
unfolding ceiling_lines
shared-ceiling n = simp append_assoc

pub shared-head : (ceiling : ℕ) (vars : List Datum) (ops : List Operation)
    → (codes "      protected hrt_object is\n         pragma priority (" ++ (decimal ceiling ++ codes ");\n"))
    ++ (layout (map (λ o. declaration_line 3 o.sig) ops) ++ (codes "      private\n" ++ (layout (map (datum_line 3) vars)
    ++ (codes "      end hrt_object;\n" ++ layout (map (λ o. renaming_line 2 (codes "hrt_object") o.sig) ops)))))
    ≡ layout (inner_specification (Shared ceiling vars ops))
unfolding ceiling_lines
shared-head ceiling vars ops =
    let declared : List Line = map (λ o. declaration_line 3 o.sig) ops in
    let kept : List Line = map (datum_line 3) vars in
    let renamed : List Line = map (λ o. renaming_line 2 (codes "hrt_object") o.sig) ops in
    let private : Line = line 2 (Word (codes "private") ∷ []) in
    let last : Line = end_line 2 (codes "hrt_object") in
    joined-two (ceiling_lines (codes "hrt_object") ceiling) (declared ++ private ∷ (kept ++ last ∷ renamed)) _ _ (shared-ceiling ceiling)
    (joined-two declared (private ∷ (kept ++ last ∷ renamed)) _ _ refl
    (joined-two (private ∷ []) (kept ++ last ∷ renamed) _ _ refl
    (joined-two kept (last ∷ renamed) _ _ refl refl)))

pub shared-body : (ops : List Operation)
    → codes "      protected body hrt_object is\n" ++ (layout (flat_map (body_lines 3) ops) ++ codes "      end hrt_object;\n")
    ≡ layout (inner_body (Shared 0 [] ops))
shared-body ops =
    let first : Line = line 2 (Word (codes "protected") ∷ Word (codes "body") ∷ Word (codes "hrt_object") ∷ Word (codes "is") ∷ []) in
    let last : Line = end_line 2 (codes "hrt_object") in
    joined-two (first ∷ []) (flat_map (body_lines 3) ops ++ last ∷ []) _ _ refl (joined-two (flat_map (body_lines 3) ops) (last ∷ []) _ _ refl refl)

-- SPORADIC UNITS
pub constants-text : (separation jitter : ℕ) (external : Bool)
    → (codes "      hrt_separation : constant := " ++ (decimal separation ++ codes ";\n"))
    ++ ((codes "      hrt_jitter : constant := " ++ (decimal jitter ++ codes ";\n")) ++ line_text (external_line external))
    ≡ layout (constant_lines separation jitter external)
constants-text separation jitter external =
    let one : Line = constant_line 2 (codes "hrt_separation") separation in
    let two : Line = constant_line 2 (codes "hrt_jitter") jitter in
    let first : codes "      hrt_separation : constant := " ++ (decimal separation ++ codes ";\n") ≡ line_text one = simp append_assoc in
    let second : codes "      hrt_jitter : constant := " ++ (decimal jitter ++ codes ";\n") ≡ line_text two = simp append_assoc in
    joined-two (one ∷ []) (two ∷ external_line external ∷ []) _ _ (one-line one _ first)
    (joined-two (two ∷ []) (external_line external ∷ []) _ _ (one-line two _ second) (one-line (external_line external) _ refl))

object-ceiling : (n : ℕ) → codes "      protected hrt_obcs is\n         pragma priority (" ++ (decimal n ++ codes ");\n")
    ≡ layout (ceiling_lines (codes "hrt_obcs") n)
unfolding ceiling_lines
object-ceiling n = simp append_assoc

-- what its protected object declares behind the request
entry_lines : List Line
entry_lines =
    line 3 (Word (codes "entry") ∷ Word (codes "hrt_wait") ∷ Sign LeftParen ∷ Word (codes "hrt_request") ∷ Sign Colon ∷ Word (codes "out")
    ∷ Word (codes "word") ∷ Sign RightParen ∷ Sign Semicolon ∷ [])
    ∷ line 2 (Word (codes "private") ∷ [])
    ∷ line 3 (Word (codes "hrt_value") ∷ Sign Colon ∷ Word (codes "word") ∷ Sign Becomes ∷ Number 0 ∷ Sign Semicolon ∷ [])
    ∷ line 3 (Word (codes "hrt_open") ∷ Sign Colon ∷ Word (codes "boolean") ∷ Sign Becomes ∷ Word (codes "false") ∷ Sign Semicolon ∷ [])
    ∷ end_line 2 (codes "hrt_obcs") ∷ []

entry-text : codes "         entry hrt_wait (hrt_request : out word);\n      private\n         hrt_value : word := 0;\n         hrt_open : boolean := false;\n      end hrt_obcs;\n" ≡ layout entry_lines
unfolding digits entry_lines
entry-text = refl

pub sporadic-head : (priority ceiling : ℕ) (op : Signature) (separation jitter : ℕ) (external : Bool)
    → (codes "      protected hrt_obcs is\n         pragma priority (" ++ (decimal ceiling ++ codes ");\n"))
    ++ (line_text (declaration_line 3 op)
    ++ (codes "         entry hrt_wait (hrt_request : out word);\n      private\n         hrt_value : word := 0;\n         hrt_open : boolean := false;\n      end hrt_obcs;\n"
    ++ (line_text (renaming_line 2 (codes "hrt_obcs") op) ++ (layout (task_lines priority) ++ layout (constant_lines separation jitter external)))))
    ≡ layout (inner_specification (Sporadic priority ceiling op separation jitter external [] End))
unfolding ceiling_lines entry_lines
sporadic-head priority ceiling op separation jitter external =
    let tasks : List Line = task_lines priority in
    let constants : List Line = constant_lines separation jitter external in
    let declared : Line = declaration_line 3 op in
    let renamed : Line = renaming_line 2 (codes "hrt_obcs") op in
    joined-two (ceiling_lines (codes "hrt_obcs") ceiling) (declared ∷ (entry_lines ++ renamed ∷ (tasks ++ constants))) _ _ (object-ceiling ceiling)
    (joined-two (declared ∷ []) (entry_lines ++ renamed ∷ (tasks ++ constants)) _ _ (one-line declared _ refl)
    (joined-two entry_lines (renamed ∷ (tasks ++ constants)) _ _ entry-text
    (joined-two (renamed ∷ []) (tasks ++ constants) _ _ (one-line renamed _ refl) (joined-two tasks constants _ _ refl refl))))

-- the line that keeps the value of a request
kept-text : (ps : List Param) → codes "            hrt_value := " ++ (token_text (kept_token ps) ++ codes ";\n")
    ≡ line_text (line 4 (Word (codes "hrt_value") ∷ Sign Becomes ∷ kept_token ps ∷ Sign Semicolon ∷ []))
kept-text [] = simp append_assoc
kept-text (p ∷ ps) = simp append_assoc

-- what the body of the protected object has behind the request
wait_lines : List Line
wait_lines =
    line 3 (Word (codes "entry") ∷ Word (codes "hrt_wait") ∷ Sign LeftParen ∷ Word (codes "hrt_request") ∷ Sign Colon ∷ Word (codes "out")
    ∷ Word (codes "word") ∷ Sign RightParen ∷ Word (codes "when") ∷ Word (codes "hrt_open") ∷ Word (codes "is") ∷ [])
    ∷ line 3 (Word (codes "begin") ∷ [])
    ∷ line 4 (Word (codes "hrt_request") ∷ Sign Becomes ∷ Word (codes "hrt_value") ∷ Sign Semicolon ∷ [])
    ∷ line 4 (Word (codes "hrt_open") ∷ Sign Becomes ∷ Word (codes "false") ∷ Sign Semicolon ∷ [])
    ∷ end_line 3 (codes "hrt_wait") ∷ end_line 2 (codes "hrt_obcs") ∷ []

wait-text : codes "         entry hrt_wait (hrt_request : out word) when hrt_open is\n         begin\n            hrt_request := hrt_value;\n            hrt_open := false;\n         end hrt_wait;\n      end hrt_obcs;\n" ≡ layout wait_lines
unfolding wait_lines
wait-text = refl

-- the bytes of the request's body in another grouping
object-grouped : (head kept end wait : List ℕ)
    → codes "      protected body hrt_obcs is\n         "
    ++ (head ++ (codes " is\n         begin\n            hrt_value := " ++ (kept ++ (codes ";\n            hrt_open := true;\n" ++ (end ++ wait)))))
    ≡ codes "      protected body hrt_obcs is\n" ++ ((codes "         " ++ (head ++ codes " is\n"))
    ++ (codes "         begin\n" ++ ((codes "            hrt_value := " ++ (kept ++ codes ";\n"))
    ++ (codes "            hrt_open := true;\n" ++ (end ++ wait)))))
object-grouped head kept end wait = simp append_assoc

pub object-text : (op : Signature)
    → codes "      protected body hrt_obcs is\n         "
    ++ (head_text op ++ (codes " is\n         begin\n            hrt_value := "
    ++ (token_text (kept_token op.params) ++ (codes ";\n            hrt_open := true;\n"
    ++ ((codes "         end " ++ (op.name ++ codes ";\n"))
    ++ codes "         entry hrt_wait (hrt_request : out word) when hrt_open is\n         begin\n            hrt_request := hrt_value;\n            hrt_open := false;\n         end hrt_wait;\n      end hrt_obcs;\n")))))
    ≡ layout (object_lines op)
unfolding wait_lines
object-text op =
    let first : Line = line 2 (Word (codes "protected") ∷ Word (codes "body") ∷ Word (codes "hrt_obcs") ∷ Word (codes "is") ∷ []) in
    let head : Line = line 3 (head_tokens op ++ Word (codes "is") ∷ []) in
    let begin : Line = line 3 (Word (codes "begin") ∷ []) in
    let kept : Line = line 4 (Word (codes "hrt_value") ∷ Sign Becomes ∷ kept_token op.params ∷ Sign Semicolon ∷ []) in
    let opened : Line = line 4 (Word (codes "hrt_open") ∷ Sign Becomes ∷ Word (codes "true") ∷ Sign Semicolon ∷ []) in
    let last : Line = end_line 3 op.name in
    object-grouped (head_text op) (token_text (kept_token op.params)) (codes "         end " ++ (op.name ++ codes ";\n"))
    (codes "         entry hrt_wait (hrt_request : out word) when hrt_open is\n         begin\n            hrt_request := hrt_value;\n            hrt_open := false;\n         end hrt_wait;\n      end hrt_obcs;\n")
    ∙ joined-two (first ∷ []) (head ∷ begin ∷ kept ∷ opened ∷ last ∷ wait_lines) _ _ refl
    (joined-two (head ∷ []) (begin ∷ kept ∷ opened ∷ last ∷ wait_lines) _ _ (one-line head _ (is-text 3 op))
    (joined-two (begin ∷ []) (kept ∷ opened ∷ last ∷ wait_lines) _ _ refl
    (joined-two (kept ∷ []) (opened ∷ last ∷ wait_lines) _ _ (one-line kept _ (kept-text op.params))
    (joined-two (opened ∷ []) (last ∷ wait_lines) _ _ refl (joined-two (last ∷ []) wait_lines _ _
    (one-line last _ (end-text 3 op.name)) wait-text)))))

-- the front of the body of its task: the variable in which it gets a request, and how it waits
variable_line : List ℕ → Line
variable_line name = line 3 (Word name ∷ Sign Colon ∷ Word (codes "word") ∷ Sign Becomes ∷ Number 0 ∷ Sign Semicolon ∷ [])

variable-text : (name : List ℕ) → codes "         " ++ (name ++ (codes " : word := " ++ (decimal 0 ++ codes ";\n"))) ≡ line_text (variable_line name)
unfolding variable_line
variable-text name = simp append_assoc

waits_line : List ℕ → Line
waits_line name = line 4 (Word (codes "hrt_obcs") ∷ Sign Dot ∷ Word (codes "hrt_wait") ∷ Sign LeftParen ∷ Word name ∷ Sign RightParen
    ∷ Sign Semicolon ∷ [])

waits-text : (name : List ℕ) → codes "            hrt_obcs.hrt_wait (" ++ (name ++ codes ");\n") ≡ line_text (waits_line name)
unfolding waits_line
waits-text name = simp append_assoc

waiting-grouped : (name zero : List ℕ)
    → codes "      task body hrt_thread is\n         "
    ++ (name ++ ((codes " : word := " ++ (zero ++ codes ";\n      begin\n         loop\n            hrt_obcs.hrt_wait (")) ++ (name ++ codes ");\n")))
    ≡ codes "      task body hrt_thread is\n" ++ ((codes "         " ++ (name ++ (codes " : word := " ++ (zero ++ codes ";\n"))))
    ++ (codes "      begin\n         loop\n" ++ (codes "            hrt_obcs.hrt_wait (" ++ (name ++ codes ");\n"))))
waiting-grouped name zero = simp append_assoc

waiting-name : (name : List ℕ)
    → codes "      task body hrt_thread is\n         "
    ++ (name ++ ((codes " : word := " ++ (decimal 0 ++ codes ";\n      begin\n         loop\n            hrt_obcs.hrt_wait ("))
    ++ (name ++ codes ");\n")))
    ≡ layout (line 2 (Word (codes "task") ∷ Word (codes "body") ∷ Word (codes "hrt_thread") ∷ Word (codes "is") ∷ []) ∷ variable_line name
    ∷ line 2 (Word (codes "begin") ∷ []) ∷ line 3 (Word (codes "loop") ∷ []) ∷ waits_line name ∷ [])
waiting-name name =
    let first : Line = line 2 (Word (codes "task") ∷ Word (codes "body") ∷ Word (codes "hrt_thread") ∷ Word (codes "is") ∷ []) in
    let begins : List Line = line 2 (Word (codes "begin") ∷ []) ∷ line 3 (Word (codes "loop") ∷ []) ∷ [] in
    waiting-grouped name (decimal 0)
    ∙ joined-two (first ∷ []) (variable_line name ∷ (begins ++ waits_line name ∷ [])) _ _ refl
    (joined-two (variable_line name ∷ []) (begins ++ waits_line name ∷ []) _ _ (one-line (variable_line name) _ (variable-text name))
    (joined-two begins (waits_line name ∷ []) _ _ refl (one-line (waits_line name) _ (waits-text name))))

pub waiting-text : (ps : List Param)
    → codes "      task body hrt_thread is\n         "
    ++ (token_text (request_token ps)
    ++ ((codes " : word := " ++ (decimal 0 ++ codes ";\n      begin\n         loop\n            hrt_obcs.hrt_wait ("))
    ++ (token_text (request_token ps) ++ codes ");\n")))
    ≡ layout (waiting_lines ps)
unfolding variable_line waits_line
waiting-text [] = waiting-name (codes "hrt_request")
waiting-text (p ∷ ps) = waiting-name p.name

-- the body of a sporadic unit
pub sporadic-text : (op : Signature) (vars : List Datum) (block : Statements)
    → layout (map (datum_line 2) vars)
    ++ (layout (object_lines op) ++ (layout (waiting_lines op.params)
    ++ (layout (block_lines 4 block) ++ codes "            activation_end;\n         end loop;\n      end hrt_thread;\n")))
    ≡ layout (inner_body (Sporadic 0 0 op 0 0 false vars block))
unfolding loop_last
sporadic-text op vars block =
    joined-two (map (datum_line 2) vars) (object_lines op ++ (waiting_lines op.params ++ (block_lines 4 block ++ loop_last))) _ _ refl
    (joined-two (object_lines op) (waiting_lines op.params ++ (block_lines 4 block ++ loop_last)) _ _ refl
    (joined-two (waiting_lines op.params) (block_lines 4 block ++ loop_last) _ _ refl
    (joined-two (block_lines 4 block) loop_last _ _ refl last-text)))

-- UNITS
specification-first : (name : Name) → codes "   package " ++ (name ++ codes " is\n")
    ≡ line_text (line 1 (Word (codes "package") ∷ Word name ∷ Word (codes "is") ∷ []))
specification-first name = simp append_assoc

body-first : (name : Name) → codes "   package body " ++ (name ++ codes " is\n")
    ≡ line_text (line 1 (Word (codes "package") ∷ Word (codes "body") ∷ Word name ∷ Word (codes "is") ∷ []))
body-first name = simp append_assoc

unit-text : (first last : Line) (x y : List ℕ) (inner : List Line) → x ≡ line_text first → y ≡ line_text last
    → x ++ (layout inner ++ y) ≡ layout (first ∷ (inner ++ last ∷ []))
unit-text first last x y inner e f = joined-two (first ∷ []) (inner ++ last ∷ []) _ _ (one-line first _ e)
    (joined-two inner (last ∷ []) _ _ refl (one-line last _ f))

pub specification-text : (u : Unit) → (codes "   package " ++ (u.name ++ codes " is\n"))
    ++ (layout (inner_specification u.form) ++ (codes "   end " ++ (u.name ++ codes ";\n"))) ≡ layout (specification_lines u)
specification-text u = unit-text (line 1 (Word (codes "package") ∷ Word u.name ∷ Word (codes "is") ∷ [])) (end_line 1 u.name) _ _
    (inner_specification u.form) (specification-first u.name) (end-text 1 u.name)

pub unit_body-text : (u : Unit) → (codes "   package body " ++ (u.name ++ codes " is\n"))
    ++ (layout (inner_body u.form) ++ (codes "   end " ++ (u.name ++ codes ";\n"))) ≡ layout (unit_body_lines u)
unit_body-text u = unit-text (line 1 (Word (codes "package") ∷ Word (codes "body") ∷ Word u.name ∷ Word (codes "is") ∷ [])) (end_line 1 u.name) _ _
    (inner_body u.form) (body-first u.name) (end-text 1 u.name)

-- THE PROGRAM
-- what stands before the specifications
pub package-text : (name : Name) → codes "with hrt;\nuse hrt;\npackage " ++ (name ++ codes " is\n") ≡ layout (package_lines name)
package-text name = simp append_assoc

-- what stands between the specifications and the bodies
pub between-text : (name : Name) → (codes "end " ++ (name ++ codes ";\n")) ++ (codes "package body " ++ (name ++ codes " is\n"))
    ≡ layout (parts.body_lines name)
between-text name = simp append_assoc

-- what stands behind the bodies
pub closing-text : (name : Name)
    → (codes "end " ++ (name ++ codes ";\n")) ++ (codes "with " ++ (name ++ codes ";\nprocedure hrt_main is\nbegin\n   null;\nend hrt_main;\n"))
    ≡ layout (closing_lines name)
closing-text name = simp append_assoc

-- a program by its parts
parts-text : (a b c d e f g : List Line)
    → layout a ++ (layout b ++ (layout c ++ (layout d ++ (layout e ++ (layout f ++ layout g))))) ≡ layout (a ++ (b ++ (c ++ (d ++ (e ++ (f ++ g))))))
parts-text a b c d e f g = sym (simp layout-append)

pub program-text : (p : Program)
    → layout opening_lines ++ (layout (hrt_lines p.costs) ++ (layout (package_lines p.name) ++ (layout (flat_map specification_lines p.units)
    ++ (layout (parts.body_lines p.name) ++ (layout (flat_map unit_body_lines p.units) ++ layout (closing_lines p.name))))))
    ≡ layout (program_lines p)
program-text p =
    parts-text opening_lines (hrt_lines p.costs) (package_lines p.name) (flat_map specification_lines p.units) (parts.body_lines p.name)
    (flat_map unit_body_lines p.units) (closing_lines p.name)
