-- The parts of the text of a sporadic unit: its constants, the body of its protected object, and the front of its task's body.
-- The text keeps to ISO/IEC 8652:2012; its form is this project's own.
use Rattle.std.specs.Prelude.{ℕ, Bool, List, [], ◌∷◌, ◌++◌, codes}
use Prim.Native.String.{String}
use Rattle.seq_tree.specs.Operations.{Signature}
use Rattle.seq_tree.specs.Spelling.{Line, line}
use Rattle.seq_tree.specs.declared.token.Token.{Token}
use Rattle.seq_tree.specs.declared.token.Token.TheVariants.{Word, Number, Sign}
use Rattle.seq_tree.specs.declared.token.Mark.TheVariants.{LeftParen, RightParen, Semicolon, Colon, Becomes, Dot}
use Rattle.seq_tree.specs.declared.tree.Param.{Param}
use Rattle.ada_tree.specs.Spelling.{constant_line, end_line, head_tokens, kept_token, request_token, truth_token}

-- a word
abbrev w : String → Token
w s = Word (codes s)

-- the constant that says whether requests come from outside
abbrev pub external_line : Bool → Line
external_line external = line 2 (w "hrt_external" ∷ Sign Colon ∷ w "constant" ∷ w "boolean" ∷ Sign Becomes ∷ truth_token external
    ∷ Sign Semicolon ∷ [])

-- the constants that its specification ends with
abbrev pub constant_lines : ℕ → ℕ → Bool → List Line
constant_lines separation jitter external =
    constant_line 2 (codes "hrt_separation") separation ∷ constant_line 2 (codes "hrt_jitter") jitter ∷ external_line external ∷ []

-- the body of its protected object
abbrev pub object_lines : Signature → List Line
object_lines op =
    line 2 (w "protected" ∷ w "body" ∷ w "hrt_obcs" ∷ w "is" ∷ [])
    ∷ line 3 (head_tokens op ++ w "is" ∷ []) ∷ line 3 (w "begin" ∷ [])
    ∷ line 4 (w "hrt_value" ∷ Sign Becomes ∷ kept_token op.params ∷ Sign Semicolon ∷ [])
    ∷ line 4 (w "hrt_open" ∷ Sign Becomes ∷ w "true" ∷ Sign Semicolon ∷ [])
    ∷ end_line 3 op.name
    ∷ line 3 (w "entry" ∷ w "hrt_wait" ∷ Sign LeftParen ∷ w "hrt_request" ∷ Sign Colon ∷ w "out" ∷ w "word" ∷ Sign RightParen ∷ w "when"
    ∷ w "hrt_open" ∷ w "is" ∷ [])
    ∷ line 3 (w "begin" ∷ [])
    ∷ line 4 (w "hrt_request" ∷ Sign Becomes ∷ w "hrt_value" ∷ Sign Semicolon ∷ [])
    ∷ line 4 (w "hrt_open" ∷ Sign Becomes ∷ w "false" ∷ Sign Semicolon ∷ [])
    ∷ end_line 3 (codes "hrt_wait") ∷ end_line 2 (codes "hrt_obcs") ∷ []

-- the body of its task, before the statements
abbrev pub waiting_lines : List Param → List Line
waiting_lines params =
    line 2 (w "task" ∷ w "body" ∷ w "hrt_thread" ∷ w "is" ∷ [])
    ∷ line 3 (request_token params ∷ Sign Colon ∷ w "word" ∷ Sign Becomes ∷ Number 0 ∷ Sign Semicolon ∷ [])
    ∷ line 2 (w "begin" ∷ []) ∷ line 3 (w "loop" ∷ [])
    ∷ line 4 (w "hrt_obcs" ∷ Sign Dot ∷ w "hrt_wait" ∷ Sign LeftParen ∷ request_token params ∷ Sign RightParen ∷ Sign Semicolon ∷ []) ∷ []
