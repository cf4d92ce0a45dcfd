-- The parts of a program's text that don't depend on what its units are, and the texts of parts of a line.
-- The text keeps to ISO/IEC 8652:2012; its form is this project's own.
use Rattle.std.specs.Prelude.{ℕ, List, [], ◌∷◌, ◌++◌, codes, flat_map}
use Prim.Native.String.{String}
use Rattle.seq_tree.specs.Names.{Name}
use Rattle.seq_tree.specs.Operations.{Signature}
use Rattle.seq_tree.specs.Spelling.{Line, line}
use Rattle.seq_tree.specs.declared.token.Token.{Token}
use Rattle.seq_tree.specs.declared.token.Token.TheVariants.{Word, Sign}
use Rattle.seq_tree.specs.declared.token.Mark.TheVariants.{LeftParen, RightParen, Semicolon, Dot}
use Rattle.ada_tree.specs.Spelling.{end_line}
use Rattle.seq_print.specs.Printing.{params_text}

-- a word
abbrev w : String → Token
w s = Word (codes s)

-- a semicolon
abbrev semicolon : Token
semicolon = Sign Semicolon

-- what stands before package `hrt`
abbrev pub opening_lines : List Line
opening_lines =
    line 0 (w "pragma" ∷ w "task_dispatching_policy" ∷ Sign LeftParen ∷ w "fifo_within_priorities" ∷ Sign RightParen ∷ semicolon ∷ [])
    ∷ line 0 (w "pragma" ∷ w "locking_policy" ∷ Sign LeftParen ∷ w "ceiling_locking" ∷ Sign RightParen ∷ semicolon ∷ [])
    ∷ line 0 (w "with" ∷ w "ada" ∷ Sign Dot ∷ w "real_time" ∷ semicolon ∷ []) ∷ []

-- what stands between package `hrt` and the specifications of the units
abbrev pub package_lines : Name → List Line
package_lines name =
    line 0 (w "with" ∷ w "hrt" ∷ semicolon ∷ []) ∷ line 0 (w "use" ∷ w "hrt" ∷ semicolon ∷ []) ∷ line 0 (w "package" ∷ Word name ∷ w "is" ∷ []) ∷ []

-- what stands between the specifications of the units and their bodies
abbrev pub body_lines : Name → List Line
body_lines name = end_line 0 name ∷ line 0 (w "package" ∷ w "body" ∷ Word name ∷ w "is" ∷ []) ∷ []

-- what stands behind the bodies of the units
abbrev pub closing_lines : Name → List Line
closing_lines name =
    end_line 0 name ∷ line 0 (w "with" ∷ Word name ∷ semicolon ∷ []) ∷ line 0 (w "procedure" ∷ w "hrt_main" ∷ w "is" ∷ []) ∷ line 0 (w "begin" ∷ [])
    ∷ line 1 (w "null" ∷ semicolon ∷ []) ∷ end_line 0 (codes "hrt_main") ∷ []

-- the head of a procedure
abbrev pub head_text : Signature → List ℕ
head_text sig = codes "procedure " ++ (sig.name ++ params_text sig.params)
