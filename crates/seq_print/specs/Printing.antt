-- What a printer does with the bytes that it adds to, and the texts of the parts of a line.
-- Bytes are ASCII, as everywhere in this project.
use Rattle.std.specs.Prelude.{◌≡◌, ℕ, List, [], ◌∷◌, ◌++◌, take, codes, flat_map, OnOk, Result, Ok, Err}
use Rattle.seq_tree.specs.Expressions.{Expression}
use Rattle.seq_tree.specs.Layout.{tokens_text}
use Rattle.seq_tree.specs.Spelling.{expression_tokens}
use Rattle.seq_tree.specs.declared.memory.NoMemory.{NoMemory}
use Rattle.seq_tree.specs.declared.tree.Mode.{Mode}
use Rattle.seq_tree.specs.declared.tree.Mode.TheVariants.{In, Out}
use Rattle.seq_tree.specs.declared.tree.Param.{Param}

-- a text is added at the end, and for want of memory nothing is
abbrev pub Prints : Result (Unit {0}) NoMemory → List ℕ → List ℕ → List ℕ → Type 0
Prints (Ok done) before after text = after ≡ before ++ text
Prints (Err e) before after text = after ≡ before

-- some front of a text is added at the end
abbrev pub AddsFront : List ℕ → List ℕ → List ℕ → Type 0
AddsFront before after text = (n : ℕ) × (after ≡ before ++ take n text)

-- a text is added at the end, and for want of memory some front of it is
abbrev pub Adds : Result (Unit {0}) NoMemory → List ℕ → List ℕ → List ℕ → Type 0
Adds (Ok done) before after text = after ≡ before ++ text
Adds (Err e) before after text = AddsFront before after text

-- a text is added at the end, unless memory is wanting
abbrev pub Writes : Result (Unit {0}) NoMemory → List ℕ → List ℕ → List ℕ → Type 0
Writes result before after text = OnOk result (after ≡ before ++ text)

-- an expression
abbrev pub expression_text : Expression → List ℕ
expression_text e = tokens_text (expression_tokens e)

-- further actuals, each behind a comma
abbrev pub more_text : List Expression → List ℕ
more_text es = flat_map (λ e. codes ", " ++ expression_text e) es

-- actuals, behind the name of what is called
abbrev pub actuals_text : List Expression → List ℕ
actuals_text [] = []
actuals_text (e ∷ es) = codes " (" ++ (expression_text e ++ (more_text es ++ codes ")"))

-- what stands behind the name of a parameter
abbrev pub mode_text : Mode → List ℕ
mode_text In = codes " : in word"
mode_text Out = codes " : out word"

-- a parameter
abbrev pub param_text : Param → List ℕ
param_text p = p.name ++ mode_text p.mode

-- further parameters, each behind a semicolon
abbrev pub params_more : List Param → List ℕ
params_more ps = flat_map (λ p. codes "; " ++ param_text p) ps

-- parameters, behind the name of their operation
abbrev pub params_text : List Param → List ℕ
params_text [] = []
params_text (p ∷ ps) = codes " (" ++ (param_text p ++ (params_more ps ++ codes ")"))
