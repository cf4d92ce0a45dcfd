-- Examples: the texts of expressions and actuals, and what is and isn't written.
use Rattle.std.proofs.Common.{◌≡◌, [], ◌∷◌, ap, codes, drop, refl, Ok}
use Rattle.seq_tree.specs.Expressions.{Variable, Paren, Not, Binary}
use Rattle.seq_tree.specs.declared.tree.BinOp.TheVariants.{Add, Mod, And, Ge}
use Rattle.seq_tree.specs.Layout.{layout}
use Rattle.seq_tree.specs.Spelling.{block_lines}
use Rattle.seq_tree.specs.Statements.{Null, If, Call, End, Then, Else, When}
use Rattle.seq_tree.specs.declared.tree.Mode.TheVariants.{In, Out}
use Rattle.seq_tree.specs.declared.tree.Param.{Param}
use Rattle.seq_print.specs.Printing.{Writes, actuals_text, expression_text, more_text, params_more, params_text}

-- `(a + b) mod c`, and `a and not b`
grouped : expression_text (Binary Mod (Paren (Binary Add (Variable (codes "a")) (Variable (codes "b")))) (Variable (codes "c")))
    ≡ codes "(a + b) mod c"
grouped = refl

negated : expression_text (Binary And (Variable (codes "a")) (Not (Variable (codes "b")))) ≡ codes "a and not b"
negated = refl

-- with no space behind `not` it is another text
joined : expression_text (Not (Variable (codes "b"))) ≡ codes "notb" → ⊥
joined e = cc

-- actuals, of which the first stands behind a parenthesis and the others behind a comma and a space
both_actuals : actuals_text (Variable (codes "x") ∷ Variable (codes "y") ∷ []) ≡ codes " (x, y)"
both_actuals = refl

no_actuals : actuals_text [] ≡ []
no_actuals = refl

further : more_text (Variable (codes "x") ∷ []) ≡ codes ", x"
further = refl

close : more_text (Variable (codes "x") ∷ []) ≡ codes ",x" → ⊥
close e = cc

-- what is written, and what isn't
written : Writes (Ok tt) (codes "a") (codes "ab") (codes "b")
written = refl

lost : Writes (Ok tt) (codes "a") (codes "b") (codes "b") → ⊥
lost e = cc

-- a block
nested : layout (block_lines 1
    (Then (If (When (Binary Ge (Variable (codes "x")) (Variable (codes "y"))) (Then (Call (codes "o") (codes "p") (Variable (codes "x") ∷ [])) End)
    (Else (Then Null End)))) End))
    ≡ codes "   if x >= y then\n      o.p (x);\n   else\n      null;\n   end if;\n"
nested = refl

-- a parameter that hands a value in, and one that hands it out
abbrev v : Param
v = record { name = codes "v"; mode = In }

abbrev r : Param
r = record { name = codes "r"; mode = Out }

-- parameters: behind semicolons, not commas
two_params : params_text (v ∷ r ∷ []) ≡ codes " (v : in word; r : out word)"
two_params = refl

comma : codes "; r : out word)" ≡ codes ", r : out word)" → ⊥
comma e = cc

commas : params_text (v ∷ r ∷ []) ≡ codes " (v : in word, r : out word)" → ⊥
commas e = comma (ap (drop 13) e)

no_params : params_text [] ≡ []
no_params = refl

further_param : params_more (r ∷ []) ≡ codes "; r : out word"
further_param = refl
