-- Examples: the whole text of a design of one object, of version 1 and of version 2, and the texts of parts.
use Rattle.std.specs.Prelude.{◌≡◌, ℕ, true, false, [], ◌∷◌, Some, None, codes, refl}
use Rattle.std.specs.Fmt.{digits}
use Rattle.seq_tree.specs.Statements.{Work}
use Rattle.ods_tree.specs.Designs.{Design}
use Rattle.ods_tree.specs.Layout.{design_text}
use Rattle.ods_tree.specs.Spelling.{constraint_parts, unit_parts}
use Rattle.ods_tree.specs.declared.design.AttrKey.TheVariants.{Period, Deadline, ThreadBudget}
use Rattle.ods_tree.specs.declared.design.Constraint.TheVariants.{Paer}
use Rattle.ods_tree.specs.declared.design.Kind.TheVariants.{Cyclic}
use Rattle.ods_tree.specs.declared.design.TickUnit.TheVariants.{Us, Ms}
use Rattle.ods_tree.proofs.Shared.Short.{row_costs, attr, cyc_with}
use Rattle.ods_print.specs.Writable.{is_writable}
use Rattle.ods_print.specs.Parts.{behind, heading, lines_text, object_line}

-- one cyclic object, in a design of version 1
abbrev one : Design
one = record {
  name = codes "d";
  version = None;
  costs = row_costs;
  root = cyc_with (codes "a") (attr Period 10 ∷ attr Deadline 10 ∷ attr ThreadBudget 1000 ∷ []) [] (Work 3 ∷ []);
}

-- and in one of version 2, with a unit
abbrev two : Design
two = record {
  name = codes "d";
  version = Some (record { tick = 500; unit = Us; priorities = Some (31, 60) });
  costs = row_costs;
  root = cyc_with (codes "a") (record { key = Period; value = 5; unit = Some Ms } ∷ attr ThreadBudget 1000 ∷ []) [] (Work 3 ∷ []);
}

-- a section, its absence, and its word in lower case
words : heading {A = ℕ} 1 (codes "DATA") (0 ∷ []) ≡ codes "   DATA\n"
words = refl

no_words : heading {A = ℕ} 1 (codes "DATA") [] ≡ []
no_words = refl

-- a constraint in capitals, and a unit in lower case
constraint : behind (constraint_parts (Some Paer)) ≡ codes " PAER"
constraint = refl

unit : behind (unit_parts (Some Us)) ≡ codes " us"
unit = refl

unit_without_space : behind (unit_parts (Some Us)) ≡ codes "us" → ⊥
unit_without_space e = cc

-- the line that an object begins with
begun : lines_text (object_line 1 (codes "a") Cyclic ∷ []) ≡ codes "   OBJECT a IS CYCLIC\n"
begun = refl

-- the whole texts
whole_one : design_text one ≡ codes
    "DESIGN d IS\n   COSTS\n      ASSIGN = 1;\n      TEST = 1;\n      TURN = 1;\n      CALL = 2;\n      NULL = 1;\n      PUT = 1;\n      FINISH = 1;\n   END COSTS;\n   OBJECT a IS CYCLIC\n      ATTRIBUTES\n         PERIOD = 10;\n         DEADLINE = 10;\n         THREAD_BUDGET = 1000;\n      THREAD\n         work (3);\n      END THREAD;\n   END a;\nEND d;\n"
unfolding digits
whole_one = refl

whole_two : design_text two ≡ codes
    "DESIGN d VERSION 2 IS\n   TICK = 500 us;\n   PRIORITIES 31 .. 60;\n   COSTS\n      ASSIGN = 1;\n      TEST = 1;\n      TURN = 1;\n      CALL = 2;\n      NULL = 1;\n      PUT = 1;\n      FINISH = 1;\n   END COSTS;\n   OBJECT a IS CYCLIC\n      ATTRIBUTES\n         PERIOD = 5 ms;\n         THREAD_BUDGET = 1000;\n      THREAD\n         work (3);\n      END THREAD;\n   END a;\nEND d;\n"
unfolding digits
whole_two = refl

-- a design whose names can be read, and one with a capital in its name
writable : is_writable one ≡ true
writable = refl

unwritable : is_writable (record { name = codes "D"; version = None; costs = row_costs; root = cyc_with (codes "a") [] [] [] }) ≡ false
unwritable = refl
