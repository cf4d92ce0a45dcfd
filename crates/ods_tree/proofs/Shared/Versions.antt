-- Designs of version 2: how they are written, and what they are in ticks.
use Rattle.std.specs.Prelude.{◌≡◌, ℕ, true, List, [], ◌∷◌, ◌++◌, map, flat_map, Option, Some, None, Ok, codes, decimal, refl}
use Rattle.std.proofs.Common.{lit≤}
use Rattle.seq_tree.specs.Statements.{Work}
use Rattle.seq_tree.specs.Proper.{within_limits}
use Rattle.seq_tree.specs.Lexis.{tokens, plain, tokens_after, front_by, start_of, name_front, number_front, longest}
use Rattle.seq_tree.specs.Marks.{mark_of}
use Rattle.seq_tree.specs.declared.token.Token.{Token}
use Rattle.ods_tree.specs.Designs.{Tree, Design}
use Rattle.ods_tree.specs.Spelling.{DesignLine, part_token, head_lines, attribute_line, unit_parts}
use Rattle.ods_tree.specs.Layout.{parts_text}
use Rattle.ods_tree.specs.Words.{is_design_name}
use Rattle.ods_tree.specs.Reading.{Reads}
use Rattle.ods_tree.specs.Ticks.{tick_time, count_in_ticks, in_ticks, first_priority}
use Rattle.ods_tree.specs.Proper.{IsProperDesign}
use Rattle.ods_tree.specs.declared.design.Attr.{Attr}
use Rattle.ods_tree.specs.declared.design.AttrKey.{AttrKey}
use Rattle.ods_tree.specs.declared.design.AttrKey.TheVariants.{Period, Deadline, ThreadBudget}
use Rattle.ods_tree.specs.declared.design.TickUnit.{TickUnit}
use Rattle.ods_tree.specs.declared.design.TickUnit.TheVariants.{Us, Ms, S}
use Rattle.ods_tree.specs.declared.design.VersionTwo.{VersionTwo}
use Rattle.ods_tree.proofs.Shared.Short.{row_costs, attr, cyc, cyc_with, group}

abbrev pub version : ℕ → TickUnit → Option (ℕ × ℕ) → Option VersionTwo
version tick unit priorities = Some (record { tick = tick; unit = unit; priorities = priorities })

abbrev pub timed : AttrKey → ℕ → TickUnit → Attr
timed key n unit = record { key = key; value = n; unit = Some unit }

-- a design of version 2
abbrev pub design_of_two : Option VersionTwo → Tree → Design
design_of_two v t = record { name = codes "d"; version = v; costs = row_costs; root = t }

-- one cyclic object with a period and deadline in milliseconds
abbrev pub millisecond_object : ℕ → Tree
millisecond_object n = cyc_with (codes "a") (timed Period n Ms ∷ timed Deadline n Ms ∷ attr ThreadBudget 1000 ∷ []) [] (Work 3 ∷ [])

-- the whole text of such a design, as it is read and as it is printed
abbrev five_milliseconds : Design
five_milliseconds = design_of_two (version 500 Us (Some (31, 60))) (millisecond_object 5)

proper : IsProperDesign (within_limits is_design_name) five_milliseconds
unfolding is_design_name
proper = (
  refl,
  (
    record {
      nests = refl;
      name = refl;
      attrs = (tt, (tt, (tt, tt)));
      provides = tt;
      needs = tt;
      vars = tt;
      bodies = tt;
      thread = (tt, tt);
      links = tt;
    },
    tt,
  ),
)

read : Reads (codes "design d version 2 is tick = 500 US; priorities 31 .. 60; COSTS ASSIGN = 1; TEST = 1; TURN = 1; CALL = 2; NULL = 1; PUT = 1; FINISH = 1; END COSTS; OBJECT a IS CYCLIC ATTRIBUTES PERIOD = 5 ms; DEADLINE = 5 ms; THREAD_BUDGET = 1000; THREAD work (3); END THREAD; END a; END d;") five_milliseconds
unfolding tokens tokens_after front_by start_of name_front number_front longest mark_of
read = record { within = lit≤ tt; proper = proper; spelled = refl }

printed : map (λ l. parts_text l.parts) (head_lines (codes "d") (version 500 Us (Some (31, 60))))
    ≡ (codes "DESIGN d VERSION " ++ (decimal 2 ++ codes " IS")) ∷ (codes "TICK = " ++ (decimal 500 ++ codes " us;"))
    ∷ (codes "PRIORITIES " ++ (decimal 31 ++ (codes " .. " ++ (decimal 60 ++ codes ";")))) ∷ []
printed = refl

printed_one_deeper : map (λ l. l.level) (head_lines (codes "d") (version 500 Us (Some (31, 60)))) ≡ 0 ∷ 1 ∷ 1 ∷ []
printed_one_deeper = refl

attribute_printed : parts_text (attribute_line 3 (timed Period 5 Ms)).parts ≡ codes "PERIOD = " ++ (decimal 5 ++ codes " ms;")
attribute_printed = refl

abbrev tokens_of_lines : List DesignLine → List Token
tokens_of_lines lines = flat_map (λ l. map part_token l.parts) lines

head_spelled : Ok (tokens_of_lines (head_lines (codes "d") (version 500 Us (Some (31, 60)))))
    ≡ plain (tokens (codes "DESIGN d VERSION 2 IS TICK = 500 us; PRIORITIES 31 .. 60;"))
unfolding tokens tokens_after front_by start_of name_front number_front longest mark_of
head_spelled = refl

short_head_spelled : Ok (tokens_of_lines (head_lines (codes "d") (version 1 S None))) ≡ plain (tokens (codes "DESIGN d VERSION 2 IS TICK = 1 s;"))
unfolding tokens tokens_after front_by start_of name_front number_front longest mark_of
short_head_spelled = refl

old_head_spelled : Ok (tokens_of_lines (head_lines (codes "d") None)) ≡ plain (tokens (codes "DESIGN d IS"))
unfolding tokens tokens_after front_by start_of name_front number_front longest mark_of
old_head_spelled = refl

attributes_spelled : Ok (tokens_of_lines (attribute_line 3 (timed Period 5 Ms) ∷ attribute_line 3 (attr Deadline 10) ∷ []))
    ≡ plain (tokens (codes "PERIOD = 5 ms; DEADLINE = 10;"))
unfolding tokens tokens_after front_by start_of name_front number_front longest mark_of
attributes_spelled = refl

-- units are printed in lower case
units_printed : map (λ u. parts_text (unit_parts (Some u))) (Us ∷ Ms ∷ S ∷ []) ≡ codes "us" ∷ codes "ms" ∷ codes "s" ∷ []
units_printed = refl

-- a group of such objects; units stand in version 2 alone, at every depth
abbrev inside : Option VersionTwo → Design
inside v = design_of_two v (group (codes "r") (group (codes "g") (millisecond_object 5 ∷ []) ∷ cyc (codes "b") 10 10 (Work 3 ∷ []) ∷ []))

proper_inside : IsProperDesign (within_limits is_design_name) (inside (version 500 Us None))
unfolding is_design_name
proper_inside = (
  refl,
  (
    record { nests = refl; name = refl; attrs = tt; provides = tt; needs = tt; vars = tt; bodies = tt; thread = tt; links = tt },
    (
      (
        record { nests = refl; name = refl; attrs = tt; provides = tt; needs = tt; vars = tt; bodies = tt; thread = tt; links = tt },
        (
          (
            record {
              nests = refl;
              name = refl;
              attrs = (tt, (tt, (tt, tt)));
              provides = tt;
              needs = tt;
              vars = tt;
              bodies = tt;
              thread = (tt, tt);
              links = tt;
            },
            tt,
          ),
          tt,
        ),
      ),
      (
        (
          record {
            nests = refl;
            name = refl;
            attrs = (tt, (tt, (tt, tt)));
            provides = tt;
            needs = tt;
            vars = tt;
            bodies = tt;
            thread = (tt, tt);
            links = tt;
          },
          tt,
        ),
        tt,
      ),
    ),
  ),
)

improper_inside : IsProperDesign (within_limits is_design_name) (inside None) → ⊥
improper_inside (name, (own, ((g, ((a, none), more)), others))) = (let first : Some Ms ≡ None = a.attrs.0 in cc)

-- words of the head and units are names elsewhere
still_names : map is_design_name (codes "version" ∷ codes "tick" ∷ codes "priorities" ∷ codes "us" ∷ codes "ms" ∷ codes "s" ∷ [])
    ≡ true ∷ true ∷ true ∷ true ∷ true ∷ true ∷ []
unfolding is_design_name
still_names = refl

-- five milliseconds are ten ticks of 500 microseconds; a budget without a unit counts ticks already
in_ticks_of_500 : in_ticks five_milliseconds ≡ design_of_two (version 500 Us (Some (31, 60))) (cyc (codes "a") 10 10 (Work 3 ∷ []))
in_ticks_of_500 = refl

-- units of every size, at every depth; other numbers, costs and `work` stay
in_ticks_inside : in_ticks (inside (version 500 Us None))
    ≡ design_of_two (version 500 Us None) (group (codes "r") (group (codes "g") (cyc (codes "a") 10 10 (Work 3 ∷ []) ∷ [])
    ∷ cyc (codes "b") 10 10 (Work 3 ∷ []) ∷ []))
in_ticks_inside = refl

in_ticks_by_unit : map (λ u. count_in_ticks (tick_time (record { tick = 2; unit = Ms; priorities = None })) 6000 u)
    (None ∷ Some Us ∷ Some Ms ∷ Some S ∷ [])
    ≡ 6000 ∷ 3 ∷ 3000 ∷ 3000000 ∷ []
in_ticks_by_unit = refl

-- a design without a version is one in ticks
in_ticks_without : in_ticks (inside None) ≡ inside None
in_ticks_without = refl

first_of_31 : first_priority five_milliseconds ≡ 31
first_of_31 = refl

first_of_none : map (λ v. first_priority (design_of_two v (millisecond_object 5))) (version 500 Us None ∷ None ∷ []) ≡ 1 ∷ 1 ∷ []
first_of_none = refl
