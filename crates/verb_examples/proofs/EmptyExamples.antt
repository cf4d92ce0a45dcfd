-- Examples: what each verb makes of files without a byte, which is nothing, and why; and of a design that is one byte that begins no token.
use Rattle.std.specs.Prelude.{◌≡◌, ℕ, List, [], ◌∷◌, Option, None, Some, Result, Ok, Err, codes, refl}
use Rattle.std.specs.Fmt.{digits}
use Rattle.std.proofs.Common.{arith, ap, sym, lit≤, inl, ◌∙◌}
use Rattle.grammar.specs.Reading.{Syntax, whole_at}
use Rattle.seq_tree.specs.Names.{Name}
use Rattle.seq_tree.specs.Lexis.{tokens, tokens_after, front_by, start_of, name_front, number_front, longest, plain, Misread, Stray}
use Rattle.seq_tree.specs.Marks.{mark_of}
use Rattle.seq_tree.specs.declared.token.Place.{Place}
use Rattle.seq_tree.specs.declared.token.Token.{Token}
use Rattle.seq_tree.specs.declared.tree.Costs.{Costs}
use Rattle.seq_tree.specs.declared.text_fault.TextFault.TheVariants as fault
use Rattle.token_read.specs.Readers.{fixed_at}
use Rattle.ods_tree.specs.Designs.{Design, Tree}
use Rattle.ods_tree.specs.declared.design.VersionTwo.{VersionTwo}
use Rattle.ods_tree.specs.Reading.{Reads}
use Rattle.ods_tree.specs.Spelling.{design_tokens}
use Rattle.ods_read.specs.DesignReaders.{design_at, design_with}
use Rattle.ods_read.specs.Answers.{Faults}
use Rattle.ods_read.proofs.Shared.ReadingLaws.{faulty-at}
use Rattle.design_rules.specs.Broken.{Broken}
use Rattle.rt_response.specs.declared.rows.Miss.{Miss}
use Rattle.ada_tree.specs.Programs.{Program}
use Rattle.ada_tree.specs.Reading as programs
use Rattle.ada_tree.specs.Spelling.{program_tokens}
use Rattle.ada_read.specs.Answers.{Breaks}
use Rattle.ada_rules.specs.declared.verdict.AdaRule.{AdaRule}
use Rattle.arrivals_tree.specs.Arrived.{Arrives, horizon_limit}
use Rattle.arrivals_tree.specs.Arriving.{Arrivals}
use Rattle.arrivals_tree.specs.ArrivalTexts.{arrival_tokens}
use Rattle.hood_io.specs.Shelves.{Entry, Told}
use Rattle.bridge.specs.Delivers.{HasLongText, HasNoBounds, IsTextFor}
use Rattle.bridge.specs.Taking.{BreaksRule}
use Rattle.bridge.specs.declared.taking.Untaken.TheVariants as check
use Rattle.hrthood_top.specs.declared.format.FormatRefusal.TheVariants as format
use Rattle.hrthood_top.specs.declared.generate.GenerateRefusal.TheVariants as generate
use Rattle.hrthood_top.specs.declared.verify.VerifyRefusal.TheVariants as verify
use Rattle.hrthood_top.specs.declared.status.Status.TheVariants.{Refused}
use Rattle.hrthood_top.specs.Analyses.{analyses}
use Rattle.hrthood_top.specs.Checks.{checks}
use Rattle.hrthood_top.specs.Ends.{EndsVerb, Outside, Refusal}
use Rattle.hrthood_top.specs.Files.{Texts, fetched}
use Rattle.hrthood_top.specs.Formats.{formats}
use Rattle.hrthood_top.specs.Generates.{generates}
use Rattle.hrthood_top.specs.Replays.{replays}
use Rattle.hrthood_top.specs.RightTraces.{IsRightTrace}
use Rattle.hrthood_top.specs.Verifies.{verifies}

-- the first place of a text
abbrev start : Place
start = record { line = 1; column = 1 }

-- files without a byte, and with this one
abbrev pub empty : Texts
empty kind = []

abbrev strange : Texts
strange kind = codes "?"

-- NOTHING IS READ
no_tokens : tokens [] ≡ Ok []
unfolding tokens tokens_after
no_tokens = refl

nothing_plain : plain (tokens []) ≡ Ok []
unfolding tokens tokens_after
nothing_plain = refl

-- none and some, by a number
abbrev token_count : Result (List Token) Misread → ℕ
token_count (Ok []) = 0
token_count (Ok (t ∷ ts)) = 1
token_count (Err misread) = 2

without_tokens : (name : Name) (version : Option VersionTwo) (costs : Costs) (root : Tree)
    → plain (tokens []) ≡ Ok (design_tokens (record { name = name; version = version; costs = costs; root = root })) → ⊥
without_tokens name None costs root spelled = (let e : 0 ≡ 1 = ap token_count (sym nothing_plain ∙ spelled) in omega (arith, e))
without_tokens name (Some version) costs root spelled = (let e : 0 ≡ 1 = ap token_count (sym nothing_plain ∙ spelled) in omega (arith, e))

pub no_design : (x : Design) → Reads [] x → ⊥
no_design x h = without_tokens x.name x.version x.costs x.root h.spelled

no_program : (p : Program) → programs.Reads [] p → ⊥
no_program p h = (let e : Ok [] ≡ Ok (program_tokens p) = sym nothing_plain ∙ h.spelled in cc)

no_arrivals : (p : Program) (a : Arrivals) → Arrives horizon_limit [] p a → ⊥
no_arrivals p a h = (let e : Ok [] ≡ Ok (arrival_tokens h.tree) = sym nothing_plain ∙ h.spelled in cc)

-- NOTHING IS MADE
module _ (made : List ℕ) where
  not_taken : (checks (codes "d")).Makes empty made → ⊥
  not_taken h = no_design h.design h.reads

  not_analysed : (analyses (codes "d")).Makes empty made → ⊥
  not_analysed h = no_design h.made.design h.made.reads

  not_formatted : (formats (codes "d")).Makes empty made → ⊥
  not_formatted h = no_design h.design h.reads

  not_generated : (generates (codes "d")).Makes empty made → ⊥
  not_generated h = no_design h.design h.reads

  not_replayed : (replays (codes "a") (codes "r")).Makes empty made → ⊥
  not_replayed h = no_program h.traces.program h.traces.says.accepts.reads

  not_verified : (verifies (codes "d") (codes "r")).Makes empty made → ⊥
  not_verified h = no_design h.made.design h.made.reads

  -- a design and arrivals without a byte have no right trace, whatever the Ada text
  of_no_design : (text arrivals : List ℕ) → IsRightTrace [] text arrivals made → ⊥
  of_no_design text arrivals h = no_design h.of h.reads

  of_no_program : (design arrivals : List ℕ) → IsRightTrace design [] arrivals made → ⊥
  of_no_program design arrivals h = no_program h.program h.accepts.reads

  of_no_arrivals : (design text : List ℕ) → IsRightTrace design text [] made → ⊥
  of_no_arrivals design text h = no_arrivals h.program h.under h.arrives

-- NOTHING CAN BE DONE
cannot_check : (checks (codes "d")).CanDo empty → ⊥
cannot_check h = no_design h.design h.reads

cannot_format : (formats (codes "d")).CanDo empty → ⊥
cannot_format h = no_design h.0 h.1

cannot_generate : (generates (codes "d")).CanDo empty → ⊥
cannot_generate h = no_design h.design h.reads

cannot_replay : (replays (codes "a") (codes "r")).CanDo empty → ⊥
cannot_replay h = no_program h.program h.accepts.reads

cannot_verify : (verifies (codes "d") (codes "r")).CanDo empty → ⊥
cannot_verify h = no_design h.can.design h.can.reads

-- WHY: the text goes on with no design at its beginning
nothing_read : whole_at design_at [] ≡ Err (Syntax 0)
unfolding design_with fixed_at
nothing_read = refl

syntax : Faults [] (fault.Syntax start)
syntax = faulty-at [] [] 0 start (lit≤ tt) no_tokens nothing_read refl

check_refuses : (checks (codes "d")).Refuses empty (check.Text (fault.Syntax start))
check_refuses = syntax

analyse_refuses : (analyses (codes "d")).Refuses empty (generate.Untaken (check.Text (fault.Syntax start)))
analyse_refuses = syntax

format_refuses : (formats (codes "d")).Refuses empty (format.Text (fault.Syntax start))
format_refuses = syntax

generate_refuses : (generates (codes "d")).Refuses empty (generate.Untaken (check.Text (fault.Syntax start)))
generate_refuses = syntax

verify_refuses : (verifies (codes "d") (codes "r")).Refuses empty (verify.Design (generate.Untaken (check.Text (fault.Syntax start))))
verify_refuses = syntax

-- and not for a byte, nor for a rule, its bounds or its length
no_stray : (checks (codes "d")).Refuses empty (check.Text (fault.Byte start)) → ⊥
no_stray h = (let e : Ok [] ≡ Err (Stray start) = sym no_tokens ∙ h.1 in cc)

no_rule : (told : Option Broken) → BreaksRule [] told → ⊥
no_rule told h = no_design h.design h.reads

no_bounds : (thread : Name) (m : Miss) → HasNoBounds [] thread m → ⊥
no_bounds thread m h = no_design h.design h.reads

not_long : HasLongText [] → ⊥
not_long h = no_design h.design h.reads

no_text : (text : List ℕ) → IsTextFor [] text → ⊥
no_text text h = no_design h.design h.reads

no_broken_program : (rule : AdaRule) (unit : Option Name) → Breaks [] rule unit → ⊥
no_broken_program rule unit h = no_program h.program h.reads

-- a byte that begins no token is told as such
stray : (checks (codes "d")).Refuses strange (check.Text (fault.Byte start))
unfolding tokens tokens_after front_by start_of name_front number_front longest mark_of
stray = (lit≤ tt, refl)

-- HOW THE COMMAND ENDS: the line is told, nothing is written, and the file was fetched
abbrev shelf : List Entry → Told
shelf log = record { files = λ name. Some []; log = log }

abbrev before : Outside
before = record { told = Some (shelf []); read_faults = 0; out = Some (codes "o"); write_faults = 0; err = Some []; tell_faults = 0 }

abbrev after : List ℕ → Outside
after line = record before { told = Some (shelf (fetched (checks (codes "d")).files)); err = Some line }

ends : EndsVerb Refused (checks (codes "d")) before (after (codes "refused S1 design line 1 column 1\n"))
unfolding digits
ends = (Refusal (check.Text (fault.Syntax start)), (empty, ((refl, lit≤ tt), tt), syntax), refl, refl, inl refl)
