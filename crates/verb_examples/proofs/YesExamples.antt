-- Examples: how a run of `accepts` ends for a trace that it takes, and what a verified trace is. Each definition holds of all its parts, and
-- without one of them it doesn't.
use Rattle.std.specs.Prelude.{◌≡◌, ℕ, ◌≤◌, List, [], ◌∷◌, ◌++◌, length, codes, Option, Some, refl}
use Rattle.std.specs.Fmt.{digits}
use Rattle.std.proofs.Common.{arith, lit≤, ap}
use Rattle.ada_tree.specs.Programs.{Program}
use Rattle.hood_io.specs.Shelves.{Told}
use Rattle.trace_tree.specs.Lines.{lines}
use Rattle.trace_tree.specs.declared.event.Event.{Event}
use Rattle.hrthood_top.specs.declared.file_kind.FileKind.TheVariants.{Trace}
use Rattle.hrthood_top.specs.declared.status.Status.{Status}
use Rattle.hrthood_top.specs.declared.status.Status.TheVariants.{Done, Refused, Usage, ReadFault, WriteFault, NoMemory}
use Rattle.hrthood_words.specs.Words.{Accepts, command_of}
use Rattle.hrthood_top.specs.Acceptances.{yes_line}
use Rattle.hrthood_top.specs.Ends.{Outside, Ends}
use Rattle.hrthood_top.specs.Files.{limit_of}
use Rattle.hrthood_top.specs.TwoRuns.{EndsWithYes, IsAcceptedBy, IsVerifiedTrace}
use Rattle.hrthood_top.specs.Verifies.{trace_mark}
use Rattle.verb_examples.proofs.EndExamples.{start, shelf, bare}

-- HOW IT ENDS
done : EndsWithYes Done 3 start (record start { out = Some (codes "oyes lines 3\n") })
unfolding digits
done = refl

-- of so many lines, and not of others; behind what stood there
done_with_others : EndsWithYes Done 3 start (record start { out = Some (codes "oyes lines 30\n") }) → ⊥
unfolding digits
done_with_others h = omega (arith, ap length (same h))
  where
    same : {a b : List ℕ} → ◌≡◌ {A = Option (List ℕ)} (Some a) (Some b) → a ≡ b
    same e = cc

done_alone : EndsWithYes Done 3 start (record start { out = Some (codes "yes lines 3\n") }) → ⊥
unfolding digits
done_alone h = omega (arith, ap length (same h))
  where
    same : {a b : List ℕ} → ◌≡◌ {A = Option (List ℕ)} (Some a) (Some b) → a ≡ b
    same e = cc

-- a fault of reading or of writing that is counted
read_fault : EndsWithYes ReadFault 3 start (record start { read_faults = 1 })
read_fault = lit≤ tt

read_well : EndsWithYes ReadFault 3 start start → ⊥
read_well h = omega (arith, h)

write_fault : EndsWithYes WriteFault 3 start (record start { write_faults = 1 })
write_fault = lit≤ tt

written_well : EndsWithYes WriteFault 3 start (record start { read_faults = 1 }) → ⊥
written_well h = omega (arith, h)

-- want of memory leaves all open; it is never refused, and its words are a command
no_memory : EndsWithYes NoMemory 3 start start
no_memory = tt

never_refused : (u v : Outside) → EndsWithYes Refused 3 u v → ⊥
never_refused u v h = h

never_usage : (u v : Outside) → EndsWithYes Usage 3 u v → ⊥
never_usage u v h = h

-- EVERY RUN OVER THE THREE FILES ENDS SO
module _ (design arrivals trace : List ℕ) (words : List (List ℕ)) (d r f : List ℕ) (u v : Outside) (s : Told)
    (command : command_of words ≡ Some (Accepts d r f)) (told : u.told ≡ Some s) (one : s.files d ≡ Some design) (two : s.files r ≡ Some arrivals)
    (three : s.files f ≡ Some trace) where
  ends_so : (status : Status) → Ends status (command_of words) u v → IsAcceptedBy design arrivals trace 3 → EndsWithYes status 3 u v
  ends_so status e h = h words d r f u v s status command e told one two three

  not_where_one_is_refused : Ends Refused (command_of words) u v → IsAcceptedBy design arrivals trace 3 → ⊥
  not_where_one_is_refused e h = h words d r f u v s Refused command e told one two three

  not_where_a_fault_is_none : Ends ReadFault (command_of words) u v → (EndsWithYes ReadFault 3 u v → ⊥) → IsAcceptedBy design arrivals trace 3 → ⊥
  not_where_a_fault_is_none e never h = never (h words d r f u v s ReadFault command e told one two three)

-- A VERIFIED TRACE
module _ (written text trace : List ℕ) (p : Program) (told : List Event) where
  verified : written ≡ text ++ (trace_mark ++ trace) → trace ≡ lines p told
      → (length trace ≤ limit_of Trace → IsAcceptedBy (codes "ab") (codes "c") trace (length told))
      → IsVerifiedTrace (shelf (codes "ab") (codes "c") []) (codes "d") (codes "rr") written
  verified w l a = record {
    design = codes "ab";
    arrivals = codes "c";
    design_file = refl;
    arrivals_file = refl;
    text = text;
    trace = trace;
    whole = w;
    program = p;
    told = told;
    is_lines = l;
    accepted = a;
  }

module _ (d r written : List ℕ) where
  no_design_file : IsVerifiedTrace (bare []) d r written → ⊥
  no_design_file h = absurd (cc h.design_file)

  no_arrivals_file : IsVerifiedTrace (shelf (codes "ab") (codes "c") []) d (codes "x") written → ⊥
  no_arrivals_file h = absurd (cc h.arrivals_file)

  module _ (t : Told) where
    without_mark : ((text trace : List ℕ) → written ≡ text ++ (trace_mark ++ trace) → ⊥) → IsVerifiedTrace t d r written → ⊥
    without_mark never h = never h.text h.trace h.whole

    other_lines : ((text trace : List ℕ) (p : Program) (told : List Event) → written ≡ text ++ (trace_mark ++ trace) → trace ≡ lines p told → ⊥)
        → IsVerifiedTrace t d r written → ⊥
    other_lines never h = never h.text h.trace h.program h.told h.whole h.is_lines

    not_accepted : ((design arrivals trace : List ℕ) (lines : ℕ) → length trace ≤ limit_of Trace → IsAcceptedBy design arrivals trace lines → ⊥)
        → ((text trace : List ℕ) → written ≡ text ++ (trace_mark ++ trace) → length trace ≤ limit_of Trace) → IsVerifiedTrace t d r written → ⊥
    not_accepted never short h =
        let within = short h.text h.trace h.whole in
        never h.design h.arrivals h.trace (length h.told) within (h.accepted within)
