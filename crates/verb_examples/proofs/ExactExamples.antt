-- Examples: one cause of a refusal and two, with the made-up verb of the ends; runs that were done, and replays that are right.
use Rattle.std.specs.Prelude.{◌≡◌, ℕ, List, [], ◌∷◌, ◌++◌, length, unwrap_or, Option, Some, None, codes, refl}
use Rattle.std.proofs.Common.{arith, ap, subst, sym, ◌∙◌}
use Rattle.hood_io.specs.Shelves.{Told}
use Rattle.hrthood_top.specs.declared.status.Status.TheVariants.{Done}
use Rattle.hrthood_words.specs.Words.{Command, Sample, command_of}
use Rattle.hrthood_top.specs.Ends.{Outside, Ends, WritesUpTo, Refusal, Stopped, TooLong, Cause, Refuses}
use Rattle.hrthood_top.specs.Exact.{HasOneCause, WritesOrRefuses, WritesOneText}
use Rattle.hrthood_top.specs.RightTraces.{IsRightTrace}
use Rattle.hrthood_top.specs.TwoRuns.{IsDone, IsRightReplay}
use Rattle.verb_examples.proofs.EndExamples.{shelf, bare, joins, bytes, held, made, start}

-- of files that are not there no cause stands
none_stands : (c : Cause joins) → Refuses (bare []) joins c → ⊥
none_stands (TooLong front file) (back, place, texts, all, (text, is, over)) = absurd (cc is)
none_stands (Refusal refusal) (texts, all, is) = absurd (cc all.0.0)
none_stands (Stopped stop) (text, (texts, all, is)) = absurd (cc all.0.0)

one_cause : HasOneCause (bare []) joins
one_cause p q first second = absurd (none_stands p first)

writes_or_refuses : WritesOrRefuses (bare []) joins
writes_or_refuses cause text refuses writes = none_stands cause refuses

-- what the verb is refused for, and what it stops at, are two causes, and it writes all the same
two_causes : HasOneCause (shelf (codes "ab") (codes "c") []) joins → ⊥
two_causes one = differ (one (Refusal 1) (Stopped 2) (bytes, held [], refl) (codes "ab", (bytes, held [], (refl, refl))))
  where
    differ : ◌≡◌ {A = Cause joins} (Refusal 1) (Stopped 2) → ⊥
    differ e = cc

writes_and_refuses : WritesOrRefuses (shelf (codes "ab") (codes "c") []) joins → ⊥
writes_and_refuses never = never (Refusal 1) (codes "abc") (bytes, held [], refl) (bytes, held [], refl)

-- what it writes of these files is one text, and so is what it writes before it stops
up_to : (stop : ℕ) (text : List ℕ) → WritesUpTo (shelf (codes "ab") (codes "c") []) joins stop text → text ≡ codes "ab"
up_to stop text (texts, all, is) = front all.0.0 is.0
  where
    front : {d a text : List ℕ} → ◌≡◌ {A = Option (List ℕ)} (Some a) (Some d) → text ≡ d → text ≡ a
    front e h = cc

one_text : WritesOneText (shelf (codes "ab") (codes "c") []) joins
one_text = record {
  done = λ text other h k. made text h ∙ sym (made other k);
  stopped = λ stop halt text other h k. up_to stop text h ∙ sym (up_to halt other k);
}

-- verbs that write whatever they like, or do so before they stop
two_texts : WritesOneText (shelf (codes "ab") (codes "c") []) (record joins { Makes = λ texts made. Unit {0} }) → ⊥
two_texts one = let e = one.done (codes "a") [] (bytes, held [], tt) (bytes, held [], tt) in cc

two_fronts : WritesOneText (shelf (codes "ab") (codes "c") []) (record joins { Stops = λ texts made count. Unit {0} }) → ⊥
two_fronts one = let e = one.stopped 0 0 (codes "a") [] (bytes, held [], tt) (bytes, held [], tt) in cc

-- A RUN THAT WAS DONE
abbrev words : List (List ℕ)
words = codes "sample" ∷ codes "2" ∷ []

done : (y : Outside) (text : List ℕ) → Ends Done (command_of words) start y → y.out ≡ Some (111 ∷ text)
    → IsDone words (Sample 2) start y (shelf (codes "ab") (codes "c") []) text
done y text ends got = record { command = refl; ends = ends; told = refl; before = codes "o"; out = refl; got = got }

module _ (c : Command) (x y : Outside) (t : Told) (text : List ℕ) where
  -- words that are none, and a run that did not end so
  no_command : IsDone [] c x y t text → ⊥
  no_command h = absurd (cc h.command)

  not_ended : (Ends Done (command_of words) x y → ⊥) → IsDone words c x y t text → ⊥
  not_ended never h = never h.ends

  -- a shelf that tells nothing, and standard output that tells nothing, before or after
  untold : IsDone words c (record x { told = None }) y t text → ⊥
  untold h = absurd (cc h.told)

  silent : IsDone words c (record x { out = None }) y t text → ⊥
  silent h = absurd (cc h.out)

  lost : IsDone words c x (record y { out = None }) t text → ⊥
  lost h = absurd (cc h.got)

-- a text that is only the end of what was written
abbrev byte_count : Option (List ℕ) → ℕ
byte_count written = length (unwrap_or written [])

only_the_end : (c : Command) (y : Outside) (t : Told) → IsDone words c start (record y { out = Some (codes "oab") }) t (codes "b") → ⊥
only_the_end c y t h = by h.before h.out h.got
  where
    by : (before : List ℕ) → ◌≡◌ {A = Option (List ℕ)} (Some (codes "o")) (Some before)
        → ◌≡◌ {A = Option (List ℕ)} (Some (codes "oab")) (Some (before ++ codes "b")) → ⊥
    by before out got =
        let same : codes "o" ≡ before = cc in
        let whole : ◌≡◌ {A = Option (List ℕ)} (Some (codes "oab")) (Some (codes "o" ++ codes "b")) =
        subst (λ z. ◌≡◌ {A = Option (List ℕ)} (Some (codes "oab")) (Some (z ++ codes "b"))) (sym same) got in
        omega (arith, ap byte_count whole)

-- A RIGHT REPLAY
right : (text written : List ℕ) → IsRightTrace (codes "ab") text (codes "c") written
    → IsRightReplay (shelf (codes "ab") [] []) (shelf [] (codes "c") []) (codes "d") (codes "rr") text written
right text written r = record { design = codes "ab"; arrivals = codes "c"; design_file = refl; arrivals_file = refl; right = r }

-- no design, no arrivals, and no right trace
module _ (told : Told) (d r text written : List ℕ) where
  no_design : IsRightReplay (bare []) told d r text written → ⊥
  no_design h = absurd (cc h.design_file)

  no_arrivals : IsRightReplay told (bare []) d r text written → ⊥
  no_arrivals h = absurd (cc h.arrivals_file)

  not_right : ((design arrivals : List ℕ) → IsRightTrace design text arrivals written → ⊥) → IsRightReplay told told d r text written → ⊥
  not_right never h = never h.design h.arrivals h.right
