-- A text that begins with the line of an event: its first line tells that event, and what is told behind it is what is left.
use Rattle.std.proofs.Common.{◌≡◌, ℕ, List, [], ◌∷◌, ◌++◌, Option, Some, None, refl, sym, ap, subst, ◌∙◌}
use Rattle.std.specs.Prelude.{Result, Ok, Err}
use Rattle.std.proofs.lemmas.Option.{none-some, same_Some}
use Rattle.std.specs.List.{cons_option, join_with_byte}
use Rattle.std.proofs.lemmas.List.Concat.{flat_map-cons}
use Rattle.seq_tree.specs.Lists.{Each}
use Rattle.ada_tree.specs.Programs.{Program}
use Rattle.ada_tree.specs.Rules.{MeetsRules}
use Rattle.trace_tree.specs.Lines.{line, lines, words}
use Rattle.trace_tree.specs.declared.event.Event as machine
use Rattle.guarantee.specs.Events.{Event, named, named_event}
use Rattle.law_traces.specs.Told.{Lacks, HasPlainNames, IsEvent}
use Rattle.law_traces.specs.Cuts.{cut}
use Rattle.law_traces.proofs.Shared.Words.{cut-join}
use Rattle.law_traces.proofs.Shared.Events.{text, line-cut, line-some, some-words, words-lack, clear-space, fixed-space, tells-event}
use Rattle.law_traces.specs.Verdicts.{BeginsNoLine}
use Rattle.trace_read.specs.declared.lines.NoLine.{NoLine}
use Rattle.trace_read.specs.Lines.{Tells, IsNext}
use Rattle.trace_read.specs.Laws.{GoesOn}
use Rattle.trace_read.specs.Reading.{event_of, number_of}
use Rattle.trace_read.specs.Telling.{events_in, told_by}
use Rattle.trace_read.proofs.Back.{event-back}

heads-same : {A : Type 0} {x y : A} {xs ys : List A} → x ∷ xs ≡ y ∷ ys → x ≡ y
heads-same e = cc

module _ (p : Program) (plain : HasPlainNames p) where
  words-of : (e : machine.Event) → IsEvent p e → cut 32 (text p plain e) ≡ words p e
  words-of e h =
      let s = some-words p plain e in
      let apart : Each (Lacks 32) (s.0 ∷ s.1) = subst (Each (Lacks 32)) s.2 (words-lack p plain 32 (clear-space p plain) (fixed-space p plain) e h.1) in
      ap (λ ws. cut 32 (join_with_byte 32 ws)) s.2 ∙ cut-join 32 s.0 s.1 apart ∙ sym s.2

  -- the first line of a text that begins with the line of an event tells the event
  front-tells : MeetsRules p → (bytes front : List ℕ) (others : List (List ℕ)) → cut 10 bytes ≡ front ∷ others
      → (e : machine.Event) (more : List ℕ) → IsEvent p e → bytes ≡ line p e ++ more → event_of p (cut 32 front) ≡ Some e
  front-tells meets bytes front others piece e more h same =
      let one : front ≡ text p plain e = heads-same (sym piece ∙ ap (cut 10) same ∙ line-cut p plain e more h.1) in
      ap (λ t. event_of p (cut 32 t)) one ∙ ap (event_of p) (words-of e h) ∙ event-back p meets plain e h

  -- the events that a text tells, and a text of lines
  told-front : MeetsRules p → (e : machine.Event) (more : List ℕ) → IsEvent p e → events_in p (line p e ++ more) ≡ e ∷ events_in p more
  told-front meets e more h =
      ap (told_by p) (line-cut p plain e more h.1)
      ∙ ap (λ o. cons_option o (events_in p more)) (ap (event_of p) (words-of e h) ∙ event-back p meets plain e h)

  pub told-lines : MeetsRules p → (es : List machine.Event) → Each (IsEvent p) es → events_in p (lines p es) ≡ es
  unfolding event_of number_of
  told-lines meets [] h = refl
  told-lines meets (e ∷ es) h =
      ap (events_in p) (flat_map-cons (line p) e es) ∙ told-front meets e (lines p es) h.0 ∙ ap (λ z. e ∷ z) (told-lines meets es h.1)

  -- no event is told
  pub untold : MeetsRules p → (bytes front : List ℕ) (others : List (List ℕ)) → cut 10 bytes ≡ front ∷ others → event_of p (cut 32 front) ≡ None
      → (e : machine.Event) (more : List ℕ) → IsEvent p e → bytes ≡ line p e ++ more → ⊥
  untold meets bytes front others piece none e more h same =
      none-some e (sym none ∙ front-tells meets bytes front others piece e more h same)

  -- one is told whose line isn't there
  pub unwritten : MeetsRules p → (bytes front : List ℕ) (others : List (List ℕ)) → cut 10 bytes ≡ front ∷ others
      → (f : machine.Event) → event_of p (cut 32 front) ≡ Some f → ((more : List ℕ) → bytes ≡ line p f ++ more → ⊥)
      → (e : machine.Event) (more : List ℕ) → IsEvent p e → bytes ≡ line p e ++ more → ⊥
  unwritten meets bytes front others piece f some not-there e more h same =
      let one : e ≡ f = same_Some e f (sym (front-tells meets bytes front others piece e more h same) ∙ some) in
      not-there more (same ∙ ap (λ x. line p x ++ more) one)

  -- WHAT A TEXT TELLS
  pub tells-more : (e : machine.Event) (text' rest : List ℕ) (told : List Event) → IsEvent p e → text' ≡ line p e ++ rest → Tells p text' told
      → (more : List Event) × (told ≡ named_event p e ∷ more) × Tells p rest more
  tells-more e text' rest told h same ([], each, is, names) = absurd (line-some p plain e rest (sym is ∙ same))
  tells-more e text' rest told h same (f ∷ fs, each, is, names) =
      let one = tells-event p plain e f rest (lines p fs) h each.0 (sym same ∙ is ∙ flat_map-cons (line p) f fs) in
      (named p fs, names ∙ ap (λ x. x ∷ named p fs) (sym one.0), (fs, each.1, one.1, refl))

  pub tells-nothing : (told : List Event) → Tells p [] told → told ≡ []
  tells-nothing told ([], each, is, names) = names
  tells-nothing told (f ∷ fs, each, is, names) = absurd (line-some p plain f (lines p fs) (is ∙ flat_map-cons (line p) f fs))

  pub tells-no-line : (text' : List ℕ) (told : List Event) → BeginsNoLine p text' → Tells p text' told → ⊥
  tells-no-line text' told begins ([], each, is, names) = begins.0 is
  tells-no-line text' told begins (f ∷ fs, each, is, names) = begins.1 f (lines p fs) each.0 (is ∙ flat_map-cons (line p) f fs)

  pub goes-on : (text' rest : List ℕ) (next : Option (Result machine.Event NoLine)) → IsNext p text' rest next
      → (told : List Event) → Tells p text' told → GoesOn p rest told next
  goes-on text' rest None is told tells = tells-nothing told (subst (λ t. Tells p t told) is tells)
  goes-on text' rest (Some (Ok e)) is told tells = tells-more e text' rest told is.0 is.1 tells
  goes-on text' rest (Some (Err fault)) is told tells = tells-no-line text' told is tells
