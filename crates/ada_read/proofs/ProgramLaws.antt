-- The reader of programs reads exactly the texts of programs, where the reader of blocks reads exactly blocks.
use Rattle.std.proofs.Common.{◌≡◌, ℕ, Bool, true, false, List, [], ◌∷◌, ◌++◌, flat_map, codes, refl, sym, ap, subst, ◌∙◌, append_assoc}
use Rattle.grammar.specs.Reading.{first, AreEach, Reads}
use Rattle.grammar.proofs.Shared.Laws.{reads-same, reads-pure, joins-part}
use Rattle.seq_tree.specs.Names.{Name}
use Rattle.seq_tree.specs.Spelling.{joined}
use Rattle.seq_tree.specs.declared.tree.Costs.{Costs}
use Rattle.seq_tree.specs.declared.token.Token.{Token}
use Rattle.seq_tree.specs.declared.token.Token.TheVariants.{Word}
use Rattle.ada_tree.specs.Programs.{Program}
use Rattle.ada_tree.specs.Programs as programs
use Rattle.ada_tree.specs.Proper.{IsProperProgram}
use Rattle.ada_tree.specs.Spelling.{specification_lines, unit_body_lines, program_tokens}
use Rattle.ada_tree.specs.Words.{is_ada_name}
use Rattle.token_read.specs.Readers.{next_is}
use Rattle.token_read.proofs.Shared.TokenLaws.{Any, andthen, reads-fixed, reads-phrase, joins-fixed, joins-phrase, joins-name}
use Rattle.seq_read.specs.Statements.{BlockReader}
use Rattle.seq_read.specs.Parts.{end_tokens}
use Rattle.ada_read.proofs.LevelLaws.{joined-append}
use Rattle.ada_read.specs.declared.fixed_text.FixedText.TheVariants as fixed
use Rattle.ada_read.specs.FixedTexts.{fixed_tokens, cost_name}
use Rattle.ada_read.specs.Heads.{Head}
use Rattle.ada_read.specs.Readers.{services_at, units_at, main_at, program_at}
use Rattle.ada_read.proofs.ParamLaws.{and_until, reads-text, joins-text, costs_text, reads-costs, reads-ada_name}
use Rattle.ada_read.proofs.HeadLaws.{AreHeads, reads-heads}
use Rattle.ada_read.proofs.BodyLaws.{EndsBlock, IsBlock, limits, body_head_tokens, IsBody, reads-body_head, reads-bodies}
use Rattle.ada_read.proofs.UnitLaws.{units_to, heads_from, heads_good, heads_joined, bodies_back}

-- the text before the program
abbrev services_text : Costs → List Token
services_text c = fixed_tokens fixed.Opening ++ (costs_text c ++ (fixed_tokens fixed.Services ++ []))

reads-services : Reads (λ c text. text ≡ services_text c) Any services_at
unfolding services_at
reads-services = reads-same _ (λ c text. text ≡ services_text c) Any services_at
    (λ c text g1. let g2 = g1.after in let g3 = g2.after
    in rw (g3.after.0, g1.whole, g1.before, g2.whole, g2.before, g3.whole, g3.before, g3.after.1) refl)
    (λ c text h. rw h (joins-text _ fixed.Opening c _ (joins-part _ c (costs_text c) c _ refl (joins-text _ fixed.Services c [] (refl, refl)))))
    (andthen (reads-text fixed.Opening)
    (λ _. andthen reads-costs (λ costs. andthen (reads-text fixed.Services) (λ _. reads-pure Any costs (λ _. tt)))))

-- the main procedure
abbrev main_text : Name → List Token
main_text name = Word (codes "with") ∷ Word name ∷ fixed_tokens fixed.Main

reads-main : (name : Name) → Reads (λ _ text. text ≡ main_text name) Any (main_at name)
unfolding main_at
reads-main name = reads-same _ (λ _ text. text ≡ main_text name) Any (main_at name)
    (λ u text g1. let g2 = g1.after in rw (g1.whole, g1.before, g2.whole, g2.before, g2.after) refl)
    (λ u text h. rw h (joins-fixed _ (Word (codes "with")) tt _ (joins-fixed _ (Word name) tt _ refl)))
    (andthen (reads-fixed (Word (codes "with"))) (λ _. andthen (reads-fixed (Word name)) (λ _. reads-text fixed.Main)))

-- the units of a program, from their specifications on
abbrev units_text : Name → List Token → List Token → List Token
units_text name one two = one ++ (end_tokens name ++ (body_head_tokens name ++ (two ++ end_tokens name)))

-- a program
abbrev program_text : Name → Costs → List Token → List Token → List Token
program_text name costs one two = services_text costs ++ Word name ∷ Word (codes "is") ∷ (units_text name one two ++ (main_text name ++ []))

-- the tokens of units in front of others
units_before : (name : Name) (one two rest : List Token) →
    units_text name one two ++ rest ≡ one ++ (end_tokens name ++ (body_head_tokens name ++ (two ++ (end_tokens name ++ rest))))
unfolding fixed_tokens
units_before name one two rest =
    append_assoc one (end_tokens name ++ (body_head_tokens name ++ (two ++ end_tokens name))) rest
    ∙ ap (λ us. one ++ (end_tokens name ++ (body_head_tokens name ++ us))) (append_assoc two (end_tokens name) rest)

program_joined : (p : Program) → program_text p.name p.costs (joined (flat_map specification_lines p.units))
    (joined (flat_map unit_body_lines p.units)) ≡ program_tokens p
unfolding fixed_tokens cost_name
program_joined p =
    ap (λ us. services_text p.costs ++ Word p.name ∷ Word (codes "is") ∷ us)
    (units_before p.name (joined (flat_map specification_lines p.units)) (joined (flat_map unit_body_lines p.units)) (main_text p.name ++ []))
    ∙ rw (joined-append (flat_map specification_lines p.units) _, joined-append (flat_map unit_body_lines p.units) _) refl

-- a program that is proper within limits, and its text
abbrev pub IsProgram : (ℕ → Bool) → (ℕ → Bool) → Program → List Token → Type 0
IsProgram nests chains p text = IsProperProgram (limits nests chains) p × (text ≡ program_tokens p)

module _ (nests chains : ℕ → Bool) (block : BlockReader) (blocks : Reads (IsBlock nests chains) (λ b o. EndsBlock o) block) where
  -- units by their specifications and their bodies
  abbrev AreUnits : Name → List programs.Unit → List Token → Type 0
  AreUnits name us text = (hs : List Head) × (one : List Token) × (two : List Token) × AreHeads hs one × AreEach (IsBody nests chains) hs us two
      × (text ≡ units_text name one two)

  end_after_heads : (name : Name) (rest : List Token) → next_is (Word (codes "package")) (first (end_tokens name ++ rest)) ≡ false
  end_after_heads name rest = refl

  reads-units : (name : Name) → Reads (AreUnits name) Any (units_at block name)
  unfolding units_at
  reads-units name = reads-same _ (AreUnits name) Any (units_at block name)
      (λ us text g1.
      let g2 = g1.after in let g3 = g2.after in let g4 = g3.after in let g5 = g4.after in
      let P : List programs.Unit → Type 0 = λ vs. AreUnits name vs text in
      subst P (sym g5.after.0) (
        g1.a,
        g1.front,
        g4.front,
        g1.before,
        g4.before,
        rw
            (g1.whole, g2.whole, g2.before, g3.whole, g3.before, g4.whole, g5.whole, g5.before, g5.after.1) refl,
      ))
      (λ us text h.
      rw h.5 (joins-part _ h.0 h.1 us _ h.3 (joins-phrase _ (end_tokens name) us _
      (joins-part _ tt (body_head_tokens name) us _ refl (joins-part _ us h.2 us _ h.4
      (joins-phrase _ (end_tokens name) us [] (refl, refl)))))))
      (and_until (λ o. next_is (Word (codes "package")) o ≡ false) (end_tokens name) (end_after_heads name) reads-heads
      (λ hs. andthen (reads-phrase (end_tokens name)) (λ _.
      andthen (reads-body_head name) (λ _. andthen (reads-bodies nests chains block blocks hs)
      (λ us. andthen (reads-phrase (end_tokens name)) (λ _. reads-pure Any us (λ _. tt)))))))

  -- a program by its parts
  abbrev IsWritten : Program → List Token → Type 0
  IsWritten p text = (is_ada_name p.name ≡ true) × (us : List Token) × AreUnits p.name p.units us
      × (text ≡ services_text p.costs ++ Word p.name ∷ Word (codes "is") ∷ (us ++ (main_text p.name ++ [])))

  reads-written : Reads IsWritten Any (program_at block)
  unfolding program_at
  reads-written = reads-same _ IsWritten Any (program_at block)
      (λ p text g1.
      let g2 = g1.after in let g3 = g2.after in let g4 = g3.after in let g5 = g4.after in
      let P : Program → Type 0 = λ q. IsWritten q text in
      subst P (sym g5.after.0) (
        g2.before.0,
        g4.front,
        g4.before,
        rw
            (g1.whole, g1.before, g2.whole, g2.before.1, g3.whole, g3.before, g4.whole, g5.whole, g5.before, g5.after.1) refl,
      ))
      (λ p text h.
      rw h.3 (joins-part _ p.costs (services_text p.costs) p _ refl (joins-name is_ada_name _ p.name p _ h.0 (joins-fixed _ (Word (codes "is")) p _
      (joins-part _ p.units h.1 p _ h.2 (joins-part _ tt (main_text p.name) p [] refl (refl, refl)))))))
      (andthen reads-services (λ costs. andthen reads-ada_name (λ name. andthen (reads-fixed (Word (codes "is")))
      (λ _. andthen (reads-units name) (λ us. andthen (reads-main name) (λ _.
      reads-pure Any (record { name = name; costs = costs; units = us }) (λ _. tt)))))))

  program_to : (p : Program) (text : List Token) → IsWritten p text → IsProgram nests chains p text
  program_to p text w =
      let u = w.2 in
      let k = units_to nests chains u.0 p.units u.2 u.3.0 u.4 in (
        (w.0, k.0),
        w.3 ∙ ap (λ us. services_text p.costs ++ Word p.name ∷ Word (codes "is") ∷ (us ++ (main_text p.name ++ [])))
            (u.5 ∙ ap (λ one. units_text p.name one u.2) (u.3.1 ∙ k.1) ∙ ap
            (λ two. units_text p.name (joined (flat_map specification_lines p.units)) two) k.2)
            ∙ program_joined p,
      )

  program_back : (p : Program) (text : List Token) → IsProgram nests chains p text → IsWritten p text
  program_back p text h =
      let one = joined (flat_map specification_lines p.units) in
      let two = joined (flat_map unit_body_lines p.units) in (
        h.0.0,
        units_text p.name one two,
        (
          heads_from nests chains p.units,
          one,
          two,
          (heads_good nests chains p.units h.0.1, heads_joined nests chains p.units),
          bodies_back nests
              chains p.units h.0.1,
          refl,
        ),
        h.1 ∙ sym (program_joined p),
      )

  pub reads-program : Reads (IsProgram nests chains) Any (program_at block)
  reads-program = reads-same IsWritten (IsProgram nests chains) Any (program_at block) program_to program_back reads-written
