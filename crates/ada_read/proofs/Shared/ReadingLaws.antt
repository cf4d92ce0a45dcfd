-- The reader of programs within its limits: what it reads is a text, and where it stops is the fault of the tokens.
use Rattle.std.specs.Prelude.{IfOk}
use Rattle.std.proofs.Common.{◌≡◌, ℕ, ◌-◌, ◌<◌, ◌≤◌, nat_le, true, codes, List, length, Option, Result, Ok, Err, subst}
use Rattle.std.proofs.Common.{refl, sym, ap, ◌∙◌, arith, length-append}
use Rattle.std.proofs.lemmas.List.{length-map}
use Rattle.grammar.specs.Reading.{Halt, Syntax, TooDeep, left_of, Reads, Widens, whole_at}
use Rattle.grammar.proofs.Shared.Laws.{reads-same}
use Rattle.grammar.proofs.Shared.Whole.{whole-found, whole-only, whole-fault}
use Rattle.seq_tree.specs.Limits.{ada_limit}
use Rattle.seq_tree.specs.Reach.{IsSyntaxFault, IsDepthFault}
use Rattle.seq_tree.specs.Reach as reach
use Rattle.seq_tree.specs.Names.{Name}
use Rattle.seq_tree.specs.Lexis.{tokens, plain}
use Rattle.seq_tree.specs.declared.text_fault.TextFault.{TextFault}
use Rattle.seq_tree.specs.declared.token.Token.{Token}
use Rattle.seq_tree.specs.declared.token.Spanned.{Spanned}
use Rattle.seq_tree.specs.declared.token.Place.{Place}
use Rattle.ada_tree.specs.Programs.{Program}
use Rattle.ada_tree.specs.Words.{is_ada_name}
use Rattle.ada_tree.specs.Spelling.{program_tokens}
use Rattle.ada_tree.specs.Reading as reading
use Rattle.token_read.specs.Words.{bare}
use Rattle.token_read.proofs.Shared.TokenLaws.{Any}
use Rattle.seq_read.specs.Statements.{block_at}
use Rattle.seq_read.specs.Places.{place_at}
use Rattle.seq_read.proofs.Shared.TextFaultLaws.{no-text-fault}
use Rattle.seq_read.proofs.Shared.StatementTokens.{block-spelled}
use Rattle.seq_read.proofs.Shared.StatementLaws.{Reserves}
use Rattle.seq_read.proofs.Shared.BlockLaws as blocks
use Rattle.seq_read.proofs.Shared.StatementWidening.{widens-block}
use Rattle.seq_read.proofs.Shared.Reaches.{syntax-fault, whole-too-deep}
use Rattle.ada_read.specs.Readers.{ada_block_at, program_at}
use Rattle.ada_tree.specs.Rules.{MeetsRules}
use Rattle.ada_rules.specs.Verdicts.{rule_of}
use Rattle.ada_rules.specs.declared.verdict.AdaRule.{AdaRule}
use Rattle.ada_tree.specs.Trees.{program_of}
use Rattle.ada_tree.specs.declared.program.AdaProgram.{AdaProgram}
use Rattle.ada_read.specs.declared.fault.AdaFault.{AdaFault}
use Rattle.ada_read.specs.declared.fault.AdaFault.TheVariants.{Text, Rule, NoMemory}
use Rattle.ada_read.specs.Judged.{IsJudged}
use Rattle.ada_read.specs.Answers.{IsTextOf, SomeProgram, AnyProgram, IsFaultyAt, Faults, Breaks, Says}
use Rattle.ada_read.proofs.BodyLaws.{IsBlock, EndsBlock}
use Rattle.ada_read.proofs.ProgramLaws.{IsProgram, reads-program}
use Rattle.ada_read.proofs.WideningLaws.{widens-program}
use Rattle.ada_read.proofs.ProgramBounds.{extent_units, bound-program, free-program}

reserves : Reserves is_ada_name
unfolding is_ada_name
reserves = record {
  not_ = refl;
  null_ = refl;
  if_ = refl;
  for_ = refl;
  exit_ = refl;
  work_ = refl;
  put_ = refl;
  end_ = refl;
  elsif_ = refl;
  else_ = refl;
}

some_name : is_ada_name (codes "a") ≡ true
unfolding is_ada_name
some_name = refl

-- blocks in a program, within limits
blocks_in : (nests most : ℕ) → 0 < most
    → Reads (IsBlock (λ d. nat_le d nests) (λ c. nat_le c most)) (λ b o. EndsBlock o) (block_at is_ada_name most nests)
blocks_in nests most room = reads-same _ (IsBlock (λ d. nat_le d nests) (λ c. nat_le c most)) (λ b o. EndsBlock o) (block_at is_ada_name most nests)
    (λ b ts g. (g.0, g.1 ∙ sym (block-spelled b))) (λ b ts g. (g.0, g.1 ∙ block-spelled b))
    (blocks.reads-block is_ada_name reserves (codes "a") some_name nests most room nests 0 (omega arith))

abbrev IsIn : ℕ → Program → List Token → Type 0
IsIn n = IsProgram (λ d. nat_le d n) (λ c. nat_le c n)

programs_in : (n : ℕ) → 64 < n → Reads (IsIn n) Any (program_at (block_at is_ada_name n n))
programs_in n h = reads-program (λ d. nat_le d n) (λ c. nat_le c n) (block_at is_ada_name n n) (blocks_in n n (omega (arith, h)))

pub reads-ada : Reads IsTextOf Any (program_at ada_block_at)
reads-ada = reads-same _ IsTextOf Any (program_at ada_block_at)
    (λ p ts g. record { proper = g.0; spelled = g.1 }) (λ p ts g. (g.proper, g.spelled))
    (reads-program (λ d. nat_le d 64) (λ c. nat_le c 32) ada_block_at (blocks_in 64 32 (omega arith)))

widens_limited : (n : ℕ) → 64 < n → Widens (n - 64) (program_at ada_block_at) (program_at (block_at is_ada_name n n))
widens_limited n h = widens-program (n - 64) ada_block_at (block_at is_ada_name n n)
    (widens-block is_ada_name 32 n (omega (arith, h)) 64 n (n - 64) h (omega arith) (omega arith))

widens_in : (n m : ℕ) → 64 < n → n < m → Widens (m - 64) (program_at (block_at is_ada_name n n)) (program_at (block_at is_ada_name m m))
widens_in n m h k = widens-program (m - 64) (block_at is_ada_name n n) (block_at is_ada_name m m)
    (widens-block is_ada_name n m k n m (m - 64) k (omega arith) (omega arith))

program_in : (ts : List Token) → AnyProgram ts → (n : ℕ) × ((m : ℕ) → n ≤ m → (p : Program) × IsIn m p ts)
program_in ts x = (extent_units x.0.units, λ m h. (x.0, (bound-program m x.0 h x.1, x.2)))

program_out : (n : ℕ) (p : Program) (ts : List Token) → 64 < n → IsIn n p ts → AnyProgram ts
program_out n p ts h g = (p, free-program n n p g.0, g.1)

pub tokens-faulty : (ts : List Token) (left : ℕ) → whole_at (program_at ada_block_at) ts ≡ Err (Syntax left)
    → IsSyntaxFault AnyProgram SomeProgram ts (length ts - left)
tokens-faulty = syntax-fault Any (λ p. tt) IsTextOf (program_at ada_block_at) reads-ada IsIn (λ n. program_at (block_at is_ada_name n n)) 64
    programs_in widens_limited widens_in AnyProgram SomeProgram
    (λ ts x. x) (λ p ts g. (p, g)) program_in program_out

pub tokens-deep : (ts : List Token) (left : ℕ) → whole_at (program_at ada_block_at) ts ≡ Err (TooDeep left)
    → IsDepthFault AnyProgram SomeProgram ts (length ts - left)
tokens-deep = whole-too-deep Any (λ p. tt) IsTextOf (program_at ada_block_at) reads-ada IsIn (λ n. program_at (block_at is_ada_name n n)) 64
    programs_in widens_limited widens_in AnyProgram SomeProgram
    (λ ts x. x) (λ p ts g. (p, g)) program_in program_out

-- FROM TOKENS TO THEIR TEXT
pub reads-as : (bytes : List ℕ) (ts : List Spanned) (p : Program) → length bytes ≤ ada_limit → tokens bytes ≡ Ok ts
    → whole_at (program_at ada_block_at) (bare ts) ≡ Ok p → reading.Reads bytes p
reads-as bytes ts p short e h =
    let a = whole-found IsTextOf Any (program_at ada_block_at) reads-ada (λ q. tt) (bare ts) p h in
    record { within = short; proper = a.proper; spelled = ap plain e ∙ ap Ok a.spelled }

pub reads-only : (bytes : List ℕ) (ts : List Spanned) (p : Program) → tokens bytes ≡ Ok ts → reading.Reads bytes p
    → whole_at (program_at ada_block_at) (bare ts) ≡ Ok p
reads-only bytes ts p e r =
    let same : Ok (bare ts) ≡ Ok (program_tokens p) = sym (ap plain e) ∙ r.spelled in
    let spelled : bare ts ≡ program_tokens p = cc in
    whole-only IsTextOf Any (program_at ada_block_at) reads-ada (λ q. tt) (bare ts) p (record { proper = r.proper; spelled = spelled })

pub reads-one : (bytes : List ℕ) (ts : List Spanned) (p q : Program) → tokens bytes ≡ Ok ts → whole_at (program_at ada_block_at) (bare ts) ≡ Ok p
    → reading.Reads bytes q → q ≡ p
reads-one bytes ts p q e h r = let k : Ok q ≡ Ok p = sym (reads-only bytes ts q e r) ∙ h in cc

-- what is answered of a program that was read
pub judged-says : (bytes : List ℕ) (ts : List Spanned) (p : Program) (result : Result AdaProgram AdaFault) → length bytes ≤ ada_limit
    → tokens bytes ≡ Ok ts → whole_at (program_at ada_block_at) (bare ts) ≡ Ok p → IsJudged p result → Says bytes result
judged-says bytes ts p (Ok q) short e h j =
    let P : Program → Type 0 = λ x. reading.Accepts bytes x in
    subst P (sym j.0) (record { reads = reads-as bytes ts p short e h; meets = j.1 })
judged-says bytes ts p (Err (Text fault)) short e h j = absurd j
judged-says bytes ts p (Err (Rule rule unit)) short e h j =
    record { program = p; reads = reads-as bytes ts p short e h; alone = λ q reads. reads-one bytes ts p q e h reads; broken = j }
judged-says bytes ts p (Err NoMemory) short e h j = tt

pub judged-only : (bytes : List ℕ) (ts : List Spanned) (p : Program) (result : Result AdaProgram AdaFault) → tokens bytes ≡ Ok ts
    → whole_at (program_at ada_block_at) (bare ts) ≡ Ok p → IsJudged p result →
    (q : Program) → reading.Accepts bytes q → IfOk result (λ r. program_of r ≡ q)
judged-only bytes ts p (Ok r) e h j q a = j.0 ∙ sym (reads-one bytes ts p q e h a.reads)
judged-only bytes ts p (Err fault) e h j q a = tt

-- what is answered of tokens with a fault
at_place : (bytes : List ℕ) (ts : List Spanned) (halt : Halt) (place : Place) → whole_at (program_at ada_block_at) (bare ts) ≡ Err halt
    → place ≡ place_at bytes ts (left_of halt) →
    place ≡ place_at bytes ts (length ts - (length (bare ts) - left_of halt))
at_place bytes ts halt place h here =
    let f = whole-fault IsTextOf Any (program_at ada_block_at) reads-ada (λ q. tt) (bare ts) halt h in
    let same : left_of halt ≡ length ts - (length (bare ts) - left_of halt)
    = omega (arith, ap length f.split, length-append f.front f.back, f.place, length-map ts (λ (s : Spanned). s.token)) in
    here ∙ ap (place_at bytes ts) same

pub faulty-at : (bytes : List ℕ) (ts : List Spanned) (left : ℕ) (place : Place) → length bytes ≤ ada_limit → tokens bytes ≡ Ok ts
    → whole_at (program_at ada_block_at) (bare ts) ≡ Err (Syntax left) → place ≡ place_at bytes ts left → IsFaultyAt bytes place reach.Syntax
faulty-at bytes ts left place short e h here = record {
  short = short;
  found = ts;
  read = e;
  index = length (bare ts) - left;
  fault = tokens-faulty (bare ts) left h;
  here = at_place bytes ts (Syntax left) place h here;
}

pub deep-at : (bytes : List ℕ) (ts : List Spanned) (left : ℕ) (place : Place) → length bytes ≤ ada_limit → tokens bytes ≡ Ok ts
    → whole_at (program_at ada_block_at) (bare ts) ≡ Err (TooDeep left) → place ≡ place_at bytes ts left → IsFaultyAt bytes place reach.TooDeep
deep-at bytes ts left place short e h here = record {
  short = short;
  found = ts;
  read = e;
  index = length (bare ts) - left;
  fault = tokens-deep (bare ts) left h;
  here = at_place bytes ts (TooDeep left) place h here;
}

-- A TEXT THAT READS AS A PROGRAM HAS NO FAULT
pub reads-unfaulty : (bytes : List ℕ) (p : Program) (f : TextFault) → reading.Reads bytes p → Faults bytes f → ⊥
reads-unfaulty bytes p f r h =
    no-text-fault AnyProgram SomeProgram ada_limit bytes (program_tokens p) f r.within r.spelled (p, free-program 64 32 p r.proper, refl)
    (p, record { proper = r.proper; spelled = refl }) h

pub accepts-unbroken : (bytes : List ℕ) (p : Program) (rule : AdaRule) (unit : Option Name) → reading.Accepts bytes p → Breaks bytes rule unit → ⊥
accepts-unbroken bytes p rule unit a h =
    let same : p ≡ h.program = h.alone p a.reads in
    let P : Program → Type 0 = MeetsRules in
    subst P same a.meets (rule_of rule) h.broken.0 h.broken.1.broken
