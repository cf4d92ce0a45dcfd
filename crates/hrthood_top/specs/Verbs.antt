-- What a verb is, with the names of its files: which files it needs, and what is made of their bytes.
-- How a command ends is said once, over these.
use Rattle.std.specs.Prelude.{ℕ, List, [], ◌∷◌}
use Rattle.hrthood_top.specs.declared.file_kind.FileKind.TheVariants.{Design}
use Rattle.hrthood_top.specs.Files.{File, Texts}

-- a verb with the names of its files
pub record Verb : Type 1 where
  -- its files in the order of the words, at most one of a kind
  pub files : List File
  -- what it writes, of their bytes
  pub Makes : Texts → List ℕ → Type 0
  -- why it writes nothing of them, and the line that tells this
  pub Refusal : Type 0
  pub Refuses : Texts → Refusal → Type 0
  pub line : Refusal → List ℕ
  -- how it can stop behind a text that it has written, where it writes as it goes, and the line that tells this
  pub Stop : Type 0
  pub Stops : Texts → List ℕ → Stop → Type 0
  pub stop_line : Stop → List ℕ
  -- bytes that have what it asks for
  pub CanDo : Texts → Type 0

-- what is made of the bytes of a design alone: what is written, why nothing is, the line that tells it, and which bytes have what is asked for
pub record OfDesign : Type 1 where
  pub Makes : List ℕ → List ℕ → Type 0
  pub Refusal : Type 0
  pub Refuses : List ℕ → Refusal → Type 0
  pub line : Refusal → List ℕ
  pub CanDo : List ℕ → Type 0

-- the verb that makes this of the design of a name; it never stops
abbrev pub on_design : OfDesign → List ℕ → Verb
on_design of name = record {
  files = record { kind = Design; name = name } ∷ [];
  Makes = λ texts made. of.Makes (texts Design) made;
  Refusal = of.Refusal;
  Refuses = λ texts refusal. of.Refuses (texts Design) refusal;
  line = of.line;
  Stop = ⊥;
  Stops = λ texts text stop. ⊥;
  stop_line = λ stop. [];
  CanDo = λ texts. of.CanDo (texts Design);
}
