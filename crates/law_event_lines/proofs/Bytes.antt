-- A name that a text can hold has no byte but letters, digits and underscores.
use Rattle.std.proofs.Common.{◌≡◌, ℕ, Bool, true, false, not, ◌&&◌, List, [], ◌∷◌, refl, sym, ap, ◌∙◌}
use Rattle.std.specs.Prelude.{◌==◌}
use Rattle.std.specs.Char.{is_ascii_alphabetic, is_ascii_alphanumeric}
use Rattle.std.proofs.lemmas.Bool.{and_from, and_parts, ne_eqb, true≢false}
use Rattle.seq_tree.specs.Lexis.{goes_on, is_name, is_underscore}
use Rattle.ada_print.specs.Writable.{is_word}
use Rattle.law_traces.specs.Told.{Lacks, IsPlain}

-- a byte that passes a test that another fails
other : (test : ℕ → Bool) (b c : ℕ) → test b ≡ true → test c ≡ false → not (b == c) ≡ true
other test b c passes fails = ap not (ne_eqb b c (λ e. true≢false (sym passes ∙ ap test e ∙ fails)))

-- a byte that no name has
pub record IsStrange (c : ℕ) : Type 0 where
  pub part : is_ascii_alphanumeric c ≡ false
  pub letter : is_ascii_alphabetic c ≡ false
  pub under : is_underscore c ≡ false

module _ (c : ℕ) (strange : IsStrange c) where
  step : (under : Bool) (b : ℕ) (bs : List ℕ) (t : Bool) → is_ascii_alphanumeric b ≡ t → goes_on is_ascii_alphanumeric under (b ∷ bs) ≡ true
      → (goes_on is_ascii_alphanumeric false bs ≡ true → Lacks c bs) → (goes_on is_ascii_alphanumeric true bs ≡ true → Lacks c bs)
      → Lacks c (b ∷ bs)
  step under b bs true e g one two = and_from _ _ (other is_ascii_alphanumeric b c e strange.part) (one (rw e at g))
  step under b bs false e g one two =
      let g' = rw e at g in
      let h = and_parts (is_underscore b && not under) (goes_on is_ascii_alphanumeric true bs) g' in
      and_from _ _ (other is_underscore b c (and_parts (is_underscore b) (not under) h.0).0 strange.under) (two h.1)

  run : (under : Bool) (bs : List ℕ) → goes_on is_ascii_alphanumeric under bs ≡ true → Lacks c bs
  run under [] g = refl
  run under (b ∷ bs) g = step under b bs (is_ascii_alphanumeric b) refl g (run false bs) (run true bs)

  lacks : (name : List ℕ) → is_word name ≡ true → Lacks c name
  lacks [] w = refl
  lacks (b ∷ bs) w =
      let n = and_parts (is_name (b ∷ bs)) _ w in
      let p = and_parts (is_ascii_alphabetic b) (goes_on is_ascii_alphanumeric false bs) n.0 in
      and_from _ _ (other is_ascii_alphabetic b c p.0 strange.letter) (run false bs p.1)

pub plain : (name : List ℕ) → is_word name ≡ true → IsPlain name
plain name w = (
  lacks 10 (record { part = refl; letter = refl; under = refl }) name w,
  lacks 32 (record { part = refl; letter = refl; under = refl }) name w,
  lacks 46 (record { part = refl; letter = refl; under = refl }) name w,
)
