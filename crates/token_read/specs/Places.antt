-- Places that fit: lines and columns are u32, and each byte moves a place by at most one line or one column.
-- A text within its limit of bytes keeps all its places so. And the place of a token, or of the end of its text.
use Rattle.std.specs.Prelude.{ℕ, zero, suc, ◌+◌, ◌<◌, ◌^◌, Bool, true, false, List, Option, Some, None}
use Rattle.seq_tree.specs.Lexis.{place_past}
use Rattle.seq_tree.specs.declared.token.Place.{Place}
use Rattle.seq_tree.specs.declared.token.Spanned.{Spanned}

-- The places up to that many bytes further fit.
abbrev pub Fits : Place → ℕ → Type 0
Fits place n = (place.line + n < 2 ^ 32) × (place.column + n < 2 ^ 32)

-- the place of a token, or of the end of the text where there is none
abbrev pub place_or : List ℕ → Option Spanned → Place
place_or bytes None = place_past (record { line = 1; column = 1 }) bytes
place_or bytes (Some s) = s.place

-- how many tokens stand before the one that is sought behind what stands here; none where it is this token
abbrev pub passed : ℕ → Bool → Option ℕ
passed n false = Some n
passed zero true = None
passed (suc n) true = Some n
