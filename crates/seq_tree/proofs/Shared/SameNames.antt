-- Names that are the same: the test of it and what it tells.
use Rattle.std.proofs.Common.{◌≡◌, true, refl}
use Rattle.std.proofs.lemmas.Slice.Eq.{bytes_eq-Decides}
use Rattle.seq_tree.specs.Names.{Name, same_name}

pub same-self : (name : Name) → same_name name name ≡ true
same-self name = (bytes_eq-Decides name name).1 refl

pub same-is : (a b : Name) → same_name a b ≡ true → a ≡ b
same-is a b e = (bytes_eq-Decides a b).0 e

pub is-same : (a b : Name) → a ≡ b → same_name a b ≡ true
is-same a b e = (bytes_eq-Decides a b).1 e
