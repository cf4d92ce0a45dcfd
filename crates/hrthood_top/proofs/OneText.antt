-- That bytes have at most one fault, as an Ada text.
use Rattle.std.proofs.Common.{◌≡◌, ℕ, List}
use Rattle.seq_tree.specs.Limits.{ada_limit}
use Rattle.seq_tree.specs.declared.text_fault.TextFault.{TextFault}
use Rattle.seq_read.proofs.Shared.TextFaultLaws.{one-text-fault}
use Rattle.ada_read.specs.Answers as ada

pub one-ada-fault : (bytes : List ℕ) (f g : TextFault) → ada.Faults bytes f → ada.Faults bytes g → f ≡ g
one-ada-fault bytes f g a b = one-text-fault ada.AnyProgram ada.SomeProgram ada_limit bytes f g a b
