-- The scope of the definitions that a scope of the program stands for, outside all loops.
-- Names that can be read or assigned and what can be called are the same on both sides.
use Rattle.std.specs.Prelude.{false, List, ◌++◌, find, map, Option}
use Rattle.seq_tree.specs.Calls.{same_op}
use Rattle.seq_tree.specs.Faults as faults
use Rattle.seq_tree.specs.Operations as operations
use Rattle.seq_tree.specs.Operations.{out_names}
use Rattle.seq_tree.specs.Trees.{offer_of, signature_of}
use Rattle.seq_tree.specs.declared.tree.Datum.{Datum}
use Rattle.seq_tree.specs.declared.tree.OpName.{OpName}
use Rattle.seq_tree.specs.declared.tree.Param.{Param}
use Rattle.seq_check.specs.declared.offers.Offer.{Offer}
use Rattle.seq_check.specs.declared.scope.Scope.{Scope}

-- what is known at the beginning of a body
abbrev pub scope_of : Scope → faults.Scope
scope_of s = record { reads = s.reads.items; writes = s.writes.items; calls = map offer_of s.calls.items; in_loop = false }

-- an operation that can be called, as the code keeps it by reference
abbrev pub offer_view : Offer → operations.Offer
offer_view o = record { object = o.object.now; sig = signature_of o.sig.now }

-- the first operation of a name among these
abbrev pub found_in : OpName → List operations.Offer → Option operations.Offer
found_in n os = find (λ o. same_op (record { object = o.object; op = o.sig.name }) n) os

-- what is known in a body with these parameters and locals, by the data that all bodies know and the operations that can be called
abbrev pub scope_with : List Datum → List operations.Offer → List Param → List Datum → faults.Scope
scope_with data' calls params locals = record {
  reads = map (λ d. d.name) data' ++ (map (λ q. q.name) params ++ map (λ d. d.name) locals);
  writes = map (λ d. d.name) data' ++ (out_names params ++ map (λ d. d.name) locals);
  calls = calls;
  in_loop = false;
}
