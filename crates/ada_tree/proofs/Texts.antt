-- The texts of the format, read as tokens, are those of the trees.
use Rattle.std.specs.Prelude.{◌≡◌, ℕ, true, false, List, [], ◌∷◌, ◌++◌, map, Result, Ok, Err, codes, flat_map, refl}
use Rattle.seq_tree.specs.Expressions.{Number, Variable, Binary}
use Rattle.seq_tree.specs.Statements.{Assign, Null, Work, End, Then}
use Rattle.seq_tree.specs.Lexis.{Misread, tokens, tokens_after, front_by, start_of, name_front, number_front, longest}
use Rattle.seq_tree.specs.Marks.{mark_of}
use Rattle.seq_tree.specs.Spelling.{joined}
use Rattle.seq_tree.specs.declared.tree.BinOp.TheVariants as op
use Rattle.seq_tree.specs.declared.token.Token.{Token}
use Rattle.seq_tree.specs.declared.token.Spanned.{Spanned}
use Rattle.seq_tree.specs.declared.tree.Costs.{Costs}
use Rattle.seq_tree.specs.declared.tree.Mode.TheVariants.{In, Out}
use Rattle.ada_tree.specs.Programs.{Unit, Passive, Shared, Cyclic, Sporadic}
use Rattle.ada_tree.specs.Spelling.{program_tokens, specification_lines, unit_body_lines}
use Rattle.ada_tree.proofs.Shared.OneCyclic.{one_cyclic_lines}

abbrev read : Result (List Spanned) Misread → List Token
read (Ok ts) = map (λ t. t.token) ts
read (Err e) = []

-- line by line, since reading the whole of a long text takes too many steps here
abbrev read_text : List (List ℕ) → List Token
read_text lines = flat_map (λ l. read (tokens l)) lines

abbrev unit_costs : Costs
unit_costs = record { assign = 1; test = 1; turn = 1; call = 2; nothing = 1; put = 1; finish = 1 }

-- the text of one cyclic task that works
one_cyclic : program_tokens
    (record { name = codes "d"; costs = unit_costs; units = record { name = codes "a"; form = Cyclic 1 0 10 [] (Then (Work 3) End) } ∷ [] })
    ≡ read_text one_cyclic_lines
unfolding tokens tokens_after front_by start_of name_front number_front longest mark_of
one_cyclic = refl

-- a unit with its specification and its body
abbrev unit_tokens : Unit → List Token
unit_tokens u = joined (specification_lines u ++ unit_body_lines u)

sporadic : unit_tokens (record {
  name = codes "s";
  form = Sporadic 2 2
      (record { name = codes "start"; params = record { name = codes "v"; mode = In } ∷ [] }) 50 0 false [] (Then (Work 4) End);
})
    ≡ read_text
    (codes "   package s is"
    ∷ codes "      protected hrt_obcs is"
    ∷ codes "         pragma priority (2);"
    ∷ codes "         procedure start (v : in word);"
    ∷ codes "         entry hrt_wait (hrt_request : out word);"
    ∷ codes "      private"
    ∷ codes "         hrt_value : word := 0;"
    ∷ codes "         hrt_open : boolean := false;"
    ∷ codes "      end hrt_obcs;"
    ∷ codes "      procedure start (v : in word) renames hrt_obcs.start;"
    ∷ codes "      task hrt_thread is"
    ∷ codes "         pragma priority (2);"
    ∷ codes "      end hrt_thread;"
    ∷ codes "      hrt_separation : constant := 50;"
    ∷ codes "      hrt_jitter : constant := 0;"
    ∷ codes "      hrt_external : constant boolean := false;"
    ∷ codes "   end s;"
    ∷ codes "   package body s is"
    ∷ codes "      protected body hrt_obcs is"
    ∷ codes "         procedure start (v : in word) is"
    ∷ codes "         begin"
    ∷ codes "            hrt_value := v;"
    ∷ codes "            hrt_open := true;"
    ∷ codes "         end start;"
    ∷ codes "         entry hrt_wait (hrt_request : out word) when hrt_open is"
    ∷ codes "         begin"
    ∷ codes "            hrt_request := hrt_value;"
    ∷ codes "            hrt_open := false;"
    ∷ codes "         end hrt_wait;"
    ∷ codes "      end hrt_obcs;"
    ∷ codes "      task body hrt_thread is"
    ∷ codes "         v : word := 0;"
    ∷ codes "      begin"
    ∷ codes "         loop"
    ∷ codes "            hrt_obcs.hrt_wait (v);"
    ∷ codes "            work (4);"
    ∷ codes "            activation_end;"
    ∷ codes "         end loop;"
    ∷ codes "      end hrt_thread;"
    ∷ codes "   end s;" ∷ [])
unfolding tokens tokens_after front_by start_of name_front number_front longest mark_of
sporadic = refl

protected : unit_tokens (record {
  name = codes "q";
  form = Shared 2 (record { name = codes "last"; value = 0 } ∷ [])
      (record {
        sig = record { name = codes "set"; params = record { name = codes "v"; mode = In } ∷ [] };
        locals = [];
        block = Then
            (Assign (codes "last") (Variable (codes "v"))) End;
      } ∷ []);
})
    ≡ read_text
    (codes "   package q is"
    ∷ codes "      protected hrt_object is"
    ∷ codes "         pragma priority (2);"
    ∷ codes "         procedure set (v : in word);"
    ∷ codes "      private"
    ∷ codes "         last : word := 0;"
    ∷ codes "      end hrt_object;"
    ∷ codes "      procedure set (v : in word) renames hrt_object.set;"
    ∷ codes "   end q;"
    ∷ codes "   package body q is"
    ∷ codes "      protected body hrt_object is"
    ∷ codes "         procedure set (v : in word) is"
    ∷ codes "         begin"
    ∷ codes "            last := v;"
    ∷ codes "         end set;"
    ∷ codes "      end hrt_object;"
    ∷ codes "   end q;" ∷ [])
unfolding tokens tokens_after front_by start_of name_front number_front longest mark_of
protected = refl

passive : unit_tokens (record {
  name = codes "p";
  form = Passive
      (record {
        sig = record { name = codes "next"; params = record { name = codes "a"; mode = In } ∷ record { name = codes "r"; mode = Out } ∷ [] };
        locals = record { name = codes "t"; value = 1 } ∷ [];
        block = Then (Assign (codes "r") (Binary op.Add (Binary op.Mul (Variable (codes "a")) (Number 3)) (Variable (codes "t")))) End;
      } ∷ []);
})
    ≡ read_text
    (codes "   package p is"
    ∷ codes "      procedure next (a : in word; r : out word);"
    ∷ codes "   end p;"
    ∷ codes "   package body p is"
    ∷ codes "      procedure next (a : in word; r : out word) is"
    ∷ codes "         t : word := 1;"
    ∷ codes "      begin"
    ∷ codes "         r := a * 3 + t;"
    ∷ codes "      end next;"
    ∷ codes "   end p;" ∷ [])
unfolding tokens tokens_after front_by start_of name_front number_front longest mark_of
passive = refl

-- a request without a parameter, which comes from outside, and a datum
request_alone : unit_tokens
    (record {
      name = codes "s";
      form = Sporadic 1 3 (record { name = codes "start"; params = [] }) 80 5 true
          (record { name = codes "x"; value = 7 } ∷ []) (Then Null End);
    })
    ≡ read_text
    (codes "   package s is"
    ∷ codes "      protected hrt_obcs is"
    ∷ codes "         pragma priority (3);"
    ∷ codes "         procedure start;"
    ∷ codes "         entry hrt_wait (hrt_request : out word);"
    ∷ codes "      private"
    ∷ codes "         hrt_value : word := 0;"
    ∷ codes "         hrt_open : boolean := false;"
    ∷ codes "      end hrt_obcs;"
    ∷ codes "      procedure start renames hrt_obcs.start;"
    ∷ codes "      task hrt_thread is"
    ∷ codes "         pragma priority (1);"
    ∷ codes "      end hrt_thread;"
    ∷ codes "      hrt_separation : constant := 80;"
    ∷ codes "      hrt_jitter : constant := 5;"
    ∷ codes "      hrt_external : constant boolean := true;"
    ∷ codes "   end s;"
    ∷ codes "   package body s is"
    ∷ codes "      x : word := 7;"
    ∷ codes "      protected body hrt_obcs is"
    ∷ codes "         procedure start is"
    ∷ codes "         begin"
    ∷ codes "            hrt_value := 0;"
    ∷ codes "            hrt_open := true;"
    ∷ codes "         end start;"
    ∷ codes "         entry hrt_wait (hrt_request : out word) when hrt_open is"
    ∷ codes "         begin"
    ∷ codes "            hrt_request := hrt_value;"
    ∷ codes "            hrt_open := false;"
    ∷ codes "         end hrt_wait;"
    ∷ codes "      end hrt_obcs;"
    ∷ codes "      task body hrt_thread is"
    ∷ codes "         hrt_request : word := 0;"
    ∷ codes "      begin"
    ∷ codes "         loop"
    ∷ codes "            hrt_obcs.hrt_wait (hrt_request);"
    ∷ codes "            null;"
    ∷ codes "            activation_end;"
    ∷ codes "         end loop;"
    ∷ codes "      end hrt_thread;"
    ∷ codes "   end s;" ∷ [])
unfolding tokens tokens_after front_by start_of name_front number_front longest mark_of
request_alone = refl

-- units without operations, of which the protected one keeps `private`
nothing_offered : unit_tokens (record { name = codes "p"; form = Passive [] })
    ≡ read_text (codes "   package p is" ∷ codes "   end p;" ∷ codes "   package body p is" ∷ codes "   end p;" ∷ [])
unfolding tokens tokens_after front_by start_of name_front number_front longest mark_of
nothing_offered = refl

nothing_kept : unit_tokens (record { name = codes "q"; form = Shared 2 [] [] })
    ≡ read_text
    (codes "   package q is"
    ∷ codes "      protected hrt_object is"
    ∷ codes "         pragma priority (2);"
    ∷ codes "      private"
    ∷ codes "      end hrt_object;"
    ∷ codes "   end q;"
    ∷ codes "   package body q is"
    ∷ codes "      protected body hrt_object is"
    ∷ codes "      end hrt_object;"
    ∷ codes "   end q;" ∷ [])
unfolding tokens tokens_after front_by start_of name_front number_front longest mark_of
nothing_kept = refl
