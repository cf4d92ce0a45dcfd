-- Values are words, below 2^32, where the numbers of an expression and the variables are.
use Rattle.std.proofs.Common.{◌≡◌, ℕ, suc, ◌+◌, ◌-◌, ◌*◌, ◌/◌, ◌%◌, ◌≤◌, Bool, true, false, not, List, [], ◌∷◌, length, drop, map, refl, ap}
use Rattle.std.proofs.Common.{Option, Some, None, arith}
use Rattle.std.specs.Prelude.{nat_lt, nat_le, ◌==◌, bit_and, cond, filter, option_to_list, if◌then◌else◌}
use Rattle.std.proofs.lemmas.Nat.{and_le_l, or_lt, xor_lt}
use Rattle.std.proofs.Math.Nat.{mod-lt, mod-le, div-le_self}
use Rattle.seq_tree.specs.Lists.{Each}
use Rattle.seq_tree.specs.Names.{Name, same_name}
use Rattle.seq_tree.specs.Expressions.{Expression, Number, Variable, Paren, Not, Binary}
use Rattle.seq_tree.specs.Operations.{Operation, is_out, out_names}
use Rattle.seq_tree.specs.Runs.{request_value}
use Rattle.seq_tree.specs.Values.{value, combined, inverted, truth, is_boolean, modulus, handed, handed_by}
use Rattle.seq_tree.specs.Variables.{Variables, read, write, written, kept, reads, entered, entered_by, opened, stored}
use Rattle.seq_tree.specs.declared.tree.BinOp.{BinOp}
use Rattle.seq_tree.specs.declared.tree.BinOp.TheVariants.{And, Or, Xor, Eq, Ne, Lt, Le, Gt, Ge, Add, Sub, Mul, Div, Mod}
use Rattle.seq_tree.specs.declared.tree.Mode.{Mode}
use Rattle.seq_tree.specs.declared.tree.Mode.TheVariants.{In, Out}
use Rattle.seq_tree.specs.declared.tree.Param.{Param}
use Rattle.seq_tree.specs.declared.tree.Datum.{Datum}
use Rattle.machine.specs.Releases.{parameter}
use Rattle.machine.specs.Systems.{ReleasePattern, Periodic, Requested}
use Rattle.law_lists.proofs.Shared.Lists.{each-append}
use Rattle.law_traces.specs.Told.{IsWord, IsWordWhere}

-- one of two
pub pick : {A : Type 0} (P : A → Type 0) (b : Bool) (x y : A) → P x → P y → P (if b then x else y)
pick P true x y f g = f
pick P false x y f g = g

-- variables whose values are words
abbrev pub HoldWords : Variables → Type 0
HoldWords vars = Each (λ v. IsWord v.1) vars

-- an expression whose numbers are words
abbrev pub FitExpression : Expression → Type 0
FitExpression (Number n) = IsWord n
FitExpression (Variable name) = Unit {0}
FitExpression (Paren e) = FitExpression e
FitExpression (Not e) = FitExpression e
FitExpression (Binary op left right) = FitExpression left × FitExpression right

truth-fits : (b : Bool) → IsWord (truth b)
truth-fits true = omega arith
truth-fits false = omega arith

inverted-fits : (b : Bool) (a : ℕ) → IsWord (inverted b a)
inverted-fits true a = omega arith
inverted-fits false a = omega arith

below : (a b : ℕ) → a ≤ b → IsWord b → IsWord a
below a b h k = omega (arith, h, k)

combined-fits : (op : BinOp) (a b : ℕ) → IsWord a → IsWord b → IsWord (combined op a b)
combined-fits And a b f g = below (bit_and a b) a (and_le_l a b) f
combined-fits Or a b f g = or_lt 32 a b f g
combined-fits Xor a b f g = xor_lt 32 a b f g
combined-fits Eq a b f g = truth-fits (a == b)
combined-fits Ne a b f g = truth-fits (not (a == b))
combined-fits Lt a b f g = truth-fits (nat_lt a b)
combined-fits Le a b f g = truth-fits (nat_le a b)
combined-fits Gt a b f g = truth-fits (nat_lt b a)
combined-fits Ge a b f g = truth-fits (nat_le b a)
combined-fits Add a b f g = mod-lt (a + b) (omega arith)
combined-fits Sub a b f g = mod-lt (a + modulus - b) (omega arith)
combined-fits Mul a b f g = mod-lt (a * b) (omega arith)
combined-fits Div a b f g = below (a / b) a (div-le_self a b) f
combined-fits Mod a b f g = below (a % b) a (mod-le a b) f

pub read-fits : (name : Name) (vars : Variables) → HoldWords vars → IsWord (read name vars)
read-fits name [] w = omega arith
read-fits name (v ∷ vars) w = pick IsWord (same_name name v.0) v.1 (read name vars) w.0 (read-fits name vars w.1)

pub value-fits : (e : Expression) (vars : Variables) → FitExpression e → HoldWords vars → IsWord (value e vars)
value-fits (Number n) vars f w = f
value-fits (Variable name) vars f w = read-fits name vars w
value-fits (Paren e) vars f w = value-fits e vars f w
value-fits (Not e) vars f w = inverted-fits (is_boolean e) (value e vars)
value-fits (Binary op left right) vars f w =
    combined-fits op (value left vars) (value right vars) (value-fits left vars f.0 w) (value-fits right vars f.1 w)

-- variables
pub write-fits : (name : Name) (n : ℕ) (vars : Variables) → IsWord n → HoldWords vars → HoldWords (write name n vars)
write-fits name n [] f w = tt
write-fits name n (v ∷ vars) f w =
    pick HoldWords (same_name name v.0) ((v.0, n) ∷ vars) (v ∷ write name n vars) (f, w.1) (w.0, write-fits name n vars f w.1)

pub kept-fits : (data' : List Datum) (vars : Variables) → HoldWords vars → HoldWords (kept data' vars)
kept-fits [] vars w = tt
kept-fits (d ∷ ds) vars w = (read-fits d.name vars w, kept-fits ds vars w)

pub reads-fit : (names : List Name) (vars : Variables) → HoldWords vars → Each IsWord (reads names vars)
reads-fit [] vars w = tt
reads-fit (n ∷ ns) vars w = (read-fits n vars w, reads-fit ns vars w)

pub stored-fits : (names : List Name) (values : List ℕ) (vars : Variables) → Each IsWord values → HoldWords vars
    → HoldWords (stored names values vars)
stored-fits [] values vars f w = w
stored-fits (n ∷ ns) [] vars f w = w
stored-fits (n ∷ ns) (v ∷ values) vars f w = stored-fits ns values (write n v vars) f.1 (write-fits n v vars f.0 w)

pub drop-fits : (vars : Variables) → HoldWords vars → HoldWords (drop 1 vars)
drop-fits [] w = tt
drop-fits (v ∷ vars) w = w.1

-- parameters
entered-by-fits : (m : Mode) (name : Name) (others : List ℕ → Variables) (values : List ℕ) → ((vs : List ℕ) → Each IsWord vs → HoldWords (others vs))
    → Each IsWord values → HoldWords (entered_by m name values others)
entered-by-fits In name others [] more w = (omega arith, more [] tt)
entered-by-fits In name others (v ∷ values) more w = (w.0, more values w.1)
entered-by-fits Out name others values more w = (omega arith, more values w)

pub entered-fits : (ps : List Param) (values : List ℕ) → Each IsWord values → HoldWords (entered ps values)
entered-fits [] values w = tt
entered-fits (p ∷ ps) values w = entered-by-fits p.mode p.name (entered ps) values (entered-fits ps) w

pub opened-fits : (o : Operation) (values : List ℕ) → HoldWords (written o.locals) → Each IsWord values → HoldWords (opened o values)
opened-fits o values locals w =
    each-append (λ v. IsWord v.1) (entered o.sig.params values) (written o.locals) (entered-fits o.sig.params values w) locals

-- values that are handed in: at most as many as there are parameters
abbrev Few : ℕ → List ℕ → Type 0
Few n values = Each IsWord values × (length values ≤ n)

handed-by-fits : (m : Mode) (v n : ℕ) (others : List ℕ) → IsWord v → Few n others → Few (suc n) (handed_by m v others)
handed-by-fits In v n others f w = ((f, w.0), omega (arith, w.1))
handed-by-fits Out v n others f w = (w.0, omega (arith, w.1))

pub handed-fits : (ps : List Param) (actuals : List Expression) (vars : Variables) → Each FitExpression actuals → HoldWords vars
    → Each IsWord (handed ps actuals vars) × (length (handed ps actuals vars) ≤ length ps)
handed-fits [] actuals vars f w = (tt, omega arith)
handed-fits (p ∷ ps) [] vars f w = (tt, omega arith)
handed-fits (p ∷ ps) (a ∷ as') vars f w =
    handed-by-fits p.mode (value a vars) (length ps) (handed ps as' vars) (value-fits a vars f.0 w) (handed-fits ps as' vars f.1 w)

pub outs-few : (ps : List Param) → length (out_names ps) ≤ length ps
outs-few [] = omega arith
outs-few (p ∷ ps) = by (is_out p.mode) (outs-few ps)
  where
    by : (b : Bool) → length (out_names ps) ≤ length ps → length (map (λ (q : Param). q.name) (cond b (p ∷ filter (λ q. is_out q.mode) ps)
        (filter (λ q. is_out q.mode) ps))) ≤ suc (length ps)
    by true h = omega (arith, h)
    by false h = omega (arith, h)

pub reads-few : (names : List Name) (vars : Variables) → length (reads names vars) ≡ length names
reads-few [] vars = refl
reads-few (n ∷ ns) vars = ap suc (reads-few ns vars)

-- requests
pub request-fits : (actuals : List Expression) (vars : Variables) → Each FitExpression actuals → HoldWords vars
    → IsWordWhere (request_value actuals vars)
request-fits [] vars f w = tt
request-fits (e ∷ es) vars f w = value-fits e vars f.0 w

listed-fits : (v : Option ℕ) → IsWordWhere v → Each IsWord (option_to_list v)
listed-fits None w = tt
listed-fits (Some n) w = (w, tt)

pub parameter-fits : (timing : ReleasePattern) (v : Option ℕ) → IsWordWhere v → HoldWords (parameter timing v)
parameter-fits (Periodic offset period) v w = tt
parameter-fits (Requested op ceiling separation jitter external) v w = entered-fits op.params (option_to_list v) (listed-fits v w)
