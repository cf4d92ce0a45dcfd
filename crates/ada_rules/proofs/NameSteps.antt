-- Lists of names, one name at a time.
use Rattle.std.proofs.Common.{◌≡◌, ℕ, ◌+◌, ◌<◌, Bool, true, false, not, ◌&&◌, ◌||◌, List, [], ◌∷◌, ◌++◌, length, take, drop, Option, Some}
use Rattle.std.proofs.Common.{None, option_to_list, IsSome, refl, sym, ap, ◌∙◌, arith, append_assoc, append-nil}
use Rattle.std.proofs.Math.ListN.{get_or}
use Rattle.std.proofs.Math.Path.{fun_ext}
use Rattle.std.proofs.Math.Bool.{and_assoc, or-false}
use Rattle.std.proofs.lemmas.List.{map-append}
use Rattle.std.proofs.lemmas.List.Folds.{list_any-append}
use Rattle.std.specs.Borrow.{Bor}
use Rattle.seq_tree.specs.Names.{Name, same_name, is_named}
use Rattle.seq_tree.proofs.Shared.LoopSteps.{drop_step, take_step}
use Rattle.ada_rules.specs.Clashes.{are_new, front}
use Rattle.ada_rules.specs.Lists.{names_of}

-- a name more among names
pub named-push : (ns : List Name) (n m : Name) → is_named (ns ++ n ∷ []) m ≡ (is_named ns m || same_name n m)
named-push ns n m = list_any-append (λ k. same_name k m) ns (n ∷ []) ∙ ap (λ b. is_named ns m || b) (or-false (same_name n m))

pub named_step : (xs : List (Bor Name)) (i : ℕ) (x : Bor Name) (m : Name) → i < length xs → x ≡ get_or xs i x
    → is_named (names_of (take (i + 1) xs)) m ≡ (is_named (names_of (take i xs)) m || same_name x.now m)
named_step xs i x m inside at =
    ap (λ ys. is_named (names_of ys) m) (take_step xs i x inside at) ∙ ap (λ ns. is_named ns m) (map-append (λ n. n.now) (take i xs) (x ∷ []))
    ∙ named-push (names_of (take i xs)) x.now m

-- whether names are new depends on which names are taken
pub are_new-same : (f g : Name → Bool) (ns : List Name) → ((n : Name) → f n ≡ g n) → are_new f ns ≡ are_new g ns
are_new-same f g ns same = ap (λ (h : Name → Bool). are_new h ns) (fun_ext same)

-- one name more is new
pub new_step : (test after : Name → Bool) (xs : List (Bor Name)) (i : ℕ) (x : Bor Name) (all new : Bool) → i < length xs → x ≡ get_or xs i x →
    new ≡ not (test x.now) → ((m : Name) → after m ≡ (same_name x.now m || test m)) →
    ((all && new) && are_new after (names_of (drop (i + 1) xs))) ≡ (all && are_new test (names_of (drop i xs)))
new_step test after xs i x all new inside at fresh added =
    let rest : List Name = names_of (drop (i + 1) xs) in
    and_assoc all new (are_new after rest)
    ∙ ap (λ b. all && (b && are_new after rest)) fresh
    ∙ ap (λ b. all && (not (test x.now) && b)) (are_new-same after (λ m. same_name x.now m || test m) rest added)
    ∙ ap (λ ys. all && are_new test (names_of ys)) (sym (drop_step xs i x inside at))

-- the last of a list
pub front-push : (ns : List Name) (n : Name) → front (ns ++ n ∷ []) ≡ ns
front-push [] n = refl
front-push (m ∷ []) n = refl
front-push (m ∷ k ∷ ns) n = ap (λ ms. m ∷ ms) (front-push (k ∷ ns) n)

-- a list that lost its last element, if it had one
pub left_one : (old new : List (Bor Name)) (last : Option (Bor Name)) → old ≡ new ++ option_to_list last → (0 < length old → IsSome last)
    → names_of new ≡ front (names_of old)
left_one [] new None joined some = ap names_of (sym (append-nil new) ∙ sym joined)
left_one (x ∷ xs) new None joined some = let h : false ≡ true = some (omega arith) in cc
left_one old new (Some x) joined some =
    sym (ap (λ xs. front (names_of xs)) joined ∙ ap front (map-append (λ n. n.now) new (x ∷ [])) ∙ front-push (names_of new) x.now)

-- which of three comes first
pub or_turn : (a b c : Bool) → (a || (b || c)) ≡ ((b || a) || c)
or_turn true true c = refl
or_turn true false c = refl
or_turn false true c = refl
or_turn false false c = refl

-- three lists, one behind another
pub joined_three : {A : Type 0} (old one two all a b c : List A) → one ≡ old ++ a → two ≡ one ++ b → all ≡ two ++ c → all ≡ old ++ ((a ++ b) ++ c)
joined_three old one two all a b c first second third =
    third ∙ ap (λ z. z ++ c) (second ∙ ap (λ z. z ++ b) first ∙ append_assoc old a b) ∙ append_assoc old (a ++ b) c
