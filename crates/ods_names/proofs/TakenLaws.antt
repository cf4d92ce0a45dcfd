-- A name is taken where one of the sets of its role has it, and what is told of names one after another.
use Rattle.std.proofs.Common.{◌≡◌, ℕ, ◌+◌, ◌<◌, ◌≤◌, Bool, true, false, ◌&&◌, ◌||◌, List, [], ◌∷◌, ◌++◌, map, drop, length, Option, Some, None}
use Rattle.std.proofs.Common.{option_to_list, Result, Err, refl, ap, sym, subst, ◌∙◌}
use Rattle.std.specs.List.{list_any, cons_option}
use Rattle.std.proofs.Math.ListN.{get_or, drop_of_length-le}
use Rattle.seq_tree.specs.Names.{Name, same_name, is_named}
use Rattle.seq_tree.proofs.Shared.LoopSteps.{drop_step}
use Rattle.ods_tree.specs.Walk.{only_if}
use Rattle.design_rules.specs.Broken.{Broken, V01}
use Rattle.design_rules.specs.Clashes as clashes
use Rattle.design_rules.specs.Clashes.{Mention, Role, excludes, is_taken, clashes_after}
use Rattle.ods_names.specs.Mentions.{mention_by, role_of}
use Rattle.ods_names.specs.Taken.{is_single, is_member, is_bodied, is_parameter, is_asked, is_bodied_parameter, is_local, names_where, Holds}
use Rattle.ods_names.specs.Taken.{taken_in}
use Rattle.ods_names.specs.declared.mentions.Role as roles
use Rattle.ods_names.specs.declared.mentions.Role.TheVariants as role
use Rattle.ods_names.specs.declared.taken.Taken.{Taken}
use Rattle.ods_index.specs.declared.broken.Broken as code
use Rattle.ods_index.specs.Judging.{Tells, head_of}
use Rattle.ods_names.proofs.Shared.NeedSteps.{told_of_all}
use Rattle.ods_names.proofs.TakenSteps.{same_sort, or_sort, only_sort, none_sort, before_whole, before_single, before_member, before_parameter}
use Rattle.ods_names.proofs.TakenSteps.{before_loop, before_body, before_local}

cons_given : {B : Type 0} (o : Option B) (ys : List B) → cons_option o ys ≡ option_to_list o ++ ys
cons_given None ys = refl
cons_given (Some b) ys = refl

head_given : {B : Type 0} (o : Option B) → head_of (option_to_list o) ≡ o
head_given None = refl
head_given (Some b) = refl

-- two tests of sets, and then one of either sort
joined : (f g : Role → Bool) (es : List Mention) (n : Name) {a b : Bool} → a ≡ names_where f es n → b ≡ names_where g es n
    → (a || b) ≡ names_where (λ r. f r || g r) es n
joined f g es n {a} {b} one two = ap (λ z. z || b) one ∙ ap (λ z. names_where f es n || z) two ∙ sym (or_sort f g es n)

-- a name is taken where the sets of its role have it
pub taken_is : (q : ℕ → List Name) (t : Taken) (es : List Mention) → Holds q t es → (r : roles.Role) (n : Name) →
    taken_in t r n ≡ list_any (λ e. same_name e.name n && excludes e.role (role_of q r)) es
taken_is q t es h role.Whole n = sym (none_sort es n) ∙ same_sort (λ r. false) (λ r. excludes r clashes.Whole) before_whole es n
taken_is q t es h role.Single n = h.all_in n ∙ same_sort (λ r. true) (λ r. excludes r clashes.Single) before_single es n
taken_is q t es h (role.Member p) n =
    joined (λ r. is_single r || is_member p r) (is_bodied p) es n (joined is_single (is_member p) es n (h.objects_in n) (h.members_in p n))
    (h.bodied_in p n)
    ∙ same_sort (λ r. (is_single r || is_member p r) || is_bodied p r) (λ r. excludes r (clashes.Member p)) (before_member p) es n
taken_is q t es h (role.Parameter p op b) n =
    joined (λ r. is_single r || (b && is_member p r)) (is_bodied_parameter p op.now) es n
    (joined is_single (λ r. b && is_member p r) es n (h.objects_in n) (ap (λ z. b && z) (h.members_in p n) ∙ sym (only_sort b (is_member p) es n)))
    (h.bodied_parameters_in p op.now n)
    ∙ same_sort (λ r. (is_single r || (b && is_member p r)) || is_bodied_parameter p op.now r) (λ r. excludes r (clashes.Parameter p op.now b))
    (before_parameter p op.now b) es n
taken_is q t es h (role.Local p c op) n =
    joined (λ r. (is_single r || is_member p r) || is_parameter p op.now r) (is_local p c) es n
    (joined (λ r. is_single r || is_member p r) (is_parameter p op.now) es n (joined is_single (is_member p) es n (h.objects_in n) (h.members_in p n))
    (h.parameters_in p op.now n)) (h.locals_in p c n)
    ∙ same_sort (λ r. ((is_single r || is_member p r) || is_parameter p op.now r) || is_local p c r) (λ r. excludes r (clashes.Local p c op.now))
    (before_local p c op.now) es n
taken_is q t es h (role.Loop p c op) n =
    joined (λ r. (is_single r || is_member p r) || is_parameter p op.now r) (is_local p c) es n
    (joined (λ r. is_single r || is_member p r) (is_parameter p op.now) es n (joined is_single (is_member p) es n (h.objects_in n) (h.members_in p n))
    (h.parameters_in p op.now n)) (h.locals_in p c n)
    ∙ same_sort (λ r. ((is_single r || is_member p r) || is_parameter p op.now r) || is_local p c r)
    (λ r. excludes r (clashes.Loop p c (op.now ∷ []))) (before_body p c op.now) es n
taken_is q t es h (role.ThreadLoop p c) n =
    joined (λ r. (is_single r || is_member p r) || is_asked (q p) p r) (is_local p c) es n
    (joined (λ r. is_single r || is_member p r) (is_asked (q p) p) es n (joined is_single (is_member p) es n (h.objects_in n) (h.members_in p n))
    (h.asked_in p n)) (h.locals_in p c n)
    ∙ same_sort (λ r. ((is_single r || is_member p r) || is_asked (q p) p r) || is_local p c r) (λ r. excludes r (clashes.Loop p c (q p)))
    (before_loop p c (q p)) es n

-- a name is a clash where the sets of its role have it, or a loop that is open
pub clash_is : (q : ℕ → List Name) (t : Taken) (es : List Mention) → Holds q t es → (r : roles.Role) (n : Name) (open' : List Name)
    → (taken_in t r n || is_named open' n) ≡ is_taken es (mention_by q r n open')
clash_is q t es h r n open' = ap (λ b. b || is_named open' n) (taken_is q t es h r n)

-- what is told of one name is told of those from it on
pub clash_told : {X : Type 0} (v : X → Mention) (xs : List X) (i : ℕ) (x : X) (es : List Mention) (all : Option Broken) (e : code.Broken)
    → i < length xs → x ≡ get_or xs i x →
    head_of (clashes_after es (map v (drop i xs))) ≡ all → Tells (Err e) (only_if (is_taken es (v x)) (V01 (v x).name)) → Tells (Err e) all
clash_told v xs i x es all e inside at before h =
    let first = only_if (is_taken es (v x)) (V01 (v x).name) in
    let rest = clashes_after (v x ∷ es) (map v (drop (i + 1) xs)) in
    let Told : Option Broken → Type 0 = λ w. Tells (Err e) w in
    told_of_all e (option_to_list first) rest all
    (ap head_of (sym (cons_given first rest) ∙ ap (λ ys. clashes_after es (map v ys)) (sym (drop_step xs i x inside at))) ∙ before)
    (subst Told (sym (head_given first)) h)

-- where nothing is told of one name, the first of those from it on is that of those behind it
pub clash_passed : {X : Type 0} (v : X → Mention) (xs : List X) (i : ℕ) (x : X) (es : List Mention) (all : Option Broken) → i < length xs
    → x ≡ get_or xs i x →
    head_of (clashes_after es (map v (drop i xs))) ≡ all → only_if (is_taken es (v x)) (V01 (v x).name) ≡ None
    → head_of (clashes_after (v x ∷ es) (map v (drop (i + 1) xs))) ≡ all
clash_passed v xs i x es all inside at before none =
    let rest = clashes_after (v x ∷ es) (map v (drop (i + 1) xs)) in
    ap (λ o. head_of (cons_option o rest)) (sym none) ∙ ap (λ ys. head_of (clashes_after es (map v ys))) (sym (drop_step xs i x inside at)) ∙ before

-- none is left
pub clash_end : {X : Type 0} (v : X → Mention) (xs : List X) (i : ℕ) (es : List Mention) (all : Option Broken) → length xs ≤ i
    → head_of (clashes_after es (map v (drop i xs))) ≡ all → all ≡ None
clash_end v xs i es all done before = sym before ∙ ap (λ ys. head_of (clashes_after es (map v ys))) (drop_of_length-le xs done)

-- what is told where a name is taken, and where it is not
pub told_where : (taken : Bool) (b : Broken) (r : Result (Unit {0}) code.Broken) → taken ≡ true → Tells r (Some b) → Tells r (only_if taken b)
told_where true b r e h = h
told_where false b r e h = absurd (cc)

pub quiet_where : (taken : Bool) (b : Broken) → taken ≡ false → only_if taken b ≡ None
quiet_where false b e = refl
quiet_where true b e = absurd (cc)
