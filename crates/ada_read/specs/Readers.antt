-- Reading a program of any units, one production after another, over any reader of blocks.
-- The text keeps to ISO/IEC 8652:2012; its form is this project's own.
use Rattle.std.specs.Prelude.{ℕ, Bool, true, false, List, [], ◌∷◌, Option, Some, None, codes, if◌then◌else◌}
use Rattle.grammar.specs.Reading.{Read, then_at, pure_at, choose_at, many_at, each_at}
use Rattle.seq_tree.specs.Names.{Name, same_name}
use Rattle.seq_tree.specs.Operations.{Signature, Operation}
use Rattle.seq_tree.specs.Statements.{Statements}
use Rattle.seq_tree.specs.declared.tree.Costs.{Costs}
use Rattle.seq_tree.specs.declared.tree.Mode.TheVariants.{In}
use Rattle.seq_tree.specs.declared.tree.Param.{Param}
use Rattle.seq_tree.specs.declared.tree.Datum.{Datum}
use Rattle.seq_tree.specs.declared.token.Token.{Token}
use Rattle.seq_tree.specs.declared.token.Token.TheVariants.{Word, Sign}
use Rattle.seq_tree.specs.declared.token.Mark.TheVariants.{LeftParen, Semicolon}
use Rattle.ada_tree.specs.Programs.{Form, Program, Passive, Shared, Cyclic, Sporadic}
use Rattle.ada_tree.specs.Programs as programs
use Rattle.ada_tree.specs.Spelling.{head_tokens, kept_token, request_token}
use Rattle.ada_tree.specs.Words.{is_ada_name}
use Rattle.token_read.specs.Readers.{fixed_at, phrase_at, number_at, name_at, next_is}
use Rattle.seq_read.specs.Parts.{end_tokens, named_at, param_at, params_from_at, data_at}
use Rattle.seq_read.specs.Statements.{BlockReader, block_at}
use Rattle.ada_read.specs.declared.fixed_text.FixedText.{FixedText}
use Rattle.ada_read.specs.declared.fixed_text.FixedText.TheVariants as fixed
use Rattle.ada_read.specs.declared.fixed_text.CostName.{CostName}
use Rattle.ada_read.specs.declared.fixed_text.CostName.TheVariants as cost
use Rattle.ada_read.specs.FixedTexts.{fixed_tokens, cost_name}
use Rattle.ada_read.specs.Heads.{Head, PassiveHead, SharedHead, CyclicHead, SporadicHead, head_name}

-- the blocks of an Ada text: at most 32 operators in a chain, and nesting of at most 64
abbrev pub ada_block_at : BlockReader
ada_block_at = block_at is_ada_name 32 64

-- a fixed text
abbrev pub text_at : FixedText → List Token → Read Token (Unit {0})
text_at text = phrase_at (fixed_tokens text)

-- a word of the text
abbrev pub word_at : List ℕ → List Token → Read Token (Unit {0})
word_at text = fixed_at (Word text)

-- the cost of a kind of statement
unfoldable pub cost_at : CostName → List Token → Read Token ℕ
cost_at c =
    then_at (word_at (cost_name c)) (λ _. then_at (text_at fixed.Constant) (λ _. then_at number_at (λ n.
    then_at (fixed_at (Sign Semicolon)) (λ _. pure_at n))))

-- all costs
unfoldable pub costs_at : List Token → Read Token Costs
costs_at =
    then_at (cost_at cost.Assign) (λ assign. then_at (cost_at cost.Test) (λ test. then_at (cost_at cost.Turn) (λ turn.
    then_at (cost_at cost.Call) (λ call. then_at (cost_at cost.Null) (λ nothing. then_at (cost_at cost.Put) (λ put.
    then_at (cost_at cost.Finish) (λ finish.
    pure_at (record { assign = assign; test = test; turn = turn; call = call; nothing = nothing; put = put; finish = finish }))))))))

-- parameters, one at least, and the end of their declaration
unfoldable pub listed_at : List Token → Read Token (List Param)
listed_at =
    then_at (fixed_at (Sign LeftParen)) (λ _. then_at (param_at is_ada_name)
    (λ p. then_at (params_from_at is_ada_name p) (λ ps. then_at (text_at fixed.Close) (λ _. pure_at ps))))

-- no parameters, and the end of their declaration
unfoldable pub unlisted_at : List Token → Read Token (List Param)
unlisted_at = then_at (fixed_at (Sign Semicolon)) (λ _. pure_at [])

-- parameters, and the end of their declaration
unfoldable pub params_at : List Token → Read Token (List Param)
params_at = choose_at (next_is (Sign LeftParen)) listed_at unlisted_at

-- the declaration of an operation
unfoldable pub declaration_at : List Token → Read Token Signature
declaration_at =
    then_at (word_at (codes "procedure")) (λ _. then_at (name_at is_ada_name)
    (λ name. then_at params_at (λ params. pure_at (record { name = name; params = params }))))

-- declarations of operations
unfoldable pub declarations_at : List Token → Read Token (List Signature)
declarations_at = many_at (next_is (Word (codes "procedure"))) declaration_at

-- the name by which the request of a sporadic unit is called
unfoldable pub request_renaming_at : Signature → List Token → Read Token (Unit {0})
request_renaming_at sig =
    then_at (phrase_at (head_tokens sig)) (λ _. then_at (text_at fixed.RequestRenames) (λ _. phrase_at (Word sig.name ∷ Sign Semicolon ∷ [])))

-- the name by which an operation of a protected unit is called
unfoldable pub renaming_at : Signature → List Token → Read Token (Unit {0})
renaming_at sig = then_at (phrase_at (head_tokens sig)) (λ _. then_at (text_at fixed.Renames) (λ _. phrase_at (Word sig.name ∷ Sign Semicolon ∷ [])))

-- the names by which the operations of a protected unit are called
abbrev pub renamings_at : List Signature → List Token → Read Token (Unit {0})
renamings_at [] = pure_at tt
renamings_at (sig ∷ sigs) = then_at (renaming_at sig) (λ _. renamings_at sigs)

-- the parameter of a request, and the end of its declaration
unfoldable pub request_param_at : List Token → Read Token (List Param)
request_param_at =
    then_at (fixed_at (Sign LeftParen))
    (λ _. then_at (name_at is_ada_name) (λ name. then_at (text_at fixed.RequestParam) (λ _. pure_at (record { name = name; mode = In } ∷ []))))

-- the declaration of a request
unfoldable pub request_at : List Token → Read Token Signature
request_at =
    then_at (word_at (codes "procedure")) (λ _. then_at (name_at is_ada_name)
    (λ name. then_at (choose_at (next_is (Sign LeftParen)) request_param_at unlisted_at) (λ params.
    pure_at (record { name = name; params = params }))))

-- a truth value
unfoldable pub truth_named : Name → Option Bool
truth_named name = if same_name name (codes "true") then Some true else (if same_name name (codes "false") then Some false else None)

-- a specification with a cyclic task, behind its name
unfoldable pub cyclic_head_at : Name → List Token → Read Token Head
cyclic_head_at name =
    then_at (text_at fixed.TaskHead)
    (λ _. then_at number_at (λ priority. then_at (text_at fixed.TaskEnd) (λ _. then_at (phrase_at (end_tokens name)) (λ _.
    pure_at (CyclicHead name priority)))))

-- a passive specification, behind its name
unfoldable pub passive_head_at : Name → List Token → Read Token Head
passive_head_at name = then_at declarations_at (λ sigs. then_at (phrase_at (end_tokens name)) (λ _. pure_at (PassiveHead name sigs)))

-- a protected specification, behind `protected`
unfoldable pub shared_head_at : Name → List Token → Read Token Head
shared_head_at name =
    then_at (text_at fixed.ObjectHead) (λ _. then_at number_at (λ ceiling. then_at (text_at fixed.Close) (λ _. then_at declarations_at (λ sigs.
    then_at (word_at (codes "private"))
    (λ _. then_at (data_at is_ada_name) (λ vars. then_at (text_at fixed.ObjectEnd) (λ _. then_at (renamings_at sigs) (λ _.
    then_at (phrase_at (end_tokens name)) (λ _. pure_at (SharedHead name ceiling sigs vars))))))))))

-- the constants of a sporadic specification, from its priority on, and its end
unfoldable pub constants_at : Name → ℕ → Signature → List Token → Read Token Head
constants_at name ceiling op =
    then_at (text_at fixed.TaskHead) (λ _. then_at number_at (λ priority. then_at (text_at fixed.Separation) (λ _. then_at number_at (λ separation.
    then_at (text_at fixed.Jitter)
    (λ _. then_at number_at (λ jitter. then_at (text_at fixed.External) (λ _. then_at (named_at truth_named) (λ external.
    then_at (fixed_at (Sign Semicolon)) (λ _. then_at (phrase_at (end_tokens name))
    (λ _. pure_at (SporadicHead name priority ceiling op separation jitter external)))))))))))

-- a sporadic specification, behind `protected`
unfoldable pub sporadic_head_at : Name → List Token → Read Token Head
sporadic_head_at name =
    then_at (text_at fixed.RequestHead) (λ _. then_at number_at (λ ceiling. then_at (text_at fixed.Close) (λ _. then_at request_at (λ op.
    then_at (text_at fixed.Entry) (λ _. then_at (request_renaming_at op) (λ _. constants_at name ceiling op))))))

-- a specification with a protected object, behind its name
unfoldable pub object_head_at : Name → List Token → Read Token Head
object_head_at name =
    then_at (word_at (codes "protected")) (λ _. choose_at (next_is (Word (codes "hrt_object"))) (shared_head_at name) (sporadic_head_at name))

-- a specification, behind its name
unfoldable pub inner_at : Name → List Token → Read Token Head
inner_at name =
    choose_at (next_is (Word (codes "task"))) (cyclic_head_at name)
    (choose_at (next_is (Word (codes "protected"))) (object_head_at name) (passive_head_at name))

-- a specification
unfoldable pub head_at : List Token → Read Token Head
head_at = then_at (word_at (codes "package")) (λ _. then_at (name_at is_ada_name) (λ name. then_at (word_at (codes "is")) (λ _. inner_at name)))

-- the specifications of all units
unfoldable pub heads_at : List Token → Read Token (List Head)
heads_at = many_at (next_is (Word (codes "package"))) head_at

-- the body of an operation with this head
unfoldable pub operation_at : BlockReader → Signature → List Token → Read Token Operation
operation_at block sig =
    then_at (phrase_at (head_tokens sig)) (λ _. then_at (word_at (codes "is"))
    (λ _. then_at (data_at is_ada_name) (λ locals. then_at (word_at (codes "begin")) (λ _.
    then_at block (λ b. then_at (phrase_at (end_tokens sig.name)) (λ _. pure_at (record { sig = sig; locals = locals; block = b })))))))

-- the bodies of operations with these heads
unfoldable pub operations_at : BlockReader → List Signature → List Token → Read Token (List Operation)
operations_at block sigs = each_at (operation_at block) sigs

-- what stands in the body of a unit with a cyclic task of this priority
unfoldable pub cyclic_at : BlockReader → ℕ → List Token → Read Token Form
cyclic_at block priority =
    then_at (data_at is_ada_name) (λ vars. then_at (text_at fixed.TaskBody) (λ _. then_at number_at (λ offset. then_at (text_at fixed.Delay) (λ _.
    then_at number_at (λ period. then_at (text_at fixed.Close) (λ _. then_at block (λ b. then_at (text_at fixed.TaskLoop) (λ _.
    pure_at (Cyclic priority offset period vars b)))))))))

-- what stands in the body of a unit with operations of these heads
unfoldable pub passive_at : BlockReader → List Signature → List Token → Read Token Form
passive_at block sigs = then_at (operations_at block sigs) (λ ops. pure_at (Passive ops))

-- what stands in the body of a protected unit with operations of these heads
unfoldable pub shared_at : BlockReader → ℕ → List Signature → List Datum → List Token → Read Token Form
shared_at block ceiling sigs vars =
    then_at (text_at fixed.ObjectBody) (λ _. then_at (operations_at block sigs)
    (λ ops. then_at (text_at fixed.ObjectEnd) (λ _. pure_at (Shared ceiling vars ops))))

-- the body of a request
unfoldable pub keeping_at : Signature → List Token → Read Token (Unit {0})
keeping_at op =
    then_at (text_at fixed.RequestBody) (λ _. then_at (phrase_at (head_tokens op)) (λ _. then_at (text_at fixed.Keep) (λ _.
    then_at (phrase_at (kept_token op.params ∷ [])) (λ _. then_at (text_at fixed.Opened)
    (λ _. then_at (word_at op.name) (λ _. text_at fixed.Wait))))))

-- how a task waits for a request
unfoldable pub waiting_at : List Param → List Token → Read Token (Unit {0})
waiting_at params =
    then_at (fixed_at (request_token params)) (λ _. then_at (text_at fixed.Waiting)
    (λ _. then_at (fixed_at (request_token params)) (λ _. text_at fixed.Close)))

-- what stands in the body of a sporadic unit with this request, behind its data
unfoldable pub serving_at : BlockReader → Signature → List Token → Read Token Statements
serving_at block op =
    then_at (keeping_at op) (λ _. then_at (waiting_at op.params) (λ _. then_at block (λ b. then_at (text_at fixed.TaskLoop) (λ _. pure_at b))))

-- what stands in the body of a unit with this specification
unfoldable pub form_at : BlockReader → Head → List Token → Read Token Form
form_at block (PassiveHead name sigs) = passive_at block sigs
form_at block (SharedHead name ceiling sigs vars) = shared_at block ceiling sigs vars
form_at block (CyclicHead name priority) = cyclic_at block priority
form_at block (SporadicHead name priority ceiling op separation jitter external) =
    then_at (data_at is_ada_name) (λ vars. then_at (serving_at block op)
    (λ b. pure_at (Sporadic priority ceiling op separation jitter external vars b)))

-- the beginning of a body, to what stands in it
unfoldable pub body_head_at : Name → List Token → Read Token (Unit {0})
body_head_at name = then_at (text_at fixed.PackageBody) (λ _. then_at (word_at name) (λ _. word_at (codes "is")))

-- the body of a unit with this specification
unfoldable pub body_at : BlockReader → Head → List Token → Read Token programs.Unit
body_at block head =
    then_at (body_head_at (head_name head)) (λ _. then_at (form_at block head) (λ form. then_at (phrase_at (end_tokens (head_name head))) (λ _.
    pure_at (record { name = head_name head; form = form }))))

-- the bodies of all units, in the order of their specifications
unfoldable pub bodies_at : BlockReader → List Head → List Token → Read Token (List programs.Unit)
bodies_at block heads = each_at (body_at block) heads

-- the text before the program, with its costs
unfoldable pub services_at : List Token → Read Token Costs
services_at = then_at (text_at fixed.Opening) (λ _. then_at costs_at (λ costs. then_at (text_at fixed.Services) (λ _. pure_at costs)))

-- the specifications and the bodies of the units of a program, and their ends
unfoldable pub units_at : BlockReader → Name → List Token → Read Token (List programs.Unit)
units_at block name =
    then_at heads_at (λ heads. then_at (phrase_at (end_tokens name)) (λ _. then_at (body_head_at name) (λ _. then_at (bodies_at block heads) (λ units.
    then_at (phrase_at (end_tokens name)) (λ _. pure_at units)))))

-- the main procedure
unfoldable pub main_at : Name → List Token → Read Token (Unit {0})
main_at name = then_at (word_at (codes "with")) (λ _. then_at (word_at name) (λ _. text_at fixed.Main))

-- a program
unfoldable pub program_at : BlockReader → List Token → Read Token Program
program_at block =
    then_at services_at (λ costs. then_at (name_at is_ada_name) (λ name. then_at (word_at (codes "is")) (λ _. then_at (units_at block name) (λ units.
    then_at (main_at name) (λ _. pure_at (record { name = name; costs = costs; units = units }))))))
