-- The texts that are the same in each program, between what differs.
-- The text keeps to ISO/IEC 8652:2012; its form is this project's own.
use Rattle.std.specs.Prelude.{List, [], ◌∷◌, ◌++◌, codes, flat_map}
use Rattle.seq_tree.specs.declared.token.Token.{Token}
use Rattle.seq_tree.specs.declared.token.Token.TheVariants.{Word, Number, Sign}
use Rattle.seq_tree.specs.declared.token.Mark.TheVariants.{LeftParen, RightParen, Comma, Semicolon, Colon, Dot, Becomes, StarStar}
use Rattle.seq_tree.specs.Names.{Name}
use Rattle.seq_tree.specs.declared.tree.Param.{Param}
use Rattle.ada_tree.specs.Spelling.{param_tokens}
use Rattle.ada_read.specs.declared.fixed_text.CostName.{CostName}
use Rattle.ada_read.specs.declared.fixed_text.CostName.TheVariants as cost
use Rattle.ada_read.specs.declared.fixed_text.FixedText.{FixedText}
use Rattle.ada_read.specs.declared.fixed_text.FixedText.TheVariants as fixed

-- the tokens of a fixed text
unfoldable pub fixed_tokens : FixedText → List Token
fixed_tokens fixed.Opening =
    Word (codes "pragma") ∷ Word (codes "task_dispatching_policy") ∷ Sign LeftParen ∷ Word (codes "fifo_within_priorities") ∷
    Sign RightParen ∷ Sign Semicolon ∷ Word (codes "pragma") ∷ Word (codes "locking_policy") ∷ Sign LeftParen ∷
    Word (codes "ceiling_locking") ∷ Sign RightParen ∷ Sign Semicolon ∷ Word (codes "with") ∷ Word (codes "ada") ∷ Sign Dot ∷
    Word (codes "real_time") ∷ Sign Semicolon ∷ Word (codes "package") ∷ Word (codes "hrt") ∷ Word (codes "is") ∷
    Word (codes "type") ∷ Word (codes "word") ∷ Word (codes "is") ∷ Word (codes "mod") ∷ Number 2 ∷ Sign StarStar ∷ Number 32 ∷
    Sign Semicolon ∷ Word (codes "subtype") ∷ Word (codes "moment") ∷ Word (codes "is") ∷ Word (codes "ada") ∷ Sign Dot ∷
    Word (codes "real_time") ∷ Sign Dot ∷ Word (codes "time") ∷ Sign Semicolon ∷ []
fixed_tokens fixed.Constant = Sign Colon ∷ Word (codes "constant") ∷ Sign Becomes ∷ []
fixed_tokens fixed.Services =
    Word (codes "function") ∷ Word (codes "epoch") ∷ Word (codes "return") ∷ Word (codes "moment") ∷ Sign Semicolon ∷
    Word (codes "function") ∷ Word (codes "after") ∷ Sign LeftParen ∷ Word (codes "start") ∷ Sign Colon ∷ Word (codes "moment") ∷
    Sign Semicolon ∷ Word (codes "ticks") ∷ Sign Colon ∷ Word (codes "natural") ∷ Sign RightParen ∷ Word (codes "return") ∷
    Word (codes "moment") ∷ Sign Semicolon ∷ Word (codes "procedure") ∷ Word (codes "work") ∷ Sign LeftParen ∷ Word (codes "ticks") ∷
    Sign Colon ∷ Word (codes "positive") ∷ Sign RightParen ∷ Sign Semicolon ∷ Word (codes "procedure") ∷ Word (codes "put") ∷
    Sign LeftParen ∷ Word (codes "value") ∷ Sign Colon ∷ Word (codes "word") ∷ Sign RightParen ∷ Sign Semicolon ∷
    Word (codes "procedure") ∷ Word (codes "activation_end") ∷ Sign Semicolon ∷ Word (codes "end") ∷ Word (codes "hrt") ∷
    Sign Semicolon ∷ Word (codes "with") ∷ Word (codes "hrt") ∷ Sign Semicolon ∷ Word (codes "use") ∷ Word (codes "hrt") ∷
    Sign Semicolon ∷ Word (codes "package") ∷ []
fixed_tokens fixed.PackageBody = Word (codes "package") ∷ Word (codes "body") ∷ []
fixed_tokens fixed.TaskHead =
    Word (codes "task") ∷ Word (codes "hrt_thread") ∷ Word (codes "is") ∷ Word (codes "pragma") ∷ Word (codes "priority") ∷
    Sign LeftParen ∷ []
fixed_tokens fixed.TaskEnd = Sign RightParen ∷ Sign Semicolon ∷ Word (codes "end") ∷ Word (codes "hrt_thread") ∷ Sign Semicolon ∷ []
fixed_tokens fixed.TaskBody =
    Word (codes "task") ∷ Word (codes "body") ∷ Word (codes "hrt_thread") ∷ Word (codes "is") ∷ Word (codes "hrt_next") ∷ Sign Colon ∷
    Word (codes "hrt") ∷ Sign Dot ∷ Word (codes "moment") ∷ Sign Becomes ∷ Word (codes "hrt") ∷ Sign Dot ∷ Word (codes "after") ∷
    Sign LeftParen ∷ Word (codes "hrt") ∷ Sign Dot ∷ Word (codes "epoch") ∷ Sign Comma ∷ []
fixed_tokens fixed.Delay =
    Sign RightParen ∷ Sign Semicolon ∷ Word (codes "begin") ∷ Word (codes "loop") ∷ Word (codes "delay") ∷ Word (codes "until") ∷
    Word (codes "hrt_next") ∷ Sign Semicolon ∷ Word (codes "hrt_next") ∷ Sign Becomes ∷ Word (codes "hrt") ∷ Sign Dot ∷
    Word (codes "after") ∷ Sign LeftParen ∷ Word (codes "hrt_next") ∷ Sign Comma ∷ []
fixed_tokens fixed.Close = Sign RightParen ∷ Sign Semicolon ∷ []
fixed_tokens fixed.TaskLoop =
    Word (codes "activation_end") ∷ Sign Semicolon ∷ Word (codes "end") ∷ Word (codes "loop") ∷ Sign Semicolon ∷ Word (codes "end") ∷
    Word (codes "hrt_thread") ∷ Sign Semicolon ∷ []
fixed_tokens fixed.Main =
    Sign Semicolon ∷ Word (codes "procedure") ∷ Word (codes "hrt_main") ∷ Word (codes "is") ∷ Word (codes "begin") ∷
    Word (codes "null") ∷ Sign Semicolon ∷ Word (codes "end") ∷ Word (codes "hrt_main") ∷ Sign Semicolon ∷ []
fixed_tokens fixed.ObjectHead = Word (codes "hrt_object") ∷ Word (codes "is") ∷ Word (codes "pragma") ∷ Word (codes "priority") ∷ Sign LeftParen ∷ []
fixed_tokens fixed.ObjectEnd = Word (codes "end") ∷ Word (codes "hrt_object") ∷ Sign Semicolon ∷ []
fixed_tokens fixed.ObjectBody = Word (codes "protected") ∷ Word (codes "body") ∷ Word (codes "hrt_object") ∷ Word (codes "is") ∷ []
fixed_tokens fixed.RequestHead = Word (codes "hrt_obcs") ∷ Word (codes "is") ∷ Word (codes "pragma") ∷ Word (codes "priority") ∷ Sign LeftParen ∷ []
fixed_tokens fixed.RequestParam = Sign Colon ∷ Word (codes "in") ∷ Word (codes "word") ∷ Sign RightParen ∷ Sign Semicolon ∷ []
fixed_tokens fixed.Entry =
    Word (codes "entry") ∷ Word (codes "hrt_wait") ∷ Sign LeftParen ∷ Word (codes "hrt_request") ∷ Sign Colon ∷ Word (codes "out") ∷
    Word (codes "word") ∷ Sign RightParen ∷ Sign Semicolon ∷ Word (codes "private") ∷ Word (codes "hrt_value") ∷ Sign Colon ∷
    Word (codes "word") ∷ Sign Becomes ∷ Number 0 ∷ Sign Semicolon ∷ Word (codes "hrt_open") ∷ Sign Colon ∷ Word (codes "boolean") ∷
    Sign Becomes ∷ Word (codes "false") ∷ Sign Semicolon ∷ Word (codes "end") ∷ Word (codes "hrt_obcs") ∷ Sign Semicolon ∷ []
fixed_tokens fixed.Renames = Word (codes "renames") ∷ Word (codes "hrt_object") ∷ Sign Dot ∷ []
fixed_tokens fixed.RequestRenames = Word (codes "renames") ∷ Word (codes "hrt_obcs") ∷ Sign Dot ∷ []
fixed_tokens fixed.Separation =
    Sign RightParen ∷ Sign Semicolon ∷ Word (codes "end") ∷ Word (codes "hrt_thread") ∷ Sign Semicolon ∷
    Word (codes "hrt_separation") ∷ Sign Colon ∷ Word (codes "constant") ∷ Sign Becomes ∷ []
fixed_tokens fixed.Jitter = Sign Semicolon ∷ Word (codes "hrt_jitter") ∷ Sign Colon ∷ Word (codes "constant") ∷ Sign Becomes ∷ []
fixed_tokens fixed.External = Sign Semicolon ∷ Word (codes "hrt_external") ∷ Sign Colon ∷ Word (codes "constant") ∷ Word (codes "boolean")
    ∷ Sign Becomes ∷ []
fixed_tokens fixed.RequestBody = Word (codes "protected") ∷ Word (codes "body") ∷ Word (codes "hrt_obcs") ∷ Word (codes "is") ∷ []
fixed_tokens fixed.Keep = Word (codes "is") ∷ Word (codes "begin") ∷ Word (codes "hrt_value") ∷ Sign Becomes ∷ []
fixed_tokens fixed.Zero = Number 0 ∷ []
fixed_tokens fixed.Opened = Sign Semicolon ∷ Word (codes "hrt_open") ∷ Sign Becomes ∷ Word (codes "true") ∷ Sign Semicolon ∷ Word (codes "end") ∷ []
fixed_tokens fixed.Wait =
    Sign Semicolon ∷ Word (codes "entry") ∷ Word (codes "hrt_wait") ∷ Sign LeftParen ∷ Word (codes "hrt_request") ∷ Sign Colon ∷
    Word (codes "out") ∷ Word (codes "word") ∷ Sign RightParen ∷ Word (codes "when") ∷ Word (codes "hrt_open") ∷ Word (codes "is") ∷
    Word (codes "begin") ∷ Word (codes "hrt_request") ∷ Sign Becomes ∷ Word (codes "hrt_value") ∷ Sign Semicolon ∷
    Word (codes "hrt_open") ∷ Sign Becomes ∷ Word (codes "false") ∷ Sign Semicolon ∷ Word (codes "end") ∷ Word (codes "hrt_wait") ∷
    Sign Semicolon ∷ Word (codes "end") ∷ Word (codes "hrt_obcs") ∷ Sign Semicolon ∷ Word (codes "task") ∷ Word (codes "body") ∷
    Word (codes "hrt_thread") ∷ Word (codes "is") ∷ []
fixed_tokens fixed.Waiting =
    Sign Colon ∷ Word (codes "word") ∷ Sign Becomes ∷ Number 0 ∷ Sign Semicolon ∷ Word (codes "begin") ∷ Word (codes "loop") ∷
    Word (codes "hrt_obcs") ∷ Sign Dot ∷ Word (codes "hrt_wait") ∷ Sign LeftParen ∷ []

-- a further parameter
abbrev pub more_tokens : Param → List Token
more_tokens p = Sign Semicolon ∷ param_tokens p

-- further parameters, and the end of their list
abbrev pub rest_tokens : List Param → List Token
rest_tokens ps = flat_map more_tokens ps ++ Sign RightParen ∷ []

-- the name of the constant that is a cost
unfoldable pub cost_name : CostName → Name
cost_name cost.Assign = codes "assign_cost"
cost_name cost.Test = codes "test_cost"
cost_name cost.Turn = codes "turn_cost"
cost_name cost.Call = codes "call_cost"
cost_name cost.Null = codes "null_cost"
cost_name cost.Put = codes "put_cost"
cost_name cost.Finish = codes "finish_cost"
