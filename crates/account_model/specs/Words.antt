-- What the words of a command, or of a line of a batch, ask for, and the first thing that is wrong
-- with them: they are read as getopt_long(3) does, and then by the rules of the tool's manual page.
use Rattle.std.specs.Prelude.{◌≡◌, ◌≢◌, ℕ, ◌+◌, ◌≤◌, true, not, ◌||◌, nat_le, nat_lt, if◌then◌else◌, Bool, List, [], ◌∷◌, length, filter, filter_map, find, position, Option, Some, None, option_map, Result, Ok, Err, bytes_eq}
use Rattle.std.specs.List.{enumerate_from}
use Rattle.account_model.specs.declared.words_of.WordsOf.{WordsOf}
use Rattle.account_model.specs.declared.words_of.WordsOf.TheVariants.{Command, Line}
use Rattle.account_model.specs.declared.tool.Tool.{Tool}
use Rattle.account_model.specs.declared.tool.Tool.TheVariants.{Useradd, Usermod, Userdel, Chfn, Chsh, Groupadd, Groupmod, Groupdel, Gpasswd, Groupmems, Chage, Chpasswd, Chgpasswd, Passwd, Pwconv, Pwunconv, Grpconv, Grpunconv, Pwck, Grpck, Getsubids, Batch}
use Rattle.account_model.specs.declared.word_fault.WordFault.{WordFault}
use Rattle.account_model.specs.declared.word_fault.WordFault.TheVariants.{WordLimit, NoTool, UnknownTool, NoPrefix, EmptyPrefix, TooFew, Clash}
use Rattle.account_model.specs.Text.{last_of}
use Rattle.account_model.specs.Options.{Word}
use Rattle.account_model.specs.Rows.{has_commands, row_of}
use Rattle.account_model.specs.ToolOptions.{is_prefix, options_for, operands_of, most_operands}
use Rattle.account_model.specs.declared.given.Given.{Given}
use Rattle.account_model.specs.declared.plan_form.PlanForm.{PlanForm}
use Rattle.account_model.specs.PlanWords.{command_words, plan_of}
use Rattle.account_model.specs.Request.{Request, carried_out}
use Rattle.account_model.specs.Spelling.{Spelled, Arguments, read_arguments}

-- the word that names the tool
abbrev pub tool_name : Tool → Word
tool_name tool = (row_of tool).name

-- the tools, in the order of the enum
abbrev pub tools : List Tool
tools = Useradd ∷ Usermod ∷ Userdel ∷ Chfn ∷ Chsh ∷ Groupadd ∷ Groupmod ∷ Groupdel ∷ Gpasswd
    ∷ Groupmems ∷ Chage ∷ Chpasswd ∷ Chgpasswd ∷ Passwd ∷ Pwconv ∷ Pwunconv ∷ Grpconv ∷ Grpunconv
    ∷ Pwck ∷ Grpck ∷ Getsubids ∷ Batch ∷ []

-- the tool that a word names
abbrev pub tool_named : Word → Option Tool
tool_named name = find (λ tool. bytes_eq (tool_name tool) name) tools

-- whether a line of a batch may name the tool; each that it may changes tables, and reads no input
abbrev pub is_for_lines : Tool → Bool
is_for_lines tool = (row_of tool).is_for_lines

-- whether the tool carries out the lines of its input
abbrev pub is_batch : Tool → Bool
is_batch tool = has_commands (row_of tool).input

-- whether such words may name the tool
abbrev pub may_name : WordsOf → Tool → Bool
may_name Command tool = true
may_name Line tool = is_for_lines tool

-- how many words a command has at most, the tool's name among them; the limits are this profile's
abbrev pub most_words : ℕ
most_words = 512

-- how many bytes a word has at most
abbrev pub longest_word : ℕ
longest_word = 4096

-- whether the word at a place, from 0, passes a limit
abbrev pub passes_limit : ℕ × Word → Bool
passes_limit placed = nat_le most_words placed.0 || nat_lt longest_word (length placed.1)

-- the place of the first word that passes a limit
abbrev pub past_limit : List Word → Option ℕ
past_limit words = position passes_limit (enumerate_from 0 words)

-- the options of a request: all that were given but the folder
abbrev pub without_prefix : Tool → List Given → List Given
without_prefix tool options = filter (λ option. not (is_prefix tool option.letter)) options

-- the folder that was given; of a repeated one the last counts
abbrev pub prefix_value : Tool → List Given → Option Word
prefix_value tool options =
    last_of (filter_map (λ option. option.value)
    (filter (λ option. is_prefix tool option.letter) options))

-- the first rule of the tool that is broken, counted from 1
abbrev pub broken_rule : Tool → List Given → Option ℕ
broken_rule tool options =
    option_map (λ place. place + 1)
    (position (λ rule. not (rule.is_kept options)) (row_of tool).rules)

-- the prefix of a request: of a command the folder that was given, which isn't empty; that of a
-- line of a batch is empty, as the batch has it
abbrev pub IsPrefix : WordsOf → Tool → List Given → Word → Type 0
IsPrefix Command tool given prefix = (prefix_value tool given ≡ Some prefix) × (prefix ≢ [])
IsPrefix Line tool given prefix = prefix ≡ []

-- such words ask for this request, which is carried out
pub record AsksAs (whose : WordsOf) (words : List Word) (request : Request) : Type 0 where
  -- they keep the limits
  pub limits : past_limit words ≡ None
  -- word 0 names the tool, and the others spell its options and operands
  pub arguments : List Word
  pub tool : words ≡ tool_name request.tool ∷ arguments
  pub may_name : may_name whose request.tool ≡ true
  pub given : List Given
  pub spelled : Spelled (options_for whose request.tool) arguments given request.operands
  pub prefix : IsPrefix whose request.tool given request.prefix
  -- there are as many operands as the tool needs, and no more than it takes
  pub enough : operands_of request.tool ≤ length request.operands
  pub few : length request.operands ≤ most_operands request.tool
  -- no rule is broken
  pub options : request.options ≡ without_prefix request.tool given
  pub rules : broken_rule request.tool request.options ≡ None
  pub plan : request.plan ≡ None

-- the words of a command ask for this request: those behind `plan` ask for the command that is planned
pub record Asks (words : List Word) (request : Request) : Type 0 where
  pub command : AsksAs Command (command_words words) (carried_out request)
  pub plan : request.plan ≡ plan_of words

-- the words of a line of a batch ask for this request
abbrev pub AsksLine : List Word → Request → Type 0
AsksLine = AsksAs Line

-- computed

-- a request, by the first of its rules that is broken
abbrev pub request_by_rules : Option ℕ → Request → Result Request WordFault
request_by_rules (Some number) request = Err (Clash number)
request_by_rules None request = Ok request

-- the prefix by the folder that was given, or what is wrong with it
abbrev pub prefix_for : WordsOf → Option Word → Result Word WordFault
prefix_for Command None = Err NoPrefix
prefix_for Command (Some []) = Err EmptyPrefix
prefix_for Command (Some (c ∷ prefix)) = Ok (c ∷ prefix)
prefix_for Line value = Ok []

-- a request of a tool from its options but the folder, its operands and its prefix
abbrev pub request_with : Tool → List Given → List Word → Result Word WordFault →
    Result Request WordFault
request_with tool options operands (Err fault) = Err fault
request_with tool options operands (Ok prefix) =
    if nat_lt (length operands) (operands_of tool) then Err TooFew else
    request_by_rules (broken_rule tool options)
    (record {
      tool = tool;
      prefix = prefix;
      options = options;
      operands = operands;
      plan = None;
    })

-- a request of a tool from what is read behind its name
abbrev pub request_of_arguments : WordsOf → Tool → Result Arguments WordFault →
    Result Request WordFault
request_of_arguments whose tool (Ok (given, operands)) =
    request_with tool (without_prefix tool given) operands
    (prefix_for whose (prefix_value tool given))
request_of_arguments whose tool (Err fault) = Err fault

-- the tool that a word names, where such words may name it
abbrev pub tool_for : WordsOf → Word → Option Tool
tool_for whose name = elim (tool_named name) [
  | None ↦ None
  | Some tool ↦ if may_name whose tool then Some tool else None
]

-- a request by the tool that word 0 names, and the words behind it
abbrev pub request_of_tool : WordsOf → Option Tool → List Word → Result Request WordFault
request_of_tool whose None words = Err UnknownTool
request_of_tool whose (Some tool) words =
    request_of_arguments whose tool
    (read_arguments (options_for whose tool) None (most_operands tool) 1 words)

-- a request of words that keep the limits
abbrev pub request_within_limits : WordsOf → List Word → Result Request WordFault
request_within_limits whose [] = Err NoTool
request_within_limits whose (name ∷ words) = request_of_tool whose (tool_for whose name) words

-- a request by the first word past a limit
abbrev pub request_by_limit : WordsOf → Option ℕ → List Word → Result Request WordFault
request_by_limit whose (Some place) words = Err (WordLimit place)
request_by_limit whose None words = request_within_limits whose words

-- the request that such words ask for, or the first fault
abbrev pub request_as : WordsOf → List Word → Result Request WordFault
request_as whose words = request_by_limit whose (past_limit words) words

-- what was read of a command's words, as it is planned
abbrev pub planned_so : Option PlanForm → Result Request WordFault → Result Request WordFault
planned_so plan (Ok request) = Ok (record request { plan = plan })
planned_so plan (Err fault) = Err fault

-- the request that the words of a command ask for, or the first fault
abbrev pub request_of : List Word → Result Request WordFault
request_of words = planned_so (plan_of words) (request_as Command (command_words words))

-- the first fault of such words, if there is one
abbrev pub fault_as : WordsOf → List Word → Option WordFault
fault_as whose words = elim (request_as whose words) [ Ok request ↦ None | Err found ↦ Some found ]

-- the first fault of a command's words, in which places count from the words behind `plan`
abbrev pub fault : List Word → Option WordFault
fault words = fault_as Command (command_words words)

-- the first fault of the words of a line of a batch
abbrev pub fault_line : List Word → Option WordFault
fault_line = fault_as Line
