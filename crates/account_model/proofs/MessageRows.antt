-- What goes to the error stream, and with which status, for words without a request.
use Prim.Native.String.{String}
use Rattle.std.specs.Prelude.{◌≡◌, true, false, ℕ, ◌==◌, List, [], ◌∷◌, ◌++◌, replicate, codes, refl, Option, Some, None}
use Rattle.std.specs.List.{slice_split}
use Rattle.std.specs.Fmt.{digits}
use Rattle.acct_text.specs.Bytes.{newline}
use Rattle.account_model.specs.declared.tool.Tool.TheVariants.{Useradd, Groupmod}
use Rattle.account_model.specs.Words.{fault}
use Rattle.account_model.specs.WordMessages.{is_for_wrapper, word_fault_status, word_fault_message}

-- a status and a line
pub record Told : Type 0 where
  pub status : ℕ
  pub error : List ℕ

abbrev told : ℕ → String → Option Told
told status text = Some (record { status = status; error = codes text ++ newline ∷ [] })

-- what words without a request are told
abbrev tell : List (List ℕ) → Option Told
tell words = elim (fault words) [
  | None ↦ None
  | Some found ↦ Some (record {
    status = word_fault_status words found;
    error = word_fault_message words found;
  })
]

abbrev words : String → List (List ℕ)
words text = slice_split (λ c. c == 32) (codes text)

long_word :
    tell (codes "useradd" ∷ replicate 4097 0 ∷ []) ≡ told 2 "accounts: word 1 passes a limit"
unfolding digits
long_word = refl

no_words : tell [] ≡ told 2 "accounts: no command given: accounts --help lists them"
no_words = refl

unknown_tool : tell (words "adduser ann") ≡ told 2 "accounts: unknown command adduser"
unknown_tool = refl

-- a byte left out, one too many, another one, and a missing last one
near_tools :
    (tell (words "usradd ann") ≡ told 2 "accounts: unknown command usradd (useradd?)")
    × (tell (words "pwcck") ≡ told 2 "accounts: unknown command pwcck (pwck?)")
    × (tell (words "groupbdd x") ≡ told 2 "accounts: unknown command groupbdd (groupadd?)")
    × (tell (words "chag x") ≡ told 2 "accounts: unknown command chag (chage?)")
near_tools = (refl, refl, refl, refl)

unknown_option :
    tell (words "useradd -aG sudo bob") ≡ told 2 "useradd: unknown option in word 1: -aG"
unfolding digits
unknown_option = refl

wrapped_option :
    tell (words "userdel --remove bob") ≡ told 2
    "userdel: unknown option in word 1: --remove (the wrapper by the old names has it)"
unfolding digits
wrapped_option = refl

-- by its letter, with a value, in a group behind a flag, and by its long name
wrapped_spellings :
    (is_for_wrapper Groupmod (codes "-U") ≡ true)
    × (is_for_wrapper Groupmod (codes "-Uann,bea") ≡ true)
    × (is_for_wrapper Groupmod (codes "-oaU") ≡ true)
    × (is_for_wrapper Groupmod (codes "--users=ann") ≡ true)
    × (is_for_wrapper Useradd (codes "--badname") ≡ true)
wrapped_spellings = (refl, refl, refl, refl, refl)

-- not where the letter before it is unknown to the wrapper too
unwrapped_spelling : is_for_wrapper Useradd (codes "-xm") ≡ false
unwrapped_spelling = refl

missing_value : tell (words "gpasswd sudo -P") ≡ told 2 "gpasswd: option in word 2 needs a value"
unfolding digits
missing_value = refl

unexpected_value : tell (words "grpck --sort=y") ≡ told 1 "grpck: option in word 1 takes no value"
unfolding digits
unexpected_value = refl

too_many : tell (words "getsubids -P R bob ann") ≡ told 1 "getsubids: unexpected word 4: ann"
unfolding digits
too_many = refl

many_files : tell (words "batch -P R a b") ≡ told 2 "batch: unexpected word 4: b"
unfolding digits
many_files = refl

no_prefix : tell (words "groupadd staff") ≡ told 2
    "groupadd: option -P is required: -P DIR is the image in DIR, -P / this system"
no_prefix = refl

empty_prefix :
    tell (words "groupadd -P  staff") ≡ told 2 "groupadd: value of -P is empty: -P / is this system"
empty_prefix = refl

too_few : tell (words "chage -P R -l") ≡ told 2 "chage: missing operand"
too_few = refl

clash : tell (words "pwck -P R -rs") ≡ told 1 "pwck: -r and -s exclude each other"
clash = refl
