-- Commands from their words to the answer, on files that are written as texts.
use Prim.Native.String.{String}
use Rattle.std.specs.Prelude.{◌≡◌, ℕ, ◌==◌, List, [], ◌∷◌, map, ◌++◌, codes, Option, Some, None, Result, Ok, Err}
use Rattle.std.specs.List.{slice_split}
use Rattle.std.specs.Str.{byte}
use Rattle.acct_text.specs.declared.files.Files.{Files}
use Rattle.account_model.specs.declared.word_fault.WordFault.{WordFault}
use Rattle.account_model.specs.declared.refusal.Refusal.{Refusal}
use Rattle.account_model.specs.declared.refusal.Refusal.TheVariants.{BadValue}
use Rattle.acct_text.specs.Bytes.{newline}
use Rattle.account_model.specs.Words.{request_of}
use Rattle.account_model.specs.Answer.{Answer, FileProblem, answer, Unusable, Refused, Same, Changed}
use Rattle.account_model.proofs.Image.{image, image_passwd, image_shadow, image_group, image_gshadow, two_files}
use Rattle.account_model.proofs.SettingsImage.{image_defs, file}

-- the words of a text without quotes, cut at blanks as a shell does
abbrev pub words : String → List (List ℕ)
words text = slice_split (λ c. c == 32) (codes text)

-- the lines of a text, which are cut at `|` here
abbrev pub lines : String → List ℕ
lines text = file (slice_split (λ c. c == 124) (codes text))

-- the day on which all commands run, 2024-10-04
abbrev pub today : ℕ
today = 20000

-- what words answer with this input
abbrev pub answer_with : List ℕ → List (List ℕ) → Files → Option (List ℕ) → Result Answer WordFault
answer_with input words files defs = elim (request_of words) [
  | Err fault ↦ Err fault
  | Ok request ↦ Ok (answer request input today files defs)
]

-- what words answer under settings
abbrev pub answer_to : List (List ℕ) → Files → Option (List ℕ) → Result Answer WordFault
answer_to words files defs = answer_with [] words files defs

-- what words answer under the settings of the image
abbrev pub on : Files → List (List ℕ) → Result Answer WordFault
on files words = answer_to words files (Some (file image_defs))

-- what words answer without settings
abbrev pub plainly_on : Files → List (List ℕ) → Result Answer WordFault
plainly_on files words = answer_to words files None

-- the tables become these
abbrev pub changed : Files → Result Answer WordFault
changed files = Ok (record { cause = Changed files; status = 0; output = []; error = [] })

-- the tables become these, with a notice on the error stream
abbrev pub changed_with : String → Files → Result Answer WordFault
changed_with notice files = Ok (record {
  cause = Changed files;
  status = 0;
  output = [];
  error = codes
      notice ++ newline ∷ [];
})

-- all tables stay
abbrev pub same : Result Answer WordFault
same = Ok (record { cause = Same; status = 0; output = []; error = [] })

-- a refusal, with its status and its line on the error stream
abbrev refused_with : ℕ → Refusal → List ℕ → Result Answer WordFault
refused_with status refusal text = Ok (record {
  cause = Refused refusal;
  status = status;
  output = [];
  error = text ++ newline ∷ [];
})

abbrev pub refused : ℕ → Refusal → String → Result Answer WordFault
refused status refusal text = refused_with status refusal (codes text)

-- each of these answers is the one beside it
abbrev pub AreAnswered : List (Result Answer WordFault × Result Answer WordFault) → Type 0
AreAnswered rows = map (λ row. row.0) rows ≡ map (λ row. row.1) rows

-- a command that is refused on the image, with its status, its reason and its line
abbrev pub refusing : String → ℕ → Refusal → String
    → Result Answer WordFault × Result Answer WordFault
refusing command status refusal text = (on image (words command), refused status refusal text)

-- a command of a tool that is refused there as the value of an option isn't of the form
abbrev pub refusing_value : String → String → String → String → List ℕ
    → Result Answer WordFault × Result Answer WordFault
refusing_value tool rest letter value form = (
  on image (codes tool ∷ words rest),
  refused_with 3 (BadValue (byte letter) (codes value))
      (codes tool ++ codes ": invalid value for -" ++ codes letter ++ codes ": " ++ codes value
      ++ codes " (" ++ form ++ codes ")"),
)

-- tables that can't be used, with the status and the line on the error stream
abbrev pub unusable : ℕ → FileProblem → String → Result Answer WordFault
unusable status problem text =
    Ok (record {
      cause = Unusable problem;
      status = status;
      output = [];
      error = codes
          text ++ newline ∷ [];
    })

-- a report that prints these bytes, with its status; no table changes
abbrev pub printed : ℕ → List ℕ → Result Answer WordFault
printed status output =
    Ok (record { cause = Same; status = status; output = output; error = [] })

-- a report of the lines of a text
abbrev pub reported : ℕ → String → Result Answer WordFault
reported status text = printed status (lines text)

-- the lines of group in the image, with other members of sudo
abbrev pub image_group_with : String → List ℕ
image_group_with members =
    lines "root:x:0:|daemon:x:1:|bin:x:2:" ++ codes "sudo:x:27:" ++ codes members ++ newline ∷
    lines "www-data:x:33:|users:x:100:|messagebus:x:101:|nogroup:x:65534:|bob:x:1000:"

-- the lines of gshadow in the image, with other members of sudo
abbrev pub image_gshadow_with : String → List ℕ
image_gshadow_with members =
    lines "root:*::|daemon:*::|bin:*::" ++ codes "sudo:*::" ++ codes members ++ newline ∷
    lines "www-data:*::|users:*::|messagebus:!::|nogroup:*::|bob:!::"

-- the lines of shadow in the image, with another one of bob
abbrev pub image_shadow_with : String → List ℕ
image_shadow_with bob =
    lines "root:*:19700:0:99999:7:::|daemon:*:19700:0:99999:7:::|bin:*:19700:0:99999:7:::"
    ++ lines "www-data:*:19700:0:99999:7:::|_apt:*:19700:0:99999:7:::|messagebus:!:19700::::::"
    ++ lines "nobody:*:19700:0:99999:7:::" ++ lines bob

-- the image with ann, as `useradd -P R -c "Ann Lee" -G sudo ann` makes it
abbrev pub with_ann : Files
with_ann = record {
  passwd = Some (file image_passwd ++ lines "ann:x:1001:1001:Ann Lee:/home/ann:");
  shadow = Some (file image_shadow ++ lines "ann:!:20000:0:99999:7:::");
  group = Some (image_group_with "bob,ann" ++ lines "ann:x:1001:");
  gshadow = Some (image_gshadow_with "bob,ann" ++ lines "ann:!::");
  subuid = Some (lines "bob:100000:65536|ann:165536:65536");
  subgid = Some (lines "bob:100000:65536|ann:165536:65536");
}

-- the image with more lines in each table
abbrev pub image_and : String → String → String → String → Files
image_and passwd shadow group gshadow = record image {
  passwd = Some (file image_passwd ++ lines passwd);
  shadow = Some (file image_shadow ++ lines shadow);
  group = Some (file image_group ++ lines group);
  gshadow = Some (file image_gshadow ++ lines gshadow);
}

-- passwd and group alone, of these lines
abbrev pub small : String → String → Files
small passwd group = record {
  passwd = Some (lines passwd);
  shadow = None;
  group = Some (lines group);
  gshadow = None;
  subuid = None;
  subgid = None;
}

-- passwd and group alone, both empty
abbrev pub nothing : Files
nothing = two_files [] []
