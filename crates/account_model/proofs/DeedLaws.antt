-- Claim: a deed is a change (`deed-is`). Way: a batch with a faulty line has none (`deed-changes`); its new files are made
-- by the lines of a batch or by the tool (`deed-makes`), each of which leaves a table standing where it stood; they differ
-- from the old, within their limits.
use Rattle.std.proofs.Common.{◌≡◌, ◌≢◌, ℕ, ◌≤◌, Bool, true, false, ◌&&◌, List, [], ◌∷◌, length, refl, sym, ◌∙◌, ap, subst, inl, inr, map}
use Rattle.std.specs.Prelude.{◌⊎◌, ⊤, Result, Option, Some, None, is_some, nat_le, unwrap_or, Ok, Err, if◌then◌else◌}
use Rattle.std.specs.List.{list_all, AllByRecursion}
use Rattle.account_model.specs.Records.{passwd_format, shadow_format, group_format, gshadow_format, subid_format}
use Rattle.std.proofs.lemmas.Bool.{leb-true, and_cases, not-false, true≢false}
use Rattle.std.proofs.lemmas.Slice.Eq.{bytes_eq-Decides}
use Rattle.account_model.specs.declared.tool.Tool.{Tool}
use Rattle.acct_text.specs.declared.Tab.{Tab}
use Rattle.acct_text.specs.declared.Tab.TheVariants.{Passwd, Shadow, Group, Gshadow, Subuid, Subgid}
use Rattle.acct_text.specs.declared.files.Files.{Files}
use Rattle.account_model.specs.declared.refusal.Refusal.{Refusal}
use Rattle.account_model.specs.Text.{first_some}
use Rattle.account_model.specs.Format.{Format}
use Rattle.account_model.specs.Edits.{Edit}
use Rattle.acct_text.specs.Files.{table_of}
use Rattle.account_model.specs.Tables.{Script, table_after, files_after}
use Rattle.account_model.specs.declared.tool.Tool.TheVariants.{Batch}
use Rattle.account_model.specs.BatchLines.{LineRequest, first_faulty, line_requests}
use Rattle.account_model.specs.Settings.{Setting, settings_of}
use Rattle.account_model.specs.Words.{is_batch}
use Rattle.account_model.specs.Request.{Request}
use Rattle.account_model.specs.Action.{Action, Made, outcome_of}
use Rattle.account_model.specs.Batch.{LineRefusal, Written, batch, ensures, written_by}
use Rattle.account_model.specs.Change.{action_of}
use Rattle.acct_text.specs.Limits.{table_limit}
use Rattle.acct_text.specs.Tables.{all_tables}
use Rattle.acct_text.specs.Contents.{same_content, IsChange}
use Rattle.account_model.specs.Answer.{Answer, FileProblem, Same, Changed, TableTooLarge, passes_limit, new_table_problem, new_problem, files_problem, files_eq, answer, answer_lines, answer_outcome, answer_under, is_faulty_batch, command_answer, new_files, deed, succeeding, unusable}
use Rattle.acct_text.proofs.NumberLaws.{some-inj}
use Rattle.account_model.proofs.BatchLaws.{any-line, batch-keeps, outcome-made}
use Rattle.account_model.proofs.PlanLaws.{asked-changes}

-- ---- Tables that differ

-- contents that fail the test differ
eq-table : (a b : Option (List ℕ)) → same_content a b ≡ false → b ≢ a
eq-table None None e = cc
eq-table None (Some b) e = λ same. cc
eq-table (Some a) None e = λ same. cc
eq-table (Some a) (Some b) e =
    λ same. true≢false (sym ((bytes_eq-Decides a b).1 (sym (some-inj same))) ∙ e)

-- of tables that fail the test one differs
differing :
    (old new : Files) (ts : List Tab)
    → list_all (λ tab. same_content (table_of old tab) (table_of new tab)) ts ≡ false
    → (tab : Tab) × (table_of new tab ≢ table_of old tab)
differing old new [] e = cc
differing old new (tab ∷ ts) e = elim (and_cases
    (same_content (table_of old tab) (table_of new tab))
    (list_all (λ tab. same_content (table_of old tab) (table_of new tab)) ts) e) [
      | inl here ↦ (tab, eq-table (table_of old tab) (table_of new tab) here)
      | inr later ↦ differing old new ts later
    ]

-- ---- Tables that stand

-- a table stands after its edits where it stood
after-stands :
    {R : Type 0} (format : Format R) (edits : List (Edit R)) (bytes : Option (List ℕ))
    → is_some (table_after format edits bytes) ≡ is_some bytes
after-stands format edits None = refl
after-stands format edits (Some bytes) = refl

-- and so does each of the six
pub files-stand :
    (script : Script) (old : Files) (tab : Tab)
    → is_some (table_of (files_after script old) tab) ≡ is_some (table_of old tab)
files-stand script old Passwd = after-stands passwd_format script.passwd old.passwd
files-stand script old Shadow = after-stands shadow_format script.shadow old.shadow
files-stand script old Group = after-stands group_format script.group old.group
files-stand script old Gshadow = after-stands gshadow_format script.gshadow old.gshadow
files-stand script old Subuid = after-stands subid_format script.subuid old.subuid
files-stand script old Subgid = after-stands subid_format script.subgid old.subgid

-- ---- Tables within their limit

-- of refusals none of which is there, the first isn't and none of the rest is
pub first-none :
    {X : Type 0} (o : Option X) (rest : List (Option X))
    → first_some (o ∷ rest) ≡ None
    → (o ≡ None) × (first_some rest ≡ None)
first-none None rest e = (refl, e)
first-none (Some x) rest e = cc

-- the tables have no problem, one by one
small-among :
    (files : Files) (tables : List Tab)
    → first_some (map (λ tab. new_table_problem tab (table_of files tab)) tables) ≡ None
    → AllByRecursion (λ tab. new_table_problem tab (table_of files tab) ≡ None) tables
small-among files [] none = tt
small-among files (tab ∷ tables) none =
    let parts = first-none (new_table_problem tab (table_of files tab)) _ none
    in (parts.0, small-among files tables parts.1)

-- what holds of all tables holds of each
each-table : (P : Tab → Type 0) → AllByRecursion P all_tables → (tab : Tab) → P tab
each-table P all Passwd = all.0
each-table P all Shadow = all.1.0
each-table P all Group = all.1.1.0
each-table P all Gshadow = all.1.1.1.0
each-table P all Subuid = all.1.1.1.1.0
each-table P all Subgid = all.1.1.1.1.1.0

-- bytes that don't pass the limit
limit-by :
    (tab : Tab) (bytes : List ℕ) (passes : Bool)
    → passes_limit bytes ≡ passes
    → (if passes then Some (TableTooLarge tab) else None) ≡ None
    → length bytes ≤ table_limit
limit-by tab bytes true is none = cc
limit-by tab bytes false is none =
    leb-true (length bytes) table_limit (not-false (nat_le (length bytes) table_limit) is)

-- a new table without a problem is within the limit
within-limit :
    (tab : Tab) (content : Option (List ℕ)) (bytes : List ℕ)
    → new_table_problem tab content ≡ None
    → content ≡ Some bytes
    → length bytes ≤ table_limit
within-limit tab None bytes none e = cc
within-limit tab (Some new) bytes none e =
    subst (λ t. length t ≤ table_limit) (some-inj e) (limit-by tab new (passes_limit new) refl none)

-- ---- The deed

-- the lines of a batch make the new files
pub record IsByLines (request : Request) (input : List ℕ) (day : ℕ) (old : Files)
    (settings : List Setting) (new : Files) : Type 0 where
  pub is : is_batch request.tool ≡ true
  pub written : Written
  pub outcome : batch (ensures request) (line_requests input) day settings old ≡ Ok written
  pub files : written.files ≡ new

-- the request's tool makes them
pub record IsByTool (request : Request) (input : List ℕ) (day : ℕ) (old : Files)
    (settings : List Setting) (new : Files) : Type 0 where
  pub is : is_batch request.tool ≡ false
  pub made : Made
  pub outcome : outcome_of (action_of request input day old settings) old ≡ Ok made
  pub files : made.files ≡ new

-- the new files are within the limits, and they differ
record IsOther (old new : Files) : Type 0 where
  small : new_problem new ≡ None
  differ : files_eq old new ≡ false

-- what is left, by its problem and whether it is the same
written-is :
    (tool : Tool) (old new : Files) (written : Written) (problem : Option FileProblem) (same : Bool)
    → new_problem written.files ≡ problem
    → files_eq old written.files ≡ same
    → new_files (elim problem as (λ p. Answer) [
      | Some p ↦ unusable tool p
      | None ↦ succeeding (if same then Same else Changed written.files) written
    ]).cause ≡ Some new
    → (written.files ≡ new) × IsOther old new
written-is tool old new written (Some p) same is_problem is_same e = absurd (cc)
written-is tool old new written None true is_problem is_same e = absurd (cc)
written-is tool old new written None false is_problem is_same e = (
  some-inj e,
  record {
    small = subst (λ (f : Files). new_problem f ≡ None) (some-inj e) is_problem;
    differ = subst (λ (f : Files). files_eq old f ≡ false) (some-inj e) is_same;
  },
)

module _ (request : Request) (input : List ℕ) (day : ℕ) (old : Files) (settings : List Setting)
    (new : Files) where
  -- the new files, and who makes them
  abbrev pub IsMadeNew : Type 0
  IsMadeNew = IsByLines request input day old settings new
      ⊎ IsByTool request input day old settings new

  -- a batch, by the outcome of its lines
  lines-make :
      (outcome : Result Written LineRefusal)
      → is_batch request.tool ≡ true
      → batch (ensures request) (line_requests input) day settings old ≡ outcome
      → new_files (answer_lines old outcome).cause ≡ Some new
      → IsMadeNew × IsOther old new
  lines-make (Err line) is outcome e = absurd (cc)
  lines-make (Ok written) is outcome e =
      let parts = written-is Batch old new written (new_problem written.files)
      (files_eq old written.files) refl refl e
      in (inl (record { is = is; written = written; outcome = outcome; files = parts.0 }), parts.1)

  -- another tool, by its outcome
  tool-makes :
      (outcome : Result Made Refusal)
      → is_batch request.tool ≡ false
      → outcome_of (action_of request input day old settings) old ≡ outcome
      → new_files (answer_outcome request.tool old outcome).cause ≡ Some new
      → IsMadeNew × IsOther old new
  tool-makes (Err refusal) is outcome e = absurd (cc)
  tool-makes (Ok made) is outcome e =
      let parts = written-is request.tool old new (written_by request.tool made)
      (new_problem made.files) (files_eq old made.files) refl refl e
      in (inr (record { is = is; made = made; outcome = outcome; files = parts.0 }), parts.1)

  -- by whether the request is a batch
  under-makes :
      (is : Bool)
      → is_batch request.tool ≡ is
      → new_files (if is
      then answer_lines old (batch (ensures request) (line_requests input) day settings old)
      else answer_outcome request.tool old
      (outcome_of (action_of request input day old settings) old)).cause ≡ Some new
      → IsMadeNew × IsOther old new
  under-makes true is e =
      lines-make (batch (ensures request) (line_requests input) day settings old) is refl e
  under-makes false is e =
      tool-makes (outcome_of (action_of request input day old settings) old) is refl e

  -- by the problem of the files
  answer-makes :
      (problem : Option FileProblem)
      → new_files (elim problem as (λ p. Answer) [
        | Some p ↦ unusable request.tool p
        | None ↦ answer_under request input day old settings
      ]).cause ≡ Some new
      → IsMadeNew × IsOther old new
  answer-makes (Some p) e = absurd (cc)
  answer-makes None e = under-makes (is_batch request.tool) refl e

-- an answer's new files are made, and differ from the old ones: a plan has none
new-made :
    (request : Request) (input : List ℕ) (day : ℕ) (old : Files) (defs : Option (List ℕ))
    (new : Files)
    → new_files (answer request input day old defs).cause ≡ Some new
    → IsMadeNew request input day old (settings_of (unwrap_or defs [])) new × IsOther old new
new-made request input day old defs new e =
    answer-makes request input day old (settings_of (unwrap_or defs [])) new
    (files_problem old defs)
    (asked-changes request.plan old new (command_answer request input day old defs) e)

-- what isn't there, where it is asked for
none-faulty :
    {X : Type 0} (faulty : Option X) (batch : Bool)
    → (batch ≡ true → faulty ≡ None)
    → (is_some faulty && batch) ≡ false
none-faulty None batch asks = refl
none-faulty (Some line) false asks = refl
none-faulty (Some line) true asks = let none = asks refl in absurd (cc)

-- a batch of which each line asks for something isn't a faulty one
pub faultless-batch :
    (request : Request) (input : List ℕ)
    → (is_batch request.tool ≡ true → first_faulty input ≡ None)
    → is_faulty_batch request input ≡ false
faultless-batch request input asks =
    none-faulty (first_faulty input) (is_batch request.tool) asks

-- a deed is what the answer changes
pub deed-changes :
    (request : Request) (input : List ℕ) (day : ℕ) (old : Files) (defs : Option (List ℕ))
    (new : Files)
    → deed request input day old defs ≡ Some new
    → (is_faulty_batch request input ≡ false)
    × (new_files (answer request input day old defs).cause ≡ Some new)
deed-changes request input day old defs new e = by (is_faulty_batch request input) refl e
  where
    by :
        (faulty : Bool)
        → is_faulty_batch request input ≡ faulty
        → (if faulty then None else new_files (answer request input day old defs).cause) ≡ Some new
        → (is_faulty_batch request input ≡ false)
        × (new_files (answer request input day old defs).cause ≡ Some new)
    by true is e = absurd (cc e)
    by false is e = (is, e)

-- and what the answer changes is the deed, where no line of a batch is faulty
pub faultless-deed :
    (request : Request) (input : List ℕ) (day : ℕ) (old : Files) (defs : Option (List ℕ))
    → (is_batch request.tool ≡ true → first_faulty input ≡ None)
    → deed request input day old defs ≡ new_files (answer request input day old defs).cause
faultless-deed request input day old defs asks =
    ap (λ (faulty : Bool).
    if faulty then None else new_files (answer request input day old defs).cause)
    (faultless-batch request input asks)

-- an answer's new files are made by the lines of a batch, or by the tool
pub changes-makes :
    (request : Request) (input : List ℕ) (day : ℕ) (old : Files) (defs : Option (List ℕ))
    (new : Files)
    → new_files (answer request input day old defs).cause ≡ Some new
    → IsMadeNew request input day old (settings_of (unwrap_or defs [])) new
changes-makes request input day old defs new e = (new-made request input day old defs new e).0

-- and differ from the old ones
pub changes-differ :
    (request : Request) (input : List ℕ) (day : ℕ) (old : Files) (defs : Option (List ℕ))
    (new : Files)
    → new_files (answer request input day old defs).cause ≡ Some new
    → files_eq old new ≡ false
changes-differ request input day old defs new e =
    (new-made request input day old defs new e).1.differ

-- so those of a deed are made
pub deed-makes :
    (request : Request) (input : List ℕ) (day : ℕ) (old : Files) (defs : Option (List ℕ))
    (new : Files)
    → deed request input day old defs ≡ Some new
    → IsMadeNew request input day old (settings_of (unwrap_or defs [])) new
deed-makes request input day old defs new e = changes-makes request input day old defs new
    (deed-changes request input day old defs new e).1

-- ---- A change

-- each table of the one stands where it does in the other
abbrev pub StandAlike : Files → Files → Type 0
StandAlike old new = (tab : Tab) → is_some (table_of new tab) ≡ is_some (table_of old tab)

-- what a tool makes
made-stands :
    (action : Action) (old : Files) (made : Made)
    → outcome_of action old ≡ Ok made
    → StandAlike old made.files
made-stands action old made outcome tab =
    subst (λ (one : Made). is_some (table_of one.files tab) ≡ is_some (table_of old tab))
    (outcome-made action old made outcome).makes (files-stand action.script old tab)

-- what the lines of a batch make
pub batch-stands :
    (ensuring : Bool) (lines : List LineRequest) (day : ℕ) (settings : List Setting) (old : Files)
    (written : Written)
    → batch ensuring lines day settings old ≡ Ok written
    → StandAlike old written.files
batch-stands ensuring lines day settings old written outcome =
    batch-keeps ensuring day settings (StandAlike old) (λ line. ⊤) lines old written
    (λ line so files made is alike tab.
    made-stands (action_of line.request [] day files settings) files made is tab ∙ alike tab)
    (any-line (λ line. ⊤) lines (λ line. tt)) outcome (λ tab. refl)

-- whoever makes the new files
new-stand :
    (request : Request) (input : List ℕ) (day : ℕ) (old : Files) (settings : List Setting)
    (new : Files)
    → IsMadeNew request input day old settings new
    → StandAlike old new
new-stand request input day old settings new (inl by_lines) =
    subst (StandAlike old) by_lines.files
    (batch-stands (ensures request) (line_requests input) day settings old by_lines.written
    by_lines.outcome)
new-stand request input day old settings new (inr by_tool) =
    subst (StandAlike old) by_tool.files
    (made-stands (action_of request input day old settings) old by_tool.made by_tool.outcome)

-- what an answer changes is a change
pub changes-is :
    (request : Request) (input : List ℕ) (day : ℕ) (old : Files) (defs : Option (List ℕ))
    (new : Files)
    → new_files (answer request input day old defs).cause ≡ Some new
    → IsChange (table_of old) (table_of new)
changes-is request input day old defs new e =
    let makes = new-made request input day old defs new e
    in record {
      changed = differing old new all_tables makes.1.differ;
      standing = new-stand request input day old (settings_of (unwrap_or defs [])) new makes.0;
      small = λ tab bytes is. within-limit tab (table_of new tab) bytes
          (each-table (λ tab. new_table_problem tab (table_of new tab) ≡ None)
          (small-among new all_tables makes.1.small) tab) is;
    }

-- a deed is a change
pub deed-is :
    (request : Request) (input : List ℕ) (day : ℕ) (old : Files) (defs : Option (List ℕ))
    (new : Files)
    → deed request input day old defs ≡ Some new
    → IsChange (table_of old) (table_of new)
deed-is request input day old defs new e =
    changes-is request input day old defs new (deed-changes request input day old defs new e).1
