-- What is known of a request where a tool doesn't refuse: values pass their tests (`good-value`, `text-kept`), users
-- and groups are there and can stand in a line (`user-named`, `group-held`), fields keep what holds of them
-- (`field-kept`).
use Rattle.std.proofs.Common.{◌≡◌, ℕ, ◌≤◌, Bool, true, false, not, List, [], ◌∷◌, refl, subst}
use Rattle.std.specs.Prelude.{Option, Some, None, find, is_some, option_map, option_and_then, unwrap_or, if◌then◌else◌}
use Rattle.std.proofs.lemmas.Bool.{not-false}
use Rattle.std.specs.List.{AllByRecursion, cons_option}
use Rattle.std.proofs.lemmas.Slice.Eq.{bytes_eq-Decides}
use Rattle.acct_text.specs.declared.files.Files.{Files}
use Rattle.acct_text.specs.Bytes.{newline}
use Rattle.acct_text.specs.Pieces.{Lacks}
use Rattle.acct_text.specs.Lines.{Line, lines_of}
use Rattle.acct_text.proofs.LinesLaws.{lines_of-are}
use Rattle.acct_text.proofs.NumberLaws.{some-inj, number-is}
use Rattle.account_model.specs.declared.records.PasswdRecord.{PasswdRecord}
use Rattle.account_model.specs.declared.records.GroupRecord.{GroupRecord}
use Rattle.account_model.specs.declared.refusal.Refusal.{Refusal}
use Rattle.account_model.specs.declared.refusal.Refusal.TheVariants.{BadName, NoUser}
use Rattle.account_model.specs.Text.{comma, has_byte}
use Rattle.account_model.specs.Format.{Format, records_of, is_named}
use Rattle.account_model.specs.Records.{passwd_format, group_format, read_id, greatest_id}
use Rattle.account_model.specs.Written.{IsNameField, IsListed, IsPasswd, IsGroup, Holds}
use Rattle.account_model.specs.Tables.{table_records, passwd_records, group_records}
use Rattle.account_model.specs.Users.{find_user, has_user, group_named}
use Rattle.account_model.specs.Values.{given_id, text_value, field_value, list_value}
use Rattle.account_model.specs.Request.{Request, value_of}
use Rattle.account_model.specs.Refusals.{refuse_if, refuse_value, bad_value, bad_value_of, bad_list_name, missing_user, missing_users}
use Rattle.account_model.proofs.HeldLaws.{passwd-holds, group-holds}
use Rattle.account_model.proofs.FieldFacts.{lacks-byte, both-listed, list-no_comma}

-- ---- Values

-- a test that refuses where it fails has passed
pub refuse-none : (b : Bool) (refusal : Refusal) → refuse_if (not b) refusal ≡ None → b ≡ true
refuse-none true refusal none = refl
refuse-none false refusal none = cc

-- what refuses no value doesn't refuse the one that is given
value-by :
    (test : List ℕ → Option Refusal) (given : Option (List ℕ)) (value : List ℕ)
    → option_and_then test given ≡ None
    → given ≡ Some value
    → test value ≡ None
value-by test None value none is = cc
value-by test (Some v) value none is = subst (λ x. test x ≡ None) (some-inj is) none

-- the value of an option isn't refused
pub value-none :
    (letter : List ℕ) (request : Request) (test : List ℕ → Option Refusal) (value : List ℕ)
    → refuse_value letter request test ≡ None
    → value_of letter request ≡ Some value
    → test value ≡ None
value-none letter request test value none given =
    value-by test (value_of letter request) value none given

-- the value of an option passes its test
pub good-value :
    (letter : List ℕ) (test : List ℕ → Bool) (request : Request) (value : List ℕ)
    → bad_value letter test request ≡ None
    → value_of letter request ≡ Some value
    → test value ≡ true
good-value letter test request value none given =
    refuse-none (test value) (bad_value_of letter value)
    (value-none letter request (λ v. refuse_if (not (test v))
    (bad_value_of letter v)) value none given)

-- a field that takes what is given, or stays
pub kept-by :
    {V : Type 0} (P : V → Type 0) (given : Option V) (old : V)
    → ((value : V) → given ≡ Some value → P value)
    → P old
    → P (unwrap_or given old)
kept-by P None old keeps is = is
kept-by P (Some value) old keeps is = keeps value refl

-- what holds of an old field and of all good values holds of the new field
pub text-kept :
    (P : List ℕ → Type 0) (letter : List ℕ) (test : List ℕ → Bool)
    (request : Request) (old : List ℕ)
    → ((value : List ℕ) → test value ≡ true → P value)
    → bad_value letter test request ≡ None
    → P old
    → P (text_value letter request old)
text-kept P letter test request old good none is =
    kept-by P (value_of letter request) old (λ value given. good value
    (good-value letter test request value none given)) is

-- a field of a value that means something, or stays
field-by :
    {V : Type 0} (P : V → Type 0) (meaning : List ℕ → Option V) (given : Option (List ℕ)) (old : V)
    → ((text : List ℕ) (value : V) → meaning text ≡ Some value → P value)
    → P old
    → P (unwrap_or (option_and_then meaning given) old)
field-by P meaning None old means is = is
field-by P meaning (Some text) old means is = kept-by P (meaning text) old (means text) is

-- what holds of an old field and of all meanings holds of the new field
pub field-kept :
    {V : Type 0} (P : V → Type 0) (meaning : List ℕ → Option V) (letter : List ℕ)
    (request : Request) (old : V)
    → ((text : List ℕ) (value : V) → meaning text ≡ Some value → P value)
    → P old
    → P (field_value meaning letter request old)
field-kept P meaning letter request old means is =
    field-by P meaning (value_of letter request) old means is

-- an ID that an option gives is one
given-by :
    (given : Option (List ℕ)) (id : ℕ)
    → option_and_then read_id given ≡ Some id
    → id ≤ greatest_id
given-by None id e = cc
given-by (Some text) id e = (number-is greatest_id text id e).bounded

-- an ID that an option gives is at most the greatest
pub given-small :
    (letter : List ℕ) (request : Request) (id : ℕ)
    → given_id letter request ≡ Some id
    → id ≤ greatest_id
given-small letter request id e = given-by (value_of letter request) id e

-- ---- Records of a table

-- what holds of a record that may be there, and of the others
cons-held :
    {R : Type 0} (P : R → Type 0) (o : Option R) (rs : List R)
    → ((r : R) → o ≡ Some r → P r)
    → AllByRecursion P rs
    → AllByRecursion P (cons_option o rs)
cons-held P None rs one all = all
cons-held P (Some r) rs one all = (one r refl, all)

-- the records of lines can be held by lines
lines-held :
    {R : Type 0} (format : Format R) (IsRecord : R → Type 0)
    → Holds format IsRecord
    → (lines : List Line)
    → AllByRecursion (λ line. Lacks newline line.text) lines
    → AllByRecursion IsRecord (records_of format lines)
lines-held format IsRecord holds [] apart = tt
lines-held format IsRecord holds (line ∷ lines) apart =
    cons-held IsRecord (format.read line.text) (records_of format lines)
    (λ r read. holds.read line.text r apart.0 read) (lines-held format IsRecord holds lines apart.1)

-- the records of a table can be held by lines
pub table-held :
    {R : Type 0} (format : Format R) (IsRecord : R → Type 0)
    → Holds format IsRecord
    → (bytes : Option (List ℕ))
    → AllByRecursion IsRecord (table_records format bytes)
table-held format IsRecord holds None = tt
table-held format IsRecord holds (Some bytes) =
    lines-held format IsRecord holds (lines_of bytes) (lines_of-are bytes).apart

-- the first that passes is the front one, or is found behind it
find-by :
    {R : Type 0} (P : R → Type 0) (test : R → Bool) (r s : R) (rs : List R) (b : Bool)
    → test r ≡ b
    → P r
    → (if b then Some r else find test rs) ≡ Some s
    → (find test rs ≡ Some s → P s × (test s ≡ true))
    → P s × (test s ≡ true)
find-by P test r s rs true e is found later =
    (subst P (some-inj found) is, subst (λ x. test x ≡ true) (some-inj found) e)
find-by P test r s rs false e is found later = later found

-- what holds of all holds of the one that is found, which passes the test
pub find-held :
    {R : Type 0} (P : R → Type 0) (test : R → Bool) (rs : List R) (s : R)
    → AllByRecursion P rs
    → find test rs ≡ Some s
    → P s × (test s ≡ true)
find-held P test [] s all found = cc
find-held P test (r ∷ rs) s all found =
    find-by P test r s rs (test r) refl all.0 found (find-held P test rs s all.1)

-- a user that is found can stand in a line
pub user-held :
    (name : List ℕ) (files : Files) (user : PasswdRecord)
    → find_user name files ≡ Some user
    → IsPasswd user
user-held name files user found =
    (find-held IsPasswd (is_named passwd_format name) (passwd_records files) user
    (table-held passwd_format IsPasswd passwd-holds files.passwd) found).0

-- a group that is found can stand in a line
pub group-held :
    (name : List ℕ) (files : Files) (group : GroupRecord)
    → group_named name files ≡ Some group
    → IsGroup group
group-held name files group found =
    (find-held IsGroup (is_named group_format name) (group_records files) group
    (table-held group_format IsGroup group-holds files.group) found).0

-- the name under which a user is found can stand in a first field
named-by :
    (name : List ℕ) (files : Files) (o : Option PasswdRecord)
    → find_user name files ≡ o
    → is_some o ≡ true
    → IsNameField name
named-by name files None found is = cc
named-by name files (Some user) found is =
    let held = find-held IsPasswd (is_named passwd_format name) (passwd_records files) user
    (table-held passwd_format IsPasswd passwd-holds files.passwd) found
    in subst IsNameField ((bytes_eq-Decides user.name name).0 held.1) held.0.name

-- a name that passwd has can stand in a first field
pub has-named : (name : List ℕ) (files : Files) → has_user name files ≡ true → IsNameField name
has-named name files is = named-by name files (find_user name files) refl is

-- the name of a user who isn't missing can stand in a first field
pub user-named : (name : List ℕ) (files : Files) → missing_user name files ≡ None → IsNameField name
user-named name files none = has-named name files
    (refuse-none (has_user name files) (NoUser name) none)

-- no name is found to be missing
find-none :
    {X : Type 0} (test : X → Bool) (x : X) (xs : List X) (b : Bool)
    → test x ≡ b
    → (if b then Some x else find test xs) ≡ None
    → (test x ≡ false) × (find test xs ≡ None)
find-none test x xs true e none = cc
find-none test x xs false e none = (e, none)

-- a refusal of nothing
map-none : {X Y : Type 0} (f : X → Y) (o : Option X) → option_map f o ≡ None → o ≡ None
map-none f None e = refl
map-none f (Some x) e = cc

-- names of which none is missing
users-by :
    (files : Files) (names : List (List ℕ))
    → find (λ name. not (has_user name files)) names ≡ None
    → AllByRecursion IsNameField names
users-by files [] none = tt
users-by files (name ∷ names) none =
    let parts = find-none (λ name. not (has_user name files)) name names
    (not (has_user name files)) refl none
    in (
      has-named name files (not-false (has_user name files) parts.0),
      users-by
          files names parts.1,
    )

-- the users of a list option can stand in a list, where none is missing
pub users-listed :
    (files : Files) (text : List ℕ)
    → missing_users (list_value text) files ≡ None
    → AllByRecursion IsListed (list_value text)
users-listed files text none = both-listed (list_value text)
    (users-by files (list_value text) (map-none NoUser
    (find (λ name. not (has_user name files)) (list_value text)) none))
    (list-no_comma text)

-- a name that isn't refused for a comma has none
comma-by :
    (name : List ℕ) (b : Bool)
    → has_byte comma name ≡ b
    → (if b then Some (BadName name) else None) ≡ None
    → Lacks comma name
comma-by name true e none = cc
comma-by name false e none = lacks-byte comma name e

-- a user who isn't missing and has no comma can stand in a list
pub user-listed :
    (name : List ℕ) (files : Files)
    → missing_user name files ≡ None
    → bad_list_name name ≡ None
    → IsListed name
user-listed name files there no_comma = record {
  name_field = user-named name files there;
  no_comma = comma-by name (has_byte comma name) refl no_comma;
}
