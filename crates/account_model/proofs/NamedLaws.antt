-- Edits that spare the records which a command doesn't name (`SparesUnnamed`). Claim: such edits don't touch them
-- (`spares-untouched`), and keep the order where nothing is to be sorted (`spares-order`). Then what spares them: scripts
-- after one another (`spares-composed`), records of a name that become others or go (`where-spares`, `drop-spares`), and
-- lists without a name (`unlisted-stays`).
use Rattle.std.proofs.Common.{◌≡◌, ℕ, Bool, true, false, ◌||◌, not, List, [], ◌∷◌, refl, sym, ◌∙◌, ap}
use Rattle.std.specs.Prelude.{⊤, ◌==◌, Option, Some, None, cond, bytes_eq, decimal, if◌then◌else◌}
use Rattle.std.specs.List.{AllByRecursion, list_any}
use Rattle.std.proofs.lemmas.Bool.{or_parts, or_from}
use Rattle.std.proofs.lemmas.Slice.Eq.{bytes_eq-Decides}
use Rattle.account_model.specs.declared.records.PasswdRecord.{PasswdRecord}
use Rattle.account_model.specs.declared.records.ShadowRecord.{ShadowRecord}
use Rattle.account_model.specs.declared.records.GroupRecord.{GroupRecord}
use Rattle.account_model.specs.declared.records.GshadowRecord.{GshadowRecord}
use Rattle.account_model.specs.declared.records.SubidRecord.{SubidRecord}
use Rattle.acct_text.proofs.NumberLaws.{some-inj}
use Rattle.account_model.specs.Text.{is_listed}
use Rattle.account_model.specs.Format.{Format, is_named, find_named}
use Rattle.account_model.specs.Edits.{Edit, Become, Put, Arrange, becoming_touches, drop_where, each_where, touches}
use Rattle.account_model.specs.Members.{without_name}
use Rattle.account_model.specs.Records.{passwd_format, shadow_format, group_format, gshadow_format, subid_format}
use Rattle.account_model.specs.RecordEdits.{TellsSame}
use Rattle.account_model.specs.Tables.{Script, no_edits}
use Rattle.account_model.specs.SubidOwner.{is_owned}
use Rattle.account_model.specs.TouchedLines.{KeepsOrder}
use Rattle.account_model.specs.DeedLines.{KeepOrder}
use Rattle.account_model.specs.NamedLines.{Named, TouchNamed, lists_any, names_group, names_gshadow, names_passwd, names_shadow, names_subid, owner_fields}
use Rattle.account_model.proofs.ComposedScripts.{IsComposed}
use Rattle.account_model.proofs.ListLaws.{all-append}
use Rattle.account_model.proofs.RenamingLaws.{flipped}
use Rattle.account_model.proofs.SameLaws.{passwd-tells, shadow-tells, group-tells, gshadow-tells, subid-tells}

-- ---- One table

-- the edit leaves each record that isn't named, and sorts only where that is asked for
abbrev pub Spares : {R : Type 0} → Format R → Bool → (R → Bool) → Edit R → Type 0
Spares {R} format sorts names (Become f) = (r : R) → names r ≡ false → f r ≡ r ∷ []
Spares {R} format sorts names (Put s) =
    (r : R) → names r ≡ false → is_named format (format.name s) r ≡ false
Spares format sorts names (Arrange key) = sorts ≡ false → ⊥
Spares format sorts names edit = ⊤

-- a record that stays is touched where later edits touch it
same-by : (same later : Bool) → same ≡ true → later ≡ false → (not same || later) ≡ false
same-by true later is untouched = untouched
same-by false later is untouched = absurd (cc is)

module _ {R : Type 0} (format : Format R) (sorts : Bool) (names : R → Bool) where
  -- edits that leave a record don't touch it
  spared :
      TellsSame format
      → (edits : List (Edit R)) (r : R)
      → AllByRecursion (Spares format sorts names) edits
      → names r ≡ false
      → touches format edits r ≡ false
  spared tells [] r all none = refl
  spared tells (Become f ∷ edits) r all none =
      ap (λ (news : List R). becoming_touches format r news (touches format edits)) (all.0 r none)
      ∙ same-by (format.same r r) (touches format edits r) ((tells r r).1 refl)
      (spared tells edits r all.1 none)
  spared tells (Put s ∷ edits) r all none =
      or_from (is_named format (format.name s) r) (touches format edits r) (all.0 r none)
      (spared tells edits r all.1 none)
  spared tells (edit ∷ edits) r all none = spared tells edits r all.1 none

  -- where nothing is to be sorted, they keep the order
  ordered :
      (edits : List (Edit R))
      → sorts ≡ false
      → AllByRecursion (Spares format sorts names) edits
      → AllByRecursion KeepsOrder edits
  ordered [] asked all = tt
  ordered (Arrange key ∷ edits) asked all = absurd (all.0 asked)
  ordered (edit ∷ edits) asked all = (tt, ordered edits asked all.1)

  -- they leave what isn't named where more is, and more may be sorted
  wider :
      (more : Bool) (others : R → Bool)
      → (more ≡ false → sorts ≡ false)
      → ((r : R) → others r ≡ false → names r ≡ false)
      → (edits : List (Edit R))
      → AllByRecursion (Spares format sorts names) edits
      → AllByRecursion (Spares format more others) edits
  wider more others asked fewer [] all = tt
  wider more others asked fewer (Become f ∷ edits) all =
      ((λ r none. all.0 r (fewer r none)), wider more others asked fewer edits all.1)
  wider more others asked fewer (Put s ∷ edits) all =
      ((λ r none. all.0 r (fewer r none)), wider more others asked fewer edits all.1)
  wider more others asked fewer (Arrange key ∷ edits) all =
      ((λ none. all.0 (asked none)), wider more others asked fewer edits all.1)
  wider more others asked fewer (edit ∷ edits) all =
      (tt, wider more others asked fewer edits all.1)

  -- where the records that pass a test become others, those that fail it stay
  pub where-spares :
      (test : R → Bool) (f : R → R)
      → ((r : R) → names r ≡ false → test r ≡ false)
      → Spares format sorts names (each_where test f)
  where-spares test f fails r none = ap (λ passes. (if passes then f r else r) ∷ []) (fails r none)

  -- and where they go
  pub drop-spares :
      (test : R → Bool)
      → ((r : R) → names r ≡ false → test r ≡ false)
      → Spares format sorts names (drop_where test)
  drop-spares test fails r none = ap (λ passes. if passes then [] else r ∷ []) (fails r none)

-- ---- Names

-- a name that isn't this one
pub not-this :
    (name this : List ℕ) (rest : List (List ℕ))
    → is_listed name (this ∷ rest) ≡ false
    → bytes_eq name this ≡ false
not-this name this rest e = (or_parts (bytes_eq name this) (is_listed name rest) e).0

-- nor one of the others
pub not-others :
    (name this : List ℕ) (rest : List (List ℕ))
    → is_listed name (this ∷ rest) ≡ false
    → is_listed name rest ≡ false
not-others name this rest e = (or_parts (bytes_eq name this) (is_listed name rest) e).1

-- a user without ranges here
pub not-owned :
    (user : List ℕ) (uid : Option ℕ) (r : SubidRecord)
    → is_listed r.owner (owner_fields user uid) ≡ false
    → is_owned user uid r ≡ false
not-owned user None r e = not-this r.owner user [] e
not-owned user (Some uid) r e = or_from (bytes_eq r.owner user) (bytes_eq r.owner (decimal uid))
    (not-this r.owner user (decimal uid ∷ []) e)
    (not-this r.owner (decimal uid) [] (not-others r.owner user (decimal uid ∷ []) e))

-- a name that no list names
pub unlisted-in :
    (user : List ℕ) (names : List (List ℕ))
    → lists_any names (user ∷ []) ≡ false
    → is_listed user names ≡ false
unlisted-in user [] e = refl
unlisted-in user (name ∷ names) e =
    let parts = or_parts (is_listed name (user ∷ [])) (lists_any names (user ∷ [])) e
    in or_from (bytes_eq user name) (is_listed user names)
    (flipped name user (not-this name user [] parts.0)) (unlisted-in user names parts.1)

-- a list without the name stays without it
pub unlisted-stays :
    (user : List ℕ) (names : List (List ℕ))
    → lists_any names (user ∷ []) ≡ false
    → without_name user names ≡ names
unlisted-stays user [] e = refl
unlisted-stays user (name ∷ names) e =
    let parts = or_parts (is_listed name (user ∷ [])) (lists_any names (user ∷ [])) e
    in ap (λ (same : Bool). cond (not same) (name ∷ without_name user names)
    (without_name user names)) (not-this name user [] parts.0)
    ∙ ap (λ rest. name ∷ rest) (unlisted-stays user names parts.1)

-- what is found by a name has it
found-by :
    {R : Type 0} (format : Format R) (name : List ℕ) (s r : R) (rest : List R) (named : Bool)
    → is_named format name s ≡ named
    → cond named (Some s) (find_named format name rest) ≡ Some r
    → (find_named format name rest ≡ Some r → format.name r ≡ name)
    → format.name r ≡ name
found-by format name s r rest true is found later =
    ap format.name (sym (some-inj found)) ∙ (bytes_eq-Decides (format.name s) name).0 is
found-by format name s r rest false is found later = later found

pub found-named :
    {R : Type 0} (format : Format R) (name : List ℕ) (records : List R) (r : R)
    → find_named format name records ≡ Some r
    → format.name r ≡ name
found-named format name [] r found = absurd (cc found)
found-named format name (s ∷ rest) r found =
    found-by format name s r rest (is_named format name s) refl found
    (found-named format name rest r)

-- ---- What a record has that isn't named

module _ (named : Named) where
  -- in passwd another name and another primary GID, and not each user is named
  pub passwd-parts :
      (r : PasswdRecord)
      → names_passwd named r ≡ false
      → (is_listed r.name named.users ≡ false)
      × (list_any (λ gid. r.gid == gid) named.gids ≡ false) × (named.all_users ≡ false)
  passwd-parts r none =
      let gids : Bool = list_any (λ gid. r.gid == gid) named.gids
      in let parts = or_parts (is_listed r.name named.users) (gids || named.all_users) none
      in let rest = or_parts gids named.all_users parts.1
      in (parts.0, rest.0, rest.1)

  -- in shadow another name
  pub shadow-parts :
      (r : ShadowRecord)
      → names_shadow named r ≡ false
      → (is_listed r.name named.users ≡ false) × (named.all_users ≡ false)
  shadow-parts r none = or_parts (is_listed r.name named.users) named.all_users none

  -- in group another name and other members
  pub group-parts :
      (r : GroupRecord)
      → names_group named r ≡ false
      → (is_listed r.name named.groups ≡ false) × (lists_any r.members named.users ≡ false)
      × (named.all_groups ≡ false)
  group-parts r none =
      let members : Bool = lists_any r.members named.users
      in let parts = or_parts (is_listed r.name named.groups) (members || named.all_groups) none
      in let rest = or_parts members named.all_groups parts.1
      in (parts.0, rest.0, rest.1)

  -- in gshadow other administrators too
  pub gshadow-parts :
      (r : GshadowRecord)
      → names_gshadow named r ≡ false
      → (is_listed r.name named.groups ≡ false) × (lists_any r.members named.users ≡ false)
      × (lists_any r.administrators named.users ≡ false) × (named.all_groups ≡ false)
  gshadow-parts r none =
      let members : Bool = lists_any r.members named.users
      in let administrators : Bool = lists_any r.administrators named.users
      in let parts = or_parts (is_listed r.name named.groups)
      (members || (administrators || named.all_groups)) none
      in let lists = or_parts members (administrators || named.all_groups) parts.1
      in let rest = or_parts administrators named.all_groups lists.1
      in (parts.0, lists.0, rest.0, rest.1)

-- ---- All tables

-- each edit leaves each record that isn't named, and sorts only where that is asked for
pub record SparesUnnamed (sorts : Bool) (named : Named) (script : Script) : Type 0 where
  pub passwd : AllByRecursion (Spares passwd_format sorts (names_passwd named)) script.passwd
  pub shadow : AllByRecursion (Spares shadow_format sorts (names_shadow named)) script.shadow
  pub group : AllByRecursion (Spares group_format sorts (names_group named)) script.group
  pub gshadow : AllByRecursion (Spares gshadow_format sorts (names_gshadow named)) script.gshadow
  pub subuid : AllByRecursion (Spares subid_format sorts (names_subid named)) script.subuid
  pub subgid : AllByRecursion (Spares subid_format sorts (names_subid named)) script.subgid

-- so no such record is touched
pub spares-untouched :
    {sorts : Bool} (named : Named) (script : Script)
    → SparesUnnamed sorts named script
    → TouchNamed named script
spares-untouched {sorts = sorts} named script spares = record {
  passwd = λ r. spared passwd_format sorts (names_passwd named) passwd-tells script.passwd r
      spares.passwd;
  shadow = λ r. spared shadow_format sorts (names_shadow named) shadow-tells script.shadow r
      spares.shadow;
  group = λ r. spared group_format sorts (names_group named) group-tells script.group r
      spares.group;
  gshadow = λ r. spared gshadow_format sorts (names_gshadow named) gshadow-tells script.gshadow r
      spares.gshadow;
  subuid = λ r. spared subid_format sorts (names_subid named) subid-tells script.subuid r
      spares.subuid;
  subgid = λ r. spared subid_format sorts (names_subid named) subid-tells script.subgid r
      spares.subgid;
}

-- and where nothing is to be sorted, the order is kept
pub spares-order :
    {sorts : Bool} (named : Named) (script : Script)
    → sorts ≡ false
    → SparesUnnamed sorts named script
    → KeepOrder script
spares-order {sorts = sorts} named script none spares = record {
  passwd = ordered passwd_format sorts (names_passwd named) script.passwd none spares.passwd;
  shadow = ordered shadow_format sorts (names_shadow named) script.shadow none spares.shadow;
  group = ordered group_format sorts (names_group named) script.group none spares.group;
  gshadow = ordered gshadow_format sorts (names_gshadow named) script.gshadow none spares.gshadow;
  subuid = ordered subid_format sorts (names_subid named) script.subuid none spares.subuid;
  subgid = ordered subid_format sorts (names_subid named) script.subgid none spares.subgid;
}

-- the one names only what the other does
pub record NamesWithin (one other : Named) : Type 0 where
  pub passwd : (r : PasswdRecord) → names_passwd other r ≡ false → names_passwd one r ≡ false
  pub shadow : (r : ShadowRecord) → names_shadow other r ≡ false → names_shadow one r ≡ false
  pub group : (r : GroupRecord) → names_group other r ≡ false → names_group one r ≡ false
  pub gshadow : (r : GshadowRecord) → names_gshadow other r ≡ false → names_gshadow one r ≡ false
  pub subid : (r : SubidRecord) → names_subid other r ≡ false → names_subid one r ≡ false

-- what spares what the one doesn't name spares what the other doesn't, where that may sort too
pub wider-spares :
    {sorts more : Bool} {one other : Named} (script : Script)
    → (more ≡ false → sorts ≡ false)
    → NamesWithin one other
    → SparesUnnamed sorts one script
    → SparesUnnamed more other script
wider-spares {sorts} {more} {one} {other} script asked within spares = record {
  passwd = wider passwd_format sorts (names_passwd one) more (names_passwd other) asked
      within.passwd script.passwd spares.passwd;
  shadow = wider shadow_format sorts (names_shadow one) more (names_shadow other) asked
      within.shadow script.shadow spares.shadow;
  group = wider group_format sorts (names_group one) more (names_group other) asked within.group
      script.group spares.group;
  gshadow = wider gshadow_format sorts (names_gshadow one) more (names_gshadow other) asked
      within.gshadow script.gshadow spares.gshadow;
  subuid = wider subid_format sorts (names_subid one) more (names_subid other) asked within.subid
      script.subuid spares.subuid;
  subgid = wider subid_format sorts (names_subid one) more (names_subid other) asked within.subid
      script.subgid spares.subgid;
}

-- it holds of no edits, and of two scripts
pub spares-composed : {sorts : Bool} (named : Named) → IsComposed (SparesUnnamed sorts named)
spares-composed named = record {
  none = record { passwd = tt; shadow = tt; group = tt; gshadow = tt; subuid = tt; subgid = tt };
  both = λ first second one other. record {
    passwd = all-append _ first.passwd second.passwd one.passwd other.passwd;
    shadow = all-append _ first.shadow second.shadow one.shadow other.shadow;
    group = all-append _ first.group second.group one.group other.group;
    gshadow = all-append _ first.gshadow second.gshadow one.gshadow other.gshadow;
    subuid = all-append _ first.subuid second.subuid one.subuid other.subuid;
    subgid = all-append _ first.subgid second.subgid one.subgid other.subgid;
  };
}

-- edits of users alone
pub users-spare :
    {sorts : Bool} {named : Named} (passwd : List (Edit PasswdRecord))
    (shadow : List (Edit ShadowRecord))
    → AllByRecursion (Spares passwd_format sorts (names_passwd named)) passwd
    → AllByRecursion (Spares shadow_format sorts (names_shadow named)) shadow
    → SparesUnnamed sorts named (record no_edits { passwd = passwd; shadow = shadow })
users-spare passwd shadow one other = record {
  passwd = one;
  shadow = other;
  group = tt;
  gshadow = tt;
  subuid = tt;
  subgid = tt;
}

-- edits of groups alone
pub groups-spare :
    {sorts : Bool} {named : Named} (group : List (Edit GroupRecord))
    (gshadow : List (Edit GshadowRecord))
    → AllByRecursion (Spares group_format sorts (names_group named)) group
    → AllByRecursion (Spares gshadow_format sorts (names_gshadow named)) gshadow
    → SparesUnnamed sorts named (record no_edits { group = group; gshadow = gshadow })
groups-spare group gshadow one other = record {
  passwd = tt;
  shadow = tt;
  group = one;
  gshadow = other;
  subuid = tt;
  subgid = tt;
}
