-- Claim: a deed touches only what its command names (`deeds-touch-named`), and keeps the order of lines where the command
-- doesn't sort (`deeds-keep-order`). Way: so do the tools; of a batch each line spares what it doesn't name, and so what all
-- lines don't name (`both-spare`), and no line of it may sort.
use Rattle.std.proofs.Common.{◌≡◌, ℕ, Bool, true, false, ◌||◌, List, [], ◌∷◌, ◌++◌, refl}
use Rattle.std.specs.Prelude.{Option, unwrap_or, ◌==◌, bytes_eq, if◌then◌else◌}
use Rattle.std.specs.List.{AllByRecursion, list_any}
use Rattle.std.proofs.lemmas.Bool.{or_parts, or_from}
use Rattle.acct_text.specs.declared.files.Files.{Files}
use Rattle.account_model.specs.Text.{is_listed}
use Rattle.account_model.specs.Tables.{Script, files_after, followed_by}
use Rattle.account_model.specs.Settings.{Setting, settings_of}
use Rattle.account_model.specs.Request.{Request}
use Rattle.account_model.specs.Words.{is_batch, is_for_lines}
use Rattle.account_model.specs.Change.{action_of}
use Rattle.account_model.specs.BatchLines.{LineRequest, line_requests}
use Rattle.account_model.specs.DeedLines.{DeedsKeepOrder, edits_of_deed, edits_of_lines, edits_on, is_sort}
use Rattle.account_model.specs.NamedLines.{DeedsTouchNamed, Named, lists_any, named_by, named_by_both, named_by_deed, named_by_lines, names_nothing}
use Rattle.account_model.proofs.LineTools.{lines-for-lines}
use Rattle.account_model.proofs.NamedLaws.{NamesWithin, SparesUnnamed, group-parts, gshadow-parts, passwd-parts, shadow-parts, spares-composed, spares-order, spares-untouched, wider-spares}
use Rattle.account_model.proofs.ComposedScripts.{outcome-holds}
use Rattle.account_model.proofs.ToolLaws.{meaning}

-- ---- More names

-- what none of two lists has, neither has
not-front :
    {X : Type 0} (test : X → Bool) (xs ys : List X)
    → list_any test (xs ++ ys) ≡ false
    → list_any test xs ≡ false
not-front test [] ys none = refl
not-front test (x ∷ xs) ys none =
    let parts = or_parts (test x) (list_any test (xs ++ ys)) none
    in or_from (test x) (list_any test xs) parts.0 (not-front test xs ys parts.1)

not-back :
    {X : Type 0} (test : X → Bool) (xs ys : List X)
    → list_any test (xs ++ ys) ≡ false
    → list_any test ys ≡ false
not-back test [] ys none = none
not-back test (x ∷ xs) ys none =
    not-back test xs ys (or_parts (test x) (list_any test (xs ++ ys)) none).1

-- what one list has, another has too
abbrev IsIn : {X : Type 0} → List X → List X → Type 0
IsIn {X = X} xs ys = (test : X → Bool) → list_any test ys ≡ false → list_any test xs ≡ false

-- so it is of the names of a list
lists-in :
    (names one other : List (List ℕ))
    → IsIn one other
    → lists_any names other ≡ false
    → lists_any names one ≡ false
lists-in [] one other is none = refl
lists-in (name ∷ names) one other is none =
    let parts = or_parts (is_listed name other) (lists_any names other) none
    in or_from (is_listed name one) (lists_any names one)
    (is (bytes_eq name) parts.0) (lists-in names one other is parts.1)

-- what one command names, another names too
record IsNamedBy (one other : Named) : Type 0 where
  users : IsIn one.users other.users
  gids : IsIn one.gids other.gids
  groups : IsIn one.groups other.groups
  owners : IsIn one.owners other.owners
  all_users : other.all_users ≡ false → one.all_users ≡ false
  all_groups : other.all_groups ≡ false → one.all_groups ≡ false

-- then lines that the other doesn't name the one doesn't name
named-within : (one other : Named) → IsNamedBy one other → NamesWithin one other
named-within one other is = record {
  passwd = λ r none. let parts = passwd-parts other r none in
      or_from (is_listed r.name one.users)
      (list_any (λ gid. r.gid == gid) one.gids || one.all_users)
      (is.users (bytes_eq r.name) parts.0)
      (or_from (list_any (λ gid. r.gid == gid) one.gids) one.all_users
      (is.gids (λ gid. r.gid == gid) parts.1) (is.all_users parts.2));
  shadow = λ r none. let parts = shadow-parts other r none in
      or_from (is_listed r.name one.users) one.all_users
      (is.users (bytes_eq r.name) parts.0) (is.all_users parts.1);
  group = λ r none. let parts = group-parts other r none in
      or_from (is_listed r.name one.groups) (lists_any r.members one.users || one.all_groups)
      (is.groups (bytes_eq r.name) parts.0)
      (or_from (lists_any r.members one.users) one.all_groups
      (lists-in r.members one.users other.users is.users parts.1) (is.all_groups parts.2));
  gshadow = λ r none. let parts = gshadow-parts other r none in
      or_from (is_listed r.name one.groups)
      (lists_any r.members one.users
      || (lists_any r.administrators one.users || one.all_groups))
      (is.groups (bytes_eq r.name) parts.0)
      (or_from (lists_any r.members one.users)
      (lists_any r.administrators one.users || one.all_groups)
      (lists-in r.members one.users other.users is.users parts.1)
      (or_from (lists_any r.administrators one.users) one.all_groups
      (lists-in r.administrators one.users other.users is.users parts.2)
      (is.all_groups parts.3)));
  subid = λ r. is.owners (bytes_eq r.owner);
}

module _ (one other : Named) where
  -- what two commands name
  abbrev both : Named
  both = named_by_both one other

  -- both name what the first does
  front-within : IsNamedBy one both
  front-within = record {
    users = λ test. not-front test one.users other.users;
    gids = λ test. not-front test one.gids other.gids;
    groups = λ test. not-front test one.groups other.groups;
    owners = λ test. not-front test one.owners other.owners;
    all_users = λ none. (or_parts one.all_users other.all_users none).0;
    all_groups = λ none. (or_parts one.all_groups other.all_groups none).0;
  }

  -- and what the second does
  back-within : IsNamedBy other both
  back-within = record {
    users = λ test. not-back test one.users other.users;
    gids = λ test. not-back test one.gids other.gids;
    groups = λ test. not-back test one.groups other.groups;
    owners = λ test. not-back test one.owners other.owners;
    all_users = λ none. (or_parts one.all_users other.all_users none).1;
    all_groups = λ none. (or_parts one.all_groups other.all_groups none).1;
  }

  -- edits of which each part spares what one of them doesn't name spare what neither does
  pub both-spare :
      {sorts one_sorts other_sorts : Bool} (first second : Script)
      → (sorts ≡ false → one_sorts ≡ false)
      → (sorts ≡ false → other_sorts ≡ false)
      → SparesUnnamed one_sorts one first
      → SparesUnnamed other_sorts other second
      → SparesUnnamed sorts both (followed_by first second)
  both-spare first second asked other_asked spares also =
      (spares-composed both).both first second
      (wider-spares first asked (named-within one both front-within) spares)
      (wider-spares second other_asked (named-within other both back-within) also)

-- ---- Commands

-- the edits of a command spare what it doesn't name
command-spares :
    (request : Request) (input : List ℕ) (day : ℕ) (files : Files) (settings : List Setting)
    → SparesUnnamed (is_sort request) (named_by request.tool request input files)
    (edits_on request input day files settings)
command-spares request input day files settings =
    outcome-holds (spares-composed (named_by request.tool request input files))
    (action_of request input day files settings) files
    (λ none. ((meaning request.tool request input day files settings).script none).spares)

-- the edits of the commands of a batch spare what these don't name, and don't sort
lines-spare :
    {sorts : Bool} (lines : List LineRequest) (day : ℕ) (settings : List Setting) (files : Files)
    → AllByRecursion (λ line. is_for_lines line.request.tool ≡ true) lines
    → SparesUnnamed sorts (named_by_lines lines day settings files)
    (edits_of_lines lines day settings files)
lines-spare [] day settings files all = (spares-composed names_nothing).none
lines-spare (line ∷ rest) day settings files all =
    let first = edits_on line.request [] day files settings
    in let next = files_after first files
    in both-spare (named_by line.request.tool line.request [] files)
    (named_by_lines rest day settings next) first (edits_of_lines rest day settings next)
    (λ none. (meaning line.request.tool line.request [] day files settings).line all.0)
    (λ none. none)
    (command-spares line.request [] day files settings)
    (lines-spare rest day settings next all.1)

-- ---- Deeds

-- by whether the request is a batch
pub deed-spares :
    (request : Request) (input : List ℕ) (day : ℕ) (old : Files) (settings : List Setting)
    (is : Bool)
    → SparesUnnamed (is_sort request) (if is
    then named_by_lines (line_requests input) day settings old
    else named_by request.tool request input old)
    (if is
    then edits_of_lines (line_requests input) day settings old
    else edits_on request input day old settings)
deed-spares request input day old settings true =
    lines-spare (line_requests input) day settings old (lines-for-lines input)
deed-spares request input day old settings false =
    command-spares request input day old settings

-- a deed spares what its command doesn't name
spares :
    (request : Request) (input : List ℕ) (day : ℕ) (old : Files) (defs : Option (List ℕ))
    → SparesUnnamed (is_sort request) (named_by_deed request input day old defs)
    (edits_of_deed request input day old defs)
spares request input day old defs =
    deed-spares request input day old (settings_of (unwrap_or defs [])) (is_batch request.tool)

-- the claim
pub deeds-touch-named : DeedsTouchNamed
deeds-touch-named request input day old defs =
    spares-untouched (named_by_deed request input day old defs)
    (edits_of_deed request input day old defs) (spares request input day old defs)

-- and the order is kept by a command that doesn't sort
pub deeds-keep-order : DeedsKeepOrder
deeds-keep-order request input day old defs none =
    spares-order (named_by_deed request input day old defs)
    (edits_of_deed request input day old defs) none (spares request input day old defs)
