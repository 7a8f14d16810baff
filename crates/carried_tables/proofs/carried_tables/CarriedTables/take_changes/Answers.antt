-- Table after table is pushed where it differs, in the fixed order; each stands where it stood.
use Rattle.std.proofs.Common.{◌≡◌, ◌∙◌, [], ◌∷◌, List, ap, sym, subst}
use Rattle.std.specs.Prelude.{is_some}
use Rattle.acct_text.specs.declared.Tab.TheVariants.{Passwd, Shadow, Group, Gshadow, Subuid, Subgid}
use Rattle.acct_text.specs.declared.files.Files.{Files}
use Rattle.acct_text.specs.declared.new_tables.NewTable.{NewTable}
use Rattle.acct_text.specs.ChangedTables.{changed_tables}
use Rattle.acct_text.specs.Files.{table_of}
use Rattle.acct_text.specs.Tables.{all_tables}
use Rattle.tool_answers.proofs.ListedTables.{AreListedBefore, all-listed, listed-on, none-listed}
use Rattle.carried_tables.proofs.carried_tables.CarriedTables.take_changes.Goals as goal

pub push_change-requires : goal.push_change-requires
push_change-requires c =
    let is = c.take-passwd.ensures ∙ ap (λ (files : Files). files.passwd) c.self.view_is in
    record {
      stands = ap is_some is ∙ c.requires.stand Passwd;
      left = λ none. is ∙ c.requires.left Passwd none;
    }

pub push_change-requires-2 : goal.push_change-requires-2
push_change-requires-2 c =
    let is = c.replace-shadow.ensures.value ∙ ap (λ (files : Files). files.shadow) c.self.view_is in
    record {
      stands = ap is_some is ∙ c.requires.stand Shadow;
      left = λ none. is ∙ c.requires.left Shadow none;
    }

pub push_change-requires-3 : goal.push_change-requires-3
push_change-requires-3 c =
    let is = c.take-group.ensures ∙ ap (λ (files : Files). files.group) c.self.view_is in
    record {
      stands = ap is_some is ∙ c.requires.stand Group;
      left = λ none. is ∙ c.requires.left Group none;
    }

pub push_change-requires-4 : goal.push_change-requires-4
push_change-requires-4 c =
    let is = c.replace-gshadow.ensures.value
    ∙ ap (λ (files : Files). files.gshadow) c.self.view_is in
    record {
      stands = ap is_some is ∙ c.requires.stand Gshadow;
      left = λ none. is ∙ c.requires.left Gshadow none;
    }

pub push_change-requires-5 : goal.push_change-requires-5
push_change-requires-5 c =
    let is = c.take-subuid.ensures ∙ ap (λ (files : Files). files.subuid) c.self.view_is in
    record {
      stands = ap is_some is ∙ c.requires.stand Subuid;
      left = λ none. is ∙ c.requires.left Subuid none;
    }

pub push_change-requires-6 : goal.push_change-requires-6
push_change-requires-6 c =
    let is = c.take-subgid.ensures ∙ ap (λ (files : Files). files.subgid) c.self.view_is in
    record {
      stands = ap is_some is ∙ c.requires.stand Subgid;
      left = λ none. is ∙ c.requires.left Subgid none;
    }

pub returns : goal.returns
returns c =
    let old = table_of c.args.first.now in
    let taken : Files = record {
      passwd = c.take-passwd.result;
      shadow = c.replace-shadow.result;
      group = c.take-group.result;
      gshadow = c.replace-gshadow.result;
      subuid = c.take-subuid.result;
      subgid = c.take-subgid.result;
    } in
    let is : taken ≡ c.args.self.now = (λ i. record {
      passwd = c.take-passwd.ensures i;
      shadow = c.replace-shadow.ensures.value i;
      group = c.take-group.ensures i;
      gshadow = c.replace-gshadow.ensures.value i;
      subuid = c.take-subuid.ensures i;
      subgid = c.take-subgid.ensures i;
    }) ∙ c.self.view_is in
    let new = table_of taken in
    let none = c.none-tables.result in
    let one = c.push_change.new.tables in
    let two = c.push_change-2.new.tables in
    let three = c.push_change-3.new.tables in
    let four = c.push_change-4.new.tables in
    let five = c.push_change-5.new.tables in
    let six = c.push_change-6.new.tables in
    subst (λ (files : Files). six ≡ changed_tables old (table_of files)) is
    (all-listed old new six
    (listed-on old new Subgid [] five six c.in_ok-push_change-6.ensures
    (listed-on old new Subuid (Subgid ∷ []) four five c.in_ok-push_change-5.ensures
    (listed-on old new Gshadow (Subuid ∷ Subgid ∷ []) three four c.in_ok-push_change-4.ensures
    (listed-on old new Group (Gshadow ∷ Subuid ∷ Subgid ∷ []) two three
    c.in_ok-push_change-3.ensures
    (listed-on old new Shadow (Group ∷ Gshadow ∷ Subuid ∷ Subgid ∷ []) one two
    c.in_ok-push_change-2.ensures
    (listed-on old new Passwd (Shadow ∷ Group ∷ Gshadow ∷ Subuid ∷ Subgid ∷ []) none one
    c.in_ok-push_change.ensures
    (subst (λ (listed : List NewTable). AreListedBefore old new all_tables listed)
    (sym c.none-tables.ensures) (none-listed old new)))))))))
