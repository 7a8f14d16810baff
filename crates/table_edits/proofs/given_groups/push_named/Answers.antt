use Rattle.std.proofs.Common.{◌≡◌, ◌∙◌, ◌++◌, [], ◌∷◌, ℕ, false, List, refl, rules, sym, ap}
use Rattle.std.proofs.lemmas.Result.{on_ok_weaker}
use Rattle.std.specs.Prelude.{Option, Some, None, is_none, option_map}
use Rattle.std.specs.List.{cons_option}
use Rattle.acct_text.specs.Numbers.{is_digits}
use Rattle.account_model.specs.Format.{find_named}
use Rattle.account_model.specs.GivenGroups.{find_group}
use Rattle.account_model.specs.Records.{group_format}
use Rattle.account_model.specs.Tables.{group_records}
use Rattle.account_model.specs.declared.records.GroupRecord.{GroupRecord}
use Rattle.account_model.proofs.NamedLaws.{found-named}
use Rattle.table_edits.proofs.given_groups.push_named.Goals as goal

-- the name of what is found by it, and so has it
told :
    (name : List ℕ) (found : Option GroupRecord)
    → ((group : GroupRecord) → found ≡ Some group → group.name ≡ name)
    → is_none found ≡ false
    → name ∷ [] ≡ cons_option (option_map (λ group. group.name) found) []
told name None has there = absurd cc
told name (Some group) has there = ap (λ name. name ∷ []) (sym (has group refl))

-- a word that isn't all digits is the name of the group that it names
pub returns-then-not-is_digits : goal.returns-then-not-is_digits
returns-then-not-is_digits c =
    let name = c.args.word.now in
    let groups = group_records c.args.tables.now in
    let named : is_digits name ≡ false = search rules in
    let same : find_group name groups ≡ find_named group_format name groups = rw named refl in
    on_ok_weaker c.push.result
    (λ is.
    is
    ∙ ap (λ more. c.args.names.now ++ more)
    (told name (find_group name groups)
    (λ group found. found-named group_format name groups group (sym same ∙ found)) c.requires))
    c.push.ensures.ok
