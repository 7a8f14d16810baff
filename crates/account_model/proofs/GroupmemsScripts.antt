-- groupmems is lawful (`groupmems-lawful`). Way: the refusals show that the user of `-a` can stand in a list; the other options
-- leave members out.
use Rattle.std.proofs.Common.{◌≡◌, ℕ, false, [], ◌∷◌, ◌∙◌, inl, refl, sym, true≢false}
use Rattle.std.specs.Prelude.{None, codes}
use Rattle.acct_text.specs.declared.files.Files.{Files}
use Rattle.account_model.specs.declared.tool.Tool.TheVariants.{Groupmems}
use Rattle.account_model.specs.Text.{first_some}
use Rattle.account_model.specs.Tables.{no_edits}
use Rattle.account_model.specs.Members.{each_members, add_to_group, remove_from_group, with_name, without_name}
use Rattle.account_model.specs.Request.{Request, has_option}
use Rattle.account_model.specs.Refusals.{refuse_value, bad_list_name, missing_group, missing_user}
use Rattle.account_model.specs.Action.{changes, reports, with_flag, with_option}
use Rattle.account_model.specs.Gpasswd.{not_member}
use Rattle.account_model.specs.Groupmems.{asked_group, groupmems_refusals, groupmems_script, member_lines}
use Rattle.account_model.specs.NamedLines.{named_by}
use Rattle.account_model.proofs.ComposedScripts.{all-hold, flag-holds, option-holds}
use Rattle.account_model.proofs.DeedLaws.{first-none}
use Rattle.account_model.proofs.GroupToolScripts.{added-listed}
use Rattle.account_model.proofs.LawfulParts.{members-lawful}
use Rattle.account_model.proofs.LawfulScripts.{IsLawful, lawful-composed}
use Rattle.account_model.proofs.LawfulTools.{IsPlain, LawfulTool, by-choice}
use Rattle.account_model.proofs.MemberLaws.{with-listed, without-listed}
use Rattle.account_model.proofs.NamedParts.{first-has}

-- the edits of groupmems
groupmems-script-lawful :
    {day : ℕ} (request : Request) (files : Files)
    → first_some (groupmems_refusals (asked_group request) request files) ≡ None
    → IsLawful day false false (named_by Groupmems request [] files)
    (groupmems_script (asked_group request) request)
groupmems-script-lawful request files none =
    let group = asked_group request
    in let named = named_by Groupmems request [] files
    in let has = first-has group []
    in let after_group = first-none (missing_group group files) _ none
    in let after_added = first-none (refuse_value (codes "a") request
    (λ user. missing_user user files)) _ after_group.1
    in let after_member = first-none (refuse_value (codes "d") request
    (not_member group files)) _ after_added.1
    in let listed = first-none (refuse_value (codes "a") request bad_list_name) _ after_member.1
    in all-hold (lawful-composed named)
    (with_option (codes "a") request (add_to_group group)
    ∷ with_option (codes "d") request (remove_from_group group)
    ∷ with_flag (codes "p") request (each_members group (λ members. []))
    ∷ []) (
      option-holds (lawful-composed named) (codes "a") request (add_to_group group)
          (λ user given. members-lawful named group has (with_name user)
          (λ names. with-listed user names
          (added-listed request files user after_added.0 listed.0 given))),
      (
        option-holds (lawful-composed named) (codes "d") request (remove_from_group group)
            (λ user given. members-lawful named group has (without_name user)
            (without-listed user)),
        (
          flag-holds (lawful-composed named) (codes "p") request _
              (members-lawful named group has (λ members. []) (λ names all. tt)),
          tt,
        ),
      ),
    )

-- groupmems lists the members of a group, or changes them
pub groupmems-lawful : LawfulTool Groupmems
groupmems-lawful request input day files settings =
    let group = asked_group request
    in let lists = has_option (codes "l") request
    in let one = reports (groupmems_refusals group request files) 0 (member_lines group files)
    in let other = changes (groupmems_refusals group request files) (groupmems_script group request)
    in record {
      script = by-choice (λ action. first_some action.refusals ≡ None
          → IsLawful day false false (named_by Groupmems request [] files) action.script) lists
          one other (λ is none. (lawful-composed _).none)
          (λ is none. groupmems-script-lawful request files none);
      plain = by-choice IsPlain lists one other (λ is. inl refl) (λ is. inl refl);
      report = λ rules asked. by-choice (λ action. action.script ≡ no_edits) lists one other
          (λ is. refl) (λ is. absurd (true≢false (sym asked ∙ is)));
      line = λ may. refl;
    }
