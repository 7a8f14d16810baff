-- userdel is lawful (`userdel-lawful`). Way: lists lose names, and all else goes, of the user that the command names.
use Rattle.std.proofs.Common.{ℕ, Bool, false, List, [], ◌∷◌, refl, ap, ◌∙◌}
use Rattle.std.specs.Prelude.{Option, Some, None}
use Rattle.std.specs.List.{AllByRecursion}
use Rattle.acct_text.specs.declared.files.Files.{Files}
use Rattle.account_model.specs.declared.records.SubidRecord.{SubidRecord}
use Rattle.account_model.specs.declared.tool.Tool.TheVariants.{Userdel}
use Rattle.account_model.specs.Format.{is_named}
use Rattle.account_model.specs.Members.{without_name}
use Rattle.account_model.specs.SubidOwner.{is_owned}
use Rattle.account_model.specs.NamedLines.{Named, named_by, names_subid}
use Rattle.account_model.specs.Records.{passwd_format, shadow_format, group_format, gshadow_format, subid_format}
use Rattle.account_model.specs.RecordEdits.{IsWrittenEdit}
use Rattle.account_model.specs.Edits.{drop_where}
use Rattle.account_model.specs.Written.{IsPasswd, IsShadow, IsGroup, IsGshadow, IsSubid}
use Rattle.account_model.specs.Tables.{no_edits}
use Rattle.account_model.specs.WrittenScript.{IsWrittenScript}
use Rattle.account_model.specs.Request.{Request, operand}
use Rattle.account_model.specs.Groupdel.{remove_group}
use Rattle.account_model.specs.Userdel.{KeptGroup, group_without, gshadow_without, remove_user, own_group, own_uid, reason_to_keep, own_group_script}
use Rattle.account_model.proofs.HeldLaws.{passwd-holds, shadow-holds, group-holds, gshadow-holds, subid-holds, each-written, drop_where-written}
use Rattle.account_model.proofs.ComposedScripts.{all-hold, some-holds}
use Rattle.account_model.proofs.LawfulScripts.{IsLawful, lawful, lawful-composed}
use Rattle.account_model.proofs.LawfulTools.{LawfulTool, quiet-act}
use Rattle.account_model.proofs.NamedLaws.{Spares, SparesUnnamed, drop-spares, not-owned, unlisted-stays, group-parts, gshadow-parts}
use Rattle.account_model.proofs.NamedParts.{first-has, other-user, other-shadow}
use Rattle.account_model.proofs.MemberLaws.{without-listed}
use Rattle.account_model.proofs.LawfulParts.{removed-lawful}
use Rattle.account_model.proofs.KeptIds.{KeepIds, drop-keeps, numbers_of}

-- ranges that go
subid-dropped :
    (test : SubidRecord → Bool)
    → AllByRecursion (IsWrittenEdit subid_format) (drop_where test ∷ [])
subid-dropped test = (drop_where-written subid_format IsSubid subid-holds test, tt)

-- a user who goes
remove-user-written : (user : List ℕ) (files : Files) → IsWrittenScript (remove_user user files)
remove-user-written user files = record {
  passwd = (
    drop_where-written passwd_format IsPasswd passwd-holds
        (is_named passwd_format user),
    tt,
  );
  shadow = (
    drop_where-written shadow_format IsShadow shadow-holds
        (is_named shadow_format user),
    tt,
  );
  group = (
    each-written group_format IsGroup group-holds (group_without user) (λ r is. record {
      name = is.name;
      password = is.password;
      gid = is.gid;
      members = without-listed user r.members is.members;
    }),
    tt,
  );
  gshadow = (
    each-written gshadow_format IsGshadow gshadow-holds (gshadow_without user) (λ r is. record {
      name = is.name;
      password = is.password;
      administrators = without-listed user r.administrators is.administrators;
      members = without-listed user r.members is.members;
    }),
    tt,
  );
  subuid = subid-dropped _;
  subgid = subid-dropped _;
}

-- and gives no ID
remove-user-keeps : (user : List ℕ) (files : Files) → KeepIds (remove_user user files)
remove-user-keeps user files = record {
  passwd = (drop-keeps (λ one. one.uid) (is_named passwd_format user), tt);
  group = ((λ r. refl), tt);
  subuid = (drop-keeps numbers_of (is_owned user (own_uid user files)), tt);
  subgid = (drop-keeps numbers_of (is_owned user (own_uid user files)), tt);
}

module _ (request : Request) (files : Files) where
  -- what it names
  abbrev userdel_names : Named
  userdel_names = named_by Userdel request [] files

  -- its ranges go
  ranges-dropped :
      Spares subid_format false (names_subid userdel_names)
      (drop_where (is_owned (operand request) (own_uid (operand request) files)))
  ranges-dropped = drop-spares subid_format false _
      (is_owned (operand request) (own_uid (operand request) files))
      (not-owned (operand request) (own_uid (operand request) files))

  -- a user who goes leaves all others
  removal-spares : SparesUnnamed false userdel_names (remove_user (operand request) files)
  removal-spares = record {
    passwd = (
      drop-spares passwd_format false _ (is_named passwd_format (operand request))
          (other-user userdel_names (operand request) (first-has (operand request) [])),
      tt,
    );
    shadow = (
      drop-spares shadow_format false _ (is_named shadow_format (operand request))
          (other-shadow userdel_names (operand request) (first-has (operand request) [])),
      tt,
    );
    group = (
      (λ r none. ap (λ (members : List (List ℕ)). record r { members = members } ∷ [])
          (unlisted-stays (operand request) r.members
          (group-parts userdel_names r none).1)),
      tt,
    );
    gshadow = (
      (λ r none.
          let parts = gshadow-parts userdel_names r none
          in ap (λ (members : List (List ℕ)). record r {
            administrators = without_name (operand request) r.administrators;
            members = members;
          } ∷ []) (unlisted-stays (operand request) r.members parts.1)
          ∙ ap (λ (administrators : List (List ℕ)).
          record r { administrators = administrators } ∷ [])
          (unlisted-stays (operand request) r.administrators parts.2)),
      tt,
    );
    subuid = (ranges-dropped, tt);
    subgid = (ranges-dropped, tt);
  }

  -- the own group of a user goes or is kept
  own-group-lawful :
      {day : ℕ} (kept : Option KeptGroup)
      → IsLawful day false false userdel_names
      (elim kept [ None ↦ remove_group (operand request) | Some reason ↦ no_edits ])
  own-group-lawful None =
      removed-lawful userdel_names (operand request) (first-has (operand request) [])
  own-group-lawful (Some reason) = (lawful-composed userdel_names).none

-- userdel adds nothing
pub userdel-lawful : LawfulTool Userdel
userdel-lawful request input day files settings =
    let composed = lawful-composed (userdel_names request files)
    in quiet-act refl refl refl (λ none. all-hold composed
    (remove_user (operand request) files ∷ own_group_script request files settings ∷ []) (
      lawful (remove-user-written (operand request) files) (removal-spares request files)
          (λ none. remove-user-keeps (operand request) files),
      (
        some-holds composed
            (λ group. elim (reason_to_keep request files group) [
              | None ↦ remove_group (operand request)
              | Some kept ↦ no_edits
            ])
            (own_group request files settings)
            (λ group found. own-group-lawful request files (reason_to_keep request files group)),
        tt,
      ),
    ))
