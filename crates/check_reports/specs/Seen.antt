-- What pwck and grpck know, and the problems that they find, as account_model has them: one of the
-- program stands for one of these (pwck(8), grpck(8)).
use Rattle.std.specs.Prelude.{ℕ, List, map}
use Rattle.acct_text.specs.declared.files.Files.{Files}
use Rattle.acct_text.specs.Files.{no_files}
use Rattle.account_model.specs.Grpck.{unknown_users}
use Rattle.account_model.specs.Problems as model
use Rattle.check_reports.specs.declared.known.GroupChecks.{GroupChecks}
use Rattle.check_reports.specs.declared.known.GroupHashChecks.{GroupHashChecks}
use Rattle.check_reports.specs.declared.known.NamedFile.{NamedFile}
use Rattle.check_reports.specs.declared.problem.Listing.{Listing}
use Rattle.check_reports.specs.declared.problem.Listing.TheVariants.{Administrator, Member}
use Rattle.check_reports.specs.declared.problem.Problem.{Problem}
use Rattle.check_reports.specs.declared.problem.Problem.TheVariants.{InvalidEntry, DuplicateName, InvalidUserName, NoPrimaryGroup, NoShadowEntry, PasswordNotInShadow, NoPasswdEntry, ChangeInFuture, InvalidGroupName, NoGshadowEntry, NoGroupEntry, UnknownAdministrator, UnknownMember}
use Rattle.check_reports.specs.declared.known.UserChecks.{UserChecks}

-- the tables that the check of passwd looks at
abbrev pub beside_users : UserChecks → Files
beside_users known = record no_files {
  shadow = known.hashes.now.file.now;
  group = known.groups.now;
}

-- passwd alone, as the check of shadow and members of groups look at it
abbrev pub users_seen : NamedFile → Files
users_seen users = record no_files { passwd = users.file.now }

-- the tables that the check of group looks at
abbrev pub beside_groups : GroupChecks → Files
beside_groups known = record no_files {
  passwd = known.users.now.file.now;
  gshadow = known.hashes.now.file.now;
}

-- the tables that the check of gshadow looks at
abbrev pub beside_group_hashes : GroupHashChecks → Files
beside_group_hashes known = record no_files {
  passwd = known.users.now.file.now;
  group = known.groups.now.file.now;
}

-- the problem
abbrev pub seen_problem : Problem → model.Problem
seen_problem InvalidEntry = model.InvalidEntry
seen_problem (DuplicateName name) = model.DuplicateName name.now
seen_problem (InvalidUserName name) = model.InvalidUserName name.now
seen_problem (NoPrimaryGroup name gid) = model.NoPrimaryGroup name.now gid
seen_problem (NoShadowEntry name) = model.NoShadowEntry name.now
seen_problem (PasswordNotInShadow name) = model.PasswordNotInShadow name.now
seen_problem (NoPasswdEntry name) = model.NoPasswdEntry name.now
seen_problem (ChangeInFuture name) = model.ChangeInFuture name.now
seen_problem (InvalidGroupName name) = model.InvalidGroupName name.now
seen_problem (NoGshadowEntry name) = model.NoGshadowEntry name.now
seen_problem (NoGroupEntry name) = model.NoGroupEntry name.now
seen_problem (UnknownAdministrator group user) = model.UnknownAdministrator group.now user.now
seen_problem (UnknownMember group user) = model.UnknownMember group.now user.now

-- the problem of a user whom a list of the group names, and who isn't in passwd
abbrev pub unknown_problem : Listing → List ℕ → List ℕ → model.Problem
unknown_problem Administrator group user = model.UnknownAdministrator group user
unknown_problem Member group user = model.UnknownMember group user

-- those of the users of a list of the group who aren't in passwd, each in its place
abbrev pub unknown_problems :
    Listing → List ℕ → Files → List (List ℕ) → List model.Problem
unknown_problems listing group files users =
    map (unknown_problem listing group) (unknown_users files users)
