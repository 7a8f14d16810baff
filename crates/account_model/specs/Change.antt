-- What each tool does: one function over all of them.
use Rattle.std.specs.Prelude.{ℕ, List, []}
use Rattle.account_model.specs.declared.tool.Tool.{Tool}
use Rattle.account_model.specs.declared.tool.Tool.TheVariants.{Useradd, Usermod, Userdel, Chfn, Chsh, Groupadd, Groupmod, Groupdel, Gpasswd, Groupmems, Chage, Chpasswd, Chgpasswd, Passwd, Pwconv, Pwunconv, Grpconv, Grpunconv, Pwck, Grpck, Getsubids, Batch}
use Rattle.acct_text.specs.declared.files.Files.{Files}
use Rattle.account_model.specs.Settings.{Setting}
use Rattle.account_model.specs.Request.{Request}
use Rattle.account_model.specs.Tables.{no_edits}
use Rattle.account_model.specs.Action.{Action, changes}
use Rattle.account_model.specs.Useradd.{useradd}
use Rattle.account_model.specs.Usermod.{usermod}
use Rattle.account_model.specs.Userdel.{userdel}
use Rattle.account_model.specs.Chfn.{chfn}
use Rattle.account_model.specs.Chsh.{chsh}
use Rattle.account_model.specs.Groupadd.{groupadd}
use Rattle.account_model.specs.Groupmod.{groupmod}
use Rattle.account_model.specs.Groupdel.{groupdel}
use Rattle.account_model.specs.Gpasswd.{gpasswd}
use Rattle.account_model.specs.Groupmems.{groupmems}
use Rattle.account_model.specs.Chage.{chage}
use Rattle.account_model.specs.Chpasswd.{set_hashes}
use Rattle.account_model.specs.declared.hashes_of.HashesOf.TheVariants.{Users, Groups}
use Rattle.account_model.specs.Passwd.{passwd}
use Rattle.account_model.specs.Conversion.{pwconv, pwunconv, grpconv, grpunconv}
use Rattle.account_model.specs.Pwck.{pwck}
use Rattle.account_model.specs.Grpck.{grpck}
use Rattle.account_model.specs.Getsubids.{getsubids}

-- what a tool does for a request with its input and the day, on these files under the settings of login.defs(5); a batch
-- does nothing by itself, its lines do (specs/Batch)
abbrev pub action_by : Tool → Request → List ℕ → ℕ → Files → List Setting → Action
action_by Useradd request input day files settings = useradd request files settings day
action_by Usermod request input day files settings = usermod request files day
action_by Userdel request input day files settings = userdel request files settings
action_by Chfn request input day files settings = chfn request files
action_by Chsh request input day files settings = chsh request files
action_by Groupadd request input day files settings = groupadd request files settings
action_by Groupmod request input day files settings = groupmod request files
action_by Groupdel request input day files settings = groupdel request files
action_by Gpasswd request input day files settings = gpasswd request files
action_by Groupmems request input day files settings = groupmems request files
action_by Chage request input day files settings = chage request files
action_by Chpasswd request input day files settings = set_hashes Users input files day
action_by Chgpasswd request input day files settings = set_hashes Groups input files day
action_by Passwd request input day files settings = passwd request files
action_by Pwconv request input day files settings = pwconv files settings day
action_by Pwunconv request input day files settings = pwunconv files
action_by Grpconv request input day files settings = grpconv files
action_by Grpunconv request input day files settings = grpunconv files
action_by Pwck request input day files settings = pwck request files day
action_by Grpck request input day files settings = grpck request files
action_by Getsubids request input day files settings = getsubids request files
action_by Batch request input day files settings = changes [] no_edits

-- what the request's tool does
abbrev pub action_of : Request → List ℕ → ℕ → Files → List Setting → Action
action_of request input day files settings = action_by request.tool request input day files settings
