-- Table by table.
use Rattle.std.proofs.Common.{refl}
use Rattle.acct_text.specs.declared.Tab.TheVariants.{Passwd, Shadow, Group, Gshadow, Subuid, Subgid}
use Rattle.carried_tables.proofs.touched_tables.TouchedTables.joined.Goals as goal

pub returns : goal.returns
returns c Passwd = refl
returns c Shadow = refl
returns c Group = refl
returns c Gshadow = refl
returns c Subuid = refl
returns c Subgid = refl
