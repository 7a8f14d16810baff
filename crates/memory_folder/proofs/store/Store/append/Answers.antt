use Rattle.std.proofs.Common.{◌∙◌, ap, sym}
use Rattle.std.specs.Option.{option_copied}
use Rattle.memory_folder.specs.Stored.{folder_in}
use Rattle.memory_folder.proofs.FolderLemmas.{appended-absent}
use Rattle.memory_folder.proofs.store.Store.append.Goals as goal

pub returns-in_default-clause-ok : goal.returns-in_default-clause-ok
returns-in_default-clause-ok c =
    appended-absent c.args.name c.args.piece.now (folder_in c.args.self.now)
    c.args.self.now.is_folder (sym c.get.ensures ∙ ap option_copied c.in_default.is)
