use Rattle.std.proofs.Common.{◌≡◌, sym, subst, None}
use Rattle.acct_outside.specs.Folder.{IsFolder, with_file}
use Rattle.memory_folder.specs.Store.{folder_of}
use Rattle.memory_folder.specs.Stored.{folder_in}
use Rattle.memory_folder.proofs.StoreLemmas.{folder_of-is}
use Rattle.memory_folder.proofs.FolderLemmas.{IsFolder-without_file}
use Rattle.memory_folder.proofs.store.Store.remove.Goals as goal

-- the store without the file
removed : (c : goal.After-drop_lock)
    → folder_of c.drop_file.new.files.items c.drop_lock.new.locks.items
    ≡ with_file c.args.name None (folder_in c.args.self.now)
removed c =
    folder_of-is c.drop_file.new.files.items c.drop_lock.new.locks.items
    (with_file c.args.name None (folder_in c.args.self.now))
    c.drop_file.ensures.files c.drop_lock.ensures.locks

pub invariant_of-self : goal.invariant_of-self
invariant_of-self c =
    record {
      is_folder =
          subst IsFolder (sym (removed c))
          (IsFolder-without_file c.args.name (folder_in c.args.self.now) c.args.self.now.is_folder);
    }
