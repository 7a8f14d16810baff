use Rattle.std.proofs.Common.{◌≡◌, ◌∙◌, ap, sym, subst, if◌then◌else◌, List, Some, None, Option}
use Rattle.std.specs.Option.{option_copied}
use Rattle.acct_text.specs.Bytes.{Bytes}
use Rattle.acct_outside.specs.declared.Name.{Name}
use Rattle.acct_outside.specs.Folder.{IsFolder, with_file, locks_with, moved, moved_content}
use Rattle.acct_outside.specs.Names.{same_name}
use Rattle.memory_folder.specs.Store.{file_in, folder_of}
use Rattle.memory_folder.specs.Stored.{folder_in}
use Rattle.memory_folder.proofs.StoreLemmas.{folder_of-is}
use Rattle.memory_folder.proofs.FolderLemmas.{IsFolder-moved}
use Rattle.memory_folder.proofs.store.Store.rename.Goals as goal

-- the store with the file moved
renamed : (c : goal.After-add_lock)
    → folder_of c.put_file.new.files.items c.add_lock.new.locks.items
    ≡ with_file c.args.to (Some c.in_ok-bytes.bytes)
    (with_file c.args.from None (folder_in c.args.self.now))
renamed c =
    let bytes = c.in_ok-bytes.bytes in
    folder_of-is c.put_file.new.files.items c.add_lock.new.locks.items
    (with_file c.args.to (Some bytes) (with_file c.args.from None (folder_in c.args.self.now)))
    (λ other.
    let dropped : List (Name × Bytes) → Option Bytes =
    λ files. if same_name other c.args.from then None else file_in files other in
    let now : Option Bytes → Option Bytes =
    λ content. if same_name other c.args.to then Some bytes else content in
    c.put_file.ensures other
    ∙ ap now (c.drop_file.ensures.files other ∙ ap dropped c.reserve.ensures.items))
    (c.add_lock.ensures bytes
    ∙ ap (locks_with c.args.to (Some bytes))
    (c.drop_lock.ensures.locks ∙ ap (locks_with c.args.from None) c.reserve-2.ensures.items))

-- it is what moves there, since that stood
moves : (c : goal.After-add_lock)
    → folder_of c.put_file.new.files.items c.add_lock.new.locks.items
    ≡ moved c.args.from c.args.to (folder_in c.args.self.now)
moves c =
    let folder = folder_in c.args.self.now in
    let stands : folder.file c.args.from ≡ Some c.in_ok-bytes.bytes =
    sym c.get.ensures ∙ ap option_copied c.in-Some.is
    ∙ ap (λ (b : Bytes). Some b) (sym c.in_ok-bytes.ensures) in
    renamed c
    ∙ ap (λ (content : Option Bytes). moved_content content c.args.from c.args.to folder)
    (sym stands)

pub invariant_of-self-2 : goal.invariant_of-self-2
invariant_of-self-2 c =
    record {
      is_folder =
          subst IsFolder (sym (moves c))
          (IsFolder-moved c.args.from c.args.to c.requires (folder_in c.args.self.now)
          c.args.self.now.is_folder);
    }
