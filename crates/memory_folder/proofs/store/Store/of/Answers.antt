use Rattle.std.proofs.Common.{◌∙◌, ap, sym, Some, arith}
use Rattle.acct_text.specs.Bytes.{Bytes}
use Rattle.acct_outside.specs.Folder.{with_file}
use Rattle.memory_folder.specs.Store.{empty_folder}
use Rattle.memory_folder.specs.Stored.{folder_in}
use Rattle.memory_folder.proofs.StoreLemmas.{with_files-more}
use Rattle.memory_folder.proofs.store.Store.of.Goals as goal

pub loop-file-preserved : goal.loop-file-preserved
loop-file-preserved c =
    let file = c.file-item.result in
    let folder = folder_in c.loop-file.store in
    c.in_ok-put.ensures.ok
    ∙ ap (λ (bytes : Bytes). with_file file.0 (Some bytes) folder) c.in_ok-copy.ensures
    ∙ ap (with_file file.0 (Some file.1)) c.loop-file.invariant
    ∙ sym (with_files-more c.args.contents.now c.loop-file.file-index file empty_folder
    (omega arith) c.file-item.is)
