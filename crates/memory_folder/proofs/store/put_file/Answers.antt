use Rattle.std.proofs.Common.{◌∙◌, List, ap}
use Rattle.acct_text.specs.Bytes.{Bytes}
use Rattle.acct_outside.specs.declared.Name.{Name}
use Rattle.memory_folder.specs.Store.{file_in}
use Rattle.memory_folder.proofs.StoreLemmas.{file_in-put}
use Rattle.memory_folder.proofs.store.put_file.Goals as goal

pub returns : goal.returns
returns c = λ other.
    ap (λ (l : List (Name × Bytes)). file_in l other) c.push_reserved.ensures.items
    ∙ file_in-put c.drop_file.new.files.items c.args.name c.args.bytes other
    (file_in c.args.files.now.items other) (c.drop_file.ensures.files other)
