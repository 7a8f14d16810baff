use Rattle.std.proofs.Common.{◌≡◌, ◌∙◌, List, not, ap, rules}
use Rattle.std.proofs.lemmas.Fn.{filter_same}
use Rattle.acct_text.specs.Bytes.{Bytes}
use Rattle.acct_outside.specs.declared.Name.{Name}
use Rattle.acct_outside.specs.Names.{same_name}
use Rattle.memory_folder.specs.Store.{file_in}
use Rattle.memory_folder.proofs.StoreLemmas.{others_of, file_in-others}
use Rattle.memory_folder.proofs.store.drop_file.Goals as goal

pub returns-clause-files : goal.returns-clause-files
returns-clause-files c = λ other.
    let dropped : c.retain.new.self.items ≡ others_of c.args.name c.args.files.now.items =
    filter_same _ (λ file. not (same_name file.0 c.args.name)) _ (λ x b q r. search rules) _ _
    c.retain.ensures.filtered in
    ap (λ (l : List (Name × Bytes)). file_in l other) dropped
    ∙ file_in-others c.args.name c.args.files.now.items other
