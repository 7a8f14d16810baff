use Rattle.rehearsal.proofs.ImageLemmas.{has-files}
use Rattle.rehearsal.proofs.images.folder_of.Goals as goal

pub returns : goal.returns
returns c = has-files c.tools_have_deeds.ensures.0 c.tools_have_deeds.ensures.1 c.args.files.now _ _
    c.requires c.in_ok-contents.ensures c.in_ok-folder.ensures.past c.in_ok-folder.ensures.first
