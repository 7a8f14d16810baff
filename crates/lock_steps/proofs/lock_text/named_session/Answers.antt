use Rattle.std.proofs.Common.{codes}
use Rattle.std.proofs.lemmas.Slice.Eq.{strip_prefix_is, strip_suffix_is}
use Rattle.std.proofs.lemmas.Bool.Decides.{Decides-eqb}
use Rattle.lock_steps.proofs.LockTextLemmas.{named}
use Rattle.lock_steps.proofs.lock_text.named_session.Goals as goal

pub returns : goal.returns
returns c =
    let rest = c.in_ok-strip_prefix.field-0 in
    let begins = rw c.in_ok-strip_prefix.was at
    (strip_prefix_is Decides-eqb c.args.text.now (codes "held ") c.strip_prefix.result
    c.strip_prefix.ensures.cases) in
    named c.args.text.now rest.now begins c.strip_suffix.result
    (strip_suffix_is Decides-eqb rest.now (codes "\n") c.strip_suffix.result
    c.strip_suffix.ensures.cases)
