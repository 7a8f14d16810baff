use Rattle.std.proofs.Common.{◌≡◌, ◌∙◌, ap, refl, sym, true}
use Rattle.std.specs.Prelude.{Option, Some, None, IfSome, is_some, option_and_then}
use Rattle.acct_tables.proofs.lines.has_record.Goals as goal

-- there is a line where there is what it reads as
some-reads :
    {L R : Type 0} (line : Option L) (read : L → Option R)
    → IfSome line (λ one. is_some (read one) ≡ true)
    → is_some line ≡ is_some (option_and_then read line)
some-reads None read reads = refl
some-reads (Some one) read reads = sym reads

pub returns : goal.returns
returns g c =
    let format = g.R.TableRecord.format in
    let line = c.line_of_name.result in
    c.is_some.ensures
    ∙ some-reads line (λ one. format.read one.now) c.line_of_name.ensures.reads
    ∙ ap is_some c.line_of_name.ensures.found
