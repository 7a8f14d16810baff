use Rattle.std.proofs.Common.{◌∙◌, ap, refl, List}
use Rattle.acct_text.specs.Bytes.{Bytes}
use Rattle.intent_file.specs.Intent.{NewTable, Intended, header_of, is_in_order, is_within_limit}
use Rattle.intent_file.specs.Pieces.{lines_around}
use Rattle.intent_file.proofs.Reading.{allowed_parts}
use Rattle.intent_file.proofs.intent.Intent.in_version.Goals as goal

pub header_of-requires-clause-in_order : goal.header_of-requires-clause-in_order
header_of-requires-clause-in_order c =
    let intent : Intended = record {
      version = c.args.version;
      number = c.args.number;
      tables = c.args.tables.items;
    } in
    ap is_in_order c.deref.ensures.value ∙ (allowed_parts intent c.requires).in_order

pub header_of-requires-clause-within_limit : goal.header_of-requires-clause-within_limit
header_of-requires-clause-within_limit c =
    let intent : Intended = record {
      version = c.args.version;
      number = c.args.number;
      tables = c.args.tables.items;
    } in
    ap is_within_limit c.deref.ensures.value ∙ (allowed_parts intent c.requires).within_limit

pub invariant_of-result : goal.invariant_of-result
invariant_of-result c = (
  c.requires,
  c.in_ok-lines.ensures
      ∙ (ap (λ (tables : List NewTable). lines_around c.in_ok-header.header tables)
      c.deref-2.ensures.value
      ∙ ap (λ (head : Bytes). lines_around head c.args.tables.items) (c.in_ok-header.ensures
      ∙ ap (λ (tables : List NewTable). header_of c.args.version c.args.number tables)
      c.deref.ensures.value)),
)

pub returns-clause-reads : goal.returns-clause-reads
returns-clause-reads c = record { allowed = c.requires; text = refl }
