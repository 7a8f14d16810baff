use Rattle.std.proofs.Common.{[], append-nil, sym, subst}
use Rattle.std.specs.List.{cons_option}
use Rattle.std.proofs.lemmas.Result.{on_ok_weaker}
use Rattle.account_model.proofs.HeldLaws.{subid-holds}
use Rattle.acct_lines.specs.Shown.{subid_shown}
use Rattle.subid_ranges.specs.Gathered.{GathersMore}
use Rattle.subid_ranges.proofs.gathered.note_line.Goals as goal

pub note-requires : goal.note-requires
note-requires g c =
    let range = subid_shown c.in-Some.range in
    let held = subid-holds.read c.args.line.now.text.now range c.requires (sym c.in-Some.ensures) in
    record { some = held.some; last = held.last }

pub returns-in-Some : goal.returns-in-Some
returns-in-Some g c =
    let is_of = g.G.Gathered.is_of in
    on_ok_weaker c.note.result
    (subst (λ found. GathersMore is_of (cons_option found []) c.args.known.now c.note.new.self)
    c.in-Some.ensures)
    c.note.ensures

pub returns-in-None : goal.returns-in-None
returns-in-None g c =
    let is_of = g.G.Gathered.is_of in
    let known = c.args.known.now in
    subst (λ found. GathersMore is_of (cons_option found []) known known) c.in-None.ensures
    (λ ranges is. subst (λ all. is_of all known) (sym (append-nil ranges)) is)
