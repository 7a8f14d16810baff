use Rattle.std.proofs.Common.{◌≡◌, ◌∙◌, ◌+◌, ◌-◌, ◌++◌, [], ◌∷◌, length, ap, arith}
use Rattle.std.specs.Prelude.{slice_set}
use Rattle.std.proofs.lemmas.List.{length-set, take_more_set}
use Rattle.std.proofs.lemmas.Slice.{take-put_mid}
use borrow.Rule.Slice.PartMut.{put_mid, same_len_mid}
use Rattle.acct_text.specs.Bytes.{colon, newline}
use Rattle.acct_tables.proofs.name_search.put_mark.Goals as goal

pub returns-clause-mark : goal.returns-clause-mark
returns-clause-mark c =
    let room = c.args.room.now in
    let size = length c.args.name.now in
    let first = slice_set room 0 newline in
    let copied = c.copy_from_slice.new.self in
    let begun = put_mid 1 (size + 1 - 1) first copied in
    let long : length first ≡ length room = length-set room 0 newline in
    let whole = same_len_mid 1 (size + 1 - 1) first copied in
    take_more_set begun (size + 1) colon (omega (arith, long))
    ∙ ap (λ front. front ++ colon ∷ [])
    (take-put_mid 1 (size + 1 - 1) first copied (size + 1)
    (omega (arith, ap length c.copy_from_slice.ensures.after)) (omega (arith, long))
    ∙ ap (λ front. front ++ copied) (take_more_set room 0 newline (omega arith))
    ∙ ap (λ name. newline ∷ name) c.copy_from_slice.ensures.after)
