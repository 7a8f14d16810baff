use Rattle.std.proofs.Common.{◌∙◌, ap, refl}
use Rattle.std.specs.Prelude.{drop}
use Rattle.std.specs.List.{join_with_byte}
use Rattle.account_model.specs.Faults.{field_at}
use Rattle.account_model.specs.Text.{comma}
use Rattle.user_changes.proofs.CommentLemmas.{cut-one-by-one, left-joined}
use Rattle.acct_text.specs.Pieces.{cut_at}
use Rattle.user_changes.proofs.comment.parts_of.Goals as goal

pub returns : goal.returns
returns c =
    let after_name = c.first_piece-full_name.ensures.others
    in let after_room = c.first_piece-room.ensures.others ∙ ap (drop 1) after_name
    in let after_work = c.first_piece-work_phone.ensures.others ∙ ap (drop 1) after_room
    in let after_home = c.first_piece-home_phone.ensures.others ∙ ap (drop 1) after_work
    in let name = c.first_piece-full_name.ensures.first
    in let room = c.first_piece-room.ensures.first ∙ ap (field_at 1) after_name
    in let work = c.first_piece-work_phone.ensures.first ∙ ap (field_at 1) after_room
    in let home = c.first_piece-home_phone.ensures.first ∙ ap (field_at 1) after_work
    in let other = ap (λ left. left.now) c.unwrap_or.ensures
    ∙ left-joined c.first_piece-home_phone.result.behind _ refl
    ∙ ap (join_with_byte comma) after_home
    in (λ i. record {
      full_name = name i;
      room = room i;
      work_phone = work i;
      home_phone = home i;
      other = other i;
    })
    ∙ cut-one-by-one (cut_at comma c.args.comment.now)
