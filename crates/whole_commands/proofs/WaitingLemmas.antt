-- Claim: sessions that haven't begun take part in each folder (`waiting-part`). Way: they have no token.
use Rattle.std.proofs.Common.{◌≡◌, inl, List, get_or, Some, None, arith}
use Rattle.std.specs.Prelude.{All}
use Rattle.suite_session.specs.declared.session.Phase.{Phase}
use Rattle.suite_session.specs.declared.session.Phase.TheVariants.{Waiting, Begun, Over, Unbegun}
use Rattle.suite_session.specs.Belongs.{AreTwo}
use Rattle.suite_session.specs.Session.{IsWaiting}
use Rattle.side_by_side.specs.Scenes.{TakePart, TakesPart, Telling}

-- one that hasn't begun takes part
waiting-takes : (told : Telling) (session : Phase) → IsWaiting session → TakesPart told session
waiting-takes told (Waiting asked) is = inl tt
waiting-takes told (Begun runner state) is = absurd is
waiting-takes told (Over runner answer) is = absurd is
waiting-takes told (Unbegun tool answer) is = absurd is

-- and has no token
waiting-apart : (session other : Phase) → IsWaiting session → AreTwo session other
waiting-apart (Waiting asked) other is = λ token own also.
    absurd (let none : None ≡ Some token = own in cc)
waiting-apart (Begun runner state) other is = absurd is
waiting-apart (Over runner answer) other is = absurd is
waiting-apart (Unbegun tool answer) other is = absurd is

-- the claim
pub waiting-part : (told : Telling) (sessions : List Phase) → All IsWaiting sessions →
    TakePart (record { told = told; sessions = sessions })
waiting-part told sessions wait = record {
  each = λ k d within. waiting-takes told (get_or sessions k d) (wait k d within);
  apart = λ i j d less within. waiting-apart (get_or sessions i d) (get_or sessions j d)
      (wait i d (omega (arith, less, within)));
}
