-- The objects of the lines that are new are those of their records (`objects-are`).
use Rattle.std.proofs.Common.{◌≡◌, List, [], ◌∷◌, ◌++◌, map, ◌∙◌, ap, refl}
use Rattle.std.specs.Prelude.{Option, None, Some, filter_map, flat_map}
use Rattle.std.specs.List.{cons_option}
use Rattle.std.proofs.lemmas.List.Concat.{flat_map-cons}
use Rattle.acct_text.specs.Bytes.{Bytes}
use Rattle.account_model.specs.Format.{Format}
use Rattle.account_model.specs.PlanDiff.{DiffLine}
use Rattle.account_model.specs.PlanJson.{new_record}
use Rattle.plan_tool.specs.SeenDiff.{object_of, objects_of}

module _ {R : Type 0} (format : Format R) (object : R → Bytes) where
  -- the object of a record stands before those of others
  object-first :
      (found : Option R) (rest : List R)
      → object_of object found ++ map object rest ≡ map object (cons_option found rest)
  object-first None rest = refl
  object-first (Some found) rest = refl

  pub objects-are :
      (lines : List DiffLine)
      → flat_map (objects_of format object) lines
      ≡ map object (filter_map (new_record format) lines)
  objects-are [] = refl
  objects-are (line ∷ rest) =
      flat_map-cons (objects_of format object) line rest
      ∙ ap (λ objects. objects_of format object line ++ objects) (objects-are rest)
      ∙ object-first (new_record format line) (filter_map (new_record format) rest)
