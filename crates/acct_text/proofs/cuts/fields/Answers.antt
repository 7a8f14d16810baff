use Rattle.std.proofs.Common.{ℕ, List, Vec, Global, ◌≡◌, ◌∙◌, ap, map, All, subst, sym}
use Rattle.std.proofs.lemmas.Result.{IfOk-weaker}
use Rattle.acct_text.specs.Bytes.{IsWithin, colon, part_of, places_from}
use Rattle.acct_text.specs.Pieces.{fields_of}
use Rattle.acct_text.proofs.PartPlaces.{LieFrom, cut_at-lies, parts-shown, parts-within}
use Rattle.acct_text.proofs.cuts.fields.Goals as goal

-- each field lies in the line
fields-lie-in : (line : List ℕ) → LieFrom line 0 (fields_of line)
fields-lie-in line = cut_at-lies colon line

-- each place shows its field
pub returns-clause-texts : goal.returns-clause-texts
returns-clause-texts c =
    let line = c.args.line.now in
    let fields = fields_of line in
    let ArePlaces = λ (places : Vec (ℕ × ℕ) Global). places.items ≡ places_from 0 fields in
    let AreShown = λ (places : Vec (ℕ × ℕ) Global). map (part_of line) places.items ≡ fields in
    IfOk-weaker _ ArePlaces AreShown
    (λ places are. ap (map (part_of line)) are ∙ parts-shown line 0 fields (fields-lie-in line))
    c.piece_places.ensures

-- each place lies within the line
pub returns-clause-within : goal.returns-clause-within
returns-clause-within c =
    let line = c.args.line.now in
    let fields = fields_of line in
    let ArePlaces = λ (places : Vec (ℕ × ℕ) Global). places.items ≡ places_from 0 fields in
    let AreWithin = λ (places : Vec (ℕ × ℕ) Global). All (IsWithin line) places.items in
    let within = parts-within line 0 fields (fields-lie-in line) in
    IfOk-weaker _ ArePlaces AreWithin
    (λ places are. subst (All (IsWithin line)) (sym are) within)
    c.piece_places.ensures
