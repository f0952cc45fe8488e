-- The placed segments that a reader has left, and one step of it.
use Rattle.std.specs.Prelude.{suc, ◌≡◌, List, [], ◌∷◌, Option}
use Rattle.std.specs.Option.{MatchOption}
use Rattle.message.specs.Segs.{Seg, seg_at}
use Rattle.message.specs.Forms.Left.{segs_after}
use Rattle.rule.specs.declared.placed.Place.{Place}
use Rattle.rule.specs.declared.placed.Places.{Places}

abbrev pub places_left : Places → List Seg
places_left r = segs_after r.table.now r.text.service r.text.bytes.now (suc r.nth) r.row r.cursor.at

-- a step gives the first of those left, and stays in the text
pub record Steps (r : Places) (p : Option Place) (q : Places) : Type 0 where
  pub yields : MatchOption p ((places_left r ≡ []) × (places_left q ≡ [])) (λ x. places_left r ≡ seg_at r.text.service r.text.bytes.now x.nth x.row x.at ∷ places_left q)
  pub same : q.text ≡ r.text
