-- The count of messages and strays meets the end UNZ exactly if the last segment is a finished UNZ. Assumes nothing.
use Rattle.std.specs.Prelude.{ℕ, suc, ◌≡◌, refl, List, [], ◌∷◌, Bool, true, false, ◌&&◌, length, Option, Some, None}
use Rattle.std.proofs.Common.{sym, ◌∙◌, ap}
use Rattle.service.specs.declared.Service.{Service}
use Rattle.service.specs.Tests.{if, last_of}
use Rattle.segments.specs.declared.Piece.{Piece}
use Rattle.segments.specs.declared.Piece.TheVariants.{Finished as finished, Unfinished as unfinished}
use Rattle.segments.specs.SegmentList.{Mode, gap, first as initial, inside, held, after, ends, start_in, emit, left, pieces, segments_from}
use Rattle.values.specs.Text.{same_list, text, says}
use Rattle.values.specs.Laws.TextLaws.{same_eq}
use Rattle.interchange.specs.Messages.{tag_at, kind_by}
use Rattle.interchange.specs.declared.Kind.TheVariants.{Head as head, Trailer as trailer, Last as last, Other as other}
use Rattle.interchange.specs.Envelope.{is_header, headed, is_unz, last_unz, ended, after_first, last_start, body_of}
use Rattle.interchange.specs.Forms.Survey.{unz_by, unz_of}
use Rattle.interchange.specs.Laws.OpenLaws.{headed_at_lem}

-- ---- an unfinished segment is the last
pub data Tidy : List Piece → Type 0 where
  nil : Tidy []
  one : (a e : ℕ) → Tidy (unfinished a e ∷ [])
  more : (a t : ℕ) (l : List Piece) → Tidy l → Tidy (finished a t ∷ l)

tidy_emit : (t : Bool) (a b : ℕ) (l : List Piece) → Tidy l → Tidy (emit t a b l)
tidy_emit true a b l w = more a b l w
tidy_emit false a b l w = w

tidy_left : (m : Mode) (st i : ℕ) → Tidy (left m st i)
tidy_left gap st i = nil
tidy_left initial st i = nil
tidy_left inside st i = one st i
tidy_left held st i = one st i

pub tidy_pieces : (v : Service) (m : Mode) (st i : ℕ) (l : List ℕ) → Tidy (pieces v m st i l)
unfolding pieces
tidy_pieces v m st i [] = tidy_left m st i
tidy_pieces v m st i (b ∷ l) = tidy_emit (ends v m b) _ _ _ (tidy_pieces v (after v m b) (start_in m st i) (suc i) l)

pub tidy_after : {l : List Piece} → Tidy l → Tidy (after_first l)
tidy_after nil = nil
tidy_after (one a e) = nil
tidy_after (more a t l w) = w

-- ---- the count stops at the end UNZ, where there is one
unz_last : (g : List ℕ) → says g "UNZ" ≡ true → kind_by g true ≡ last
unfolding text same_list
unz_last g e = let z : g ≡ text "UNZ" = same_eq g (text "UNZ") e in rw z refl

no_unz : (t u : Bool) (i : ℕ) → unz_by (if t head (if u trailer other)) i None ≡ None
no_unz true u i = refl
no_unz false true i = refl
no_unz false false i = refl

at_end : (g : List ℕ) (a : ℕ) (b : Bool) → says g "UNZ" ≡ b → unz_by (kind_by g true) a None ≡ if b (Some a) None
at_end g a true e = rw (unz_last g e) refl
at_end g a false e = rw e (no_unz (says g "UNH") (says g "UNT") a)

go_on : (t u w : Bool) (i : ℕ) (on : Option ℕ) → unz_by (if t head (if u trailer (if w other other))) i on ≡ on
go_on true u w i on = refl
go_on false true w i on = refl
go_on false false true i on = refl
go_on false false false i on = refl

unz_is : (v : Service) (s : List ℕ) (d : ℕ) (b : Bool) (p : Piece) (l : List Piece) → Tidy (p ∷ l) → unz_of v s (p ∷ l) ≡ if (last_unz v s b (p ∷ l)) (Some (last_start d (p ∷ l))) None
unfolding unz_of last_of
unz_is v s d b _ _ (one a e) = refl
unz_is v s d b _ [] (more a t _ w) = at_end (tag_at v s a) a (says (tag_at v s a) "UNZ") refl
unz_is v s d b _ (q ∷ l) (more a t _ w) =
    go_on (says (tag_at v s a) "UNH") (says (tag_at v s a) "UNT") (says (tag_at v s a) "UNZ") a (unz_of v s (q ∷ l))
    ∙ unz_is v s a (says (tag_at v s a) "UNZ") q l w

pub unz_ended : (v : Service) (s : List ℕ) (d : ℕ) (l : List Piece) → Tidy l → unz_of v s l ≡ if (ended v s l) (Some (last_start d l)) None
unfolding unz_of last_of
unz_ended v s d [] w = refl
unz_ended v s d (p ∷ l) w = unz_is v s d false p l w

-- ---- a UNB is no UNZ, so that the segments after it tell
unb_unz : (l : List ℕ) → says l "UNB" ≡ true → says l "UNZ" ≡ false
unfolding text same_list
unb_unz l e = let z : l ≡ text "UNB" = same_eq l (text "UNB") e in rw z refl

header_unb : (y z : Bool) → y && z ≡ true → y ≡ true
header_unb true z w = refl
header_unb false z w = w

body_by : (v : Service) (s : List ℕ) (l : List Piece) → headed v s l ≡ true → ended v s l ≡ ended v s (after_first l)
unfolding last_of is_header
body_by v s [] h = refl
body_by v s (finished a t ∷ l) h = ap (λ (y : Bool). last_unz v s y l) (unb_unz (tag_at v s a) (header_unb (says (tag_at v s a) "UNB") _ h))
body_by v s (unfinished a e ∷ l) h = refl

pub body_ended : (v : Service) (s : List ℕ) (i : ℕ) → is_header v s i ≡ true → ended v s (segments_from v s i) ≡ ended v s (body_of v s i)
body_ended v s i h = body_by v s (segments_from v s i) (headed_at_lem v s i ∙ h)
