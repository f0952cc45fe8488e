-- Walking an interchange that opens. Assumes nothing.
use Rattle.std.specs.Prelude.{ℕ, ◌+◌, ◌≡◌, refl, List, ◌∷◌, Bool, true, false, length, drop, T}
use Rattle.std.proofs.Common.{sym, ◌∙◌, subst}
use Rattle.std.proofs.Math.Path.{ap}
use Rattle.service.specs.declared.Service.{Service}
use Rattle.service.specs.Tests.{last_of}
use Rattle.service.specs.Laws.ServiceLaws.{and_left}
use Rattle.segments.specs.declared.Segment.{Segment}
use Rattle.segments.specs.declared.Segment.TheVariants as segment
use Rattle.segments.specs.Forms.Bytes.{past_breaks}
use Rattle.segments.specs.Forms.Segments.{segment_at}
use Rattle.segments.specs.declared.Piece.{Piece}
use Rattle.segments.specs.declared.Piece.TheVariants.{Finished as finished}
use Rattle.segments.specs.SegmentList.{segments_from, segments_after, all_finished}
use Rattle.segments.specs.Laws.ListLaws.{list_nothing, list_finished, list_unfinished, segments_after_lem}
use Rattle.values.specs.Text.{text, same_list, says}
use Rattle.values.specs.Laws.TextLaws.{same_eq}
use Rattle.interchange.specs.Answers.{Opens}
use Rattle.interchange.specs.Answers.{Closing}
use Rattle.interchange.specs.Messages.{tag_at, messages_of, found_in, found_from}
use Rattle.interchange.specs.Envelope.{is_header, headed, is_unz, last_unz, after_first, body_of, messages_told}
use Rattle.interchange.specs.Forms.Answers.{opening_of, closed_by, closing_by, closing_of}
use Rattle.interchange.specs.Laws.OpenedLaws.{opened}
use Rattle.interchange.specs.Laws.EndedLaws.{Tidy, nil, one, more, tidy_pieces}
use Rattle.interchange.specs.Forms.Survey.{past_at}
use Rattle.interchange.specs.Laws.SurveyLaws.{past_finished}
use Rattle.interchange.specs.Walk.{Visits, Own}
use Rattle.interchange.specs.Laws.WalkLaws.{Placed, both, own, placed, settled, next_is, cut_here, found_skip}

-- where the last segment is a finished UNZ, no segment is unfinished
no_cut : (v : Service) (s : List ℕ) (b : Bool) {l : List Piece} → Tidy l → last_unz v s b l ≡ true → all_finished l ≡ true
unfolding last_of all_finished
no_cut v s b nil e = refl
no_cut v s b (one a u) e = absurd (subst T (sym e) tt)
no_cut v s b (more a t l w) e = no_cut v s (is_unz v s (finished a t)) w e

-- the UNB, and the segments after it
pub record Header (v : Service) (s : List ℕ) (first : ℕ) : Type 0 where
  pub term : ℕ
  pub next : ℕ
  pub at : segment.Finished term next ≡ segment_at v first s
  pub here : segments_from v s first ≡ finished first term ∷ segments_from v s next
  pub past : next ≡ past_at v s first
  pub rests : past_breaks next (drop next s) ≡ next
  pub tag : tag_at v s first ≡ text "UNB"
  pub body : Placed v s (segments_from v s next)

header_tag : (v : Service) (s : List ℕ) (i t : ℕ) (l : List Piece) → headed v s (finished i t ∷ l) ≡ true → tag_at v s i ≡ text "UNB"
unfolding is_header
header_tag v s i t l e = same_eq (tag_at v s i) (text "UNB") (and_left (says (tag_at v s i) "UNB") _ e)

header_by : (v : Service) (s : List ℕ) (first : ℕ) → headed v s (segments_from v s first) ≡ true → all_finished (segments_from v s first) ≡ true → (k : Segment) → k ≡ segment_at v first s → Header v s first
unfolding all_finished
header_by v s first h w (segment.Finished t n) c =
    let f = list_finished v s first (segment.Finished t n) c t n refl in
    let x = next_is v s first (segment.Finished t n) c t n refl in record {
      term = t;
      next = n;
      at = c;
      here = f;
      past = past_finished v s first (segment.Finished t n) c t n refl;
      rests = settled v s (t + 1) n x;
      tag = header_tag v s first t (segments_from v s n) (ap (headed v s) (sym f) ∙ h);
      body = placed v s (segments_from v s n) n refl (settled v s (t + 1) n x) (ap all_finished (sym f) ∙ w);
    }
header_by v s first h w segment.Unfinished c = absurd (cut_here first (length s) (segments_from v s first) (list_unfinished v s first segment.Unfinished c refl) w)
header_by v s first h w segment.Nothing c = absurd (subst T (sym (ap (headed v s) (sym (list_nothing v s first segment.Nothing c refl)) ∙ h)) tt)

pub unb_other : (v : Service) (s : List ℕ) (i t : ℕ) (l : List Piece) → tag_at v s i ≡ text "UNB" → messages_of v s (finished i t ∷ l) ≡ messages_of v s l
unfolding messages_of text same_list
unb_other v s i t l e = rw e refl

module _ (s : List ℕ) (v : Service) (first : ℕ) (o : opening_of s ≡ Opens v first) where
  pub header : Header v s first
  header =
      let f = opened s v first o in
      header_by v s first f.heads (no_cut v s false (tidy_pieces v _ first first (drop first s)) f.closes) (segment_at v first s) refl

  pub body_is : segments_from v s header.next ≡ body_of v s first
  body_is = ap after_first (sym header.here)

  -- walking on from the end of the UNB visits exactly the messages, in order, and ends
  pub walks_past : Visits v s (past_at v s first) (messages_of v s (body_of v s first))
  walks_past =
      subst (λ (l : List Piece). Visits v s (past_at v s first) (messages_of v s l)) body_is
      ((both v s header.body).out (past_at v s first)
      (ap (found_from v s) (sym header.past) ∙ ap (found_in v s) (segments_after_lem v s header.next header.next (sym header.rests))))

  -- and so does walking from any position from which the UNB is read first
  pub walks_from : (p : ℕ) → segments_after v s p ≡ segments_from v s first → Visits v s p (messages_of v s (body_of v s first))
  walks_from p e =
      subst (λ (l : List Piece). Visits v s p (messages_of v s l)) body_is
      ((both v s header.body).out p
      (ap (found_in v s) (e ∙ header.here) ∙ found_skip v s first header.term (segments_from v s header.next) (unb_other v s first header.term (segments_from v s header.next) header.tag)))

  -- what is found at a message's own first byte is that message
  pub owns : Own v s (messages_of v s (body_of v s first))
  owns = subst (λ (l : List Piece). Own v s (messages_of v s l)) body_is (own v s header.body)

  -- their number is what closing tells and compares
  pub counts : messages_told (closing_of s) ≡ length (messages_of v s (body_of v s first))
  unfolding closing_of closed_by
  counts = ap messages_told (ap (closing_by s) o)
