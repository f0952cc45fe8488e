-- What is found lies within the bytes, and what is counted is no more than the bytes. Assumes nothing.
use Rattle.std.specs.Prelude.{ℕ, suc, ◌+◌, ◌≤◌, ◌<◌, ◌≡◌, refl, Bool, true, false, length, drop, IfOk}
use native.Mathlib.Omega.{arith}
use Rattle.std.proofs.Common.{sym, ◌∙◌}
use Rattle.std.proofs.Math.Path.{subst}
use mathlib.Core.List.{List, [], ◌∷◌}
use Rattle.service.specs.declared.Service.{Service}
use Rattle.service.specs.Tests.{if}
use Rattle.segments.specs.declared.Segment.{Segment}
use Rattle.segments.specs.declared.Segment.TheVariants as segment
use Rattle.segments.specs.Forms.Bytes.{past_breaks}
use Rattle.segments.specs.Forms.Segments.{segment_at}
use Rattle.segments.specs.Laws.SegmentsLaws.{lies}
use Rattle.segments.specs.Laws.SyncLaws.{skipped}
use Rattle.segments.specs.declared.Piece.{Piece}
use Rattle.segments.specs.declared.Piece.TheVariants.{Finished as finished, Unfinished as unfinished}
use Rattle.segments.specs.SegmentList.{segments_from, all_finished}
use Rattle.segments.specs.Laws.ListLaws.{list_nothing, list_finished, list_unfinished}
use Rattle.interchange.specs.Answers.{Opening}
use Rattle.interchange.specs.Answers.{Opens}
use Rattle.interchange.specs.Answers.{Closing}
use Rattle.interchange.specs.declared.Closing as code
use Rattle.interchange.specs.Answers.{Found}
use Rattle.interchange.specs.Finds as found
use Rattle.interchange.specs.Messages.{kind_of, Extent, starts_at, ends_at, extent_by, extent_of, messages_by, messages_of, stays, stray_by, strays_of, cut_before, found_by, found_in, found_from}
use Rattle.interchange.specs.declared.Kind.{Kind}
use Rattle.interchange.specs.declared.Kind.TheVariants.{Head as head, Trailer as trailer, Last as last, Other as other, Cut as cut}
use Rattle.interchange.specs.Envelope.{after_first, message_count, stray_count}
use Rattle.interchange.specs.Opened.{Opened, OpenedAs}
use Rattle.interchange.specs.Closed.{ClosedAs, unopened, closes}
use Rattle.interchange.specs.Laws.FindLaws.{extent_starts, found_start}
use Rattle.interchange.specs.Laws.StepLaws.{unfinished_within}
use Rattle.interchange.specs.Laws.OpenedLaws.{opened, opening_is}

-- ---- the bytes of a message, a part of those from a position on
pub record Part (s : List ℕ) (at a e : ℕ) : Type 0 where
  pub after : at ≤ a
  pub order : a < e
  pub within : e ≤ length s

pub data Within (s : List ℕ) (at : ℕ) : Found → Type 0 where
  part : (a e : ℕ) → Part s at a e → Within s at (found.Message a e)
  none : Within s at found.Nothing
  broken : Within s at found.Unfinished

-- found from a later position
within_earlier : (s : List ℕ) (at i : ℕ) → at ≤ i → (k : Found) → Within s i k → Within s at k
within_earlier s at i h k (part a e p) = part a e (record { after = omega (arith, p.after); order = p.order; within = p.within })
within_earlier s at i h k none = none
within_earlier s at i h k broken = broken

-- ---- segments lie one after the other, from lo on and within n bytes
data Row (n : ℕ) : ℕ → List Piece → Type 0 where
  nil : (lo : ℕ) → Row n lo []
  more : (lo a t on : ℕ) (l : List Piece) → lo ≤ a → a ≤ t → t < on → on ≤ n → Row n on l → Row n lo (finished a t ∷ l)
  cut_off : (lo a e : ℕ) → lo ≤ a → a < n → Row n lo (unfinished a e ∷ [])

module _ (v : Service) (s : List ℕ) where
  row_by : (l : List Piece) → ((n : ℕ) (r : List Piece) → segments_from v s n ≡ r → (x : Piece) → l ≡ x ∷ r → Row (length s) n r)
      → (i : ℕ) → segments_from v s i ≡ l → (k : Segment) → k ≡ segment_at v i s → Row (length s) i l
  row_by l ih i e (segment.Finished t n) c =
      let g : l ≡ finished i t ∷ segments_from v s n = sym e ∙ list_finished v s i (segment.Finished t n) c t n refl in
      let w = lies v s i (segment.Finished t n) c t n refl in
      subst (Row (length s) i) (sym g) (more i i t n (segments_from v s n) (omega arith) w.from w.next w.within (ih n (segments_from v s n) refl (finished i t) g))
  row_by l ih i e segment.Unfinished c = subst (Row (length s) i) (sym (sym e ∙ list_unfinished v s i segment.Unfinished c refl)) (cut_off i i (length s) (omega arith) (unfinished_within v s i segment.Unfinished c refl))
  row_by l ih i e segment.Nothing c = subst (Row (length s) i) (sym (sym e ∙ list_nothing v s i segment.Nothing c refl)) (nil i)

  row : (l : List Piece) (i : ℕ) → segments_from v s i ≡ l → Row (length s) i l
  row [] i e = nil i
  row (y ∷ l) i e =
      row_by (y ∷ l) (λ (n : ℕ) (r : List Piece) f (x : Piece) g. let u : l ≡ r = cc in subst (Row (length s) n) u (row l n (f ∙ sym u))) i e (segment_at v i s) refl

  -- ---- the end of a message that begins at a
  record Ends (a e : ℕ) : Type 0 where
    order : a < e
    within : e ≤ length s

  ends_by_lem : (k : Kind) (a c t : ℕ) (on : Extent) → a < c → c ≤ t → t < length s → Ends a (ends_at on) → Ends a (ends_at (extent_by k (finished c t) a on))
  ends_by_lem head a c t on h g o w = record { order = h; within = omega arith }
  ends_by_lem trailer a c t on h g o w = record { order = omega arith; within = omega arith }
  ends_by_lem last a c t on h g o w = record { order = h; within = omega arith }
  ends_by_lem other a c t on h g o w = w
  ends_by_lem cut a c t on h g o w = w

  ends : (a : ℕ) {lo : ℕ} {l : List Piece} → Row (length s) lo l → a < lo → a < length s → Ends a (ends_at (extent_of v s a l))
  unfolding extent_of
  ends a (nil lo) h g = record { order = g; within = omega arith }
  ends a (more lo c t on l p q r o w) h g = ends_by_lem (kind_of v s (finished c t) l) a c t (extent_of v s a l) (omega arith) q (omega arith) (ends a w (omega arith) g)
  ends a (cut_off lo c e p q) h g = record { order = g; within = omega arith }

  -- ---- what is found
  one_by : (lo a : ℕ) (m : Extent) → starts_at m ≡ a → lo ≤ a → Ends a (ends_at m) → (b : Bool) → Within s lo (if b found.Unfinished (found.Message (starts_at m) (ends_at m)))
  one_by lo a m e h w true = broken
  one_by lo a m e h w false = let p = w.order in part (starts_at m) (ends_at m) (record { after = omega arith; order = omega arith; within = w.within })

  none_by : (lo : ℕ) (b : Bool) → Within s lo (if b found.Nothing found.Unfinished)
  none_by lo true = none
  none_by lo false = broken

  found_by_lem : (k : Kind) (lo c on t : ℕ) (l x : List Piece) → lo ≤ c → c ≤ t → t < on → on ≤ length s → Row (length s) on l → Within s on (found_by (messages_of v s l) x)
      → Within s lo (found_by (messages_by k (extent_of v s c l) (messages_of v s l)) x)
  found_by_lem head lo c on t l x p q r o w ih = one_by lo c (extent_of v s c l) (extent_starts v s c l) p (ends c w (omega arith) (omega arith)) (cut_before (ends_at (extent_of v s c l)) x)
  found_by_lem trailer lo c on t l x p q r o w ih = within_earlier s lo on (omega arith) _ ih
  found_by_lem last lo c on t l x p q r o w ih = within_earlier s lo on (omega arith) _ ih
  found_by_lem other lo c on t l x p q r o w ih = within_earlier s lo on (omega arith) _ ih
  found_by_lem cut lo c on t l x p q r o w ih = within_earlier s lo on (omega arith) _ ih

  found_row : (x : List Piece) {lo : ℕ} {l : List Piece} → Row (length s) lo l → Within s lo (found_by (messages_of v s l) x)
  unfolding messages_of
  found_row x (nil lo) = none_by lo (all_finished x)
  found_row x (more lo c t on l p q r o w) = found_by_lem (kind_of v s (finished c t) l) lo c on t l x p q r o w (found_row x w)
  found_row x (cut_off lo c e p q) = none_by lo (all_finished x)

  -- from any position
  pub found_within : (at : ℕ) → Within s at (found_from v s at)
  unfolding found_in
  found_within at =
      subst (Within s at) (sym (found_start v s at (past_breaks at (drop at s)) refl))
      (within_earlier s at (past_breaks at (drop at s)) (skipped v at (drop at s)).low _
      (found_row (segments_from v s (past_breaks at (drop at s))) (row (segments_from v s (past_breaks at (drop at s))) (past_breaks at (drop at s)) refl)))

  -- ---- what is counted
  few_by : (k : Kind) (m : Extent) (on : List Extent) (n : ℕ) → length on ≤ n → length (messages_by k m on) ≤ suc n
  few_by head m on n h = omega arith
  few_by trailer m on n h = omega arith
  few_by last m on n h = omega arith
  few_by other m on n h = omega arith
  few_by cut m on n h = omega arith

  few_messages : (l : List Piece) → length (messages_of v s l) ≤ length l
  unfolding messages_of
  few_messages [] = omega arith
  few_messages (p ∷ l) = few_by (kind_of v s p l) (extent_of v s _ l) (messages_of v s l) (length l) (few_messages l)

  few_stray : (k : Kind) (r : Bool) (p : Piece) (on : List Piece) (n : ℕ) → length on ≤ n → length (stray_by k r p on) ≤ suc n
  few_stray head r p on n h = omega arith
  few_stray trailer true p on n h = omega arith
  few_stray trailer false p on n h = omega arith
  few_stray last r p on n h = omega arith
  few_stray other true p on n h = omega arith
  few_stray other false p on n h = omega arith
  few_stray cut r p on n h = omega arith

  few_strays : (r : Bool) (l : List Piece) → length (strays_of v s r l) ≤ length l
  unfolding strays_of
  few_strays r [] = omega arith
  few_strays r (p ∷ l) = few_stray (kind_of v s p l) r p _ (length l) (few_strays (stays (kind_of v s p l) r) l)

  few_row : {lo : ℕ} {l : List Piece} → Row (length s) lo l → lo ≤ length s → length l + lo ≤ length s
  few_row (nil lo) h = omega arith
  few_row (more lo a t on l p q r o w) h = let z = few_row w o in omega arith
  few_row (cut_off lo a e p q) h = omega arith

  few_body : {lo : ℕ} {l : List Piece} → Row (length s) lo l → length (after_first l) ≤ length s
  few_body (nil lo) = omega arith
  few_body (more lo a t on l p q r o w) = let z = few_row w o in omega arith
  few_body (cut_off lo a e p q) = omega arith

-- ---- an interchange that opens has at most 1,048,576 bytes
pub opened_short : (s : List ℕ) (o : Opening) → OpenedAs s o → (v : Service) (first : ℕ) → o ≡ Opens v first → length s ≤ 1048576
opened_short s o w v first e = (opened s v first (sym (opening_is s o w) ∙ e)).short

-- "at most 1,048,576 bytes": no more messages and strays than bytes where the interchange opens, and none where it does not
pub record Few (c : code.Closing) : Type 0 where
  pub messages : c.messages ≤ 1048576
  pub strays : c.strays ≤ 1048576

pub few_counted : (s : List ℕ) (v : Service) (first : ℕ) → Opened s v first → (message_count v s first ≤ 1048576) × (stray_count v s first ≤ 1048576)
few_counted s v first o =
    let h = o.short in
    let l = few_body v s (row v s (segments_from v s first) first refl) in
    let m = few_messages v s (after_first (segments_from v s first)) in
    let k = few_strays v s false (after_first (segments_from v s first)) in
    (omega arith, omega arith)

pub closing_small : (s : List ℕ) {c : Closing} → ClosedAs s c → IfOk c Few
closing_small s (unopened n l) = tt
closing_small s (closes v first n o l) = let w = few_counted s v first o in record { messages = omega arith; strays = omega arith }
